use Rattle.std.proofs.Common.{◌∙◌, ◌≤◌, length, sym}
use Rattle.std.proofs.lemmas.Bool.{ltb-true}
use Rattle.std.proofs.lemmas.List.{nil_from_length}
use Rattle.step_statements.proofs.FallLaws.{falls_at, falls_behind, falls_none}
use Rattle.step_statements.proofs.clauses.next_statement.Goals as goal

pub returns-in-Some-get : goal.returns-in-Some-get
returns-in-Some-get c = λ tables inputs set functions e s.
    falls_at tables inputs set functions e c.loop-clause.number c.in-Some.clause.now c.in-Some.others.now c.loop-clause.left.now c.items.result.now c.in-Some-get.statement.now s c.in-Some.ensures.cases.0 c.items.ensures (ltb-true c.loop-clause.number (length c.items.result.now) (sym c.in-Some-get.ensures.lookup.0)) c.in-Some-get.ensures.lookup.1
    ∙ c.loop-clause.invariant tables inputs set functions e s

pub loop-clause-preserved : goal.loop-clause-preserved
loop-clause-preserved c = λ tables inputs set functions e s.
    let past : length c.items.result.now ≤ c.loop-clause.number = c.in_default-get.ensures.lookup.3 in
    falls_behind tables inputs set functions e c.loop-clause.number c.in-Some.clause.now c.in-Some.others.now c.loop-clause.left.now c.items.result.now s c.in-Some.ensures.cases.0 c.items.ensures past
    ∙ c.loop-clause.invariant tables inputs set functions e s

pub returns : goal.returns
returns c = λ tables inputs set functions e s. falls_none tables inputs set functions e c.loop-clause.number c.loop-clause.left.now s (nil_from_length c.loop-clause.left.now c.in_default.ensures.cases) ∙ c.loop-clause.invariant tables inputs set functions e s
