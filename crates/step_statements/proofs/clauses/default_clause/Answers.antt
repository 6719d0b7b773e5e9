use Rattle.std.proofs.Common.{◌∙◌, ap, not}
use Rattle.step_statements.proofs.TestLaws.{default_found}
use Rattle.step_statements.proofs.clauses.default_clause.Goals as goal

pub returns-then-is_none : goal.returns-then-is_none
returns-then-is_none c = λ tables inputs set functions e s.
    default_found tables inputs set functions e c.in-Some.clause.now c.in-Some.others.now _ s c.in-Some.ensures.cases.0 (c.is_none.ensures ∙ ap not c.if-is_none.true) ∙ c.loop-clause.invariant tables inputs set functions e s
