use Rattle.std.proofs.Common.{◌∙◌, ap, length, not, sym}
use Rattle.std.proofs.lemmas.Bool.{ltb-true}
use Rattle.std.proofs.lemmas.List.{take_rest}
use Rattle.step_statements.proofs.TestLaws.{case_found, default_compared, none_compared}
use Rattle.step_statements.proofs.clauses.case_from.Goals as goal

pub returns-in_default-clause-none : goal.returns-in_default-clause-none
returns-in_default-clause-none c = λ tables inputs set functions v u e s.
    none_compared tables inputs set functions e c.args.clauses.now c.args.number v u s c.in_default.ensures.lookup.3

pub returns-then-is_none-clause-none : goal.returns-then-is_none-clause-none
returns-then-is_none-clause-none c = λ tables inputs set functions v u e s.
    default_compared tables inputs set functions e c.args.clauses.now c.args.number c.in-Some.clause.now v u s (ltb-true c.args.number (length c.args.clauses.now) (sym c.in-Some.ensures.lookup.0)) c.in-Some.ensures.lookup.1 (c.is_none.ensures ∙ ap not c.if-is_none.true)

pub returns-clause-found : goal.returns-clause-found
returns-clause-found c = λ tables inputs set functions v u equal e s is.
    case_found tables inputs set functions e c.args.clauses.now _ c.args.number c.in-Some.clause.now v u equal s (ltb-true c.args.number (length c.args.clauses.now) (sym c.in-Some.ensures.lookup.0)) c.in-Some.ensures.lookup.1 (c.is_none.ensures ∙ ap not c.if-is_none.false) (take_rest c.args.clauses.now c.args.number) is
