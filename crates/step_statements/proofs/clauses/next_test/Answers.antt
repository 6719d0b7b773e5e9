use Rattle.std.proofs.Common.{◌∙◌, length, sym}
use Rattle.std.proofs.lemmas.Bool.{ltb-true}
use Rattle.step_statements.proofs.TestLaws.{default_passed, test_found, tests_end}
use Rattle.step_statements.proofs.clauses.next_test.Goals as goal

pub returns-in-Some-test : goal.returns-in-Some-test
returns-in-Some-test c = λ tables inputs set functions v e s.
    test_found tables inputs set functions e c.args.clauses.now c.loop-clause.number c.in-Some.clause.now c.in-Some-test.test v s (ltb-true c.loop-clause.number (length c.args.clauses.now) (sym c.in-Some.ensures.lookup.0)) c.in-Some.ensures.lookup.1 c.in-Some-test.is
    ∙ c.loop-clause.invariant tables inputs set functions v e s

pub loop-clause-preserved : goal.loop-clause-preserved
loop-clause-preserved c = λ tables inputs set functions v e s.
    default_passed tables inputs set functions e c.args.clauses.now c.loop-clause.number c.in_ok-number.number c.in-Some.clause.now v s (ltb-true c.loop-clause.number (length c.args.clauses.now) (sym c.in-Some.ensures.lookup.0)) c.in-Some.ensures.lookup.1 c.in_default-test.is c.in_ok-number.ensures
    ∙ c.loop-clause.invariant tables inputs set functions v e s

pub returns : goal.returns
returns c = λ tables inputs set functions v e s.
    tests_end tables inputs set functions e c.args.clauses.now c.loop-clause.number v s c.in_default.ensures.lookup.3
    ∙ c.loop-clause.invariant tables inputs set functions v e s
