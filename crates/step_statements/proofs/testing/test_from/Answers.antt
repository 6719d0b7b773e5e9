use Rattle.std.proofs.Common.{◌≡◌, ◌∙◌, ap, subst, Some}
use Rattle.js_values.specs.Readings.{read_value}
use Rattle.std.proofs.Common.{map}
use Rattle.continuations.specs.declared.continuation.Control.TheVariants as control
use Rattle.continuations.specs.declared.continuation.Continuation.TheVariants as continuation
use Rattle.continuations.specs.Pending.{behind, setting_above, first_or_undefined}
use Rattle.step_statements.specs.Clauses.{found_test, testing}
use Rattle.step_statements.proofs.Pushed.{pushed_plan}
use Rattle.step_statements.proofs.testing.test_from.Goals as goal

pub returns-clause-goes_on : goal.returns-clause-goes_on
returns-clause-goes_on g c = λ tables inputs set functions reading e s.
    let f = (setting_above c.args.stack.now.tasks e).env in
    let v = first_or_undefined (map (read_value reading) c.args.stack.now.loose) in
    pushed_plan tables inputs set functions reading (continuation.Compared c.args.all c.in-Some.test.number) (control.Expr c.in-Some.test.test) c.args.stack.now c.push.new.self e s c.in_ok-push.ensures.ok
    ∙ ap (behind tables inputs set functions reading c.args.stack.now.tasks e)
    (subst (λ xs. found_test tables inputs set functions xs (Some c.in-Some.test) v f s ≡ testing tables inputs set functions xs c.args.from v f s) c.items.ensures
    (subst (λ o. found_test tables inputs set functions c.items.result.now o v f s ≡ testing tables inputs set functions c.items.result.now c.args.from v f s) c.in-Some.is (c.in_ok-test.ensures tables inputs set functions v f s)))
