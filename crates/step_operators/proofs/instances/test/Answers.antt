use Rattle.std.proofs.Common.{refl, sym, ap, ap₂, subst, ◌∙◌, [], ◌∷◌, ◌++◌, ◌+◌, ◌≡◌, map, length, arith, Ok}
use Rattle.std.specs.List.{All}
use Rattle.flow_policy.specs.Policies.{no_tables}
use Rattle.js_values.specs.Readings.{HasValue, read_value}
use Rattle.flow_meaning.specs.Tracked.{labelled}
use Rattle.continuations.specs.declared.continuation.Control.TheVariants as control
use Rattle.continuations.specs.declared.continuation.Continuation.TheVariants as continuation
use Rattle.step_references.proofs.Begun.{begun_as, begun_above, begun_comes, begun_handed, begun_pushed, begun_on, begun_off, begun_err, on_is, resumed}
use Rattle.step_references.proofs.Moved.{has_on, has_whatever, level_on, moved_behind, moved_lying, moved_off, moved_on, moved_popped, moved_pushed, moved_within, rests_lying, stack_is, stands_still, stood}
use Rattle.step_references.proofs.Loose.{front_has, lone, none_has, only, second_has, size_below, two_lie}
use Rattle.continuations.proofs.EndLaws.{last_has}
use Rattle.step_operators.proofs.OperatorLaws.{none_built}
use Rattle.continuations.specs.Pending.{first_or_undefined}
use Rattle.continuations.proofs.BranchLaws.{none_in_front}
use Rattle.step_objects.specs.Instances.{HasTest, read_test, tests_on}
use Rattle.step_objects.proofs.Frames.{is_instance_stands, tested_stands}
use Rattle.continuations.specs.Settings.{entrance}
use Rattle.origin_labels.proofs.StoreLaws.{IsKept-refl}
use Rattle.step_operators.proofs.OperatorLaws.{tested_as}
use Rattle.step_operators.proofs.instances.test.Goals as goal

pub go_on-requires-clause-loose : goal.go_on-requires-clause-loose
go_on-requires-clause-loose g c = sym c.requires.loose

pub go_on-requires-clause-made : goal.go_on-requires-clause-made
go_on-requires-clause-made g c = has_whatever (HasTest (g.L.Labels.made c.instance-answer.new.labels)) (g.L.Labels.made c.instance-answer.new.labels) c.instance-answer.result c.instance-answer.ensures.made

pub returns-in-On-clause-goes_on : goal.returns-in-On-clause-goes_on
returns-in-On-clause-goes_on g c = begun_on (λ tables inputs set functions reading f. tests_on functions (entrance tables inputs set functions)) c.instance-answer.ensures.acts (λ tables inputs set functions reading f s is. tested_as tables inputs set functions c.testing_instances.ensures (read_value reading c.args.left) (read_value reading c.args.right) s) _ _ _ c.in-On.test (IsKept-refl g.L.Labels.made g.L.Labels.meaning g.L.Labels.room g.L.Labels.firm c.instance-answer.new.labels) (rw c.in-On.is at c.in_ok-came.ensures.parts) refl (begun_comes c.go_on.new.stack c.in_ok-next-in-On.ensures.goes_on refl (λ tables inputs set functions reading f s is. refl))

pub returns-in-On-clause-moved : goal.returns-in-On-clause-moved
returns-in-On-clause-moved g c = moved_on _ _ _ _ _ _ _ _ _ (Ok c.in_ok-next-in-On.next) (omega arith) (ap (λ m. m.tasks) (on_is _ c.args.stack.now c.go_on.new.stack c.instance-answer.result c.in-On.test (rw c.in-On.is at c.in_ok-came.ensures.parts)).1) (level_on _ c.args.world.now c.instance-answer.new.world c.args.stack.now c.go_on.new.stack c.instance-answer.result c.in-On.test (stood c.instance-answer.ensures.acts (λ s. tested_stands (read_value (g.L.Labels.meaning c.instance-answer.new.labels) c.args.left) (g.L.Labels.meaning c.instance-answer.new.labels c.args.right.label) c.args.right.value s)) (rw c.in-On.is at c.in_ok-came.ensures.parts)) (c.in_ok-next-in-On.ensures.moved c.instance-answer.new.world)

pub returns-clause-goes_on : goal.returns-clause-goes_on
returns-clause-goes_on g c = begun_off (λ tables inputs set functions reading f. tests_on functions (entrance tables inputs set functions)) c.instance-answer.ensures.acts (λ tables inputs set functions reading f s is. tested_as tables inputs set functions c.testing_instances.ensures (read_value reading c.args.left) (read_value reading c.args.right) s) _ _ (rw c.in-Off.is at c.in_ok-came.ensures.parts) refl

pub returns-clause-moved : goal.returns-clause-moved
returns-clause-moved g c = moved_off c.args.stack.now c.go_on.new.stack c.instance-answer.result c.in-Off.next (omega arith) (has_whatever (HasTest (g.L.Labels.made c.instance-answer.new.labels)) (g.L.Labels.made c.instance-answer.new.labels) c.instance-answer.result c.instance-answer.ensures.made) (stood c.instance-answer.ensures.acts (λ s. tested_stands (read_value (g.L.Labels.meaning c.instance-answer.new.labels) c.args.left) (g.L.Labels.meaning c.instance-answer.new.labels c.args.right.label) c.args.right.value s)) (rw c.in-Off.is at c.in_ok-came.ensures.parts)

pub returns-in_err-came-clause-goes_on : goal.returns-in_err-came-clause-goes_on
returns-in_err-came-clause-goes_on g c = begun_err (λ tables inputs set functions reading f. tests_on functions (entrance tables inputs set functions)) c.instance-answer.ensures.acts (λ tables inputs set functions reading f s is. tested_as tables inputs set functions c.testing_instances.ensures (read_value reading c.args.left) (read_value reading c.args.right) s) _ _ _ c.in_err-came.field-0.0 c.in_err-came.ensures.parts refl c.from_residual.ensures.1

pub read_prototype-requires-clause-loose : goal.read_prototype-requires-clause-loose
read_prototype-requires-clause-loose g c = ap (λ m. length m.loose) (on_is _ c.args.stack.now c.go_on.new.stack c.instance-answer.result c.in-On.test (rw c.in-On.is at c.in_ok-came.ensures.parts)).1 ∙ c.requires.loose

pub read_prototype-requires-clause-made : goal.read_prototype-requires-clause-made
read_prototype-requires-clause-made g c = has_on (g.L.Labels.made c.instance-answer.new.labels) (HasTest (g.L.Labels.made c.instance-answer.new.labels)) c.args.stack.now c.go_on.new.stack c.instance-answer.result c.in-On.test c.instance-answer.ensures.made (rw c.in-On.is at c.in_ok-came.ensures.parts)
