use Rattle.std.proofs.Common.{refl, sym, ap, ap₂, subst, ◌∙◌, [], ◌∷◌, ◌++◌, ◌+◌, ◌≡◌, map, length, arith, Ok}
use Rattle.std.specs.List.{All}
use Rattle.flow_policy.specs.Policies.{no_tables}
use Rattle.js_values.specs.Readings.{HasValue, read_value}
use Rattle.flow_meaning.specs.Tracked.{labelled}
use Rattle.continuations.specs.declared.continuation.Control.TheVariants as control
use Rattle.continuations.specs.declared.continuation.Continuation.TheVariants as continuation
use Rattle.step_references.proofs.Begun.{begun_as, begun_above, begun_comes, begun_handed, begun_pushed, begun_on, begun_off, begun_err, on_is, resumed}
use Rattle.step_references.proofs.Moved.{has_on, has_whatever, level_on, moved_behind, moved_lying, moved_off, moved_on, moved_popped, moved_pushed, moved_within, rests_lying, stack_is, stands_still, stood}
use Rattle.step_references.proofs.Loose.{front_has, lone, none_has, only, second_has, size_below, two_lie}
use Rattle.continuations.proofs.EndLaws.{last_has}
use Rattle.step_operators.proofs.OperatorLaws.{none_built}
use Rattle.continuations.specs.Pending.{first_or_undefined}
use Rattle.continuations.proofs.BranchLaws.{none_in_front}
use Rattle.step_objects.specs.Instances.{HasTest, read_test, tests_on}
use Rattle.step_objects.proofs.Frames.{is_instance_stands, tested_stands}
use Rattle.continuations.specs.Settings.{entrance}
use Rattle.origin_labels.specs.Label.{union}
use Rattle.es_meaning.specs.Plain.{object_or_default}
use Rattle.step_operators.proofs.OperatorLaws.{instance_as}
use Rattle.step_operators.proofs.instances.look_up.Goals as goal

pub returns-clause-goes_on : goal.returns-clause-goes_on
returns-clause-goes_on g c = begun_handed (rw c.object_in-number.ensures at c.instance_of-answer.ensures.acts) c.hand_on.ensures.hands refl (λ tables inputs set functions reading f s is. instance_as tables inputs set functions (reading c.args.object.label) (object_or_default c.args.object.value).0 (read_value reading c.args.proto) s)

pub returns-clause-moved : goal.returns-clause-moved
returns-clause-moved g c = c.hand_on.ensures.moved c.args.world.now c.instance_of-answer.new.world (stood c.instance_of-answer.ensures.acts (λ s. is_instance_stands (union (g.L.Labels.meaning c.instance_of-answer.new.labels c.args.object.label) (g.L.Labels.meaning c.instance_of-answer.new.labels c.args.proto.label)) c.object_in-number.result.0 c.args.proto.value s))
