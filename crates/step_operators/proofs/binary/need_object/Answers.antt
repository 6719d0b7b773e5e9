use Rattle.std.proofs.Common.{refl, sym, ap, ap₂, subst, ◌∙◌, [], ◌∷◌, ◌++◌, ◌+◌, ◌≡◌, map, length, arith, Ok}
use Rattle.std.specs.List.{All}
use Rattle.flow_policy.specs.Policies.{no_tables}
use Rattle.js_values.specs.Readings.{HasValue, read_value}
use Rattle.flow_meaning.specs.Tracked.{labelled}
use Rattle.continuations.specs.declared.continuation.Control.TheVariants as control
use Rattle.continuations.specs.declared.continuation.Continuation.TheVariants as continuation
use Rattle.step_references.proofs.Begun.{begun_as, begun_above, begun_comes, begun_handed, begun_pushed, begun_on, begun_off, begun_err, on_is, resumed}
use Rattle.step_references.proofs.Moved.{has_on, has_whatever, level_on, moved_behind, moved_lying, moved_off, moved_on, moved_popped, moved_pushed, moved_within, rests_lying, stack_is, stands_still, stood}
use Rattle.step_references.proofs.Loose.{front_has, lone, none_has, only, second_has, size_below, two_lie}
use Rattle.continuations.proofs.EndLaws.{last_has}
use Rattle.step_operators.proofs.OperatorLaws.{none_built}
use Rattle.origin_labels.proofs.StoreLaws.{IsKept-refl}
use Rattle.es_meaning.specs.Operations.{object_needed}
use Rattle.es_meaning.specs.Evaluation.{has_right}
use Rattle.flow_meaning.specs.Planned.{planned}
use Rattle.continuations.specs.Settings.{entrance}
use Rattle.step_objects.proofs.Frames.{act_stands}
use Rattle.step_operators.proofs.OperatorLaws.{needed_as}
use Rattle.step_operators.proofs.binary.need_object.Goals as goal

pub go_on-requires-clause-loose : goal.go_on-requires-clause-loose
go_on-requires-clause-loose g c = sym c.requires.loose

pub go_on-requires-clause-made : goal.go_on-requires-clause-made
go_on-requires-clause-made g c = has_whatever (HasValue (g.L.Labels.made c.object_needed-answer.new.labels)) (g.L.Labels.made c.object_needed-answer.new.labels) c.object_needed-answer.result c.object_needed-answer.ensures.made

pub returns-in_ok-next-in-On-clause-goes_on : goal.returns-in_ok-next-in-On-clause-goes_on
returns-in_ok-next-in-On-clause-goes_on g c = begun_on (λ tables inputs set functions reading f. has_right (planned tables inputs set functions) (entrance tables inputs set functions) (read_value reading c.args.left)) (c.object_needed-answer.ensures.acts no_tables []) (λ tables inputs set functions reading f s is. needed_as tables inputs set functions (read_value reading c.args.left) (read_value reading c.args.right) s) _ _ _ c.in-On.object (IsKept-refl g.L.Labels.made g.L.Labels.meaning g.L.Labels.room g.L.Labels.firm c.object_needed-answer.new.labels) (rw c.in-On.is at c.in_ok-came.ensures.parts) refl c.in_ok-next-in-On.ensures.goes_on

pub returns-in_ok-next-in-On-clause-moved : goal.returns-in_ok-next-in-On-clause-moved
returns-in_ok-next-in-On-clause-moved g c = moved_on _ _ _ _ _ _ _ _ _ (Ok c.in_ok-next-in-On.next) (omega arith) (ap (λ m. m.tasks) (on_is _ c.args.stack.now c.go_on.new.stack c.object_needed-answer.result c.in-On.object (rw c.in-On.is at c.in_ok-came.ensures.parts)).1) (level_on _ c.args.world.now c.object_needed-answer.new.world c.args.stack.now c.go_on.new.stack c.object_needed-answer.result c.in-On.object (stood (c.object_needed-answer.ensures.acts no_tables []) (λ s. act_stands no_tables [] object_needed (read_value (g.L.Labels.meaning c.object_needed-answer.new.labels) c.args.right ∷ []) s)) (rw c.in-On.is at c.in_ok-came.ensures.parts)) c.in_ok-next-in-On.ensures.moved

pub returns-in-Off-clause-goes_on : goal.returns-in-Off-clause-goes_on
returns-in-Off-clause-goes_on g c = begun_off (λ tables inputs set functions reading f. has_right (planned tables inputs set functions) (entrance tables inputs set functions) (read_value reading c.args.left)) (c.object_needed-answer.ensures.acts no_tables []) (λ tables inputs set functions reading f s is. needed_as tables inputs set functions (read_value reading c.args.left) (read_value reading c.args.right) s) _ _ (rw c.in-Off.is at c.in_ok-came.ensures.parts) refl

pub returns-in-Off-clause-moved : goal.returns-in-Off-clause-moved
returns-in-Off-clause-moved g c = moved_off c.args.stack.now c.go_on.new.stack c.object_needed-answer.result c.in-Off.next (omega arith) (has_whatever (HasValue (g.L.Labels.made c.object_needed-answer.new.labels)) (g.L.Labels.made c.object_needed-answer.new.labels) c.object_needed-answer.result c.object_needed-answer.ensures.made) (stood (c.object_needed-answer.ensures.acts no_tables []) (λ s. act_stands no_tables [] object_needed (read_value (g.L.Labels.meaning c.object_needed-answer.new.labels) c.args.right ∷ []) s)) (rw c.in-Off.is at c.in_ok-came.ensures.parts)

pub returns-in_err-came-clause-goes_on : goal.returns-in_err-came-clause-goes_on
returns-in_err-came-clause-goes_on g c = begun_err (λ tables inputs set functions reading f. has_right (planned tables inputs set functions) (entrance tables inputs set functions) (read_value reading c.args.left)) (c.object_needed-answer.ensures.acts no_tables []) (λ tables inputs set functions reading f s is. needed_as tables inputs set functions (read_value reading c.args.left) (read_value reading c.args.right) s) _ _ _ c.in_err-came.field-0.0 c.in_err-came.ensures.parts refl c.from_residual.ensures.1

pub convert_key-requires-clause-loose : goal.convert_key-requires-clause-loose
convert_key-requires-clause-loose g c = ap (λ m. length m.loose) (on_is _ c.args.stack.now c.go_on.new.stack c.object_needed-answer.result c.in-On.object (rw c.in-On.is at c.in_ok-came.ensures.parts)).1 ∙ c.requires.loose

pub convert_key-requires-clause-key : goal.convert_key-requires-clause-key
convert_key-requires-clause-key g c = (c.object_needed-answer.ensures.kept.labels c.args.left.label c.requires.left).0

pub convert_key-requires-clause-object : goal.convert_key-requires-clause-object
convert_key-requires-clause-object g c = has_on (g.L.Labels.made c.object_needed-answer.new.labels) (HasValue (g.L.Labels.made c.object_needed-answer.new.labels)) c.args.stack.now c.go_on.new.stack c.object_needed-answer.result c.in-On.object c.object_needed-answer.ensures.made (rw c.in-On.is at c.in_ok-came.ensures.parts)
