use Rattle.std.proofs.Common.{refl, sym, ap, ap₂, subst, ◌∙◌, [], ◌∷◌, ◌++◌, ◌+◌, ◌≡◌, map, length, arith, Ok}
use Rattle.std.specs.List.{All}
use Rattle.flow_policy.specs.Policies.{no_tables}
use Rattle.js_values.specs.Readings.{HasValue, read_value}
use Rattle.flow_meaning.specs.Tracked.{labelled}
use Rattle.continuations.specs.declared.continuation.Control.TheVariants as control
use Rattle.continuations.specs.declared.continuation.Continuation.TheVariants as continuation
use Rattle.step_references.proofs.Begun.{begun_as, begun_above, begun_comes, begun_handed, begun_pushed, begun_on, begun_off, begun_err, on_is, resumed}
use Rattle.step_references.proofs.Moved.{has_on, has_whatever, level_on, moved_behind, moved_lying, moved_off, moved_on, moved_popped, moved_pushed, moved_within, rests_lying, stack_is, stands_still, stood}
use Rattle.step_references.proofs.Loose.{front_has, lone, none_has, only, second_has, size_below, two_lie}
use Rattle.continuations.proofs.EndLaws.{last_has}
use Rattle.step_operators.proofs.OperatorLaws.{none_built}
use Rattle.js_ast.specs.declared.operators.UnaryOperator.TheVariants as unary_operator
use Rattle.native_protocol.specs.declared.hint.Hint.TheVariants as hint
use Rattle.es_meaning.specs.Evaluation.{primitive_left}
use Rattle.flow_meaning.specs.Planned.{planned}
use Rattle.run_state.proofs.ActLaws.{Acts-computes}
use Rattle.origin_labels.proofs.StoreLaws.{IsKept-refl}
use Rattle.continuations.specs.Settings.{entrance}
use Rattle.step_objects.proofs.Frames.{unary_stands}
use Rattle.step_operators.proofs.OperatorLaws.{number_on, unary_has}
use Rattle.step_operators.proofs.converted.make_number.Goals as goal

pub go_on-requires-clause-loose : goal.go_on-requires-clause-loose
go_on-requires-clause-loose g c = sym c.requires.loose

pub go_on-requires-clause-made : goal.go_on-requires-clause-made
go_on-requires-clause-made g c = has_whatever (HasValue (g.L.Labels.made c.args.labels.now)) (g.L.Labels.made c.args.labels.now) c.unary-answer.result (unary_has (g.L.Labels.made c.args.labels.now) c.args.left.label c.unary-answer.result c.unary-answer.ensures.label c.requires.left)

pub returns-in-On-clause-goes_on : goal.returns-in-On-clause-goes_on
returns-in-On-clause-goes_on g c = begun_on (λ tables inputs set functions reading f. primitive_left (planned tables inputs set functions) (entrance tables inputs set functions) hint.Number c.args.operator (read_value reading c.args.right)) (Acts-computes g.L.Labels.made g.L.Labels.meaning c.args.labels.now (λ reading. read_value reading) (λ reading. (labelled no_tables [] none_built []).unary unary_operator.Plus (read_value reading c.args.left)) c.args.world.now c.unary-answer.result (c.unary-answer.ensures.computes no_tables [] none_built [])) (λ tables inputs set functions reading f s is. number_on tables inputs set functions c.args.operator (read_value reading c.args.left) (read_value reading c.args.right) s) _ _ _ c.in-On.number (IsKept-refl g.L.Labels.made g.L.Labels.meaning g.L.Labels.room g.L.Labels.firm c.args.labels.now) (rw c.in-On.is at c.in_ok-came.ensures.parts) refl c.in_ok-next-in-On.ensures.goes_on

pub returns-in-On-clause-moved : goal.returns-in-On-clause-moved
returns-in-On-clause-moved g c = moved_on _ _ _ _ _ _ _ _ _ (Ok c.in_ok-next-in-On.next) (omega arith) (ap (λ m. m.tasks) (on_is _ c.args.stack.now c.go_on.new.stack c.unary-answer.result c.in-On.number (rw c.in-On.is at c.in_ok-came.ensures.parts)).1) (level_on _ c.args.world.now c.args.world.now c.args.stack.now c.go_on.new.stack c.unary-answer.result c.in-On.number (stood (Acts-computes g.L.Labels.made g.L.Labels.meaning c.args.labels.now (λ reading. read_value reading) (λ reading. (labelled no_tables [] none_built []).unary unary_operator.Plus (read_value reading c.args.left)) c.args.world.now c.unary-answer.result (c.unary-answer.ensures.computes no_tables [] none_built [])) (λ s. unary_stands no_tables [] none_built [] unary_operator.Plus (read_value (g.L.Labels.meaning c.args.labels.now) c.args.left) s)) (rw c.in-On.is at c.in_ok-came.ensures.parts)) c.in_ok-next-in-On.ensures.moved

pub returns-clause-goes_on : goal.returns-clause-goes_on
returns-clause-goes_on g c = begun_off (λ tables inputs set functions reading f. primitive_left (planned tables inputs set functions) (entrance tables inputs set functions) hint.Number c.args.operator (read_value reading c.args.right)) (Acts-computes g.L.Labels.made g.L.Labels.meaning c.args.labels.now (λ reading. read_value reading) (λ reading. (labelled no_tables [] none_built []).unary unary_operator.Plus (read_value reading c.args.left)) c.args.world.now c.unary-answer.result (c.unary-answer.ensures.computes no_tables [] none_built [])) (λ tables inputs set functions reading f s is. number_on tables inputs set functions c.args.operator (read_value reading c.args.left) (read_value reading c.args.right) s) _ _ (rw c.in-Off.is at c.in_ok-came.ensures.parts) refl

pub returns-clause-moved : goal.returns-clause-moved
returns-clause-moved g c = moved_off c.args.stack.now c.go_on.new.stack c.unary-answer.result c.in-Off.next (omega arith) (has_whatever (HasValue (g.L.Labels.made c.args.labels.now)) (g.L.Labels.made c.args.labels.now) c.unary-answer.result (unary_has (g.L.Labels.made c.args.labels.now) c.args.left.label c.unary-answer.result c.unary-answer.ensures.label c.requires.left)) (stood (Acts-computes g.L.Labels.made g.L.Labels.meaning c.args.labels.now (λ reading. read_value reading) (λ reading. (labelled no_tables [] none_built []).unary unary_operator.Plus (read_value reading c.args.left)) c.args.world.now c.unary-answer.result (c.unary-answer.ensures.computes no_tables [] none_built [])) (λ s. unary_stands no_tables [] none_built [] unary_operator.Plus (read_value (g.L.Labels.meaning c.args.labels.now) c.args.left) s)) (rw c.in-Off.is at c.in_ok-came.ensures.parts)

pub returns-in_err-came-clause-goes_on : goal.returns-in_err-came-clause-goes_on
returns-in_err-came-clause-goes_on g c = begun_err (λ tables inputs set functions reading f. primitive_left (planned tables inputs set functions) (entrance tables inputs set functions) hint.Number c.args.operator (read_value reading c.args.right)) (Acts-computes g.L.Labels.made g.L.Labels.meaning c.args.labels.now (λ reading. read_value reading) (λ reading. (labelled no_tables [] none_built []).unary unary_operator.Plus (read_value reading c.args.left)) c.args.world.now c.unary-answer.result (c.unary-answer.ensures.computes no_tables [] none_built [])) (λ tables inputs set functions reading f s is. number_on tables inputs set functions c.args.operator (read_value reading c.args.left) (read_value reading c.args.right) s) _ _ _ c.in_err-came.field-0.0 c.in_err-came.ensures.parts refl c.from_residual.ensures.1

pub convert_right-requires-clause-loose : goal.convert_right-requires-clause-loose
convert_right-requires-clause-loose g c = ap (λ m. length m.loose) (on_is _ c.args.stack.now c.go_on.new.stack c.unary-answer.result c.in-On.number (rw c.in-On.is at c.in_ok-came.ensures.parts)).1 ∙ c.requires.loose

pub convert_right-requires-clause-left : goal.convert_right-requires-clause-left
convert_right-requires-clause-left g c = has_on (g.L.Labels.made c.args.labels.now) (HasValue (g.L.Labels.made c.args.labels.now)) c.args.stack.now c.go_on.new.stack c.unary-answer.result c.in-On.number (unary_has (g.L.Labels.made c.args.labels.now) c.args.left.label c.unary-answer.result c.unary-answer.ensures.label c.requires.left) (rw c.in-On.is at c.in_ok-came.ensures.parts)
