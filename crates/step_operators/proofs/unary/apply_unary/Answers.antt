use Rattle.std.proofs.Common.{refl, sym, ap, ap₂, subst, ◌∙◌, [], ◌∷◌, ◌++◌, ◌+◌, ◌≡◌, map, length, arith, Ok}
use Rattle.std.specs.List.{All}
use Rattle.flow_policy.specs.Policies.{no_tables}
use Rattle.js_values.specs.Readings.{HasValue, read_value}
use Rattle.flow_meaning.specs.Tracked.{labelled}
use Rattle.continuations.specs.declared.continuation.Control.TheVariants as control
use Rattle.continuations.specs.declared.continuation.Continuation.TheVariants as continuation
use Rattle.step_references.proofs.Begun.{begun_as, begun_above, begun_comes, begun_handed, begun_pushed, begun_on, begun_off, begun_err, on_is, resumed}
use Rattle.step_references.proofs.Moved.{has_on, has_whatever, level_on, moved_behind, moved_lying, moved_off, moved_on, moved_popped, moved_pushed, moved_within, rests_lying, stack_is, stands_still, stood}
use Rattle.step_references.proofs.Loose.{front_has, lone, none_has, only, second_has, size_below, two_lie}
use Rattle.continuations.proofs.EndLaws.{last_has}
use Rattle.step_operators.proofs.OperatorLaws.{none_built}
use Rattle.js_ast.specs.declared.operators.UnaryOperator.TheVariants as unary_operator
use Rattle.native_protocol.specs.declared.hint.Hint.TheVariants as hint
use Rattle.es_meaning.specs.Evaluation.{primitive_left}
use Rattle.flow_meaning.specs.Planned.{planned}
use Rattle.run_state.proofs.ActLaws.{Acts-computes}
use Rattle.origin_labels.proofs.StoreLaws.{IsKept-refl}
use Rattle.continuations.specs.Settings.{entrance}
use Rattle.step_objects.proofs.Frames.{unary_stands}
use Rattle.continuations.specs.Pending.{first_or_undefined}
use Rattle.continuations.proofs.BranchLaws.{none_in_front}
use Rattle.step_operators.proofs.OperatorLaws.{unary_as, applied_unary, unary_has}
use Rattle.step_operators.proofs.unary.apply_unary.Goals as goal

pub hand_on-requires-clause-made : goal.hand_on-requires-clause-made
hand_on-requires-clause-made g c = unary_has (g.L.Labels.made c.args.labels.now) c.args.value.now.label c.unary-answer.result c.unary-answer.ensures.label c.requires.value

pub returns-clause-goes_on : goal.returns-clause-goes_on
returns-clause-goes_on g c = begun_handed (Acts-computes g.L.Labels.made g.L.Labels.meaning c.args.labels.now (λ reading. read_value reading) (λ reading. (labelled no_tables [] none_built []).unary c.args.operator (read_value reading c.args.value.now)) c.args.world.now c.unary-answer.result (c.unary-answer.ensures.computes no_tables [] none_built [])) c.hand_on.ensures.hands refl (λ tables inputs set functions reading f s is. applied_unary tables inputs set functions c.args.operator (read_value reading c.args.value.now) s)

pub returns-clause-moved : goal.returns-clause-moved
returns-clause-moved g c = c.hand_on.ensures.moved c.args.world.now c.args.world.now (stood (Acts-computes g.L.Labels.made g.L.Labels.meaning c.args.labels.now (λ reading. read_value reading) (λ reading. (labelled no_tables [] none_built []).unary c.args.operator (read_value reading c.args.value.now)) c.args.world.now c.unary-answer.result (c.unary-answer.ensures.computes no_tables [] none_built [])) (λ s. unary_stands no_tables [] none_built [] c.args.operator (read_value (g.L.Labels.meaning c.args.labels.now) c.args.value.now) s))
