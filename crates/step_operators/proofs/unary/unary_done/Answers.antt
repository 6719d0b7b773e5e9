use Rattle.std.proofs.Common.{refl, sym, ap, ap₂, subst, ◌∙◌, [], ◌∷◌, ◌++◌, ◌+◌, ◌≡◌, map, length, arith, Ok}
use Rattle.std.specs.List.{All}
use Rattle.flow_policy.specs.Policies.{no_tables}
use Rattle.js_values.specs.Readings.{HasValue, read_value}
use Rattle.flow_meaning.specs.Tracked.{labelled}
use Rattle.continuations.specs.declared.continuation.Control.TheVariants as control
use Rattle.continuations.specs.declared.continuation.Continuation.TheVariants as continuation
use Rattle.step_references.proofs.Begun.{begun_as, begun_above, begun_comes, begun_handed, begun_pushed, begun_on, begun_off, begun_err, on_is, resumed}
use Rattle.step_references.proofs.Moved.{has_on, has_whatever, level_on, moved_behind, moved_lying, moved_off, moved_on, moved_popped, moved_pushed, moved_within, rests_lying, stack_is, stands_still, stood}
use Rattle.step_references.proofs.Loose.{front_has, lone, none_has, only, second_has, size_below, two_lie}
use Rattle.continuations.proofs.EndLaws.{last_has}
use Rattle.step_operators.proofs.OperatorLaws.{none_built}
use Rattle.js_ast.specs.declared.operators.UnaryOperator.TheVariants as unary_operator
use Rattle.native_protocol.specs.declared.hint.Hint.TheVariants as hint
use Rattle.es_meaning.specs.Evaluation.{primitive_left}
use Rattle.flow_meaning.specs.Planned.{planned}
use Rattle.run_state.proofs.ActLaws.{Acts-computes}
use Rattle.origin_labels.proofs.StoreLaws.{IsKept-refl}
use Rattle.continuations.specs.Settings.{entrance}
use Rattle.step_objects.proofs.Frames.{unary_stands}
use Rattle.continuations.specs.Pending.{first_or_undefined}
use Rattle.continuations.proofs.BranchLaws.{none_in_front}
use Rattle.step_operators.proofs.OperatorLaws.{converted_as, read_is_label, unary_as}
use Rattle.es_meaning.specs.Operators.{is_object}
use Rattle.step_operators.proofs.unary.unary_done.Goals as goal

pub convert_operand-requires-clause-loose : goal.convert_operand-requires-clause-loose
convert_operand-requires-clause-loose g c = ap length (none_in_front c.pop-value.new.self.loose c.args.stack.now.loose c.pop-value.result c.pop-value.ensures.top c.requires.loose)

pub convert_operand-requires-clause-value : goal.convert_operand-requires-clause-value
convert_operand-requires-clause-value g c = last_has (HasValue (g.L.Labels.made c.args.labels.now)) c.pop-value.new.self.loose c.args.stack.now.loose c.pop-value.result c.pop-value.ensures.top c.requires.made

pub apply_unary-requires-clause-loose : goal.apply_unary-requires-clause-loose
apply_unary-requires-clause-loose g c = ap length (none_in_front c.pop-value.new.self.loose c.args.stack.now.loose c.pop-value.result c.pop-value.ensures.top c.requires.loose)

pub apply_unary-requires-clause-value : goal.apply_unary-requires-clause-value
apply_unary-requires-clause-value g c = last_has (HasValue (g.L.Labels.made c.args.labels.now)) c.pop-value.new.self.loose c.args.stack.now.loose c.pop-value.result c.pop-value.ensures.top c.requires.made

pub returns-then-converts_operand-clause-goes_on : goal.returns-then-converts_operand-clause-goes_on
returns-then-converts_operand-clause-goes_on g c = resumed c.pop-value.new.self.loose c.pop-value.result c.pop-value.ensures.top c.pop-value.ensures.tasks (λ tables inputs set functions reading f s is. converted_as tables inputs set functions (is_object c.pop-value.result.value) c.args.operator (read_value reading c.pop-value.result) s (sym c.converts_operand.ensures ∙ c.if-converts_operand.true)) c.in_ok-next.ensures.goes_on

pub returns-clause-goes_on : goal.returns-clause-goes_on
returns-clause-goes_on g c = resumed c.pop-value.new.self.loose c.pop-value.result c.pop-value.ensures.top c.pop-value.ensures.tasks (λ tables inputs set functions reading f s is. unary_as tables inputs set functions c.taking_operands.ensures.operand c.args.operator (read_value reading c.pop-value.result) s (read_is_label g.met.L.Labels.rising is c.pop-value.result.label (last_has (HasValue (g.L.Labels.made c.args.labels.now)) c.pop-value.new.self.loose c.args.stack.now.loose c.pop-value.result c.pop-value.ensures.top c.requires.made)) (sym c.converts_operand.ensures ∙ c.if-converts_operand.false)) c.apply_unary.ensures.goes_on
