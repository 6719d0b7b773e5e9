use Rattle.std.proofs.Common.{refl, sym, ap, ap₂, subst, ◌∙◌, [], ◌∷◌, ◌++◌, ◌+◌, ◌≡◌, map, length, arith, Ok}
use Rattle.std.specs.List.{All}
use Rattle.flow_policy.specs.Policies.{no_tables}
use Rattle.js_values.specs.Readings.{HasValue, read_value}
use Rattle.flow_meaning.specs.Tracked.{labelled}
use Rattle.continuations.specs.declared.continuation.Control.TheVariants as control
use Rattle.continuations.specs.declared.continuation.Continuation.TheVariants as continuation
use Rattle.step_references.proofs.Begun.{begun_as, begun_above, begun_comes, begun_handed, begun_pushed, begun_on, begun_off, begun_err, on_is, resumed}
use Rattle.step_references.proofs.Moved.{has_on, has_whatever, level_on, moved_behind, moved_lying, moved_off, moved_on, moved_popped, moved_pushed, moved_within, rests_lying, stack_is, stands_still, stood}
use Rattle.step_references.proofs.Loose.{front_has, lone, none_has, only, second_has, size_below, two_lie}
use Rattle.continuations.proofs.EndLaws.{last_has}
use Rattle.step_operators.proofs.OperatorLaws.{none_built}
use Rattle.js_ast.specs.declared.operators.UnaryOperator.TheVariants as unary_operator
use Rattle.native_protocol.specs.declared.hint.Hint.TheVariants as hint
use Rattle.es_meaning.specs.Evaluation.{primitive_left}
use Rattle.flow_meaning.specs.Planned.{planned}
use Rattle.run_state.proofs.ActLaws.{Acts-computes}
use Rattle.origin_labels.proofs.StoreLaws.{IsKept-refl}
use Rattle.continuations.specs.Settings.{entrance}
use Rattle.step_objects.proofs.Frames.{unary_stands}
use Rattle.continuations.specs.Pending.{first_or_undefined}
use Rattle.continuations.proofs.BranchLaws.{none_in_front}
use Rattle.step_references.proofs.Calls.{alone}
use Rattle.std.proofs.lemmas.List.{nil_from_length}
use Rattle.step_operators.proofs.unary.convert_operand.Goals as goal

pub returns-clause-goes_on : goal.returns-clause-goes_on
returns-clause-goes_on g c = begun_pushed (continuation.UnaryConverted c.args.operator) c.args.stack.now.loose (c.args.value ∷ []) (stack_is c.lay.new.self (c.lay.ensures.tasks ∙ ap (λ k. k.tasks) c.in_ok-push.ensures.ok) (c.in_ok-lay.ensures.laid ∙ ap (λ k. k.loose ++ c.args.value ∷ []) c.in_ok-push.ensures.ok)) (λ tables inputs set functions reading f s is. refl)

pub returns-clause-moved : goal.returns-clause-moved
returns-clause-moved g c = moved_pushed (control.Convert hint.Number) (continuation.UnaryConverted c.args.operator) c.args.stack.now.loose (c.args.value ∷ []) (stack_is c.lay.new.self (c.lay.ensures.tasks ∙ ap (λ k. k.tasks) c.in_ok-push.ensures.ok) (c.in_ok-lay.ensures.laid ∙ ap (λ k. k.loose ++ c.args.value ∷ []) c.in_ok-push.ensures.ok)) refl refl (subst (All (HasValue (g.L.Labels.made c.args.labels.now))) (sym (nil_from_length c.args.stack.now.loose c.requires.loose)) (none_has (HasValue (g.L.Labels.made c.args.labels.now)))) (only (HasValue (g.L.Labels.made c.args.labels.now)) c.args.value c.requires.value) refl (omega arith)
