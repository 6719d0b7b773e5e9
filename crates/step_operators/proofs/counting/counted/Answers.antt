use Rattle.std.proofs.Common.{refl, sym, ap, ap₂, subst, ◌∙◌, [], ◌∷◌, ◌++◌, ◌+◌, ◌≡◌, map, length, arith, Ok}
use Rattle.std.specs.List.{All}
use Rattle.flow_policy.specs.Policies.{no_tables}
use Rattle.js_values.specs.Readings.{HasValue, read_value}
use Rattle.flow_meaning.specs.Tracked.{labelled}
use Rattle.continuations.specs.declared.continuation.Control.TheVariants as control
use Rattle.continuations.specs.declared.continuation.Continuation.TheVariants as continuation
use Rattle.step_references.proofs.Begun.{begun_as, begun_above, begun_comes, begun_handed, begun_pushed, begun_on, begun_off, begun_err, on_is, resumed}
use Rattle.step_references.proofs.Moved.{has_on, has_whatever, level_on, moved_behind, moved_lying, moved_off, moved_on, moved_popped, moved_pushed, moved_within, rests_lying, stack_is, stands_still, stood}
use Rattle.step_references.proofs.Loose.{front_has, lone, none_has, only, second_has, size_below, two_lie}
use Rattle.continuations.proofs.EndLaws.{last_has}
use Rattle.step_operators.proofs.OperatorLaws.{none_built}
use Rattle.js_ast.specs.declared.operators.UnaryOperator.TheVariants as unary_operator
use Rattle.native_protocol.specs.declared.hint.Hint.TheVariants as hint
use Rattle.es_meaning.specs.Evaluation.{primitive_left}
use Rattle.flow_meaning.specs.Planned.{planned}
use Rattle.run_state.proofs.ActLaws.{Acts-computes}
use Rattle.origin_labels.proofs.StoreLaws.{IsKept-refl}
use Rattle.continuations.specs.Settings.{entrance}
use Rattle.step_objects.proofs.Frames.{unary_stands}
use Rattle.continuations.specs.Pending.{first_or_undefined}
use Rattle.continuations.proofs.BranchLaws.{none_in_front}
use Rattle.origin_labels.proofs.StoreLaws.{IsKept-refl, IsKept-trans}
use Rattle.js_values.proofs.ReadingLaws.{IsReading-earlier}
use Rattle.run_state.proofs.ActLaws.{Belongs-later}
use Rattle.step_objects.specs.References.{refers}
use Rattle.step_objects.proofs.Frames.{binary_stands}
use Rattle.continuations.specs.Pending.{owns_target}
use Rattle.continuations.specs.Shapes.{target_of}
use Rattle.step_references.proofs.Kept.{reference_later, target_below, value_above}
use Rattle.step_operators.specs.Counting.{changed_by, given_by, numbered_by}
use Rattle.step_operators.proofs.OperatorLaws.{counted_as, resumed_pushed}
use Rattle.step_operators.proofs.counting.counted.Goals as goal

pub push-requires : goal.push-requires
push-requires g c = sym (size_below c.pop-value.new.self.loose c.args.stack.now.loose c.pop-value.result (owns_target c.args.target) c.pop-value.ensures.top c.requires.loose)

pub returns-clause-goes_on : goal.returns-clause-goes_on
returns-clause-goes_on g c = resumed_pushed c.pop-value.new.self.loose c.pop-value.result c.pop-value.ensures.top (continuation.CountedNumber c.args.counting c.args.operator c.args.target) c.pop-value.new.self.loose (c.pop-value.result ∷ []) (stack_is c.lay.new.self (c.lay.ensures.tasks ∙ ap (λ k. k.tasks) c.in_ok-push.ensures.ok ∙ ap (λ ts. ts ++ ((continuation.CountedNumber c.args.counting c.args.operator c.args.target), c.pop-value.new.self.loose) ∷ []) c.pop-value.ensures.tasks) (c.in_ok-lay.ensures.laid ∙ ap (λ k. k.loose ++ c.pop-value.result ∷ []) c.in_ok-push.ensures.ok)) (λ tables inputs set functions reading f s is. counted_as tables inputs set functions c.args.counting c.args.operator c.args.target (map (read_value reading) c.pop-value.new.self.loose) f (read_value reading c.pop-value.result) s)

pub returns-clause-moved : goal.returns-clause-moved
returns-clause-moved g c = moved_pushed (control.Convert hint.Number) (continuation.CountedNumber c.args.counting c.args.operator c.args.target) c.pop-value.new.self.loose (c.pop-value.result ∷ []) (stack_is c.lay.new.self (c.lay.ensures.tasks ∙ ap (λ k. k.tasks) c.in_ok-push.ensures.ok ∙ ap (λ ts. ts ++ ((continuation.CountedNumber c.args.counting c.args.operator c.args.target), c.pop-value.new.self.loose) ∷ []) c.pop-value.ensures.tasks) (c.in_ok-lay.ensures.laid ∙ ap (λ k. k.loose ++ c.pop-value.result ∷ []) c.in_ok-push.ensures.ok)) refl refl (front_has (HasValue (g.L.Labels.made c.args.labels.now)) c.pop-value.new.self.loose c.args.stack.now.loose c.pop-value.result c.pop-value.ensures.top c.requires.made) (only (HasValue (g.L.Labels.made c.args.labels.now)) c.pop-value.result (last_has (HasValue (g.L.Labels.made c.args.labels.now)) c.pop-value.new.self.loose c.args.stack.now.loose c.pop-value.result c.pop-value.ensures.top c.requires.made)) refl (omega arith)
