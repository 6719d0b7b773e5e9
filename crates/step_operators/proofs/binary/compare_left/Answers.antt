use Rattle.std.proofs.Common.{refl, sym, ap, ap₂, subst, ◌∙◌, [], ◌∷◌, ◌++◌, ◌+◌, ◌≡◌, map, length, arith, Ok}
use Rattle.std.specs.List.{All}
use Rattle.flow_policy.specs.Policies.{no_tables}
use Rattle.js_values.specs.Readings.{HasValue, read_value}
use Rattle.flow_meaning.specs.Tracked.{labelled}
use Rattle.continuations.specs.declared.continuation.Control.TheVariants as control
use Rattle.continuations.specs.declared.continuation.Continuation.TheVariants as continuation
use Rattle.step_references.proofs.Begun.{begun_as, begun_above, begun_comes, begun_handed, begun_pushed, begun_on, begun_off, begun_err, on_is, resumed}
use Rattle.step_references.proofs.Moved.{has_on, has_whatever, level_on, moved_behind, moved_lying, moved_off, moved_on, moved_popped, moved_pushed, moved_within, rests_lying, stack_is, stands_still, stood}
use Rattle.step_references.proofs.Loose.{front_has, lone, none_has, only, second_has, size_below, two_lie}
use Rattle.continuations.proofs.EndLaws.{last_has}
use Rattle.step_operators.proofs.OperatorLaws.{none_built}
use Rattle.step_references.proofs.Calls.{alone}
use Rattle.step_references.proofs.Loose.{both}
use Rattle.native_protocol.specs.declared.hint.Hint.TheVariants as hint
use Rattle.step_operators.proofs.binary.compare_left.Goals as goal

pub push-requires : goal.push-requires
push-requires g c = sym (ap length (alone _ c.requires.loose c.in_ok-lay.ensures.laid ∙ ap (λ v. v ∷ []) c.in_ok-kept.ensures))

pub returns-clause-goes_on : goal.returns-clause-goes_on
returns-clause-goes_on g c = begun_pushed (continuation.ConvertedLeft c.args.operator) (c.args.right ∷ []) (c.args.left ∷ c.args.right ∷ []) (stack_is c.lay-3.new.self (c.lay-3.ensures.tasks ∙ c.lay-2.ensures.tasks ∙ ap (λ k. k.tasks) c.in_ok-push.ensures.ok ∙ ap₂ (λ ts vs. ts ++ ((continuation.ConvertedLeft c.args.operator), vs) ∷ []) c.lay.ensures.tasks (alone _ c.requires.loose c.in_ok-lay.ensures.laid ∙ ap (λ v. v ∷ []) c.in_ok-kept.ensures)) (c.in_ok-lay-3.ensures.laid ∙ ap (λ vs. vs ++ c.args.right ∷ []) c.in_ok-lay-2.ensures.laid ∙ ap (λ k. (k.loose ++ c.args.left ∷ []) ++ c.args.right ∷ []) c.in_ok-push.ensures.ok)) (λ tables inputs set functions reading f s is. refl)

pub returns-clause-moved : goal.returns-clause-moved
returns-clause-moved g c = moved_pushed control.Compare (continuation.ConvertedLeft c.args.operator) (c.args.right ∷ []) (c.args.left ∷ c.args.right ∷ []) (stack_is c.lay-3.new.self (c.lay-3.ensures.tasks ∙ c.lay-2.ensures.tasks ∙ ap (λ k. k.tasks) c.in_ok-push.ensures.ok ∙ ap₂ (λ ts vs. ts ++ ((continuation.ConvertedLeft c.args.operator), vs) ∷ []) c.lay.ensures.tasks (alone _ c.requires.loose c.in_ok-lay.ensures.laid ∙ ap (λ v. v ∷ []) c.in_ok-kept.ensures)) (c.in_ok-lay-3.ensures.laid ∙ ap (λ vs. vs ++ c.args.right ∷ []) c.in_ok-lay-2.ensures.laid ∙ ap (λ k. (k.loose ++ c.args.left ∷ []) ++ c.args.right ∷ []) c.in_ok-push.ensures.ok)) refl refl (only (HasValue (g.L.Labels.made c.args.labels.now)) c.args.right c.requires.right) (both (HasValue (g.L.Labels.made c.args.labels.now)) c.args.left c.args.right c.requires.left c.requires.right) refl (omega arith)
