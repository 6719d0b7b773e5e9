use Rattle.std.proofs.Common.{refl, sym, ap, ap₂, subst, ◌∙◌, [], ◌∷◌, ◌++◌, ◌+◌, ◌≡◌, map, length, arith, Ok}
use Rattle.std.specs.List.{All}
use Rattle.flow_policy.specs.Policies.{no_tables}
use Rattle.js_values.specs.Readings.{HasValue, read_value}
use Rattle.flow_meaning.specs.Tracked.{labelled}
use Rattle.continuations.specs.declared.continuation.Control.TheVariants as control
use Rattle.continuations.specs.declared.continuation.Continuation.TheVariants as continuation
use Rattle.step_references.proofs.Begun.{begun_as, begun_above, begun_comes, begun_handed, begun_pushed, begun_on, begun_off, begun_err, on_is, resumed}
use Rattle.step_references.proofs.Moved.{has_on, has_whatever, level_on, moved_behind, moved_lying, moved_off, moved_on, moved_popped, moved_pushed, moved_within, rests_lying, stack_is, stands_still, stood}
use Rattle.step_references.proofs.Loose.{front_has, lone, none_has, only, second_has, size_below, two_lie}
use Rattle.continuations.proofs.EndLaws.{last_has}
use Rattle.step_operators.proofs.OperatorLaws.{none_built}
use Rattle.step_references.proofs.Calls.{alone}
use Rattle.step_references.proofs.Loose.{both}
use Rattle.native_protocol.specs.declared.hint.Hint.TheVariants as hint
use Rattle.step_operators.proofs.OperatorLaws.{key_on}
use Rattle.step_operators.proofs.binary.convert_key.Goals as goal

pub push-requires : goal.push-requires
push-requires g c = sym (ap length (alone _ c.requires.loose c.in_ok-lay.ensures.laid))

pub returns-clause-goes_on : goal.returns-clause-goes_on
returns-clause-goes_on g c = begun_pushed continuation.KeyHas (c.args.object ∷ []) (c.args.key ∷ []) (stack_is c.lay-2.new.self (c.lay-2.ensures.tasks ∙ ap (λ k. k.tasks) c.in_ok-push.ensures.ok ∙ ap₂ (λ ts vs. ts ++ (continuation.KeyHas, vs) ∷ []) c.lay.ensures.tasks (alone _ c.requires.loose c.in_ok-lay.ensures.laid)) (c.in_ok-lay-2.ensures.laid ∙ ap (λ k. k.loose ++ (c.args.key ∷ [])) c.in_ok-push.ensures.ok)) (λ tables inputs set functions reading f s is. key_on tables inputs set functions (read_value reading c.args.key) (read_value reading c.args.object) s)

pub returns-clause-moved : goal.returns-clause-moved
returns-clause-moved g c = moved_pushed (control.Convert hint.String) continuation.KeyHas (c.args.object ∷ []) (c.args.key ∷ []) (stack_is c.lay-2.new.self (c.lay-2.ensures.tasks ∙ ap (λ k. k.tasks) c.in_ok-push.ensures.ok ∙ ap₂ (λ ts vs. ts ++ (continuation.KeyHas, vs) ∷ []) c.lay.ensures.tasks (alone _ c.requires.loose c.in_ok-lay.ensures.laid)) (c.in_ok-lay-2.ensures.laid ∙ ap (λ k. k.loose ++ (c.args.key ∷ [])) c.in_ok-push.ensures.ok)) refl refl (only (HasValue (g.L.Labels.made c.args.labels.now)) c.args.object c.requires.object) (only (HasValue (g.L.Labels.made c.args.labels.now)) c.args.key c.requires.key) refl (omega arith)
