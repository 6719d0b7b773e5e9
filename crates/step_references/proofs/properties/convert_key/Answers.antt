use Rattle.std.proofs.Common.{refl, sym, ap, subst, length, ◌∙◌, ◌++◌, [], ◌∷◌, arith}
use Rattle.std.specs.List.{All}
use Rattle.std.proofs.lemmas.List.{length-append}
use Rattle.std.proofs.lemmas.List.Elements.{All-append}
use Rattle.js_values.specs.Readings.{HasValue, read_value}
use Rattle.native_protocol.specs.declared.hint.Hint.TheVariants as hint
use Rattle.continuations.specs.declared.continuation.Control.TheVariants as control
use Rattle.continuations.specs.declared.continuation.Continuation.TheVariants as continuation
use Rattle.continuations.specs.Pending.{owns_use}
use Rattle.step_references.proofs.Begun.{begun_pushed}
use Rattle.step_references.proofs.Kept.{use_below, value_above}
use Rattle.step_references.proofs.Loose.{only}
use Rattle.step_references.proofs.Moved.{moved_pushed, stack_is}
use Rattle.step_references.proofs.UseLaws.{keys_wait}
use Rattle.step_references.proofs.properties.convert_key.Goals as goal

pub push-requires : goal.push-requires
push-requires g c = let size = length-append c.args.stack.now.loose (c.args.base ∷ []) in let laid = ap length c.in_ok-lay.ensures.laid in let owned = c.requires.loose in omega (arith, size, laid, owned)

pub returns-clause-goes_on : goal.returns-clause-goes_on
returns-clause-goes_on g c =
    begun_pushed (continuation.KeyOf c.args.how) c.lay.new.self.loose (c.args.key ∷ []) (stack_is c.lay-2.new.self (c.lay-2.ensures.tasks ∙ ap (λ k. k.tasks) c.in_ok-push.ensures.ok ∙ ap (λ ts. ts ++ ((continuation.KeyOf c.args.how), c.lay.new.self.loose) ∷ []) c.lay.ensures.tasks) (c.in_ok-lay-2.ensures.laid ∙ ap (λ k. k.loose ++ c.args.key ∷ []) c.in_ok-push.ensures.ok))
    (λ tables inputs set functions reading f s is. keys_wait tables inputs set functions f.env.place (read_value reading c.args.key) s (use_below reading c.args.stack.now.loose c.lay.new.self.loose c.args.base c.in_ok-lay.ensures.laid c.args.how c.requires.loose) (value_above reading c.args.stack.now.loose c.lay.new.self.loose c.args.base c.in_ok-lay.ensures.laid (owns_use c.args.how) c.requires.loose))

pub returns-clause-moved : goal.returns-clause-moved
returns-clause-moved g c =
    let made = g.L.Labels.made c.args.labels.now in
    moved_pushed (control.Convert hint.String) (continuation.KeyOf c.args.how) c.lay.new.self.loose (c.args.key ∷ []) (stack_is c.lay-2.new.self (c.lay-2.ensures.tasks ∙ ap (λ k. k.tasks) c.in_ok-push.ensures.ok ∙ ap (λ ts. ts ++ ((continuation.KeyOf c.args.how), c.lay.new.self.loose) ∷ []) c.lay.ensures.tasks) (c.in_ok-lay-2.ensures.laid ∙ ap (λ k. k.loose ++ c.args.key ∷ []) c.in_ok-push.ensures.ok)) refl refl
    (subst (All (HasValue made)) (sym c.in_ok-lay.ensures.laid) (All-append (HasValue made) c.args.stack.now.loose (c.args.base ∷ []) c.requires.made (only (HasValue made) c.args.base c.requires.base))) (only (HasValue made) c.args.key c.requires.key) refl (omega arith)
