use Rattle.std.proofs.Common.{refl, ap, ap₂, ◌∙◌, ◌++◌, ◌∷◌, [], length, arith}
use Rattle.continuations.specs.Kept.{Kept}
use Rattle.continuations.specs.declared.continuation.Control.TheVariants as control
use Rattle.step_requests.proofs.Done.{gives_call, waits_rests}
use Rattle.step_requests.proofs.Settled.{all_behind, all_two}
use Rattle.step_requests.proofs.entering.call.Goals as goal

pub returns-clause-gives : goal.returns-clause-gives
returns-clause-gives g c = gives_call g.L.Labels.made g.L.Labels.meaning c.args.labels.now c.args.stack.now c.lay_all.new.stack c.args.count c.args.callee c.args.this c.args.to c.args.args.now c.in_ok-callee.callee c.in_ok-this.this c.in_ok-args.args.items c.in_ok-given.given (c.lay_all.ensures.tasks ∙ c.lay-2.ensures.tasks ∙ c.lay.ensures.tasks ∙ ap (λ (k : Kept _). k.tasks) c.in_ok-push.ensures.ok) (c.in_ok-lay_all.ensures.laid ∙ ap₂ (λ vs us. vs ++ us) (c.in_ok-lay-2.ensures.laid ∙ ap (λ vs. vs ++ c.in_ok-callee.callee ∷ []) (c.in_ok-lay.ensures.laid ∙ ap (λ vs. vs ++ c.in_ok-this.this ∷ []) (ap (λ (k : Kept _). k.loose) c.in_ok-push.ensures.ok))) c.deref-2.ensures.value) c.in_ok-callee.ensures.reads c.in_ok-this.ensures.reads (rw c.items.ensures at c.in_ok-args.ensures.reads)

pub returns-clause-rests : goal.returns-clause-rests
returns-clause-rests g c = let lies = (c.in_ok-lay_all.ensures.laid ∙ ap₂ (λ vs us. vs ++ us) (c.in_ok-lay-2.ensures.laid ∙ ap (λ vs. vs ++ c.in_ok-callee.callee ∷ []) (c.in_ok-lay.ensures.laid ∙ ap (λ vs. vs ++ c.in_ok-this.this ∷ []) (ap (λ (k : Kept _). k.loose) c.in_ok-push.ensures.ok))) c.deref-2.ensures.value) in let counted = c.in_ok-given.ensures ∙ ap length c.deref.ensures.value in let long = ap length lies in waits_rests (g.L.Labels.made c.args.labels.now) c.args.stack.now c.push.new.self c.lay_all.new.stack (control.Call c.in_ok-given.given) (ap (λ (k : Kept _). k.loose) c.in_ok-push.ensures.ok) (c.lay_all.ensures.tasks ∙ c.lay-2.ensures.tasks ∙ c.lay.ensures.tasks) c.in_ok-push.ensures.scopes c.in_ok-push.ensures.natives c.in_ok-push.ensures.operands c.in_ok-push.ensures.load c.requires.made (all_behind (g.L.Labels.made c.args.labels.now) c.lay_all.new.stack.loose (c.in_ok-this.this ∷ c.in_ok-callee.callee ∷ []) c.in_ok-args.args.items lies (all_two (g.L.Labels.made c.args.labels.now) _ _ _ refl c.in_ok-this.ensures.made c.in_ok-callee.ensures.made) c.in_ok-args.ensures.made) (omega (arith, long, counted)) (omega arith) refl
