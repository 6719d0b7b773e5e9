use Rattle.std.proofs.Common.{refl, ap, ◌∙◌, ◌++◌, ◌∷◌, [], length, arith}
use Rattle.continuations.specs.Kept.{Kept}
use Rattle.continuations.specs.declared.continuation.Control.TheVariants as control
use Rattle.step_requests.proofs.Done.{gives_getter, waits_rests}
use Rattle.step_requests.proofs.Settled.{all_two}
use Rattle.step_requests.proofs.entering.enter_getter.Goals as goal

pub returns-clause-gives : goal.returns-clause-gives
returns-clause-gives g c = gives_getter g.L.Labels.made g.L.Labels.meaning c.args._labels.now c.args.stack.now c.lay-2.new.self c.args.count c.args.to c.args.label c.args.function c.args.this (c.lay-2.ensures.tasks ∙ c.lay.ensures.tasks ∙ ap (λ (k : Kept _). k.tasks) c.in_ok-push.ensures.ok) (c.in_ok-lay-2.ensures.laid ∙ ap (λ vs. vs ++ c.called.result ∷ []) (c.in_ok-lay.ensures.laid ∙ ap (λ vs. vs ++ c.args.this ∷ []) (ap (λ (k : Kept _). k.loose) c.in_ok-push.ensures.ok)) ∙ ap (λ f. c.args.this ∷ f ∷ []) c.called.ensures)

pub returns-clause-rests : goal.returns-clause-rests
returns-clause-rests g c = let lies = (c.in_ok-lay-2.ensures.laid ∙ ap (λ vs. vs ++ c.called.result ∷ []) (c.in_ok-lay.ensures.laid ∙ ap (λ vs. vs ++ c.args.this ∷ []) (ap (λ (k : Kept _). k.loose) c.in_ok-push.ensures.ok)) ∙ ap (λ f. c.args.this ∷ f ∷ []) c.called.ensures) in waits_rests (g.L.Labels.made c.args._labels.now) c.args.stack.now c.push.new.self c.lay-2.new.self (control.Call 0) (ap (λ (k : Kept _). k.loose) c.in_ok-push.ensures.ok) (c.lay-2.ensures.tasks ∙ c.lay.ensures.tasks) c.in_ok-push.ensures.scopes c.in_ok-push.ensures.natives c.in_ok-push.ensures.operands c.in_ok-push.ensures.load c.requires.made (all_two (g.L.Labels.made c.args._labels.now) c.lay-2.new.self.loose _ _ lies c.requires.this c.requires.label) (ap length lies) (omega arith) refl
