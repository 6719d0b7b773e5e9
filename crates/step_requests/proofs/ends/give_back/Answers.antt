use Rattle.std.proofs.Common.{refl, ap, ◌∙◌, ◌++◌, ◌∷◌, [], arith}
use Rattle.continuations.specs.declared.continuation.Control.TheVariants as control
use Rattle.step_requests.proofs.Does.{does_given}
use Rattle.step_requests.proofs.Done.{gives_back}
use Rattle.step_requests.proofs.Settled.{alone_rests, thrown_alone}
use Rattle.step_requests.proofs.ends.give_back.Goals as goal

pub returns-clause-does : goal.returns-clause-does
returns-clause-does g c = λ tables inputs. does_given g.L.Labels.made g.L.Labels.meaning c.args.labels.now tables inputs c.args.stack.now c.lay.new.self c.args.world.now _ _ (gives_back g.L.Labels.made g.L.Labels.meaning c.args.labels.now c.args.from c.args.stack.now c.lay.new.self c.in_ok-value.value (c.lay.ensures.tasks ∙ c.clear.ensures.tasks) (c.in_ok-lay.ensures.laid ∙ ap (λ vs. vs ++ c.in_ok-value.value ∷ []) c.clear.ensures.none) c.in_ok-value.ensures.reads)

pub returns-clause-leaves : goal.returns-clause-leaves
returns-clause-leaves g c = record { rests = rw (thrown_alone c.args.stack.now c.clear.new.self c.lay.new.self c.in_ok-value.value c.clear.ensures.tasks c.clear.ensures.none c.lay.ensures.tasks c.in_ok-lay.ensures.laid) (alone_rests (g.L.Labels.made c.args.labels.now) c.args.stack.now c.in_ok-value.value control.Value c.in_ok-value.ensures.made refl refl (omega arith)); stands = refl }
