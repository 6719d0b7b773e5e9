use Rattle.std.proofs.Common.{refl}
use Rattle.step_requests.proofs.Does.{does_given}
use Rattle.step_requests.proofs.Settled.{level}
use Rattle.step_requests.proofs.requesting.do_call.Goals as goal

pub returns-clause-does : goal.returns-clause-does
returns-clause-does g c = λ tables inputs. does_given g.L.Labels.made g.L.Labels.meaning c.args.labels.now tables inputs c.args.stack.now c.call.new.stack c.args.world.now _ c.in_ok-moved.moved c.in_ok-moved.ensures.gives

pub returns-clause-leaves : goal.returns-clause-leaves
returns-clause-leaves g c = record { rests = c.in_ok-moved.ensures.rests; stands = level c.args.world.now c.args.world.now _ refl }
