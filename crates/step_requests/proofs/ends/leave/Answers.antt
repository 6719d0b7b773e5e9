use Rattle.std.proofs.Common.{refl}
use Rattle.step_requests.proofs.Does.{does_given}
use Rattle.step_requests.proofs.Done.{gives_leave, leave_rests}
use Rattle.step_requests.proofs.Settled.{cleared_alone, level}
use Rattle.step_requests.proofs.ends.leave.Goals as goal

pub returns-clause-does : goal.returns-clause-does
returns-clause-does g c = λ tables inputs. does_given g.L.Labels.made g.L.Labels.meaning c.args.labels.now tables inputs c.args.stack.now c.leave_by.new.stack c.args.world.now _ _ (gives_leave g.L.Labels.made g.L.Labels.meaning c.args.labels.now c.args.name c.args.stack.now c.clear.new.self c.leave_by.new.stack c.in_ok-next.next (cleared_alone c.args.stack.now c.clear.new.self c.clear.ensures.tasks c.clear.ensures.none) c.in_ok-next.ensures.goes_on c.in_ok-next.ensures.rests c.in_ok-next.ensures.adds)

pub returns-clause-leaves : goal.returns-clause-leaves
returns-clause-leaves g c = record { rests = leave_rests (g.L.Labels.made c.args.labels.now) c.args.name c.args.stack.now c.clear.new.self c.leave_by.new.stack c.in_ok-next.next (cleared_alone c.args.stack.now c.clear.new.self c.clear.ensures.tasks c.clear.ensures.none) c.in_ok-next.ensures.goes_on c.in_ok-next.ensures.rests c.in_ok-next.ensures.adds; stands = level c.args.world.now c.args.world.now c.in_ok-next.next refl }
