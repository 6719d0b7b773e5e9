use Rattle.std.proofs.Common.{refl}
use Rattle.continuations.proofs.Handed.{stop_passes}
use Rattle.step_requests.proofs.Settled.{left_at, parts_passes, thrown_alone, cleared_alone}
use Rattle.step_requests.proofs.handing_on.go_on.Goals as goal

pub returns-in_err-came-clause-parts : goal.returns-in_err-came-clause-parts
returns-in_err-came-clause-parts g c = rw c.in_err-came.was (parts_passes (g.L.Labels.made c.args.labels.now) c.args.stack.now c.args.stack.now c.in_err-came.field-0.0 c.from_residual.result c.from_residual.ensures.1)

pub returns-in_err-came-clause-stopped : goal.returns-in_err-came-clause-stopped
returns-in_err-came-clause-stopped g c = stop_passes (λ (x : g.row.X.Denot). Unit {0}) (g.L.Labels.made c.args.labels.now) c.in_err-came.field-0.0 c.from_residual.result (rw c.in_err-came.was at c.requires.made) c.from_residual.ensures.1

pub returns-in-Goes-clause-parts : goal.returns-in-Goes-clause-parts
returns-in-Goes-clause-parts g c = rw c.in_ok-came.was (rw c.in-Goes.is (refl, refl))

pub returns-in_ok-lay-in-Throws-clause-parts : goal.returns-in_ok-lay-in-Throws-clause-parts
returns-in_ok-lay-in-Throws-clause-parts g c = rw c.in_ok-came.was (rw c.in-Throws.is (refl, thrown_alone c.args.stack.now c.clear.new.self c.lay.new.self c.in-Throws.error c.clear.ensures.tasks c.clear.ensures.none c.lay.ensures.tasks c.in_ok-lay-in-Throws.ensures.laid))

pub returns-in_ok-next-in-Leaves-clause-parts : goal.returns-in_ok-next-in-Leaves-clause-parts
returns-in_ok-next-in-Leaves-clause-parts g c = rw c.in_ok-came.was (rw c.in-Leaves.is (left_at (g.L.Labels.made c.args.labels.now) c.in-Leaves.why c.args.stack.now c.clear-in-Leaves.new.self c.leave_by.new.stack c.in_ok-next-in-Leaves.next (cleared_alone c.args.stack.now c.clear-in-Leaves.new.self c.clear-in-Leaves.ensures.tasks c.clear-in-Leaves.ensures.none) c.in_ok-next-in-Leaves.ensures.goes_on c.in_ok-next-in-Leaves.ensures.rests c.in_ok-next-in-Leaves.ensures.adds))
