use Rattle.step_jumps.proofs.EndingLaws.{ends_done, ends_jumping, ends_failing}
use Rattle.step_jumps.proofs.tries.leave.Goals as goal

pub returns-in_err-jump_again-in-Some-clause-begins : goal.returns-in_err-jump_again-in-Some-clause-begins
returns-in_err-jump_again-in-Some-clause-begins g c =
    rw c.in-Some.is (ends_failing g.L.Labels.made g.L.Labels.meaning c.jump_again.new.labels c.in-Some.jump c.args.stack.now c.args.world.now c.jump_again.new.frames (Unit {0}) c.in_err-jump_again-in-Some.field-0.0 c.from_residual.result c.from_residual.ensures.1 c.in_err-jump_again-in-Some.ensures.issues)

pub returns-in-None-clause-begins : goal.returns-in-None-clause-begins
returns-in-None-clause-begins g c = rw c.in-None.is (ends_done g.L.Labels.made g.L.Labels.meaning c.args.labels.now c.args.stack.now c.args.world.now)

pub returns-in_ok-jump_again-in-Some-clause-begins : goal.returns-in_ok-jump_again-in-Some-clause-begins
returns-in_ok-jump_again-in-Some-clause-begins g c =
    rw c.in-Some.is (ends_jumping g.L.Labels.made g.L.Labels.meaning c.jump_again.new.labels c.in-Some.jump c.args.stack.now c.args.world.now c.jump_again.new.frames (tt {0}) c.in_ok-jump_again-in-Some.ensures.issues)
