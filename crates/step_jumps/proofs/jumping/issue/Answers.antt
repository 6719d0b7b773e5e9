use Rattle.step_jumps.proofs.Moved.{issued_goes, issued_fails}
use Rattle.step_jumps.proofs.jumping.issue.Goals as goal

pub returns-in_err-jump_again-clause-issues : goal.returns-in_err-jump_again-clause-issues
returns-in_err-jump_again-clause-issues g c = λ tables inputs set functions natives.
    issued_fails g.L.Labels.made g.L.Labels.meaning c.jump_again.new.labels tables inputs set functions natives c.args.jump c.args.stack.now c.args.world.now c.jump_again.new.frames (Unit {0}) c.in_err-jump_again.field-0.0 c.from_residual.result c.from_residual.ensures.1 c.in_err-jump_again.ensures.issues

pub returns-clause-issues : goal.returns-clause-issues
returns-clause-issues g c = λ tables inputs set functions natives.
    issued_goes g.L.Labels.made g.L.Labels.meaning c.jump_again.new.labels tables inputs set functions natives c.args.jump c.args.stack.now c.args.world.now c.jump_again.new.frames (tt {0}) c.in_ok-jump_again.ensures.issues
