use Rattle.step_jumps.proofs.JumpLaws.{issues_again}
use Rattle.step_jumps.proofs.again.jump_again.Goals as goal

pub returns-clause-issues : goal.returns-clause-issues
returns-clause-issues g c = issues_again g.L.Labels.made g.L.Labels.meaning c.jump_to.new.labels c.args.jump c.aim.result c.args.frames.now.frames c.jump_to.new.frames.frames c.jump_to.result c.aim.ensures c.jump_to.ensures.issues
