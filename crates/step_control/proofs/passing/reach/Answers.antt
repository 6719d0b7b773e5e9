use Rattle.step_control.proofs.PassLaws.{branch_reached, round_reached, label_reached, try_reached}
use Rattle.step_control.proofs.passing.reach.Goals as goal

pub returns-clause-branch : goal.returns-clause-branch
returns-clause-branch g c jump =
    branch_reached g.L.Labels.made g.L.Labels.meaning c.args.labels.now jump c.args.depth c.args.stack.now c.clear.new.self c.args.frames.now.frames c.leave.new.frames.frames c.requires.frame c.clear.ensures.tasks c.leave.ensures.outside

pub returns-clause-round : goal.returns-clause-round
returns-clause-round g c jump =
    round_reached g.L.Labels.made g.L.Labels.meaning c.args.labels.now jump c.args.depth c.args.stack.now c.clear.new.self c.args.frames.now.frames c.leave.new.frames.frames c.requires.frame c.clear.ensures.tasks c.leave.ensures.outside

pub returns-clause-label : goal.returns-clause-label
returns-clause-label g c jump =
    label_reached g.L.Labels.made g.L.Labels.meaning c.args.labels.now jump c.args.depth c.args.stack.now c.clear.new.self c.args.frames.now.frames c.leave.new.frames.frames c.requires.frame c.clear.ensures.tasks c.leave.ensures.outside

pub returns-clause-tried : goal.returns-clause-tried
returns-clause-tried g c jump =
    try_reached g.L.Labels.made g.L.Labels.meaning c.args.labels.now jump c.args.depth c.args.stack.now c.clear.new.self c.args.frames.now.frames c.leave.new.frames.frames c.requires.frame c.clear.ensures.tasks c.leave.ensures.outside
