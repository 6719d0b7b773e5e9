use Rattle.step_control.proofs.PassLaws.{value_reached}
use Rattle.step_control.proofs.passing.reach_value.Goals as goal

pub returns-clause-goes_on : goal.returns-clause-goes_on
returns-clause-goes_on g c =
    value_reached g.L.Labels.made g.L.Labels.meaning c.args.labels.now c.args._jump c.args.depth c.args.stack.now c.clear.new.self c.args.frames.now.frames c.leave-label.new.frames.frames c.requires.frame c.clear.ensures.tasks c.leave-label.ensures.outside
    c.lay.new.self c.leave-label.result c.clear.ensures.none c.lay.ensures.tasks c.in_ok-lay.ensures.laid c.leave-label.ensures.label
