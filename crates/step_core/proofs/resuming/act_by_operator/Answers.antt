use Rattle.step_core.proofs.Continued.{acts_anywhere}
use Rattle.step_core.proofs.resuming.act_by_operator.Goals as goal

pub returns-clause-goes_on : goal.returns-clause-goes_on
returns-clause-goes_on g c = acts_anywhere g.L.Labels.made g.L.Labels.meaning c.operate.new.labels c.args.work c.args.stack.now c.operate.new.stack c.args.world.now c.operate.new.world c.operate.result c.requires.operates c.operate.ensures.goes_on
