use Rattle.continuations.specs.Kept.{waiting}
use Rattle.step_core.proofs.Stood.{stands_anyway}
use Rattle.step_core.proofs.entering.begin_function.Goals as goal

pub returns-clause-standing : goal.returns-clause-standing
returns-clause-standing g c = stands_anyway g.L.Labels.made g.L.Labels.meaning c.function.new.labels (waiting c.args.stack.now.tasks) c.function.new.stack c.function.new.world c.function.result c.function.ensures.standing
