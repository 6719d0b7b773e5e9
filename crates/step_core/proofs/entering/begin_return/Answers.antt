use Rattle.std.proofs.Common.{arith}
use Rattle.continuations.specs.declared.continuation.Control.TheVariants as control
use Rattle.continuations.specs.Kept.{waiting}
use Rattle.step_core.proofs.Begun.{lowers}
use Rattle.step_core.proofs.Stood.{stands_anyway}
use Rattle.step_core.proofs.entering.begin_return.Goals as goal

pub returns-clause-standing : goal.returns-clause-standing
returns-clause-standing g c = stands_anyway g.L.Labels.made g.L.Labels.meaning c.return_nothing.new.labels (waiting c.args.stack.now.tasks) c.return_nothing.new.stack c.return_nothing.new.world c.return_nothing.result c.return_nothing.ensures.standing

pub returns-clause-lowers : goal.returns-clause-lowers
returns-clause-lowers g c = lowers c.args.stack.now c.return_nothing.new.stack control.Return 6 c.return_nothing.result (omega arith) c.return_nothing.ensures.adds
