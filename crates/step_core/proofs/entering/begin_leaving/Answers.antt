use Rattle.std.proofs.Common.{arith}
use Rattle.continuations.specs.declared.continuation.Control.TheVariants as control
use Rattle.continuations.specs.Kept.{waiting}
use Rattle.step_core.proofs.Begun.{lowers}
use Rattle.step_core.proofs.Stood.{stands_anyway}
use Rattle.step_core.proofs.entering.begin_leaving.Goals as goal

pub returns-clause-standing : goal.returns-clause-standing
returns-clause-standing g c = stands_anyway g.L.Labels.made g.L.Labels.meaning c.leave_by.new.labels (waiting c.args.stack.now.tasks) c.leave_by.new.stack c.leave_by.new.world c.leave_by.result c.leave_by.ensures.standing

pub returns-clause-lowers : goal.returns-clause-lowers
returns-clause-lowers g c = lowers c.args.stack.now c.leave_by.new.stack (control.Break c.args.turn c.args.label) 6 c.leave_by.result (omega arith) c.leave_by.ensures.adds
