use Rattle.std.proofs.Common.{arith}
use Rattle.continuations.specs.declared.continuation.Control.TheVariants as control
use Rattle.continuations.specs.Kept.{waiting}
use Rattle.step_core.proofs.Begun.{lowers}
use Rattle.step_core.proofs.Stood.{stands_anyway}
use Rattle.step_core.proofs.entering.begin_label.Goals as goal

pub returns-clause-standing : goal.returns-clause-standing
returns-clause-standing g c = stands_anyway g.L.Labels.made g.L.Labels.meaning c.begin_labelled.new.labels (waiting c.args.stack.now.tasks) c.begin_labelled.new.stack c.begin_labelled.new.world c.begin_labelled.result c.begin_labelled.ensures.standing

pub returns-clause-lowers : goal.returns-clause-lowers
returns-clause-lowers g c = lowers c.args.stack.now c.begin_labelled.new.stack (control.Labelled c.args.text c.args.s) 1 c.begin_labelled.result (omega arith) c.begin_labelled.ensures.adds
