use Rattle.std.proofs.Common.{refl}
use Rattle.js_values.specs.Readings.{read_value}
use Rattle.flow_meaning.specs.Planned.{jumped}
use Rattle.step_natives.specs.States.{waiting_steps}
use Rattle.continuations.specs.declared.continuation.Control.TheVariants as control
use Rattle.continuations.specs.Shapes.{jump_of}
use Rattle.step_core.proofs.StepLaws.{after_steps}
use Rattle.step_core.proofs.stepping.pass_on.Goals as goal

pub returns-clause-stepped : goal.returns-clause-stepped
returns-clause-stepped g c tables inputs set functions tells asks value alone =
    let old = c.args.progress.now in
    after_steps g.L.Labels.made g.L.Labels.meaning c.pass_work-moved.new.labels tables inputs set functions tells asks old c.args.work (λ reading. jumped (jump_of c.args.jump (read_value reading value))) (control.Jumps c.args.jump)
    c.pass_work-moved.new.stack c.pass_work-moved.new.world c.pass_work-moved.result c.still_step.result c.still_step.ensures refl c.requires.natives
    (c.pass_work-moved.ensures.passes tables inputs set functions (waiting_steps tells asks old.natives) value alone) c.pass_work-moved.ensures.standing c.pass_work-moved.ensures.adds c.pass_work-moved.ensures.stopped
