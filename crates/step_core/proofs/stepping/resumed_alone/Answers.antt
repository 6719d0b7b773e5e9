use Rattle.std.proofs.Common.{refl}
use Rattle.step_natives.specs.States.{waiting_steps}
use Rattle.continuations.specs.declared.continuation.Control.TheVariants as control
use Rattle.step_core.specs.Stepping.{completion_above}
use Rattle.step_core.proofs.StepLaws.{after_steps}
use Rattle.step_core.proofs.stepping.resumed_alone.Goals as goal

pub returns-clause-stepped : goal.returns-clause-stepped
returns-clause-stepped g c tables inputs set functions tells asks =
    let old = c.args.progress.now in
    let w = c.args.work in
    after_steps g.L.Labels.made g.L.Labels.meaning c.resume_alone-moved.new.labels tables inputs set functions tells asks old w (λ reading. completion_above tables inputs set functions tells asks reading old w) control.Value
    c.resume_alone-moved.new.stack c.resume_alone-moved.new.world c.resume_alone-moved.result c.still_step.result c.still_step.ensures refl c.requires.natives
    (c.resume_alone-moved.ensures.resumes tables inputs set functions (waiting_steps tells asks old.natives)) c.resume_alone-moved.ensures.standing c.resume_alone-moved.ensures.adds c.resume_alone-moved.ensures.stopped
