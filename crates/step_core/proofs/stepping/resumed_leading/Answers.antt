use Rattle.std.proofs.Common.{refl}
use Rattle.step_natives.specs.States.{waiting_steps}
use Rattle.continuations.specs.declared.continuation.Control.TheVariants as control
use Rattle.step_core.specs.Stepping.{completion_above}
use Rattle.step_core.proofs.StepLaws.{after_steps}
use Rattle.step_core.proofs.stepping.resumed_leading.Goals as goal

pub returns-clause-stepped : goal.returns-clause-stepped
returns-clause-stepped g c tables inputs set functions tells asks =
    let old = c.args.progress.now in
    let w = c.args.work in
    after_steps g.L.Labels.made g.L.Labels.meaning c.resume_leading-moved.new.labels tables inputs set functions tells asks old w (λ reading. completion_above tables inputs set functions tells asks reading old w) control.Value
    c.resume_leading-moved.new.stack c.resume_leading-moved.new.world c.resume_leading-moved.result c.still_step.result c.still_step.ensures refl c.requires.natives
    (c.resume_leading-moved.ensures.resumes tables inputs set functions (waiting_steps tells asks old.natives)) c.resume_leading-moved.ensures.standing c.resume_leading-moved.ensures.adds c.resume_leading-moved.ensures.stopped
