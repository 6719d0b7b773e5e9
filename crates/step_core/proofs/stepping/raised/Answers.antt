use Rattle.std.proofs.Common.{refl}
use Rattle.step_natives.specs.States.{waiting_steps}
use Rattle.continuations.specs.declared.continuation.Control.TheVariants as control
use Rattle.continuations.specs.declared.continuation.Continuation.TheVariants as continuation
use Rattle.step_core.specs.Stepping.{completion_above}
use Rattle.step_core.proofs.StepLaws.{after_steps}
use Rattle.step_core.proofs.stepping.raised.Goals as goal

pub returns-clause-stepped : goal.returns-clause-stepped
returns-clause-stepped g c inputs set functions tells asks =
    let old = c.args.progress.now in
    let w = continuation.Raise c.args.e in
    after_steps g.L.Labels.made g.L.Labels.meaning c.raise_on-moved.new.labels c.args.policy.now inputs set functions tells asks old w (λ reading. completion_above c.args.policy.now inputs set functions tells asks reading old w) control.Value
    c.raise_on-moved.new.stack c.raise_on-moved.new.world c.raise_on-moved.result c.still_step.result c.still_step.ensures refl c.requires.natives
    (c.raise_on-moved.ensures.resumes inputs set functions (waiting_steps tells asks old.natives)) c.raise_on-moved.ensures.standing c.raise_on-moved.ensures.adds c.raise_on-moved.ensures.stopped
