use Rattle.std.proofs.Common.{◌-◌, length}
use Rattle.continuations.specs.Kept.{scopes_of}
use Rattle.continuations.specs.Pending.{values_of}
use Rattle.step_natives.specs.States.{waiting_steps}
use Rattle.step_core.proofs.StepLaws.{all_wait, entered_steps, enters_still, one_less, spent_steps, standing_waiting}
use Rattle.step_core.proofs.stepping.enter_part.Goals as goal

pub enter-moved-requires : goal.enter-moved-requires
enter-moved-requires g c =
    let old = c.args.progress.now in
    record { standing = standing_waiting g.L.Labels.made g.L.Labels.meaning c.args.labels.now old.stack old.world (values_of c.args.next) (length old.natives.states) (scopes_of old.stack.tasks) c.args.next (enters_still c.args.next c.requires.enters) c.requires.standing }

pub returns-then-progress-eq0-clause-stepped : goal.returns-then-progress-eq0-clause-stepped
returns-then-progress-eq0-clause-stepped g c tables inputs set functions tells asks =
    spent_steps g.L.Labels.made g.L.Labels.meaning c.args.labels.now tables inputs set functions tells asks c.args.progress.now c.args.next c.requires.enters c.if-progress-eq0.true

pub returns-clause-stepped : goal.returns-clause-stepped
returns-clause-stepped g c tables inputs set functions tells asks =
    let old = c.args.progress.now in
    entered_steps g.L.Labels.made g.L.Labels.meaning c.enter-moved.new.labels tables inputs set functions tells asks old c.args.next (old.turns - 1) c.enter-moved.new.stack c.enter-moved.new.world c.enter-moved.result c.still_step.result c.still_step.ensures c.requires.enters
    (one_less old.turns c.if-progress-eq0.false)
    (all_wait g.L.Labels.made g.L.Labels.meaning c.args.labels.now old.stack old.world (values_of c.args.next) (length old.natives.states) (scopes_of old.stack.tasks) c.args.next (enters_still c.args.next c.requires.enters) c.requires.standing)
    (c.enter-moved.ensures.enters tables inputs set functions (waiting_steps tells asks old.natives)) c.enter-moved.ensures.standing c.enter-moved.ensures.adds c.enter-moved.ensures.stopped
