use Rattle.continuations.specs.Kept.{scopes_of}
use Rattle.continuations.specs.Pending.{values_of}
use Rattle.step_natives.specs.States.{waiting_steps}
use Rattle.std.proofs.Common.{length}
use Rattle.step_core.proofs.StepLaws.{all_wait, began_steps, begins_still, standing_waiting}
use Rattle.step_core.proofs.stepping.begin_work.Goals as goal

pub begin_move-moved-requires-clause-standing : goal.begin_move-moved-requires-clause-standing
begin_move-moved-requires-clause-standing g c =
    let old = c.args.progress.now in
    standing_waiting g.L.Labels.made g.L.Labels.meaning c.args.labels.now old.stack old.world (values_of c.args.next) (length old.natives.states) (scopes_of old.stack.tasks) c.args.next (begins_still c.args.next c.requires.begins) c.requires.standing

pub returns-clause-stepped : goal.returns-clause-stepped
returns-clause-stepped g c tables inputs set functions tells asks =
    let old = c.args.progress.now in
    let still = begins_still c.args.next c.requires.begins in
    began_steps g.L.Labels.made g.L.Labels.meaning c.begin_move-moved.new.labels tables inputs set functions tells asks old c.args.next c.begin_move-moved.new.stack c.begin_move-moved.new.world c.begin_move-moved.result c.still_step.result c.still_step.ensures still
    (all_wait g.L.Labels.made g.L.Labels.meaning c.args.labels.now old.stack old.world (values_of c.args.next) (length old.natives.states) (scopes_of old.stack.tasks) c.args.next still c.requires.standing)
    (c.begin_move-moved.ensures.begins tables inputs set functions (waiting_steps tells asks old.natives)) c.begin_move-moved.ensures.standing (c.begin_move-moved.ensures.lowers c.requires.begins) c.begin_move-moved.ensures.stopped
