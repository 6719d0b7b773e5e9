use Rattle.std.proofs.Common.{length}
use Rattle.function_table.specs.Tables.{table}
use Rattle.step_natives.specs.States.{waiting_steps}
use Rattle.continuations.specs.Kept.{scopes_of}
use Rattle.continuations.specs.Pending.{values_of}
use Rattle.step_core.proofs.StepLaws.{all_wait, began_steps, makes_still, standing_waiting}
use Rattle.step_core.proofs.stepping.begin_making.Goals as goal

pub make_value-moved-requires-clause-standing : goal.make_value-moved-requires-clause-standing
make_value-moved-requires-clause-standing g c =
    let old = c.args.progress.now in
    standing_waiting g.L.Labels.made g.L.Labels.meaning c.args.labels.now old.stack old.world (values_of c.args.next) (length old.natives.states) (scopes_of old.stack.tasks) c.args.next (makes_still c.args.next c.requires.makes) c.requires.standing

pub returns-clause-stepped : goal.returns-clause-stepped
returns-clause-stepped g c tables inputs set tells asks =
    let old = c.args.progress.now in
    let still = makes_still c.args.next c.requires.makes in
    began_steps g.L.Labels.made g.L.Labels.meaning c.make_value-moved.new.labels tables inputs set (table c.args.functions.now) tells asks old c.args.next c.make_value-moved.new.stack c.make_value-moved.new.world c.make_value-moved.result c.still_step.result c.still_step.ensures still
    (all_wait g.L.Labels.made g.L.Labels.meaning c.args.labels.now old.stack old.world (values_of c.args.next) (length old.natives.states) (scopes_of old.stack.tasks) c.args.next still c.requires.standing)
    (c.make_value-moved.ensures.begins tables inputs set (waiting_steps tells asks old.natives)) c.make_value-moved.ensures.standing c.make_value-moved.ensures.lowers c.make_value-moved.ensures.stopped
