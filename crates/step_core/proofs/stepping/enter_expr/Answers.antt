use Rattle.std.proofs.Common.{◌-◌, length, refl}
use Rattle.continuations.specs.declared.continuation.Control.TheVariants as control
use Rattle.continuations.specs.Kept.{scopes_of}
use Rattle.continuations.specs.Pending.{values_of}
use Rattle.step_natives.specs.States.{waiting_steps}
use Rattle.step_core.proofs.StepLaws.{all_wait, entered_steps, one_less, spent_steps, standing_waiting}
use Rattle.step_core.proofs.stepping.enter_expr.Goals as goal

pub enter_expression-moved-requires : goal.enter_expression-moved-requires
enter_expression-moved-requires g c =
    let old = c.args.progress.now in
    record { standing = standing_waiting g.L.Labels.made g.L.Labels.meaning c.args.labels.now old.stack old.world (values_of (control.Expr c.args.e)) (length old.natives.states) (scopes_of old.stack.tasks) (control.Expr c.args.e) refl c.requires.standing }

pub returns-then-progress-eq0-clause-stepped : goal.returns-then-progress-eq0-clause-stepped
returns-then-progress-eq0-clause-stepped g c tables inputs set functions tells asks =
    spent_steps g.L.Labels.made g.L.Labels.meaning c.args.labels.now tables inputs set functions tells asks c.args.progress.now (control.Expr c.args.e) refl c.if-progress-eq0.true

pub returns-clause-stepped : goal.returns-clause-stepped
returns-clause-stepped g c tables inputs set functions tells asks =
    let old = c.args.progress.now in
    entered_steps g.L.Labels.made g.L.Labels.meaning c.args.labels.now tables inputs set functions tells asks old (control.Expr c.args.e) (old.turns - 1) c.enter_expression-moved.new.stack c.args.progress.now.world c.enter_expression-moved.result c.still_step.result c.still_step.ensures refl
    (one_less old.turns c.if-progress-eq0.false)
    (all_wait g.L.Labels.made g.L.Labels.meaning c.args.labels.now old.stack old.world (values_of (control.Expr c.args.e)) (length old.natives.states) (scopes_of old.stack.tasks) (control.Expr c.args.e) refl c.requires.standing)
    (c.enter_expression-moved.ensures.enters tables inputs set functions (waiting_steps tells asks old.natives)) c.enter_expression-moved.ensures.standing c.enter_expression-moved.ensures.adds c.enter_expression-moved.ensures.stopped
