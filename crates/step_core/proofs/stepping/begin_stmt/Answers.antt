use Rattle.std.proofs.Common.{length}
use Rattle.continuations.specs.declared.continuation.Control.TheVariants as control
use Rattle.continuations.specs.Kept.{scopes_of}
use Rattle.step_core.proofs.AtOnce.{stands_later, undone_stands, undone_steps}
use Rattle.step_core.proofs.stepping.begin_stmt.Goals as goal

pub enter_stmt-requires : goal.enter_stmt-requires
enter_stmt-requires g c =
    let L = g.L.Labels in
    let old = c.args.progress.now in
    record {
      standing = undone_stands L.made L.meaning c.stmt_at_once.new.labels old c.stmt_at_once.new.progress (control.Stmt c.args.s) (c.in_ok-stmt_at_once.ensures.unchanged c.if-branch.false)
          (stands_later L.made L.meaning L.room L.firm c.args.labels.now c.stmt_at_once.new.labels c.stmt_at_once.ensures.kept g.met.L.Labels.rising old.stack old.world (scopes_of old.stack.tasks) 0 (length old.natives.states) (control.Stmt c.args.s) c.requires.standing);
    }

pub returns-then-branch-clause-stepped : goal.returns-then-branch-clause-stepped
returns-then-branch-clause-stepped g c tables inputs set functions tells asks = c.in_ok-stmt_at_once.ensures.stepped tables inputs set functions tells asks c.if-branch.true

pub returns-else-branch-clause-stepped : goal.returns-else-branch-clause-stepped
returns-else-branch-clause-stepped g c tables inputs set functions tells asks =
    undone_steps g.L.Labels.made g.L.Labels.meaning c.enter_stmt.new.labels tables inputs set functions tells asks c.args.progress.now c.stmt_at_once.new.progress c.enter_stmt.new.progress (control.Stmt c.args.s) c.enter_stmt.result (c.in_ok-stmt_at_once.ensures.unchanged c.if-branch.false) (c.enter_stmt.ensures.stepped tables inputs set functions tells asks)
