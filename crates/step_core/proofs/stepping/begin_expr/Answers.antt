use Rattle.std.proofs.Common.{length}
use Rattle.continuations.specs.declared.continuation.Control.TheVariants as control
use Rattle.continuations.specs.Kept.{scopes_of}
use Rattle.step_core.proofs.AtOnce.{stands_later, undone_stands, undone_steps}
use Rattle.step_core.proofs.stepping.begin_expr.Goals as goal

pub enter_expr-requires : goal.enter_expr-requires
enter_expr-requires g c =
    let L = g.L.Labels in
    let old = c.args.progress.now in
    record {
      standing = undone_stands L.made L.meaning c.expr_at_once.new.labels old c.expr_at_once.new.progress (control.Expr c.args.e) (c.in_ok-expr_at_once.ensures.unchanged c.if-branch.false)
          (stands_later L.made L.meaning L.room L.firm c.args.labels.now c.expr_at_once.new.labels c.expr_at_once.ensures.kept g.met.L.Labels.rising old.stack old.world (scopes_of old.stack.tasks) 0 (length old.natives.states) (control.Expr c.args.e) c.requires.standing);
    }

pub returns-then-branch-clause-stepped : goal.returns-then-branch-clause-stepped
returns-then-branch-clause-stepped g c tables inputs set functions tells asks = c.in_ok-expr_at_once.ensures.stepped tables inputs set functions tells asks c.if-branch.true

pub returns-else-branch-clause-stepped : goal.returns-else-branch-clause-stepped
returns-else-branch-clause-stepped g c tables inputs set functions tells asks =
    undone_steps g.L.Labels.made g.L.Labels.meaning c.enter_expr.new.labels tables inputs set functions tells asks c.args.progress.now c.expr_at_once.new.progress c.enter_expr.new.progress (control.Expr c.args.e) c.enter_expr.result (c.in_ok-expr_at_once.ensures.unchanged c.if-branch.false) (c.enter_expr.ensures.stepped tables inputs set functions tells asks)
