use Rattle.std.proofs.Common.{rules, sym, ap, ◌≡◌}
use Rattle.js_ast.specs.Trees.{target_expr, target_var}
use Rattle.js_ast.specs.Views.{view_expr, view_ident, view_target}
use Rattle.js_ast.specs.declared.trees.ExprKind.TheViews.{the_lemmas}
use Rattle.es_meaning.specs.Evaluation.{target_step}
use Rattle.es_meaning.specs.Plain.{key_text}
use Rattle.flow_meaning.specs.Planned.{planned, asking}
use Rattle.step_control.proofs.visits.given_key.Goals as goal
use Rattle.continuations.specs.Settings.{entrance}

pub returns-in-Expr-clause-plan : goal.returns-in-Expr-clause-plan
unfolding target_step
returns-in-Expr-clause-plan c tables inputs set functions v e s =
    let is : view_target c.args.target.now ≡ target_expr (view_expr c.in-Expr.target) = search (rules, the_lemmas, c.in-Expr.is) in
    sym (ap (λ x. target_step (planned tables inputs set functions) (entrance tables inputs set functions) (asking tables inputs set functions) x (key_text v.value) e.env.place s) is)

pub returns-in-Var-clause-plan : goal.returns-in-Var-clause-plan
unfolding target_step
returns-in-Var-clause-plan c tables inputs set functions v e s =
    let is : view_target c.args.target.now ≡ target_var (view_ident c.in-Var.variable) = search (rules, the_lemmas, c.in-Var.is) in
    sym (ap (λ x. target_step (planned tables inputs set functions) (entrance tables inputs set functions) (asking tables inputs set functions) x (key_text v.value) e.env.place s) is)
