use Rattle.std.proofs.Common.{rules, sym, ap, ◌∙◌, ◌≡◌}
use Rattle.std.specs.Option.{option_map}
use Rattle.js_ast.specs.declared.trees.ExprKind.TheViews.{the_lemmas}
use Rattle.js_ast.specs.Trees as trees
use Rattle.js_ast.specs.Views.{view_expr, view_semi, view_stmt}
use Rattle.step_numbers.proofs.AssignLaws.{finishes}
use Rattle.step_numbers.proofs.TriedLaws.{finished_as}
use Rattle.step_numbers.proofs.assigning.finish.Goals as goal

pub returns-in_ok-given-in-Expr-clause-finishes : goal.returns-in_ok-given-in-Expr-clause-finishes
returns-in_ok-given-in-Expr-clause-finishes g c =
    let is : view_stmt c.args.s.now ≡ trees.expression c.args.s.now.at (view_expr c.in-Expr.expr) (view_semi c.in-Expr.semi) = search (rules, the_lemmas, c.in-Expr.is) in
    let given = c.in_ok-given-in-Expr.given in
    finishes g.L.Labels.made g.L.Labels.meaning c.assigned.new.labels c.args.s.now.at c.args.at.0 (view_stmt c.args.s.now) (view_expr c.in-Expr.expr) (view_semi c.in-Expr.semi) c.args.world.now c.assigned.new.world c.args.turns given.number given.label given.turns
    is c.if-turns-eq0.false c.in_ok-given-in-Expr.ensures.gives

pub returns-in_err-given-in-Expr-clause-exact : goal.returns-in_err-given-in-Expr-clause-exact
returns-in_err-given-in-Expr-clause-exact g c firm =
    let reading = g.L.Labels.meaning c.args.labels.now in
    let w = c.args.world.now in
    let s = c.args.s.now in
    let is : view_stmt s ≡ trees.expression s.at (view_expr c.in-Expr.expr) (view_semi c.in-Expr.semi) = search (rules, the_lemmas, c.in-Expr.is) in
    c.from_residual.ensures ∙ ap (option_map (λ x. x.1)) (c.in_err-given-in-Expr.ensures.exact firm) ∙ sym (finished_as reading w c.args.at.0 (view_stmt s) (view_expr c.in-Expr.expr) (view_semi c.in-Expr.semi) s.at c.args.turns is c.if-turns-eq0.false)

pub returns-in_ok-given-in-Expr-clause-exact : goal.returns-in_ok-given-in-Expr-clause-exact
returns-in_ok-given-in-Expr-clause-exact g c firm =
    let reading = g.L.Labels.meaning c.args.labels.now in
    let w = c.args.world.now in
    let s = c.args.s.now in
    let is : view_stmt s ≡ trees.expression s.at (view_expr c.in-Expr.expr) (view_semi c.in-Expr.semi) = search (rules, the_lemmas, c.in-Expr.is) in
    ap (option_map (λ x. x.1)) (c.in_ok-given-in-Expr.ensures.exact firm) ∙ sym (finished_as reading w c.args.at.0 (view_stmt s) (view_expr c.in-Expr.expr) (view_semi c.in-Expr.semi) s.at c.args.turns is c.if-turns-eq0.false)
