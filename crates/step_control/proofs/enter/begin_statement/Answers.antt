use Rattle.std.proofs.Common.{rules, sym, ap, ◌∙◌, ◌≡◌}
use Rattle.js_ast.specs.Nodes.{nodes_of}
use Rattle.js_ast.specs.Trees.{block, block_of, expression, if_then, if_else, throw}
use Rattle.js_ast.specs.Views.{view_expr, view_semi, view_stmt, view_stmts}
use Rattle.js_ast.proofs.ViewLaws.{held_stmts}
use Rattle.js_ast.specs.declared.trees.ExprKind.TheViews.{the_lemmas}
use Rattle.es_meaning.specs.Evaluation.{stmt_step, statements}
use Rattle.flow_meaning.specs.Planned.{planned, asking}
use Rattle.continuations.proofs.Behind.{begins_as}
use Rattle.step_control.proofs.enter.begin_statement.Goals as goal
use Rattle.continuations.specs.Settings.{entrance}

pub returns-in-Block-clause-goes_on : goal.returns-in-Block-clause-goes_on
unfolding stmt_step
returns-in-Block-clause-goes_on g c =
    let is : view_stmt c.args.s.now ≡ block (block_of c.args.s.now.at (view_stmts (nodes_of c.in-Block.list))) = search (rules, held_stmts, the_lemmas, c.in-Block.is) in
    let whole = is ∙ ap (λ ss. block (block_of c.args.s.now.at (view_stmts ss))) (sym c.items.ensures) in
    begins_as (λ tables inputs set functions e. statements (planned tables inputs set functions) (asking tables inputs set functions) (view_stmts c.items.result.now) e.env) _ _ _ _ (λ tables inputs set functions e s. sym (ap (λ x. stmt_step (planned tables inputs set functions) (entrance tables inputs set functions) (asking tables inputs set functions) x e.env s) whole)) c.begin_statements.ensures.goes_on

pub returns-in-None-clause-goes_on : goal.returns-in-None-clause-goes_on
unfolding stmt_step
returns-in-None-clause-goes_on g c =
    let is : view_stmt c.args.s.now ≡ if_then c.args.s.now.at (view_expr c.in-If.test) (view_stmt c.in-If.then) = search (rules, the_lemmas, c.in-If.is, c.in-None.is) in
    begins_as _ _ _ _ _ (λ tables inputs set functions e s. sym (ap (λ x. stmt_step (planned tables inputs set functions) (entrance tables inputs set functions) (asking tables inputs set functions) x e.env s) is)) c.begin_if.ensures.goes_on

pub returns-in-Some-clause-goes_on : goal.returns-in-Some-clause-goes_on
unfolding stmt_step
returns-in-Some-clause-goes_on g c =
    let is : view_stmt c.args.s.now ≡ if_else c.args.s.now.at (view_expr c.in-If.test) (view_stmt c.in-If.then) (view_stmt c.in-Some.other) = search (rules, the_lemmas, c.in-If.is, c.in-Some.is) in
    begins_as _ _ _ _ _ (λ tables inputs set functions e s. sym (ap (λ x. stmt_step (planned tables inputs set functions) (entrance tables inputs set functions) (asking tables inputs set functions) x e.env s) is)) c.begin_if_else.ensures.goes_on

pub returns-in-Expr-clause-goes_on : goal.returns-in-Expr-clause-goes_on
unfolding stmt_step
returns-in-Expr-clause-goes_on g c =
    let is : view_stmt c.args.s.now ≡ expression c.args.s.now.at (view_expr c.in-Expr.expr) (view_semi c.in-Expr.semi) = search (rules, the_lemmas, c.in-Expr.is) in
    begins_as _ _ _ _ _ (λ tables inputs set functions e s. sym (ap (λ x. stmt_step (planned tables inputs set functions) (entrance tables inputs set functions) (asking tables inputs set functions) x e.env s) is)) c.begin_discard.ensures.goes_on

pub returns-in-Throw-clause-goes_on : goal.returns-in-Throw-clause-goes_on
unfolding stmt_step
returns-in-Throw-clause-goes_on g c =
    let is : view_stmt c.args.s.now ≡ throw c.args.s.now.at (view_expr c.in-Throw.value) (view_semi c.in-Throw.semi) = search (rules, the_lemmas, c.in-Throw.is) in
    begins_as _ _ _ _ _ (λ tables inputs set functions e s. sym (ap (λ x. stmt_step (planned tables inputs set functions) (entrance tables inputs set functions) (asking tables inputs set functions) x e.env s) is)) c.begin_throw.ensures.goes_on
