use Rattle.std.proofs.Common.{refl, sym, ap, ◌∙◌, ◌++◌}
use Rattle.js_ast.specs.declared.trees.Declaration.{out-Declaration}
use Rattle.js_ast.specs.declared.trees.Clause.{out-Clause}
use Rattle.js_ast.specs.Nodes.{nodes_of}
use Rattle.js_ast.specs.declared.trees.ExprKind as expr
use Rattle.js_ast.specs.declared.trees.StmtKind as stmt
use Rattle.js_ast.specs.Trees as trees
use Rattle.js_ast.specs.Trees.{no_items, paren, object, member, index, function, call, postfix, unary, binary, assign, conditional, block_of, block, var, expression, do_while, while, for, for_in, return, throw, switch, try_catch, try_finally, try_both, function_declaration}
use Rattle.js_ast.specs.Views.{view_expr, view_maybe_expr, view_exprs, view_item, view_items, view_property, view_properties, view_function, view_other_declarations, view_declarations, view_first, view_target, view_clauses, view_block, view_stmt, view_stmts, view_semi, view_ident}
use Rattle.js_ast.proofs.ViewLaws.{held_expr, held_exprs, held_items, held_properties, held_clauses, held_stmts}
use Rattle.js_faults.specs.ScopeViews.{scope_of}
use Rattle.js_faults.specs.Faults.{earlier_by, first_by, in_expr, in_exprs, in_maybe, in_items, in_property, in_properties, in_function, in_declarations, in_first, in_target, in_clauses, in_block, in_statement, in_statements}
use Rattle.js_faults.specs.Scopes.{looped, switched}
use Rattle.js_faults.proofs.Nodes.{both, three, expr_told, statement_told}
use Rattle.js_faults.proofs.Loops.{goes_on, ends}
use Rattle.js_faults.proofs.Parts.{values_in, step_exprs, step_items, step_properties, step_statements, step_clauses, step_values, whole_values}
use Rattle.js_faults.proofs.walk.+walk.Goals as goal

pub in_clauses-clauses-preserved : goal.in_clauses-clauses-preserved
in_clauses-clauses-preserved g t c = goes_on g.T.Told.order (λ cls. first_by g.T.Told.order (in_clauses g.T.Told.own (scope_of c.args.scope) (view_clauses cls))) (λ cl. earlier_by g.T.Told.order (first_by g.T.Told.order (in_maybe g.T.Told.own (view_maybe_expr (out-Clause cl).test))) (first_by g.T.Told.order (in_statements g.T.Told.own (scope_of c.args.scope) (view_stmts (nodes_of (out-Clause cl).body)))))
    _ _ _ _ _ _ _ (step_clauses g.T.Told.own g.T.Told.order (scope_of c.args.scope)) c.clauses-test.true c.clause-item.is c.clauses.invariant (cc (c.earlier-inner.ensures, c.in_maybe.ensures, c.in_list.ensures)) c.earlier-first.ensures

pub in_clauses-returns : goal.in_clauses-returns
in_clauses-returns g t c = let h = ends g.T.Told.order (λ cls. first_by g.T.Told.order (in_clauses g.T.Told.own (scope_of c.args.scope) (view_clauses cls))) _ _ _ _ refl c.clauses-test.false c.clauses.invariant in cc (h, c.items-clause-items.ensures)

pub in_exprs-exprs-preserved : goal.in_exprs-exprs-preserved
in_exprs-exprs-preserved g t c = goes_on g.T.Told.order (λ es. first_by g.T.Told.order (in_exprs g.T.Told.own (view_exprs es))) (λ e. first_by g.T.Told.order (in_expr g.T.Told.own (view_expr e)))
    _ _ _ _ _ _ _ (step_exprs g.T.Told.own g.T.Told.order) c.exprs-test.true c.e-item.is c.exprs.invariant c.in_expr.ensures c.earlier-first.ensures

pub in_exprs-returns : goal.in_exprs-returns
in_exprs-returns g t c = let h = ends g.T.Told.order (λ es. first_by g.T.Told.order (in_exprs g.T.Told.own (view_exprs es))) _ _ _ _ refl c.exprs-test.false c.exprs.invariant in cc (h, c.items-e-items.ensures)

pub in_items-items-preserved : goal.in_items-items-preserved
in_items-items-preserved g t c = goes_on g.T.Told.order (λ is. first_by g.T.Told.order (in_items g.T.Told.own (view_items is))) (λ i. first_by g.T.Told.order (in_items g.T.Told.own (view_item i no_items)))
    _ _ _ _ _ _ _ (step_items g.T.Told.own g.T.Told.order) c.items-test.true c.item-item.is c.items.invariant c.in_item.ensures c.earlier-first.ensures

pub in_items-returns : goal.in_items-returns
in_items-returns g t c = let h = ends g.T.Told.order (λ is. first_by g.T.Told.order (in_items g.T.Told.own (view_items is))) _ _ _ _ refl c.items-test.false c.items.invariant in cc (h, c.items-item-items.ensures)

pub in_list-statements-preserved : goal.in_list-statements-preserved
in_list-statements-preserved g t c = goes_on g.T.Told.order (λ ts. first_by g.T.Told.order (in_statements g.T.Told.own (scope_of c.args.scope) (view_stmts ts))) (λ t. first_by g.T.Told.order (in_statement g.T.Told.own (scope_of c.args.scope) (view_stmt t)))
    _ _ _ _ _ _ _ (step_statements g.T.Told.own g.T.Told.order (scope_of c.args.scope)) c.statements-test.true c.s-item.is c.statements.invariant c.in_statement.ensures c.earlier-first.ensures

pub in_list-returns : goal.in_list-returns
in_list-returns g t c = let h = ends g.T.Told.order (λ ts. first_by g.T.Told.order (in_statements g.T.Told.own (scope_of c.args.scope) (view_stmts ts))) _ _ _ _ refl c.statements-test.false c.statements.invariant in cc (h, c.items-s-items.ensures)

pub in_properties-properties-preserved : goal.in_properties-properties-preserved
in_properties-properties-preserved g t c = goes_on g.T.Told.order (λ ps. first_by g.T.Told.order (in_properties g.T.Told.own (view_properties ps))) (λ p. first_by g.T.Told.order (in_property g.T.Told.own (view_property p)))
    _ _ _ _ _ _ _ (step_properties g.T.Told.own g.T.Told.order) c.properties-test.true c.property-item.is c.properties.invariant c.in_property.ensures c.earlier-first.ensures

pub in_properties-returns : goal.in_properties-returns
in_properties-returns g t c = let h = ends g.T.Told.order (λ ps. first_by g.T.Told.order (in_properties g.T.Told.own (view_properties ps))) _ _ _ _ refl c.properties-test.false c.properties.invariant in cc (h, c.items-property-items.ensures)

pub in_declarations-others-preserved : goal.in_declarations-others-preserved
in_declarations-others-preserved g t c = goes_on g.T.Told.order (λ ds. first_by g.T.Told.order (values_in g.T.Told.own (view_other_declarations ds))) (λ d. first_by g.T.Told.order (in_maybe g.T.Told.own (view_maybe_expr (out-Declaration d).value)))
    _ _ _ _ _ _ _ (step_values g.T.Told.own g.T.Told.order) c.others-test.true c.declaration-item.is c.others.invariant c.in_maybe.ensures c.earlier-first.ensures

pub in_declarations-returns : goal.in_declarations-returns
in_declarations-returns g t c = let h = ends g.T.Told.order (λ ds. first_by g.T.Told.order (values_in g.T.Told.own (view_other_declarations ds))) _ _ _ _ refl c.others-test.false c.others.invariant in cc (h, c.items-declaration-items.ensures, c.in_maybe-first.ensures, whole_values g.T.Told.own g.T.Told.order c.args.declarations.now)

pub in_parts-returns-in-Paren : goal.in_parts-returns-in-Paren
in_parts-returns-in-Paren g t c = expr_told g.T.Told.own g.T.Told.order c.args.e.now (expr.Paren c.in-Paren.inner) (paren c.args.e.now.at (view_expr c.in-Paren.inner)) (in_expr g.T.Told.own (view_expr c.in-Paren.inner)) c.in_expr.ensures (sym c.deref.ensures ∙ c.in-Paren.is) refl refl

pub in_parts-returns-in-Array : goal.in_parts-returns-in-Array
in_parts-returns-in-Array g t c = expr_told g.T.Told.own g.T.Told.order c.args.e.now (expr.Array c.in-Array.items c.in-Array.comma) (trees.array c.args.e.now.at (view_items (nodes_of c.in-Array.items)) c.in-Array.comma) (in_items g.T.Told.own (view_items (nodes_of c.in-Array.items))) c.in_items.ensures (sym c.deref.ensures ∙ c.in-Array.is) (rw (held_items c.in-Array.items) refl) refl

pub in_parts-returns-in-Object : goal.in_parts-returns-in-Object
in_parts-returns-in-Object g t c = expr_told g.T.Told.own g.T.Told.order c.args.e.now (expr.Object c.in-Object.properties c.in-Object.comma) (object c.args.e.now.at (view_properties (nodes_of c.in-Object.properties)) c.in-Object.comma) (in_properties g.T.Told.own (view_properties (nodes_of c.in-Object.properties))) c.in_properties.ensures (sym c.deref.ensures ∙ c.in-Object.is) (rw (held_properties c.in-Object.properties) refl) refl

pub in_parts-returns-in-Function : goal.in_parts-returns-in-Function
in_parts-returns-in-Function g t c = expr_told g.T.Told.own g.T.Told.order c.args.e.now (expr.Function c.in-Function.f) (function c.args.e.now.at (view_function c.in-Function.f)) (in_function g.T.Told.own (view_function c.in-Function.f)) c.in_function.ensures (sym c.deref.ensures ∙ c.in-Function.is) refl refl

pub in_parts-returns-in-Member : goal.in_parts-returns-in-Member
in_parts-returns-in-Member g t c = expr_told g.T.Told.own g.T.Told.order c.args.e.now (expr.Member c.in-Member.base c.in-Member.name) (member c.args.e.now.at (view_expr c.in-Member.base) c.in-Member.name) (in_expr g.T.Told.own (view_expr c.in-Member.base)) c.in_expr-in-Member.ensures (sym c.deref.ensures ∙ c.in-Member.is) refl refl

pub in_parts-returns-in-Index : goal.in_parts-returns-in-Index
in_parts-returns-in-Index g t c = expr_told g.T.Told.own g.T.Told.order c.args.e.now (expr.Index c.in-Index.base c.in-Index.index) (index c.args.e.now.at (view_expr c.in-Index.base) (view_expr c.in-Index.index)) ((in_expr g.T.Told.own (view_expr c.in-Index.base)) ++ (in_expr g.T.Told.own (view_expr c.in-Index.index))) (both g.T.Told.order (in_expr g.T.Told.own (view_expr c.in-Index.base)) (in_expr g.T.Told.own (view_expr c.in-Index.index)) c.earlier.ensures c.in_expr-in-Index.ensures c.in_expr-in-Index-2.ensures) (sym c.deref.ensures ∙ c.in-Index.is) refl refl

pub in_parts-returns-in-Call : goal.in_parts-returns-in-Call
in_parts-returns-in-Call g t c = expr_told g.T.Told.own g.T.Told.order c.args.e.now (expr.Call c.in-Call.callee c.in-Call.args) (call c.args.e.now.at (view_expr c.in-Call.callee) (view_exprs (nodes_of c.in-Call.args))) ((in_expr g.T.Told.own (view_expr c.in-Call.callee)) ++ (in_exprs g.T.Told.own (view_exprs (nodes_of c.in-Call.args)))) (both g.T.Told.order (in_expr g.T.Told.own (view_expr c.in-Call.callee)) (in_exprs g.T.Told.own (view_exprs (nodes_of c.in-Call.args))) c.earlier-in-Call.ensures c.in_expr-in-Call.ensures c.in_exprs-in-Call.ensures) (sym c.deref.ensures ∙ c.in-Call.is) (rw (held_exprs c.in-Call.args) refl) refl

pub in_parts-returns-in-Postfix : goal.in_parts-returns-in-Postfix
in_parts-returns-in-Postfix g t c = expr_told g.T.Told.own g.T.Told.order c.args.e.now (expr.Postfix c.in-Postfix.operand c.in-Postfix.operator) (postfix c.args.e.now.at (view_expr c.in-Postfix.operand) c.in-Postfix.operator) (in_expr g.T.Told.own (view_expr c.in-Postfix.operand)) c.in_expr-in-Postfix.ensures (sym c.deref.ensures ∙ c.in-Postfix.is) refl refl

pub in_parts-returns-in-Unary : goal.in_parts-returns-in-Unary
in_parts-returns-in-Unary g t c = expr_told g.T.Told.own g.T.Told.order c.args.e.now (expr.Unary c.in-Unary.operator c.in-Unary.operand) (unary c.args.e.now.at c.in-Unary.operator (view_expr c.in-Unary.operand)) (in_expr g.T.Told.own (view_expr c.in-Unary.operand)) c.in_expr-in-Unary.ensures (sym c.deref.ensures ∙ c.in-Unary.is) refl refl

pub in_parts-returns-in-Binary : goal.in_parts-returns-in-Binary
in_parts-returns-in-Binary g t c = expr_told g.T.Told.own g.T.Told.order c.args.e.now (expr.Binary c.in-Binary.left c.in-Binary.operator c.in-Binary.right) (binary c.args.e.now.at (view_expr c.in-Binary.left) c.in-Binary.operator (view_expr c.in-Binary.right)) ((in_expr g.T.Told.own (view_expr c.in-Binary.left)) ++ (in_expr g.T.Told.own (view_expr c.in-Binary.right))) (both g.T.Told.order (in_expr g.T.Told.own (view_expr c.in-Binary.left)) (in_expr g.T.Told.own (view_expr c.in-Binary.right)) c.earlier-in-Binary.ensures c.in_expr-in-Binary.ensures c.in_expr-in-Binary-2.ensures) (sym c.deref.ensures ∙ c.in-Binary.is) refl refl

pub in_parts-returns-in-Comma : goal.in_parts-returns-in-Comma
in_parts-returns-in-Comma g t c = expr_told g.T.Told.own g.T.Told.order c.args.e.now (expr.Comma c.in-Comma.left c.in-Comma.right) (trees.comma c.args.e.now.at (view_expr c.in-Comma.left) (view_expr c.in-Comma.right)) ((in_expr g.T.Told.own (view_expr c.in-Comma.left)) ++ (in_expr g.T.Told.own (view_expr c.in-Comma.right))) (both g.T.Told.order (in_expr g.T.Told.own (view_expr c.in-Comma.left)) (in_expr g.T.Told.own (view_expr c.in-Comma.right)) c.earlier-in-Comma.ensures c.in_expr-in-Comma.ensures c.in_expr-in-Comma-2.ensures) (sym c.deref.ensures ∙ c.in-Comma.is) refl refl

pub in_parts-returns-in-Assign : goal.in_parts-returns-in-Assign
in_parts-returns-in-Assign g t c = expr_told g.T.Told.own g.T.Told.order c.args.e.now (expr.Assign c.in-Assign.target c.in-Assign.operator c.in-Assign.value) (assign c.args.e.now.at (view_expr c.in-Assign.target) c.in-Assign.operator (view_expr c.in-Assign.value)) ((in_expr g.T.Told.own (view_expr c.in-Assign.target)) ++ (in_expr g.T.Told.own (view_expr c.in-Assign.value))) (both g.T.Told.order (in_expr g.T.Told.own (view_expr c.in-Assign.target)) (in_expr g.T.Told.own (view_expr c.in-Assign.value)) c.earlier-in-Assign.ensures c.in_expr-in-Assign.ensures c.in_expr-in-Assign-2.ensures) (sym c.deref.ensures ∙ c.in-Assign.is) refl refl

pub in_parts-returns-in-Conditional : goal.in_parts-returns-in-Conditional
in_parts-returns-in-Conditional g t c = expr_told g.T.Told.own g.T.Told.order c.args.e.now (expr.Conditional c.in-Conditional.test c.in-Conditional.then c.in-Conditional.other) (conditional c.args.e.now.at (view_expr c.in-Conditional.test) (view_expr c.in-Conditional.then) (view_expr c.in-Conditional.other)) ((in_expr g.T.Told.own (view_expr c.in-Conditional.test)) ++ ((in_expr g.T.Told.own (view_expr c.in-Conditional.then)) ++ (in_expr g.T.Told.own (view_expr c.in-Conditional.other)))) (three g.T.Told.order (in_expr g.T.Told.own (view_expr c.in-Conditional.test)) (in_expr g.T.Told.own (view_expr c.in-Conditional.then)) (in_expr g.T.Told.own (view_expr c.in-Conditional.other)) c.earlier-in-Conditional-2.ensures c.earlier-in-Conditional.ensures c.in_expr-in-Conditional.ensures c.in_expr-in-Conditional-2.ensures c.in_expr-in-Conditional-3.ensures) (sym c.deref.ensures ∙ c.in-Conditional.is) refl refl

pub in_statement_parts-returns-in-Block : goal.in_statement_parts-returns-in-Block
in_statement_parts-returns-in-Block g t c = statement_told g.T.Told.own g.T.Told.order (scope_of c.args.scope) c.args.s.now (stmt.Block c.in-Block.list) (block (block_of c.args.s.now.at (view_stmts (nodes_of c.in-Block.list)))) (in_statements g.T.Told.own (scope_of c.args.scope) (view_stmts (nodes_of c.in-Block.list))) c.in_list.ensures (sym c.deref.ensures ∙ c.in-Block.is) (rw (held_stmts c.in-Block.list) refl) refl

pub in_statement_parts-returns-in-Var : goal.in_statement_parts-returns-in-Var
in_statement_parts-returns-in-Var g t c = statement_told g.T.Told.own g.T.Told.order (scope_of c.args.scope) c.args.s.now (stmt.Var c.in-Var.declarations c.in-Var.semi) (var c.args.s.now.at (view_declarations c.in-Var.declarations) (view_semi c.in-Var.semi)) (in_declarations g.T.Told.own (view_declarations c.in-Var.declarations)) c.in_declarations.ensures (sym c.deref.ensures ∙ c.in-Var.is) refl refl

pub in_statement_parts-returns-in-Expr : goal.in_statement_parts-returns-in-Expr
in_statement_parts-returns-in-Expr g t c = statement_told g.T.Told.own g.T.Told.order (scope_of c.args.scope) c.args.s.now (stmt.Expr c.in-Expr.expr c.in-Expr.semi) (expression c.args.s.now.at (view_expr c.in-Expr.expr) (view_semi c.in-Expr.semi)) (in_expr g.T.Told.own (view_expr c.in-Expr.expr)) c.in_expr.ensures (sym c.deref.ensures ∙ c.in-Expr.is) refl refl

pub in_statement_parts-returns-in-DoWhile : goal.in_statement_parts-returns-in-DoWhile
in_statement_parts-returns-in-DoWhile g t c = statement_told g.T.Told.own g.T.Told.order (scope_of c.args.scope) c.args.s.now (stmt.DoWhile c.in-DoWhile.body c.in-DoWhile.test c.in-DoWhile.semi) (do_while c.args.s.now.at (view_stmt c.in-DoWhile.body) (view_expr c.in-DoWhile.test) (view_semi c.in-DoWhile.semi)) ((in_statement g.T.Told.own (looped (scope_of c.args.scope)) (view_stmt c.in-DoWhile.body)) ++ (in_expr g.T.Told.own (view_expr c.in-DoWhile.test))) (both g.T.Told.order (in_statement g.T.Told.own (looped (scope_of c.args.scope)) (view_stmt c.in-DoWhile.body)) (in_expr g.T.Told.own (view_expr c.in-DoWhile.test)) c.earlier-in-DoWhile.ensures (c.in_statement-in-DoWhile.ensures ∙ ap (λ s. first_by g.T.Told.order (in_statement g.T.Told.own s (view_stmt c.in-DoWhile.body))) c.looped.ensures) c.in_expr-in-DoWhile.ensures) (sym c.deref.ensures ∙ c.in-DoWhile.is) refl refl

pub in_statement_parts-returns-in-While : goal.in_statement_parts-returns-in-While
in_statement_parts-returns-in-While g t c = statement_told g.T.Told.own g.T.Told.order (scope_of c.args.scope) c.args.s.now (stmt.While c.in-While.test c.in-While.body) (while c.args.s.now.at (view_expr c.in-While.test) (view_stmt c.in-While.body)) ((in_expr g.T.Told.own (view_expr c.in-While.test)) ++ (in_statement g.T.Told.own (looped (scope_of c.args.scope)) (view_stmt c.in-While.body))) (both g.T.Told.order (in_expr g.T.Told.own (view_expr c.in-While.test)) (in_statement g.T.Told.own (looped (scope_of c.args.scope)) (view_stmt c.in-While.body)) c.earlier-in-While.ensures c.in_expr-in-While.ensures (c.in_statement-in-While.ensures ∙ ap (λ s. first_by g.T.Told.order (in_statement g.T.Told.own s (view_stmt c.in-While.body))) c.looped-in-While.ensures)) (sym c.deref.ensures ∙ c.in-While.is) refl refl

pub in_statement_parts-returns-in-For : goal.in_statement_parts-returns-in-For
in_statement_parts-returns-in-For g t c = statement_told g.T.Told.own g.T.Told.order (scope_of c.args.scope) c.args.s.now (stmt.For c.in-For.first c.in-For.test c.in-For.update c.in-For.body) (for c.args.s.now.at (view_first c.in-For.first) (view_maybe_expr c.in-For.test) (view_maybe_expr c.in-For.update) (view_stmt c.in-For.body)) ((in_first g.T.Told.own (view_first c.in-For.first)) ++ ((in_maybe g.T.Told.own (view_maybe_expr c.in-For.test)) ++ ((in_maybe g.T.Told.own (view_maybe_expr c.in-For.update)) ++ (in_statement g.T.Told.own (looped (scope_of c.args.scope)) (view_stmt c.in-For.body))))) (both g.T.Told.order (in_first g.T.Told.own (view_first c.in-For.first)) ((in_maybe g.T.Told.own (view_maybe_expr c.in-For.test)) ++ ((in_maybe g.T.Told.own (view_maybe_expr c.in-For.update)) ++ (in_statement g.T.Told.own (looped (scope_of c.args.scope)) (view_stmt c.in-For.body)))) c.earlier-in-For-3.ensures c.in_first.ensures (three g.T.Told.order (in_maybe g.T.Told.own (view_maybe_expr c.in-For.test)) (in_maybe g.T.Told.own (view_maybe_expr c.in-For.update)) (in_statement g.T.Told.own (looped (scope_of c.args.scope)) (view_stmt c.in-For.body)) c.earlier-in-For-2.ensures c.earlier-in-For.ensures c.in_maybe.ensures c.in_maybe-in-For.ensures (c.in_statement-in-For.ensures ∙ ap (λ s. first_by g.T.Told.order (in_statement g.T.Told.own s (view_stmt c.in-For.body))) c.looped-in-For.ensures))) (sym c.deref.ensures ∙ c.in-For.is) (rw (held_expr c.in-For.test, held_expr c.in-For.update) refl) refl

pub in_statement_parts-returns-in-ForIn : goal.in_statement_parts-returns-in-ForIn
in_statement_parts-returns-in-ForIn g t c = statement_told g.T.Told.own g.T.Told.order (scope_of c.args.scope) c.args.s.now (stmt.ForIn c.in-ForIn.target c.in-ForIn.object c.in-ForIn.body) (for_in c.args.s.now.at (view_target c.in-ForIn.target) (view_expr c.in-ForIn.object) (view_stmt c.in-ForIn.body)) ((in_target g.T.Told.own (view_target c.in-ForIn.target)) ++ ((in_expr g.T.Told.own (view_expr c.in-ForIn.object)) ++ (in_statement g.T.Told.own (looped (scope_of c.args.scope)) (view_stmt c.in-ForIn.body)))) (three g.T.Told.order (in_target g.T.Told.own (view_target c.in-ForIn.target)) (in_expr g.T.Told.own (view_expr c.in-ForIn.object)) (in_statement g.T.Told.own (looped (scope_of c.args.scope)) (view_stmt c.in-ForIn.body)) c.earlier-in-ForIn-2.ensures c.earlier-in-ForIn.ensures c.in_target.ensures c.in_expr-in-ForIn.ensures (c.in_statement-in-ForIn.ensures ∙ ap (λ s. first_by g.T.Told.order (in_statement g.T.Told.own s (view_stmt c.in-ForIn.body))) c.looped-in-ForIn.ensures)) (sym c.deref.ensures ∙ c.in-ForIn.is) refl refl

pub in_statement_parts-returns-in-Return : goal.in_statement_parts-returns-in-Return
in_statement_parts-returns-in-Return g t c = statement_told g.T.Told.own g.T.Told.order (scope_of c.args.scope) c.args.s.now (stmt.Return c.in-Return.value c.in-Return.semi) (return c.args.s.now.at (view_maybe_expr c.in-Return.value) (view_semi c.in-Return.semi)) (in_maybe g.T.Told.own (view_maybe_expr c.in-Return.value)) c.in_maybe-in-Return.ensures (sym c.deref.ensures ∙ c.in-Return.is) (rw (held_expr c.in-Return.value) refl) refl

pub in_statement_parts-returns-in-Throw : goal.in_statement_parts-returns-in-Throw
in_statement_parts-returns-in-Throw g t c = statement_told g.T.Told.own g.T.Told.order (scope_of c.args.scope) c.args.s.now (stmt.Throw c.in-Throw.value c.in-Throw.semi) (throw c.args.s.now.at (view_expr c.in-Throw.value) (view_semi c.in-Throw.semi)) (in_expr g.T.Told.own (view_expr c.in-Throw.value)) c.in_expr-in-Throw.ensures (sym c.deref.ensures ∙ c.in-Throw.is) refl refl

pub in_statement_parts-returns-in-Switch : goal.in_statement_parts-returns-in-Switch
in_statement_parts-returns-in-Switch g t c = statement_told g.T.Told.own g.T.Told.order (scope_of c.args.scope) c.args.s.now (stmt.Switch c.in-Switch.value c.in-Switch.clauses) (switch c.args.s.now.at (view_expr c.in-Switch.value) (view_clauses (nodes_of c.in-Switch.clauses))) ((in_expr g.T.Told.own (view_expr c.in-Switch.value)) ++ (in_clauses g.T.Told.own (switched (scope_of c.args.scope)) (view_clauses (nodes_of c.in-Switch.clauses)))) (both g.T.Told.order (in_expr g.T.Told.own (view_expr c.in-Switch.value)) (in_clauses g.T.Told.own (switched (scope_of c.args.scope)) (view_clauses (nodes_of c.in-Switch.clauses))) c.earlier-in-Switch.ensures c.in_expr-in-Switch.ensures (c.in_clauses.ensures ∙ ap (λ s. first_by g.T.Told.order (in_clauses g.T.Told.own s (view_clauses (nodes_of c.in-Switch.clauses)))) c.switched.ensures)) (sym c.deref.ensures ∙ c.in-Switch.is) (rw (held_clauses c.in-Switch.clauses) refl) refl

pub in_statement_parts-returns-in-TryCatch : goal.in_statement_parts-returns-in-TryCatch
in_statement_parts-returns-in-TryCatch g t c = statement_told g.T.Told.own g.T.Told.order (scope_of c.args.scope) c.args.s.now (stmt.TryCatch c.in-TryCatch.block c.in-TryCatch.param c.in-TryCatch.handler) (try_catch c.args.s.now.at (view_block c.in-TryCatch.block) (view_ident c.in-TryCatch.param) (view_block c.in-TryCatch.handler)) ((in_block g.T.Told.own (scope_of c.args.scope) (view_block c.in-TryCatch.block)) ++ (in_block g.T.Told.own (scope_of c.args.scope) (view_block c.in-TryCatch.handler))) (both g.T.Told.order (in_block g.T.Told.own (scope_of c.args.scope) (view_block c.in-TryCatch.block)) (in_block g.T.Told.own (scope_of c.args.scope) (view_block c.in-TryCatch.handler)) c.earlier-in-TryCatch.ensures c.in_block.ensures c.in_block-in-TryCatch.ensures) (sym c.deref.ensures ∙ c.in-TryCatch.is) refl refl

pub in_statement_parts-returns-in-TryFinally : goal.in_statement_parts-returns-in-TryFinally
in_statement_parts-returns-in-TryFinally g t c = statement_told g.T.Told.own g.T.Told.order (scope_of c.args.scope) c.args.s.now (stmt.TryFinally c.in-TryFinally.block c.in-TryFinally.finalizer) (try_finally c.args.s.now.at (view_block c.in-TryFinally.block) (view_block c.in-TryFinally.finalizer)) ((in_block g.T.Told.own (scope_of c.args.scope) (view_block c.in-TryFinally.block)) ++ (in_block g.T.Told.own (scope_of c.args.scope) (view_block c.in-TryFinally.finalizer))) (both g.T.Told.order (in_block g.T.Told.own (scope_of c.args.scope) (view_block c.in-TryFinally.block)) (in_block g.T.Told.own (scope_of c.args.scope) (view_block c.in-TryFinally.finalizer)) c.earlier-in-TryFinally.ensures c.in_block-in-TryFinally.ensures c.in_block-in-TryFinally-2.ensures) (sym c.deref.ensures ∙ c.in-TryFinally.is) refl refl

pub in_statement_parts-returns-in-TryBoth : goal.in_statement_parts-returns-in-TryBoth
in_statement_parts-returns-in-TryBoth g t c = statement_told g.T.Told.own g.T.Told.order (scope_of c.args.scope) c.args.s.now (stmt.TryBoth c.in-TryBoth.block c.in-TryBoth.param c.in-TryBoth.handler c.in-TryBoth.finalizer) (try_both c.args.s.now.at (view_block c.in-TryBoth.block) (view_ident c.in-TryBoth.param) (view_block c.in-TryBoth.handler) (view_block c.in-TryBoth.finalizer)) ((in_block g.T.Told.own (scope_of c.args.scope) (view_block c.in-TryBoth.block)) ++ ((in_block g.T.Told.own (scope_of c.args.scope) (view_block c.in-TryBoth.handler)) ++ (in_block g.T.Told.own (scope_of c.args.scope) (view_block c.in-TryBoth.finalizer)))) (three g.T.Told.order (in_block g.T.Told.own (scope_of c.args.scope) (view_block c.in-TryBoth.block)) (in_block g.T.Told.own (scope_of c.args.scope) (view_block c.in-TryBoth.handler)) (in_block g.T.Told.own (scope_of c.args.scope) (view_block c.in-TryBoth.finalizer)) c.earlier-in-TryBoth-2.ensures c.earlier-in-TryBoth.ensures c.in_block-in-TryBoth.ensures c.in_block-in-TryBoth-2.ensures c.in_block-in-TryBoth-3.ensures) (sym c.deref.ensures ∙ c.in-TryBoth.is) refl refl

pub in_statement_parts-returns-in-Function : goal.in_statement_parts-returns-in-Function
in_statement_parts-returns-in-Function g t c = statement_told g.T.Told.own g.T.Told.order (scope_of c.args.scope) c.args.s.now (stmt.Function c.in-Function.f) (function_declaration c.args.s.now.at (view_function c.in-Function.f)) (in_function g.T.Told.own (view_function c.in-Function.f)) c.in_function.ensures (sym c.deref.ensures ∙ c.in-Function.is) refl refl
