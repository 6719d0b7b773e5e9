use Rattle.std.proofs.Common.{refl, sym, ap, subst, ◌∙◌, ◌∷◌, get_or, rules}
use Rattle.js_ast.specs.declared.trees.ExprKind as expr
use Rattle.js_ast.specs.declared.trees.StmtKind as stmt
use Rattle.js_ast.specs.declared.trees.ExprKind.TheViews.{out-ExprKind, out-StmtKind}
use Rattle.js_ast.specs.Nodes.{nodes_of}
use Rattle.js_ast.specs.Trees.{more_exprs, more_properties, more_statements}
use Rattle.js_ast.specs.Views.{view_exprs, view_items, view_properties, view_other_declarations, view_clauses, view_stmts}
use Rattle.js_functions.specs.Marks.{MarkedExpr, MarkedExprs, MarkedItems, MarkedMaybe, MarkedProperties, MarkedFunction, MarkedDeclarations, MarkedFirst, MarkedTarget, MarkedClauses, MarkedBlock, MarkedStatement, MarkedStatements}
use Rattle.js_functions.proofs.Arms.{answered, expr_without, statement_without}
use Rattle.js_functions.proofs.Expressions.{array_marked, assign_marked, binary_marked, call_marked, comma_marked, conditional_marked, function_marked, index_marked, member_marked, new_bare_marked, new_with_marked, object_marked, paren_marked, postfix_marked, unary_marked}
use Rattle.js_functions.proofs.Statements.{block_marked, declared_function_marked, do_while_marked, expression_marked, for_in_marked, for_marked, if_else_marked, if_then_marked, labelled_marked, return_marked, switch_marked, throw_marked, try_both_marked, try_catch_marked, try_finally_marked, var_marked, while_marked}
use Rattle.js_ast.specs.Functions.{functions_of_exprs, functions_of_items, functions_of_properties, functions_of_others, functions_of_clauses, functions_of_statements, after}
use Rattle.js_functions.proofs.Numbered.{parts}
use Rattle.js_functions.proofs.Parts.{clause}
use Rattle.js_functions.proofs.Loops.{goes_on, ends, put_back}
use Rattle.js_functions.proofs.ListLaws.{exprs_row, items_row, same_item, properties_row, others_row, clauses_row, same_clause, statements_row}
use Rattle.js_functions.proofs.marking.+marking.Goals as goal

pub mark_expr-returns-in-Paren : goal.mark_expr-returns-in-Paren
unfolding out-ExprKind denote.Hole.Carrier.out
mark_expr-returns-in-Paren t c = answered c.mark_expr.result (λ b y. paren_marked c.args.e.now c.in-Paren.inner c.mark_expr.new.e _ (sym c.deref_mut.ensures.value ∙ c.in-Paren.is) (rw c.in-Paren.is refl) (subst (λ x. MarkedExpr c.args.strict c.args.next x c.mark_expr.new.e b) c.in-Paren.inner-is y)) c.mark_expr.ensures

pub mark_expr-returns-in-Array : goal.mark_expr-returns-in-Array
unfolding out-ExprKind denote.Hole.Carrier.out
mark_expr-returns-in-Array t c = answered c.mark_items.result (λ b y. array_marked c.args.e.now c.in-Array.items c.in-Array.comma c.mark_items.new.list _ (sym c.deref_mut.ensures.value ∙ c.in-Array.is) (rw c.in-Array.is refl) (subst (λ x. MarkedItems c.args.strict c.args.next (nodes_of x) (nodes_of c.mark_items.new.list) b) c.in-Array.items-is y)) c.mark_items.ensures

pub mark_expr-returns-in-Object : goal.mark_expr-returns-in-Object
unfolding out-ExprKind denote.Hole.Carrier.out
mark_expr-returns-in-Object t c = answered c.mark_properties.result (λ b y. object_marked c.args.e.now c.in-Object.properties c.in-Object.comma c.mark_properties.new.list _ (sym c.deref_mut.ensures.value ∙ c.in-Object.is) (rw c.in-Object.is refl) (subst (λ x. MarkedProperties c.args.strict c.args.next (nodes_of x) (nodes_of c.mark_properties.new.list) b) c.in-Object.properties-is y)) c.mark_properties.ensures

pub mark_expr-returns-in-Function : goal.mark_expr-returns-in-Function
unfolding out-ExprKind denote.Hole.Carrier.out
mark_expr-returns-in-Function t c = answered c.mark_function.result (λ b y. function_marked c.args.e.now c.in-Function.f c.mark_function.new.f _ (sym c.deref_mut.ensures.value ∙ c.in-Function.is) (rw c.in-Function.is refl) (subst (λ x. MarkedFunction c.args.strict c.args.next x c.mark_function.new.f b) c.in-Function.f-is y)) c.mark_function.ensures

pub mark_expr-returns-in-Member : goal.mark_expr-returns-in-Member
unfolding out-ExprKind denote.Hole.Carrier.out
mark_expr-returns-in-Member t c = answered c.mark_expr-in-Member.result (λ b y. member_marked c.args.e.now c.in-Member.base c.in-Member.name c.mark_expr-in-Member.new.e _ (sym c.deref_mut.ensures.value ∙ c.in-Member.is) (rw c.in-Member.is refl) (subst (λ x. MarkedExpr c.args.strict c.args.next x c.mark_expr-in-Member.new.e b) c.in-Member.base-is y)) c.mark_expr-in-Member.ensures

pub mark_expr-returns-in_ok-next-in-Index : goal.mark_expr-returns-in_ok-next-in-Index
mark_expr-returns-in_ok-next-in-Index t c = answered c.mark_expr-in-Index-2.result (λ b y. index_marked c.args.e.now c.in-Index.base c.in-Index.index c.mark_expr-in-Index.new.e c.mark_expr-in-Index-2.new.e _ (sym c.deref_mut.ensures.value ∙ c.in-Index.is) refl (subst (λ x. MarkedExpr c.args.strict c.args.next x c.mark_expr-in-Index.new.e c.in_ok-next-in-Index.next) c.in-Index.base-is c.in_ok-next-in-Index.ensures) (subst (λ x. MarkedExpr c.args.strict c.in_ok-next-in-Index.next x c.mark_expr-in-Index-2.new.e b) c.in-Index.index-is y)) c.mark_expr-in-Index-2.ensures

pub mark_expr-returns-in_ok-next-in-Call : goal.mark_expr-returns-in_ok-next-in-Call
mark_expr-returns-in_ok-next-in-Call t c = answered c.mark_exprs-in-Call.result (λ b y. call_marked c.args.e.now c.in-Call.callee c.in-Call.args c.mark_expr-in-Call.new.e c.mark_exprs-in-Call.new.list _ (sym c.deref_mut.ensures.value ∙ c.in-Call.is) refl (subst (λ x. MarkedExpr c.args.strict c.args.next x c.mark_expr-in-Call.new.e c.in_ok-next-in-Call.next) c.in-Call.callee-is c.in_ok-next-in-Call.ensures) (subst (λ x. MarkedExprs c.args.strict c.in_ok-next-in-Call.next (nodes_of x) (nodes_of c.mark_exprs-in-Call.new.list) b) c.in-Call.args-is y)) c.mark_exprs-in-Call.ensures

pub mark_expr-returns-in-Postfix : goal.mark_expr-returns-in-Postfix
unfolding out-ExprKind denote.Hole.Carrier.out
mark_expr-returns-in-Postfix t c = answered c.mark_expr-in-Postfix.result (λ b y. postfix_marked c.args.e.now c.in-Postfix.operand c.in-Postfix.operator c.mark_expr-in-Postfix.new.e _ (sym c.deref_mut.ensures.value ∙ c.in-Postfix.is) (rw c.in-Postfix.is refl) (subst (λ x. MarkedExpr c.args.strict c.args.next x c.mark_expr-in-Postfix.new.e b) c.in-Postfix.operand-is y)) c.mark_expr-in-Postfix.ensures

pub mark_expr-returns-in-Unary : goal.mark_expr-returns-in-Unary
unfolding out-ExprKind denote.Hole.Carrier.out
mark_expr-returns-in-Unary t c = answered c.mark_expr-in-Unary.result (λ b y. unary_marked c.args.e.now c.in-Unary.operator c.in-Unary.operand c.mark_expr-in-Unary.new.e _ (sym c.deref_mut.ensures.value ∙ c.in-Unary.is) (rw c.in-Unary.is refl) (subst (λ x. MarkedExpr c.args.strict c.args.next x c.mark_expr-in-Unary.new.e b) c.in-Unary.operand-is y)) c.mark_expr-in-Unary.ensures

pub mark_expr-returns-in_ok-next-in-Binary : goal.mark_expr-returns-in_ok-next-in-Binary
unfolding out-ExprKind denote.Hole.Carrier.out
mark_expr-returns-in_ok-next-in-Binary t c = answered c.mark_expr-in-Binary-2.result (λ b y. binary_marked c.args.e.now c.in-Binary.left c.in-Binary.operator c.in-Binary.right c.mark_expr-in-Binary.new.e c.mark_expr-in-Binary-2.new.e _ (sym c.deref_mut.ensures.value ∙ c.in-Binary.is) (rw c.in-Binary.is refl) (subst (λ x. MarkedExpr c.args.strict c.args.next x c.mark_expr-in-Binary.new.e c.in_ok-next-in-Binary.next) c.in-Binary.left-is c.in_ok-next-in-Binary.ensures) (subst (λ x. MarkedExpr c.args.strict c.in_ok-next-in-Binary.next x c.mark_expr-in-Binary-2.new.e b) c.in-Binary.right-is y)) c.mark_expr-in-Binary-2.ensures

pub mark_expr-returns-in_ok-next-in-Comma : goal.mark_expr-returns-in_ok-next-in-Comma
mark_expr-returns-in_ok-next-in-Comma t c = answered c.mark_expr-in-Comma-2.result (λ b y. comma_marked c.args.e.now c.in-Comma.left c.in-Comma.right c.mark_expr-in-Comma.new.e c.mark_expr-in-Comma-2.new.e _ (sym c.deref_mut.ensures.value ∙ c.in-Comma.is) refl (subst (λ x. MarkedExpr c.args.strict c.args.next x c.mark_expr-in-Comma.new.e c.in_ok-next-in-Comma.next) c.in-Comma.left-is c.in_ok-next-in-Comma.ensures) (subst (λ x. MarkedExpr c.args.strict c.in_ok-next-in-Comma.next x c.mark_expr-in-Comma-2.new.e b) c.in-Comma.right-is y)) c.mark_expr-in-Comma-2.ensures

pub mark_expr-returns-in_ok-next-in-Assign : goal.mark_expr-returns-in_ok-next-in-Assign
unfolding out-ExprKind denote.Hole.Carrier.out
mark_expr-returns-in_ok-next-in-Assign t c = answered c.mark_expr-in-Assign-2.result (λ b y. assign_marked c.args.e.now c.in-Assign.target c.in-Assign.operator c.in-Assign.value c.mark_expr-in-Assign.new.e c.mark_expr-in-Assign-2.new.e _ (sym c.deref_mut.ensures.value ∙ c.in-Assign.is) (rw c.in-Assign.is refl) (subst (λ x. MarkedExpr c.args.strict c.args.next x c.mark_expr-in-Assign.new.e c.in_ok-next-in-Assign.next) c.in-Assign.target-is c.in_ok-next-in-Assign.ensures) (subst (λ x. MarkedExpr c.args.strict c.in_ok-next-in-Assign.next x c.mark_expr-in-Assign-2.new.e b) c.in-Assign.value-is y)) c.mark_expr-in-Assign-2.ensures

pub mark_expr-returns-in_ok-next-in-Conditional-2 : goal.mark_expr-returns-in_ok-next-in-Conditional-2
mark_expr-returns-in_ok-next-in-Conditional-2 t c = answered c.mark_expr-in-Conditional-3.result (λ b y. conditional_marked c.args.e.now c.in-Conditional.test c.in-Conditional.then c.in-Conditional.other c.mark_expr-in-Conditional.new.e c.mark_expr-in-Conditional-2.new.e c.mark_expr-in-Conditional-3.new.e _ (sym c.deref_mut.ensures.value ∙ c.in-Conditional.is) refl (subst (λ x. MarkedExpr c.args.strict c.args.next x c.mark_expr-in-Conditional.new.e c.in_ok-next-in-Conditional.next) c.in-Conditional.test-is c.in_ok-next-in-Conditional.ensures) (subst (λ x. MarkedExpr c.args.strict c.in_ok-next-in-Conditional.next x c.mark_expr-in-Conditional-2.new.e c.in_ok-next-in-Conditional-2.next) c.in-Conditional.then-is c.in_ok-next-in-Conditional-2.ensures) (subst (λ x. MarkedExpr c.args.strict c.in_ok-next-in-Conditional-2.next x c.mark_expr-in-Conditional-3.new.e b) c.in-Conditional.other-is y)) c.mark_expr-in-Conditional-3.ensures

pub mark_expr-returns-in-Some : goal.mark_expr-returns-in-Some
mark_expr-returns-in-Some t c = answered c.mark_exprs.result (λ b y. new_with_marked c.args.e.now c.in-New.callee c.in-Some.args c.mark_expr-in-New.new.e c.mark_exprs.new.list _ (sym c.deref_mut.ensures.value ∙ c.in-New.is ∙ ap (expr.New c.in-New.callee) (sym c.in-New.args-is ∙ c.in-Some.is)) refl (subst (λ x. MarkedExpr c.args.strict c.args.next x c.mark_expr-in-New.new.e c.in_ok-next-in-New.next) c.in-New.callee-is c.in_ok-next-in-New.ensures) y) c.mark_exprs.ensures

pub mark_expr-returns-in-None : goal.mark_expr-returns-in-None
mark_expr-returns-in-None t c = new_bare_marked c.args.e.now c.in-New.callee c.mark_expr-in-New.new.e _ (sym c.deref_mut.ensures.value ∙ c.in-New.is ∙ ap (expr.New c.in-New.callee) (sym c.in-New.args-is ∙ c.in-None.is)) (ap (expr.New c.mark_expr-in-New.new.e) c.in-None.is) (subst (λ x. MarkedExpr c.args.strict c.args.next x c.mark_expr-in-New.new.e c.in_ok-next-in-New.next) c.in-New.callee-is c.in_ok-next-in-New.ensures)

pub mark_expr-returns : goal.mark_expr-returns
mark_expr-returns t c = expr_without c.args.e.now c.deref_mut.result.now (sym c.deref_mut.ensures.value) (search rules) (search rules)

pub mark_expr-returns-2 : goal.mark_expr-returns-2
mark_expr-returns-2 t c = expr_without c.args.e.now c.deref_mut.result.now (sym c.deref_mut.ensures.value) (search rules) (search rules)

pub mark_expr-returns-3 : goal.mark_expr-returns-3
mark_expr-returns-3 t c = expr_without c.args.e.now c.deref_mut.result.now (sym c.deref_mut.ensures.value) (search rules) (search rules)

pub mark_expr-returns-4 : goal.mark_expr-returns-4
mark_expr-returns-4 t c = expr_without c.args.e.now c.deref_mut.result.now (sym c.deref_mut.ensures.value) (search rules) (search rules)

pub mark_expr-returns-5 : goal.mark_expr-returns-5
mark_expr-returns-5 t c = expr_without c.args.e.now c.deref_mut.result.now (sym c.deref_mut.ensures.value) (search rules) (search rules)

pub mark_expr-returns-6 : goal.mark_expr-returns-6
mark_expr-returns-6 t c = expr_without c.args.e.now c.deref_mut.result.now (sym c.deref_mut.ensures.value) (search rules) (search rules)

pub mark_statement-returns-in-Block : goal.mark_statement-returns-in-Block
unfolding out-StmtKind denote.Hole.Carrier.out
mark_statement-returns-in-Block t c = answered c.mark_list.result (λ b y. block_marked c.args.s.now c.in-Block.list c.mark_list.new.list _ (sym c.deref_mut.ensures.value ∙ c.in-Block.is) (rw c.in-Block.is refl) (subst (λ x. MarkedStatements c.args.strict c.args.next (nodes_of x) (nodes_of c.mark_list.new.list) b) c.in-Block.list-is y)) c.mark_list.ensures

pub mark_statement-returns-in-Var : goal.mark_statement-returns-in-Var
unfolding out-StmtKind denote.Hole.Carrier.out
mark_statement-returns-in-Var t c = answered c.mark_declarations.result (λ b y. var_marked c.args.s.now c.in-Var.declarations c.in-Var.semi c.mark_declarations.new.declarations _ (sym c.deref_mut.ensures.value ∙ c.in-Var.is) (rw c.in-Var.is refl) (subst (λ x. MarkedDeclarations c.args.strict c.args.next x c.mark_declarations.new.declarations b) c.in-Var.declarations-is y)) c.mark_declarations.ensures

pub mark_statement-returns-in-Expr : goal.mark_statement-returns-in-Expr
unfolding out-StmtKind denote.Hole.Carrier.out
mark_statement-returns-in-Expr t c = answered c.mark_expr.result (λ b y. expression_marked c.args.s.now c.in-Expr.expr c.in-Expr.semi c.mark_expr.new.e _ (sym c.deref_mut.ensures.value ∙ c.in-Expr.is) (rw c.in-Expr.is refl) (subst (λ x. MarkedExpr c.args.strict c.args.next x c.mark_expr.new.e b) c.in-Expr.expr-is y)) c.mark_expr.ensures

pub mark_statement-returns-in_ok-next-in-DoWhile : goal.mark_statement-returns-in_ok-next-in-DoWhile
unfolding out-StmtKind denote.Hole.Carrier.out
mark_statement-returns-in_ok-next-in-DoWhile t c = answered c.mark_expr-in-DoWhile.result (λ b y. do_while_marked c.args.s.now c.in-DoWhile.body c.in-DoWhile.test c.in-DoWhile.semi c.mark_statement-in-DoWhile.new.s c.mark_expr-in-DoWhile.new.e _ (sym c.deref_mut.ensures.value ∙ c.in-DoWhile.is) (rw c.in-DoWhile.is refl) (subst (λ x. MarkedStatement c.args.strict c.args.next x c.mark_statement-in-DoWhile.new.s c.in_ok-next-in-DoWhile.next) c.in-DoWhile.body-is c.in_ok-next-in-DoWhile.ensures) (subst (λ x. MarkedExpr c.args.strict c.in_ok-next-in-DoWhile.next x c.mark_expr-in-DoWhile.new.e b) c.in-DoWhile.test-is y)) c.mark_expr-in-DoWhile.ensures

pub mark_statement-returns-in_ok-next-in-While : goal.mark_statement-returns-in_ok-next-in-While
mark_statement-returns-in_ok-next-in-While t c = answered c.mark_statement-in-While.result (λ b y. while_marked c.args.s.now c.in-While.test c.in-While.body c.mark_expr-in-While.new.e c.mark_statement-in-While.new.s _ (sym c.deref_mut.ensures.value ∙ c.in-While.is) refl (subst (λ x. MarkedExpr c.args.strict c.args.next x c.mark_expr-in-While.new.e c.in_ok-next-in-While.next) c.in-While.test-is c.in_ok-next-in-While.ensures) (subst (λ x. MarkedStatement c.args.strict c.in_ok-next-in-While.next x c.mark_statement-in-While.new.s b) c.in-While.body-is y)) c.mark_statement-in-While.ensures

pub mark_statement-returns-in_ok-next-in-For-3 : goal.mark_statement-returns-in_ok-next-in-For-3
mark_statement-returns-in_ok-next-in-For-3 t c = answered c.mark_statement-in-For.result (λ b y. for_marked c.args.s.now c.in-For.first c.in-For.test c.in-For.update c.in-For.body c.mark_first.new.first c.mark_maybe.new.e c.mark_maybe-in-For.new.e c.mark_statement-in-For.new.s _ (sym c.deref_mut.ensures.value ∙ c.in-For.is) refl (subst (λ x. MarkedFirst c.args.strict c.args.next x c.mark_first.new.first c.in_ok-next-in-For.next) c.in-For.first-is c.in_ok-next-in-For.ensures) (subst (λ x. MarkedMaybe c.args.strict c.in_ok-next-in-For.next x c.mark_maybe.new.e c.in_ok-next-in-For-2.next) c.in-For.test-is c.in_ok-next-in-For-2.ensures) (subst (λ x. MarkedMaybe c.args.strict c.in_ok-next-in-For-2.next x c.mark_maybe-in-For.new.e c.in_ok-next-in-For-3.next) c.in-For.update-is c.in_ok-next-in-For-3.ensures) (subst (λ x. MarkedStatement c.args.strict c.in_ok-next-in-For-3.next x c.mark_statement-in-For.new.s b) c.in-For.body-is y)) c.mark_statement-in-For.ensures

pub mark_statement-returns-in_ok-next-in-ForIn-2 : goal.mark_statement-returns-in_ok-next-in-ForIn-2
mark_statement-returns-in_ok-next-in-ForIn-2 t c = answered c.mark_statement-in-ForIn.result (λ b y. for_in_marked c.args.s.now c.in-ForIn.target c.in-ForIn.object c.in-ForIn.body c.mark_target.new.target c.mark_expr-in-ForIn.new.e c.mark_statement-in-ForIn.new.s _ (sym c.deref_mut.ensures.value ∙ c.in-ForIn.is) refl (subst (λ x. MarkedTarget c.args.strict c.args.next x c.mark_target.new.target c.in_ok-next-in-ForIn.next) c.in-ForIn.target-is c.in_ok-next-in-ForIn.ensures) (subst (λ x. MarkedExpr c.args.strict c.in_ok-next-in-ForIn.next x c.mark_expr-in-ForIn.new.e c.in_ok-next-in-ForIn-2.next) c.in-ForIn.object-is c.in_ok-next-in-ForIn-2.ensures) (subst (λ x. MarkedStatement c.args.strict c.in_ok-next-in-ForIn-2.next x c.mark_statement-in-ForIn.new.s b) c.in-ForIn.body-is y)) c.mark_statement-in-ForIn.ensures

pub mark_statement-returns-in-Return : goal.mark_statement-returns-in-Return
unfolding out-StmtKind denote.Hole.Carrier.out
mark_statement-returns-in-Return t c = answered c.mark_maybe-in-Return.result (λ b y. return_marked c.args.s.now c.in-Return.value c.in-Return.semi c.mark_maybe-in-Return.new.e _ (sym c.deref_mut.ensures.value ∙ c.in-Return.is) (rw c.in-Return.is refl) (subst (λ x. MarkedMaybe c.args.strict c.args.next x c.mark_maybe-in-Return.new.e b) c.in-Return.value-is y)) c.mark_maybe-in-Return.ensures

pub mark_statement-returns-in-Throw : goal.mark_statement-returns-in-Throw
unfolding out-StmtKind denote.Hole.Carrier.out
mark_statement-returns-in-Throw t c = answered c.mark_expr-in-Throw.result (λ b y. throw_marked c.args.s.now c.in-Throw.value c.in-Throw.semi c.mark_expr-in-Throw.new.e _ (sym c.deref_mut.ensures.value ∙ c.in-Throw.is) (rw c.in-Throw.is refl) (subst (λ x. MarkedExpr c.args.strict c.args.next x c.mark_expr-in-Throw.new.e b) c.in-Throw.value-is y)) c.mark_expr-in-Throw.ensures

pub mark_statement-returns-in_ok-next-in-Switch : goal.mark_statement-returns-in_ok-next-in-Switch
mark_statement-returns-in_ok-next-in-Switch t c = answered c.mark_clauses.result (λ b y. switch_marked c.args.s.now c.in-Switch.value c.in-Switch.clauses c.mark_expr-in-Switch.new.e c.mark_clauses.new.list _ (sym c.deref_mut.ensures.value ∙ c.in-Switch.is) refl (subst (λ x. MarkedExpr c.args.strict c.args.next x c.mark_expr-in-Switch.new.e c.in_ok-next-in-Switch.next) c.in-Switch.value-is c.in_ok-next-in-Switch.ensures) (subst (λ x. MarkedClauses c.args.strict c.in_ok-next-in-Switch.next (nodes_of x) (nodes_of c.mark_clauses.new.list) b) c.in-Switch.clauses-is y)) c.mark_clauses.ensures

pub mark_statement-returns-in-Labelled : goal.mark_statement-returns-in-Labelled
unfolding out-StmtKind denote.Hole.Carrier.out
mark_statement-returns-in-Labelled t c = answered c.mark_statement-in-Labelled.result (λ b y. labelled_marked c.args.s.now c.in-Labelled.label c.in-Labelled.body c.mark_statement-in-Labelled.new.s _ (sym c.deref_mut.ensures.value ∙ c.in-Labelled.is) (rw c.in-Labelled.is refl) (subst (λ x. MarkedStatement c.args.strict c.args.next x c.mark_statement-in-Labelled.new.s b) c.in-Labelled.body-is y)) c.mark_statement-in-Labelled.ensures

pub mark_statement-returns-in_ok-next-in-TryCatch : goal.mark_statement-returns-in_ok-next-in-TryCatch
unfolding out-StmtKind denote.Hole.Carrier.out
mark_statement-returns-in_ok-next-in-TryCatch t c = answered c.mark_block-in-TryCatch.result (λ b y. try_catch_marked c.args.s.now c.in-TryCatch.block c.in-TryCatch.param c.in-TryCatch.handler c.mark_block.new.block c.mark_block-in-TryCatch.new.block _ (sym c.deref_mut.ensures.value ∙ c.in-TryCatch.is) (rw c.in-TryCatch.is refl) (subst (λ x. MarkedBlock c.args.strict c.args.next x c.mark_block.new.block c.in_ok-next-in-TryCatch.next) c.in-TryCatch.block-is c.in_ok-next-in-TryCatch.ensures) (subst (λ x. MarkedBlock c.args.strict c.in_ok-next-in-TryCatch.next x c.mark_block-in-TryCatch.new.block b) c.in-TryCatch.handler-is y)) c.mark_block-in-TryCatch.ensures

pub mark_statement-returns-in_ok-next-in-TryFinally : goal.mark_statement-returns-in_ok-next-in-TryFinally
mark_statement-returns-in_ok-next-in-TryFinally t c = answered c.mark_block-in-TryFinally-2.result (λ b y. try_finally_marked c.args.s.now c.in-TryFinally.block c.in-TryFinally.finalizer c.mark_block-in-TryFinally.new.block c.mark_block-in-TryFinally-2.new.block _ (sym c.deref_mut.ensures.value ∙ c.in-TryFinally.is) refl (subst (λ x. MarkedBlock c.args.strict c.args.next x c.mark_block-in-TryFinally.new.block c.in_ok-next-in-TryFinally.next) c.in-TryFinally.block-is c.in_ok-next-in-TryFinally.ensures) (subst (λ x. MarkedBlock c.args.strict c.in_ok-next-in-TryFinally.next x c.mark_block-in-TryFinally-2.new.block b) c.in-TryFinally.finalizer-is y)) c.mark_block-in-TryFinally-2.ensures

pub mark_statement-returns-in_ok-next-in-TryBoth-2 : goal.mark_statement-returns-in_ok-next-in-TryBoth-2
unfolding out-StmtKind denote.Hole.Carrier.out
mark_statement-returns-in_ok-next-in-TryBoth-2 t c = answered c.mark_block-in-TryBoth-3.result (λ b y. try_both_marked c.args.s.now c.in-TryBoth.block c.in-TryBoth.param c.in-TryBoth.handler c.in-TryBoth.finalizer c.mark_block-in-TryBoth.new.block c.mark_block-in-TryBoth-2.new.block c.mark_block-in-TryBoth-3.new.block _ (sym c.deref_mut.ensures.value ∙ c.in-TryBoth.is) (rw c.in-TryBoth.is refl) (subst (λ x. MarkedBlock c.args.strict c.args.next x c.mark_block-in-TryBoth.new.block c.in_ok-next-in-TryBoth.next) c.in-TryBoth.block-is c.in_ok-next-in-TryBoth.ensures) (subst (λ x. MarkedBlock c.args.strict c.in_ok-next-in-TryBoth.next x c.mark_block-in-TryBoth-2.new.block c.in_ok-next-in-TryBoth-2.next) c.in-TryBoth.handler-is c.in_ok-next-in-TryBoth-2.ensures) (subst (λ x. MarkedBlock c.args.strict c.in_ok-next-in-TryBoth-2.next x c.mark_block-in-TryBoth-3.new.block b) c.in-TryBoth.finalizer-is y)) c.mark_block-in-TryBoth-3.ensures

pub mark_statement-returns-in-Function : goal.mark_statement-returns-in-Function
unfolding out-StmtKind denote.Hole.Carrier.out
mark_statement-returns-in-Function t c = answered c.mark_function.result (λ b y. declared_function_marked c.args.s.now c.in-Function.f c.mark_function.new.f _ (sym c.deref_mut.ensures.value ∙ c.in-Function.is) (rw c.in-Function.is refl) (subst (λ x. MarkedFunction c.args.strict c.args.next x c.mark_function.new.f b) c.in-Function.f-is y)) c.mark_function.ensures

pub mark_statement-returns-in-Some : goal.mark_statement-returns-in-Some
mark_statement-returns-in-Some t c = answered c.mark_statement-in-Some.result (λ b y. if_else_marked c.args.s.now c.in-If.test c.in-If.then c.in-Some.other c.mark_expr-in-If.new.e c.mark_statement.new.s c.mark_statement-in-Some.new.s _ (sym c.deref_mut.ensures.value ∙ c.in-If.is ∙ ap (stmt.If c.in-If.test c.in-If.then) (sym c.in-If.other-is ∙ c.in-Some.is)) refl (subst (λ x. MarkedExpr c.args.strict c.args.next x c.mark_expr-in-If.new.e c.in_ok-next-in-If.next) c.in-If.test-is c.in_ok-next-in-If.ensures) (subst (λ x. MarkedStatement c.args.strict c.in_ok-next-in-If.next x c.mark_statement.new.s c.in_ok-next-in-If-2.next) c.in-If.then-is c.in_ok-next-in-If-2.ensures) y) c.mark_statement-in-Some.ensures

pub mark_statement-returns-in-None : goal.mark_statement-returns-in-None
mark_statement-returns-in-None t c = if_then_marked c.args.s.now c.in-If.test c.in-If.then c.mark_expr-in-If.new.e c.mark_statement.new.s _ (sym c.deref_mut.ensures.value ∙ c.in-If.is ∙ ap (stmt.If c.in-If.test c.in-If.then) (sym c.in-If.other-is ∙ c.in-None.is)) (ap (stmt.If c.mark_expr-in-If.new.e c.mark_statement.new.s) c.in-None.is) (subst (λ x. MarkedExpr c.args.strict c.args.next x c.mark_expr-in-If.new.e c.in_ok-next-in-If.next) c.in-If.test-is c.in_ok-next-in-If.ensures) (subst (λ x. MarkedStatement c.args.strict c.in_ok-next-in-If.next x c.mark_statement.new.s c.in_ok-next-in-If-2.next) c.in-If.then-is c.in_ok-next-in-If-2.ensures)

pub mark_statement-returns : goal.mark_statement-returns
mark_statement-returns t c = statement_without c.args.s.now c.deref_mut.result.now (sym c.deref_mut.ensures.value) (search rules) (search rules)

pub mark_statement-returns-2 : goal.mark_statement-returns-2
mark_statement-returns-2 t c = statement_without c.args.s.now c.deref_mut.result.now (sym c.deref_mut.ensures.value) (search rules) (search rules)

pub mark_statement-returns-3 : goal.mark_statement-returns-3
mark_statement-returns-3 t c = statement_without c.args.s.now c.deref_mut.result.now (sym c.deref_mut.ensures.value) (search rules) (search rules)

pub mark_statement-returns-4 : goal.mark_statement-returns-4
mark_statement-returns-4 t c = statement_without c.args.s.now c.deref_mut.result.now (sym c.deref_mut.ensures.value) (search rules) (search rules)

pub mark_exprs-exprs-preserved : goal.mark_exprs-exprs-preserved
mark_exprs-exprs-preserved t c = goes_on _ _ _ _ _ (exprs_row c.args.strict) _ _ _ _ _ _ c.mark_expr.new.e _ c.exprs-test.true c.exprs.auto.e-items c.exprs.invariant (λ rest. ap (λ e. more_exprs e (view_exprs rest)) c.in_ok-next.ensures.kept) c.in_ok-next.ensures.marks c.in_ok-next.ensures.count

pub mark_items-items-preserved : goal.mark_items-items-preserved
mark_items-items-preserved t c = goes_on _ _ _ _ _ (items_row c.args.strict) _ _ _ _ _ _ c.mark_item.new.item _ c.items-test.true c.items.auto.item-items c.items.invariant (λ rest. same_item c.mark_item.new.item (get_or c.items.item-items c.items.item-index c.item-item.result) rest c.in_ok-next.ensures.kept) c.in_ok-next.ensures.marks c.in_ok-next.ensures.count

pub mark_properties-properties-preserved : goal.mark_properties-properties-preserved
mark_properties-properties-preserved t c = goes_on _ _ _ _ _ (properties_row c.args.strict) _ _ _ _ _ _ c.mark_property.new.property _ c.properties-test.true c.properties.auto.property-items c.properties.invariant (λ rest. ap (λ p. more_properties p (view_properties rest)) c.in_ok-next.ensures.kept) c.in_ok-next.ensures.marks c.in_ok-next.ensures.count

pub mark_others-others-preserved : goal.mark_others-others-preserved
mark_others-others-preserved t c = goes_on _ _ _ _ _ (others_row c.args.strict) _ _ _ _ _ _ c.mark_declaration.new.declaration _ c.others-test.true c.others.auto.declaration-items c.others.invariant (λ rest. ap (λ d. d ∷ view_other_declarations rest) c.in_ok-next.ensures.kept) c.in_ok-next.ensures.marks c.in_ok-next.ensures.count

pub mark_clauses-clauses-preserved : goal.mark_clauses-clauses-preserved
mark_clauses-clauses-preserved t c = goes_on _ _ _ _ _ (clauses_row c.args.strict) _ _ _ _ _ _ c.mark_clause.new.clause _ c.clauses-test.true c.clauses.auto.clause-items c.clauses.invariant (λ rest. same_clause c.mark_clause.new.clause (get_or c.clauses.clause-items c.clauses.clause-index c.clause-item.result) rest c.in_ok-next.ensures.kept) c.in_ok-next.ensures.marks c.in_ok-next.ensures.count

pub mark_list-statements-preserved : goal.mark_list-statements-preserved
mark_list-statements-preserved t c = goes_on _ _ _ _ _ (statements_row c.args.strict) _ _ _ _ _ _ c.mark_statement.new.s _ c.statements-test.true c.statements.auto.s-items c.statements.invariant (λ rest. ap (λ s. more_statements s (view_stmts rest)) c.in_ok-next.ensures.kept) c.in_ok-next.ensures.marks c.in_ok-next.ensures.count

pub mark_exprs-returns : goal.mark_exprs-returns
mark_exprs-returns t c =
    let done = ends _ _ _ _ _ (exprs_row c.args.strict) _ _ _ _ _ c.exprs-test.false c.exprs.auto.e-items c.exprs.invariant in
    let same = c.items_mut-e-items.ensures.value in
    record {
      kept = search (rules, done, put_back);
      marks = search (rules, done, put_back);
      count = done.1.1 ∙ ap (λ ns. after c.args.next (functions_of_exprs c.args.strict (view_exprs ns))) same;
    }

pub mark_items-returns : goal.mark_items-returns
mark_items-returns t c =
    let done = ends _ _ _ _ _ (items_row c.args.strict) _ _ _ _ _ c.items-test.false c.items.auto.item-items c.items.invariant in
    let same = c.items_mut-item-items.ensures.value in
    record {
      kept = search (rules, done, put_back);
      marks = search (rules, done, put_back);
      count = done.1.1 ∙ ap (λ ns. after c.args.next (functions_of_items c.args.strict (view_items ns))) same;
    }

pub mark_properties-returns : goal.mark_properties-returns
mark_properties-returns t c =
    let done = ends _ _ _ _ _ (properties_row c.args.strict) _ _ _ _ _ c.properties-test.false c.properties.auto.property-items c.properties.invariant in
    let same = c.items_mut-property-items.ensures.value in
    record {
      kept = search (rules, done, put_back);
      marks = search (rules, done, put_back);
      count = done.1.1 ∙ ap (λ ns. after c.args.next (functions_of_properties c.args.strict (view_properties ns))) same;
    }

pub mark_others-returns : goal.mark_others-returns
mark_others-returns t c =
    let done = ends _ _ _ _ _ (others_row c.args.strict) _ _ _ _ _ c.others-test.false c.others.auto.declaration-items c.others.invariant in
    let same = c.items_mut-declaration-items.ensures.value in
    record {
      kept = search (rules, done, put_back);
      marks = search (rules, done, put_back);
      count = done.1.1 ∙ ap (λ ns. after c.args.next (functions_of_others c.args.strict (view_other_declarations ns))) same;
    }

pub mark_clauses-returns : goal.mark_clauses-returns
mark_clauses-returns t c =
    let done = ends _ _ _ _ _ (clauses_row c.args.strict) _ _ _ _ _ c.clauses-test.false c.clauses.auto.clause-items c.clauses.invariant in
    let same = c.items_mut-clause-items.ensures.value in
    record {
      kept = search (rules, done, put_back);
      marks = search (rules, done, put_back);
      count = done.1.1 ∙ ap (λ ns. after c.args.next (functions_of_clauses c.args.strict (view_clauses ns))) same;
    }

pub mark_list-returns : goal.mark_list-returns
mark_list-returns t c =
    let done = ends _ _ _ _ _ (statements_row c.args.strict) _ _ _ _ _ c.statements-test.false c.statements.auto.s-items c.statements.invariant in
    let same = c.items_mut-s-items.ensures.value in
    record {
      kept = search (rules, done, put_back);
      marks = search (rules, done, put_back);
      count = done.1.1 ∙ ap (λ ns. after c.args.next (functions_of_statements c.args.strict (view_stmts ns))) same;
    }

pub mark_clause-returns : goal.mark_clause-returns
mark_clause-returns t c = answered c.mark_list.result (λ b y. record {
  kept = search (rules, clause, c.in_ok-next.ensures, y);
  marks = search (rules, parts, clause, c.in_ok-next.ensures, y);
  count = search (rules, parts, clause, c.in_ok-next.ensures, y);
}) c.mark_list.ensures
