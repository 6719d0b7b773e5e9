use Rattle.std.proofs.Common.{rules, refl, ◌++◌}
use Rattle.js_ast.specs.declared.trees.Clause.{out-Clause}
use Rattle.js_ast.specs.declared.trees.ExprKind.TheViews.{the_lemmas}
use Rattle.js_ast.specs.Nodes.{nodes_of}
use Rattle.js_ast.specs.Views.{view_block, view_clauses, view_first, view_stmt, view_stmts, view_target}
use Rattle.es_meaning.specs.Declared.{declared_block, declared_clauses, declared_first, declared_statement, declared_statements, declared_target}
use Rattle.step_start.proofs.Names.{goes_on, ends, step_clauses}
use Rattle.step_start.proofs.VariableLaws.{declares_then}
use Rattle.step_start.proofs.hoisting.+walk.Goals as goal

pub in_clauses-clauses-preserved : goal.in_clauses-clauses-preserved
in_clauses-clauses-preserved g t c =
    goes_on _ _ (λ cs. declared_clauses (view_clauses cs)) (λ cl. declared_statements (view_stmts (nodes_of (out-Clause cl).body))) _ _ _ c.clauses.heap c.in_list.new.heap step_clauses c.clauses-test.true c.clause-item.is c.clauses.invariant
    c.in_ok-in_list.ensures.declares c.in_ok-in_list.ensures.started

pub in_clauses-returns-clause-declares : goal.in_clauses-returns-clause-declares
in_clauses-returns-clause-declares g t c =
    rw c.items-clause-items.ensures at
    (ends _ _ (λ cs. declared_clauses (view_clauses cs)) _ _ c.clauses.heap refl c.clauses-test.false c.clauses.invariant)

pub in_list-statements-preserved : goal.in_list-statements-preserved
in_list-statements-preserved g t c =
    goes_on _ _ (λ ss. declared_statements (view_stmts ss)) (λ s. declared_statement (view_stmt s)) _ _ _ c.statements.heap c.in_statement.new.heap (λ s rest. refl) c.statements-test.true c.s-item.is c.statements.invariant
    c.in_ok-in_statement.ensures.declares c.in_ok-in_statement.ensures.started

pub in_list-returns-clause-declares : goal.in_list-returns-clause-declares
in_list-returns-clause-declares g t c =
    rw c.items-s-items.ensures at
    (ends _ _ (λ ss. declared_statements (view_stmts ss)) _ _ c.statements.heap refl c.statements-test.false c.statements.invariant)

pub in_statement-returns-in_ok-in_statement-in-If-default-default-Some-2-clause-declares : goal.in_statement-returns-in_ok-in_statement-in-If-default-default-Some-2-clause-declares
in_statement-returns-in_ok-in_statement-in-If-default-default-Some-2-clause-declares g t c =
    let h = declares_then (declared_statement (view_stmt c.in-If-default-default-Some.then)) _ c.args.heap.now c.in_statement-in-If-default-default-Some.new.heap c.in_statement-in-If-default-default-Some-2.new.heap
    c.in_ok-in_statement-in-If-default-default-Some.ensures.declares c.in_ok-in_statement-in-If-default-default-Some-2.ensures.declares in
    search (rules, the_lemmas, h, c.deref.ensures, c.in-If-default-default-Some.is, c.in-If-default-default-Some.other-is, c.in-If-default-default-Some.other-is')

pub in_statement-returns-in_ok-in_statement-in-For-clause-declares : goal.in_statement-returns-in_ok-in_statement-in-For-clause-declares
in_statement-returns-in_ok-in_statement-in-For-clause-declares g t c =
    let h = declares_then (declared_first (view_first c.in-For.first)) (declared_statement (view_stmt c.in-For.body)) c.args.heap.now c.in_first.new.heap c.in_statement-in-For.new.heap
    c.in_ok-in_first-in-For.ensures.declares c.in_ok-in_statement-in-For.ensures.declares in
    search (rules, the_lemmas, h, c.deref.ensures, c.in-For.is)

pub in_statement-returns-in_ok-in_statement-in-ForIn-clause-declares : goal.in_statement-returns-in_ok-in_statement-in-ForIn-clause-declares
in_statement-returns-in_ok-in_statement-in-ForIn-clause-declares g t c =
    let h = declares_then (declared_target (view_target c.in-ForIn.target)) (declared_statement (view_stmt c.in-ForIn.body)) c.args.heap.now c.in_target.new.heap c.in_statement-in-ForIn.new.heap
    c.in_ok-in_target-in-ForIn.ensures.declares c.in_ok-in_statement-in-ForIn.ensures.declares in
    search (rules, the_lemmas, h, c.deref.ensures, c.in-ForIn.is)

pub in_statement-returns-in_ok-in_block-in-TryCatch-2-clause-declares : goal.in_statement-returns-in_ok-in_block-in-TryCatch-2-clause-declares
in_statement-returns-in_ok-in_block-in-TryCatch-2-clause-declares g t c =
    let h = declares_then (declared_block (view_block c.in-TryCatch.block)) (declared_block (view_block c.in-TryCatch.handler)) c.args.heap.now c.in_block.new.heap c.in_block-in-TryCatch.new.heap
    c.in_ok-in_block-in-TryCatch.ensures.declares c.in_ok-in_block-in-TryCatch-2.ensures.declares in
    search (rules, the_lemmas, h, c.deref.ensures, c.in-TryCatch.is)

pub in_statement-returns-in_ok-in_block-in-TryFinally-2-clause-declares : goal.in_statement-returns-in_ok-in_block-in-TryFinally-2-clause-declares
in_statement-returns-in_ok-in_block-in-TryFinally-2-clause-declares g t c =
    let h = declares_then (declared_block (view_block c.in-TryFinally.block)) (declared_block (view_block c.in-TryFinally.finalizer)) c.args.heap.now c.in_block-in-TryFinally.new.heap c.in_block-in-TryFinally-2.new.heap
    c.in_ok-in_block-in-TryFinally.ensures.declares c.in_ok-in_block-in-TryFinally-2.ensures.declares in
    search (rules, the_lemmas, h, c.deref.ensures, c.in-TryFinally.is)

pub in_statement-returns-in_ok-in_block-in-TryBoth-3-clause-declares : goal.in_statement-returns-in_ok-in_block-in-TryBoth-3-clause-declares
in_statement-returns-in_ok-in_block-in-TryBoth-3-clause-declares g t c =
    let first = declared_block (view_block c.in-TryBoth.block) in
    let second = declared_block (view_block c.in-TryBoth.handler) in
    let third = declared_block (view_block c.in-TryBoth.finalizer) in
    let more = declares_then second third c.in_block-in-TryBoth.new.heap c.in_block-in-TryBoth-2.new.heap c.in_block-in-TryBoth-3.new.heap
    c.in_ok-in_block-in-TryBoth-2.ensures.declares c.in_ok-in_block-in-TryBoth-3.ensures.declares in
    let h = declares_then first (second ++ third) c.args.heap.now c.in_block-in-TryBoth.new.heap c.in_block-in-TryBoth-3.new.heap c.in_ok-in_block-in-TryBoth.ensures.declares more in
    search (rules, the_lemmas, h, c.deref.ensures, c.in-TryBoth.is)
