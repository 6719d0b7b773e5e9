use Rattle.std.proofs.Common.{refl}
use Rattle.js_ast.specs.Views.{view_clauses, view_stmt, view_stmts}
use Rattle.es_meaning.specs.Naming.{names_in_block, names_in_clauses, names_in_statement, names_in_statements}
use Rattle.call_records.specs.Named.{names_in_clause}
use Rattle.call_records.proofs.Loops.{goes_on, found_here, ends, step_clauses}
use Rattle.call_records.proofs.naming.+walk.Goals as goal

pub in_clauses-clauses-preserved : goal.in_clauses-clauses-preserved
in_clauses-clauses-preserved t c = goes_on (λ cs. names_in_clauses (view_clauses cs)) names_in_clause step_clauses _ _ _ _ _ c.clauses-test.true c.clause-item.is c.clauses.invariant c.in_clause.ensures c.if-in_clause.false

pub in_clauses-returns-then-in_clause : goal.in_clauses-returns-then-in_clause
in_clauses-returns-then-in_clause t c = let h = found_here (λ cs. names_in_clauses (view_clauses cs)) names_in_clause step_clauses _ _ _ _ _ c.clauses-test.true c.clause-item.is c.clauses.invariant c.in_clause.ensures c.if-in_clause.true in cc (h, c.items-clause-items.ensures)

pub in_clauses-returns : goal.in_clauses-returns
unfolding names_in_block
in_clauses-returns t c = let h = ends (λ cs. names_in_clauses (view_clauses cs)) _ _ _ refl c.clauses-test.false c.clauses.invariant in cc (h, c.items-clause-items.ensures)

pub in_list-statements-preserved : goal.in_list-statements-preserved
unfolding names_in_block
in_list-statements-preserved t c = goes_on (λ ss. names_in_statements (view_stmts ss)) (λ s. names_in_statement (view_stmt s)) (λ s ss. refl) _ _ _ _ _ c.statements-test.true c.s-item.is c.statements.invariant c.in_statement.ensures c.if-in_statement.false

pub in_list-returns-then-in_statement : goal.in_list-returns-then-in_statement
unfolding names_in_block
in_list-returns-then-in_statement t c = let h = found_here (λ ss. names_in_statements (view_stmts ss)) (λ s. names_in_statement (view_stmt s)) (λ s ss. refl) _ _ _ _ _ c.statements-test.true c.s-item.is c.statements.invariant c.in_statement.ensures c.if-in_statement.true in cc (h, c.items-s-items.ensures)

pub in_list-returns : goal.in_list-returns
unfolding names_in_block
in_list-returns t c = let h = ends (λ ss. names_in_statements (view_stmts ss)) _ _ _ refl c.statements-test.false c.statements.invariant in cc (h, c.items-s-items.ensures)
