use Rattle.std.proofs.Common.{refl}
use Rattle.js_ast.specs.declared.trees.Clause.{out-Clause}
use Rattle.js_ast.specs.Nodes.{nodes_of}
use Rattle.js_ast.specs.Views.{view_clauses, view_stmt, view_stmts}
use Rattle.es_meaning.specs.Declared.{declared_clauses, declared_statement, declared_statements}
use Rattle.call_records.proofs.NameLaws.{goes_on, ends}
use Rattle.call_records.proofs.VariableLaws.{step_clauses}
use Rattle.call_records.proofs.variables.+walk.Goals as goal

pub in_clauses-clauses-preserved : goal.in_clauses-clauses-preserved
in_clauses-clauses-preserved t c =
    goes_on (λ cs. declared_clauses (view_clauses cs)) (λ cl. declared_statements (view_stmts (nodes_of (out-Clause cl).body))) step_clauses _ _ _ c.clauses.layout c.in_list.new.layout _ c.clauses-test.true c.clause-item.is c.clauses.invariant c.in_ok-in_list.ensures

pub in_clauses-returns : goal.in_clauses-returns
in_clauses-returns t c =
    rw c.items-clause-items.ensures at
    (ends (λ cs. declared_clauses (view_clauses cs)) _ _ c.clauses.layout _ refl c.clauses-test.false c.clauses.invariant)

pub in_list-statements-preserved : goal.in_list-statements-preserved
in_list-statements-preserved t c =
    goes_on (λ ss. declared_statements (view_stmts ss)) (λ s. declared_statement (view_stmt s)) (λ s rest. refl) _ _ _ c.statements.layout c.in_statement.new.layout _ c.statements-test.true c.s-item.is c.statements.invariant c.in_ok-in_statement.ensures

pub in_list-returns : goal.in_list-returns
in_list-returns t c =
    rw c.items-s-items.ensures at
    (ends (λ ss. declared_statements (view_stmts ss)) _ _ c.statements.layout _ refl c.statements-test.false c.statements.invariant)
