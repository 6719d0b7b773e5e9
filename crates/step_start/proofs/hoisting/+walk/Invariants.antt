use Rattle.std.proofs.Common.{drop}
use Rattle.js_ast.specs.Views.{view_clauses, view_stmts}
use Rattle.es_meaning.specs.Declared.{declared_clauses, declared_statements}
use Rattle.step_start.proofs.Names.{SoFar}
use Rattle.step_start.proofs.hoisting.+walk.Given as goal

abbrev pub invariant-in_clauses-clauses : goal.invariant-in_clauses-clauses
invariant-in_clauses-clauses g l = SoFar l.initial.heap (declared_clauses (view_clauses l.clause-items)) (declared_clauses (view_clauses (drop l.clause-index l.clause-items))) l.heap

abbrev pub invariant-in_list-statements : goal.invariant-in_list-statements
invariant-in_list-statements g l = SoFar l.initial.heap (declared_statements (view_stmts l.s-items)) (declared_statements (view_stmts (drop l.s-index l.s-items))) l.heap
