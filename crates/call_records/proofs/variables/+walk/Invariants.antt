use Rattle.std.proofs.Common.{◌≡◌, drop}
use Rattle.js_ast.specs.Views.{view_clauses, view_stmts}
use Rattle.es_meaning.specs.Declared.{declared_clauses, declared_statements}
use Rattle.call_records.specs.Planned.{with_names}
use Rattle.call_records.proofs.variables.+walk.Given as goal

abbrev pub invariant-in_clauses-clauses : goal.invariant-in_clauses-clauses
invariant-in_clauses-clauses l = with_names (declared_clauses (view_clauses (drop l.clause-index l.clause-items))) l.layout ≡ with_names (declared_clauses (view_clauses l.clause-items)) l.initial.layout

abbrev pub invariant-in_list-statements : goal.invariant-in_list-statements
invariant-in_list-statements l = with_names (declared_statements (view_stmts (drop l.s-index l.s-items))) l.layout ≡ with_names (declared_statements (view_stmts l.s-items)) l.initial.layout
