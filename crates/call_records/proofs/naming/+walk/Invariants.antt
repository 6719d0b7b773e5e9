use Rattle.std.proofs.Common.{◌≡◌, drop}
use Rattle.js_ast.specs.Views.{view_clauses, view_stmts}
use Rattle.es_meaning.specs.Naming.{names_in_clauses, names_in_statements}
use Rattle.call_records.proofs.naming.+walk.Given as goal

abbrev pub invariant-in_clauses-clauses : goal.invariant-in_clauses-clauses
invariant-in_clauses-clauses l = names_in_clauses (view_clauses (drop l.clause-index l.clause-items)) ≡ names_in_clauses (view_clauses l.clause-items)

abbrev pub invariant-in_list-statements : goal.invariant-in_list-statements
invariant-in_list-statements l = names_in_statements (view_stmts (drop l.s-index l.s-items)) ≡ names_in_statements (view_stmts l.s-items)
