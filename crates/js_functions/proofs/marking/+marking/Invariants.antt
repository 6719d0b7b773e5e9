use Rattle.js_ast.specs.Views.{view_exprs, view_items, view_properties, view_other_declarations, view_clauses, view_stmts}
use Rattle.js_ast.specs.Functions.{functions_of_exprs, functions_of_items, functions_of_properties, functions_of_others, functions_of_clauses, functions_of_statements}
use Rattle.js_ast.specs.Held.{held_in_exprs, held_in_items, held_in_properties, held_in_other_declarations, held_in_clauses, held_in_stmts}
use Rattle.js_functions.proofs.Loops.{SoFar}
use Rattle.js_functions.proofs.marking.+marking.Given as goal

abbrev pub invariant-mark_exprs-exprs : goal.invariant-mark_exprs-exprs
invariant-mark_exprs-exprs l = SoFar view_exprs held_in_exprs (functions_of_exprs l.strict) l.initial.e-items l.initial.next l.e-items l.e-index l.next

abbrev pub invariant-mark_items-items : goal.invariant-mark_items-items
invariant-mark_items-items l = SoFar view_items held_in_items (functions_of_items l.strict) l.initial.item-items l.initial.next l.item-items l.item-index l.next

abbrev pub invariant-mark_properties-properties : goal.invariant-mark_properties-properties
invariant-mark_properties-properties l = SoFar view_properties held_in_properties (functions_of_properties l.strict) l.initial.property-items l.initial.next l.property-items l.property-index l.next

abbrev pub invariant-mark_others-others : goal.invariant-mark_others-others
invariant-mark_others-others l = SoFar view_other_declarations held_in_other_declarations (functions_of_others l.strict) l.initial.declaration-items l.initial.next l.declaration-items l.declaration-index l.next

abbrev pub invariant-mark_clauses-clauses : goal.invariant-mark_clauses-clauses
invariant-mark_clauses-clauses l = SoFar view_clauses held_in_clauses (functions_of_clauses l.strict) l.initial.clause-items l.initial.next l.clause-items l.clause-index l.next

abbrev pub invariant-mark_list-statements : goal.invariant-mark_list-statements
invariant-mark_list-statements l = SoFar view_stmts held_in_stmts (functions_of_statements l.strict) l.initial.s-items l.initial.next l.s-items l.s-index l.next
