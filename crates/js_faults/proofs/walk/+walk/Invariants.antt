use Rattle.std.proofs.Common.{◌≡◌, drop}
use Rattle.js_ast.specs.Views.{view_exprs, view_items, view_properties, view_other_declarations, view_clauses, view_stmts}
use Rattle.js_faults.specs.ScopeViews.{scope_of}
use Rattle.js_faults.specs.Faults.{earlier_by, first_by, in_exprs, in_items, in_properties, in_clauses, in_statements}
use Rattle.js_faults.proofs.Parts.{values_in}
use Rattle.js_faults.proofs.walk.+walk.Given as goal

abbrev pub invariant-in_clauses-clauses : goal.invariant-in_clauses-clauses
invariant-in_clauses-clauses g l = earlier_by g.T.Told.order l.first (first_by g.T.Told.order (in_clauses g.T.Told.own (scope_of l.scope) (view_clauses (drop l.clause-index l.clause-items)))) ≡ first_by g.T.Told.order (in_clauses g.T.Told.own (scope_of l.scope) (view_clauses l.clause-items))

abbrev pub invariant-in_exprs-exprs : goal.invariant-in_exprs-exprs
invariant-in_exprs-exprs g l = earlier_by g.T.Told.order l.first (first_by g.T.Told.order (in_exprs g.T.Told.own (view_exprs (drop l.e-index l.e-items)))) ≡ first_by g.T.Told.order (in_exprs g.T.Told.own (view_exprs l.e-items))

abbrev pub invariant-in_items-items : goal.invariant-in_items-items
invariant-in_items-items g l = earlier_by g.T.Told.order l.first (first_by g.T.Told.order (in_items g.T.Told.own (view_items (drop l.item-index l.item-items)))) ≡ first_by g.T.Told.order (in_items g.T.Told.own (view_items l.item-items))

abbrev pub invariant-in_list-statements : goal.invariant-in_list-statements
invariant-in_list-statements g l = earlier_by g.T.Told.order l.first (first_by g.T.Told.order (in_statements g.T.Told.own (scope_of l.scope) (view_stmts (drop l.s-index l.s-items)))) ≡ first_by g.T.Told.order (in_statements g.T.Told.own (scope_of l.scope) (view_stmts l.s-items))

abbrev pub invariant-in_properties-properties : goal.invariant-in_properties-properties
invariant-in_properties-properties g l = earlier_by g.T.Told.order l.first (first_by g.T.Told.order (in_properties g.T.Told.own (view_properties (drop l.property-index l.property-items)))) ≡ first_by g.T.Told.order (in_properties g.T.Told.own (view_properties l.property-items))

abbrev pub invariant-in_declarations-others : goal.invariant-in_declarations-others
invariant-in_declarations-others g l = earlier_by g.T.Told.order l.first (first_by g.T.Told.order (values_in g.T.Told.own (view_other_declarations (drop l.declaration-index l.declaration-items)))) ≡ earlier_by g.T.Told.order l.initial.first (first_by g.T.Told.order (values_in g.T.Told.own (view_other_declarations l.declaration-items)))
