use Rattle.std.proofs.Common.{◌≡◌, map, option_map, drop}
use Rattle.js_ast.specs.Held.{held, held_in_exprs, held_in_items, held_in_properties, held_in_other_declarations, held_in_clauses, held_in_stmts}
use Rattle.js_ast.specs.Lent.{filled}
use Rattle.js_ast.proofs.lending.+lending.Given as goal

abbrev pub invariant-in_clauses-clauses : goal.invariant-in_clauses-clauses
invariant-in_clauses-clauses l = filled l.first (map (option_map (λ f. held f.now)) l.slots) (held_in_clauses (drop l.clause-index l.clause-items)) ≡ filled l.first (map (option_map (λ f. held f.now)) l.initial.slots) (held_in_clauses l.clause-items)

abbrev pub invariant-in_declarations-others : goal.invariant-in_declarations-others
invariant-in_declarations-others l = filled l.first (map (option_map (λ f. held f.now)) l.slots) (held_in_other_declarations (drop l.declaration-index l.declaration-items)) ≡ filled l.first (map (option_map (λ f. held f.now)) l.initial.slots) (held_in_other_declarations l.declaration-items)

abbrev pub invariant-in_exprs-exprs : goal.invariant-in_exprs-exprs
invariant-in_exprs-exprs l = filled l.first (map (option_map (λ f. held f.now)) l.slots) (held_in_exprs (drop l.e-index l.e-items)) ≡ filled l.first (map (option_map (λ f. held f.now)) l.initial.slots) (held_in_exprs l.e-items)

abbrev pub invariant-in_items-items : goal.invariant-in_items-items
invariant-in_items-items l = filled l.first (map (option_map (λ f. held f.now)) l.slots) (held_in_items (drop l.item-index l.item-items)) ≡ filled l.first (map (option_map (λ f. held f.now)) l.initial.slots) (held_in_items l.item-items)

abbrev pub invariant-in_list-statements : goal.invariant-in_list-statements
invariant-in_list-statements l = filled l.first (map (option_map (λ f. held f.now)) l.slots) (held_in_stmts (drop l.s-index l.s-items)) ≡ filled l.first (map (option_map (λ f. held f.now)) l.initial.slots) (held_in_stmts l.s-items)

abbrev pub invariant-in_properties-properties : goal.invariant-in_properties-properties
invariant-in_properties-properties l = filled l.first (map (option_map (λ f. held f.now)) l.slots) (held_in_properties (drop l.property-index l.property-items)) ≡ filled l.first (map (option_map (λ f. held f.now)) l.initial.slots) (held_in_properties l.property-items)
