use Rattle.std.proofs.Common.{◌≡◌, drop}
use Rattle.js_ast.specs.Views.{view_exprs, view_items, view_properties}
use Rattle.es_meaning.specs.Naming.{names_in_exprs, names_in_items, names_in_properties}
use Rattle.call_records.proofs.naming.+parts.Given as goal

abbrev pub invariant-in_exprs-exprs : goal.invariant-in_exprs-exprs
invariant-in_exprs-exprs l = names_in_exprs (view_exprs (drop l.e-index l.e-items)) ≡ names_in_exprs (view_exprs l.e-items)

abbrev pub invariant-in_items-items : goal.invariant-in_items-items
invariant-in_items-items l = names_in_items (view_items (drop l.item-index l.item-items)) ≡ names_in_items (view_items l.item-items)

abbrev pub invariant-in_properties-properties : goal.invariant-in_properties-properties
invariant-in_properties-properties l = names_in_properties (view_properties (drop l.property-index l.property-items)) ≡ names_in_properties (view_properties l.property-items)
