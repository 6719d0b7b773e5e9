use Rattle.std.proofs.Common.{rules, refl}
use Rattle.js_ast.specs.declared.trees.ExprKind.TheViews.{the_lemmas}
use Rattle.js_ast.proofs.ViewLaws.{held_exprs}
use Rattle.js_ast.specs.Views.{view_expr, view_exprs, view_items, view_property, view_properties}
use Rattle.es_meaning.specs.Naming.{names_in_expr, names_in_exprs, names_in_items, names_in_properties}
use Rattle.call_records.specs.Named.{names_in_item, names_in_property}
use Rattle.call_records.proofs.Loops.{goes_on, found_here, ends, step_items, step_properties}
use Rattle.call_records.proofs.naming.+parts.Goals as goal

pub in_exprs-exprs-preserved : goal.in_exprs-exprs-preserved
unfolding names_in_expr
in_exprs-exprs-preserved t c = goes_on (λ es. names_in_exprs (view_exprs es)) (λ e. names_in_expr (view_expr e)) (λ e es. refl) _ _ _ _ _ c.exprs-test.true c.e-item.is c.exprs.invariant c.in_expr.ensures c.if-in_expr.false

pub in_exprs-returns-then-in_expr : goal.in_exprs-returns-then-in_expr
unfolding names_in_expr
in_exprs-returns-then-in_expr t c = let h = found_here (λ es. names_in_exprs (view_exprs es)) (λ e. names_in_expr (view_expr e)) (λ e es. refl) _ _ _ _ _ c.exprs-test.true c.e-item.is c.exprs.invariant c.in_expr.ensures c.if-in_expr.true in cc (h, c.items-e-items.ensures)

pub in_exprs-returns : goal.in_exprs-returns
unfolding names_in_expr
in_exprs-returns t c = let h = ends (λ es. names_in_exprs (view_exprs es)) _ _ _ refl c.exprs-test.false c.exprs.invariant in cc (h, c.items-e-items.ensures)

pub in_items-items-preserved : goal.in_items-items-preserved
in_items-items-preserved t c = goes_on (λ is. names_in_items (view_items is)) names_in_item (λ i is. step_items i (view_items is)) _ _ _ _ _ c.items-test.true c.item-item.is c.items.invariant c.in_item.ensures c.if-in_item.false

pub in_items-returns-then-in_item : goal.in_items-returns-then-in_item
in_items-returns-then-in_item t c = let h = found_here (λ is. names_in_items (view_items is)) names_in_item (λ i is. step_items i (view_items is)) _ _ _ _ _ c.items-test.true c.item-item.is c.items.invariant c.in_item.ensures c.if-in_item.true in cc (h, c.items-item-items.ensures)

pub in_items-returns : goal.in_items-returns
unfolding names_in_expr
in_items-returns t c = let h = ends (λ is. names_in_items (view_items is)) _ _ _ refl c.items-test.false c.items.invariant in cc (h, c.items-item-items.ensures)

pub in_properties-properties-preserved : goal.in_properties-properties-preserved
in_properties-properties-preserved t c = goes_on (λ ps. names_in_properties (view_properties ps)) (λ p. names_in_property (view_property p)) (λ p ps. step_properties (view_property p) (view_properties ps)) _ _ _ _ _ c.properties-test.true c.property-item.is c.properties.invariant c.in_property.ensures c.if-in_property.false

pub in_properties-returns-then-in_property : goal.in_properties-returns-then-in_property
in_properties-returns-then-in_property t c = let h = found_here (λ ps. names_in_properties (view_properties ps)) (λ p. names_in_property (view_property p)) (λ p ps. step_properties (view_property p) (view_properties ps)) _ _ _ _ _ c.properties-test.true c.property-item.is c.properties.invariant c.in_property.ensures c.if-in_property.true in cc (h, c.items-property-items.ensures)

pub in_properties-returns : goal.in_properties-returns
unfolding names_in_expr
in_properties-returns t c = let h = ends (λ ps. names_in_properties (view_properties ps)) _ _ _ refl c.properties-test.false c.properties.invariant in cc (h, c.items-property-items.ensures)

pub in_expr-returns-else-in_expr-2 : goal.in_expr-returns-else-in_expr-2
unfolding names_in_expr
in_expr-returns-else-in_expr-2 t c = search (rules, the_lemmas, held_exprs, c.deref.ensures, c.in-New-default-Some.is, c.in-New-default-Some.args-is, c.in-New-default-Some.args-is', c.if-in_expr-2.false, c.in_expr-in-New-default-Some.ensures, c.in_exprs.ensures)
