use Rattle.std.proofs.Common.{refl, ap, ◌++◌}
use Rattle.js_ast.specs.declared.trees.Declaration.{out-Declaration}
use Rattle.js_ast.specs.Held.{held_in_expr, held_in_exprs, held_in_maybe_expr, held_in_item, held_in_items, held_in_property, held_in_properties, held_in_other_declarations, held_in_clause, held_in_clauses, held_in_stmt, held_in_stmts}
use Rattle.js_ast.proofs.Filling.{goes_on, ends}
use Rattle.js_ast.proofs.HeldLaws.{lent_declaration, declared}
use Rattle.js_ast.proofs.lending.+lending.Goals as goal

pub in_clauses-clauses-preserved : goal.in_clauses-clauses-preserved
in_clauses-clauses-preserved t c = goes_on held_in_clauses held_in_clause _ _ _ _ _ _ _ (λ x rest. refl) c.clauses-test.true c.clause-item.is c.clauses.invariant c.in_clause.ensures

pub in_clauses-returns : goal.in_clauses-returns
in_clauses-returns t c = let h = ends held_in_clauses _ _ _ _ _ refl c.clauses-test.false c.clauses.invariant in cc (h, c.items-clause-items.ensures)

pub in_declarations-others-preserved : goal.in_declarations-others-preserved
in_declarations-others-preserved t c = goes_on held_in_other_declarations (λ d. held_in_maybe_expr (out-Declaration d).value) _ _ _ _ _ _ _ (λ d rest. ap (λ fs. fs ++ held_in_other_declarations rest) (lent_declaration d)) c.others-test.true c.declaration-item.is c.others.invariant c.in_maybe-in-others.ensures

pub in_declarations-returns : goal.in_declarations-returns
in_declarations-returns t c = let h = ends held_in_other_declarations _ _ _ _ _ refl c.others-test.false c.others.invariant in
    declared c.args.first _ _ _ c.args.declarations.now c.items-declaration-items.result.now c.items-declaration-items.ensures c.in_maybe.ensures h

pub in_exprs-exprs-preserved : goal.in_exprs-exprs-preserved
in_exprs-exprs-preserved t c = goes_on held_in_exprs held_in_expr _ _ _ _ _ _ _ (λ x rest. refl) c.exprs-test.true c.e-item.is c.exprs.invariant c.in_expr.ensures

pub in_exprs-returns : goal.in_exprs-returns
in_exprs-returns t c = let h = ends held_in_exprs _ _ _ _ _ refl c.exprs-test.false c.exprs.invariant in cc (h, c.items-e-items.ensures)

pub in_items-items-preserved : goal.in_items-items-preserved
in_items-items-preserved t c = goes_on held_in_items held_in_item _ _ _ _ _ _ _ (λ x rest. refl) c.items-test.true c.item-item.is c.items.invariant c.in_item.ensures

pub in_items-returns : goal.in_items-returns
in_items-returns t c = let h = ends held_in_items _ _ _ _ _ refl c.items-test.false c.items.invariant in cc (h, c.items-item-items.ensures)

pub in_list-statements-preserved : goal.in_list-statements-preserved
in_list-statements-preserved t c = goes_on held_in_stmts held_in_stmt _ _ _ _ _ _ _ (λ x rest. refl) c.statements-test.true c.s-item.is c.statements.invariant c.in_statement.ensures

pub in_list-returns : goal.in_list-returns
in_list-returns t c = let h = ends held_in_stmts _ _ _ _ _ refl c.statements-test.false c.statements.invariant in cc (h, c.items-s-items.ensures)

pub in_properties-properties-preserved : goal.in_properties-properties-preserved
in_properties-properties-preserved t c = goes_on held_in_properties held_in_property _ _ _ _ _ _ _ (λ x rest. refl) c.properties-test.true c.property-item.is c.properties.invariant c.in_property.ensures

pub in_properties-returns : goal.in_properties-returns
in_properties-returns t c = let h = ends held_in_properties _ _ _ _ _ refl c.properties-test.false c.properties.invariant in cc (h, c.items-property-items.ensures)
