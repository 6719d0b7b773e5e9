use Rattle.std.proofs.Common.{refl, sym, ap, ◌∙◌, ◌||◌}
use Rattle.js_ast.specs.declared.trees.Declaration.{out-Declaration}
use Rattle.js_ast.specs.declared.trees.Declarations.{out-Declarations}
use Rattle.js_ast.specs.Nodes.{nodes_of}
use Rattle.js_ast.specs.Views.{view_maybe_expr}
use Rattle.es_meaning.specs.Naming.{names_in_maybe}
use Rattle.call_records.proofs.Loops.{goes_on, found_here, ends, in_values, whole_values}
use Rattle.call_records.proofs.naming.in_declarations.Goals as goal

pub others-preserved : goal.others-preserved
others-preserved c = goes_on in_values (λ d. names_in_maybe (view_maybe_expr (out-Declaration d).value)) (λ d ds. refl) _ _ _ _ _ c.others-test.true c.declaration-item.is c.others.invariant c.in_maybe-in-others.ensures c.if-in_maybe-2.false

pub returns-then-in_maybe : goal.returns-then-in_maybe
returns-then-in_maybe c =
    let others = nodes_of (out-Declarations c.args.declarations.now).others in
    ap (λ b. b || in_values others) (sym c.if-in_maybe.true ∙ c.in_maybe.ensures) ∙ sym (whole_values c.args.declarations.now)

pub returns-then-in_maybe-2 : goal.returns-then-in_maybe-2
returns-then-in_maybe-2 c =
    let others = nodes_of (out-Declarations c.args.declarations.now).others in
    found_here in_values (λ d. names_in_maybe (view_maybe_expr (out-Declaration d).value)) (λ d ds. refl) _ _ _ _ _ c.others-test.true c.declaration-item.is c.others.invariant c.in_maybe-in-others.ensures c.if-in_maybe-2.true
    ∙ ap in_values c.items-declaration-items.ensures
    ∙ ap (λ b. b || in_values others) (sym c.if-in_maybe.false ∙ c.in_maybe.ensures) ∙ sym (whole_values c.args.declarations.now)

pub returns : goal.returns
returns c =
    let others = nodes_of (out-Declarations c.args.declarations.now).others in
    ends in_values _ _ _ refl c.others-test.false c.others.invariant
    ∙ ap in_values c.items-declaration-items.ensures
    ∙ ap (λ b. b || in_values others) (sym c.if-in_maybe.false ∙ c.in_maybe.ensures) ∙ sym (whole_values c.args.declarations.now)
