use Rattle.std.proofs.Common.{rules, sym, ap, ◌∙◌, ◌≡◌, ◌+◌, drop, length}
use borrow.Author.Tests.{ltb-true, ltb-false}
use Rattle.js_ast.specs.Nodes.{nodes_of}
use Rattle.js_ast.specs.Trees.{value, more_properties}
use Rattle.js_ast.specs.Views.{view_expr, view_key, view_property, view_properties}
use Rattle.js_ast.specs.declared.trees.ExprKind.TheViews.{the_lemmas}
use Rattle.continuations.proofs.ObjectLaws.{property_here, part_none, part_value, part_getter, part_setter}
use Rattle.continuations.proofs.objects.part_at.Goals as goal

pub returns-in_default : goal.returns-in_default
returns-in_default c = part_none c.args.list.now c.args.count c.items.result.now c.items.ensures (ltb-false c.args.count (length c.items.result.now) (sym c.in_default.ensures.lookup.0))

-- only what the parts are counts, and not where they stand

pub returns-in-Value : goal.returns-in-Value
returns-in-Value c =
    let p = c.in-Some.property.now in
    let is : view_property p ≡ value p.at (view_key p.key) (view_expr c.in-Value.value) = search (rules, the_lemmas, c.in-Value.is) in
    let here = property_here c.items.result.now c.args.list.now c.args.count p c.items.ensures (ltb-true c.args.count (length c.items.result.now) (sym c.in-Some.ensures.lookup.0)) c.in-Some.ensures.lookup.1 in
    part_value c.args.list.now c.args.count (record { ref_ptr = (0, 0); now = c.in-Value.value }) p.at (view_key p.key) (here ∙ ap (λ q. more_properties q (view_properties (drop (c.args.count + 1) (nodes_of c.args.list.now)))) is)

pub returns-in-Getter : goal.returns-in-Getter
returns-in-Getter c =
    let p = c.in-Some.property.now in
    let here = property_here c.items.result.now c.args.list.now c.args.count p c.items.ensures (ltb-true c.args.count (length c.items.result.now) (sym c.in-Some.ensures.lookup.0)) c.in-Some.ensures.lookup.1 in
    part_getter c.args.list.now c.args.count (record { ref_ptr = (0, 0); now = c.in-Getter.function }) p here c.in-Getter.is

pub returns-in-Setter : goal.returns-in-Setter
returns-in-Setter c =
    let p = c.in-Some.property.now in
    let here = property_here c.items.result.now c.args.list.now c.args.count p c.items.ensures (ltb-true c.args.count (length c.items.result.now) (sym c.in-Some.ensures.lookup.0)) c.in-Some.ensures.lookup.1 in
    part_setter c.args.list.now c.args.count (record { ref_ptr = (0, 0); now = c.in-Setter.function }) p here c.in-Setter.is
