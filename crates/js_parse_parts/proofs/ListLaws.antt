-- The last item of an array, and whether an object has properties.
use Rattle.std.proofs.Common.{◌≡◌, ◌≤◌, true, List, [], ◌∷◌, ◌++◌, length, refl, ap, ◌∙◌, arith}
use Rattle.js_ast.specs.declared.trees.Item.{Item}
use Rattle.js_ast.specs.declared.trees.Item as an_item
use Rattle.js_ast.specs.declared.trees.Property.{Property}
use Rattle.js_ast.specs.Trees.{Items, no_items, hole, item}
use Rattle.js_ast.specs.Validity.{ends_with_item, has_properties}
use Rattle.js_ast.specs.Joined.{joined_items}
use Rattle.js_ast.specs.Views.{view_item, view_items, view_properties}
use Rattle.js_ast.proofs.ViewLaws.{items_append}

-- the same, of what the items are seen as
joined_end : (is : Items) (i : Item) → ends_with_item (joined_items is (view_item i no_items)) ≡ ends_with_item (view_item i no_items)
joined_end no_items i = refl
joined_end (hole is) i = joined_end is i
joined_end (item e no_items) an_item.Hole = refl
joined_end (item e no_items) (an_item.Value' a p f) = refl
joined_end (item e (hole is)) i = joined_end (hole is) i
joined_end (item e (item f is)) i = joined_end (item f is) i

-- whether items end with an expression is said by the last of them
pub last_item : (is : List Item) (i : Item) → ends_with_item (view_items (is ++ i ∷ [])) ≡ ends_with_item (view_item i no_items)
last_item is i = ap ends_with_item (items_append is (i ∷ [])) ∙ joined_end (view_items is) i

-- an object with one property at least has properties
pub some_properties : (ps : List Property) → 1 ≤ length ps → true ≡ has_properties (view_properties ps)
some_properties [] h = absurd (omega arith)
some_properties (p ∷ ps) h = refl
