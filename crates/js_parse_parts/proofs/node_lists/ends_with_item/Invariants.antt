use Rattle.std.proofs.Common.{◌≡◌, take}
use Rattle.js_ast.specs.Validity.{ends_with_item}
use Rattle.js_ast.specs.Views.{view_items}
use Rattle.js_parse_parts.proofs.node_lists.ends_with_item.Given as goal

abbrev pub invariant-loop-item : goal.invariant-loop-item
invariant-loop-item l = l.ends ≡ ends_with_item (view_items (take l.item-index l.item-items))
