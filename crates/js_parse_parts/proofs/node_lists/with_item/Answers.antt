use Rattle.std.proofs.Common.{[], ◌∷◌, ap, ◌∙◌, arith}
use Rattle.js_ast.specs.declared.trees.Item as an_item
use Rattle.js_ast.specs.Nodes.{nodes_of}
use Rattle.js_ast.specs.Depth.{depth_items}
use Rattle.js_ast.specs.Views.{view_expr, view_items}
use Rattle.js_ast.proofs.ViewLaws.{items_append}
use Rattle.js_parse_parts.proofs.DepthLaws.{joined_item_depth}
use Rattle.js_parse_parts.proofs.node_lists.with_item.Goals as goal

pub returns-clause-node : goal.returns-clause-node
returns-clause-node c = ap view_items c.in_ok-push.ensures.ok ∙ items_append (nodes_of c.args.items.0) (an_item.Value c.args.expr.0 ∷ [])

pub returns-clause-deep : goal.returns-clause-deep
returns-clause-deep c = omega (arith, ap depth_items (returns-clause-node c), joined_item_depth (view_items (nodes_of c.args.items.0)) (view_expr c.args.expr.0))
