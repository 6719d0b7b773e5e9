use Rattle.std.proofs.Common.{arith}
use Rattle.js_ast.specs.Nodes.{nodes_of}
use Rattle.js_ast.specs.Trees as trees
use Rattle.js_ast.specs.Views.{view_items}
use Rattle.js_ast.proofs.ViewLaws.{held_items}
use Rattle.js_parse_parts.proofs.Made.{made_deep, made_size}
use Rattle.js_parse_parts.proofs.nodes.array.Goals as goal

pub returns-clause-node : goal.returns-clause-node
returns-clause-node c = rw (held_items c.args.items.0) at c.node.ensures.node

pub returns-clause-deep : goal.returns-clause-deep
returns-clause-deep c = made_deep c.node.result (trees.array c.args.at (view_items (nodes_of c.args.items.0)) c.args.comma) _ (returns-clause-node c) c.node.ensures.depth (omega arith)

pub returns-clause-size : goal.returns-clause-size
returns-clause-size c = made_size c.node.result _ _ c.node.ensures.depth (omega arith)
