use Rattle.std.proofs.Common.{arith}
use Rattle.js_ast.specs.Trees as trees
use Rattle.js_ast.specs.Trees.{at_of}
use Rattle.js_ast.specs.Views.{view_expr}
use Rattle.js_parse_parts.proofs.Made.{made_deep, made_size}
use Rattle.js_parse_parts.proofs.NodeLaws.{place_is}
use Rattle.js_parse_parts.proofs.nodes.comma.Goals as goal

pub returns-clause-node : goal.returns-clause-node
returns-clause-node c = rw (place_is c.args.left.0) c.node.ensures.node

pub returns-clause-deep : goal.returns-clause-deep
returns-clause-deep c = made_deep c.node.result (trees.comma (at_of (view_expr c.args.left.0)) (view_expr c.args.left.0) (view_expr c.args.right.0)) _ (returns-clause-node c) c.node.ensures.depth (omega arith)

pub returns-clause-size : goal.returns-clause-size
returns-clause-size c = made_size c.node.result _ _ c.node.ensures.depth (omega arith)
