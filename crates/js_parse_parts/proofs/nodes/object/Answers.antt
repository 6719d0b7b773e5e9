use Rattle.std.proofs.Common.{arith}
use Rattle.js_ast.specs.Nodes.{nodes_of}
use Rattle.js_ast.specs.Trees as trees
use Rattle.js_ast.specs.Views.{view_properties}
use Rattle.js_ast.proofs.ViewLaws.{held_properties}
use Rattle.js_parse_parts.proofs.Made.{made_deep, made_size}
use Rattle.std.proofs.lemmas.Result.{IfOk-weaker}
use Rattle.js_parse_parts.specs.InOrder.{IsOrderedObject}
use Rattle.js_parse_parts.proofs.nodes.object.Goals as goal

pub returns-clause-node : goal.returns-clause-node
returns-clause-node c = rw (← c.in_ok-list.ensures.nodes) (rw (held_properties c.in_ok-list.list) at c.node.ensures.node)

pub returns-clause-deep : goal.returns-clause-deep
returns-clause-deep c = made_deep c.node.result (trees.object c.args.at (view_properties (nodes_of c.args.properties.0)) c.args.comma) _ (returns-clause-node c) c.node.ensures.depth (omega arith)

pub returns-clause-size : goal.returns-clause-size
returns-clause-size c = made_size c.node.result _ _ c.node.ensures.depth (omega arith)

pub returns-clause-order : goal.returns-clause-order
returns-clause-order c = IfOk-weaker _ _ (λ x. IsOrderedObject x.0) (λ x is. record { list = c.in_ok-list.list; comma = c.args.comma; is = is; order = c.in_ok-list.ensures.long }) c.node.ensures.kind
