use Rattle.std.proofs.Common.{ap, ◌∙◌, arith}
use Rattle.js_ast.specs.Nodes.{nodes_of}
use Rattle.js_ast.specs.Depth.{depth_properties}
use Rattle.js_ast.specs.Views.{view_property, view_properties}
use Rattle.js_ast.proofs.ViewLaws.{properties_append}
use Rattle.js_parse_parts.proofs.DepthLaws.{joined_properties_depth}
use Rattle.js_parse_parts.proofs.node_lists.with_property.Goals as goal

pub returns-clause-node : goal.returns-clause-node
returns-clause-node c = ap view_properties c.in_ok-push.ensures.ok ∙ properties_append _ _

pub returns-clause-deep : goal.returns-clause-deep
returns-clause-deep c = omega (arith, ap depth_properties (returns-clause-node c), joined_properties_depth (view_properties (nodes_of c.args.properties.0)) (view_property c.args.property.0))
