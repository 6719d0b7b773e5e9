use Rattle.std.proofs.Common.{ap, ◌∙◌, arith}
use Rattle.js_ast.specs.Nodes.{nodes_of}
use Rattle.js_ast.specs.Depth.{depth_exprs}
use Rattle.js_ast.specs.Views.{view_expr, view_exprs}
use Rattle.js_ast.proofs.ViewLaws.{exprs_append}
use Rattle.js_parse_parts.proofs.DepthLaws.{joined_exprs_depth}
use Rattle.js_parse_parts.proofs.node_lists.with_argument.Goals as goal

pub returns-clause-node : goal.returns-clause-node
returns-clause-node c = ap view_exprs c.in_ok-push.ensures.ok ∙ exprs_append _ _

pub returns-clause-deep : goal.returns-clause-deep
returns-clause-deep c = omega (arith, ap depth_exprs (returns-clause-node c), joined_exprs_depth (view_exprs (nodes_of c.args.args.0)) (view_expr c.args.arg.0))
