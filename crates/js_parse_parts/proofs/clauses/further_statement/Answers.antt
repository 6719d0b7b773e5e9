use Rattle.std.proofs.Common.{ap, ◌∙◌, arith}
use Rattle.js_ast.specs.Nodes.{nodes_of}
use Rattle.js_ast.specs.Depth.{depth_statements}
use Rattle.js_ast.specs.Views.{view_stmt, view_stmts}
use Rattle.js_ast.proofs.ViewLaws.{stmts_append}
use Rattle.js_parse_parts.proofs.DepthLaws.{joined_statements_depth}
use Rattle.js_parse_parts.proofs.clauses.further_statement.Goals as goal

pub returns-clause-view : goal.returns-clause-view
returns-clause-view c = ap view_stmts c.in_ok-push.ensures.ok ∙ stmts_append _ _

pub returns-clause-deep : goal.returns-clause-deep
returns-clause-deep c = omega (arith, ap depth_statements (returns-clause-view c), joined_statements_depth (view_stmts (nodes_of c.args.list.0)) (view_stmt c.args.statement.0))
