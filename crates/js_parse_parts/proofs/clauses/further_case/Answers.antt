use Rattle.std.proofs.Common.{[], ◌∷◌, Some, ap, ◌∙◌, arith}
use Rattle.js_ast.specs.declared.trees.Clause.{roll-Clause}
use Rattle.js_ast.specs.Nodes.{nodes_of}
use Rattle.js_ast.specs.Depth.{depth_clauses}
use Rattle.js_ast.specs.Joined.{joined_clauses}
use Rattle.js_ast.specs.Trees.{no_clauses}
use Rattle.js_ast.specs.Views.{view_expr, view_stmts, view_clauses}
use Rattle.js_ast.proofs.ViewLaws.{clauses_append, seen_case}
use Rattle.js_parse_parts.proofs.DepthLaws.{joined_case_depth}
use Rattle.js_parse_parts.proofs.clauses.further_case.Goals as goal

pub returns-clause-view : goal.returns-clause-view
returns-clause-view c = ap view_clauses c.in_ok-push.ensures.ok ∙ clauses_append (nodes_of c.args.list.0) (roll-Clause (record { test = Some c.args.test.0; body = c.args.body.0 }) ∷ []) ∙ ap (joined_clauses (view_clauses (nodes_of c.args.list.0))) (seen_case c.args.test.0 c.args.body.0 no_clauses)

pub returns-clause-deep : goal.returns-clause-deep
returns-clause-deep c = omega (arith, ap depth_clauses (returns-clause-view c), joined_case_depth (view_clauses (nodes_of c.args.list.0)) (view_expr c.args.test.0) (view_stmts (nodes_of c.args.body.0)))
