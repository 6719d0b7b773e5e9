use Rattle.std.proofs.Common.{arith}
use Rattle.js_ast.specs.Nodes.{nodes_of}
use Rattle.js_ast.specs.Trees as trees
use Rattle.js_ast.specs.Trees.{function_of}
use Rattle.js_ast.specs.Views.{view_name, view_idents, view_stmts}
use Rattle.js_parse_parts.proofs.Made.{made_deep, made_size}
use Rattle.js_parse_parts.proofs.nodes.function.Goals as goal

pub returns-clause-node : goal.returns-clause-node
returns-clause-node c = rw c.unmarked.ensures at c.node.ensures.node

pub returns-clause-deep : goal.returns-clause-deep
returns-clause-deep c = made_deep c.node.result (trees.function c.args.at (function_of c.args.at (view_name c.args.name) (view_idents (nodes_of c.args.params)) (view_stmts (nodes_of c.args.body.0)))) _ (returns-clause-node c) c.node.ensures.depth (omega arith)

pub returns-clause-size : goal.returns-clause-size
returns-clause-size c = made_size c.node.result _ _ c.node.ensures.depth (omega arith)
