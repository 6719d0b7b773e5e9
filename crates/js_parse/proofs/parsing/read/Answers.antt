use Rattle.std.proofs.Common.{inr}
use Rattle.js_ast.specs.Nodes.{nodes_of}
use Rattle.js_ast.specs.Views.{view_stmts}
use Rattle.js_parse.proofs.Laws.{directive_fault}
use Rattle.js_parse.proofs.parsing.read.Goals as goal

pub returns-in-Some-clause-fault : goal.returns-in-Some-clause-fault
returns-in-Some-clause-fault c = inr (directive_fault c.args.tokens.now c.args.end (view_stmts (nodes_of c.in_ok-body.body)) c.in-Some.directive c.in_ok-body.ensures.tree c.in-Some.ensures)
