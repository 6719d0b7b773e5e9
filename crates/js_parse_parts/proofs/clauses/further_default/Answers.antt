use Rattle.std.proofs.Common.{arith}
use Rattle.js_ast.specs.Nodes.{nodes_of}
use Rattle.js_parse_parts.proofs.Parts.{default_behind, default_deepens}
use Rattle.js_parse_parts.proofs.clauses.further_default.Goals as goal

pub returns-clause-view : goal.returns-clause-view
returns-clause-view c = default_behind (nodes_of c.args.list.0) _ c.args.body.0 c.in_ok-push.ensures.ok

pub returns-clause-deep : goal.returns-clause-deep
returns-clause-deep c = omega (arith, default_deepens (nodes_of c.args.list.0) _ c.args.body.0 c.in_ok-push.ensures.ok)
