use Rattle.std.proofs.Common.{refl}
use Rattle.js_ast.proofs.ViewLaws.{held_expr}
use Rattle.js_parse_parts.proofs.statements.for_loop.Goals as goal

pub returns-clause-view : goal.returns-clause-view
returns-clause-view c = rw (c.in_ok-stmt.ensures.at, c.in_ok-stmt.ensures.kind, held_expr c.args.test.0, held_expr c.args.update.0) refl
