use Rattle.std.proofs.Common.{refl}
use Rattle.js_ast.proofs.ViewLaws.{held_clauses}
use Rattle.js_parse_parts.proofs.statements.switch.Goals as goal

pub returns-clause-view : goal.returns-clause-view
returns-clause-view c = rw (c.in_ok-stmt.ensures.at, c.in_ok-stmt.ensures.kind, held_clauses c.args.clauses.0) refl
