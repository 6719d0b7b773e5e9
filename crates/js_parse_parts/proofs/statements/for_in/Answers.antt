use Rattle.std.proofs.Common.{refl}
use Rattle.js_parse_parts.proofs.statements.for_in.Goals as goal

pub returns-clause-view : goal.returns-clause-view
returns-clause-view c = rw (c.in_ok-stmt.ensures.at, c.in_ok-stmt.ensures.kind) refl
