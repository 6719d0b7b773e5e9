use Rattle.js_parse_parts.proofs.Parts.{value_seen}
use Rattle.js_parse_parts.proofs.declarations.value_of.Goals as goal

pub returns : goal.returns
returns c = value_seen c.args.declaration.now c.as_ref.result c.as_ref.ensures.value
