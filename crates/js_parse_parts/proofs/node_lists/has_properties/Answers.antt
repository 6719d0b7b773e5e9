use Rattle.js_parse_parts.proofs.ListLaws.{some_properties}
use Rattle.js_parse_parts.proofs.node_lists.has_properties.Goals as goal

pub returns-in_default : goal.returns-in_default
returns-in_default c = rw (← c.items.ensures) (some_properties c.items.result.now c.in_default.len_at_least)
