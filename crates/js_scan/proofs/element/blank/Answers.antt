use Rattle.js_scan.proofs.element.blank.Goals as goal
use Rattle.js_scan.proofs.Finding.{blank_none, blank_found_at}

pub returns-in-empty : goal.returns-in-empty
returns-in-empty c = absurd (blank_none c.args.units.now c.requires c.in-empty.len_below)

pub returns-in-len1-up : goal.returns-in-len1-up
returns-in-len1-up c = blank_found_at c.args.state c.args.units.now c.is_line_terminator.result c.requires c.in-len1-up.len_at_least c.is_line_terminator.ensures
