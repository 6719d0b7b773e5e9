use Rattle.js_scan.proofs.element.line_comment.Goals as goal
use Rattle.js_scan.proofs.Finding.{line_begins, line_found}

pub line_comment_length-requires : goal.line_comment_length-requires
line_comment_length-requires c = line_begins c.args.units.now c.requires

pub returns : goal.returns
returns c = line_found c.args.state c.args.units.now c.line_comment_length.result c.requires c.line_comment_length.ensures
