use Rattle.std.proofs.lemmas.List.{take_rest}
use Rattle.js_scan.proofs.CommentLaws.{line_found}
use Rattle.js_scan.proofs.comments.line_comment_length.Goals as goal

pub returns : goal.returns
returns c = rw (c.line_length.ensures.count, take_rest) (line_found c.args.units.now c.requires.0 c.requires.1)
