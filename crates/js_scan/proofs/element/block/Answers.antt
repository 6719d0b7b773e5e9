use Rattle.std.proofs.Common.{refl}
use Rattle.js_scan.specs.Tokens.{open_comment}
use Rattle.js_scan.proofs.element.block.Goals as goal
use Rattle.js_scan.proofs.Finding.{block_begins, block_found}

pub block_comment-requires : goal.block_comment-requires
block_comment-requires c = block_begins c.args.units.now c.requires

pub returns-in-Some : goal.returns-in-Some
returns-in-Some c = block_found c.args.state c.args.units.now c.in-Some.length c.in-Some.breaks_line c.requires c.in-Some.ensures

pub returns-in-None : goal.returns-in-None
returns-in-None c = open_comment c.args.state.at c.in-None.ensures refl
