use Rattle.js_scan.proofs.Blanks.{one_white_space}
use Rattle.js_scan.proofs.exactness.one_white_space.Goals as goal

pub returns : goal.returns
returns c = one_white_space
