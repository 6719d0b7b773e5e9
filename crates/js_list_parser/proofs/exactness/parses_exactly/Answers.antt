use Rattle.js_list_parser.proofs.Sound.{parses_exactly}
use Rattle.js_list_parser.proofs.exactness.parses_exactly.Goals as goal

pub returns : goal.returns
returns c = parses_exactly
