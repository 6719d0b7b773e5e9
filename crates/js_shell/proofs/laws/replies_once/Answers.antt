use Rattle.js_shell.proofs.Replying.{replies_once}
use Rattle.js_shell.proofs.laws.replies_once.Goals as goal

pub returns : goal.returns
returns c = replies_once
