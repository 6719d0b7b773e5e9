use Rattle.js_shell.proofs.NeverStopped.{never_stopped}
use Rattle.js_shell.proofs.laws.never_stopped.Goals as goal

pub returns : goal.returns
returns c = never_stopped c.erasure.ensures c.declared.ensures
