use Rattle.js_shell.proofs.Isolating.{isolation}
use Rattle.js_shell.proofs.laws.isolation.Goals as goal

pub returns : goal.returns
returns c = isolation c.two_runs.ensures
