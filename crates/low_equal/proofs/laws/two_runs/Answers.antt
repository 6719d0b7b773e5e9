use Rattle.low_equal.proofs.Runs.{two_runs}
use Rattle.low_equal.proofs.laws.two_runs.Goals as goal

pub returns : goal.returns
returns c = two_runs
