use Rattle.low_equal.proofs.Observing.{lockstep}
use Rattle.low_equal.proofs.laws.lockstep.Goals as goal

pub returns : goal.returns
returns c = lockstep
