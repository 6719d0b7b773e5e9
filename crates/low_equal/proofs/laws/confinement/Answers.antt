use Rattle.low_equal.proofs.Observing.{confinement}
use Rattle.low_equal.proofs.laws.confinement.Goals as goal

pub returns : goal.returns
returns c = confinement
