use Rattle.low_equal.proofs.laws.erasure.Goals as goal
use Rattle.low_equal.proofs.ErasedRuns.{is_erasing}

-- src/laws.rt:6:1
pub returns : goal.returns
returns c = is_erasing
