use Rattle.low_equal.proofs.laws.declared.Goals as goal
use Rattle.low_equal.proofs.DeclaredRuns.{speaks_of_declared}

-- src/laws.rt:12:1
pub returns : goal.returns
returns c = speaks_of_declared
