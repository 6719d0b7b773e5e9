use Rattle.flow_meaning.proofs.Longer.{more_turns}
use Rattle.flow_meaning.proofs.laws.more_turns.Goals as goal

-- src/laws.rt:6:1
pub returns : goal.returns
returns c = more_turns
