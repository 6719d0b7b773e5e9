use Rattle.flow_meaning.proofs.Depth.{is_performed}
use Rattle.flow_meaning.proofs.laws.performed.Goals as goal

-- src/laws.rt:11:1
pub returns : goal.returns
returns c = is_performed
