use Rattle.step_objects.proofs.Following.{are_operated}
use Rattle.step_objects.proofs.operators.operating.Goals as goal

pub returns : goal.returns
returns c = are_operated
