use Rattle.object_natives.proofs.CallLaws.{all_follow}
use Rattle.object_natives.proofs.laws.follows.Goals as goal

pub returns : goal.returns
returns c = all_follow
