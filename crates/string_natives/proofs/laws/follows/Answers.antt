use Rattle.string_natives.proofs.FollowLaws.{all_follow}
use Rattle.string_natives.proofs.laws.follows.Goals as goal

pub returns : goal.returns
returns c = all_follow
