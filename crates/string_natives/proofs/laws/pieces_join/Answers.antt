use Rattle.string_natives.proofs.JoinLaws.{pieces_join}
use Rattle.string_natives.proofs.laws.pieces_join.Goals as goal

pub returns : goal.returns
returns c = pieces_join
