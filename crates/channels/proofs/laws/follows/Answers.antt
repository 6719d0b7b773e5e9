use Rattle.channels.proofs.ClauseLaws.{clause_followed}
use Rattle.channels.proofs.laws.follows.Goals as goal

pub returns : goal.returns
returns c = clause_followed
