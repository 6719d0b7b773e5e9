use Rattle.all_natives.proofs.StepLaws.{each_follows, each_begins}
use Rattle.all_natives.proofs.laws.follows.Goals as goal

pub returns : goal.returns
returns c = record { machine = each_follows; set = each_begins }
