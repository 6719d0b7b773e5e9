use Rattle.all_natives.proofs.OrderLaws.{lawful, whole, in_their_order}
use Rattle.all_natives.proofs.laws.in_order.Goals as goal

pub returns : goal.returns
returns c = record { lawful = lawful; whole = whole; names = in_their_order }
