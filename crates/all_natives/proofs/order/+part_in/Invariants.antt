use Rattle.std.proofs.Common.{length}
use Rattle.all_natives.proofs.order.+part_in.Given as goal

abbrev pub decreases-part_in : goal.decreases-part_in
decreases-part_in l = length l.ranges.now
