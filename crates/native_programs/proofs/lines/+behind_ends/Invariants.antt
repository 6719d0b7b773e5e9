use Rattle.std.proofs.Common.{length}
use Rattle.native_programs.proofs.lines.+behind_ends.Given as goal

abbrev pub decreases-behind_ends : goal.decreases-behind_ends
decreases-behind_ends l = length l.lines.now
