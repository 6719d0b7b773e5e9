use Rattle.std.proofs.Common.{◌≡◌, take, length}
use Rattle.flow_text.proofs.written.widened.Given as goal

abbrev pub invariant-loop-i : goal.invariant-loop-i
invariant-loop-i l = (take l.i l.units ≡ take l.i l.bytes) × (length l.units ≡ 40)
