use Rattle.js_number.proofs.RadixLaws.{AreCut}
use Rattle.js_number.proofs.radix.without_blanks_behind.Given as goal

abbrev pub invariant-loop-cut : goal.invariant-loop-cut
invariant-loop-cut l = AreCut l.units l.cut
