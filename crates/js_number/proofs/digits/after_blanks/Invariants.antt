use Rattle.std.proofs.Common.{◌≡◌, length}
use Rattle.js_number.specs.NumericText.{after_blanks}
use Rattle.js_number.proofs.digits.after_blanks.Given as goal

abbrev pub invariant-loop-rest : goal.invariant-loop-rest
invariant-loop-rest l = after_blanks l.rest ≡ after_blanks l.units

abbrev pub decreases-loop-rest : goal.decreases-loop-rest
decreases-loop-rest l = length l.rest
