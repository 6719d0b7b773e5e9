use Rattle.std.proofs.Common.{◌≡◌, ◌<◌, ◌^◌, length}
use Rattle.std.specs.Str.Parse.{digits_value_after}
use Rattle.js_number.proofs.digits.value_after.Given as goal

abbrev pub invariant-loop-rest : goal.invariant-loop-rest
invariant-loop-rest l = record { same : digits_value_after l.radix l.value l.rest ≡ digits_value_after l.radix l.start l.digits; small : l.value < 2 ^ 53 }

abbrev pub decreases-loop-rest : goal.decreases-loop-rest
decreases-loop-rest l = length l.rest
