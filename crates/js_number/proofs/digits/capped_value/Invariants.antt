use Rattle.std.proofs.Common.{◌≡◌, ◌<◌, ◌^◌, length}
use Rattle.std.specs.Str.Parse.{digits_value, digits_value_after}
use Rattle.js_number.specs.Bounded.{capped}
use Rattle.js_number.proofs.digits.capped_value.Given as goal

abbrev pub invariant-loop-rest : goal.invariant-loop-rest
invariant-loop-rest l = record { same : capped (digits_value_after 10 l.value l.rest) ≡ capped (digits_value 10 l.digits); small : l.value < 2 ^ 64 }

abbrev pub decreases-loop-rest : goal.decreases-loop-rest
decreases-loop-rest l = length l.rest
