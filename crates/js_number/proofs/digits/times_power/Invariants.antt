use Rattle.std.proofs.Common.{◌≡◌, ◌<◌, ◌*◌, ◌^◌}
use Rattle.js_number.proofs.digits.times_power.Given as goal

abbrev pub invariant-loop : goal.invariant-loop
invariant-loop l = record { product : l.product ≡ l.value * 10 ^ l.counter; small : l.product < 2 ^ 53; positive : 0 < l.value }
