use Rattle.std.proofs.Common.{◌≡◌, ◌<◌, length}
use Rattle.js_values.specs.Numerals.{value_after}
use Rattle.js_values.proofs.key.value_of.Given as goal

-- what is left gives what all units give
abbrev pub invariant-loop-rest : goal.invariant-loop-rest
invariant-loop-rest l = record { same : value_after l.value l.rest ≡ value_after 0 l.units; small : l.value < 4294967295 }

abbrev pub decreases-loop-rest : goal.decreases-loop-rest
decreases-loop-rest l = length l.rest
