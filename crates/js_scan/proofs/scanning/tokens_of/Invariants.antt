use Rattle.std.proofs.Common.{length, ◌-◌}
use Rattle.js_scan.proofs.Steps.{Read}
use Rattle.js_scan.proofs.scanning.tokens_of.Given as goal

-- what was read so far is a reading of the source up to here
abbrev pub invariant-elements : goal.invariant-elements
invariant-elements l = Read l.units l.tokens.items l.state

abbrev pub decreases-elements : goal.decreases-elements
decreases-elements l = length l.units - l.state.at
