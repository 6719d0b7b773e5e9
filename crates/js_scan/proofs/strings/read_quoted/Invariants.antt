use Rattle.std.proofs.Common.{◌-◌, length}
use Rattle.js_scan.proofs.StringReadingLaws.{ReadTo}
use Rattle.js_scan.proofs.strings.read_quoted.Given as goal

abbrev pub invariant-parts : goal.invariant-parts
invariant-parts l = ReadTo l.units l.quote l.value.items l.at

abbrev pub decreases-parts : goal.decreases-parts
decreases-parts l = length l.units - l.at
