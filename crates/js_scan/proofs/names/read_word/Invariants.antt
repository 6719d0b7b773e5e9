use Rattle.std.proofs.Common.{◌-◌, length}
use Rattle.js_scan.specs.NameReading.{ReadsName}
use Rattle.js_scan.proofs.names.read_word.Given as goal

abbrev pub invariant-loop-unit : goal.invariant-loop-unit
invariant-loop-unit l = ReadsName l.units l.name.items l.length l.escaped

abbrev pub decreases-loop-unit : goal.decreases-loop-unit
decreases-loop-unit l = length l.units - l.length
