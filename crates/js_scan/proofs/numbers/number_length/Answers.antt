use Rattle.std.proofs.Common.{arith}
use Rattle.std.proofs.lemmas.Grind.{common_steps}
use Rattle.js_scan.specs.NumberReading.{number_length}
use Rattle.js_scan.proofs.NumberLaws.{finds}
use Rattle.js_scan.proofs.numbers.number_length.Goals as goal

pub returns-in-48 : goal.returns-in-48
unfolding number_length
returns-in-48 c = finds c.args.units.now _ c.requires (grind (arith, common_steps))

pub returns-in_default : goal.returns-in_default
unfolding number_length
returns-in_default c = finds c.args.units.now _ c.requires (grind (arith, common_steps))
