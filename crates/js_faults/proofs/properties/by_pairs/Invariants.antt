use Rattle.std.proofs.Common.{◌≡◌, take, drop}
use Rattle.js_faults.specs.Early.{of_repeated, of_properties}
use Rattle.js_faults.specs.Faults.{earlier, first_of}
use Rattle.js_faults.proofs.Repeated.{seen}
use Rattle.js_faults.proofs.properties.by_pairs.Given as goal

abbrev pub invariant-properties : goal.invariant-properties
invariant-properties l = earlier l.first (first_of (of_repeated (seen l.all) (seen (take l.i l.all)) (seen (drop l.i l.all)))) ≡ first_of (of_properties (seen l.all))
