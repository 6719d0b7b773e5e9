use Rattle.std.proofs.Common.{◌≡◌, map}
use Rattle.js_faults.specs.Faults.{first_of}
use Rattle.js_faults.specs.Ordered.{told_in_order}
use Rattle.js_faults.proofs.Alike.{told}
use Rattle.js_faults.proofs.ordered.of_ordered.Given as goal

abbrev pub invariant-places : goal.invariant-places
invariant-places g l = l.first ≡ first_of (told (told_in_order l.kind (map g.T.Keyed.entry l.nodes) l.order) l.p)
