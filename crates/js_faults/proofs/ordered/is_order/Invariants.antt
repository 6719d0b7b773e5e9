use Rattle.std.proofs.Common.{map, length}
use Rattle.js_faults.specs.Ordered.{keys_of}
use Rattle.js_faults.proofs.Walking.{RisesTo}
use Rattle.js_faults.proofs.ordered.is_order.Given as goal

abbrev pub invariant-places : goal.invariant-places
invariant-places g l = RisesTo (keys_of (map g.T.Keyed.entry l.nodes)) l.order (length l.nodes) l.p
