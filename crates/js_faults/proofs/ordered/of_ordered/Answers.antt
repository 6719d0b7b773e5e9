use Rattle.std.proofs.Common.{map, arith}
use Rattle.js_faults.specs.Ordered.{told_in_order}
use Rattle.js_faults.proofs.Walking.{told_next, told_everywhere}
use Rattle.js_faults.proofs.ordered.of_ordered.Goals as goal

pub places-preserved : goal.places-preserved
places-preserved g c = told_next (told_in_order c.args.kind (map g.T.Keyed.entry c.args.nodes.now) c.args.order.now) c.places.p _ _ _ c.places.invariant c.told_at.ensures c.earlier-first.ensures

pub returns : goal.returns
returns g c = told_everywhere c.args.kind (map g.T.Keyed.entry c.args.nodes.now) c.args.order.now c.places.p _ c.requires (omega arith) (omega arith) c.places.invariant
