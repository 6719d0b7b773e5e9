use Rattle.std.proofs.Common.{sym}
use Rattle.std.specs.List.{slice_get}
use Rattle.object_heap.specs.Formed.{own_in}
use Rattle.property_requests.proofs.HeldLaws.{held_none, held_some}
use Rattle.property_requests.proofs.defining.held_label.Goals as goal

pub returns-in-None : goal.returns-in-None
returns-in-None g c = held_none g.L.Labels.made g.L.Labels.meaning c.args.labels.now (own_in c.args.site.now.key (slice_get c.args.world.now.heap c.args.site.now.object.0)) (sym c.in-None.ensures) c.bottom.result c.bottom.ensures.made c.bottom.ensures.meaning

pub returns-in-Some : goal.returns-in-Some
returns-in-Some g c = held_some g.L.Labels.made g.L.Labels.meaning c.args.labels.now c.args.world.now.heap c.args.site.now.object.0 c.args.site.now.key c.requires.belongs.heap c.in-Some.slot.now (sym c.in-Some.ensures)
