use Rattle.std.proofs.Common.{sym, ap, ◌∙◌}
use Rattle.std.specs.List.{slice_get}
use Rattle.object_heap.specs.Formed.{own_in}
use Rattle.property_access.proofs.HeldLaws.{own_has}
use Rattle.property_requests.proofs.BindingLaws.{known_absent, known_present_in}
use Rattle.property_requests.proofs.binding.own_label.Goals as goal

pub returns-in-None-clause-means : goal.returns-in-None-clause-means
returns-in-None-clause-means g c =
    known_absent g.L.Labels.made g.L.Labels.meaning c.args.labels.now c.args.heap.now c.args.o.0 c.shape.result c.requires.belongs c.shape.ensures (sym (ap (λ k. own_in k (slice_get c.args.heap.now c.args.o.0)) c.requires.key) ∙ sym c.in-None.ensures)

pub join-requires-clause-first : goal.join-requires-clause-first
join-requires-clause-first g c = (own_has c.args.heap.now c.args.o.0 (g.L.Labels.made c.args.labels.now) c.args.key.now c.in-Some.slot.now c.requires.belongs (sym c.in-Some.ensures)).1

pub join-requires-clause-second : goal.join-requires-clause-second
join-requires-clause-second g c = (own_has c.args.heap.now c.args.o.0 (g.L.Labels.made c.args.labels.now) c.args.key.now c.in-Some.slot.now c.requires.belongs (sym c.in-Some.ensures)).0

pub returns-in-Some-clause-means : goal.returns-in-Some-clause-means
returns-in-Some-clause-means g c =
    known_present_in g.L.Labels.made g.L.Labels.meaning c.join.new.labels c.args.heap.now c.args.o.0 c.in-Some.slot.now c.join.result (sym (ap (λ k. own_in k (slice_get c.args.heap.now c.args.o.0)) c.requires.key) ∙ sym c.in-Some.ensures) c.join.ensures.means
