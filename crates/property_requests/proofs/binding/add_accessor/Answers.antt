use Rattle.std.proofs.Common.{ap, ◌∙◌}
use Rattle.std.specs.List.{slice_get}
use Rattle.object_heap.specs.Formed.{own_in}
use Rattle.es_meaning.specs.Start.{fixed, fixed_accessor}
use Rattle.property_requests.proofs.BuildingLaws.{adds_alone}
use Rattle.property_requests.proofs.binding.add_accessor.Goals as goal

pub add_row-requires-clause-absent : goal.add_row-requires-clause-absent
add_row-requires-clause-absent g c = ap (λ k. own_in k (slice_get c.args.heap.now c.args.o.0)) c.in_ok-key.ensures ∙ c.requires.absent

pub returns-clause-adds : goal.returns-clause-adds
returns-clause-adds g c =
    adds_alone g.L.Labels.made g.L.Labels.meaning g.L.Labels.room g.L.Labels.firm c.args.labels.now c.add_row.new.labels c.add_row.ensures.kept c.args.context c.bottom-none.result c.args.o.0 c.args.name.now c.in_ok-key.key (fixed_accessor c.args.accessor).body fixed c.args.heap.now c.add_row.new.heap c.bottom-none.ensures.made c.bottom-none.ensures.meaning c.in_ok-key.ensures c.in_ok-add_row.ensures.adds

pub add_row-requires-clause-opened : goal.add_row-requires-clause-opened
add_row-requires-clause-opened g c = rw c.in_ok-key.ensures c.requires.opened
