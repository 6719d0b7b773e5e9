use Rattle.std.proofs.Common.{ap, sym, subst, ◌∙◌}
use Rattle.std.specs.List.{slice_get}
use Rattle.js_values.specs.Arrays.{length_key}
use Rattle.object_heap.specs.Formed.{own_in}
use Rattle.es_meaning.specs.Start.{length_marks}
use Rattle.property_requests.specs.Building.{IsOpenFor}
use Rattle.property_requests.proofs.BuildingLaws.{adds_alone}
use Rattle.property_requests.proofs.arrays.add_length.Goals as goal

pub add_row-requires-clause-absent : goal.add_row-requires-clause-absent
add_row-requires-clause-absent g c = ap (λ k. own_in k (slice_get c.args.heap.now c.args.o.0)) c.in_ok-key.ensures ∙ c.requires.absent

pub add_row-requires-clause-opened : goal.add_row-requires-clause-opened
add_row-requires-clause-opened g c = subst (λ k. IsOpenFor g.L.Labels.made g.L.Labels.meaning c.args.labels.now c.args.heap.now c.args.o.0 k c.args.context) (sym c.in_ok-key.ensures) c.requires.opened

pub returns-clause-adds : goal.returns-clause-adds
returns-clause-adds g c =
    rw (← c.length_body-body.ensures) (adds_alone g.L.Labels.made g.L.Labels.meaning g.L.Labels.room g.L.Labels.firm c.args.labels.now c.add_row.new.labels c.add_row.ensures.kept c.args.context c.bottom-none.result c.args.o.0 length_key c.in_ok-key.key c.length_body-body.result length_marks c.args.heap.now c.add_row.new.heap c.bottom-none.ensures.made c.bottom-none.ensures.meaning c.in_ok-key.ensures c.in_ok-add_row.ensures.adds)
