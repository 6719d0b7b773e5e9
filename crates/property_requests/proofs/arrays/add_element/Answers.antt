use Rattle.std.proofs.Common.{ap, sym, subst, ◌∙◌}
use Rattle.std.specs.List.{slice_get}
use Rattle.js_values.specs.declared.property.Body.TheVariants.{Data}
use Rattle.object_heap.specs.Formed.{own_in}
use Rattle.es_meaning.specs.Objects.{made_by_script}
use Rattle.property_requests.specs.Building.{Adds, IsOpenFor}
use Rattle.property_requests.proofs.arrays.add_element.Goals as goal

pub add_row-requires-clause-absent : goal.add_row-requires-clause-absent
add_row-requires-clause-absent g c = ap (λ k. own_in k (slice_get c.args.heap.now c.args.o.0)) c.in_ok-key.ensures ∙ c.requires.absent

pub add_row-requires-clause-opened : goal.add_row-requires-clause-opened
add_row-requires-clause-opened g c = subst (λ k. IsOpenFor g.L.Labels.made g.L.Labels.meaning c.args.labels.now c.args.heap.now c.args.o.0 k c.args.context) (sym c.in_ok-key.ensures) c.requires.opened

pub returns-clause-adds : goal.returns-clause-adds
returns-clause-adds g c =
    subst (λ k. Adds g.L.Labels.made g.L.Labels.meaning c.add_row.new.labels c.args.context c.args.o.0 k (Data c.args.element.value.value) c.args.element.value.label made_by_script c.args.heap.now c.add_row.new.heap) c.in_ok-key.ensures c.in_ok-add_row.ensures.adds
