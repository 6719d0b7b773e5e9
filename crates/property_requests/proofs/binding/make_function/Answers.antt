use Rattle.std.proofs.Common.{refl, ap, ◌∙◌, Some, subst, [], codes}
use Rattle.std.specs.List.{slice_get}
use Rattle.origin_labels.proofs.StoreLaws.{IsKept-trans}
use Rattle.js_values.specs.declared.inner.Class.TheVariants as class
use Rattle.object_heap.specs.Formed.{own_in}
use Rattle.es_meaning.specs.Start.{fixed, function_prototype}
use Rattle.flow_meaning.specs.Requested.{length_name}
use Rattle.property_requests.specs.Building.{Adds}
use Rattle.property_requests.proofs.BindingLaws.{one, two, with_length, with_caller, with_arguments, function_made}
use Rattle.property_requests.proofs.BuildingLaws.{built_new, built_open, built_lacks}
use Rattle.property_requests.proofs.MakingLaws.{has_new}
use Rattle.property_requests.proofs.binding.make_function.Goals as goal

pub add_row-requires-clause-absent : goal.add_row-requires-clause-absent
add_row-requires-clause-absent g c =
    ap (λ k. own_in k (slice_get c.new_object.new.self c.in_ok-f.f.0)) c.requires.key
    ∙ built_lacks g.L.Labels.made g.L.Labels.meaning c.args.heap.now c.args.context c.args.inner c.in_ok-f.f.0 c.in_ok-f.ensures.number c.args.labels.now c.new_object.new.self (λ reading. []) (built_new g.L.Labels.made g.L.Labels.meaning c.args.heap.now c.args.context c.args.inner c.args.labels.now c.new_object.new.self c.in_ok-f.ensures.ok) length_name refl

pub add_row-requires-clause-opened : goal.add_row-requires-clause-opened
add_row-requires-clause-opened g c = built_open g.L.Labels.made g.L.Labels.meaning c.args.heap.now c.args.context c.args.inner c.in_ok-f.f.0 c.in_ok-f.ensures.number c.args.labels.now c.new_object.new.self (λ reading. []) (built_new g.L.Labels.made g.L.Labels.meaning c.args.heap.now c.args.context c.args.inner c.args.labels.now c.new_object.new.self c.in_ok-f.ensures.ok) c.args.key

pub add_row-requires-clause-belongs : goal.add_row-requires-clause-belongs
add_row-requires-clause-belongs g c = has_new (g.L.Labels.made c.args.labels.now) c.args.heap.now c.new_object.new.self class.Function (Some function_prototype) c.args.context c.args.context c.args.inner c.in_ok-f.ensures.ok c.requires.context c.requires.context c.requires.inner c.requires.belongs

pub add_accessor-requires-clause-absent : goal.add_accessor-requires-clause-absent
add_accessor-requires-clause-absent g c =
    built_lacks g.L.Labels.made g.L.Labels.meaning c.args.heap.now c.args.context c.args.inner c.in_ok-f.f.0 c.in_ok-f.ensures.number c.add_row.new.labels c.add_row.new.heap (one g.L.Labels.made g.L.Labels.meaning g.L.Labels.room g.L.Labels.firm c.args.heap.now c.args.context c.args.depends c.args.inner c.args.count c.in_ok-f.f.0 c.in_ok-f.ensures.number)
    (with_length g.L.Labels.made g.L.Labels.meaning g.L.Labels.room g.L.Labels.firm c.args.heap.now c.args.context c.args.depends c.args.inner c.args.count c.in_ok-f.f.0 c.in_ok-f.ensures.number c.args.labels.now c.add_row.new.labels c.in_ok-add_row.ensures.kept c.new_object.new.self c.add_row.new.heap (built_new g.L.Labels.made g.L.Labels.meaning c.args.heap.now c.args.context c.args.inner c.args.labels.now c.new_object.new.self c.in_ok-f.ensures.ok)
    (subst (λ b. Adds g.L.Labels.made g.L.Labels.meaning c.add_row.new.labels c.args.context c.in_ok-f.f.0 length_name b c.args.depends fixed c.new_object.new.self c.add_row.new.heap) c.count_body.ensures
    (subst (λ k. Adds g.L.Labels.made g.L.Labels.meaning c.add_row.new.labels c.args.context c.in_ok-f.f.0 k c.count_body.result c.args.depends fixed c.new_object.new.self c.add_row.new.heap) c.requires.key c.in_ok-add_row.ensures.adds))) (codes "caller") refl

pub add_accessor-requires-clause-opened : goal.add_accessor-requires-clause-opened
add_accessor-requires-clause-opened g c =
    built_open g.L.Labels.made g.L.Labels.meaning c.args.heap.now c.args.context c.args.inner c.in_ok-f.f.0 c.in_ok-f.ensures.number c.add_row.new.labels c.add_row.new.heap (one g.L.Labels.made g.L.Labels.meaning g.L.Labels.room g.L.Labels.firm c.args.heap.now c.args.context c.args.depends c.args.inner c.args.count c.in_ok-f.f.0 c.in_ok-f.ensures.number)
    (with_length g.L.Labels.made g.L.Labels.meaning g.L.Labels.room g.L.Labels.firm c.args.heap.now c.args.context c.args.depends c.args.inner c.args.count c.in_ok-f.f.0 c.in_ok-f.ensures.number c.args.labels.now c.add_row.new.labels c.in_ok-add_row.ensures.kept c.new_object.new.self c.add_row.new.heap (built_new g.L.Labels.made g.L.Labels.meaning c.args.heap.now c.args.context c.args.inner c.args.labels.now c.new_object.new.self c.in_ok-f.ensures.ok)
    (subst (λ b. Adds g.L.Labels.made g.L.Labels.meaning c.add_row.new.labels c.args.context c.in_ok-f.f.0 length_name b c.args.depends fixed c.new_object.new.self c.add_row.new.heap) c.count_body.ensures
    (subst (λ k. Adds g.L.Labels.made g.L.Labels.meaning c.add_row.new.labels c.args.context c.in_ok-f.f.0 k c.count_body.result c.args.depends fixed c.new_object.new.self c.add_row.new.heap) c.requires.key c.in_ok-add_row.ensures.adds))) (codes "caller")

pub add_accessor-requires-2-clause-absent : goal.add_accessor-requires-2-clause-absent
add_accessor-requires-2-clause-absent g c =
    built_lacks g.L.Labels.made g.L.Labels.meaning c.args.heap.now c.args.context c.args.inner c.in_ok-f.f.0 c.in_ok-f.ensures.number c.add_accessor.new.labels c.add_accessor.new.heap (two g.L.Labels.made g.L.Labels.meaning g.L.Labels.room g.L.Labels.firm c.args.heap.now c.args.context c.args.depends c.args.inner c.args.count c.in_ok-f.f.0 c.in_ok-f.ensures.number)
    (with_caller g.L.Labels.made g.L.Labels.meaning g.L.Labels.room g.L.Labels.firm c.args.heap.now c.args.context c.args.depends c.args.inner c.args.count c.in_ok-f.f.0 c.in_ok-f.ensures.number c.add_row.new.labels c.add_accessor.new.labels c.in_ok-add_accessor.ensures.kept c.add_row.new.heap c.add_accessor.new.heap
    (with_length g.L.Labels.made g.L.Labels.meaning g.L.Labels.room g.L.Labels.firm c.args.heap.now c.args.context c.args.depends c.args.inner c.args.count c.in_ok-f.f.0 c.in_ok-f.ensures.number c.args.labels.now c.add_row.new.labels c.in_ok-add_row.ensures.kept c.new_object.new.self c.add_row.new.heap (built_new g.L.Labels.made g.L.Labels.meaning c.args.heap.now c.args.context c.args.inner c.args.labels.now c.new_object.new.self c.in_ok-f.ensures.ok)
    (subst (λ b. Adds g.L.Labels.made g.L.Labels.meaning c.add_row.new.labels c.args.context c.in_ok-f.f.0 length_name b c.args.depends fixed c.new_object.new.self c.add_row.new.heap) c.count_body.ensures
    (subst (λ k. Adds g.L.Labels.made g.L.Labels.meaning c.add_row.new.labels c.args.context c.in_ok-f.f.0 k c.count_body.result c.args.depends fixed c.new_object.new.self c.add_row.new.heap) c.requires.key c.in_ok-add_row.ensures.adds))) c.in_ok-add_accessor.ensures.adds) (codes "arguments") refl

pub add_accessor-requires-2-clause-opened : goal.add_accessor-requires-2-clause-opened
add_accessor-requires-2-clause-opened g c =
    built_open g.L.Labels.made g.L.Labels.meaning c.args.heap.now c.args.context c.args.inner c.in_ok-f.f.0 c.in_ok-f.ensures.number c.add_accessor.new.labels c.add_accessor.new.heap (two g.L.Labels.made g.L.Labels.meaning g.L.Labels.room g.L.Labels.firm c.args.heap.now c.args.context c.args.depends c.args.inner c.args.count c.in_ok-f.f.0 c.in_ok-f.ensures.number)
    (with_caller g.L.Labels.made g.L.Labels.meaning g.L.Labels.room g.L.Labels.firm c.args.heap.now c.args.context c.args.depends c.args.inner c.args.count c.in_ok-f.f.0 c.in_ok-f.ensures.number c.add_row.new.labels c.add_accessor.new.labels c.in_ok-add_accessor.ensures.kept c.add_row.new.heap c.add_accessor.new.heap
    (with_length g.L.Labels.made g.L.Labels.meaning g.L.Labels.room g.L.Labels.firm c.args.heap.now c.args.context c.args.depends c.args.inner c.args.count c.in_ok-f.f.0 c.in_ok-f.ensures.number c.args.labels.now c.add_row.new.labels c.in_ok-add_row.ensures.kept c.new_object.new.self c.add_row.new.heap (built_new g.L.Labels.made g.L.Labels.meaning c.args.heap.now c.args.context c.args.inner c.args.labels.now c.new_object.new.self c.in_ok-f.ensures.ok)
    (subst (λ b. Adds g.L.Labels.made g.L.Labels.meaning c.add_row.new.labels c.args.context c.in_ok-f.f.0 length_name b c.args.depends fixed c.new_object.new.self c.add_row.new.heap) c.count_body.ensures
    (subst (λ k. Adds g.L.Labels.made g.L.Labels.meaning c.add_row.new.labels c.args.context c.in_ok-f.f.0 k c.count_body.result c.args.depends fixed c.new_object.new.self c.add_row.new.heap) c.requires.key c.in_ok-add_row.ensures.adds))) c.in_ok-add_accessor.ensures.adds) (codes "arguments")

pub returns-clause-makes : goal.returns-clause-makes
returns-clause-makes g c =
    function_made g.L.Labels.made g.L.Labels.meaning g.L.Labels.room g.L.Labels.firm c.args.heap.now c.args.context c.args.depends c.args.inner c.args.count c.in_ok-f.f.0 c.in_ok-f.ensures.number c.add_accessor-2.new.labels c.add_accessor-2.new.heap
    (with_arguments g.L.Labels.made g.L.Labels.meaning g.L.Labels.room g.L.Labels.firm c.args.heap.now c.args.context c.args.depends c.args.inner c.args.count c.in_ok-f.f.0 c.in_ok-f.ensures.number c.add_accessor.new.labels c.add_accessor-2.new.labels c.in_ok-add_accessor-2.ensures.kept c.add_accessor.new.heap c.add_accessor-2.new.heap
    (with_caller g.L.Labels.made g.L.Labels.meaning g.L.Labels.room g.L.Labels.firm c.args.heap.now c.args.context c.args.depends c.args.inner c.args.count c.in_ok-f.f.0 c.in_ok-f.ensures.number c.add_row.new.labels c.add_accessor.new.labels c.in_ok-add_accessor.ensures.kept c.add_row.new.heap c.add_accessor.new.heap
    (with_length g.L.Labels.made g.L.Labels.meaning g.L.Labels.room g.L.Labels.firm c.args.heap.now c.args.context c.args.depends c.args.inner c.args.count c.in_ok-f.f.0 c.in_ok-f.ensures.number c.args.labels.now c.add_row.new.labels c.in_ok-add_row.ensures.kept c.new_object.new.self c.add_row.new.heap (built_new g.L.Labels.made g.L.Labels.meaning c.args.heap.now c.args.context c.args.inner c.args.labels.now c.new_object.new.self c.in_ok-f.ensures.ok)
    (subst (λ b. Adds g.L.Labels.made g.L.Labels.meaning c.add_row.new.labels c.args.context c.in_ok-f.f.0 length_name b c.args.depends fixed c.new_object.new.self c.add_row.new.heap) c.count_body.ensures
    (subst (λ k. Adds g.L.Labels.made g.L.Labels.meaning c.add_row.new.labels c.args.context c.in_ok-f.f.0 k c.count_body.result c.args.depends fixed c.new_object.new.self c.add_row.new.heap) c.requires.key c.in_ok-add_row.ensures.adds))) c.in_ok-add_accessor.ensures.adds) c.in_ok-add_accessor-2.ensures.adds)

pub returns-clause-kept : goal.returns-clause-kept
returns-clause-kept g c = IsKept-trans _ _ _ _ _ _ _ c.in_ok-add_row.ensures.kept (IsKept-trans _ _ _ _ _ _ _ c.in_ok-add_accessor.ensures.kept c.in_ok-add_accessor-2.ensures.kept)
