use Rattle.object_heap.specs.Acts.{overwrite_own}
use Rattle.object_heap.proofs.HeapLaws.{lent, heap_does, heap_refuses, IsFormed-set, place_within, HasHeap-set, HasObject-of, stands_there}
use Rattle.std.proofs.lemmas.Grind.{common_steps}
use Rattle.std.proofs.Common.{arith, ap, ◌∙◌, List, sym, subst, ◌<◌, length}
use Rattle.std.specs.List.{slice_get}
use Rattle.js_values.specs.Objects.{Object}
use Rattle.js_values.specs.declared.property.Body.TheVariants.{Data}
use Rattle.std.proofs.lemmas.List.{length-set}
use Rattle.object_heap.proofs.heap.Heap.write_at.Goals as goal

pub returns-in_err-overwrite_at-clause-acts : goal.returns-in_err-overwrite_at-clause-acts
returns-in_err-overwrite_at-clause-acts g c =
    let here = lent c.self.inside.objects.items c.args.self.now c.args.o.0 c.index_mut.result.now c.self.view_is (place_within c.args.self.now c.args.o.0 c.args.place c.requires.stands.within) c.index_mut.ensures.value in
    heap_refuses g.L.Labels.made g.L.Labels.meaning c.overwrite_at.new.labels (λ reading. overwrite_own c.args.rule c.args.name.now (reading c.args.need) (Data c.args.value.value) (reading c.args.value.label)) c.self.inside.objects.items c.args.self.now c.self.view_is c.args.o.0 c.index_mut.result.now here c.overwrite_at.new.self c.overwrite_at.result c.from_residual.result c.in_err-overwrite_at.field-0.0 c.in_err-overwrite_at.was c.from_residual.ensures.1 c.overwrite_at.ensures.acts

pub returns-in_err-overwrite_at-clause-belongs : goal.returns-in_err-overwrite_at-clause-belongs
returns-in_err-overwrite_at-clause-belongs g c = HasHeap-set g.L.Labels.made g.L.Labels.meaning g.L.Labels.room g.L.Labels.firm c.args.labels.now c.overwrite_at.new.labels c.self.inside.objects.items c.args.self.now c.args.o.0 c.overwrite_at.new.self c.self.view_is c.overwrite_at.ensures.kept c.requires.belongs c.overwrite_at.ensures.belongs

pub invariant_of-self-2 : goal.invariant_of-self-2
invariant_of-self-2 g c =
    let here = lent c.self.inside.objects.items c.args.self.now c.args.o.0 c.index_mut.result.now c.self.view_is (place_within c.args.self.now c.args.o.0 c.args.place c.requires.stands.within) c.index_mut.ensures.value in
    IsFormed-set c.self.inside.objects.items c.args.o.0 c.index_mut.result.now c.overwrite_at.new.self (ap (λ (h : List (Object g.row.T.Denot)). slice_get h c.args.o.0) c.self.view_is ∙ here) c.overwrite_at.ensures.leads c.self.invariant

pub returns-clause-acts : goal.returns-clause-acts
returns-clause-acts g c =
    let here = lent c.self.inside.objects.items c.args.self.now c.args.o.0 c.index_mut.result.now c.self.view_is (place_within c.args.self.now c.args.o.0 c.args.place c.requires.stands.within) c.index_mut.ensures.value in
    heap_does g.L.Labels.made g.L.Labels.meaning c.overwrite_at.new.labels (λ reading. overwrite_own c.args.rule c.args.name.now (reading c.args.need) (Data c.args.value.value) (reading c.args.value.label)) c.self.inside.objects.items c.args.self.now c.self.view_is c.args.o.0 c.index_mut.result.now here c.overwrite_at.new.self c.overwrite_at.result c.in_ok-overwrite_at.was c.overwrite_at.ensures.acts

pub returns-clause-belongs : goal.returns-clause-belongs
returns-clause-belongs g c = HasHeap-set g.L.Labels.made g.L.Labels.meaning g.L.Labels.room g.L.Labels.firm c.args.labels.now c.overwrite_at.new.labels c.self.inside.objects.items c.args.self.now c.args.o.0 c.overwrite_at.new.self c.self.view_is c.overwrite_at.ensures.kept c.requires.belongs c.overwrite_at.ensures.belongs

pub index_mut-requires : goal.index_mut-requires
index_mut-requires g c = grind (arith, common_steps, subst (λ (h : List (Object g.row.T.Denot)). c.args.o.0 < length h) (sym c.self.view_is) (place_within c.args.self.now c.args.o.0 c.args.place c.requires.stands.within))

pub overwrite_at-requires-clause-stands : goal.overwrite_at-requires-clause-stands
overwrite_at-requires-clause-stands g c = stands_there c.args.self.now c.args.name.now c.args.o.0 c.args.place c.index_mut.result.now (lent c.self.inside.objects.items c.args.self.now c.args.o.0 c.index_mut.result.now c.self.view_is (place_within c.args.self.now c.args.o.0 c.args.place c.requires.stands.within) c.index_mut.ensures.value) c.requires.stands

pub overwrite_at-requires-clause-belongs : goal.overwrite_at-requires-clause-belongs
overwrite_at-requires-clause-belongs g c = HasObject-of c.args.self.now (g.L.Labels.made c.args.labels.now) c.args.o.0 c.index_mut.result.now (lent c.self.inside.objects.items c.args.self.now c.args.o.0 c.index_mut.result.now c.self.view_is (place_within c.args.self.now c.args.o.0 c.args.place c.requires.stands.within) c.index_mut.ensures.value) c.requires.belongs

pub returns-in_err-overwrite_at-clause-length : goal.returns-in_err-overwrite_at-clause-length
returns-in_err-overwrite_at-clause-length g c = length-set c.self.inside.objects.items c.args.o.0 c.overwrite_at.new.self ∙ ap length c.self.view_is

pub returns-clause-length : goal.returns-clause-length
returns-clause-length g c = length-set c.self.inside.objects.items c.args.o.0 c.overwrite_at.new.self ∙ ap length c.self.view_is

pub invariant_of-self : goal.invariant_of-self
invariant_of-self g c =
    let here = lent c.self.inside.objects.items c.args.self.now c.args.o.0 c.index_mut.result.now c.self.view_is (place_within c.args.self.now c.args.o.0 c.args.place c.requires.stands.within) c.index_mut.ensures.value in
    IsFormed-set c.self.inside.objects.items c.args.o.0 c.index_mut.result.now c.overwrite_at.new.self (ap (λ (h : List (Object g.row.T.Denot)). slice_get h c.args.o.0) c.self.view_is ∙ here) c.overwrite_at.ensures.leads c.self.invariant
