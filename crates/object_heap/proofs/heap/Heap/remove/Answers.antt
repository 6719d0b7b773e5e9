use Rattle.object_heap.specs.Acts.{remove_own}
use Rattle.object_heap.proofs.HeapLaws.{lent, heap_does, heap_refuses, IsFormed-set, present_within, HasHeap-set, HasObject-of, present_there}
use Rattle.origin_labels.proofs.StoreLaws.{IsKept-refl}
use Rattle.std.proofs.lemmas.Grind.{common_steps}
use Rattle.std.proofs.Common.{arith, ap, ◌∙◌, List, sym, subst, ◌<◌, length}
use Rattle.std.specs.List.{slice_get}
use Rattle.js_values.specs.Objects.{Object}
use Rattle.std.proofs.lemmas.List.{length-set}
use Rattle.object_heap.proofs.heap.Heap.remove.Goals as goal

pub returns-in_err-remove-clause-acts : goal.returns-in_err-remove-clause-acts
returns-in_err-remove-clause-acts g c =
    let here = lent c.self.inside.objects.items c.args.self.now c.args.o.0 c.index_mut.result.now c.self.view_is (present_within c.args.self.now c.args.key.now c.args.o.0 c.requires.present) c.index_mut.ensures.value in
    heap_refuses g.L.Labels.made g.L.Labels.meaning c.args.labels.now (λ reading. remove_own c.args.key.now (reading c.args.need)) c.self.inside.objects.items c.args.self.now c.self.view_is c.args.o.0 c.index_mut.result.now here c.remove.new.self c.remove.result c.from_residual.result c.in_err-remove.field-0.0 c.in_err-remove.was c.from_residual.ensures.1 c.remove.ensures.acts

pub returns-in_err-remove-clause-belongs : goal.returns-in_err-remove-clause-belongs
returns-in_err-remove-clause-belongs g c = HasHeap-set g.L.Labels.made g.L.Labels.meaning g.L.Labels.room g.L.Labels.firm c.args.labels.now c.args.labels.now c.self.inside.objects.items c.args.self.now c.args.o.0 c.remove.new.self c.self.view_is (IsKept-refl g.L.Labels.made g.L.Labels.meaning g.L.Labels.room g.L.Labels.firm c.args.labels.now) c.requires.belongs c.remove.ensures.belongs

pub invariant_of-self-2 : goal.invariant_of-self-2
invariant_of-self-2 g c =
    let here = lent c.self.inside.objects.items c.args.self.now c.args.o.0 c.index_mut.result.now c.self.view_is (present_within c.args.self.now c.args.key.now c.args.o.0 c.requires.present) c.index_mut.ensures.value in
    IsFormed-set c.self.inside.objects.items c.args.o.0 c.index_mut.result.now c.remove.new.self (ap (λ (h : List (Object g.row.T.Denot)). slice_get h c.args.o.0) c.self.view_is ∙ here) c.remove.ensures.leads c.self.invariant

pub returns-clause-acts : goal.returns-clause-acts
returns-clause-acts g c =
    let here = lent c.self.inside.objects.items c.args.self.now c.args.o.0 c.index_mut.result.now c.self.view_is (present_within c.args.self.now c.args.key.now c.args.o.0 c.requires.present) c.index_mut.ensures.value in
    heap_does g.L.Labels.made g.L.Labels.meaning c.args.labels.now (λ reading. remove_own c.args.key.now (reading c.args.need)) c.self.inside.objects.items c.args.self.now c.self.view_is c.args.o.0 c.index_mut.result.now here c.remove.new.self c.remove.result c.in_ok-remove.was c.remove.ensures.acts

pub returns-clause-belongs : goal.returns-clause-belongs
returns-clause-belongs g c = HasHeap-set g.L.Labels.made g.L.Labels.meaning g.L.Labels.room g.L.Labels.firm c.args.labels.now c.args.labels.now c.self.inside.objects.items c.args.self.now c.args.o.0 c.remove.new.self c.self.view_is (IsKept-refl g.L.Labels.made g.L.Labels.meaning g.L.Labels.room g.L.Labels.firm c.args.labels.now) c.requires.belongs c.remove.ensures.belongs

pub index_mut-requires : goal.index_mut-requires
index_mut-requires g c = grind (arith, common_steps, subst (λ (h : List (Object g.row.T.Denot)). c.args.o.0 < length h) (sym c.self.view_is) (present_within c.args.self.now c.args.key.now c.args.o.0 c.requires.present))

pub remove-requires-clause-present : goal.remove-requires-clause-present
remove-requires-clause-present g c = present_there c.args.self.now c.args.key.now c.args.o.0 c.index_mut.result.now (lent c.self.inside.objects.items c.args.self.now c.args.o.0 c.index_mut.result.now c.self.view_is (present_within c.args.self.now c.args.key.now c.args.o.0 c.requires.present) c.index_mut.ensures.value) c.requires.present

pub remove-requires-clause-belongs : goal.remove-requires-clause-belongs
remove-requires-clause-belongs g c = HasObject-of c.args.self.now (g.L.Labels.made c.args.labels.now) c.args.o.0 c.index_mut.result.now (lent c.self.inside.objects.items c.args.self.now c.args.o.0 c.index_mut.result.now c.self.view_is (present_within c.args.self.now c.args.key.now c.args.o.0 c.requires.present) c.index_mut.ensures.value) c.requires.belongs

pub returns-in_err-remove-clause-length : goal.returns-in_err-remove-clause-length
returns-in_err-remove-clause-length g c = length-set c.self.inside.objects.items c.args.o.0 c.remove.new.self ∙ ap length c.self.view_is

pub returns-clause-length : goal.returns-clause-length
returns-clause-length g c = length-set c.self.inside.objects.items c.args.o.0 c.remove.new.self ∙ ap length c.self.view_is

pub invariant_of-self : goal.invariant_of-self
invariant_of-self g c =
    let here = lent c.self.inside.objects.items c.args.self.now c.args.o.0 c.index_mut.result.now c.self.view_is (present_within c.args.self.now c.args.key.now c.args.o.0 c.requires.present) c.index_mut.ensures.value in
    IsFormed-set c.self.inside.objects.items c.args.o.0 c.index_mut.result.now c.remove.new.self (ap (λ (h : List (Object g.row.T.Denot)). slice_get h c.args.o.0) c.self.view_is ∙ here) c.remove.ensures.leads c.self.invariant
