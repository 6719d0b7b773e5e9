use Rattle.object_heap.specs.Acts.{add_own}
use Rattle.object_heap.proofs.HeapLaws.{lent, heap_does, heap_refuses, IsFormed-set, HasHeap-set, HasObject-of}
use Rattle.std.proofs.lemmas.Grind.{common_steps}
use Rattle.std.proofs.Common.{arith, sym, ap, ◌∙◌, List, subst, ◌<◌, length}
use Rattle.std.specs.List.{slice_get}
use Rattle.js_values.specs.Objects.{Object}
use Rattle.object_heap.specs.Formed.{own_in}
use Rattle.std.proofs.lemmas.List.{length-set}
use Rattle.object_heap.proofs.heap.Heap.add.Goals as goal

pub returns-in_err-add-clause-acts : goal.returns-in_err-add-clause-acts
returns-in_err-add-clause-acts g c =
    let here = lent c.self.inside.objects.items c.args.self.now c.args.o.0 c.index_mut.result.now c.self.view_is c.requires.there c.index_mut.ensures.value in
    heap_refuses g.L.Labels.made g.L.Labels.meaning c.add.new.labels (λ reading. add_own c.args.key (reading c.args.need) c.args.body (reading c.args.label) c.args.marks) c.self.inside.objects.items c.args.self.now c.self.view_is c.args.o.0 c.index_mut.result.now here c.add.new.self c.add.result c.from_residual.result c.in_err-add.field-0.0 c.in_err-add.was c.from_residual.ensures.1 c.add.ensures.acts

pub returns-in_err-add-clause-belongs : goal.returns-in_err-add-clause-belongs
returns-in_err-add-clause-belongs g c = HasHeap-set g.L.Labels.made g.L.Labels.meaning g.L.Labels.room g.L.Labels.firm c.args.labels.now c.add.new.labels c.self.inside.objects.items c.args.self.now c.args.o.0 c.add.new.self c.self.view_is c.add.ensures.kept c.requires.belongs c.add.ensures.belongs

pub invariant_of-self-2 : goal.invariant_of-self-2
invariant_of-self-2 g c =
    let here = lent c.self.inside.objects.items c.args.self.now c.args.o.0 c.index_mut.result.now c.self.view_is c.requires.there c.index_mut.ensures.value in
    IsFormed-set c.self.inside.objects.items c.args.o.0 c.index_mut.result.now c.add.new.self (ap (λ (h : List (Object g.row.T.Denot)). slice_get h c.args.o.0) c.self.view_is ∙ here) c.add.ensures.leads c.self.invariant

pub returns-clause-acts : goal.returns-clause-acts
returns-clause-acts g c =
    let here = lent c.self.inside.objects.items c.args.self.now c.args.o.0 c.index_mut.result.now c.self.view_is c.requires.there c.index_mut.ensures.value in
    heap_does g.L.Labels.made g.L.Labels.meaning c.add.new.labels (λ reading. add_own c.args.key (reading c.args.need) c.args.body (reading c.args.label) c.args.marks) c.self.inside.objects.items c.args.self.now c.self.view_is c.args.o.0 c.index_mut.result.now here c.add.new.self c.add.result c.in_ok-add.was c.add.ensures.acts

pub returns-clause-belongs : goal.returns-clause-belongs
returns-clause-belongs g c = HasHeap-set g.L.Labels.made g.L.Labels.meaning g.L.Labels.room g.L.Labels.firm c.args.labels.now c.add.new.labels c.self.inside.objects.items c.args.self.now c.args.o.0 c.add.new.self c.self.view_is c.add.ensures.kept c.requires.belongs c.add.ensures.belongs

pub add-requires-clause-absent : goal.add-requires-clause-absent
add-requires-clause-absent g c =
    let here = lent c.self.inside.objects.items c.args.self.now c.args.o.0 c.index_mut.result.now c.self.view_is c.requires.there c.index_mut.ensures.value in
    sym (ap (own_in c.args.key) here) ∙ c.requires.absent

pub index_mut-requires : goal.index_mut-requires
index_mut-requires g c = grind (arith, common_steps, subst (λ (h : List (Object g.row.T.Denot)). c.args.o.0 < length h) (sym c.self.view_is) c.requires.there)

pub add-requires-clause-belongs : goal.add-requires-clause-belongs
add-requires-clause-belongs g c = HasObject-of c.args.self.now (g.L.Labels.made c.args.labels.now) c.args.o.0 c.index_mut.result.now (lent c.self.inside.objects.items c.args.self.now c.args.o.0 c.index_mut.result.now c.self.view_is c.requires.there c.index_mut.ensures.value) c.requires.belongs

pub returns-in_err-add-clause-length : goal.returns-in_err-add-clause-length
returns-in_err-add-clause-length g c = length-set c.self.inside.objects.items c.args.o.0 c.add.new.self ∙ ap length c.self.view_is

pub returns-clause-length : goal.returns-clause-length
returns-clause-length g c = length-set c.self.inside.objects.items c.args.o.0 c.add.new.self ∙ ap length c.self.view_is

pub invariant_of-self : goal.invariant_of-self
invariant_of-self g c =
    let here = lent c.self.inside.objects.items c.args.self.now c.args.o.0 c.index_mut.result.now c.self.view_is c.requires.there c.index_mut.ensures.value in
    IsFormed-set c.self.inside.objects.items c.args.o.0 c.index_mut.result.now c.add.new.self (ap (λ (h : List (Object g.row.T.Denot)). slice_get h c.args.o.0) c.self.view_is ∙ here) c.add.ensures.leads c.self.invariant
