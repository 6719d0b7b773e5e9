use Rattle.object_heap.specs.Acts.{overwrite_own}
use Rattle.object_heap.proofs.HeapLaws.{lent, heap_does, heap_refuses, IsFormed-set, present_within, HasHeap-set, HasObject-of, present_there}
use Rattle.std.proofs.lemmas.Grind.{common_steps}
use Rattle.std.proofs.Common.{arith, ap, ◌∙◌, List, sym, subst, ◌<◌, length}
use Rattle.std.specs.List.{slice_get}
use Rattle.js_values.specs.Objects.{Object}
use Rattle.std.proofs.lemmas.List.{length-set}
use Rattle.object_heap.proofs.heap.Heap.overwrite.Goals as goal

pub returns-in_err-overwrite-clause-acts : goal.returns-in_err-overwrite-clause-acts
returns-in_err-overwrite-clause-acts g c =
    let here = lent c.self.inside.objects.items c.args.self.now c.args.o.0 c.index_mut.result.now c.self.view_is (present_within c.args.self.now c.args.name.now c.args.o.0 c.requires.present) c.index_mut.ensures.value in
    heap_refuses g.L.Labels.made g.L.Labels.meaning c.overwrite.new.labels (λ reading. overwrite_own c.args.rule c.args.name.now (reading c.args.need) c.args.body (reading c.args.label)) c.self.inside.objects.items c.args.self.now c.self.view_is c.args.o.0 c.index_mut.result.now here c.overwrite.new.self c.overwrite.result c.from_residual.result c.in_err-overwrite.field-0.0 c.in_err-overwrite.was c.from_residual.ensures.1 c.overwrite.ensures.acts

pub returns-in_err-overwrite-clause-belongs : goal.returns-in_err-overwrite-clause-belongs
returns-in_err-overwrite-clause-belongs g c = HasHeap-set g.L.Labels.made g.L.Labels.meaning g.L.Labels.room g.L.Labels.firm c.args.labels.now c.overwrite.new.labels c.self.inside.objects.items c.args.self.now c.args.o.0 c.overwrite.new.self c.self.view_is c.overwrite.ensures.kept c.requires.belongs c.overwrite.ensures.belongs

pub invariant_of-self-2 : goal.invariant_of-self-2
invariant_of-self-2 g c =
    let here = lent c.self.inside.objects.items c.args.self.now c.args.o.0 c.index_mut.result.now c.self.view_is (present_within c.args.self.now c.args.name.now c.args.o.0 c.requires.present) c.index_mut.ensures.value in
    IsFormed-set c.self.inside.objects.items c.args.o.0 c.index_mut.result.now c.overwrite.new.self (ap (λ (h : List (Object g.row.T.Denot)). slice_get h c.args.o.0) c.self.view_is ∙ here) c.overwrite.ensures.leads c.self.invariant

pub returns-clause-acts : goal.returns-clause-acts
returns-clause-acts g c =
    let here = lent c.self.inside.objects.items c.args.self.now c.args.o.0 c.index_mut.result.now c.self.view_is (present_within c.args.self.now c.args.name.now c.args.o.0 c.requires.present) c.index_mut.ensures.value in
    heap_does g.L.Labels.made g.L.Labels.meaning c.overwrite.new.labels (λ reading. overwrite_own c.args.rule c.args.name.now (reading c.args.need) c.args.body (reading c.args.label)) c.self.inside.objects.items c.args.self.now c.self.view_is c.args.o.0 c.index_mut.result.now here c.overwrite.new.self c.overwrite.result c.in_ok-overwrite.was c.overwrite.ensures.acts

pub returns-clause-belongs : goal.returns-clause-belongs
returns-clause-belongs g c = HasHeap-set g.L.Labels.made g.L.Labels.meaning g.L.Labels.room g.L.Labels.firm c.args.labels.now c.overwrite.new.labels c.self.inside.objects.items c.args.self.now c.args.o.0 c.overwrite.new.self c.self.view_is c.overwrite.ensures.kept c.requires.belongs c.overwrite.ensures.belongs

pub index_mut-requires : goal.index_mut-requires
index_mut-requires g c = grind (arith, common_steps, subst (λ (h : List (Object g.row.T.Denot)). c.args.o.0 < length h) (sym c.self.view_is) (present_within c.args.self.now c.args.name.now c.args.o.0 c.requires.present))

pub overwrite-requires-clause-present : goal.overwrite-requires-clause-present
overwrite-requires-clause-present g c = present_there c.args.self.now c.args.name.now c.args.o.0 c.index_mut.result.now (lent c.self.inside.objects.items c.args.self.now c.args.o.0 c.index_mut.result.now c.self.view_is (present_within c.args.self.now c.args.name.now c.args.o.0 c.requires.present) c.index_mut.ensures.value) c.requires.present

pub overwrite-requires-clause-belongs : goal.overwrite-requires-clause-belongs
overwrite-requires-clause-belongs g c = HasObject-of c.args.self.now (g.L.Labels.made c.args.labels.now) c.args.o.0 c.index_mut.result.now (lent c.self.inside.objects.items c.args.self.now c.args.o.0 c.index_mut.result.now c.self.view_is (present_within c.args.self.now c.args.name.now c.args.o.0 c.requires.present) c.index_mut.ensures.value) c.requires.belongs

pub returns-in_err-overwrite-clause-length : goal.returns-in_err-overwrite-clause-length
returns-in_err-overwrite-clause-length g c = length-set c.self.inside.objects.items c.args.o.0 c.overwrite.new.self ∙ ap length c.self.view_is

pub returns-clause-length : goal.returns-clause-length
returns-clause-length g c = length-set c.self.inside.objects.items c.args.o.0 c.overwrite.new.self ∙ ap length c.self.view_is

pub invariant_of-self : goal.invariant_of-self
invariant_of-self g c =
    let here = lent c.self.inside.objects.items c.args.self.now c.args.o.0 c.index_mut.result.now c.self.view_is (present_within c.args.self.now c.args.name.now c.args.o.0 c.requires.present) c.index_mut.ensures.value in
    IsFormed-set c.self.inside.objects.items c.args.o.0 c.index_mut.result.now c.overwrite.new.self (ap (λ (h : List (Object g.row.T.Denot)). slice_get h c.args.o.0) c.self.view_is ∙ here) c.overwrite.ensures.leads c.self.invariant
