use Rattle.object_heap.specs.Acts.{raise_own_structure}
use Rattle.object_heap.proofs.HeapLaws.{lent, heap_does, heap_refuses, IsFormed-set, HasHeap-set, HasObject-of}
use Rattle.std.proofs.lemmas.Grind.{common_steps}
use Rattle.std.proofs.Common.{arith, ap, ◌∙◌, List, sym, subst, ◌<◌, length}
use Rattle.std.specs.List.{slice_get}
use Rattle.js_values.specs.Objects.{Object}
use Rattle.std.proofs.lemmas.List.{length-set}
use Rattle.object_heap.proofs.heap.Heap.raise_structure.Goals as goal

pub returns-in_err-raise_structure-clause-acts : goal.returns-in_err-raise_structure-clause-acts
returns-in_err-raise_structure-clause-acts g c =
    let here = lent c.self.inside.objects.items c.args.self.now c.args.o.0 c.index_mut.result.now c.self.view_is c.requires.there c.index_mut.ensures.value in
    heap_refuses g.L.Labels.made g.L.Labels.meaning c.raise_structure.new.labels (λ reading. raise_own_structure (reading c.args.need) (reading c.args.label)) c.self.inside.objects.items c.args.self.now c.self.view_is c.args.o.0 c.index_mut.result.now here c.raise_structure.new.self c.raise_structure.result c.from_residual.result c.in_err-raise_structure.field-0.0 c.in_err-raise_structure.was c.from_residual.ensures.1 c.raise_structure.ensures.acts

pub returns-in_err-raise_structure-clause-belongs : goal.returns-in_err-raise_structure-clause-belongs
returns-in_err-raise_structure-clause-belongs g c = HasHeap-set g.L.Labels.made g.L.Labels.meaning g.L.Labels.room g.L.Labels.firm c.args.labels.now c.raise_structure.new.labels c.self.inside.objects.items c.args.self.now c.args.o.0 c.raise_structure.new.self c.self.view_is c.raise_structure.ensures.kept c.requires.belongs c.raise_structure.ensures.belongs

pub invariant_of-self-2 : goal.invariant_of-self-2
invariant_of-self-2 g c =
    let here = lent c.self.inside.objects.items c.args.self.now c.args.o.0 c.index_mut.result.now c.self.view_is c.requires.there c.index_mut.ensures.value in
    IsFormed-set c.self.inside.objects.items c.args.o.0 c.index_mut.result.now c.raise_structure.new.self (ap (λ (h : List (Object g.row.T.Denot)). slice_get h c.args.o.0) c.self.view_is ∙ here) c.raise_structure.ensures.leads c.self.invariant

pub returns-clause-acts : goal.returns-clause-acts
returns-clause-acts g c =
    let here = lent c.self.inside.objects.items c.args.self.now c.args.o.0 c.index_mut.result.now c.self.view_is c.requires.there c.index_mut.ensures.value in
    heap_does g.L.Labels.made g.L.Labels.meaning c.raise_structure.new.labels (λ reading. raise_own_structure (reading c.args.need) (reading c.args.label)) c.self.inside.objects.items c.args.self.now c.self.view_is c.args.o.0 c.index_mut.result.now here c.raise_structure.new.self c.raise_structure.result c.in_ok-raise_structure.was c.raise_structure.ensures.acts

pub returns-clause-belongs : goal.returns-clause-belongs
returns-clause-belongs g c = HasHeap-set g.L.Labels.made g.L.Labels.meaning g.L.Labels.room g.L.Labels.firm c.args.labels.now c.raise_structure.new.labels c.self.inside.objects.items c.args.self.now c.args.o.0 c.raise_structure.new.self c.self.view_is c.raise_structure.ensures.kept c.requires.belongs c.raise_structure.ensures.belongs

pub index_mut-requires : goal.index_mut-requires
index_mut-requires g c = grind (arith, common_steps, subst (λ (h : List (Object g.row.T.Denot)). c.args.o.0 < length h) (sym c.self.view_is) c.requires.there)

pub raise_structure-requires-clause-belongs : goal.raise_structure-requires-clause-belongs
raise_structure-requires-clause-belongs g c = HasObject-of c.args.self.now (g.L.Labels.made c.args.labels.now) c.args.o.0 c.index_mut.result.now (lent c.self.inside.objects.items c.args.self.now c.args.o.0 c.index_mut.result.now c.self.view_is c.requires.there c.index_mut.ensures.value) c.requires.belongs

pub returns-in_err-raise_structure-clause-length : goal.returns-in_err-raise_structure-clause-length
returns-in_err-raise_structure-clause-length g c = length-set c.self.inside.objects.items c.args.o.0 c.raise_structure.new.self ∙ ap length c.self.view_is

pub returns-clause-length : goal.returns-clause-length
returns-clause-length g c = length-set c.self.inside.objects.items c.args.o.0 c.raise_structure.new.self ∙ ap length c.self.view_is

pub invariant_of-self : goal.invariant_of-self
invariant_of-self g c =
    let here = lent c.self.inside.objects.items c.args.self.now c.args.o.0 c.index_mut.result.now c.self.view_is c.requires.there c.index_mut.ensures.value in
    IsFormed-set c.self.inside.objects.items c.args.o.0 c.index_mut.result.now c.raise_structure.new.self (ap (λ (h : List (Object g.row.T.Denot)). slice_get h c.args.o.0) c.self.view_is ∙ here) c.raise_structure.ensures.leads c.self.invariant
