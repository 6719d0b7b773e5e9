use Rattle.std.proofs.lemmas.Grind.{common_steps}
use Rattle.std.proofs.Common.{arith, ap, ◌∙◌, List, sym, subst, ◌<◌, length}
use Rattle.std.specs.List.{slice_get}
use Rattle.js_values.specs.Objects.{Object}
use Rattle.object_heap.proofs.GivenLaws.{heap_given_first, heap_same}
use Rattle.object_heap.proofs.HeapLaws.{lent, IsFormed-set}
use Rattle.object_heap.proofs.heap.Heap.give_first.Goals as goal

pub returns-in_err-give_first-clause-unchanged : goal.returns-in_err-give_first-clause-unchanged
returns-in_err-give_first-clause-unchanged g c =
    let here = lent c.self.inside.objects.items c.args.self.now c.args.o.0 c.index_mut.result.now c.self.view_is c.requires.there c.index_mut.ensures.value in
    heap_same c.self.inside.objects.items c.args.self.now c.self.view_is c.args.o.0 c.index_mut.result.now here c.give_first.new.self c.from_residual.result c.in_err-give_first.ensures.unchanged

pub invariant_of-self-2 : goal.invariant_of-self-2
invariant_of-self-2 g c =
    let here = lent c.self.inside.objects.items c.args.self.now c.args.o.0 c.index_mut.result.now c.self.view_is c.requires.there c.index_mut.ensures.value in
    IsFormed-set c.self.inside.objects.items c.args.o.0 c.index_mut.result.now c.give_first.new.self (ap (λ (h : List (Object g.row.T.Denot)). slice_get h c.args.o.0) c.self.view_is ∙ here) c.give_first.ensures.leads c.self.invariant

pub returns-clause-ok : goal.returns-clause-ok
returns-clause-ok g c =
    let here = lent c.self.inside.objects.items c.args.self.now c.args.o.0 c.index_mut.result.now c.self.view_is c.requires.there c.index_mut.ensures.value in
    heap_given_first c.self.inside.objects.items c.args.self.now c.self.view_is c.args.o.0 c.index_mut.result.now here c.give_first.new.self c.args.key c.args.slot c.in_ok-give_first.ensures.ok

pub index_mut-requires : goal.index_mut-requires
index_mut-requires g c = grind (arith, common_steps, subst (λ (h : List (Object g.row.T.Denot)). c.args.o.0 < length h) (sym c.self.view_is) c.requires.there)

pub invariant_of-self : goal.invariant_of-self
invariant_of-self g c =
    let here = lent c.self.inside.objects.items c.args.self.now c.args.o.0 c.index_mut.result.now c.self.view_is c.requires.there c.index_mut.ensures.value in
    IsFormed-set c.self.inside.objects.items c.args.o.0 c.index_mut.result.now c.give_first.new.self (ap (λ (h : List (Object g.row.T.Denot)). slice_get h c.args.o.0) c.self.view_is ∙ here) c.give_first.ensures.leads c.self.invariant
