use Rattle.std.proofs.Common.{[], None, sym, subst, arith}
use Rattle.js_values.specs.Readings.{HasHeap}
use Rattle.js_values.specs.declared.inner.Inner.TheVariants.{Plain}
use Rattle.state_tests.proofs.heap.make_one.Goals as goal

pub added-added-requires-clause-there : goal.added-added-requires-clause-there
added-added-requires-clause-there g c = omega (arith, c.in_ok-o.ensures.number, c.in_ok-o.ensures.length)

pub added-added-requires-clause-belongs : goal.added-added-requires-clause-belongs
added-added-requires-clause-belongs g c =
    let made = g.L.Labels.made c.args.labels.now in
    let empty : HasHeap made [] = λ k d lt. absurd (omega (arith, lt)) in
    let none = subst (HasHeap made) (sym c.new-heap.ensures) empty in
    subst (HasHeap made) (sym c.in_ok-o.ensures.ok) (c.objects_belong.ensures.object_more c.args.labels.now c.args.class None c.bottom-none.result c.bottom-none.result Plain c.new-heap.result c.bottom-none.ensures.made c.bottom-none.ensures.made tt none)

pub returns-clause-there : goal.returns-clause-there
returns-clause-there g c = omega (arith, c.in_ok-o.ensures.number, c.in_ok-o.ensures.length, c.added-added.ensures.there)
