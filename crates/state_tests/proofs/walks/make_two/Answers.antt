use Rattle.std.proofs.Common.{[], arith, sym, subst, Some, None}
use Rattle.js_values.specs.Readings.{HasHeap}
use Rattle.js_values.specs.declared.inner.Class.TheVariants.{Object}
use Rattle.js_values.specs.declared.inner.Inner.TheVariants.{Plain}
use Rattle.state_tests.proofs.walks.make_two.Goals as goal

pub new_object-requires-2-clause-proto : goal.new_object-requires-2-clause-proto
new_object-requires-2-clause-proto g c = omega (arith, c.in_ok-proto.ensures.number, c.in_ok-proto.ensures.length)

pub returns-clause-there : goal.returns-clause-there
returns-clause-there g c = omega (arith, c.in_ok-o.ensures.number, c.in_ok-o.ensures.length)

pub returns-clause-belongs : goal.returns-clause-belongs
returns-clause-belongs g c =
    let made = g.L.Labels.made c.args.labels.now in
    let empty : HasHeap made [] = λ k d lt. absurd (omega (arith, lt)) in
    let none = subst (HasHeap made) (sym c.new-heap.ensures) empty in
    let one = subst (HasHeap made) (sym c.in_ok-proto.ensures.ok) (c.objects_belong.ensures.object_more c.args.labels.now Object None c.bottom-none.result c.args.structure Plain c.new-heap.result c.bottom-none.ensures.made c.requires.structure tt none) in
    subst (HasHeap made) (sym c.in_ok-o.ensures.ok) (c.objects_belong.ensures.object_more c.args.labels.now Object (Some c.in_ok-proto.proto) c.args.link c.bottom-none.result Plain c.new_object.new.self c.requires.link c.bottom-none.ensures.made tt one)
