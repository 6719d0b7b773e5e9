use Rattle.std.proofs.Common.{◌≡◌, ◌-◌, suc, Some, length, sym, ap, ◌∙◌, arith}
use Rattle.js_values.specs.Numerals.{index_of}
use Rattle.object_heap.proofs.BoundLaws.{highest_last}
use Rattle.object_heap.proofs.table.last_below.Goals as goal

pub returns-then-i-bound : goal.returns-then-i-bound
returns-then-i-bound g c = λ n lt.
    let k = length c.args.rows.now - 1 in
    let last : suc k ≡ length c.args.rows.now = omega (arith, c.if-len-eq0.false) in
    let next : suc c.in-Some.i ≡ c.args.bound = omega (arith, c.if-i-bound.true) in
    highest_last c.args.bound c.in-Some.i c.args.rows.now k c.index-rows-len.result last c.index-rows-len.is (ap index_of (sym c.key.ensures) ∙ sym c.in-Some.ensures.named) next c.requires n lt
    ∙ ap (λ s. Some (c.in-Some.i, s)) (sym c.slot.ensures)
