use Rattle.std.proofs.Common.{arith, sym, subst, ◌∙◌, ◌≡◌, None}
use Rattle.js_values.specs.declared.property.Slot.{Slot}
use Rattle.js_values.specs.Objects.{Rows, own}
use Rattle.object_heap.specs.Places.{StandsAt}
use Rattle.object_heap.proofs.PlaceLaws.{place_found, place_none, before_next}
use Rattle.object_heap.proofs.table.Table.listed.Goals as goal

pub returns-then-is_called : goal.returns-then-is_called
returns-then-is_called g c =
    subst (λ (rows : Rows (Slot g.row.T.Denot)). StandsAt c.args.name.now rows c.loop-i.i) (c.deref-row-items.ensures.value ∙ c.self.view_is)
    (place_found c.args.name.now c.deref-row-items.result.now c.loop-i.i c.row-item.result c.loop-i-test.true c.loop-i.invariant c.row-item.is (sym c.is_called.ensures ∙ c.if-is_called.true))

pub returns : goal.returns
returns g c =
    subst (λ (rows : Rows (Slot g.row.T.Denot)). own c.args.name.now rows ≡ None) (c.deref-row-items.ensures.value ∙ c.self.view_is)
    (place_none c.args.name.now c.deref-row-items.result.now (λ k d lt. c.loop-i.invariant k d (omega (arith, lt, c.loop-i-test.false))))

pub loop-i-preserved : goal.loop-i-preserved
loop-i-preserved g c =
    before_next c.args.name.now c.deref-row-items.result.now c.loop-i.i c.row-item.result c.loop-i-test.true c.row-item.is (sym c.is_called.ensures ∙ c.if-is_called.false) c.loop-i.invariant
