use Rattle.std.proofs.Common.{◌≡◌, suc, None, sym, subst, ℕ, List, arith}
use Rattle.js_values.specs.declared.property.Slot.{Slot}
use Rattle.js_values.specs.Objects.{Rows, own}
use Rattle.object_heap.proofs.BoundLaws.{bound_lowered}
use Rattle.object_heap.proofs.table.Table.lower_bound.Goals as goal

pub invariant_of-self : goal.invariant_of-self
invariant_of-self g c =
    let next : suc c.in-Some.i ≡ c.self.inside.bound = omega (arith, c.if-i-self.false) in (
      c.self.invariant.0,
      bound_lowered c.self.inside.bound c.in-Some.i c.self.inside.rows.items c.args.key.now c.in-Some.ensures.named next
          (subst (λ (rows : Rows (Slot g.row.T.Denot)). own c.args.key.now rows ≡ None) (sym c.self.view_is) (subst (λ (key : List ℕ). own key c.args.self.now ≡ None) c.text.ensures c.in-None.ensures))
          c.self.invariant.1,
    )
