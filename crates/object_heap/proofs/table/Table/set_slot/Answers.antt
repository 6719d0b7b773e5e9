use Rattle.std.proofs.lemmas.Grind.{common_steps}
use Rattle.std.proofs.Common.{arith, ap, sym, subst, ◌<◌, ℕ, List, length}
use Rattle.js_values.specs.declared.property.Slot.{Slot}
use Rattle.js_values.specs.Objects.{Rows}
use Rattle.object_heap.proofs.TableLaws.{row_set, row_agrees}
use Rattle.object_heap.proofs.BoundLaws.{bound_set}
use Rattle.object_heap.proofs.table.Table.set_slot.Goals as goal

pub returns : goal.returns
returns g c =
    row_set c.self.inside.rows.items c.args.self.now c.self.view_is c.args.place c.index_mut.result.now (λ (x : Slot g.row.T.Denot). c.args.slot) c.requires c.index_mut.ensures.value c.set_slot.new.self c.set_slot.ensures

pub invariant_of-self : goal.invariant_of-self
invariant_of-self g c = (
  row_agrees c.self.inside.index c.self.inside.rows.items c.args.place c.index_mut.result.now c.index_mut.ensures.value c.set_slot.new.self (ap (λ (x : List ℕ × Slot g.row.T.Denot). x.0) c.set_slot.ensures) c.self.invariant.0,
  bound_set c.self.inside.bound c.self.inside.rows.items c.args.place c.index_mut.result.now c.index_mut.ensures.value c.set_slot.new.self (ap (λ (x : List ℕ × Slot g.row.T.Denot). x.0) c.set_slot.ensures) c.self.invariant.1,
)

pub index_mut-requires : goal.index_mut-requires
index_mut-requires g c = grind (arith, common_steps, subst (λ (rows : Rows (Slot g.row.T.Denot)). c.args.place < length rows) (sym c.self.view_is) c.requires)
