use Rattle.std.proofs.Common.{ap, ◌∙◌}
use Rattle.std.specs.List.{remove}
use Rattle.js_values.specs.declared.property.Slot.{Slot}
use Rattle.js_values.specs.Objects.{Rows, keys_of}
use Rattle.object_heap.proofs.TableLaws.{agrees, keys_remove}
use Rattle.object_heap.proofs.BoundLaws.{bound_removed}
use Rattle.object_heap.proofs.table.Table.remove.Goals as goal

pub invariant_of-self : goal.invariant_of-self
invariant_of-self g c = (
  agrees c.remove_key.new.index (remove (keys_of c.self.inside.rows.items) c.args.place) (keys_of c.remove-row.new.self.items)
      (ap keys_of c.remove-row.ensures.items ∙ keys_remove c.self.inside.rows.items c.args.place)
      (c.remove_key.ensures (keys_of c.self.inside.rows.items) c.self.invariant.0),
  bound_removed c.self.inside.bound c.self.inside.rows.items c.remove-row.new.self.items c.args.place c.remove-row.ensures.items c.self.invariant.1,
)

pub returns : goal.returns
returns g c = c.lower_bound.ensures ∙ c.remove-row.ensures.items ∙ ap (λ (rows : Rows (Slot g.row.T.Denot)). remove rows c.args.place) c.self.view_is
