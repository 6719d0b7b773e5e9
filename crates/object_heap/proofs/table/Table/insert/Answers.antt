use Rattle.std.proofs.Common.{refl, ap, ◌∙◌, ℕ, List, insert}
use Rattle.js_values.specs.declared.property.Slot.{Slot}
use Rattle.js_values.specs.Objects.{Rows}
use Rattle.object_heap.proofs.BoundLaws.{bound_put}
use Rattle.object_heap.proofs.table.Table.insert.Goals as goal

pub invariant_of-self-2 : goal.invariant_of-self-2
invariant_of-self-2 g c = (
  refl,
  bound_put c.self.inside.bound c.bound_with-bound.result c.self.inside.rows.items c.insert.new.self.items c.args.place c.args.key c.args.slot c.bound_with-bound.ensures
      (c.in_ok-insert.ensures.items ∙ ap (λ (r : List ℕ × Slot g.row.T.Denot). insert c.self.inside.rows.items c.args.place r) c.new.ensures) c.self.invariant.1,
)

pub returns-clause-ok : goal.returns-clause-ok
returns-clause-ok g c =
    c.in_ok-insert.ensures.items ∙ ap (λ (r : List ℕ × Slot g.row.T.Denot). insert c.self.inside.rows.items c.args.place r) c.new.ensures
    ∙ ap (λ (rows : Rows (Slot g.row.T.Denot)). insert rows c.args.place (c.args.key, c.args.slot)) c.self.view_is
