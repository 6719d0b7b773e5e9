use Rattle.std.proofs.Common.{◌++◌, ◌∷◌, [], ap, ◌∙◌, ◌≡◌, ℕ, List}
use Rattle.js_values.specs.declared.property.Slot.{Slot}
use Rattle.js_values.specs.Objects.{Rows, keys_of}
use Rattle.object_heap.proofs.TableLaws.{agrees, keys_push}
use Rattle.object_heap.proofs.BoundLaws.{bound_pushed}
use Rattle.object_heap.proofs.table.Table.push.Goals as goal

pub invariant_of-self-2 : goal.invariant_of-self-2
invariant_of-self-2 g c =
    let items : c.push_reserved.new.self.items ≡ c.self.inside.rows.items ++ (c.args.key, c.args.slot) ∷ [] =
    c.push_reserved.ensures.items
    ∙ ap (λ (rows : Rows (Slot g.row.T.Denot)). rows ++ c.new.result ∷ []) c.in_ok-reserve.ensures.items
    ∙ ap (λ (r : List ℕ × Slot g.row.T.Denot). c.self.inside.rows.items ++ r ∷ []) c.new.ensures in (
      agrees c.insert_key.new.index (keys_of c.self.inside.rows.items ++ c.args.key ∷ []) (keys_of c.push_reserved.new.self.items)
          (ap keys_of items ∙ keys_push c.self.inside.rows.items (c.args.key, c.args.slot))
          (c.in_ok-insert_key.ensures.ok (keys_of c.self.inside.rows.items) c.self.invariant.0),
      bound_pushed c.self.inside.bound c.bound_with-self-inside.result c.self.inside.rows.items c.push_reserved.new.self.items c.args.key c.args.slot c.bound_with-self-inside.ensures items c.self.invariant.1,
    )

pub returns-clause-ok : goal.returns-clause-ok
returns-clause-ok g c =
    c.push_reserved.ensures.items
    ∙ ap (λ (rows : Rows (Slot g.row.T.Denot)). rows ++ c.new.result ∷ []) (c.in_ok-reserve.ensures.items ∙ c.self.view_is ∙ c.make_index.ensures)
    ∙ ap (λ (r : List ℕ × Slot g.row.T.Denot). c.args.self.now ++ r ∷ []) c.new.ensures
