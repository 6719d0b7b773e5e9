-- Objects whose properties change belong to the store still.
use Rattle.std.proofs.Common.{◌≡◌, ℕ, zero, suc, List, [], ◌∷◌, ◌++◌, sym, subst, arith}
use Rattle.std.specs.List.{All, remove}
use Rattle.std.proofs.lemmas.List.Elements.{All-push}
use Rattle.js_values.specs.declared.property.Slot.{Slot}
use Rattle.js_values.specs.Objects.{Object, Rows}
use Rattle.js_values.specs.Readings.{HasSlot, HasObject}
use Rattle.object_heap.specs.Acts.{with_rows}
use Rattle.object_heap.specs.Places.{changed_at_place}

module _ {T : Type 0} (made : T → Type 0) where
  abbrev Belongs : List ℕ × Slot T → Type 0
  Belongs r = HasSlot made r.1

  first_more : (r : List ℕ × Slot T) (rows : Rows (Slot T)) → Belongs r → All Belongs rows → All Belongs (r ∷ rows)
  first_more r rows first all zero d lt = first
  first_more r rows first all (suc k) d lt = all k d (omega arith)

  others : (r : List ℕ × Slot T) (rows : Rows (Slot T)) → All Belongs (r ∷ rows) → All Belongs rows
  others r rows all k d lt = all (suc k) d (omega arith)

  changed_all : (to : Slot T → Slot T) → ((s : Slot T) → HasSlot made s → HasSlot made (to s)) → (rows : Rows (Slot T)) (place : ℕ) → All Belongs rows → All Belongs (changed_at_place place to rows)
  changed_all to keeps [] place all = all
  changed_all to keeps (r ∷ rows) zero all = first_more (r.0, to r.1) rows (keeps r.1 (all 0 r (omega arith))) (others r rows all)
  changed_all to keeps (r ∷ rows) (suc place) all = first_more r (changed_at_place place to rows) (all 0 r (omega arith)) (changed_all to keeps rows place (others r rows all))

  removed_all : (rows : Rows (Slot T)) (place : ℕ) → All Belongs rows → All Belongs (remove rows place)
  removed_all [] zero all = all
  removed_all [] (suc place) all = all
  removed_all (r ∷ rows) zero all = others r rows all
  removed_all (r ∷ rows) (suc place) all = first_more r (remove rows place) (all 0 r (omega arith)) (removed_all rows place (others r rows all))

  module _ (q p : Object T) (same : q ≡ p) (has : HasObject made p) where
    before : HasObject made q
    before = subst (HasObject made) (sym same) has

    with_others : (rows : Rows (Slot T)) → All Belongs rows → HasObject made (with_rows q rows)
    with_others rows all = record { inner = before.inner; link = before.link; structure = before.structure; rows = all }

    pub row_belongs : (to : Slot T → Slot T) → ((s : Slot T) → HasSlot made s → HasSlot made (to s)) → (place : ℕ) (rows : Rows (Slot T)) → rows ≡ changed_at_place place to q.rows → HasObject made (with_rows q rows)
    row_belongs to keeps place rows is = with_others rows (subst (All Belongs) (sym is) (changed_all to keeps q.rows place before.rows))

    pub removed_belongs : (place : ℕ) (rows : Rows (Slot T)) → rows ≡ remove q.rows place → HasObject made (with_rows q rows)
    removed_belongs place rows is = with_others rows (subst (All Belongs) (sym is) (removed_all q.rows place before.rows))

    pub added_belongs : (r : List ℕ × Slot T) → (HasObject made q → HasSlot made r.1) → (rows : Rows (Slot T)) → rows ≡ q.rows ++ r ∷ [] → HasObject made (with_rows q rows)
    added_belongs r fits rows is = with_others rows (subst (All Belongs) (sym is) (All-push Belongs q.rows r before.rows (fits before)))
