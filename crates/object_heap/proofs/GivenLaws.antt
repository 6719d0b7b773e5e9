-- Properties that are given before a run begins.
use Rattle.std.proofs.Common.{◌≡◌, ℕ, List, set, Option, Some, None, Result, Ok, Err, sym, ap, ◌∙◌}
use Rattle.std.specs.List.{slice_get, insert}
use Rattle.std.specs.Result.{OnErr}
use Rattle.js_values.specs.declared.property.Slot.{Slot}
use Rattle.js_values.specs.Objects.{Object, Rows, own}
use Rattle.object_heap.specs.Acts.{with_rows, given_over, given, given_to, give, first_place, given_first_over, given_first, given_first_to, give_first}
use Rattle.object_heap.specs.Places.{StandsAt, changed_at_place}
use Rattle.object_heap.proofs.ActLaws.{placed, row_written}
use Rattle.object_heap.proofs.HeapLaws.{set_same}

-- in the place of another
pub row_given : {T : Type 0} (q p : Object T) → q ≡ p → (key : List ℕ) (slot : Slot T) (place : ℕ) → StandsAt key p.rows place → (rows : Rows (Slot T)) → rows ≡ changed_at_place place (λ s. slot) q.rows → with_rows q rows ≡ with_rows p (given key slot p.rows)
row_given q p same key slot place stands rows is =
    let there = placed p key place stands in
    row_written q p same key place stands (λ s. slot) rows is
    ∙ ap (λ s. with_rows p (given_over s key slot p.rows)) (sym there.2)

pub row_given_first : {T : Type 0} (q p : Object T) → q ≡ p → (key : List ℕ) (slot : Slot T) (place : ℕ) → StandsAt key p.rows place → (rows : Rows (Slot T)) → rows ≡ changed_at_place place (λ s. slot) q.rows → with_rows q rows ≡ with_rows p (given_first key slot p.rows)
row_given_first q p same key slot place stands rows is =
    let there = placed p key place stands in
    row_written q p same key place stands (λ s. slot) rows is
    ∙ ap (λ s. with_rows p (given_first_over s key slot p.rows)) (sym there.2)

-- in front of the others
pub row_inserted : {T : Type 0} (q p : Object T) → q ≡ p → (key : List ℕ) (slot : Slot T) (place : ℕ) → own key p.rows ≡ None → place ≡ first_place p.rows → (rows : Rows (Slot T)) → rows ≡ insert q.rows place (key, slot) → with_rows q rows ≡ with_rows p (given_first key slot p.rows)
row_inserted q p same key slot place absent first rows is =
    ap (with_rows q) is
    ∙ ap (λ (x : Object _). with_rows x (insert x.rows place (key, slot))) same
    ∙ ap (λ n. with_rows p (insert p.rows n (key, slot))) first
    ∙ ap (λ s. with_rows p (given_first_over s key slot p.rows)) (sym absent)

module _ {T : Type 0} (items heap : List (Object T)) (same : items ≡ heap) (i : ℕ) (x : Object T) (here : slice_get heap i ≡ Some x) (y : Object T) where
  pub heap_given : (key : List ℕ) (slot : Slot T) → y ≡ with_rows x (given key slot x.rows) → set items i y ≡ give i key slot heap
  heap_given key slot is =
      ap (λ (h : List (Object T)). set h i y) same ∙ ap (set heap i) is
      ∙ ap (λ (o : Option (Object T)). given_to o i key slot heap) (sym here)

  pub heap_given_first : (key : List ℕ) (slot : Slot T) → y ≡ with_rows x (given_first key slot x.rows) → set items i y ≡ give_first i key slot heap
  heap_given_first key slot is =
      ap (λ (h : List (Object T)). set h i y) same ∙ ap (set heap i) is
      ∙ ap (λ (o : Option (Object T)). given_first_to o i key slot heap) (sym here)

  pub heap_same : {A E : Type 0} (r : Result A E) → y ≡ x → OnErr r (set items i y ≡ heap)
  heap_same (Ok a) is = tt
  heap_same (Err e) is = ap (λ (h : List (Object T)). set h i y) same ∙ ap (set heap i) is ∙ set_same heap i x here
