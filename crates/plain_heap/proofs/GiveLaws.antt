-- The last object of a heap, as it is given a property.
use Rattle.std.proofs.Common.{refl, sym, ap, ◌∙◌, ◌≡◌, ◌<◌, ℕ, zero, suc, Bool, true, false, List, [], ◌∷◌, ◌++◌, length, set, subst, Option, Some, None, if◌then◌else◌}
use Rattle.std.specs.List.{slice_get, All}
use Rattle.std.specs.Option.{option_map}
use Rattle.std.proofs.lemmas.List.{length-set, map-append, map-set}
use Rattle.std.proofs.lemmas.List.Elements.{All-cons, All-head, All-tail, All-push, All-set}
use Rattle.std.proofs.lemmas.Option.{none-some, same_Some, slice_get-map}
use Rattle.origin_labels.specs.Names.{same_name}
use Rattle.js_values.specs.declared.property.Slot.{Slot}
use Rattle.js_values.specs.Objects.{Rows, Object, own, changed}
use Rattle.js_values.specs.Readings.{HasSlot, HasObject, HasHeap, read_slot, read_rows, read_object, read_heap}
use Rattle.object_heap.specs.Acts.{with_rows, given_over, given, given_to, give}

last_there : {X : Type 0} (before : List X) (x : X) → slice_get (before ++ x ∷ []) (length before) ≡ Some x
last_there [] x = refl
last_there (b ∷ before) x = last_there before x

last_set : {X : Type 0} (before : List X) (x y : X) → set (before ++ x ∷ []) (length before) y ≡ before ++ y ∷ []
last_set [] x y = refl
last_set (b ∷ before) x y = ap (λ xs. b ∷ xs) (last_set before x y)

pub last_gives : {T : Type 0} (first middle last : List (Object T)) (q : Object T) (o : ℕ) (key : List ℕ) (slot : Slot T) → o ≡ length first → middle ≡ first ++ q ∷ [] → last ≡ give o key slot middle → last ≡ first ++ with_rows q (given key slot q.rows) ∷ []
last_gives first middle last q o key slot place made gives =
    gives ∙ ap (give o key slot) made ∙ ap (λ n. give n key slot (first ++ q ∷ [])) place
    ∙ ap (λ (x : Option (Object _)). given_to x (length first) key slot (first ++ q ∷ [])) (last_there first q)
    ∙ last_set first q (with_rows q (given key slot q.rows))

-- ---- what stays

all_at : {X : Type 0} (P : X → Type 0) (xs : List X) (i : ℕ) (x : X) → slice_get xs i ≡ Some x → All P xs → P x
all_at P [] i x there all = absurd (none-some x there)
all_at P (y ∷ xs) zero x there all = subst P (same_Some y x there) (All-head P y xs all)
all_at P (y ∷ xs) (suc i) x there all = all_at P xs i x there (All-tail P y xs all)

pub length_give : {T : Type 0} (heap : List (Object T)) (o : ℕ) (key : List ℕ) (slot : Slot T) → length (give o key slot heap) ≡ length heap
length_give heap o key slot = by (slice_get heap o)
  where
    by : (p : Option (Object _)) → length (given_to p o key slot heap) ≡ length heap
    by None = refl
    by (Some p) = length-set heap o (with_rows p (given key slot p.rows))

module _ {T : Type 0} (made : T → Type 0) (key : List ℕ) (slot : Slot T) (has : HasSlot made slot) where
  abbrev HasRow : List ℕ × Slot T → Type 0
  HasRow r = HasSlot made r.1

  changed_at : (test : Bool) (r : List ℕ × Slot T) (rows more : Rows (Slot T)) → All HasRow (r ∷ rows) → All HasRow more → All HasRow (if test then (r.0, slot) ∷ rows else r ∷ more)
  changed_at true r rows more all rest = All-cons HasRow (r.0, slot) rows has (All-tail HasRow r rows all)
  changed_at false r rows more all rest = All-cons HasRow r more (All-head HasRow r rows all) rest

  has_changed : (rows : Rows (Slot T)) → All HasRow rows → All HasRow (changed key (λ s. slot) rows)
  has_changed [] all = all
  has_changed (r ∷ rows) all = changed_at (same_name r.0 key) r rows (changed key (λ s. slot) rows) all (has_changed rows (All-tail HasRow r rows all))

  has_given : (s : Option (Slot T)) (rows : Rows (Slot T)) → All HasRow rows → All HasRow (given_over s key slot rows)
  has_given None rows all = All-push HasRow rows (key, slot) all has
  has_given (Some s) rows all = has_changed rows all

  pub has_give : (heap : List (Object T)) (o : ℕ) → HasHeap made heap → HasHeap made (give o key slot heap)
  has_give heap o all = by (slice_get heap o) refl
    where
      by : (p : Option (Object T)) → slice_get heap o ≡ p → HasHeap made (given_to p o key slot heap)
      by None there = all
      by (Some p) there =
          let q = all_at (HasObject made) heap o p there all in
          All-set (HasObject made) heap o (with_rows p (given key slot p.rows)) (record { inner = q.inner; link = q.link; structure = q.structure; rows = has_given (own key p.rows) p.rows q.rows }) all

-- in a reading
module _ {T U : Type 0} (reading : T → U) (key : List ℕ) (slot : Slot T) where
  read_changed_at : (test : Bool) (r : List ℕ × Slot T) (rows more : Rows (Slot T)) (others : Rows (Slot U)) → read_rows reading more ≡ others
      → read_rows reading (if test then (r.0, slot) ∷ rows else r ∷ more) ≡ (if test then (r.0, read_slot reading slot) ∷ read_rows reading rows else (r.0, read_slot reading r.1) ∷ others)
  read_changed_at true r rows more others same = refl
  read_changed_at false r rows more others same = ap (λ rest. (r.0, read_slot reading r.1) ∷ rest) same

  read_changed : (rows : Rows (Slot T)) → read_rows reading (changed key (λ s. slot) rows) ≡ changed key (λ s. read_slot reading slot) (read_rows reading rows)
  read_changed [] = refl
  read_changed (r ∷ rows) = read_changed_at (same_name r.0 key) r rows (changed key (λ s. slot) rows) (changed key (λ s. read_slot reading slot) (read_rows reading rows)) (read_changed rows)

  read_given_over : (s : Option (Slot T)) (rows : Rows (Slot T)) → read_rows reading (given_over s key slot rows) ≡ given_over (option_map (read_slot reading) s) key (read_slot reading slot) (read_rows reading rows)
  read_given_over None rows = map-append (λ r. (r.0, read_slot reading r.1)) rows ((key, slot) ∷ [])
  read_given_over (Some s) rows = read_changed rows

  read_own_at : (test : Bool) (r : List ℕ × Slot T) (rest : Option (Slot U)) (more : Option (Slot T)) → rest ≡ option_map (read_slot reading) more → (if test then Some (read_slot reading r.1) else rest) ≡ option_map (read_slot reading) (if test then Some r.1 else more)
  read_own_at true r rest more same = refl
  read_own_at false r rest more same = same

  read_own : (rows : Rows (Slot T)) → own key (read_rows reading rows) ≡ option_map (read_slot reading) (own key rows)
  read_own [] = refl
  read_own (r ∷ rows) = read_own_at (same_name r.0 key) r (own key (read_rows reading rows)) (own key rows) (read_own rows)

  read_given_to : (p : Option (Object T)) (o : ℕ) (heap : List (Object T)) → read_heap reading (given_to p o key slot heap) ≡ given_to (option_map (read_object reading) p) o key (read_slot reading slot) (read_heap reading heap)
  read_given_to None o heap = refl
  read_given_to (Some p) o heap =
      map-set (read_object reading) heap o (with_rows p (given key slot p.rows))
      ∙ ap (λ (rows : Rows (Slot U)). set (read_heap reading heap) o (with_rows (read_object reading p) rows))
      (read_given_over (own key p.rows) p.rows ∙ ap (λ s. given_over s key (read_slot reading slot) (read_rows reading p.rows)) (sym (read_own p.rows)))

  pub read_give : (o : ℕ) (heap : List (Object T)) → read_heap reading (give o key slot heap) ≡ give o key (read_slot reading slot) (read_heap reading heap)
  read_give o heap =
      read_given_to (slice_get heap o) o heap
      ∙ ap (λ p. given_to p o key (read_slot reading slot) (read_heap reading heap)) (sym (slice_get-map (read_object reading) heap o))
