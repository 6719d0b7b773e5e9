-- Properties in a reading of their labels.
use Rattle.std.proofs.Common.{◌≡◌, ℕ, Bool, true, false, List, [], ◌∷◌, Option, Some, None, refl, sym, ap, ◌∙◌, if◌then◌else◌}
use Rattle.std.specs.Option.{option_map}
use Rattle.std.proofs.lemmas.List.{map-append}
use Rattle.std.proofs.lemmas.Option.{same_Some}
use Rattle.origin_labels.specs.Label.{Label}
use Rattle.origin_labels.specs.Names.{same_name}
use Rattle.js_values.specs.declared.property.Slot.{Slot}
use Rattle.js_values.specs.Objects.{Rows, own, row_or_none, altered, changed, without, with_row}
use Rattle.js_values.specs.Readings.{read_slot, read_rows}

module _ {T : Type 0} (reading : T → Label) where
  read_own_at : (key : List ℕ) (s : Slot T) (rows : Rows (Slot T)) (test : Bool) → own key (read_rows reading rows) ≡ option_map (read_slot reading) (own key rows) → (if test then Some (read_slot reading s) else own key (read_rows reading rows)) ≡ option_map (read_slot reading) (if test then Some s else own key rows)
  read_own_at key s rows true rest = refl
  read_own_at key s rows false rest = rest

  pub read_own : (key : List ℕ) (rows : Rows (Slot T)) → own key (read_rows reading rows) ≡ option_map (read_slot reading) (own key rows)
  read_own key [] = refl
  read_own key (r ∷ rows) = read_own_at key r.1 rows (same_name r.0 key) (read_own key rows)

  -- what the key names becomes another property in the labels, and what that means in the reading
  read_altered_at : (key k : List ℕ) (s t : Slot T) (rows : Rows (Slot T)) (f : Slot T → Option (Slot T)) (h : Slot Label → Option (Slot Label)) (test : Bool) → (if test then Some t else own key rows) ≡ Some s → h (read_slot reading s) ≡ option_map (read_slot reading) (f s)
      → (own key rows ≡ Some s → altered key h (read_rows reading rows) ≡ read_rows reading (altered key f rows))
      → (if test then row_or_none k (h (read_slot reading t)) (read_rows reading rows) else (k, read_slot reading t) ∷ altered key h (read_rows reading rows)) ≡ read_rows reading (if test then row_or_none k (f t) rows else (k, t) ∷ altered key f rows)
  read_altered_at key k s t rows f h true here same rest =
      ap (λ x. row_or_none k (h (read_slot reading x)) (read_rows reading rows)) (same_Some t s here) ∙ ap (λ o. row_or_none k o (read_rows reading rows)) same
      ∙ read_row (f s) ∙ ap (λ x. read_rows reading (row_or_none k (f x) rows)) (sym (same_Some t s here))
    where
      read_row : (o : Option (Slot T)) → row_or_none k (option_map (read_slot reading) o) (read_rows reading rows) ≡ read_rows reading (row_or_none k o rows)
      read_row None = refl
      read_row (Some x) = refl
  read_altered_at key k s t rows f h false here same rest = ap (λ rs. (k, read_slot reading t) ∷ rs) (rest here)

  read_altered : (key : List ℕ) (s : Slot T) (rows : Rows (Slot T)) (f : Slot T → Option (Slot T)) (h : Slot Label → Option (Slot Label)) → own key rows ≡ Some s → h (read_slot reading s) ≡ option_map (read_slot reading) (f s) → altered key h (read_rows reading rows) ≡ read_rows reading (altered key f rows)
  read_altered key s [] f h here same = refl
  read_altered key s (r ∷ rows) f h here same = read_altered_at key r.0 s r.1 rows f h (same_name r.0 key) here same (λ there. read_altered key s rows f h there same)

  pub read_changed : (key : List ℕ) (s : Slot T) (rows : Rows (Slot T)) (to : Slot T → Slot T) (new : Slot Label → Slot Label) → own key rows ≡ Some s → new (read_slot reading s) ≡ read_slot reading (to s) → changed key new (read_rows reading rows) ≡ read_rows reading (changed key to rows)
  read_changed key s rows to new here same = read_altered key s rows (λ x. Some (to x)) (λ x. Some (new x)) here (ap Some same)

  pub read_without : (key : List ℕ) (s : Slot T) (rows : Rows (Slot T)) → own key rows ≡ Some s → without key (read_rows reading rows) ≡ read_rows reading (without key rows)
  read_without key s rows here = read_altered key s rows (λ x. None) (λ x. None) here refl

  pub read_with_row : (key : List ℕ) (s : Slot T) (rows : Rows (Slot T)) → with_row key (read_slot reading s) (read_rows reading rows) ≡ read_rows reading (with_row key s rows)
  read_with_row key s rows = sym (map-append (λ r. (r.0, read_slot reading r.1)) rows ((key, s) ∷ []))
