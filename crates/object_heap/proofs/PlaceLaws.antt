-- Places of keys among properties.
use Rattle.std.proofs.Common.{◌≡◌, ℕ, zero, suc, ◌<◌, ◌+◌, inl, inr, true, false, List, [], ◌∷◌, length, get_or, set, Some, None, refl, sym, ap, ◌∙◌, arith}
use Rattle.std.proofs.lemmas.Bool.{cond-true, cond-false, cases_lt}
use Rattle.std.proofs.lemmas.List.{get_or_default}
use Rattle.origin_labels.specs.Names.{same_name}
use Rattle.js_values.specs.Objects.{Rows, own, changed, without}
use Rattle.object_heap.specs.Places.{StandsAt, changed_at_place}

module _ {S : Type 0} where
  -- the first property with the key is the one that the key names
  pub place_found : (key : List ℕ) (rows : Rows S) (i : ℕ) (r : List ℕ × S) → i < length rows → ((k : ℕ) (d : List ℕ × S) → k < i → same_name (get_or rows k d).0 key ≡ false) → r ≡ get_or rows i r → same_name r.0 key ≡ true → StandsAt key rows i
  place_found key [] i r lt before read is = absurd (omega arith)
  place_found key (x ∷ rows) zero r lt before read is =
      let e = ap (λ (y : List ℕ × S). same_name y.0 key) (sym read) ∙ is in
      record {
        within = lt;
        here = sym (cond-true (same_name x.0 key) (Some x.1) (own key rows) e);
        changes = λ new. sym (cond-true (same_name x.0 key) ((x.0, new x.1) ∷ rows) (x ∷ changed key new rows) e);
        removes = sym (cond-true (same_name x.0 key) rows (x ∷ without key rows) e);
      }
  place_found key (x ∷ rows) (suc i) r lt before read is =
      let e = before 0 r (omega arith) in
      let rest = place_found key rows i r (omega arith) (λ k d below. before (suc k) d (omega arith)) read is in
      record {
        within = lt;
        here = rest.here ∙ sym (cond-false (same_name x.0 key) (Some x.1) (own key rows) e);
        changes = λ new. ap (λ rs. x ∷ rs) (rest.changes new) ∙ sym (cond-false (same_name x.0 key) ((x.0, new x.1) ∷ rows) (x ∷ changed key new rows) e);
        removes = ap (λ rs. x ∷ rs) rest.removes ∙ sym (cond-false (same_name x.0 key) rows (x ∷ without key rows) e);
      }

  pub place_none : (key : List ℕ) (rows : Rows S) → ((k : ℕ) (d : List ℕ × S) → k < length rows → same_name (get_or rows k d).0 key ≡ false) → own key rows ≡ None
  place_none key [] before = refl
  place_none key (x ∷ rows) before =
      cond-false (same_name x.0 key) (Some x.1) (own key rows) (before 0 x (omega arith))
      ∙ place_none key rows (λ k d below. before (suc k) d (omega arith))

  -- a property is changed in its place
  pub place_set : (rows : Rows S) (i : ℕ) (r : List ℕ × S) (new : S → S) → i < length rows → r ≡ get_or rows i r → set rows i (r.0, new r.1) ≡ changed_at_place i new rows
  place_set [] i r new lt read = absurd (omega arith)
  place_set (x ∷ rows) zero r new lt read = ap (λ (y : List ℕ × S). (y.0, new y.1) ∷ rows) read
  place_set (x ∷ rows) (suc i) r new lt read = ap (λ rs. x ∷ rs) (place_set rows i r new (omega arith) read)

  -- one property more has another key
  pub before_next : (key : List ℕ) (rows : Rows S) (i : ℕ) (r : List ℕ × S) → i < length rows → r ≡ get_or rows i r → same_name r.0 key ≡ false → ((k : ℕ) (d : List ℕ × S) → k < i → same_name (get_or rows k d).0 key ≡ false) → (k : ℕ) (d : List ℕ × S) → k < i + 1 → same_name (get_or rows k d).0 key ≡ false
  before_next key rows i r lt read other before k d below = elim (cases_lt k i) as (λ _. same_name (get_or rows k d).0 key ≡ false) [
    | inl earlier ↦ before k d earlier
    | inr past ↦ let here : k ≡ i = omega (arith, below, past) in ap (λ j. same_name (get_or rows j d).0 key) here ∙ ap (λ (x : List ℕ × S). same_name x.0 key) (get_or_default rows i d r lt ∙ sym read) ∙ other
  ]
