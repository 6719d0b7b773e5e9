-- Lists of distinct names.
use Rattle.std.proofs.Common.{arith, refl, ap, sym, subst, inl, inr, is_some, ◌∙◌, ◌≡◌, ◌<◌, ◌≤◌, ℕ, Bool, true, false, Some, None, List, [], ◌∷◌, ◌++◌, length, get_or, bytes_eq, lt-ltb, le-ltb}
use Rattle.std.specs.List.{list_any, position, position_or_len}
use Rattle.std.proofs.lemmas.Bool.{false≢true, cases_lt}
use Rattle.std.proofs.lemmas.List.Folds.{list_any_at, list_any_none}
use Rattle.std.proofs.lemmas.List.Elements.{at_read}
use Rattle.std.proofs.lemmas.List.Quantifiers.{all_pairs_push}
use Rattle.std.proofs.lemmas.List.Sums.{position_or_len_is, fails_before_first, passes_at_first}
use Rattle.std.proofs.lemmas.Slice.Eq.{bytes_eq-Decides}
use Rattle.origin_labels.specs.Names.{has_name, place_of, AreDistinct}

-- a name that stands nowhere is another than each
other_name : (name : List ℕ) (names : List (List ℕ)) → has_name name names ≡ false → (k : ℕ) (d : List ℕ) → k < length names → get_or names k d ≡ name → ⊥
unfolding has_name
other_name name names none k d lt e =
    false≢true (sym none ∙ list_any_at (λ other. bytes_eq other name) names k d lt ((bytes_eq-Decides (get_or names k d) name).1 e))

-- a new name keeps them distinct
pub AreDistinct-push : (name : List ℕ) (names : List (List ℕ)) → AreDistinct names → has_name name names ≡ false → AreDistinct (names ++ name ∷ [])
AreDistinct-push name names h none = all_pairs_push (λ (a b : List ℕ). a ≡ b → ⊥) names name h (other_name name names none)

-- the first index that passes
position_found : {X : Type 0} (p : X → Bool) (xs : List X) (i : ℕ) (d : X) → i < length xs → ((k : ℕ) → k < i → p (get_or xs k d) ≡ false) → p (get_or xs i d) ≡ true → position p xs ≡ Some i
position_found p xs i d lt before here =
    rw (position_or_len_is p xs i d (omega arith) before (λ _. here), lt-ltb i (length xs) lt) refl

-- no index passes
position_none : {X : Type 0} (p : X → Bool) (xs : List X) (d : X) → ((k : ℕ) → k < length xs → p (get_or xs k d) ≡ false) → position p xs ≡ None
position_none p xs d before =
    rw (position_or_len_is p xs (length xs) d (omega arith) before (λ lt. absurd (omega arith)), le-ltb (length xs) (length xs) (omega arith)) refl

-- a name that none before i is, and that is read at i, has its first place there
pub place_found : (name : List ℕ) (items names : List (List ℕ)) → items ≡ names → (i : ℕ) (x : List ℕ) → i < length items → ((k : ℕ) → k < i → bytes_eq (get_or items k []) name ≡ false) → x ≡ get_or items i x → bytes_eq x name ≡ true → place_of name names ≡ Some i
unfolding place_of
place_found name items names same i x lt before read here =
    subst (λ (l : List (List ℕ)). position (λ other. bytes_eq other name) l ≡ Some i) same
    (position_found (λ other. bytes_eq other name) items i [] lt before (at_read items (λ (y : List ℕ). bytes_eq y name ≡ true) i x lt read here []))

-- a name that none is has no place
pub place_none : (name : List ℕ) (items names : List (List ℕ)) → items ≡ names → (i : ℕ) → length items ≤ i → ((k : ℕ) → k < i → bytes_eq (get_or items k []) name ≡ false) → place_of name names ≡ None
unfolding place_of
place_none name items names same i end before =
    subst (λ (l : List (List ℕ)). position (λ other. bytes_eq other name) l ≡ None) same
    (position_none (λ other. bytes_eq other name) items [] (λ k lt. before k (omega arith)))

-- a name has a place where it stands in the list
pub has_name-place_of : (name : List ℕ) (names : List (List ℕ)) → is_some (place_of name names) ≡ has_name name names
unfolding place_of has_name
has_name-place_of name names =
    let p = λ (other : List ℕ). bytes_eq other name in
    let at = position_or_len p names in
    elim (cases_lt at (length names)) as (λ _. is_some (position p names) ≡ list_any p names) [
      | inl lt ↦ rw (lt-ltb at (length names) lt) (sym (list_any_at p names at [] lt (passes_at_first p names [] lt)))
      | inr le ↦ rw (le-ltb at (length names) le) (sym (list_any_none p names (λ k d lt. fails_before_first p names k d (omega arith))))
    ]

-- a name without a place stands nowhere
pub has_name-none : (name : List ℕ) (names : List (List ℕ)) → place_of name names ≡ None → has_name name names ≡ false
has_name-none name names e = sym (has_name-place_of name names) ∙ ap is_some e
