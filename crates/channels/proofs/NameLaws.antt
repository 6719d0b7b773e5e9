-- Names that are copied one by one.
use Rattle.std.proofs.Common.{arith, ◌≡◌, ◌<◌, ℕ, ◌+◌, Some, false, List, [], ◌∷◌, ◌++◌, ap, length, get_or, take, bytes_eq, sym, ◌∙◌, inl, inr}
use Rattle.std.specs.List.{slice_get}
use Rattle.std.proofs.lemmas.Bool.{cases_Bool}
use Rattle.std.proofs.lemmas.List.{get_or-take, length-take-le, take_more}
use Rattle.std.proofs.lemmas.List.Folds.{list_any_none}
use Rattle.std.proofs.lemmas.Option.{get_or_from_slice_get}
use Rattle.std.proofs.lemmas.Slice.Eq.{bytes_eq-Decides}
use Rattle.origin_labels.specs.Names.{has_name, AreDistinct}

-- none of distinct names stands before itself
pub new_name : (names : List (List ℕ)) (i : ℕ) (name : List ℕ) → AreDistinct names → i < length names → slice_get names i ≡ Some name → has_name name (take i names) ≡ false
unfolding has_name
new_name names i name distinct lt here =
    list_any_none (λ other. bytes_eq other name) (take i names) (λ k d inside.
    let before : k < i = omega (arith, length-take-le i names (omega arith)) in
    elim (cases_Bool (bytes_eq (get_or (take i names) k d) name)) as (λ _. bytes_eq (get_or (take i names) k d) name ≡ false) [
      | inl same ↦ absurd (distinct k i d before lt (sym (get_or-take i names k d before) ∙ (bytes_eq-Decides (get_or (take i names) k d) name).0 same ∙ sym (get_or_from_slice_get names i name d here)))
      | inr other ↦ other
    ])

-- one name more
pub next_name : (names copied : List (List ℕ)) (i : ℕ) (name : List ℕ) → i < length names → slice_get names i ≡ Some name → copied ≡ take i names → copied ++ name ∷ [] ≡ take (i + 1) names
next_name names copied i name lt here front =
    ap (λ (l : List (List ℕ)). l ++ name ∷ []) front ∙ ap (λ (n : List ℕ). take i names ++ n ∷ []) (sym (get_or_from_slice_get names i name name here)) ∙ sym (take_more names i name lt)
