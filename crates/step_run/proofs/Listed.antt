-- Labels as lists of declared origins.
use Rattle.std.proofs.Common.{◌≡◌, ℕ, suc, ◌+◌, ◌<◌, Bool, true, false, ◌&&◌, ◌==◌, List, [], ◌∷◌, ◌++◌, refl, sym, ap, ap₂, subst, ◌∙◌, inl, inr, arith, append-nil}
use Rattle.std.specs.List.{All, filter, range_with_len}
use Rattle.std.proofs.lemmas.Bool.{cases_Bool, and_parts, and_from, false≢true, eqb-true}
use Rattle.std.proofs.lemmas.List.{map-id}
use Rattle.std.proofs.lemmas.List.Elements.{All-filter, filter-append}
use Rattle.std.proofs.lemmas.List.FromFn.{map-range_with_len_more, get_or-range_with_len, length-range_with_len}
use Rattle.origin_labels.specs.Label.{Label, IsLabel, has, within}
use Rattle.origin_labels.proofs.LabelLaws.{same_test, same_label, has-within, within-from_has, IsLabel-from_Rises}
use Rattle.origin_labels.proofs.MaskLaws.{Rises-filter, has-filter, has-range_inside}

-- ---- the numbers below a number that a set holds

-- what a set holds is below what each of its numbers is below
below_all : (label : Label) (n x : ℕ) → All (λ k. k < n) label → has x label ≡ true → x < n
unfolding has
below_all [] n x below e = absurd (false≢true e)
below_all (k ∷ label) n x below e =
    elim (cases_Bool (k == x)) [
      | inl same ↦ subst (λ (y : ℕ). y < n) (eqb-true k x same) (below 0 0 (omega arith))
      | inr other ↦ below_all label n x (λ i d lt. below (suc i) d (omega arith)) (rw other at e)
    ]

-- a set of numbers below n lies within the set of all of these
declared_within : (label : Label) (n : ℕ) → All (λ k. k < n) label → within label (range_with_len 0 n) ≡ true
declared_within label n below = within-from_has label (range_with_len 0 n) (λ x e. let lt : x < n = below_all label n x below e in has-range_inside x 0 n (omega arith) (omega arith))

-- the numbers below n that a set of such numbers holds are the set
pub listed_label : (label : Label) (n : ℕ) → IsLabel label → All (λ k. k < n) label → filter (λ k. has k label) (range_with_len 0 n) ≡ label
listed_label label n rising below =
    let inside = declared_within label n below in
    same_label (filter (λ k. has k label) (range_with_len 0 n)) label (IsLabel-from_Rises (filter (λ k. has k label) (range_with_len 0 n)) (Rises-filter (λ k. has k label) 0 n)) rising
    (λ x. has-filter (λ k. has k label) x (range_with_len 0 n) ∙ same_test (has x (range_with_len 0 n) && has x label) (has x label)
    (λ both. (and_parts (has x (range_with_len 0 n)) (has x label) both).1)
    (λ holds. and_from (has x (range_with_len 0 n)) (has x label) (has-within x label (range_with_len 0 n) inside holds) holds))

-- ---- going through them

-- the numbers below n are below n
range_below : (n : ℕ) → All (λ k. k < n) (range_with_len 0 n)
range_below n i d lt = let small : i < n = omega (arith, length-range_with_len 0 n) in rw (get_or-range_with_len 0 n i d small) (omega arith)

-- what a filter keeps of them is too
pub kept_below : (p : ℕ → Bool) (list : List ℕ) (n : ℕ) → list ≡ filter p (range_with_len 0 n) → All (λ k. k < n) list
kept_below p list n e = subst (All (λ k. k < n)) (sym e) (All-filter p (λ k. k < n) (range_with_len 0 n) (range_below n))

-- one more number
range_more : (n : ℕ) → range_with_len 0 (n + 1) ≡ range_with_len 0 n ++ n ∷ []
range_more n = sym (map-id (range_with_len 0 (n + 1))) ∙ map-range_with_len_more (λ k. k) 0 n n (omega arith) ∙ ap (λ (l : List ℕ). l ++ n ∷ []) (map-id (range_with_len 0 n))

-- a filter keeps it
pub keeps_more : (p : ℕ → Bool) (list : List ℕ) (n : ℕ) → list ≡ filter p (range_with_len 0 n) → p n ≡ true → list ++ n ∷ [] ≡ filter p (range_with_len 0 (n + 1))
keeps_more p list n e yes_here =
    sym (ap (filter p) (range_more n) ∙ filter-append p (range_with_len 0 n) (n ∷ []) ∙ ap₂ (λ (a b : List ℕ). a ++ b) (sym e) (rw yes_here refl))

-- a filter leaves it out
pub leaves_out : (p : ℕ → Bool) (list : List ℕ) (n : ℕ) → list ≡ filter p (range_with_len 0 n) → p n ≡ false → list ≡ filter p (range_with_len 0 (n + 1))
leaves_out p list n e not_here =
    sym (ap (filter p) (range_more n) ∙ filter-append p (range_with_len 0 n) (n ∷ []) ∙ ap₂ (λ (a b : List ℕ). a ++ b) (sym e) (rw not_here refl) ∙ append-nil list)
