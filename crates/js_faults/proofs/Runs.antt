-- Orders by key: those of one key stand side by side, from the left, and each stands somewhere.
use Rattle.std.proofs.Common.{refl, sym, ap, ◌∙◌, ◌≡◌, ◌<◌, ◌≤◌, ◌-◌, zero, suc, ℕ, Bool, true, false, List, [], ◌∷◌, length, get_or, eqb, inl, inr, ◌⊎◌, arith}
use Rattle.std.specs.List.{list_any, IsDistinct}
use Rattle.std.specs.Cmp.{IsTotalOrder}
use Rattle.std.specs.Cmp.Lexicographic.{slice_cmp, on_texts}
use Rattle.std.specs.Ordering.{nat_cmp, ordering_then}
use Rattle.std.specs.declared.cmp.Ordering.{Ordering}
use Rattle.std.specs.declared.cmp.Ordering.TheVariants.{Less, Equal, Greater}
use Rattle.std.proofs.lemmas.Bool.{cases_Bool, cases_eq, cases_order, or_cases, false≢true, eqb-true, ne_eqb, false_from_ne_true}
use Rattle.std.proofs.lemmas.Cmp.{then_total, nat_cmp_total, nat_list_cmp_total, tied_itself, ranked}
use Rattle.std.proofs.lemmas.List.{get_or_default, length-map}
use Rattle.std.proofs.lemmas.List.Folds.{list_any_at}
use Rattle.std.proofs.lemmas.List.Elements.{recursion_from_All}
use Rattle.std.proofs.lemmas.Map.Keys.{IsDistinct-from_apart, IsDistinct-cons}
use Rattle.std.proofs.lemmas.Map.Lookups.{exact_bytes}
use Rattle.std.proofs.lemmas.Map.Steps.{length-le_from_distinct_below}
use Rattle.js_ast.specs.Orders.{rank, IsOrder}
use Rattle.js_faults.specs.Ordered.{Entry, nth, keys_of}

-- ---- the order

-- what decides
then_less : (a b : Ordering) → ordering_then a b ≡ Less → (a ≡ Less) ⊎ ((a ≡ Equal) × (b ≡ Less))
then_less Less b e = inl refl
then_less Equal b e = inr (refl, e)
then_less Greater b e = cc

rank_total : (keys : List (List ℕ)) → IsTotalOrder (rank keys)
rank_total keys = then_total (on_texts (λ (i : ℕ). get_or keys i [])) nat_cmp_total

-- the key of the node at a place
pub key_at : (es : List Entry) (i : ℕ) → get_or (keys_of es) i [] ≡ (nth es i).key
key_at [] i = refl
key_at (e ∷ es) zero = refl
key_at (e ∷ es) (suc i) = key_at es i

nat_less : (m n : ℕ) → nat_cmp m n ≡ Less → m < n
nat_less m n e = ranked m n Less (sym e)

less_differs : (x : List ℕ) → slice_cmp nat_cmp x x ≡ Less → ⊥
less_differs x e = let same = tied_itself nat_list_cmp_total x in cc

-- a text that is not behind another, nor in front of it, is that one
squeezed : (x y : List ℕ) → (slice_cmp nat_cmp x y ≡ Less) ⊎ (slice_cmp nat_cmp x y ≡ Equal) → (slice_cmp nat_cmp y x ≡ Less) ⊎ (slice_cmp nat_cmp y x ≡ Equal) → x ≡ y
squeezed x y (inr e) h = exact_bytes x y e
squeezed x y (inl less) (inr e) = sym (exact_bytes y x e)
squeezed x y (inl less) (inl back) = absurd (less_differs x (nat_list_cmp_total.trans x y x less back))

-- what passes has a place
pub any_found : {X : Type 0} (test : X → Bool) (xs : List X) (d : X) → list_any test xs ≡ true → (j : ℕ) × (j < length xs) × (test (get_or xs j d) ≡ true)
any_found test [] d e = absurd (false≢true e)
any_found {X} test (x ∷ xs) d e = one (or_cases (test x) (list_any test xs) e) (any_found test xs d)
  where
    one : (test x ≡ true) ⊎ (list_any test xs ≡ true) → (list_any test xs ≡ true → (j : ℕ) × (j < length xs) × (test (get_or xs j d) ≡ true)) → (j : ℕ) × (j < length (x ∷ xs)) × (test (get_or (x ∷ xs) j d) ≡ true)
    one (inl h) more = (zero, omega arith, h)
    one (inr h) more = let w = more h in (suc w.0, omega arith, w.2)

module _ (es : List Entry) (order : List ℕ) (is : IsOrder (keys_of es) order) where
  pub as_many : length order ≡ length es
  as_many = is.all ∙ length-map es (λ e. e.key)

  pub names_one : (p : ℕ) → p < length order → get_or order p 0 < length es
  names_one p lt = rw (← length-map es (λ e. e.key)) (is.within p lt)

  -- a place is in front of each further one
  rises_far : (p q : ℕ) → p < q → q < length order → rank (keys_of es) (get_or order p 0) (get_or order q 0) ≡ Less
  rises_far p zero lt in_order = absurd (omega arith)
  rises_far p (suc q) lt in_order = one (cases_eq p q) (λ less. rises_far p q less (omega arith))
    where
      step : rank (keys_of es) (get_or order q 0) (get_or order (suc q) 0) ≡ Less
      step = let e : suc q - 1 ≡ q = omega arith in rw e at (is.rises (suc q) (omega arith) in_order)

      one : (p ≡ q) ⊎ (p ≡ q → ⊥) → (p < q → rank (keys_of es) (get_or order p 0) (get_or order q 0) ≡ Less) → rank (keys_of es) (get_or order p 0) (get_or order (suc q) 0) ≡ Less
      one (inl e) far = rw e step
      one (inr ne) far = (rank_total (keys_of es)).trans (get_or order p 0) (get_or order q 0) (get_or order (suc q) 0) (far (omega arith)) step

  -- by their keys
  shown_far : (p q : ℕ) → p < q → q < length order → ordering_then (slice_cmp nat_cmp (nth es (get_or order p 0)).key (nth es (get_or order q 0)).key) (nat_cmp (get_or order p 0) (get_or order q 0)) ≡ Less
  shown_far p q lt in_order = rw (← key_at es (get_or order p 0), ← key_at es (get_or order q 0)) (rises_far p q lt in_order)

  -- its key is not behind
  keys_rise : (p q : ℕ) → p < q → q < length order → (slice_cmp nat_cmp (nth es (get_or order p 0)).key (nth es (get_or order q 0)).key ≡ Less) ⊎ (slice_cmp nat_cmp (nth es (get_or order p 0)).key (nth es (get_or order q 0)).key ≡ Equal)
  keys_rise p q lt in_order = one (then_less (slice_cmp nat_cmp (nth es (get_or order p 0)).key (nth es (get_or order q 0)).key) (nat_cmp (get_or order p 0) (get_or order q 0)) (shown_far p q lt in_order))
    where
      one : (slice_cmp nat_cmp (nth es (get_or order p 0)).key (nth es (get_or order q 0)).key ≡ Less) ⊎ ((slice_cmp nat_cmp (nth es (get_or order p 0)).key (nth es (get_or order q 0)).key ≡ Equal) × (nat_cmp (get_or order p 0) (get_or order q 0) ≡ Less))
          → (slice_cmp nat_cmp (nth es (get_or order p 0)).key (nth es (get_or order q 0)).key ≡ Less) ⊎ (slice_cmp nat_cmp (nth es (get_or order p 0)).key (nth es (get_or order q 0)).key ≡ Equal)
      one (inl e) = inl e
      one (inr e) = inr e.0

  -- those of one key rise
  pub rises_within : (p q : ℕ) → p < q → q < length order → (nth es (get_or order p 0)).key ≡ (nth es (get_or order q 0)).key → get_or order p 0 < get_or order q 0
  rises_within p q lt in_order e = one (then_less (slice_cmp nat_cmp (nth es (get_or order p 0)).key (nth es (get_or order q 0)).key) (nat_cmp (get_or order p 0) (get_or order q 0)) (shown_far p q lt in_order))
    where
      one : (slice_cmp nat_cmp (nth es (get_or order p 0)).key (nth es (get_or order q 0)).key ≡ Less) ⊎ ((slice_cmp nat_cmp (nth es (get_or order p 0)).key (nth es (get_or order q 0)).key ≡ Equal) × (nat_cmp (get_or order p 0) (get_or order q 0) ≡ Less))
          → get_or order p 0 < get_or order q 0
      one (inl less) = absurd (less_differs (nth es (get_or order q 0)).key (rw e at less))
      one (inr both) = nat_less (get_or order p 0) (get_or order q 0) both.1

  -- and the left one stands in front
  pub stands_in_front : (p q : ℕ) → p < length order → q < length order → (nth es (get_or order p 0)).key ≡ (nth es (get_or order q 0)).key → get_or order p 0 < get_or order q 0 → p < q
  stands_in_front p q lp lq e lt = one (cases_order p q)
    where
      one : (p ≡ q) ⊎ ((p < q) ⊎ (q < p)) → p < q
      one (inl same) = let r : get_or order p 0 ≡ get_or order q 0 = ap (λ n. get_or order n 0) same in omega arith
      one (inr (inl less)) = less
      one (inr (inr more)) = let back = rises_within q p more lp (sym e) in omega arith

  -- what stands between two of one key has it
  pub between : (p r q : ℕ) → p ≤ r → r < q → q < length order → (nth es (get_or order p 0)).key ≡ (nth es (get_or order q 0)).key → (nth es (get_or order r 0)).key ≡ (nth es (get_or order q 0)).key
  between p r q le lt in_order e = one (cases_eq p r)
    where
      one : (p ≡ r) ⊎ (p ≡ r → ⊥) → (nth es (get_or order r 0)).key ≡ (nth es (get_or order q 0)).key
      one (inl same) = rw (← same) e
      one (inr ne) = squeezed (nth es (get_or order r 0)).key (nth es (get_or order q 0)).key (keys_rise r q lt in_order) (rw (← e) (keys_rise p r (omega arith) (omega arith)))

  -- no node has two places
  pub apart : (p q : ℕ) → p < q → q < length order → get_or order p 0 ≡ get_or order q 0 → ⊥
  apart p q lt in_order e = let less = rises_within p q lt in_order (ap (λ i. (nth es i).key) e) in omega arith

  all_distinct : IsDistinct eqb order
  all_distinct = IsDistinct-from_apart eqb order (λ i j d lt in_order.
      rw (get_or_default order i d 0 (omega arith), get_or_default order j d 0 in_order) (ne_eqb (get_or order i 0) (get_or order j 0) (apart i j lt in_order)))

  all_below : (q : ℕ) → list_any (eqb q) order ≡ true → q < length es
  all_below q e = let w = any_found (eqb q) order 0 e in let same = eqb-true q (get_or order w.0 0) w.2 in let below = names_one w.0 w.1 in omega arith

  -- each node has a place
  pub place_of : (i : ℕ) → i < length es → (p : ℕ) × (p < length order) × (get_or order p 0 ≡ i)
  place_of i lt = one (cases_Bool (list_any (eqb i) order))
    where
      one : (list_any (eqb i) order ≡ true) ⊎ (list_any (eqb i) order ≡ false) → (p : ℕ) × (p < length order) × (get_or order p 0 ≡ i)
      one (inl e) = let w = any_found (eqb i) order 0 e in (w.0, w.1, sym (eqb-true i (get_or order w.0 0) w.2))
      one (inr e) = absurd (let many : length (i ∷ order) ≤ length es = length-le_from_distinct_below (i ∷ order) (length es)
          (IsDistinct-cons eqb i order (recursion_from_All (λ y. eqb i y ≡ false) order (λ k d in_order. false_from_ne_true (eqb i (get_or order k d)) (λ same. false≢true (sym e ∙ list_any_at (eqb i) order k d in_order same)))) all_distinct)
          (λ q found. below q (or_cases (eqb q i) (list_any (eqb q) order) found)) in let all = as_many in omega arith)
        where
          below : (q : ℕ) → (eqb q i ≡ true) ⊎ (list_any (eqb q) order ≡ true) → q < length es
          below q (inl same) = let r = eqb-true q i same in omega arith
          below q (inr found) = all_below q found
