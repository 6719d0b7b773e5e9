-- What the neighbours of a place show, where the order is one: whether the node may not stand behind an earlier one of its list.
use Rattle.std.proofs.Common.{refl, sym, ap, ◌∙◌, ◌≡◌, ◌<◌, ◌≤◌, ◌+◌, ◌-◌, suc, ℕ, Bool, true, false, not, ◌==◌, ◌&&◌, ◌||◌, nat_lt, List, [], ◌∷◌, ◌++◌, length, get_or, take, inl, inr, ◌⊎◌, arith, append_assoc}
use Rattle.std.specs.List.{list_any, filter}
use Rattle.std.proofs.Math.Seq.{get_or-append_seam, take-append_seam}
use Rattle.std.proofs.lemmas.Bool.{cases_Bool, cases_eq, cases_lt, or_cases, or_left, or_right, and_parts, and_from, not-true, not_from_false, false≢true, ltb-true, lt-ltb, eq-eqb, ne_eqb, false_from_ne_true}
use Rattle.std.proofs.lemmas.List.{get_or-take, length-take-le, append-nil}
use Rattle.std.proofs.lemmas.List.Folds.{list_any_at}
use Rattle.std.proofs.lemmas.Slice.Eq.{bytes_eq-Decides}
use Rattle.js_faults.specs.declared.fault.EarlyError.{EarlyError}
use Rattle.js_faults.specs.declared.fault.EarlyErrorKind.{EarlyErrorKind}
use Rattle.js_ast.specs.Orders.{IsOrder}
use Rattle.js_faults.specs.Early.{fault_if}
use Rattle.js_faults.specs.Faults.{first_of}
use Rattle.js_faults.specs.Ordered.{Entry, no_entry, nth, one_key, are_parts, conflicts, of_repeats, keys_of, same_at, has_third, clashes_at, told_in_order}
use Rattle.js_faults.proofs.Alike.{told, told_alike}
use Rattle.js_faults.proofs.Counts.{count, count_filter, two_pass, three_pass}
use Rattle.js_faults.proofs.Runs.{names_one, any_found, rises_within, stands_in_front, between, apart, place_of}

both_ways : (a b : Bool) → (a ≡ true → b ≡ true) → (b ≡ true → a ≡ true) → a ≡ b
both_ways true b f g = sym (f refl)
both_ways false true f g = g refl
both_ways false false f g = refl

same_text : (e f : Entry) → one_key e f ≡ true → e.key ≡ f.key
same_text e f = (bytes_eq-Decides e.key f.key).0

one_text : (e f : Entry) → e.key ≡ f.key → one_key e f ≡ true
one_text e f = (bytes_eq-Decides e.key f.key).1

module _ (es : List Entry) (order : List ℕ) (is : IsOrder (keys_of es) order) where
  -- what has a place's key and stands neither there nor in front of it shows a third one
  shows_third : (p t : ℕ) → 0 < p → p < length order → t < length order → (t ≡ p → ⊥) → (t ≡ p - 1 → ⊥) → (nth es (get_or order t 0)).key ≡ (nth es (get_or order p 0)).key → has_third es order p ≡ true
  shows_third p t pos lp lt not_p not_before e = one (cases_lt t p)
    where
      one : (t < p) ⊎ (p ≤ t) → has_third es order p ≡ true
      one (inl less) = or_left (nat_lt 1 p && same_at es order p (p - 2)) (nat_lt (p + 1) (length order) && same_at es order p (p + 1))
          (and_from (nat_lt 1 p) (same_at es order p (p - 2)) (lt-ltb 1 p (omega arith))
          (one_text (nth es (get_or order p 0)) (nth es (get_or order (p - 2) 0)) (sym (between es order is t (p - 2) p (omega arith) (omega arith) lp e))))
      one (inr le) = or_right (nat_lt 1 p && same_at es order p (p - 2)) (nat_lt (p + 1) (length order) && same_at es order p (p + 1))
          (and_from (nat_lt (p + 1) (length order)) (same_at es order p (p + 1)) (lt-ltb (p + 1) (length order) (omega arith))
          (one_text (nth es (get_or order p 0)) (nth es (get_or order (p + 1) 0)) (sym (next (cases_eq (p + 1) t)))))
        where
          next : (p + 1 ≡ t) ⊎ (p + 1 ≡ t → ⊥) → (nth es (get_or order (p + 1) 0)).key ≡ (nth es (get_or order p 0)).key
          next (inl same) = ap (λ n. (nth es (get_or order n 0)).key) same ∙ e
          next (inr ne) = between es order is p (p + 1) t (omega arith) (omega arith) lt (sym e) ∙ e

  counted : (i : ℕ) → length (filter (one_key (nth es i)) es) ≡ count (λ j. one_key (nth es i) (nth es j)) (length es)
  counted i = count_filter (one_key (nth es i)) es no_entry

  -- three of one key at three places
  not_two : (p q r : ℕ) → p < q → q < r → r < length order → (i : ℕ) → (nth es (get_or order p 0)).key ≡ (nth es i).key → (nth es (get_or order q 0)).key ≡ (nth es i).key → (nth es (get_or order r 0)).key ≡ (nth es i).key
      → not (length (filter (one_key (nth es i)) es) == 2) ≡ true
  not_two p q r pq qr lr i ep eq er = not_from_false (length (filter (one_key (nth es i)) es) == 2) (ne_eqb (length (filter (one_key (nth es i)) es)) 2 (λ two.
      three_pass (λ j. one_key (nth es i) (nth es j)) (length es) (get_or order p 0) (get_or order q 0) (get_or order r 0) (names_one es order is p (omega arith)) (names_one es order is q (omega arith)) (names_one es order is r lr)
      (apart es order is p q pq (omega arith)) (apart es order is p r (omega arith) lr) (apart es order is q r qr lr)
      (one_text (nth es i) (nth es (get_or order p 0)) (sym ep)) (one_text (nth es i) (nth es (get_or order q 0)) (sym eq)) (one_text (nth es i) (nth es (get_or order r 0)) (sym er))
      (sym (counted i) ∙ two)))

  -- a third one is one
  third_counts : (p : ℕ) → 0 < p → p < length order → (nth es (get_or order p 0)).key ≡ (nth es (get_or order (p - 1) 0)).key → has_third es order p ≡ true
      → not (length (filter (one_key (nth es (get_or order p 0))) es) == 2) ≡ true
  third_counts p pos lp e third = one (or_cases (nat_lt 1 p && same_at es order p (p - 2)) (nat_lt (p + 1) (length order) && same_at es order p (p + 1)) third)
    where
      one : ((nat_lt 1 p && same_at es order p (p - 2)) ≡ true) ⊎ ((nat_lt (p + 1) (length order) && same_at es order p (p + 1)) ≡ true) → not (length (filter (one_key (nth es (get_or order p 0))) es) == 2) ≡ true
      one (inl h) = let parts = and_parts (nat_lt 1 p) (same_at es order p (p - 2)) h in let far = ltb-true 1 p parts.0 in
          not_two (p - 2) (p - 1) p (omega arith) (omega arith) lp (get_or order p 0) (sym (same_text (nth es (get_or order p 0)) (nth es (get_or order (p - 2) 0)) parts.1)) (sym e) refl
      one (inr h) = let parts = and_parts (nat_lt (p + 1) (length order)) (same_at es order p (p + 1)) h in let far = ltb-true (p + 1) (length order) parts.0 in
          not_two (p - 1) p (p + 1) (omega arith) (omega arith) far (get_or order p 0) (sym e) refl (sym (same_text (nth es (get_or order p 0)) (nth es (get_or order (p + 1) 0)) parts.1))

  -- with no third one there are two
  just_two : (p : ℕ) → 0 < p → p < length order → (nth es (get_or order p 0)).key ≡ (nth es (get_or order (p - 1) 0)).key → has_third es order p ≡ false
      → length (filter (one_key (nth es (get_or order p 0))) es) ≡ 2
  just_two p pos lp e none = counted (get_or order p 0) ∙ two_pass (λ j. one_key (nth es (get_or order p 0)) (nth es j)) (length es) (get_or order (p - 1) 0) (get_or order p 0)
      (names_one es order is (p - 1) (omega arith)) (names_one es order is p lp) (apart es order is (p - 1) p (omega arith) lp)
      (one_text (nth es (get_or order p 0)) (nth es (get_or order (p - 1) 0)) e) (one_text (nth es (get_or order p 0)) (nth es (get_or order p 0)) refl)
      (λ i lt not_before not_p. false_from_ne_true (one_key (nth es (get_or order p 0)) (nth es i)) (λ has.
      let w = place_of es order is i lt in
      false≢true (sym none ∙ shows_third p w.0 pos lp w.1 (λ same. not_p (ap (λ n. get_or order n 0) (sym same) ∙ w.2)) (λ same. not_before (ap (λ n. get_or order n 0) (sym same) ∙ w.2))
      (ap (λ j. (nth es j).key) w.2 ∙ sym (same_text (nth es (get_or order p 0)) (nth es i) has)))))

  -- where neighbours show it, there is an earlier one
  shown : (p : ℕ) → p < length order → clashes_at es order p ≡ true → list_any (conflicts es (nth es (get_or order p 0))) (take (get_or order p 0) es) ≡ true
  shown p lp h =
      let outer = and_parts (nat_lt 0 p) (same_at es order p (p - 1) && (not (are_parts (nth es (get_or order p 0)) (nth es (get_or order (p - 1) 0))) || has_third es order p)) h in
      let inner = and_parts (same_at es order p (p - 1)) (not (are_parts (nth es (get_or order p 0)) (nth es (get_or order (p - 1) 0))) || has_third es order p) outer.1 in
      let pos = ltb-true 0 p outer.0 in
      let e : (nth es (get_or order p 0)).key ≡ (nth es (get_or order (p - 1) 0)).key = same_text (nth es (get_or order p 0)) (nth es (get_or order (p - 1) 0)) inner.0 in
      let front = rises_within es order is (p - 1) p (omega arith) lp (sym e) in
      let below = names_one es order is p lp in
      list_any_at (conflicts es (nth es (get_or order p 0))) (take (get_or order p 0) es) (get_or order (p - 1) 0) no_entry
      (rw (length-take-le (get_or order p 0) es (omega arith)) front)
      (rw (get_or-take (get_or order p 0) es (get_or order (p - 1) 0) no_entry front)
      (and_from (one_key (nth es (get_or order p 0)) (nth es (get_or order (p - 1) 0))) (not (are_parts (nth es (get_or order p 0)) (nth es (get_or order (p - 1) 0))) || not (length (filter (one_key (nth es (get_or order p 0))) es) == 2))
      inner.0 (one pos e (or_cases (not (are_parts (nth es (get_or order p 0)) (nth es (get_or order (p - 1) 0)))) (has_third es order p) inner.1))))
    where
      one : 0 < p → (nth es (get_or order p 0)).key ≡ (nth es (get_or order (p - 1) 0)).key → (not (are_parts (nth es (get_or order p 0)) (nth es (get_or order (p - 1) 0))) ≡ true) ⊎ (has_third es order p ≡ true)
          → (not (are_parts (nth es (get_or order p 0)) (nth es (get_or order (p - 1) 0))) || not (length (filter (one_key (nth es (get_or order p 0))) es) == 2)) ≡ true
      one pos e (inl alone) = or_left (not (are_parts (nth es (get_or order p 0)) (nth es (get_or order (p - 1) 0)))) (not (length (filter (one_key (nth es (get_or order p 0))) es) == 2)) alone
      one pos e (inr third) = or_right (not (are_parts (nth es (get_or order p 0)) (nth es (get_or order (p - 1) 0)))) (not (length (filter (one_key (nth es (get_or order p 0))) es) == 2)) (third_counts p pos lp e third)

  -- an earlier one at a place of the order
  seen_at : (p s : ℕ) → p < length order → s < p → (nth es (get_or order s 0)).key ≡ (nth es (get_or order p 0)).key
      → (not (are_parts (nth es (get_or order p 0)) (nth es (get_or order s 0))) || not (length (filter (one_key (nth es (get_or order p 0))) es) == 2)) ≡ true → clashes_at es order p ≡ true
  seen_at p s lp lt e h =
      and_from (nat_lt 0 p) (same_at es order p (p - 1) && (not (are_parts (nth es (get_or order p 0)) (nth es (get_or order (p - 1) 0))) || has_third es order p)) (lt-ltb 0 p (omega arith))
      (and_from (same_at es order p (p - 1)) (not (are_parts (nth es (get_or order p 0)) (nth es (get_or order (p - 1) 0))) || has_third es order p)
      (one_text (nth es (get_or order p 0)) (nth es (get_or order (p - 1) 0)) before) (one (cases_Bool (has_third es order p)) (cases_eq s (p - 1))))
    where
      before : (nth es (get_or order p 0)).key ≡ (nth es (get_or order (p - 1) 0)).key
      before = sym (between es order is s (p - 1) p (omega arith) (omega arith) lp e)

      alone : has_third es order p ≡ false → (not (are_parts (nth es (get_or order p 0)) (nth es (get_or order s 0))) ≡ true) ⊎ (not (length (filter (one_key (nth es (get_or order p 0))) es) == 2) ≡ true) → not (are_parts (nth es (get_or order p 0)) (nth es (get_or order s 0))) ≡ true
      alone none (inl h) = h
      alone none (inr h) = absurd (false≢true (sym (not-true (length (filter (one_key (nth es (get_or order p 0))) es) == 2) h) ∙ eq-eqb (length (filter (one_key (nth es (get_or order p 0))) es)) 2 (just_two p (omega arith) lp before none)))

      one : (has_third es order p ≡ true) ⊎ (has_third es order p ≡ false) → (s ≡ p - 1) ⊎ (s ≡ p - 1 → ⊥) → (not (are_parts (nth es (get_or order p 0)) (nth es (get_or order (p - 1) 0))) || has_third es order p) ≡ true
      one (inl third) c = or_right (not (are_parts (nth es (get_or order p 0)) (nth es (get_or order (p - 1) 0)))) (has_third es order p) third
      one (inr none) (inr ne) = absurd (false≢true (sym none ∙ shows_third p s (omega arith) lp (omega arith) (λ same. omega arith) ne e))
      one (inr none) (inl same) = or_left (not (are_parts (nth es (get_or order p 0)) (nth es (get_or order (p - 1) 0)))) (has_third es order p)
          (ap (λ n. not (are_parts (nth es (get_or order p 0)) (nth es (get_or order n 0)))) (sym same)
          ∙ alone none (or_cases (not (are_parts (nth es (get_or order p 0)) (nth es (get_or order s 0)))) (not (length (filter (one_key (nth es (get_or order p 0))) es) == 2)) h))

  -- where there is an earlier one, neighbours show it
  hidden_none : (p : ℕ) → p < length order → list_any (conflicts es (nth es (get_or order p 0))) (take (get_or order p 0) es) ≡ true → clashes_at es order p ≡ true
  hidden_none p lp h =
      let below = names_one es order is p lp in
      let w = any_found (conflicts es (nth es (get_or order p 0))) (take (get_or order p 0) es) no_entry h in
      let long = length-take-le (get_or order p 0) es (omega arith) in
      let front : w.0 < get_or order p 0 = rw long at w.1 in
      let v = place_of es order is w.0 (omega arith) in
      at_place w.0 v.0 front v.1 v.2 (rw (get_or-take (get_or order p 0) es w.0 no_entry front) at w.2)
    where
      at_place : (j s : ℕ) → j < get_or order p 0 → s < length order → get_or order s 0 ≡ j → conflicts es (nth es (get_or order p 0)) (nth es j) ≡ true → clashes_at es order p ≡ true
      at_place j s front ls e c =
          let here : conflicts es (nth es (get_or order p 0)) (nth es (get_or order s 0)) ≡ true = rw e c in
          let parts = and_parts (one_key (nth es (get_or order p 0)) (nth es (get_or order s 0))) (not (are_parts (nth es (get_or order p 0)) (nth es (get_or order s 0))) || not (length (filter (one_key (nth es (get_or order p 0))) es) == 2)) here in
          let same : (nth es (get_or order s 0)).key ≡ (nth es (get_or order p 0)).key = sym (same_text (nth es (get_or order p 0)) (nth es (get_or order s 0)) parts.0) in
          seen_at p s lp (stands_in_front es order is s p ls lp same (rw e front)) same parts.1

  clash_is : (p : ℕ) → p < length order → clashes_at es order p ≡ list_any (conflicts es (nth es (get_or order p 0))) (take (get_or order p 0) es)
  clash_is p lp = both_ways (clashes_at es order p) (list_any (conflicts es (nth es (get_or order p 0))) (take (get_or order p 0) es)) (shown p lp) (hidden_none p lp)

-- ---- all of them

-- what is told at a place of the list
abbrev pub told_in_list : EarlyErrorKind → List Entry → ℕ → List EarlyError
told_in_list kind es i = fault_if (list_any (conflicts es (nth es i)) (take i es)) (nth es i).at kind

repeats_behind : (kind : EarlyErrorKind) (all front rest : List Entry) → all ≡ front ++ rest → told (told_in_list kind all) (length front) ++ of_repeats kind all front rest ≡ told (told_in_list kind all) (length all)
unfolding of_repeats
repeats_behind kind all front [] e = append-nil (told (told_in_list kind all) (length front)) ∙ ap (λ xs. told (told_in_list kind all) (length xs)) (sym (e ∙ append-nil front))
repeats_behind kind all front (x ∷ xs) e =
    sym (append_assoc (told (told_in_list kind all) (length front)) (fault_if (list_any (conflicts all x) front) x.at kind) (of_repeats kind all (front ++ x ∷ []) xs))
    ∙ ap (λ fs. (told (told_in_list kind all) (length front) ++ fs) ++ of_repeats kind all (front ++ x ∷ []) xs) (sym here)
    ∙ ap (λ n. told (told_in_list kind all) n ++ of_repeats kind all (front ++ x ∷ []) xs) (sym (longer front))
    ∙ repeats_behind kind all (front ++ x ∷ []) xs (e ∙ sym (append_assoc front (x ∷ []) xs))
  where
    at_x : nth all (length front) ≡ x
    at_x = ap (λ ys. nth ys (length front)) e ∙ get_or-append_seam front x xs no_entry

    in_front : take (length front) all ≡ front
    in_front = ap (take (length front)) e ∙ take-append_seam front (x ∷ xs)

    here : told_in_list kind all (length front) ≡ fault_if (list_any (conflicts all x) front) x.at kind
    here = rw (at_x, in_front) refl

    longer : (ys : List Entry) → length (ys ++ x ∷ []) ≡ suc (length ys)
    longer [] = refl
    longer (y ∷ ys) = ap suc (longer ys)

-- an order tells what the list does
pub order_tells : (kind : EarlyErrorKind) (es : List Entry) (order : List ℕ) → IsOrder (keys_of es) order → first_of (told (told_in_order kind es order) (length order)) ≡ first_of (of_repeats kind es [] es)
order_tells kind es order is =
    told_alike (told_in_order kind es order) (told_in_list kind es) (length order) (length es)
    (λ p lp. (get_or order p 0, names_one es order is p lp, ap (λ b. fault_if b (nth es (get_or order p 0)).at kind) (clash_is es order is p lp)))
    (λ i lt. let w = place_of es order is i lt in (w.0, w.1, ap (told_in_list kind es) (sym w.2) ∙ sym (ap (λ b. fault_if b (nth es (get_or order w.0 0)).at kind) (clash_is es order is w.0 w.1))))
    ∙ ap first_of (sym (repeats_behind kind es [] es refl))
