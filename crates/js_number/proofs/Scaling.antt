-- Digits times a power of ten: where the product is an integer, and which.
use Rattle.std.proofs.Common.{◌≡◌, ℕ, zero, suc, ◌+◌, ◌-◌, ◌*◌, ◌^◌, ◌<◌, ◌≤◌, ◌==◌, ◌&&◌, List, [], ◌∷◌, ◌++◌, length, take, drop, true, refl, sym, ap, subst, ◌∙◌, arith, ⊎_elim, zero-mul, append_assoc, Some, None, length-append, length-drop}
use Rattle.std.specs.List.{list_all}
use Rattle.std.specs.Char.{digit_value}
use Rattle.std.specs.Str.Parse.{digits_value, digits_value_after, AllDigits}
use Rattle.std.proofs.lemmas.List.{take-append-drop}
use Rattle.std.proofs.lemmas.Nat.{same_from_place, pow-add}
use Rattle.std.proofs.lemmas.Bool.{cases_lt, and_parts, and_from, eqb-true, eq-eqb, cond-true}
use Rattle.std.proofs.lemmas.Int.Digits.{digits_value-lt}
use Rattle.std.proofs.lemmas.List.Folds.{list_all-append}
use Rattle.std.proofs.Math.Nat.{pow-suc, pow-zero, pow-le-pow_right, one-le-pow, mul_assoc}
use Rattle.js_number.specs.NumericText.{all_zero, scaled_up, scaled_down}
use Rattle.js_number.proofs.Answered.{some_of}
use Rattle.js_number.proofs.DigitValues.{after_append}

-- one more digit in front
regroup : (n radix v p d : ℕ) → (n * radix + v) * p + d ≡ n * (p * radix) + ((0 * radix + v) * p + d)
regroup n radix v p d = omega arith

-- a value in front of digits counts as many powers of the base as there are digits
after_is : (radix n : ℕ) (ds : List ℕ) → digits_value_after radix n ds ≡ n * radix ^ length ds + digits_value radix ds
after_is radix n [] = rw pow-zero (omega arith)
after_is radix n (d ∷ ds) =
    after_is radix (n * radix + digit_value d) ds ∙ regroup n radix (digit_value d) (radix ^ length ds) (digits_value radix ds) ∙ sym (ap (λ p. n * p + digits_value_after radix (0 * radix + digit_value d) ds) (pow-suc radix (length ds)) ∙ ap (λ v. n * (radix ^ length ds * radix) + v) (after_is radix (0 * radix + digit_value d) ds))

-- the value of two lists of digits
pub value_append : (xs ys : List ℕ) → digits_value 10 (xs ++ ys) ≡ digits_value 10 xs * 10 ^ length ys + digits_value 10 ys
value_append xs ys = after_append 10 0 xs ys ∙ after_is 10 (digits_value 10 xs) ys

-- digits that are all 0 are worth 0, and no others
pub zero_value : (ds : List ℕ) → all_zero ds ≡ true → digits_value 10 ds ≡ 0
zero_value [] h = refl
zero_value (d ∷ ds) h =
    let parts = and_parts (d == 48) (list_all (λ u. u == 48) ds) h in
    subst (λ u. digits_value_after 10 (0 * 10 + digit_value u) ds ≡ 0) (sym (eqb-true d 48 parts.0)) (zero_value ds parts.1)

-- the digit worth 0
zero_digit : (d : ℕ) → digit_value d ≡ 0 → d ≡ 48
zero_digit d e = grind arith

-- a sum that is 0 has a factor 0
factor_zero : (v p r : ℕ) → 0 < p → v * p + r ≡ 0 → v ≡ 0
factor_zero v p r h e = (same_from_place v 0 0 0 p h h (omega arith)).0

-- a sum that is 0 has a term 0
last_zero : (v p r : ℕ) → v * p + r ≡ 0 → r ≡ 0
last_zero v p r e = omega arith

-- a digit behind no other
zero_add_of : (v : ℕ) → 0 * 10 + v ≡ v
zero_add_of v = omega arith

-- digits worth 0 are all 0
pub value_zero : (ds : List ℕ) → digits_value 10 ds ≡ 0 → all_zero ds ≡ true
value_zero [] e = refl
value_zero (d ∷ ds) e =
    let split : (0 * 10 + digit_value d) * 10 ^ length ds + digits_value 10 ds ≡ 0 = sym (after_is 10 (0 * 10 + digit_value d) ds) ∙ e in
    let p : 0 < 10 ^ length ds = one-le-pow (length ds) 10 (omega arith) in
    let v : 0 * 10 + digit_value d ≡ 0 = factor_zero (0 * 10 + digit_value d) (10 ^ length ds) (digits_value 10 ds) p split in
    let w : digit_value d ≡ 0 = sym (zero_add_of (digit_value d)) ∙ v in
    let rest : digits_value 10 ds ≡ 0 = last_zero (0 * 10 + digit_value d) (10 ^ length ds) (digits_value 10 ds) split in
    and_from (d == 48) (list_all (λ u. u == 48) ds) (eq-eqb d 48 (zero_digit d w)) (value_zero ds rest)

-- a quotient and a remainder that is zero
exact : (n a b m : ℕ) → b < m → n * m ≡ a * m + b → (n ≡ a) × (b ≡ 0)
exact n a b m h e =
    let p = same_from_place n 0 a b m (omega arith) h (omega (arith, e)) in
    (p.0, sym p.1)

-- a factor that both sides have
cancel : (a b m : ℕ) → 0 < m → a * m ≡ b * m → a ≡ b
cancel a b m h e = (exact a b 0 m h (omega (arith, e))).0

-- 10 ^ i times 10 ^ j
powers : (i j : ℕ) → 10 ^ i * 10 ^ j ≡ 10 ^ (i + j)
powers i j = sym (pow-add 10 i j)

-- what is below 1
below_one : (n : ℕ) → n < 10 ^ 0 → n ≡ 0
below_one n h = omega arith

-- what is left of digits is digits
pub digits_drop : (radix n : ℕ) (ds : List ℕ) → AllDigits radix ds → AllDigits radix (drop n ds)
digits_drop radix zero ds a = a
digits_drop radix (suc n) [] a = a
digits_drop radix (suc n) (d ∷ ds) a = digits_drop radix n ds a.1

-- two lists of digits are digits
pub digits_append : (radix : ℕ) (xs ys : List ℕ) → AllDigits radix xs → AllDigits radix ys → AllDigits radix (xs ++ ys)
digits_append radix [] ys a b = b
digits_append radix (x ∷ xs) ys a b = (a.0, digits_append radix xs ys a.1 b)

-- a sum with 0
no_rest : (v a : ℕ) (b : ℕ) → v ≡ a + b → b ≡ 0 → v ≡ a
no_rest v a b e f = omega arith

-- the digits in front of the moved point and those behind it
module _ (whole fraction : List ℕ) (by : ℕ) where
  -- the value of the digits before the moved point
  abbrev front : ℕ
  front = digits_value 10 (whole ++ take by fraction)

  -- the value of the digits behind it
  abbrev back : ℕ
  back = digits_value 10 (drop by fraction)

  -- the value of all digits by these two
  up_split : digits_value 10 (whole ++ fraction) ≡ front * 10 ^ (length fraction - by) + back
  up_split =
      ap (λ xs. digits_value 10 (whole ++ xs)) (sym (take-append-drop by fraction)) ∙ ap (digits_value 10) (sym (append_assoc whole (take by fraction) (drop by fraction))) ∙ value_append (whole ++ take by fraction) (drop by fraction) ∙ ap (λ k. digits_value 10 (whole ++ take by fraction) * 10 ^ k + digits_value 10 (drop by fraction)) (length-drop by fraction)

  -- the powers of ten on both sides
  up_powers : (a : ℕ) → a * 10 ^ (by - length fraction) * 10 ^ length fraction ≡ (a * 10 ^ (length fraction - by)) * 10 ^ by
  up_powers a =
      mul_assoc a (10 ^ (by - length fraction)) (10 ^ length fraction) ∙ ap (λ p. a * p) (powers (by - length fraction) (length fraction)) ∙ ap (λ k. a * 10 ^ k) (let e : by - length fraction + length fraction ≡ length fraction - by + by = omega arith in e) ∙ ap (λ p. a * p) (sym (powers (length fraction - by) by)) ∙ sym (mul_assoc a (10 ^ (length fraction - by)) (10 ^ by))

  -- the value where nothing is left behind the moved point
  up_whole : back ≡ 0 → digits_value 10 (whole ++ fraction) * 10 ^ by ≡ front * 10 ^ (by - length fraction) * 10 ^ length fraction
  up_whole z = ap (λ v. v * 10 ^ by) (no_rest (digits_value 10 (whole ++ fraction)) (front * 10 ^ (length fraction - by)) back up_split z) ∙ sym (up_powers front)

  -- what is answered is the product
  pub up_found : (n : ℕ) → scaled_up whole fraction by ≡ Some n → n * 10 ^ length fraction ≡ digits_value 10 (whole ++ fraction) * 10 ^ by
  unfolding scaled_up
  up_found n e =
      let p = some_of (all_zero (drop by fraction)) (front * 10 ^ (by - length fraction)) n e in
      ap (λ m. m * 10 ^ length fraction) (sym p.1) ∙ sym (up_whole (zero_value (drop by fraction) p.0))

  -- nothing is left behind the moved point of an integer
  up_back : (n : ℕ) → AllDigits 10 fraction → n * 10 ^ length fraction ≡ digits_value 10 (whole ++ fraction) * 10 ^ by → back ≡ 0
  up_back n a e =
      let small : back < 10 ^ (length fraction - by) = subst (λ k. back < 10 ^ k) (length-drop by fraction) (digits_value-lt 10 (drop by fraction) (digits_drop 10 by fraction a)) in
      ⊎_elim
      (λ (h : length fraction < by + 1).
      let none : length fraction - by ≡ 0 = omega arith in
      let one : back < 10 ^ 0 = subst (λ k. back < 10 ^ k) none small in
      below_one back one)
      (λ (h : by + 1 ≤ length fraction).
      let split : length fraction - by + by ≡ length fraction = omega arith in
      let f : (n * 10 ^ (length fraction - by)) * 10 ^ by ≡ digits_value 10 (whole ++ fraction) * 10 ^ by =
      mul_assoc n (10 ^ (length fraction - by)) (10 ^ by) ∙ ap (λ p. n * p) (powers (length fraction - by) by) ∙ ap (λ k. n * 10 ^ k) split ∙ e in
      let g : n * 10 ^ (length fraction - by) ≡ digits_value 10 (whole ++ fraction) = cancel (n * 10 ^ (length fraction - by)) (digits_value 10 (whole ++ fraction)) (10 ^ by) (one-le-pow by 10 (omega arith)) f in
      (exact n front back (10 ^ (length fraction - by)) small (g ∙ up_split)).1)
      (cases_lt (length fraction) (by + 1))

  -- an integer that is the product is answered
  pub up_read : (n : ℕ) → AllDigits 10 fraction → n * 10 ^ length fraction ≡ digits_value 10 (whole ++ fraction) * 10 ^ by → scaled_up whole fraction by ≡ Some n
  unfolding scaled_up
  up_read n a e =
      let z : back ≡ 0 = up_back n a e in
      let m : n ≡ front * 10 ^ (by - length fraction) = cancel n (front * 10 ^ (by - length fraction)) (10 ^ length fraction) (one-le-pow (length fraction) 10 (omega arith)) (e ∙ up_whole z) in
      cond-true (all_zero (drop by fraction)) (Some (front * 10 ^ (by - length fraction))) None (value_zero (drop by fraction) z) ∙ ap Some (sym m)

  -- the value of the digits that a point moved back keeps
  abbrev kept : ℕ
  kept = digits_value 10 (take (length whole - by) whole)

  -- the digits that it leaves behind
  abbrev left : List ℕ
  left = drop (length whole - by) whole ++ fraction

  -- the value of all digits by these two
  down_split : digits_value 10 (whole ++ fraction) ≡ kept * 10 ^ length left + digits_value 10 left
  down_split =
      ap (λ xs. digits_value 10 (xs ++ fraction)) (sym (take-append-drop (length whole - by) whole)) ∙ ap (digits_value 10) (append_assoc (take (length whole - by) whole) (drop (length whole - by) whole) fraction) ∙ value_append (take (length whole - by) whole) left

  -- how many digits are left behind
  left_length : length left ≡ length whole - (length whole - by) + length fraction
  left_length = length-append (drop (length whole - by) whole) fraction ∙ ap (λ k. k + length fraction) (length-drop (length whole - by) whole)

  -- where the point moves past all digits nothing is kept
  kept_none : length whole < by → kept ≡ 0
  kept_none h =
      let e : length whole - by ≡ 0 = omega arith in
      ap (λ k. digits_value 10 (take k whole)) e

  -- the value where what is left behind is worth 0
  down_whole : digits_value 10 left ≡ 0 → kept * (10 ^ length fraction * 10 ^ by) ≡ digits_value 10 (whole ++ fraction)
  down_whole z =
      ⊎_elim
      (λ (h : length whole < by).
      ap (λ k. k * (10 ^ length fraction * 10 ^ by)) (kept_none h) ∙ zero-mul (10 ^ length fraction * 10 ^ by) ∙ sym (no_rest (digits_value 10 (whole ++ fraction)) (kept * 10 ^ length left) (digits_value 10 left) down_split z ∙ ap (λ k. k * 10 ^ length left) (kept_none h) ∙ zero-mul (10 ^ length left)))
      (λ (h : by ≤ length whole).
      let l : length fraction + by ≡ length left = omega (arith, left_length) in
      ap (λ p. kept * p) (powers (length fraction) by) ∙ ap (λ k. kept * 10 ^ k) l ∙ sym (no_rest (digits_value 10 (whole ++ fraction)) (kept * 10 ^ length left) (digits_value 10 left) down_split z))
      (cases_lt (length whole) by)

  -- what is answered is the quotient
  pub down_found : (n : ℕ) → scaled_down whole fraction by ≡ Some n → n * (10 ^ length fraction * 10 ^ by) ≡ digits_value 10 (whole ++ fraction)
  unfolding scaled_down
  down_found n e =
      let p = some_of (all_zero (drop (length whole - by) whole) && all_zero fraction) kept n e in
      ap (λ m. m * (10 ^ length fraction * 10 ^ by)) (sym p.1) ∙ down_whole (zero_value left (list_all-append (λ u. u == 48) (drop (length whole - by) whole) fraction ∙ p.0))

  -- the number is what is kept, and what is left is 0
  down_parts : (n : ℕ) → AllDigits 10 whole → AllDigits 10 fraction → n * (10 ^ length fraction * 10 ^ by) ≡ digits_value 10 (whole ++ fraction) → (n ≡ kept) × (digits_value 10 left ≡ 0)
  down_parts n a b e =
      let small : digits_value 10 left < 10 ^ length left = digits_value-lt 10 left (digits_append 10 (drop (length whole - by) whole) fraction (digits_drop 10 (length whole - by) whole a) b) in
      let f : n * 10 ^ (length fraction + by) ≡ kept * 10 ^ length left + digits_value 10 left = ap (λ p. n * p) (sym (powers (length fraction) by)) ∙ e ∙ down_split in
      ⊎_elim
      (λ (h : length whole < by).
      let l : length left ≤ length fraction + by = omega (arith, left_length) in
      let more : 10 ^ length left ≤ 10 ^ (length fraction + by) = pow-le-pow_right (omega arith) l in
      let less : digits_value 10 left < 10 ^ (length fraction + by) = omega (arith, small, more) in
      let g : n * 10 ^ (length fraction + by) ≡ 0 * 10 ^ (length fraction + by) + digits_value 10 left = f ∙ ap (λ k. k * 10 ^ length left + digits_value 10 left) (kept_none h) ∙ ap (λ z. z + digits_value 10 left) (zero-mul (10 ^ length left) ∙ sym (zero-mul (10 ^ (length fraction + by)))) in
      let p = exact n 0 (digits_value 10 left) (10 ^ (length fraction + by)) less g in
      (p.0 ∙ sym (kept_none h), p.1))
      (λ (h : by ≤ length whole).
      let l : length fraction + by ≡ length left = omega (arith, left_length) in
      exact n kept (digits_value 10 left) (10 ^ length left) small (ap (λ k. n * 10 ^ k) (sym l) ∙ f))
      (cases_lt (length whole) by)

  -- an integer that is the quotient is answered
  pub down_read : (n : ℕ) → AllDigits 10 whole → AllDigits 10 fraction → n * (10 ^ length fraction * 10 ^ by) ≡ digits_value 10 (whole ++ fraction) → scaled_down whole fraction by ≡ Some n
  unfolding scaled_down
  down_read n a b e =
      let p = down_parts n a b e in
      cond-true (all_zero (drop (length whole - by) whole) && all_zero fraction) (Some kept) None (sym (list_all-append (λ u. u == 48) (drop (length whole - by) whole) fraction) ∙ value_zero left p.1) ∙ ap Some (sym p.0)
