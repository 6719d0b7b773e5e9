-- A power of ten whose size was cut gives what the whole one gives.
use Rattle.std.proofs.Common.{◌≡◌, ℕ, zero, suc, ◌+◌, ◌-◌, ◌*◌, ◌^◌, ◌<◌, ◌≤◌, List, ◌++◌, length, take, drop, min, Bool, true, false, refl, sym, ap, subst, ◌∙◌, arith, Option, Some, None, take_all, ⊎_elim, zero-mul, ◌==◌, ◌&&◌, if◌then◌else◌}
use Rattle.std.specs.Str.Parse.{digits_value}
use Rattle.std.proofs.lemmas.Bool.{cases_lt, cond-false}
use Rattle.std.proofs.Math.Nat.{pow-le-pow_right, mul-le-mul_right}
use Rattle.std.proofs.lemmas.List.{drop_all}
use Rattle.js_number.specs.declared.numeric_text.PowerOfTen.{PowerOfTen}
use Rattle.js_number.specs.declared.numeric_text.Spelled.{Spelled}
use Rattle.js_number.specs.declared.numeric_text.Spelled.TheVariants.{NoLiteral}
use Rattle.js_number.specs.NumericText.{scaled_up, scaled_down, scaled, integer_if, scaled_where, with_exponent, exponent_of, all_zero}
use Rattle.js_number.specs.Bounded.{bounded, bounded_spelled, capped, cut}
use Rattle.js_number.proofs.DigitValues.{product_too_large}

-- a list has no more than its length
take_min : (n : ℕ) (xs : List ℕ) → take (min n (length xs)) xs ≡ take n xs
take_min n xs =
    ⊎_elim
    (λ (h : n < length xs). let e : min n (length xs) ≡ n = omega arith in ap (λ k. take k xs) e)
    (λ (h : length xs ≤ n). take_all (min n (length xs)) xs (omega arith) ∙ sym (take_all n xs h))
    (cases_lt n (length xs))

-- a value that isn't 0 times a power of ten of 16 or more is too large
past : (v m : ℕ) → 16 ≤ m → bounded (Some (suc v * 10 ^ m)) ≡ None
past v m h =
    let higher : 10 ^ 16 ≤ 10 ^ m = pow-le-pow_right (omega arith) h in
    let more : 1 * 10 ^ m ≤ suc v * 10 ^ m = mul-le-mul_right (10 ^ m) (omega arith) in
    let all : 2 ^ 53 ≤ suc v * 10 ^ m = omega (arith, higher, more) in
    grind arith

-- a value times a power of ten of 16 or more is 0, or too large
far_power : (v m n : ℕ) → 16 ≤ m → 16 ≤ n → bounded (Some (v * 10 ^ m)) ≡ bounded (Some (v * 10 ^ n))
far_power zero m n h i = simp zero-mul
far_power (suc v) m n h i = past v m h ∙ sym (past v n i)

-- where the point moves past all digits
up_past : (whole fraction : List ℕ) (n : ℕ) → length fraction ≤ n → scaled_up whole fraction n ≡ Some (digits_value 10 (whole ++ fraction) * 10 ^ (n - length fraction))
unfolding scaled_up
up_past whole fraction n h = rw (drop_all n fraction h, take_all n fraction h) refl

-- two sizes that are both far past the digits give the same
up_far : (whole fraction : List ℕ) (m n : ℕ) → length fraction + 16 ≤ m → length fraction + 16 ≤ n → bounded (scaled_up whole fraction m) ≡ bounded (scaled_up whole fraction n)
up_far whole fraction m n h i =
    ap bounded (up_past whole fraction m (omega arith)) ∙ far_power (digits_value 10 (whole ++ fraction)) (m - length fraction) (n - length fraction) (omega arith) (omega arith) ∙ sym (ap bounded (up_past whole fraction n (omega arith)))

-- up to its cap a size is itself, and past it all digits of any list are taken
up_cut : (whole fraction : List ℕ) (n : ℕ) → length fraction < 2 ^ 63 → bounded (scaled_up whole fraction (capped n)) ≡ bounded (scaled_up whole fraction n)
up_cut whole fraction n short =
    ⊎_elim
    (λ (h : n < 2 ^ 64). let e : capped n ≡ n = omega arith in ap (λ m. bounded (scaled_up whole fraction m)) e)
    (λ (h : 2 ^ 64 ≤ n). up_far whole fraction (capped n) n (omega arith) (omega arith))
    (cases_lt n (2 ^ 64))

-- a size that was cut moves the point back as far
down_cut : (whole fraction : List ℕ) (n : ℕ) → length whole < 2 ^ 63 → scaled_down whole fraction (capped n) ≡ scaled_down whole fraction n
unfolding scaled_down
down_cut whole fraction n short =
    let e : length whole - capped n ≡ length whole - n = omega arith in
    ap (λ k. if all_zero (drop k whole) && all_zero fraction then Some (digits_value 10 (take k whole)) else None) e

-- the same by the sign of the exponent
by_sign : (whole fraction : List ℕ) (negative : Bool) (n : ℕ) → length whole < 2 ^ 63 → length fraction < 2 ^ 63 → bounded (if negative then scaled_down whole fraction (capped n) else scaled_up whole fraction (capped n)) ≡ bounded (if negative then scaled_down whole fraction n else scaled_up whole fraction n)
by_sign whole fraction true n h i = ap bounded (down_cut whole fraction n h)
by_sign whole fraction false n h i = up_cut whole fraction n i

-- an integer that is cut, as a text spells it
bounded_integer : (o : Option ℕ) → bounded_spelled (integer_if o) ≡ integer_if (bounded o)
bounded_integer None = refl
bounded_integer (Some n) = refl

-- the same of an exponent that may be missing
where_cut : (whole fraction : List ℕ) (power : Option PowerOfTen) → length whole < 2 ^ 63 → length fraction < 2 ^ 63 → bounded_spelled (scaled_where whole fraction (cut power)) ≡ bounded_spelled (scaled_where whole fraction power)
unfolding scaled_where scaled
where_cut whole fraction None h i = refl
where_cut whole fraction (Some p) h i =
    let q : PowerOfTen = record { negative = p.negative; size = capped p.size } in
    bounded_integer (scaled whole fraction q) ∙ ap integer_if (by_sign whole fraction p.negative p.size h i) ∙ sym (bounded_integer (scaled whole fraction p))

-- the same behind a mantissa that has a digit
pub with_cut : (whole fraction rest : List ℕ) (power : Option PowerOfTen) (r : Spelled) → length whole < 2 ^ 63 → length fraction < 2 ^ 63 → (length whole == 0 && length fraction == 0) ≡ false → power ≡ cut (exponent_of rest) → r ≡ bounded_spelled (scaled_where whole fraction power) → r ≡ bounded_spelled (with_exponent whole fraction rest)
unfolding with_exponent
with_cut whole fraction rest power r h i some e f =
    f ∙ ap (λ p. bounded_spelled (scaled_where whole fraction p)) e ∙ where_cut whole fraction (exponent_of rest) h i ∙ sym (ap bounded_spelled (cond-false (length whole == 0 && length fraction == 0) NoLiteral (scaled_where whole fraction (exponent_of rest)) some))

-- digits that are too large without their power of ten
pub up_too_large : (whole fraction taken : List ℕ) (by m : ℕ) → m ≡ min by (length fraction) → taken ≡ take m fraction → bounded (Some (digits_value 10 (whole ++ taken))) ≡ None → bounded (scaled_up whole fraction by) ≡ None
unfolding scaled_up
up_too_large whole fraction taken by m e f large =
    let g : taken ≡ take by fraction = f ∙ ap (λ k. take k fraction) e ∙ take_min by fraction in
    let v : bounded (Some (digits_value 10 (whole ++ take by fraction) * 10 ^ (by - length fraction))) ≡ None =
    product_too_large (digits_value 10 (whole ++ take by fraction)) (by - length fraction) (subst (λ xs. bounded (Some (digits_value 10 (whole ++ xs))) ≡ None) g large) in
    elim (all_zero (drop by fraction)) as (λ b. bounded (if b then Some (digits_value 10 (whole ++ take by fraction) * 10 ^ (by - length fraction)) else None) ≡ None) [ true ↦ v | false ↦ refl ]
