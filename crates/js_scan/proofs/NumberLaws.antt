-- What is read of a number is the longest numeric literal at the front.
use Rattle.std.proofs.Common.{◌≡◌, ℕ, ◌+◌, ◌<◌, ◌≤◌, ◌==◌, ◌⊎◌, ◌&&◌, ◌||◌, List, [], ◌∷◌, ◌++◌, length, take, drop, Bool, true, false, refl, sym, ap, subst, ◌∙◌, arith, inl, inr, ⊎_elim, append_assoc, length-append, Some, Ok, ℤ, if◌then◌else◌}
use Rattle.std.specs.Char.{digit_value, is_digit}
use Rattle.std.specs.Str.Parse.{AllDigits}
use Rattle.std.proofs.Math.Seq.{drop-append_seam}
use Rattle.std.proofs.lemmas.List.{take-append-drop}
use Rattle.std.proofs.lemmas.List.Folds.{length-prefix_len}
use Rattle.std.proofs.lemmas.Bool.{or_cases, or_from, and_parts, eqb-true, eqb-false, ne_eqb, cond-true, cond-false, true≢false, lt-ltb}
use Rattle.js_number.specs.Literal.{Sign, unsigned, plus, minus, Mantissa, integer, pointed, fraction, Exponent, none, power, Literal, empty, hexadecimal, decimal, infinity, AreDigits, spelled_sign, spelled_mantissa, spelled_exponent, spelling, IsMantissa, IsExponent, SpellsNumber}
use Rattle.js_number.specs.NumericText.{digit_count, number_of_text}
use Rattle.js_number.proofs.Blanks.{NoDigitFirst, count_digits, digits_first}
use Rattle.js_number.specs.Profile.{IsProfile}
use Rattle.js_number.specs.declared.num.Num.TheVariants.{Int}
use Rattle.js_number.proofs.Found.{answer_exact}
use Rattle.js_number.proofs.Spelled.{IsTail, differs, hex_test, hex_units}
use Rattle.js_scan.specs.Units.{begins_with, begins_with_digit}
use Rattle.js_scan.specs.Numbers.{IsDecimalInteger, IsMantissaOfSource, IsNumeric}
use Rattle.js_scan.specs.NumberReading.{whole_length, fraction_length, power_length, signed_power_length, exponent_length, mantissa_length, decimal_length, hexadecimal_length, number_length}
use Rattle.js_scan.specs.Found.{begins_number, FindsNumber}

-- the number of the profile that a text spells is one
pub one_value : (us : List ℕ) (m n : ℤ) → IsProfile m → SpellsNumber us m → IsProfile n → SpellsNumber us n → m ≡ n
one_value us m n p s q t =
    let first = (answer_exact us (number_of_text us) m refl).1 (p, s) in
    let second = (answer_exact us (number_of_text us) n refl).1 (q, t) in
    let same : Ok (Int m) ≡ Ok (Int n) = sym first ∙ second in
    cc same

-- a digit by its value
digit : (u radix : ℕ) → digit_value u < radix → is_digit u radix ≡ true
digit u radix h = lt-ltb (digit_value u) radix h

-- digits at the front are counted, and maybe more behind them
count_least : (radix : ℕ) (ds us : List ℕ) → AllDigits radix ds → length ds ≤ digit_count radix (ds ++ us)
count_least radix [] us a = omega arith
count_least radix (d ∷ ds) us a =
    let more : length ds ≤ digit_count radix (ds ++ us) = count_least radix ds us a.1 in
    let counted : digit_count radix (d ∷ (ds ++ us)) ≡ 1 + digit_count radix (ds ++ us) = cond-true (is_digit d radix) (1 + digit_count radix (ds ++ us)) 0 (digit d radix a.0) in
    omega arith

-- the digits before the point, where no digit stands behind them
whole_exact : (ds us : List ℕ) → AreDigits 10 ds → IsDecimalInteger ds → NoDigitFirst 10 us → whole_length (ds ++ us) ≡ length ds
unfolding whole_length begins_with
whole_exact [] us a i n = absurd (omega arith)
whole_exact (d ∷ ds) us a i n = ⊎_elim
    (λ (e : d ∷ ds ≡ 48 ∷ []). subst (λ xs. whole_length (xs ++ us) ≡ length xs) (sym e) refl)
    (λ (e : (d == 48) ≡ false). cond-false (d == 48) 1 (digit_count 10 (d ∷ (ds ++ us))) e ∙ count_digits 10 (d ∷ ds) us a.1 n)
    i

-- and where any unit may
whole_least : (ds us : List ℕ) → AreDigits 10 ds → IsDecimalInteger ds → length ds ≤ whole_length (ds ++ us)
unfolding whole_length begins_with
whole_least [] us a i = omega arith
whole_least (d ∷ ds) us a i = ⊎_elim
    (λ (e : d ∷ ds ≡ 48 ∷ []). subst (λ xs. length xs ≤ whole_length (xs ++ us)) (sym e) (omega arith))
    (λ (e : (d == 48) ≡ false). subst (λ n. length (d ∷ ds) ≤ n) (sym (cond-false (d == 48) 1 (digit_count 10 (d ∷ (ds ++ us))) e)) (count_least 10 (d ∷ ds) us a.1))
    i

-- no digit stands in front of a point
point_whole : (us : List ℕ) → whole_length (46 ∷ us) ≡ 0
unfolding whole_length
point_whole us = refl

-- no fraction without a point
no_fraction : (us : List ℕ) → IsTail us → fraction_length us ≡ 0
unfolding fraction_length
no_fraction [] t = refl
no_fraction (u ∷ us) t = cond-false (u == 46) (1 + digit_count 10 us) 0 t.1

-- no digit stands behind a mantissa
tail_no_digit : (us : List ℕ) → IsTail us → NoDigitFirst 10 us
tail_no_digit [] t = tt
tail_no_digit (u ∷ us) t = t.0

-- a point and the digits behind it
point_length : (us : List ℕ) → fraction_length (46 ∷ us) ≡ 1 + digit_count 10 us
unfolding fraction_length
point_length us = refl

-- a mantissa by the digits before its point
behind_whole : (ds us : List ℕ) → whole_length (ds ++ us) ≡ length ds → mantissa_length (ds ++ us) ≡ length ds + fraction_length us
unfolding mantissa_length
behind_whole ds us e = ap (λ n. n + fraction_length (drop n (ds ++ us))) e ∙ ap (λ xs. length ds + fraction_length xs) (drop-append_seam ds us)

-- a mantissa, where neither a digit nor a point stands behind it
mantissa_exact : (m : Mantissa) (us : List ℕ) → IsMantissa m → IsMantissaOfSource m → IsTail us → mantissa_length (spelled_mantissa m ++ us) ≡ length (spelled_mantissa m)
mantissa_exact (integer ds) us i s t =
    let r = behind_whole ds us (whole_exact ds us i s (tail_no_digit us t)) in
    let f = no_fraction us t in
    omega arith
mantissa_exact (pointed ds fs) us i s t =
    let r = behind_whole ds (46 ∷ (fs ++ us)) (whole_exact ds (46 ∷ (fs ++ us)) i.0 s refl) in
    let f = point_length (fs ++ us) in
    let c = count_digits 10 fs us i.1 (tail_no_digit us t) in
    subst (λ xs. mantissa_length xs ≡ length (ds ++ 46 ∷ fs)) (sym (append_assoc ds (46 ∷ fs) us)) (omega (arith, length-append ds (46 ∷ fs)))
mantissa_exact (fraction fs) us i s t =
    let r = behind_whole [] (46 ∷ (fs ++ us)) (point_whole (fs ++ us)) in
    let f = point_length (fs ++ us) in
    let c = count_digits 10 fs us i.1 (tail_no_digit us t) in
    omega arith

-- a mantissa is no shorter than the digits before its point
grows : (us : List ℕ) → whole_length us ≤ mantissa_length us
unfolding mantissa_length
grows us = omega arith

-- a mantissa, where any unit may stand behind it
mantissa_least : (m : Mantissa) (us : List ℕ) → IsMantissa m → IsMantissaOfSource m → length (spelled_mantissa m) ≤ mantissa_length (spelled_mantissa m ++ us)
mantissa_least (integer ds) us i s =
    let w = whole_least ds us i s in
    let g = grows (ds ++ us) in
    omega arith
mantissa_least (pointed ds fs) us i s =
    let r = behind_whole ds (46 ∷ (fs ++ us)) (whole_exact ds (46 ∷ (fs ++ us)) i.0 s refl) in
    let f = point_length (fs ++ us) in
    let c = count_least 10 fs us i.1 in
    subst (λ xs. length (ds ++ 46 ∷ fs) ≤ mantissa_length xs) (sym (append_assoc ds (46 ∷ fs) us)) (omega (arith, length-append ds (46 ∷ fs)))
mantissa_least (fraction fs) us i s =
    let r = behind_whole [] (46 ∷ (fs ++ us)) (point_whole (fs ++ us)) in
    let f = point_length (fs ++ us) in
    let c = count_least 10 fs us i.1 in
    omega arith

-- an exponent by its digits
power_least : (front : ℕ) (ds us : List ℕ) → AreDigits 10 ds → front + length ds ≤ power_length front (ds ++ us)
unfolding power_length
power_least front ds us a =
    let c = count_least 10 ds us a.1 in
    let some : (digit_count 10 (ds ++ us) == 0) ≡ false = ne_eqb (digit_count 10 (ds ++ us)) 0 (λ e. omega arith) in
    subst (λ n. front + length ds ≤ n) (sym (cond-false (digit_count 10 (ds ++ us) == 0) 0 (front + digit_count 10 (ds ++ us)) some)) (omega arith)

-- an exponent by its sign and its digits
signed_least : (s : Sign) (ds us : List ℕ) → AreDigits 10 ds → 1 + length (spelled_sign s ++ ds) ≤ signed_power_length ((spelled_sign s ++ ds) ++ us)
unfolding signed_power_length
signed_least plus ds us a = let p = power_least 2 ds us a in omega arith
signed_least minus ds us a = let p = power_least 2 ds us a in omega arith
signed_least unsigned [] us a = absurd (omega arith)
signed_least unsigned (d ∷ ds) us a =
    let p = power_least 1 (d ∷ ds) us a in
    let t : is_digit d 10 ≡ true = digit d 10 a.1.0 in
    let test : (d == 43 || d == 45) ≡ false = or_from (d == 43) (d == 45) (differs (λ u. is_digit u 10) d 43 t refl) (differs (λ u. is_digit u 10) d 45 t refl) in
    subst (λ n. 1 + length (d ∷ ds) ≤ n) (sym (cond-false (d == 43 || d == 45) (power_length 2 (ds ++ us)) (power_length 1 (d ∷ (ds ++ us))) test)) (omega arith)

-- both letters begin an exponent
letter : (x : ℕ) (us : List ℕ) → (x ≡ 101) ⊎ (x ≡ 69) → exponent_length (x ∷ us) ≡ signed_power_length us
unfolding exponent_length
letter x us h = ⊎_elim (λ e. subst (λ y. exponent_length (y ∷ us) ≡ signed_power_length us) (sym e) refl) (λ e. subst (λ y. exponent_length (y ∷ us) ≡ signed_power_length us) (sym e) refl) h

-- an exponent, where any unit may stand behind it
exponent_least : (e : Exponent) (us : List ℕ) → IsExponent e → length (spelled_exponent e) ≤ exponent_length (spelled_exponent e ++ us)
exponent_least none us i = omega arith
exponent_least (power x s ds) us i =
    let l = letter x ((spelled_sign s ++ ds) ++ us) i.0 in
    let p = signed_least s ds us i.1 in
    omega arith

-- neither a digit nor a point is a letter of an exponent
letter_tail : (x : ℕ) (us : List ℕ) → (x ≡ 101) ⊎ (x ≡ 69) → IsTail (x ∷ us)
letter_tail x us h = ⊎_elim (λ e. subst (λ y. IsTail (y ∷ us)) (sym e) (refl, refl)) (λ e. subst (λ y. IsTail (y ∷ us)) (sym e) (refl, refl)) h

-- a number by its mantissa
behind_mantissa : (ms us : List ℕ) → mantissa_length (ms ++ us) ≡ length ms → decimal_length (ms ++ us) ≡ length ms + exponent_length us
unfolding decimal_length
behind_mantissa ms us e = ap (λ n. n + exponent_length (drop n (ms ++ us))) e ∙ ap (λ xs. length ms + exponent_length xs) (drop-append_seam ms us)

-- a number is no shorter than its mantissa
decimal_grows : (us : List ℕ) → mantissa_length us ≤ decimal_length us
unfolding decimal_length
decimal_grows us = omega arith

-- a decimal number, where any unit may stand behind it
decimal_least : (m : Mantissa) (e : Exponent) (us : List ℕ) → IsMantissa m → IsMantissaOfSource m → IsExponent e → length (spelled_mantissa m ++ spelled_exponent e) ≤ decimal_length (spelled_mantissa m ++ (spelled_exponent e ++ us))
decimal_least m none us i s j =
    let l = mantissa_least m us i s in
    let g = decimal_grows (spelled_mantissa m ++ us) in
    omega (arith, length-append (spelled_mantissa m) [])
decimal_least m (power x s ds) us i o j =
    let exact = mantissa_exact m (x ∷ ((spelled_sign s ++ ds) ++ us)) i o (letter_tail x ((spelled_sign s ++ ds) ++ us) j.0) in
    let r = behind_mantissa (spelled_mantissa m) (x ∷ ((spelled_sign s ++ ds) ++ us)) exact in
    let p = exponent_least (power x s ds) us j in
    omega (arith, length-append (spelled_mantissa m) (x ∷ (spelled_sign s ++ ds)))

-- the front isn't `0x` or `0X`
abbrev NotHex : List ℕ → Type 0
NotHex [] = Unit {0}
NotHex (u ∷ []) = Unit {0}
NotHex (u ∷ x ∷ us) = hex_test u x ≡ false

-- the front is `0x` or `0X`
record Hex (us : List ℕ) : Type 0 where
  mark : ℕ
  rest : List ℕ
  is_mark : (mark ≡ 120) ⊎ (mark ≡ 88)
  whole : us ≡ 48 ∷ mark ∷ rest

-- by the test
hex_at : (b : Bool) (u x : ℕ) (us : List ℕ) → hex_test u x ≡ b → NotHex (u ∷ x ∷ us) ⊎ Hex (u ∷ x ∷ us)
hex_at false u x us t = inl t
hex_at true u x us t =
    let p = hex_units u x t in
    inr (record { mark = x; rest = us; is_mark = p.1; whole = ap (λ y. y ∷ x ∷ us) p.0 })

-- the front is one or the other
hex_or_not : (us : List ℕ) → NotHex us ⊎ Hex us
hex_or_not [] = inl tt
hex_or_not (u ∷ []) = inl tt
hex_or_not (u ∷ x ∷ us) = hex_at (hex_test u x) u x us refl

-- a number that doesn't begin so
not_hex_length : (us : List ℕ) → NotHex us → number_length us ≡ decimal_length us
unfolding number_length hex_test
not_hex_length [] h = refl
not_hex_length (u ∷ []) h = refl
not_hex_length (u ∷ x ∷ us) h = cond-false (u == 48 && (x == 120 || x == 88)) (hexadecimal_length us) (decimal_length (u ∷ x ∷ us)) h

-- a number that begins so
hex_length : (x : ℕ) (us : List ℕ) → (x ≡ 120) ⊎ (x ≡ 88) → number_length (48 ∷ x ∷ us) ≡ hexadecimal_length us
unfolding number_length
hex_length x us h = ⊎_elim (λ e. subst (λ y. number_length (48 ∷ y ∷ us) ≡ hexadecimal_length us) (sym e) refl) (λ e. subst (λ y. number_length (48 ∷ y ∷ us) ≡ hexadecimal_length us) (sym e) refl) h

-- it has one unit at least
hex_positive : (b : Bool) (us : List ℕ) → (digit_count 16 us == 0) ≡ b → 1 ≤ hexadecimal_length us
unfolding hexadecimal_length
hex_positive true us t = subst (λ n. 1 ≤ n) (sym (cond-true (digit_count 16 us == 0) 1 (2 + digit_count 16 us) t)) (omega arith)
hex_positive false us t = subst (λ n. 1 ≤ n) (sym (cond-false (digit_count 16 us == 0) 1 (2 + digit_count 16 us) t)) (omega arith)

-- a hexadecimal number, where any unit may stand behind it
hex_least : (ds us : List ℕ) → AreDigits 16 ds → 2 + length ds ≤ hexadecimal_length (ds ++ us)
unfolding hexadecimal_length
hex_least ds us a =
    let c = count_least 16 ds us a.1 in
    let some : (digit_count 16 (ds ++ us) == 0) ≡ false = ne_eqb (digit_count 16 (ds ++ us)) 0 (λ e. omega arith) in
    subst (λ n. 2 + length ds ≤ n) (sym (cond-false (digit_count 16 (ds ++ us) == 0) 1 (2 + digit_count 16 (ds ++ us)) some)) (omega arith)

-- a digit, a point, or a letter of an exponent
abbrev of_decimal : ℕ → Bool
of_decimal u = is_digit u 10 || (u == 46 || (u == 101 || u == 69))

-- `x` is none of these
mark_apart : (x u : ℕ) → (x ≡ 120) ⊎ (x ≡ 88) → u ≡ x → of_decimal u ≡ true → ⊥
mark_apart x u h e t =
    let other : of_decimal x ≡ false = ⊎_elim (λ f. ap of_decimal f) (λ f. ap of_decimal f) h in
    true≢false (sym t ∙ ap of_decimal e ∙ other)

-- a digit is one of these
digit_of_decimal : (u : ℕ) → digit_value u < 10 → of_decimal u ≡ true
digit_of_decimal u h = ap (λ b. b || (u == 46 || (u == 101 || u == 69))) (digit u 10 h)

-- and a letter
letter_of_decimal : (u : ℕ) → (u ≡ 101) ⊎ (u ≡ 69) → of_decimal u ≡ true
letter_of_decimal u h = ⊎_elim (λ e. ap of_decimal e) (λ e. ap of_decimal e) h

-- equal lists have the same unit first
same_first : (a b : ℕ) (us vs : List ℕ) → a ∷ us ≡ b ∷ vs → a ≡ b
same_first a b us vs e = cc

-- and second
same_second : (a b c d : ℕ) (us vs : List ℕ) → a ∷ b ∷ us ≡ c ∷ d ∷ vs → b ≡ d
same_second a b c d us vs e = cc

-- in front of `x` only `0` is a decimal number
zero_only : (m : Mantissa) (e : Exponent) (us : List ℕ) (x : ℕ) (rest : List ℕ) → IsMantissa m → IsExponent e → (x ≡ 120) ⊎ (x ≡ 88) → spelled_mantissa m ++ (spelled_exponent e ++ us) ≡ 48 ∷ x ∷ rest → length (spelled_mantissa m ++ spelled_exponent e) ≤ 1
zero_only (integer []) e us x rest i j h w = absurd (omega arith)
zero_only (integer (d ∷ [])) none us x rest i j h w = omega arith
zero_only (integer (d ∷ [])) (power l s ds) us x rest i j h w = absurd (mark_apart x l h (same_second d l 48 x ((spelled_sign s ++ ds) ++ us) rest w) (letter_of_decimal l j.0))
zero_only (integer (d ∷ c ∷ ds)) e us x rest i j h w = absurd (mark_apart x c h (same_second d c 48 x (ds ++ (spelled_exponent e ++ us)) rest w) (digit_of_decimal c i.1.1.0))
zero_only (pointed [] fs) e us x rest i j h w = absurd (omega arith)
zero_only (pointed (d ∷ []) fs) e us x rest i j h w = absurd (mark_apart x 46 h (same_second d 46 48 x (fs ++ (spelled_exponent e ++ us)) rest w) refl)
zero_only (pointed (d ∷ c ∷ ds) fs) e us x rest i j h w = absurd (mark_apart x c h (same_second d c 48 x ((ds ++ 46 ∷ fs) ++ (spelled_exponent e ++ us)) rest w) (digit_of_decimal c i.0.1.1.0))
zero_only (fraction fs) e us x rest i j h w = absurd (omega (arith, same_first 46 48 (fs ++ (spelled_exponent e ++ us)) (x ∷ rest) w))

-- a decimal number, where the front isn't `0x`
decimal_plain : (m : Mantissa) (e : Exponent) (us : List ℕ) → IsMantissa m → IsMantissaOfSource m → IsExponent e → NotHex (spelled_mantissa m ++ (spelled_exponent e ++ us)) → length (spelled_mantissa m ++ spelled_exponent e) ≤ number_length (spelled_mantissa m ++ (spelled_exponent e ++ us))
decimal_plain m e us i s j h =
    let same = not_hex_length (spelled_mantissa m ++ (spelled_exponent e ++ us)) h in
    let least = decimal_least m e us i s j in
    omega arith

-- and where it is
decimal_hex : (m : Mantissa) (e : Exponent) (us : List ℕ) → IsMantissa m → IsExponent e → Hex (spelled_mantissa m ++ (spelled_exponent e ++ us)) → length (spelled_mantissa m ++ spelled_exponent e) ≤ number_length (spelled_mantissa m ++ (spelled_exponent e ++ us))
decimal_hex m e us i j h =
    let short = zero_only m e us h.mark h.rest i j h.is_mark h.whole in
    let same : number_length (spelled_mantissa m ++ (spelled_exponent e ++ us)) ≡ hexadecimal_length h.rest = ap number_length h.whole ∙ hex_length h.mark h.rest h.is_mark in
    let some = hex_positive (digit_count 16 h.rest == 0) h.rest refl in
    omega arith

-- a decimal number by what stands at the front
decimal_within : (m : Mantissa) (e : Exponent) (us : List ℕ) → IsMantissa m → IsMantissaOfSource m → IsExponent e → length (spelled_mantissa m ++ spelled_exponent e) ≤ number_length (spelled_mantissa m ++ (spelled_exponent e ++ us))
decimal_within m e us i s j = ⊎_elim (decimal_plain m e us i s j) (decimal_hex m e us i j) (hex_or_not (spelled_mantissa m ++ (spelled_exponent e ++ us)))

-- no numeric literal at the front is longer than what is read
longest : (l : Literal) (us : List ℕ) → IsNumeric l → length (spelling l) ≤ number_length (spelling l ++ us)
unfolding IsNumeric
longest empty us i = absurd i
longest (infinity s) us i = absurd i
longest (decimal plus m e) us i = absurd i
longest (decimal minus m e) us i = absurd i
longest (decimal unsigned m e) us i = subst (λ xs. length (spelled_mantissa m ++ spelled_exponent e) ≤ number_length xs) (sym (append_assoc (spelled_mantissa m) (spelled_exponent e) us)) (decimal_within m e us i.0.0 i.1 i.0.1)
longest (hexadecimal x ds) us i =
    let same = hex_length x (ds ++ us) i.0 in
    let least = hex_least ds us i.1 in
    omega arith

-- the digits that stand first, and what stands behind them
record DigitsAt (radix : ℕ) (us : List ℕ) : Type 0 where
  digits : List ℕ
  rest : List ℕ
  are : AllDigits radix digits
  whole : us ≡ digits ++ rest
  length_is : digit_count radix us ≡ length digits

-- they are counted
digits_at : (radix : ℕ) (us : List ℕ) → DigitsAt radix us
digits_at radix us = record {
  digits = take (digit_count radix us) us;
  rest = drop (digit_count radix us) us;
  are = digits_first radix us;
  whole = sym (take-append-drop (digit_count radix us) us);
  length_is = sym (length-prefix_len (λ u. is_digit u radix) us);
}

-- an exponent of so many units, or none, and what stands behind it
record ExponentAt (us : List ℕ) (n : ℕ) : Type 0 where
  exponent : Exponent
  rest : List ℕ
  is : IsExponent exponent
  whole : us ≡ spelled_exponent exponent ++ rest
  length_is : n ≡ length (spelled_exponent exponent)

-- none
none_at : (us : List ℕ) → ExponentAt us 0
none_at us = record { exponent = none; rest = us; is = tt; whole = refl; length_is = refl }

-- an exponent by the test for digits
power_at : (b : Bool) (x : ℕ) (letter_is : (x ≡ 101) ⊎ (x ≡ 69)) (s : Sign) (front : ℕ) (us : List ℕ) → front ≡ 1 + length (spelled_sign s) → (digit_count 10 us == 0) ≡ b → ExponentAt (x ∷ (spelled_sign s ++ us)) (if b then 0 else front + digit_count 10 us)
power_at true x letter_is s front us f t = none_at (x ∷ (spelled_sign s ++ us))
power_at false x letter_is s front us f t =
    let d = digits_at 10 us in
    let some = eqb-false (digit_count 10 us) 0 t in
    record {
      exponent = power x s d.digits;
      rest = d.rest;
      is = (letter_is, (omega (arith, d.length_is), d.are));
      whole = ap (λ xs. x ∷ (spelled_sign s ++ xs)) d.whole ∙ ap (λ xs. x ∷ xs) (sym (append_assoc (spelled_sign s) d.digits d.rest));
      length_is = omega (arith, d.length_is, length-append (spelled_sign s) d.digits);
    }

-- an exponent by the tests for a sign
signed_at : (a b : Bool) (x : ℕ) (letter_is : (x ≡ 101) ⊎ (x ≡ 69)) (u : ℕ) (us : List ℕ) → (u == 43) ≡ a → (u == 45) ≡ b → ExponentAt (x ∷ u ∷ us) (if a || b then power_length 2 us else power_length 1 (u ∷ us))
unfolding power_length
signed_at true b x letter_is u us s t = subst (λ y. ExponentAt (x ∷ y ∷ us) (power_length 2 us)) (sym (eqb-true u 43 s)) (power_at (digit_count 10 us == 0) x letter_is plus 2 us refl refl)
signed_at false true x letter_is u us s t = subst (λ y. ExponentAt (x ∷ y ∷ us) (power_length 2 us)) (sym (eqb-true u 45 t)) (power_at (digit_count 10 us == 0) x letter_is minus 2 us refl refl)
signed_at false false x letter_is u us s t = power_at (digit_count 10 (u ∷ us) == 0) x letter_is unsigned 1 (u ∷ us) refl refl

-- an exponent by what stands behind its letter
behind_letter : (x : ℕ) (letter_is : (x ≡ 101) ⊎ (x ≡ 69)) (us : List ℕ) → ExponentAt (x ∷ us) (signed_power_length us)
unfolding signed_power_length power_length
behind_letter x letter_is [] = none_at (x ∷ [])
behind_letter x letter_is (u ∷ us) = signed_at (u == 43) (u == 45) x letter_is u us refl refl

-- an exponent by the test for its letter
letter_at : (b : Bool) (u : ℕ) (us : List ℕ) → (u == 101 || u == 69) ≡ b → ExponentAt (u ∷ us) (if b then signed_power_length us else 0)
letter_at true u us t = behind_letter u (⊎_elim (λ h. inl (eqb-true u 101 h)) (λ h. inr (eqb-true u 69 h)) (or_cases (u == 101) (u == 69) t)) us
letter_at false u us t = none_at (u ∷ us)

-- what is read of an exponent is one
exponent_at : (us : List ℕ) → ExponentAt us (exponent_length us)
unfolding exponent_length
exponent_at [] = none_at []
exponent_at (u ∷ us) = letter_at (u == 101 || u == 69) u us refl

-- the digits before a point, and what stands behind them
record WholeAt (us : List ℕ) : Type 0 where
  digits : List ℕ
  rest : List ℕ
  are : AreDigits 10 digits
  source : IsDecimalInteger digits
  whole : us ≡ digits ++ rest
  length_is : whole_length (digits ++ rest) ≡ length digits

-- digits, of which the first is not 0
first_not_zero : (u : ℕ) (us ds rest : List ℕ) → u ∷ us ≡ ds ++ rest → 0 < length ds → (u == 48) ≡ false → begins_with 48 ds ≡ false
unfolding begins_with
first_not_zero u us [] rest e h t = absurd (omega arith)
first_not_zero u us (d ∷ ds) rest e h t = ap (λ y. y == 48) (sym (same_first u d us (ds ++ rest) e)) ∙ t

-- by the test for a 0
whole_by : (b : Bool) (u : ℕ) (us : List ℕ) → is_digit u 10 ≡ true → (u == 48) ≡ b → WholeAt (u ∷ us)
unfolding whole_length
whole_by true u us h t =
    let e = eqb-true u 48 t in
    record { digits = 48 ∷ []; rest = us; are = (omega arith, (omega arith, tt)); source = inl refl; whole = ap (λ y. y ∷ us) e; length_is = refl }
whole_by false u us h t =
    let d = digits_at 10 (u ∷ us) in
    let counted : digit_count 10 (u ∷ us) ≡ 1 + digit_count 10 us = cond-true (is_digit u 10) (1 + digit_count 10 us) 0 h in
    let some : 0 < length d.digits = omega (arith, d.length_is) in
    record {
      digits = d.digits;
      rest = d.rest;
      are = (some, d.are);
      source = inr (first_not_zero u us d.digits d.rest d.whole some t);
      whole = d.whole;
      length_is = ap whole_length (sym d.whole) ∙ cond-false (u == 48) 1 (digit_count 10 (u ∷ us)) t ∙ d.length_is;
    }

-- a mantissa, and what stands behind it
record MantissaAt (us : List ℕ) : Type 0 where
  mantissa : Mantissa
  rest : List ℕ
  is : IsMantissa mantissa
  source : IsMantissaOfSource mantissa
  whole : us ≡ spelled_mantissa mantissa ++ rest
  length_is : mantissa_length us ≡ length (spelled_mantissa mantissa)

-- digits without a point behind them
integer_at : (us : List ℕ) (w : WholeAt us) → fraction_length w.rest ≡ 0 → MantissaAt us
integer_at us w f =
    let r = behind_whole w.digits w.rest w.length_is in
    let same = ap mantissa_length w.whole in
    record { mantissa = integer w.digits; rest = w.rest; is = w.are; source = w.source; whole = w.whole; length_is = omega arith }

-- digits, a point, and maybe more digits
pointed_at : (us : List ℕ) (w : WholeAt us) (rest : List ℕ) → w.rest ≡ 46 ∷ rest → MantissaAt us
pointed_at us w rest e =
    let d = digits_at 10 rest in
    let r = behind_whole w.digits w.rest w.length_is in
    let same = ap mantissa_length w.whole in
    let f = ap fraction_length e ∙ point_length rest in
    record {
      mantissa = pointed w.digits d.digits;
      rest = d.rest;
      is = (w.are, d.are);
      source = w.source;
      whole = w.whole ∙ ap (λ xs. w.digits ++ xs) (e ∙ ap (λ xs. 46 ∷ xs) d.whole) ∙ sym (append_assoc w.digits (46 ∷ d.digits) d.rest);
      length_is = omega (arith, d.length_is, length-append w.digits (46 ∷ d.digits));
    }

-- one or the other, by the test for a point
fraction_by : (b : Bool) (us : List ℕ) (w : WholeAt us) (u : ℕ) (rest : List ℕ) → w.rest ≡ u ∷ rest → (u == 46) ≡ b → MantissaAt us
unfolding fraction_length
fraction_by true us w u rest e t = pointed_at us w rest (e ∙ ap (λ y. y ∷ rest) (eqb-true u 46 t))
fraction_by false us w u rest e t = integer_at us w (ap fraction_length e ∙ cond-false (u == 46) (1 + digit_count 10 rest) 0 t)

-- by what stands behind the digits
behind_at : (us : List ℕ) (w : WholeAt us) (rest : List ℕ) → w.rest ≡ rest → MantissaAt us
unfolding fraction_length
behind_at us w [] e = integer_at us w (ap fraction_length e)
behind_at us w (u ∷ rest) e = fraction_by (u == 46) us w u rest e refl

-- a point and digits
fraction_at : (us : List ℕ) → begins_with_digit us ≡ true → MantissaAt (46 ∷ us)
unfolding begins_with_digit
fraction_at [] h = absurd (true≢false (sym h))
fraction_at (u ∷ us) h =
    let d = digits_at 10 (u ∷ us) in
    let counted : digit_count 10 (u ∷ us) ≡ 1 + digit_count 10 us = cond-true (is_digit u 10) (1 + digit_count 10 us) 0 h in
    let r = behind_whole [] (46 ∷ u ∷ us) (point_whole (u ∷ us)) in
    let f = point_length (u ∷ us) in
    record {
      mantissa = fraction d.digits;
      rest = d.rest;
      is = (omega (arith, d.length_is), d.are);
      source = tt;
      whole = ap (λ xs. 46 ∷ xs) d.whole;
      length_is = omega (arith, d.length_is);
    }

-- what begins with a digit
digit_first : (u : ℕ) (us : List ℕ) → is_digit u 10 ≡ true → MantissaAt (u ∷ us)
digit_first u us h = let w = whole_by (u == 48) u us h refl in behind_at (u ∷ us) w w.rest refl

-- what begins with a point and a digit
point_first : (u : ℕ) (us : List ℕ) → (u == 46 && begins_with_digit us) ≡ true → MantissaAt (u ∷ us)
point_first u us h =
    let p = and_parts (u == 46) (begins_with_digit us) h in
    subst (λ y. MantissaAt (y ∷ us)) (sym (eqb-true u 46 p.0)) (fraction_at us p.1)

-- what is read of a mantissa is one
mantissa_at : (us : List ℕ) → begins_number us ≡ true → MantissaAt us
unfolding begins_number begins_with_digit
mantissa_at [] h = absurd (true≢false (sym h))
mantissa_at (u ∷ us) h = ⊎_elim (digit_first u us) (point_first u us) (or_cases (is_digit u 10) (u == 46 && begins_with_digit us) h)

-- a numeric literal of so many units, and what stands behind it
record NumberAt (us : List ℕ) (n : ℕ) : Type 0 where
  literal : Literal
  rest : List ℕ
  is : IsNumeric literal
  whole : us ≡ spelling literal ++ rest
  length_is : length (spelling literal) ≡ n

-- what is read of a decimal number is one
decimal_at : (us : List ℕ) → begins_number us ≡ true → NumberAt us (decimal_length us)
unfolding IsNumeric
decimal_at us h =
    let m = mantissa_at us h in
    let e = exponent_at m.rest in
    let same = ap decimal_length m.whole in
    let r = behind_mantissa (spelled_mantissa m.mantissa) m.rest (ap mantissa_length (sym m.whole) ∙ m.length_is) in
    record {
      literal = decimal unsigned m.mantissa e.exponent;
      rest = e.rest;
      is = ((m.is, e.is), m.source);
      whole = m.whole ∙ ap (λ xs. spelled_mantissa m.mantissa ++ xs) e.whole ∙ sym (append_assoc (spelled_mantissa m.mantissa) (spelled_exponent e.exponent) e.rest);
      length_is = omega (arith, e.length_is, length-append (spelled_mantissa m.mantissa) (spelled_exponent e.exponent));
    }

-- what is read of a number that begins with `0x`
hexadecimal_by : (b : Bool) (x : ℕ) (us : List ℕ) → (x ≡ 120) ⊎ (x ≡ 88) → (digit_count 16 us == 0) ≡ b → NumberAt (48 ∷ x ∷ us) (if b then 1 else 2 + digit_count 16 us)
unfolding IsNumeric
hexadecimal_by true x us h t = record {
  literal = decimal unsigned (integer (48 ∷ [])) none;
  rest = x ∷ us;
  is = (((omega arith, (omega arith, tt)), tt), inl refl);
  whole = refl;
  length_is = refl;
}
hexadecimal_by false x us h t =
    let d = digits_at 16 us in
    let some = eqb-false (digit_count 16 us) 0 t in
    record {
      literal = hexadecimal x d.digits;
      rest = d.rest;
      is = (h, (omega (arith, d.length_is), d.are));
      whole = ap (λ xs. 48 ∷ x ∷ xs) d.whole;
      length_is = omega (arith, d.length_is);
    }

-- by its mark
hexadecimal_at : (us : List ℕ) → Hex us → NumberAt us (number_length us)
unfolding hexadecimal_length
hexadecimal_at us h =
    let same : number_length us ≡ hexadecimal_length h.rest = ap number_length h.whole ∙ hex_length h.mark h.rest h.is_mark in
    let found : NumberAt (48 ∷ h.mark ∷ h.rest) (hexadecimal_length h.rest) = hexadecimal_by (digit_count 16 h.rest == 0) h.mark h.rest h.is_mark refl in
    subst (λ n. NumberAt us n) (sym same) (subst (λ xs. NumberAt xs (hexadecimal_length h.rest)) (sym h.whole) found)

-- what is read of a number is one
number_at : (us : List ℕ) → begins_number us ≡ true → NumberAt us (number_length us)
number_at us b = ⊎_elim (λ h. subst (λ n. NumberAt us n) (sym (not_hex_length us h)) (decimal_at us b)) (hexadecimal_at us) (hex_or_not us)

-- what is read of a number is the longest numeric literal
pub finds : (us : List ℕ) (n : ℕ) → begins_number us ≡ true → n ≡ number_length us → FindsNumber us n
finds us n b e =
    let a = subst (λ k. NumberAt us k) (sym e) (number_at us b) in
    let behind : a.rest ≡ drop n us = sym (drop-append_seam (spelling a.literal) a.rest) ∙ ap (λ xs. drop (length (spelling a.literal)) xs) (sym a.whole) ∙ ap (λ k. drop k us) a.length_is in
    record {
      literal = a.literal;
      is = a.is;
      whole = a.whole ∙ ap (λ xs. spelling a.literal ++ xs) behind;
      length_is = a.length_is;
      longest = λ l rest i w. let within = longest l rest i in let same = e ∙ ap number_length w in omega arith;
    }

-- the first units of a list that begins with a digit, or with a point and a digit
abbrev BeginsSo : List ℕ → Type 0
BeginsSo text = (u : ℕ) × (us : List ℕ) × (text ≡ u ∷ us) × ((is_digit u 10 ≡ true) ⊎ ((u ≡ 46) × (begins_with_digit us ≡ true)))

-- a mantissa begins so
mantissa_first : (m : Mantissa) (us : List ℕ) → IsMantissa m → BeginsSo (spelled_mantissa m ++ us)
unfolding begins_with_digit
mantissa_first (integer []) us i = absurd (omega arith)
mantissa_first (integer (d ∷ ds)) us i = (d, ds ++ us, refl, inl (digit d 10 i.1.0))
mantissa_first (pointed [] fs) us i = absurd (omega arith)
mantissa_first (pointed (d ∷ ds) fs) us i = (d, (ds ++ 46 ∷ fs) ++ us, refl, inl (digit d 10 i.0.1.0))
mantissa_first (fraction []) us i = absurd (omega arith)
mantissa_first (fraction (f ∷ fs)) us i = (46, f ∷ (fs ++ us), refl, inr (refl, digit f 10 i.1.0))

-- and so does a numeric literal
pub number_first : (l : Literal) → IsNumeric l → (u : ℕ) × (us : List ℕ) × (spelling l ≡ u ∷ us) × ((is_digit u 10 ≡ true) ⊎ ((u ≡ 46) × (begins_with_digit us ≡ true)))
unfolding IsNumeric
number_first empty i = absurd i
number_first (infinity s) i = absurd i
number_first (decimal plus m e) i = absurd i
number_first (decimal minus m e) i = absurd i
number_first (decimal unsigned m e) i = mantissa_first m (spelled_exponent e) i.0.0
number_first (hexadecimal x ds) i = (48, x ∷ ds, refl, inl refl)

-- more units behind change nothing of the first
digit_stays : (us vs : List ℕ) → begins_with_digit us ≡ true → begins_with_digit (us ++ vs) ≡ true
unfolding begins_with_digit
digit_stays [] vs h = absurd (true≢false (sym h))
digit_stays (u ∷ us) vs h = h

-- a digit, or a point and a digit
begins_by : (u : ℕ) (us vs : List ℕ) → (is_digit u 10 ≡ true) ⊎ ((u ≡ 46) × (begins_with_digit us ≡ true)) → begins_number (u ∷ (us ++ vs)) ≡ true
unfolding begins_number begins_with_digit
begins_by u us vs (inl h) = ap (λ b. b || (u == 46 && begins_with_digit (us ++ vs))) h
begins_by u us vs (inr h) = subst (λ y. begins_number (y ∷ (us ++ vs)) ≡ true) (sym h.0) (digit_stays us vs h.1)

-- where a numeric literal stands first, a number begins
pub number_begins : (l : Literal) (rest : List ℕ) → IsNumeric l → begins_number (spelling l ++ rest) ≡ true
number_begins l rest i =
    let f = number_first l i in
    subst (λ xs. begins_number (xs ++ rest) ≡ true) (sym f.2) (begins_by f.0 f.1 rest f.3)
