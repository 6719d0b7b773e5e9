-- A text that a literal spells is read as that literal's value: a number, or none where it is no integer of the profile.
use Rattle.std.proofs.Common.{◌≡◌, ℕ, ◌*◌, ◌^◌, ◌<◌, ◌≤◌, ◌==◌, ◌⊎◌, ◌&&◌, ◌||◌, not, List, [], ◌∷◌, ◌++◌, length, take, drop, Bool, true, false, refl, sym, ap, subst, ◌∙◌, arith, inl, inr, ⊎_elim, append_assoc, append-nil, codes, bytes_eq, Option, Some, None, Result, Ok, Err, if◌then◌else◌, ℤ, pos}
use Rattle.std.specs.List.{list_all}
use Rattle.std.specs.Option.{option_map}
use Rattle.std.specs.Char.{digit_value, is_digit}
use Rattle.std.specs.Str.Parse.{digits_value, AllDigits}
use Rattle.std.proofs.Math.Nat.{mul-one}
use Rattle.std.proofs.Math.Seq.{take-append_seam, drop-append_seam}
use Rattle.std.proofs.lemmas.Bool.{and_parts, or_cases, eqb-true, ne_eqb, cond-true, cond-false, or_from, and_left, true≢false, lt-ltb}
use Rattle.js_number.specs.declared.int.LeftNumbers.{LeftNumbers}
use Rattle.js_number.specs.declared.num.Num.{Num}
use Rattle.js_number.specs.declared.num.Num.TheVariants.{Int}
use Rattle.js_number.specs.declared.numeric_text.PowerOfTen.{PowerOfTen}
use Rattle.js_number.specs.declared.numeric_text.Spelled.{Spelled}
use Rattle.js_number.specs.declared.numeric_text.Spelled.TheVariants.{NoLiteral, NoInteger, Integer}
use Rattle.js_number.specs.Number.{number}
use Rattle.js_number.specs.Literal.{Sign, unsigned, plus, minus, Mantissa, integer, pointed, fraction, Exponent, none, power, Literal, empty, hexadecimal, decimal, infinity, is_blank, AreBlank, AreDigits, spelled_sign, spelled_mantissa, spelled_exponent, spelling, IsMantissa, IsExponent, IsLiteral, mantissa_value, at_exponent, SpellsLiteral}
use Rattle.js_number.specs.NumericText.{digit_count, after_blanks, lone_digits, power_of, signed_power, exponent_of, scaled, scaled_where, with_exponent, with_fraction, integer_if, infinity_word, is_infinity, decimal_of, hexadecimal_if, hexadecimal_of, unsigned_of, number_spelled, number_behind_blanks, number_of_text}
use Rattle.js_number.proofs.Blanks.{is_apart, blank_apart, digit_no_blank, blank_no_digit, NoDigitFirst, blanks_apart, count_digits, skip_blanks, only_blanks}
use Rattle.js_number.proofs.Scaling.{value_append, up_read, down_read}

-- two units that a test tells apart
pub differs : (t : ℕ → Bool) (u x : ℕ) → t u ≡ true → t x ≡ false → (u == x) ≡ false
differs t u x h n = ne_eqb u x (λ e. true≢false (sym h ∙ ap t e ∙ n))

-- digits are not none
some_digits : (ds : List ℕ) → 0 < length ds → (length ds == 0) ≡ false
some_digits ds h = ne_eqb (length ds) 0 (λ e. omega arith)

-- digits with only blanks behind them are read
pub lone_is : (radix : ℕ) (ds us : List ℕ) → radix ≤ 36 → AreDigits radix ds → AreBlank us → lone_digits radix (ds ++ us) ≡ Some ds
unfolding lone_digits
lone_is radix ds us h a b =
    let k : digit_count radix (ds ++ us) ≡ length ds = count_digits radix ds us a.1 (blanks_apart radix us h b) in
    let rest : not (list_all is_blank (drop (length ds) (ds ++ us))) ≡ false = ap (λ xs. not (list_all is_blank xs)) (drop-append_seam ds us) ∙ ap not b in
    let test : (length ds == 0 || not (list_all is_blank (drop (length ds) (ds ++ us)))) ≡ false = or_from (length ds == 0) (not (list_all is_blank (drop (length ds) (ds ++ us)))) (some_digits ds a.0) rest in
    subst (λ n. (if n == 0 || not (list_all is_blank (drop n (ds ++ us))) then None else Some (take n (ds ++ us))) ≡ Some ds) (sym k)
    (cond-false (length ds == 0 || not (list_all is_blank (drop (length ds) (ds ++ us)))) None (Some (take (length ds) (ds ++ us))) test ∙ ap Some (take-append_seam ds us))

-- the digits of an exponent are read
power_is : (negative : Bool) (ds us : List ℕ) → AreDigits 10 ds → AreBlank us → power_of negative (ds ++ us) ≡ Some (record { negative = negative; size = digits_value 10 ds })
unfolding power_of
power_is negative ds us a b = ap (λ o. option_map (λ xs. record { negative = negative; size = digits_value 10 xs }) o) (lone_is 10 ds us (omega arith) a b)

-- the power of ten that an exponent says
abbrev pub power_value : Exponent → PowerOfTen
power_value none = record { negative = false; size = 0 }
power_value (power x minus ds) = record { negative = true; size = digits_value 10 ds }
power_value (power x plus ds) = record { negative = false; size = digits_value 10 ds }
power_value (power x unsigned ds) = record { negative = false; size = digits_value 10 ds }

-- an exponent without a sign is read
unsigned_power : (ds us : List ℕ) → AreDigits 10 ds → AreBlank us → signed_power (ds ++ us) ≡ Some (record { negative = false; size = digits_value 10 ds })
unfolding signed_power
unsigned_power [] us a b = absurd (omega arith)
unsigned_power (d ∷ ds) us a b =
    let t : is_digit d 10 ≡ true = lt-ltb (digit_value d) 10 a.1.0 in
    let x : (d == 45) ≡ false = differs (λ u. is_digit u 10) d 45 t refl in
    let y : (d == 43) ≡ false = differs (λ u. is_digit u 10) d 43 t refl in
    cond-false (d == 45) (power_of true (ds ++ us)) (if d == 43 then power_of false (ds ++ us) else power_of false (d ∷ (ds ++ us))) x ∙ cond-false (d == 43) (power_of false (ds ++ us)) (power_of false (d ∷ (ds ++ us))) y ∙ power_is false (d ∷ ds) us a b

-- an exponent behind its letter is read
signed_is : (x : ℕ) (s : Sign) (ds us : List ℕ) → AreDigits 10 ds → AreBlank us → signed_power ((spelled_sign s ++ ds) ++ us) ≡ Some (power_value (power x s ds))
unfolding signed_power
signed_is x unsigned ds us a b = unsigned_power ds us a b
signed_is x plus ds us a b = power_is false ds us a b
signed_is x minus ds us a b = power_is true ds us a b

-- both letters begin an exponent
letter : (x : ℕ) (us : List ℕ) → (x ≡ 101) ⊎ (x ≡ 69) → exponent_of (x ∷ us) ≡ signed_power us
unfolding exponent_of
letter x us h =
    ⊎_elim (λ e. subst (λ y. exponent_of (y ∷ us) ≡ signed_power us) (sym e) refl) (λ e. subst (λ y. exponent_of (y ∷ us) ≡ signed_power us) (sym e) refl) h

-- blanks are no exponent
blanks_exponent : (us : List ℕ) → AreBlank us → exponent_of us ≡ Some (power_value none)
unfolding exponent_of
blanks_exponent [] b = refl
blanks_exponent (u ∷ us) b =
    let p = and_parts (is_blank u) (list_all is_blank us) b in
    let x : (u == 101) ≡ false = differs is_apart u 101 (blank_apart u p.0) refl in
    let y : (u == 69) ≡ false = differs is_apart u 69 (blank_apart u p.0) refl in
    cond-false (u == 101 || u == 69) (signed_power us) (if list_all is_blank (u ∷ us) then Some (power_value none) else None) (or_from (u == 101) (u == 69) x y) ∙ cond-true (list_all is_blank (u ∷ us)) (Some (power_value none)) None b

-- an exponent is read
pub exponent_read : (e : Exponent) (us : List ℕ) → IsExponent e → AreBlank us → exponent_of (spelled_exponent e ++ us) ≡ Some (power_value e)
exponent_read none us i b = blanks_exponent us b
exponent_read (power x s ds) us i b = letter x ((spelled_sign s ++ ds) ++ us) i.0 ∙ signed_is x s ds us i.1 b

-- what may stand behind a mantissa: no digit and no point
abbrev pub IsTail : List ℕ → Type 0
IsTail [] = Unit {0}
IsTail (u ∷ us) = (is_digit u 10 ≡ false) × ((u == 46) ≡ false)

-- a letter may stand behind a mantissa
letter_tail : (x : ℕ) (us : List ℕ) → (x ≡ 101) ⊎ (x ≡ 69) → IsTail (x ∷ us)
letter_tail x us h = ⊎_elim (λ e. subst (λ y. IsTail (y ∷ us)) (sym e) (refl, refl)) (λ e. subst (λ y. IsTail (y ∷ us)) (sym e) (refl, refl)) h

-- an exponent may stand behind a mantissa
pub exponent_tail : (e : Exponent) (us : List ℕ) → IsExponent e → AreBlank us → IsTail (spelled_exponent e ++ us)
exponent_tail none [] i b = tt
exponent_tail none (u ∷ us) i b =
    let p = and_parts (is_blank u) (list_all is_blank us) b in
    (blank_no_digit u 10 (omega arith) p.0, differs is_apart u 46 (blank_apart u p.0) refl)
exponent_tail (power x s ds) us i b = letter_tail x ((spelled_sign s ++ ds) ++ us) i.0

-- no digit stands there
tail_no_digit : (us : List ℕ) → IsTail us → NoDigitFirst 10 us
tail_no_digit [] t = tt
tail_no_digit (u ∷ us) t = t.0

-- the digits of a mantissa before its point, and behind it
abbrev pub whole_of : Mantissa → List ℕ
whole_of (integer ds) = ds
whole_of (pointed ds fs) = ds
whole_of (fraction fs) = []

-- the digits behind the point
abbrev pub fraction_of : Mantissa → List ℕ
fraction_of (integer ds) = []
fraction_of (pointed ds fs) = fs
fraction_of (fraction fs) = fs

-- a text that doesn't begin with an I isn't the word Infinity
no_infinity : (u : ℕ) (us : List ℕ) → (u == 73) ≡ false → is_infinity (u ∷ us) ≡ false
unfolding is_infinity
no_infinity u us h = ap (λ b. (b && bytes_eq (take 7 us) (codes "nfinity")) && list_all is_blank (drop 8 (u ∷ us))) h

-- nor is the empty one, nor one that begins with digits
digits_no_infinity : (ds us : List ℕ) → AllDigits 10 ds → is_infinity us ≡ false → is_infinity (ds ++ us) ≡ false
digits_no_infinity [] us a h = h
digits_no_infinity (d ∷ ds) us a h = no_infinity d (ds ++ us) (differs (λ u. is_digit u 10) d 73 (lt-ltb (digit_value d) 10 a.0) refl)

-- the first digits are read
decimal_at : (ds us : List ℕ) → AllDigits 10 ds → NoDigitFirst 10 us → is_infinity (ds ++ us) ≡ false → decimal_of (ds ++ us) ≡ with_fraction ds us
unfolding decimal_of
decimal_at ds us a n h =
    cond-false (is_infinity (ds ++ us)) NoInteger (with_fraction (take (digit_count 10 (ds ++ us)) (ds ++ us)) (drop (digit_count 10 (ds ++ us)) (ds ++ us))) h
    ∙ ap (λ k. with_fraction (take k (ds ++ us)) (drop k (ds ++ us))) (count_digits 10 ds us a n) ∙ ap (λ xs. with_fraction xs (drop (length ds) (ds ++ us))) (take-append_seam ds us) ∙ ap (with_fraction ds) (drop-append_seam ds us)

-- a mantissa without a point is read
no_point : (ds us : List ℕ) → IsTail us → with_fraction ds us ≡ with_exponent ds [] us
unfolding with_fraction
no_point ds [] t = refl
no_point ds (u ∷ us) t = cond-false (u == 46) (with_exponent ds (take (digit_count 10 us) us) (drop (digit_count 10 us) us)) (with_exponent ds [] (u ∷ us)) t.1

-- a mantissa with a point is read
point : (ds fs us : List ℕ) → AllDigits 10 fs → IsTail us → with_fraction ds (46 ∷ (fs ++ us)) ≡ with_exponent ds fs us
unfolding with_fraction
point ds fs us a t =
    ap (λ k. with_exponent ds (take k (fs ++ us)) (drop k (fs ++ us))) (count_digits 10 fs us a (tail_no_digit us t)) ∙ ap (λ xs. with_exponent ds xs (drop (length fs) (fs ++ us))) (take-append_seam fs us) ∙ ap (with_exponent ds fs) (drop-append_seam fs us)

-- one digit and more, and a point, aren't the word Infinity
some_no_infinity : (ds us : List ℕ) → AreDigits 10 ds → is_infinity (ds ++ us) ≡ false
some_no_infinity [] us a = absurd (omega arith)
some_no_infinity (d ∷ ds) us a = no_infinity d (ds ++ us) (differs (λ u. is_digit u 10) d 73 (lt-ltb (digit_value d) 10 a.1.0) refl)

-- a mantissa is read
mantissa_read : (m : Mantissa) (us : List ℕ) → IsMantissa m → IsTail us → decimal_of (spelled_mantissa m ++ us) ≡ with_exponent (whole_of m) (fraction_of m) us
mantissa_read (integer ds) us i t = decimal_at ds us i.1 (tail_no_digit us t) (some_no_infinity ds us i) ∙ no_point ds us t
mantissa_read (pointed ds fs) us i t = ap decimal_of (append_assoc ds (46 ∷ fs) us) ∙ decimal_at ds (46 ∷ (fs ++ us)) i.0.1 refl (some_no_infinity ds (46 ∷ (fs ++ us)) i.0) ∙ point ds fs us i.1 t
mantissa_read (fraction fs) us i t = decimal_at [] (46 ∷ (fs ++ us)) tt refl (no_infinity 46 (fs ++ us) refl) ∙ point [] fs us i.1 t

-- a mantissa has a digit
pub has_digit : (m : Mantissa) → IsMantissa m → (length (whole_of m) == 0 && length (fraction_of m) == 0) ≡ false
has_digit (integer ds) i = and_left (length ds == 0) true (some_digits ds i.0)
has_digit (pointed ds fs) i = and_left (length ds == 0) (length fs == 0) (some_digits ds i.0.0)
has_digit (fraction fs) i = some_digits fs i.0

-- both parts of a mantissa are digits
pub are_digits : (m : Mantissa) → IsMantissa m → AllDigits 10 (whole_of m) × AllDigits 10 (fraction_of m)
are_digits (integer ds) i = (i.1, tt)
are_digits (pointed ds fs) i = (i.0.1, i.1)
are_digits (fraction fs) i = (tt, i.1)

-- the value of a mantissa is that of its digits
pub above_is : (m : Mantissa) → (mantissa_value m).above ≡ digits_value 10 (whole_of m ++ fraction_of m)
above_is (integer ds) = ap (digits_value 10) (sym (append-nil ds))
above_is (pointed ds fs) = sym (value_append ds fs)
above_is (fraction fs) = refl

-- over a power of ten
pub below_is : (m : Mantissa) → (mantissa_value m).below ≡ 10 ^ length (fraction_of m)
below_is (integer ds) = refl
below_is (pointed ds fs) = refl
below_is (fraction fs) = refl

-- the exact value is read
pub value_read : (m : Mantissa) (e : Exponent) (n : ℕ) → IsMantissa m → n * (at_exponent (mantissa_value m) e).below ≡ (at_exponent (mantissa_value m) e).above → scaled (whole_of m) (fraction_of m) (power_value e) ≡ Some n
unfolding scaled
value_read m none n i h = up_read (whole_of m) (fraction_of m) 0 n (are_digits m i).1 (ap (λ b. n * b) (sym (below_is m)) ∙ h ∙ above_is m ∙ sym (mul-one (digits_value 10 (whole_of m ++ fraction_of m))))
value_read m (power x minus ds) n i h = down_read (whole_of m) (fraction_of m) (digits_value 10 ds) n (are_digits m i).0 (are_digits m i).1 (ap (λ b. n * (b * 10 ^ digits_value 10 ds)) (sym (below_is m)) ∙ h ∙ above_is m)
value_read m (power x plus ds) n i h = up_read (whole_of m) (fraction_of m) (digits_value 10 ds) n (are_digits m i).1 (ap (λ b. n * b) (sym (below_is m)) ∙ h ∙ ap (λ v. v * 10 ^ digits_value 10 ds) (above_is m))
value_read m (power x unsigned ds) n i h = up_read (whole_of m) (fraction_of m) (digits_value 10 ds) n (are_digits m i).1 (ap (λ b. n * b) (sym (below_is m)) ∙ h ∙ ap (λ v. v * 10 ^ digits_value 10 ds) (above_is m))

-- what a mantissa with an exponent comes to
abbrev pub scaled_value : Mantissa → Exponent → Spelled
scaled_value m e = integer_if (scaled (whole_of m) (fraction_of m) (power_value e))

-- a decimal number is read
decimal_read : (m : Mantissa) (e : Exponent) (us : List ℕ) → IsMantissa m → IsExponent e → AreBlank us → decimal_of (spelled_mantissa m ++ (spelled_exponent e ++ us)) ≡ scaled_value m e
unfolding with_exponent scaled_where
decimal_read m e us i j b =
    mantissa_read m (spelled_exponent e ++ us) i (exponent_tail e us j b) ∙ cond-false (length (whole_of m) == 0 && length (fraction_of m) == 0) NoLiteral (scaled_where (whole_of m) (fraction_of m) (exponent_of (spelled_exponent e ++ us))) (has_digit m i) ∙ ap (scaled_where (whole_of m) (fraction_of m)) (exponent_read e us j b)

-- the word Infinity is read
infinity_read : (us : List ℕ) → AreBlank us → decimal_of (infinity_word ++ us) ≡ NoInteger
unfolding decimal_of is_infinity
infinity_read us b = ap (λ t. if t then NoInteger else with_fraction (take (digit_count 10 (infinity_word ++ us)) (infinity_word ++ us)) (drop (digit_count 10 (infinity_word ++ us)) (infinity_word ++ us))) b

-- a unit that begins a number without a sign
IsPlain : ℕ → Type 0
IsPlain u = (is_blank u ≡ false) × ((u == 45) ≡ false) × ((u == 43) ≡ false)

-- a digit begins a number
digit_plain : (u : ℕ) → digit_value u < 10 → IsPlain u
unfolding IsPlain
digit_plain u h =
    let t : is_digit u 10 ≡ true = lt-ltb (digit_value u) 10 h in
    (digit_no_blank u 10 (omega arith) t, differs (λ x. is_digit x 10) u 45 t refl, differs (λ x. is_digit x 10) u 43 t refl)

-- a point begins a number
point_plain : IsPlain 46
unfolding IsPlain
point_plain = (refl, refl, refl)

-- no blank is left out in front of it
number_at : (u : ℕ) (us : List ℕ) → is_blank u ≡ false → number_of_text (u ∷ us) ≡ number_behind_blanks (u ∷ us)
unfolding number_of_text
number_at u us h = ap number_behind_blanks (cond-false (is_blank u) (after_blanks us) (u ∷ us) h)

-- `0x` begins no decimal number
hex_none : (x : ℕ) (us : List ℕ) → (x ≡ 120) ⊎ (x ≡ 88) → decimal_of (48 ∷ x ∷ us) ≡ NoLiteral
unfolding decimal_of is_infinity with_fraction with_exponent scaled_where exponent_of
hex_none x us h = ⊎_elim (λ e. subst (λ y. decimal_of (48 ∷ y ∷ us) ≡ NoLiteral) (sym e) refl) (λ e. subst (λ y. decimal_of (48 ∷ y ∷ us) ≡ NoLiteral) (sym e) refl) h

-- the test for a hexadecimal number
unfoldable pub hex_test : ℕ → ℕ → Bool
hex_test u x = u == 48 && (x == 120 || x == 88)

-- the units that pass it
pub hex_units : (u x : ℕ) → hex_test u x ≡ true → (u ≡ 48) × ((x ≡ 120) ⊎ (x ≡ 88))
unfolding hex_test
hex_units u x h =
    let p = and_parts (u == 48) (x == 120 || x == 88) h in
    (eqb-true u 48 p.0, ⊎_elim (λ e. inl (eqb-true x 120 e)) (λ e. inr (eqb-true x 88 e)) (or_cases (x == 120) (x == 88) p.1))

-- a decimal number by that test
decimal_first : (b : Bool) (u x : ℕ) (us : List ℕ) → hex_test u x ≡ b → (decimal_of (u ∷ x ∷ us) ≡ NoLiteral → ⊥) → unsigned_of (u ∷ x ∷ us) ≡ decimal_of (u ∷ x ∷ us)
unfolding unsigned_of hex_test
decimal_first false u x us t some = cond-false (u == 48 && (x == 120 || x == 88)) (hexadecimal_of us) (decimal_of (u ∷ x ∷ us)) t
decimal_first true u x us t some =
    let p = hex_units u x t in
    absurd (some (ap (λ y. decimal_of (y ∷ x ∷ us)) p.0 ∙ hex_none x us p.1))

-- a decimal number is read as a number without a sign
unsigned_is : (us : List ℕ) → (decimal_of us ≡ NoLiteral → ⊥) → unsigned_of us ≡ decimal_of us
unfolding unsigned_of
unsigned_is [] some = refl
unsigned_is (u ∷ []) some = refl
unsigned_is (u ∷ x ∷ us) some = decimal_first (hex_test u x) u x us refl some

-- an integer, and where there is none, is what a literal comes to
some_scaled : (o : Option ℕ) → integer_if o ≡ NoLiteral → ⊥
some_scaled None e = cc e
some_scaled (Some n) e = cc e

-- and as a text
unsigned_at : (u : ℕ) (us : List ℕ) → IsPlain u → (decimal_of (u ∷ us) ≡ NoLiteral → ⊥) → number_of_text (u ∷ us) ≡ number_spelled false (decimal_of (u ∷ us))
unfolding IsPlain number_behind_blanks
unsigned_at u us p some =
    number_at u us p.0 ∙ cond-false (u == 45) (number_spelled true (decimal_of us)) (if u == 43 then number_spelled false (decimal_of us) else number_spelled false (unsigned_of (u ∷ us))) p.1 ∙ cond-false (u == 43) (number_spelled false (decimal_of us)) (number_spelled false (unsigned_of (u ∷ us))) p.2 ∙ ap (number_spelled false) (unsigned_is (u ∷ us) some)

-- a mantissa begins a text so
unsigned_read : (m : Mantissa) (us : List ℕ) → IsMantissa m → (decimal_of (spelled_mantissa m ++ us) ≡ NoLiteral → ⊥) → number_of_text (spelled_mantissa m ++ us) ≡ number_spelled false (decimal_of (spelled_mantissa m ++ us))
unsigned_read (integer []) us i e = absurd (omega arith)
unsigned_read (integer (d ∷ ds)) us i e = unsigned_at d (ds ++ us) (digit_plain d i.1.0) e
unsigned_read (pointed [] fs) us i e = absurd (omega arith)
unsigned_read (pointed (d ∷ ds) fs) us i e = unsigned_at d ((ds ++ 46 ∷ fs) ++ us) (digit_plain d i.0.1.0) e
unsigned_read (fraction fs) us i e = unsigned_at 46 (fs ++ us) point_plain e

-- a text that begins with `0x`
hex_at : (x : ℕ) (us : List ℕ) → (x ≡ 120) ⊎ (x ≡ 88) → number_of_text (48 ∷ x ∷ us) ≡ number_spelled false (hexadecimal_of us)
unfolding number_of_text number_behind_blanks unsigned_of
hex_at x us h = ⊎_elim (λ e. subst (λ y. number_of_text (48 ∷ y ∷ us) ≡ number_spelled false (hexadecimal_of us)) (sym e) refl) (λ e. subst (λ y. number_of_text (48 ∷ y ∷ us) ≡ number_spelled false (hexadecimal_of us)) (sym e) refl) h

-- a hexadecimal number is read
hex_read : (ds us : List ℕ) → AreDigits 16 ds → AreBlank us → hexadecimal_of (ds ++ us) ≡ Integer (digits_value 16 ds)
unfolding hexadecimal_of
hex_read ds us a b = ap hexadecimal_if (lone_is 16 ds us (omega arith) a b)

-- a text that begins with a sign
sign_at : (us : List ℕ) → (number_of_text (45 ∷ us) ≡ number_spelled true (decimal_of us)) × (number_of_text (43 ∷ us) ≡ number_spelled false (decimal_of us))
unfolding number_of_text number_behind_blanks
sign_at us = (refl, refl)

-- the number that a literal is, or none where its value is no integer of the profile
abbrev pub is_minus : Sign → Bool
is_minus minus = true
is_minus plus = false
is_minus unsigned = false

abbrev pub literal_number : Literal → Result Num LeftNumbers
literal_number empty = Ok (Int (pos 0))
literal_number (hexadecimal x ds) = number (pos (digits_value 16 ds))
literal_number (decimal s m e) = number_spelled (is_minus s) (scaled_value m e)
literal_number (infinity s) = Err (record {})

-- a decimal number behind its sign
decimal_parts : (m : Mantissa) (e : Exponent) (us : List ℕ) → IsMantissa m → IsExponent e → AreBlank us → decimal_of ((spelled_mantissa m ++ spelled_exponent e) ++ us) ≡ scaled_value m e
decimal_parts m e us i j b = ap decimal_of (append_assoc (spelled_mantissa m) (spelled_exponent e) us) ∙ decimal_read m e us i j b

-- a literal is read so
literal_read : (l : Literal) (us : List ℕ) → IsLiteral l → AreBlank us → number_of_text (spelling l ++ us) ≡ literal_number l
unfolding number_of_text number_behind_blanks unsigned_of
literal_read empty us i b = ap number_behind_blanks (only_blanks us b)
literal_read (hexadecimal x ds) us i b = hex_at x (ds ++ us) i.0 ∙ ap (number_spelled false) (hex_read ds us i.1 b)
literal_read (decimal minus m e) us i b = (sign_at ((spelled_mantissa m ++ spelled_exponent e) ++ us)).0 ∙ ap (number_spelled true) (decimal_parts m e us i.0 i.1 b)
literal_read (decimal plus m e) us i b = (sign_at ((spelled_mantissa m ++ spelled_exponent e) ++ us)).1 ∙ ap (number_spelled false) (decimal_parts m e us i.0 i.1 b)
literal_read (decimal unsigned m e) us i b =
    let d = decimal_read m e us i.0 i.1 b in
    ap number_of_text (append_assoc (spelled_mantissa m) (spelled_exponent e) us) ∙ unsigned_read m (spelled_exponent e ++ us) i.0 (λ n. some_scaled (scaled (whole_of m) (fraction_of m) (power_value e)) (sym d ∙ n)) ∙ ap (number_spelled false) d
literal_read (infinity minus) us i b = ap (number_spelled true) (infinity_read us b)
literal_read (infinity plus) us i b = ap (number_spelled false) (infinity_read us b)
literal_read (infinity unsigned) us i b = ap (number_spelled false) (infinity_read us b)

-- blanks in front change nothing
skipped : (bs us : List ℕ) → AreBlank bs → number_of_text (bs ++ us) ≡ number_of_text us
unfolding number_of_text
skipped bs us b = ap number_behind_blanks (skip_blanks bs us b)

-- a text that spells a literal is read as that literal's number
pub spelled_read : (text : List ℕ) (l : Literal) → SpellsLiteral text l → number_of_text text ≡ literal_number l
spelled_read text l s = ap number_of_text s.spelled ∙ skipped s.before (spelling l ++ s.after) s.blank_before ∙ literal_read l s.after s.is_literal s.blank_after
