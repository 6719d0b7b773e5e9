-- The keys that are array indices are those that are read as one.
use Rattle.std.proofs.Common.{◌≡◌, ℕ, suc, ◌+◌, ◌-◌, ◌*◌, ◌<◌, ◌≤◌, ◌==◌, nat_lt, Bool, true, false, List, [], ◌∷◌, length, take, drop, take_all, get_or, Option, Some, None, IfSome, zero, refl, sym, ap, subst, ◌∙◌, arith, tests, if◌then◌else◌}
use Rattle.std.specs.Char.{digit_value}
use Rattle.std.specs.Str.Parse.{AllDigits, digits_value, digits_value_after}
use Rattle.std.specs.Fmt.{decimal}
use Rattle.std.proofs.lemmas.Str.{digit_value_digit}
use Rattle.std.proofs.lemmas.Str.Parse.{digit_from_value, IsNumeralModel}
use Rattle.std.proofs.lemmas.Fmt.{decimal_is_IsNumeral, decimal-digits_value, decimal_digit, first_decimal}
use Rattle.std.proofs.lemmas.Bool.{cond-true, cond-false, ne_eqb, lt-ltb, true≢false}
use Rattle.std.proofs.lemmas.Option.{none-some, same_Some}
use Rattle.js_number.proofs.DigitValues.{value_grows}
use Rattle.js_values.specs.Indices.{IsArrayIndex}
use Rattle.js_values.specs.Numerals.{digit, with_digit, value_after, index_of}

-- ---- the loop

-- all behind the first
rest_all : (units : List ℕ) → take (suc (length units) - 1) units ≡ units
rest_all units = take_all (suc (length units) - 1) units (omega arith)

-- the first unit is read, and then the others
first_read : (value : ℕ) (units : List ℕ) → 1 ≤ length units → value_after value units ≡ with_digit value (digit (get_or units 0 0)) (λ next. value_after next (take (length units - 1) (drop 1 units)))
unfolding value_after
first_read value [] some = absurd (omega arith)
first_read value (unit ∷ units) some = ap (λ rest. with_digit value (digit unit) (λ next. value_after next rest)) (sym (rest_all units))

pub reads_no_digit : (value : ℕ) (units : List ℕ) → 1 ≤ length units → digit (get_or units 0 0) ≡ None → value_after value units ≡ None
reads_no_digit value units some e = first_read value units some ∙ ap (λ d. with_digit value d (λ next. value_after next (take (length units - 1) (drop 1 units)))) e

pub reads_too_much : (value d : ℕ) (units : List ℕ) → 1 ≤ length units → digit (get_or units 0 0) ≡ Some d → 4294967295 ≤ value * 10 + d → value_after value units ≡ None
reads_too_much value d units some e large =
    first_read value units some ∙ ap (λ d. with_digit value d (λ next. value_after next (take (length units - 1) (drop 1 units)))) e
    ∙ grind (arith, tests)

pub reads_on : (value d : ℕ) (units : List ℕ) → 1 ≤ length units → digit (get_or units 0 0) ≡ Some d → value * 10 + d < 4294967295 → value_after (value * 10 + d) (take (length units - 1) (drop 1 units)) ≡ value_after value units
reads_on value d units some e small =
    sym (first_read value units some ∙ ap (λ d. with_digit value d (λ next. value_after next (take (length units - 1) (drop 1 units)))) e
    ∙ grind (arith, tests))

pub reads_end : (value : ℕ) (units : List ℕ) → length units < 1 → value_after value units ≡ Some value
unfolding value_after
reads_end value [] none = refl
reads_end value (unit ∷ units) none = absurd (omega arith)

-- ---- what is read, against what is written

decimals : IsNumeralModel (AllDigits 10) (digits_value 10)
decimals = record { to = λ ds d. d; from = λ ds d. d; same = λ ds d. refl }

digit_is : (unit d : ℕ) → digit unit ≡ Some d → (digit_value unit ≡ d) × (digit_value unit < 10)
digit_is unit d e = grind (arith, tests)

digit_reads : (unit : ℕ) → digit_value unit < 10 → digit unit ≡ Some (digit_value unit)
digit_reads unit small = let range = digit_from_value unit small in let same = digit_value_digit unit range in grind (arith, tests)

-- digits were read, and their value is small
record Reads (value : ℕ) (units : List ℕ) (n : ℕ) : Type 0 where
  digits : AllDigits 10 units
  same : digits_value_after 10 value units ≡ n
  small : n < 4294967295

-- what is read behind the first unit
abbrev ReadsOn : List ℕ → ℕ → Type 0
ReadsOn units n = (value : ℕ) → value < 4294967295 → value_after value units ≡ Some n → Reads value units n

reads_below : (value unit : ℕ) (units : List ℕ) (n d : ℕ) → ReadsOn units n → (test : Bool) → digit unit ≡ Some d → nat_lt (value * 10 + d) 4294967295 ≡ test → (if test then value_after (value * 10 + d) units else None) ≡ Some n → Reads value (unit ∷ units) n
reads_below value unit units n d more false is below e = absurd (none-some n e)
reads_below value unit units n d more true is below e =
    let here = digit_is unit d is in
    let rest = more (value * 10 + d) (grind (arith, tests)) e in
    record { digits = (here.1, rest.digits); same = ap (λ x. digits_value_after 10 (value * 10 + x) units) here.0 ∙ rest.same; small = rest.small }

reads_digit : (value unit : ℕ) (units : List ℕ) (n : ℕ) → ReadsOn units n → (d : Option ℕ) → digit unit ≡ d → with_digit value d (λ next. value_after next units) ≡ Some n → Reads value (unit ∷ units) n
reads_digit value unit units n more None is e = absurd (none-some n e)
reads_digit value unit units n more (Some d) is e = reads_below value unit units n d more (nat_lt (value * 10 + d) 4294967295) is refl e

reads_only : (units : List ℕ) (n : ℕ) → ReadsOn units n
unfolding value_after
reads_only [] n value small e = record { digits = tt; same = same_Some value n e; small = subst (λ m. m < 4294967295) (same_Some value n e) small }
reads_only (unit ∷ units) n value small e = reads_digit value unit units n (reads_only units n) (digit unit) refl e

-- digits whose value is small are read
reads_all : (value : ℕ) (units : List ℕ) → AllDigits 10 units → digits_value_after 10 value units < 4294967295 → value_after value units ≡ Some (digits_value_after 10 value units)
unfolding value_after
reads_all value [] digits small = refl
reads_all value (unit ∷ units) digits small =
    let next = value * 10 + digit_value unit in
    let grows = value_grows 10 next units (omega arith) in
    let below : next < 4294967295 = omega (arith, grows, small) in
    ap (λ d. with_digit value d (λ n. value_after n units)) (digit_reads unit digits.0)
    ∙ cond-true (nat_lt next 4294967295) (value_after next units) None (lt-ltb next 4294967295 below)
    ∙ reads_all next units digits.1 small

index_from : (units : List ℕ) (n : ℕ) → Reads 0 units n → 0 < length units → (get_or units 0 0 ≡ 48 → length units ≡ 1) → IsArrayIndex units n
index_from units n reads some alone =
    record { text = sym (ap decimal (sym reads.same) ∙ decimal-digits_value decimals units reads.digits some alone (omega (arith, reads.same, reads.small))); below = reads.small }

-- what is read as an array index is one
pub index_is : (units : List ℕ) (n : ℕ) → index_of units ≡ Some n → IsArrayIndex units n
unfolding index_of
index_is [] n e = absurd (none-some n e)
index_is (unit ∷ []) n e = index_from (unit ∷ []) n (reads_only (unit ∷ []) n 0 (omega arith) e) (omega arith) (λ _. refl)
index_is (unit ∷ next ∷ units) n e = index_behind unit next units n (unit == 48) refl e
  where
    index_behind : (unit next : ℕ) (units : List ℕ) (n : ℕ) (zero_first : Bool) → (unit == 48) ≡ zero_first → (if zero_first then None else value_after 0 (unit ∷ next ∷ units)) ≡ Some n → IsArrayIndex (unit ∷ next ∷ units) n
    index_behind unit next units n true first e = absurd (none-some n e)
    index_behind unit next units n false first e = index_from (unit ∷ next ∷ units) n (reads_only (unit ∷ next ∷ units) n 0 (omega arith) e) (omega arith) (λ is. absurd (true≢false (sym (ap (λ u. u == 48) is) ∙ first)))

-- the digits of a numeral, with no 0 in front of others, are read
index_reads : (units : List ℕ) → AllDigits 10 units → 0 < length units → (get_or units 0 0 ≡ 48 → length units ≡ 1) → digits_value 10 units < 4294967295 → index_of units ≡ Some (digits_value 10 units)
unfolding index_of
index_reads [] digits some alone small = absurd (omega arith)
index_reads (unit ∷ []) digits some alone small = reads_all 0 (unit ∷ []) digits small
index_reads (unit ∷ next ∷ units) digits some alone small =
    cond-false (unit == 48) None (value_after 0 (unit ∷ next ∷ units)) (ne_eqb unit 48 (λ is. omega (arith, alone is)))
    ∙ reads_all 0 (unit ∷ next ∷ units) digits small

-- a decimal text of more than one digit doesn't begin with 0
decimal_alone : (n : ℕ) → n < 4294967295 → get_or (decimal n) 0 0 ≡ 48 → length (decimal n) ≡ 1
decimal_alone zero small first = ap length (decimal_digit 0 (omega arith))
decimal_alone (suc n) small first = absurd (omega (arith, first_decimal (suc n) (omega arith) (omega arith)))

decimal_reads : (n : ℕ) → n < 4294967295 → index_of (decimal n) ≡ Some n
decimal_reads n small =
    let numeral = decimal_is_IsNumeral n (omega arith) in
    index_reads (decimal n) numeral.0.1 numeral.0.0 (decimal_alone n small) (omega (arith, numeral.1)) ∙ ap Some numeral.1

-- an array index is read as one
pub is_index : (units : List ℕ) (n : ℕ) → IsArrayIndex units n → index_of units ≡ Some n
is_index units n index = ap index_of index.text ∙ decimal_reads n index.below

pub some_index : (units : List ℕ) (r : Option ℕ) → r ≡ index_of units → IfSome r (IsArrayIndex units)
some_index units None e = tt
some_index units (Some n) e = index_is units n (sym e)
