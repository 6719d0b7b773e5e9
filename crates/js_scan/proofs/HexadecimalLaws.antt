-- Hexadecimal digits that are read are digits, and all that stand there are read.
use Rattle.std.proofs.Common.{◌≡◌, ℕ, suc, ◌+◌, ◌-◌, ◌*◌, ◌^◌, ◌≤◌, ◌<◌, Bool, true, false, ◌&&◌, nat_le, Some, None, List, [], ◌∷◌, length, take, get_or, refl, sym, ap, subst, ◌∙◌, arith, if◌then◌else◌}
use Rattle.std.specs.List.{list_all, slice_range}
use Rattle.std.specs.Char.{is_digit, digit_value}
use Rattle.std.specs.Str.Parse.{digits_value, AllDigits}
use Rattle.std.proofs.lemmas.Bool.{cond-true, leb-true, le-leb, and_parts, and_from, ltb-true, lt-ltb}
use Rattle.std.proofs.lemmas.List.{take_all, length-take, length-take-le}
use Rattle.std.proofs.lemmas.Int.Digits.{digits_value-lt, digits_more, digits_value_more}
use Rattle.std.proofs.Math.Nat.{pow-le-pow_right}
use Rattle.js_scan.specs.Names.{AreHex}
use Rattle.js_scan.specs.Hexadecimal.{begins_with_hexadecimal, hexadecimal_value}

-- units that pass the test are digits
digits_from_test : (ds : List ℕ) → list_all (λ u. is_digit u 16) ds ≡ true → AllDigits 16 ds
digits_from_test [] h = tt
digits_from_test (d ∷ ds) h =
    let parts = and_parts (is_digit d 16) (list_all (λ u. is_digit u 16) ds) h in
    (ltb-true (digit_value d) 16 parts.0, digits_from_test ds parts.1)

-- digits pass the test
test_from_digits : (ds : List ℕ) → AllDigits 16 ds → list_all (λ u. is_digit u 16) ds ≡ true
test_from_digits [] a = refl
test_from_digits (d ∷ ds) a = and_from (is_digit d 16) (list_all (λ u. is_digit u 16) ds) (lt-ltb (digit_value d) 16 a.0) (test_from_digits ds a.1)

-- so many units that pass the test are so many digits
pub hexadecimal_from_test : (count : ℕ) (us : List ℕ) → begins_with_hexadecimal count us ≡ true → AreHex count (take count us)
hexadecimal_from_test count us h =
    let parts = and_parts (nat_le count (length us)) (list_all (λ u. is_digit u 16) (take count us)) h in
    (length-take-le count us (leb-true count (length us) parts.0), digits_from_test (take count us) parts.1)

-- so many digits pass the test
pub test_from_hexadecimal : (count : ℕ) (us : List ℕ) → AreHex count (take count us) → begins_with_hexadecimal count us ≡ true
test_from_hexadecimal count us are =
    let within : count ≤ length us = omega (arith, length-take count us, are.0) in
    and_from (nat_le count (length us)) (list_all (λ u. is_digit u 16) (take count us)) (le-leb count (length us) within) (test_from_digits (take count us) are.1)

-- the digits read so far write a small number
pub hexadecimal_below : (ds : List ℕ) (i k : ℕ) → i ≤ k → AllDigits 16 (take i ds) → digits_value 16 (take i ds) < 16 ^ k
hexadecimal_below ds i k h are =
    let n : length (take i ds) ≤ k = omega (arith, length-take i ds) in
    let larger : 16 ^ length (take i ds) ≤ 16 ^ k = pow-le-pow_right (omega arith) n in
    omega (arith, digits_value-lt 16 (take i ds) are, larger)

-- one more, where its value was found
found_at : (b : Bool) (d value : ℕ) → Some d ≡ (if b then Some value else None) → (b ≡ true) × (d ≡ value)
found_at true d value e = (refl, cc)
found_at false d value e = absurd cc

pub hexadecimal_more : (ds : List ℕ) (i d : ℕ) → i < length ds → AllDigits 16 (take i ds) → Some d ≡ (if is_digit (get_or ds i 0) 16 then Some (digit_value (get_or ds i 0)) else None)
    → AllDigits 16 (take (i + 1) ds) × (digits_value 16 (take i ds) * 16 + d ≡ digits_value 16 (take (i + 1) ds))
hexadecimal_more ds i d h are e =
    let found = found_at (is_digit (get_or ds i 0) 16) d (digit_value (get_or ds i 0)) e in
    (digits_more 16 ds i h are (ltb-true (digit_value (get_or ds i 0)) 16 found.0), rw found.1 (sym (digits_value_more 16 ds i h)))

-- all of them
pub hexadecimal_all : (count : ℕ) (us ds : List ℕ) (i : ℕ) → count ≤ length us → ds ≡ slice_range us 0 count → length ds ≤ i → AllDigits 16 (take i ds) → Some (digits_value 16 (take i ds)) ≡ hexadecimal_value count us
unfolding hexadecimal_value
hexadecimal_all count us ds i within e h are =
    let all : count - 0 ≡ count = omega arith in
    let whole : take i ds ≡ take count us = take_all i ds h ∙ e ∙ ap (λ n. take n us) all in
    let hex : AreHex count (take count us) = (length-take-le count us within, subst (λ xs. AllDigits 16 xs) whole are) in
    ap (λ xs. Some (digits_value 16 xs)) whole ∙ sym (cond-true (begins_with_hexadecimal count us) (Some (digits_value 16 (take count us))) None (test_from_hexadecimal count us hex))
