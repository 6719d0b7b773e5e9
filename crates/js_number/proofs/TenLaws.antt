-- In radix 10 the digits are those of ToString.
use Rattle.std.proofs.Common.{◌≡◌, ℕ, zero, suc, ◌+◌, ◌<◌, ◌^◌, cond, List, [], ◌∷◌, ◌++◌, map, ℤ, pos, negsuc, unsigned_abs, Result, Ok, Err, IfOk, refl, sym, ap, ap₂, ◌∙◌, arith, le-ltb, lt-ltb, ne_eqb}
use Rattle.std.specs.Char.{digit_char}
use Rattle.std.specs.Fmt.{decimal, digits, signed_decimal}
use Rattle.std.specs.Int.Digits.{digits_of, AllBelowBase}
use Rattle.std.proofs.lemmas.Fmt.{decimal-digits_of}
use Rattle.std.proofs.lemmas.Int.Digits.{all_below_base_digits_of}
use Rattle.js_number.specs.Radix.{numeral, sign_of}

ten_chars : (ds : List ℕ) → AllBelowBase 10 ds → map digit_char ds ≡ map (λ d. 48 + d) ds
ten_chars [] below = refl
ten_chars (d ∷ ds) below = ap₂ (λ x xs. x ∷ xs) (ap (λ t. cond t (48 + d) (87 + d)) (lt-ltb d 10 below.0)) (ten_chars ds below.1)

ten_digits : (n : ℕ) → n < 2 ^ 64 → numeral 10 n ≡ decimal n
unfolding numeral digits
ten_digits zero h = refl
ten_digits (suc m) h =
    ap (λ t. cond t (48 ∷ []) (map digit_char (digits_of 10 (suc m)))) (ne_eqb (suc m) 0 (λ e. omega arith))
    ∙ ten_chars (digits_of 10 (suc m)) (all_below_base_digits_of 10 (suc m) (omega arith))
    ∙ sym (decimal-digits_of (suc m) (omega arith) h)

ten_is : (n : ℤ) → unsigned_abs n < 2 ^ 64 → sign_of n ++ numeral 10 (unsigned_abs n) ≡ signed_decimal n
ten_is (pos n) h = ap (λ t. cond t (45 ∷ []) [] ++ numeral 10 n) (le-ltb n 0 (omega arith)) ∙ ten_digits n h
ten_is (negsuc n) h = ap (λ ds. 45 ∷ ds) (ten_digits (suc n) h)

pub ten : {E : Type 0} (radix : ℕ) (n : ℤ) (r : Result (List ℕ) E) → unsigned_abs n < 2 ^ 64 → radix ≡ 10 → IfOk r (λ text. text ≡ sign_of n ++ numeral radix (unsigned_abs n)) → IfOk r (λ text. text ≡ signed_decimal n)
ten radix n (Ok text) h e k = k ∙ ap (λ b. sign_of n ++ numeral b (unsigned_abs n)) e ∙ ten_is n h
ten radix n (Err x) h e k = tt
