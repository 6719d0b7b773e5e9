-- Decimal digits, as the definition and as std reads them.
use Rattle.std.proofs.Common.{◌≡◌, ◌∙◌, ◌<◌, ◌≤◌, ◌+◌, ◌^◌, ◌&&◌, ℕ, Bool, cond, true, false, refl, sym, ap, subst, arith, [], ◌∷◌, length, drop, Option, Some, None, Result, Ok, Err, is_some, unwrap_or, true≢false, nat_le, leb-true, ne_eqb, zero-lt-suc}
use Rattle.std.specs.Prelude.{◌==◌}
use Rattle.std.specs.List.{list_all}
use Rattle.std.specs.Char.{digit_value}
use Rattle.std.specs.Str.Parse.{AllDigits, IsNumeral, ParsesUnsigned, digits_value, without_leading_plus}
use Rattle.std.proofs.Math.Nat.{pow-le-pow_right}
use Rattle.std.proofs.lemmas.Str.{digit_value_digit}
use Rattle.std.proofs.lemmas.Int.Digits.{digits_value-lt}
use Rattle.clap.proofs.WalkLemmas.{both}
use Rattle.command_line.specs.Commands.{Word, is_digit, is_number, number_to}

digit_bounds : (d : ℕ) → is_digit d ≡ true → (48 ≤ d) × (d ≤ 57)
digit_bounds d e =
    let parts = both (nat_le 48 d) (nat_le d 57) e in
    (leb-true 48 d parts.0, leb-true d 57 parts.1)

all_digits : (word : Word) → list_all is_digit word ≡ true → AllDigits 10 word
all_digits [] e = tt
all_digits (d ∷ word) e =
    let parts = both (is_digit d) (list_all is_digit word) e in
    let bounds = digit_bounds d parts.0 in
    let value : digit_value d + 48 ≡ d = digit_value_digit d (bounds.0, bounds.1) in
    let below : d ≤ 57 = bounds.1 in
    let small : digit_value d < 10 = omega arith in
    (small, all_digits word parts.1)

no_plus : (word : Word) → list_all is_digit word ≡ true → without_leading_plus word ≡ word
no_plus [] e = refl
no_plus (d ∷ word) e =
    let low : 48 ≤ d = (digit_bounds d (both (is_digit d) (list_all is_digit word) e).0).0 in
    let other : (d == 43) ≡ false = ne_eqb d 43 (λ h. omega arith) in
    ap (λ (b : Bool). drop (cond b 1 0) (d ∷ word)) other

-- what std reads of a number
abbrev pub IsRead : {E : Type 0} → Word → Result ℕ E → Type 0
IsRead word (Ok n) = n ≡ digits_value 10 word
IsRead word (Err e) = ⊥

pub parsed_number : {E : Type 0} (word : Word) (r : Result ℕ E) → is_number word ≡ true → ParsesUnsigned 64 10 word r → IsRead word r
parsed_number {E} word r e parses =
    let whole = both (nat_le 1 (length word) && nat_le (length word) 10) (list_all is_digit word) e in
    let sizes = both (nat_le 1 (length word)) (nat_le (length word) 10) whole.0 in
    go r (leb-true 1 (length word) sizes.0) (leb-true (length word) 10 sizes.1) (all_digits word whole.1) (no_plus word whole.1) parses
  where
    go : (x : Result ℕ E) → 1 ≤ length word → length word ≤ 10 → AllDigits 10 word → without_leading_plus word ≡ word → ParsesUnsigned 64 10 word x → IsRead word x
    go (Ok n) some short digits plain h = h.1 ∙ ap (digits_value 10) plain
    go (Err x) some short digits plain h =
        let value : digits_value 10 word < 10 ^ length word = digits_value-lt 10 word digits in
        let power : 10 ^ length word ≤ 10 ^ 10 = pow-le-pow_right (zero-lt-suc 9) short in
        let small : digits_value 10 word < 2 ^ 64 = omega arith in
        h (subst (λ w. IsNumeral 10 w) (sym plain) (some, digits), subst (λ w. digits_value 10 w < 2 ^ 64) (sym plain) small)

-- a number that was read is within its bound
pub number_within : (most : ℕ) (word : Word) (n : ℕ) → number_to most word ≡ Some n → n ≤ most
unfolding number_to
number_within most word n e = go (is_number word && nat_le 1 (digits_value 10 word) && nat_le (digits_value 10 word) most) refl e
  where
    go : (b : Bool) → (is_number word && nat_le 1 (digits_value 10 word) && nat_le (digits_value 10 word) most) ≡ b → cond b (Some (digits_value 10 word)) None ≡ Some n → n ≤ most
    go true e h =
        let within = both (is_number word && nat_le 1 (digits_value 10 word)) (nat_le (digits_value 10 word) most) e in
        subst (λ x. x ≤ most) (ap (λ (o : Option ℕ). unwrap_or o 0) h) (leb-true (digits_value 10 word) most within.1)
    go false e h = absurd (true≢false (sym (ap is_some h)))
