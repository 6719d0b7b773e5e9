-- Digits of a number in a radix, and blanks that stand last.
use Rattle.std.proofs.Common.{◌≡◌, ℕ, zero, suc, ◌+◌, ◌-◌, ◌*◌, ◌/◌, ◌%◌, ◌<◌, ◌≤◌, Bool, true, false, cond, eqb, ltb, List, [], ◌∷◌, ◌++◌, map, length, get_or, take, ℤ, unsigned_abs, Result, Ok, Err, IfOk, OnOk, ◌⊎◌, inl, inr, refl, sym, ap, subst, ◌∙◌, arith, append_assoc}
use Rattle.std.specs.Char.{digit_value, digit_char}
use Rattle.std.specs.Int.Digits.{digits_of, AllBelowBase, number_from_digits}
use Rattle.std.specs.List.{list_all, suffix_len}
use Rattle.std.specs.Str.Parse.{digits_value, AllDigits}
use Rattle.std.proofs.lemmas.Bool.{eqb-true, eqb-false, ne_eqb, and_from, or_left, or_right, lt-ltb, ltb-true, ltb-false}
use Rattle.std.proofs.lemmas.Bool.Decides.{nat_tests}
use Rattle.std.proofs.lemmas.Int.Digits.{digits_of_step, length-digits_of_step, first_digits_of, all_below_base_digits_of, number_digits_of, digits_value_is}
use Rattle.std.proofs.lemmas.List.{length-map, map-append}
use Rattle.std.proofs.lemmas.List.Sums.{suffix_len-take_yes, suffix_len-take_no}
use Rattle.std.proofs.lemmas.Nat.{le-div, div_below, div-add-mod'}
use Rattle.js_number.specs.Literal.{is_blank, AreDigits}
use Rattle.js_number.specs.declared.num.Num.{Num}
use Rattle.js_number.specs.declared.num.Num.TheVariants.{Int}
use Rattle.js_number.specs.Radix.{numeral, sign_of, text_in_radix, first_is_zero, is_small, SpellsInRadix, without_blanks_behind}

-- ---- a number's digits are those of its quotient, and its remainder

numeral_some : (radix n : ℕ) → 0 < n → numeral radix n ≡ map digit_char (digits_of radix n)
unfolding numeral
numeral_some radix n h = ap (λ t. cond t (48 ∷ []) (map digit_char (digits_of radix n))) (ne_eqb n 0 (λ e. omega arith))

pub numeral_step : (radix n : ℕ) → 2 ≤ radix → radix ≤ n → numeral radix n ≡ numeral radix (n / radix) ++ digit_char (n % radix) ∷ []
numeral_step radix n two h =
    let some : 0 < n / radix = omega (arith, le-div 1 n radix (omega arith) (omega arith)) in
    numeral_some radix n (omega arith)
    ∙ ap (map digit_char) (digits_of_step radix n two (omega arith))
    ∙ map-append digit_char (digits_of radix (n / radix)) (n % radix ∷ [])
    ∙ ap (λ ds. ds ++ digit_char (n % radix) ∷ []) (sym (numeral_some radix (n / radix) some))

pub numeral_small : (radix n : ℕ) → 2 ≤ radix → n < radix → numeral radix n ≡ digit_char n ∷ []
unfolding numeral
numeral_small radix zero two h = refl
numeral_small radix (suc m) two h =
    let none : suc m / radix ≡ 0 = omega (arith, div_below (suc m) radix 1 (omega arith) (omega arith)) in
    let whole : suc m % radix ≡ suc m = omega (arith, div-add-mod' (suc m) radix, ap (λ x. x * radix) none) in
    numeral_some radix (suc m) (omega arith)
    ∙ ap (map digit_char) (digits_of_step radix (suc m) two (omega arith))
    ∙ ap (λ k. map digit_char (digits_of radix k ++ (suc m % radix ∷ []))) none
    ∙ ap (λ d. digit_char d ∷ []) whole

-- what is written behind a text, digit by digit
pub last_digit : {E : Type 0} (radix n d : ℕ) (before after : List ℕ) (r : Result (Unit {0}) E) → 2 ≤ radix → n < radix → d ≡ digit_char n → OnOk r (after ≡ before ++ d ∷ []) → OnOk r (after ≡ before ++ numeral radix n)
last_digit radix n d before after (Ok u) two h e k = k ∙ ap (λ x. before ++ x ∷ []) e ∙ ap (λ ds. before ++ ds) (sym (numeral_small radix n two h))
last_digit radix n d before after (Err x) two h e k = tt

pub next_digit : {E : Type 0} (radix n d : ℕ) (before between after : List ℕ) (r : Result (Unit {0}) E) → 2 ≤ radix → radix ≤ n → d ≡ digit_char (n % radix) → between ≡ before ++ numeral radix (n / radix) → OnOk r (after ≡ between ++ d ∷ []) → OnOk r (after ≡ before ++ numeral radix n)
next_digit radix n d before between after (Ok u) two h e b k =
    k ∙ ap (λ x. between ++ x ∷ []) e
    ∙ ap (λ ds. ds ++ digit_char (n % radix) ∷ []) b
    ∙ append_assoc before (numeral radix (n / radix)) (digit_char (n % radix) ∷ [])
    ∙ ap (λ ds. before ++ ds) (sym (numeral_step radix n two h))
next_digit radix n d before between after (Err x) two h e b k = tt

-- ---- such digits write the number

value_of_char : (d : ℕ) → d < 36 → digit_value (digit_char d) ≡ d
value_of_char d small = grind (arith, nat_tests)

read_back : (radix : ℕ) (ds : List ℕ) → radix ≤ 36 → AllBelowBase radix ds → (map digit_value (map digit_char ds) ≡ ds) × AllDigits radix (map digit_char ds)
read_back radix [] small below = (refl, tt)
read_back radix (d ∷ ds) small below =
    let here = value_of_char d (omega arith) in
    let later = read_back radix ds small below.1 in
    (λ i. here i ∷ later.0 i, (omega arith, later.1))

small_by : (t : Bool) (d : ℕ) → ltb d 10 ≡ t → d < 36 → is_small (cond t (48 + d) (87 + d)) ≡ true
small_by true d e h = or_left _ _ (lt-ltb (48 + d) 65 (omega (arith, ltb-true d 10 e)))
small_by false d e h = or_right _ _ (lt-ltb 90 (87 + d) (omega (arith, ltb-false d 10 e)))

all_small : (radix : ℕ) (ds : List ℕ) → radix ≤ 36 → AllBelowBase radix ds → list_all is_small (map digit_char ds) ≡ true
all_small radix [] small below = refl
all_small radix (d ∷ ds) small below = and_from _ _ (small_by (ltb d 10) d refl (omega arith)) (all_small radix ds small below.1)

only_zero : (d : ℕ) → 0 < d → digit_char d ≡ 48 → ⊥
only_zero d some e = grind (arith, nat_tests)

not_zero : (ds : List ℕ) → 0 < get_or ds 0 0 → first_is_zero (map digit_char ds) ≡ false
not_zero [] h = refl
not_zero (d ∷ ds) h = ne_eqb (digit_char d) 48 (λ e. only_zero d h e)

record IsNumeral (radix n : ℕ) (ds : List ℕ) : Type 0 where
  are_digits : AreDigits radix ds
  value : digits_value radix ds ≡ n
  shortest : (first_is_zero ds ≡ false) ⊎ (ds ≡ 48 ∷ [])
  small : list_all is_small ds ≡ true

numeral_is : (radix n : ℕ) → 2 ≤ radix → radix ≤ 36 → IsNumeral radix n (numeral radix n)
unfolding numeral
numeral_is radix n low high = by_test (eqb n 0) refl
  where
    by_test : (t : Bool) → eqb n 0 ≡ t → IsNumeral radix n (cond t (48 ∷ []) (map digit_char (digits_of radix n)))
    by_test true is_zero = record { are_digits = (omega arith, (omega arith, tt)); value = omega (arith, eqb-true n 0 is_zero); shortest = inr refl; small = refl }
    by_test false some_number =
        let below = all_below_base_digits_of radix n low in
        let back = read_back radix (digits_of radix n) high below in
        let some : 0 < n = omega (arith, eqb-false n 0 some_number) in
        record {
          are_digits = (omega (arith, length-map (digits_of radix n) digit_char, length-digits_of_step radix n low some), back.1);
          value = digits_value_is radix (map digit_char (digits_of radix n)) ∙ ap (number_from_digits radix) back.0 ∙ number_digits_of radix n low;
          shortest = inl (not_zero (digits_of radix n) (first_digits_of radix n low some));
          small = all_small radix (digits_of radix n) high below;
        }

spells : (radix : ℕ) (n : ℤ) → 2 ≤ radix → radix ≤ 36 → SpellsInRadix radix n (sign_of n ++ numeral radix (unsigned_abs n))
spells radix n low high =
    let is = numeral_is radix (unsigned_abs n) low high in
    record { digits = numeral radix (unsigned_abs n); spelled = refl; are_digits = is.are_digits; value = is.value; shortest = is.shortest; small = is.small }

pub exact : {E : Type 0} (radix : ℕ) (a : Num) (n : ℤ) (r : Result (List ℕ) E) → 2 ≤ radix → radix ≤ 36 → a ≡ Int n → IfOk r (λ text. text ≡ text_in_radix radix a) → IfOk r (λ text. SpellsInRadix radix n text)
exact radix a n (Ok text) low high e k = subst (SpellsInRadix radix n) (sym (k ∙ ap (text_in_radix radix) e)) (spells radix n low high)
exact radix a n (Err x) low high e k = tt

-- ---- blanks that stand last, one after the other

-- what the loop has left out so far
pub record AreCut (units : List ℕ) (cut : ℕ) : Type 0 where
  pub rest : suffix_len is_blank units ≡ cut + suffix_len is_blank (take (length units - cut) units)

pub one_more : (units : List ℕ) (cut : ℕ) → cut < length units → is_blank (get_or units (length units - cut - 1) 0) ≡ true → AreCut units cut → AreCut units (cut + 1)
one_more units cut less b so_far =
    let same : length units - cut - 1 ≡ length units - (cut + 1) = omega arith in
    let step = suffix_len-take_yes is_blank units (length units - cut) 0 (omega arith) (omega arith) b in
    record { rest = omega (arith, so_far.rest, step, ap (λ k. suffix_len is_blank (take k units)) same) }

pub no_more : (units : List ℕ) (cut : ℕ) → cut < length units → is_blank (get_or units (length units - cut - 1) 0) ≡ false → AreCut units cut → take (length units - cut) units ≡ without_blanks_behind units
no_more units cut less b so_far =
    let none = suffix_len-take_no is_blank units (length units - cut) 0 (omega arith) (omega arith) b in
    let all : suffix_len is_blank units ≡ cut = omega (arith, so_far.rest, none) in
    ap (λ k. take (length units - k) units) (sym all)

pub none_left : (units : List ℕ) (cut : ℕ) → length units ≤ cut → AreCut units cut → [] ≡ without_blanks_behind units
none_left units cut less so_far =
    let none : length units - suffix_len is_blank units ≡ 0 = omega (arith, so_far.rest) in
    ap (λ k. take k units) (sym none)
