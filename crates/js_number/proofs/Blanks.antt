-- Blanks are no digits, signs, points or letters.
use Rattle.std.proofs.Common.{◌≡◌, ℕ, ◌+◌, ◌≤◌, ◌==◌, Bool, true, false, not, ◌&&◌, List, [], ◌∷◌, ◌++◌, length, take, drop, suc, one-add, refl, sym, ap, subst, ◌∙◌, ⊎_elim}
use Rattle.std.specs.List.{list_any, list_all}
use Rattle.std.specs.Char.{digit_value, is_digit}
use Rattle.std.proofs.lemmas.Bool.{or_cases, and_parts, and_from, eqb-true, le-ltb, lt-ltb, ltb-true, cond-true, cond-false, true≢false, false_from_ne_true}
use Rattle.js_number.specs.Literal.{is_blank, AreBlank, white_space, line_terminators}
use Rattle.std.specs.Str.Parse.{AllDigits}
use Rattle.js_number.specs.NumericText.{after_blanks, digit_count}

-- no digit in any base up to 36, and none of `+`, `-` and `.`
abbrev pub is_apart : ℕ → Bool
is_apart u = digit_value u == 36 && (not (u == 43) && (not (u == 45) && not (u == 46)))

-- what is in a list passes a test that all its items pass
any_passes : (t : ℕ → Bool) (xs : List ℕ) (u : ℕ) → list_any (λ x. x == u) xs ≡ true → list_all t xs ≡ true → t u ≡ true
any_passes t [] u h a = absurd (true≢false (sym h))
any_passes t (x ∷ xs) u h a =
    let parts = and_parts (t x) (list_all t xs) a in
    ⊎_elim
    (λ (e : (x == u) ≡ true). subst (λ y. t y ≡ true) (eqb-true x u e) parts.0)
    (λ (e : list_any (λ y. y == u) xs ≡ true). any_passes t xs u e parts.1)
    (or_cases (x == u) (list_any (λ y. y == u) xs) h)

-- a blank is none of these
pub blank_apart : (u : ℕ) → is_blank u ≡ true → is_apart u ≡ true
blank_apart u h =
    ⊎_elim
    (λ e. any_passes is_apart white_space u e refl)
    (λ e. any_passes is_apart line_terminators u e refl)
    (or_cases (list_any (λ b. b == u) white_space) (list_any (λ b. b == u) line_terminators) h)

-- what isn't apart is no blank
pub not_blank : (u : ℕ) → is_apart u ≡ false → is_blank u ≡ false
not_blank u h = false_from_ne_true (is_blank u) (λ e. true≢false (sym (blank_apart u e) ∙ h))

-- a blank is no digit
pub blank_no_digit : (u radix : ℕ) → radix ≤ 36 → is_blank u ≡ true → is_digit u radix ≡ false
blank_no_digit u radix h e =
    let apart = and_parts (digit_value u == 36) (not (u == 43) && (not (u == 45) && not (u == 46))) (blank_apart u e) in
    let v : digit_value u ≡ 36 = eqb-true (digit_value u) 36 apart.0 in
    le-ltb (digit_value u) radix (subst (λ n. radix ≤ n) (sym v) h)

-- a digit is no blank
pub digit_no_blank : (u radix : ℕ) → radix ≤ 36 → is_digit u radix ≡ true → is_blank u ≡ false
digit_no_blank u radix h d = false_from_ne_true (is_blank u) (λ e. true≢false (sym d ∙ blank_no_digit u radix h e))

-- what may stand behind digits: nothing, or what is no digit
abbrev pub NoDigitFirst : ℕ → List ℕ → Type 0
NoDigitFirst radix [] = Unit {0}
NoDigitFirst radix (u ∷ us) = is_digit u radix ≡ false

-- blanks may stand behind digits
pub blanks_apart : (radix : ℕ) (us : List ℕ) → radix ≤ 36 → AreBlank us → NoDigitFirst radix us
blanks_apart radix [] h a = tt
blanks_apart radix (u ∷ us) h a = blank_no_digit u radix h (and_parts (is_blank u) (list_all is_blank us) a).0

-- the count of digits in front of what is no digit
pub count_digits : (radix : ℕ) (ds us : List ℕ) → AllDigits radix ds → NoDigitFirst radix us → digit_count radix (ds ++ us) ≡ length ds
count_digits radix [] [] a n = refl
count_digits radix [] (u ∷ us) a n = cond-false (is_digit u radix) (1 + digit_count radix us) 0 n
count_digits radix (d ∷ ds) us a n =
    cond-true (is_digit d radix) (1 + digit_count radix (ds ++ us)) 0 (lt-ltb (digit_value d) radix a.0) ∙ one-add (digit_count radix (ds ++ us)) ∙ ap suc (count_digits radix ds us a.1 n)

-- a count at a unit that is a digit, and at one that is none
count_yes : (radix u : ℕ) (us : List ℕ) → is_digit u radix ≡ true → digit_count radix (u ∷ us) ≡ suc (digit_count radix us)
count_yes radix u us e = cond-true (is_digit u radix) (1 + digit_count radix us) 0 e ∙ one-add (digit_count radix us)

-- the count at a unit that is no digit
count_no : (radix u : ℕ) (us : List ℕ) → is_digit u radix ≡ false → digit_count radix (u ∷ us) ≡ 0
count_no radix u us e = cond-false (is_digit u radix) (1 + digit_count radix us) 0 e

-- one more unit, by whether it is a digit
first_at : (b : Bool) (radix u : ℕ) (us : List ℕ) → is_digit u radix ≡ b → AllDigits radix (take (digit_count radix us) us) → AllDigits radix (take (digit_count radix (u ∷ us)) (u ∷ us))
first_at true radix u us e a = subst (λ n. AllDigits radix (take n (u ∷ us))) (sym (count_yes radix u us e)) (ltb-true (digit_value u) radix e, a)
first_at false radix u us e a = subst (λ n. AllDigits radix (take n (u ∷ us))) (sym (count_no radix u us e)) tt

-- what follows one more unit, by whether it is a digit
after_at : (b : Bool) (radix u : ℕ) (us : List ℕ) → is_digit u radix ≡ b → NoDigitFirst radix (drop (digit_count radix us) us) → NoDigitFirst radix (drop (digit_count radix (u ∷ us)) (u ∷ us))
after_at true radix u us e a = subst (λ n. NoDigitFirst radix (drop n (u ∷ us))) (sym (count_yes radix u us e)) a
after_at false radix u us e a = subst (λ n. NoDigitFirst radix (drop n (u ∷ us))) (sym (count_no radix u us e)) e

-- the digits that stand first are digits, and none stands behind them
pub digits_first : (radix : ℕ) (us : List ℕ) → AllDigits radix (take (digit_count radix us) us)
digits_first radix [] = tt
digits_first radix (u ∷ us) = first_at (is_digit u radix) radix u us refl (digits_first radix us)

-- no digit stands behind the digits that stand first
pub after_digits : (radix : ℕ) (us : List ℕ) → NoDigitFirst radix (drop (digit_count radix us) us)
after_digits radix [] = tt
after_digits radix (u ∷ us) = after_at (is_digit u radix) radix u us refl (after_digits radix us)

-- the blanks that stand first are left out
pub skip_blanks : (bs us : List ℕ) → AreBlank bs → after_blanks (bs ++ us) ≡ after_blanks us
skip_blanks [] us a = refl
skip_blanks (b ∷ bs) us a =
    let parts = and_parts (is_blank b) (list_all is_blank bs) a in
    cond-true (is_blank b) (after_blanks (bs ++ us)) (b ∷ (bs ++ us)) parts.0 ∙ skip_blanks bs us parts.1

-- nothing follows blanks alone
pub only_blanks : (bs : List ℕ) → AreBlank bs → after_blanks bs ≡ []
only_blanks [] a = refl
only_blanks (b ∷ bs) a =
    let parts = and_parts (is_blank b) (list_all is_blank bs) a in
    cond-true (is_blank b) (after_blanks bs) (b ∷ bs) parts.0 ∙ only_blanks bs parts.1

-- a list is the blanks that stand first, and what follows them
pub record Skips (us : List ℕ) : Type 0 where
  pub before : List ℕ
  pub blank : AreBlank before
  pub whole : us ≡ before ++ after_blanks us

-- one more unit, by whether it is a blank
skips_at : (b : Bool) (u : ℕ) (us : List ℕ) → is_blank u ≡ b → Skips us → Skips (u ∷ us)
skips_at true u us e s = record {
  before = u ∷ s.before;
  blank = and_from (is_blank u) (list_all is_blank s.before) e s.blank;
  whole = ap (λ xs. u ∷ xs) s.whole ∙ ap (λ xs. u ∷ (s.before ++ xs)) (sym (cond-true (is_blank u) (after_blanks us) (u ∷ us) e));
}
skips_at false u us e s = record { before = []; blank = refl; whole = sym (cond-false (is_blank u) (after_blanks us) (u ∷ us) e) }

-- each list is so
pub skips : (us : List ℕ) → Skips us
skips [] = record { before = []; blank = refl; whole = refl }
skips (u ∷ us) = skips_at (is_blank u) u us refl (skips us)
