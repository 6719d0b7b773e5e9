-- The longest punctuator that stands first, and which units begin one.
use Rattle.std.proofs.Common.{◌≡◌, ℕ, ◌+◌, ◌<◌, ◌≤◌, ◌==◌, ◌⊎◌, ◌||◌, not, List, [], ◌∷◌, ◌++◌, length, take, Bool, true, false, refl, sym, ap, subst, ◌∙◌, arith, inl, inr, ⊎_elim, nat_le, length-append, if◌then◌else◌}
use Rattle.std.specs.List.{list_any, list_all}
use Rattle.std.specs.Str.{bytes_eq}
use Rattle.std.specs.Char.{is_digit}
use Rattle.std.proofs.Math.Seq.{take-append_seam}
use Rattle.std.proofs.lemmas.Slice.Eq.{bytes_eq-Decides}
use Rattle.std.proofs.lemmas.Bool.{or_cases, and_parts, true≢false, leb-true, not-true, false_from_ne_true, cases_lt}
use Rattle.js_scan.specs.Units.{is_quote}
use Rattle.js_scan.specs.Punctuators.{is_punctuator, punctuators_of_1, punctuators_of_2, punctuators_of_3, punctuators_of_4}
use Rattle.js_scan.specs.Found.{FindsPunctuator}

-- all of them
abbrev punctuators : List (List ℕ)
punctuators = punctuators_of_1 ++ (punctuators_of_2 ++ (punctuators_of_3 ++ punctuators_of_4))

-- what one of the texts passes
any_text : (t : List ℕ → Bool) (texts : List (List ℕ)) (text : List ℕ) → list_any (bytes_eq text) texts ≡ true → list_all t texts ≡ true → t text ≡ true
any_text t [] text h a = absurd (true≢false (sym h))
any_text t (x ∷ xs) text h a =
    let parts = and_parts (t x) (list_all t xs) a in
    ⊎_elim
    (λ (e : bytes_eq text x ≡ true). subst (λ y. t y ≡ true) (sym ((bytes_eq-Decides text x).0 e)) parts.0)
    (λ (e : list_any (bytes_eq text) xs ≡ true). any_text t xs text e parts.1)
    (or_cases (bytes_eq text x) (list_any (bytes_eq text) xs) h)

-- what each punctuator passes
passes : (t : List ℕ → Bool) (text : List ℕ) → is_punctuator text ≡ true → list_all t punctuators ≡ true → t text ≡ true
unfolding is_punctuator
passes t text h a = any_text t punctuators text h a

-- a punctuator has four units at most
four_at_most : (text : List ℕ) → is_punctuator text ≡ true → length text ≤ 4
four_at_most text h = leb-true (length text) 4 (passes (λ x. nat_le (length x) 4) text h refl)

-- the units don't begin with a unit of this class
abbrev begins_otherwise : (ℕ → Bool) → List ℕ → Bool
begins_otherwise class [] = true
begins_otherwise class (u ∷ us) = not (class u)

-- no punctuator begins with a unit of a class that none of the table begins with
begins_none : (class : ℕ → Bool) (u : ℕ) (us : List ℕ) → list_all (begins_otherwise class) punctuators ≡ true → class u ≡ true → is_punctuator (u ∷ us) ≡ false
begins_none class u us a h = false_from_ne_true (is_punctuator (u ∷ us)) (λ e. true≢false (sym h ∙ not-true (class u) (passes (begins_otherwise class) (u ∷ us) e a)))

-- no punctuator begins with a quote
pub no_quote : (u : ℕ) (us : List ℕ) → is_quote u ≡ true → is_punctuator (u ∷ us) ≡ false
unfolding is_quote
no_quote u us h = begins_none (λ x. x == 34 || x == 39) u us refl h

-- no punctuator begins with a digit
pub no_digit : (u : ℕ) (us : List ℕ) → is_digit u 10 ≡ true → is_punctuator (u ∷ us) ≡ false
no_digit u us h = begins_none (λ x. is_digit x 10) u us refl h

-- no units are no punctuator
pub punctuator_not_empty : is_punctuator [] ≡ false
unfolding is_punctuator
punctuator_not_empty = refl

-- `/` is one
pub slash_punctuator : is_punctuator (47 ∷ []) ≡ true
unfolding is_punctuator
slash_punctuator = refl

-- a punctuator that begins with `/` is `/` or `/=`
pub slash_only : (us : List ℕ) → is_punctuator (47 ∷ us) ≡ true → (us ≡ []) ⊎ (us ≡ 61 ∷ [])
slash_only us h =
    let t : (bytes_eq us [] || bytes_eq us (61 ∷ [])) ≡ true = passes (λ x. begins_otherwise (λ u. u == 47) x || (bytes_eq x (47 ∷ []) || bytes_eq x (47 ∷ 61 ∷ []))) (47 ∷ us) h refl in
    ⊎_elim (λ e. inl ((bytes_eq-Decides us []).0 e)) (λ e. inr ((bytes_eq-Decides us (61 ∷ [])).0 e)) (or_cases (bytes_eq us []) (bytes_eq us (61 ∷ [])) t)

-- a punctuator that begins with `.` is `.`
pub dot_only : (us : List ℕ) → is_punctuator (46 ∷ us) ≡ true → us ≡ []
dot_only us h = (bytes_eq-Decides us []).0 (passes (λ x. begins_otherwise (λ u. u == 46) x || bytes_eq x (46 ∷ [])) (46 ∷ us) h refl)

-- the longest punctuator at the front of those with so many units at most has n units, and n is 0 where there is none
record UpTo (us : List ℕ) (most n : ℕ) : Type 0 where
  within : n ≤ length us
  small : n ≤ most
  is : 0 < n → is_punctuator (take n us) ≡ true
  longest : (text rest : List ℕ) → is_punctuator text ≡ true → us ≡ text ++ rest → length text ≤ most → length text ≤ n

-- none has no units
none : (us : List ℕ) → UpTo us 0 0
none us = record { within = omega arith; small = omega arith; is = λ h. absurd (omega arith); longest = λ text rest p e l. l }

-- what stands at the front, by its length
front_is : (text rest us : List ℕ) (n : ℕ) → us ≡ text ++ rest → length text ≡ n → take n us ≡ text
front_is text rest us n e l = ap (take n) e ∙ ap (λ k. take k (text ++ rest)) (sym l) ∙ take-append_seam text rest

-- one more unit, by the test for a punctuator of so many
one_more : (b : Bool) (us : List ℕ) (most n : ℕ) → most < length us → is_punctuator (take (most + 1) us) ≡ b → UpTo us most n → UpTo us (most + 1) (if b then most + 1 else n)
one_more true us most n long t u = record { within = omega arith; small = omega arith; is = λ h. t; longest = λ text rest p e l. l }
one_more false us most n long t u = record {
  within = u.within;
  small = omega (arith, u.small);
  is = u.is;
  longest = λ text rest p e l. ⊎_elim (λ (h : most < length text). absurd (true≢false (sym p ∙ ap is_punctuator (sym (front_is text rest us (most + 1) e (omega arith))) ∙ t))) (λ (h : length text ≤ most). u.longest text rest p e h) (cases_lt most (length text));
}

-- its length, of those with one unit
abbrev of_one : ℕ → ℕ
of_one a = if is_punctuator (a ∷ []) then 1 else 0

-- of those with two units at most
abbrev of_two : ℕ → ℕ → ℕ
of_two a b = if is_punctuator (a ∷ b ∷ []) then 2 else of_one a

-- with three at most
abbrev of_three : ℕ → ℕ → ℕ → ℕ
of_three a b c = if is_punctuator (a ∷ b ∷ c ∷ []) then 3 else of_two a b

-- with four at most
abbrev of_four : ℕ → ℕ → ℕ → ℕ → ℕ
of_four a b c d = if is_punctuator (a ∷ b ∷ c ∷ d ∷ []) then 4 else of_three a b c

-- how many units the longest punctuator at the front has, and 0 where there is none
unfoldable pub longest_at : List ℕ → ℕ
longest_at [] = 0
longest_at (a ∷ []) = of_one a
longest_at (a ∷ b ∷ []) = of_two a b
longest_at (a ∷ b ∷ c ∷ []) = of_three a b c
longest_at (a ∷ b ∷ c ∷ d ∷ us) = of_four a b c d

-- what is so computed of one unit is the longest
up_to_one : (a : ℕ) (us : List ℕ) → UpTo (a ∷ us) 1 (of_one a)
up_to_one a us = one_more (is_punctuator (a ∷ [])) (a ∷ us) 0 0 (omega arith) refl (none (a ∷ us))

-- of two units
up_to_two : (a b : ℕ) (us : List ℕ) → UpTo (a ∷ b ∷ us) 2 (of_two a b)
up_to_two a b us = one_more (is_punctuator (a ∷ b ∷ [])) (a ∷ b ∷ us) 1 (of_one a) (omega arith) refl (up_to_one a (b ∷ us))

-- of three units
up_to_three : (a b c : ℕ) (us : List ℕ) → UpTo (a ∷ b ∷ c ∷ us) 3 (of_three a b c)
up_to_three a b c us = one_more (is_punctuator (a ∷ b ∷ c ∷ [])) (a ∷ b ∷ c ∷ us) 2 (of_two a b) (omega arith) refl (up_to_two a b (c ∷ us))

-- of four units
up_to_four : (a b c d : ℕ) (us : List ℕ) → UpTo (a ∷ b ∷ c ∷ d ∷ us) 4 (of_four a b c d)
up_to_four a b c d us = one_more (is_punctuator (a ∷ b ∷ c ∷ d ∷ [])) (a ∷ b ∷ c ∷ d ∷ us) 3 (of_three a b c) (omega arith) refl (up_to_three a b c (d ∷ us))

-- nothing longer than all units stands first
of_all : (us : List ℕ) (most n : ℕ) → length us ≤ most → UpTo us most n → FindsPunctuator us n
of_all us most n short u = record { within = u.within; is = u.is; longest = λ text rest p e. u.longest text rest p e (omega (arith, ap length e, length-append text rest)) }

-- nor is a punctuator longer than four
of_most : (us : List ℕ) (n : ℕ) → UpTo us 4 n → FindsPunctuator us n
of_most us n u = record { within = u.within; is = u.is; longest = λ text rest p e. u.longest text rest p e (four_at_most text p) }

-- so it is the longest of all
longest_is : (us : List ℕ) → FindsPunctuator us (longest_at us)
unfolding longest_at
longest_is [] = of_all [] 0 0 (omega arith) (none [])
longest_is (a ∷ []) = of_all (a ∷ []) 1 (of_one a) (omega arith) (up_to_one a [])
longest_is (a ∷ b ∷ []) = of_all (a ∷ b ∷ []) 2 (of_two a b) (omega arith) (up_to_two a b [])
longest_is (a ∷ b ∷ c ∷ []) = of_all (a ∷ b ∷ c ∷ []) 3 (of_three a b c) (omega arith) (up_to_three a b c [])
longest_is (a ∷ b ∷ c ∷ d ∷ us) = of_most (a ∷ b ∷ c ∷ d ∷ us) (of_four a b c d) (up_to_four a b c d us)

-- what was computed as the longest
pub finds : (us : List ℕ) (n : ℕ) → n ≡ longest_at us → FindsPunctuator us n
finds us n e = subst (λ k. FindsPunctuator us k) (sym e) (longest_is us)
