-- Classes of units that exclude or hold one another.
use Rattle.std.proofs.Common.{◌≡◌, ℕ, ◌<◌, ◌≤◌, ◌==◌, Bool, true, false, not, ◌&&◌, ◌||◌, List, [], ◌∷◌, ◌++◌, refl, sym, ap, subst, ◌∙◌, ⊎_elim, arith}
use Rattle.std.specs.List.{list_any, list_all}
use Rattle.std.specs.Char.{is_digit}
use Rattle.std.specs.Str.{bytes_eq}
use Rattle.std.proofs.lemmas.Bool.{or_cases, or_from, and_left, and_parts, eqb-true, true≢false, false_from_ne_true, not-true}
use Rattle.std.proofs.lemmas.Bool.Decides.{nat_tests}
use Rattle.ucd_table.proofs.StepsLemmas.{row_steps, skip, step_value-skip, step_value-here}
use Rattle.ucd_table.proofs.TrieCheck.{all_below, all_below-at}
use Rattle.ucd_category.specs.GeneralCategoryRows.{general_category_rows}
use Rattle.ucd_category.specs.declared.GeneralCategory.{GeneralCategory}
use Rattle.ucd_category.specs.declared.GeneralCategory.TheVariants.{UppercaseLetter, LowercaseLetter, TitlecaseLetter, ModifierLetter, OtherLetter, LetterNumber, Surrogate}
use Rattle.ucd_category.proofs.GeneralCategoryLemmas.{general_category_stepped}
use Rattle.ucd_category.proofs.Computing.{ucd_category}
use Rattle.unicode.specs.GeneralCategory.{general_category}
use Rattle.js_scan.specs.Units.{is_letter, is_space, is_white_space, is_line_terminator, is_identifier_start, is_identifier_part, is_quote}
use Rattle.js_scan.specs.Names.{is_one_of}
use Rattle.js_scan.specs.Punctuators.{is_punctuator, punctuators_of_1, punctuators_of_2, punctuators_of_3, punctuators_of_4}

-- a surrogate has a category of its own
pub surrogate_category : (u : ℕ) → 0xD800 ≤ u → u ≤ 0xDFFF → general_category u ≡ Surrogate
unfolding general_category_stepped general_category_rows row_steps skip
surrogate_category u from upto =
    general_category_stepped.gives u
    ∙ sym (step_value-skip general_category_stepped.default general_category_stepped.steps 0xD800 u from)
    ∙ step_value-here _ (0xE000, Surrogate) _ u (omega arith)

-- so have the small letters of ASCII
small_letter_category : (u : ℕ) → 0x61 ≤ u → u ≤ 0x7A → general_category u ≡ LowercaseLetter
unfolding general_category_stepped general_category_rows row_steps skip
small_letter_category u from upto =
    general_category_stepped.gives u
    ∙ sym (step_value-skip general_category_stepped.default general_category_stepped.steps 0x61 u from)
    ∙ step_value-here _ (0x7B, LowercaseLetter) _ u (omega arith)

-- they start identifiers
pub small_letter_starts : (u : ℕ) → 0x61 ≤ u → u ≤ 0x7A → is_identifier_start u ≡ true
unfolding is_identifier_start
small_letter_starts u from upto = ap (λ c. is_letter c || u == 36 || u == 95) (small_letter_category u from upto)

-- ---- lists of units, and what none of them passes

-- `"`, `'`, `.`, `/` and `\`
abbrev marks : List ℕ
marks = 34 ∷ 39 ∷ 46 ∷ 47 ∷ 92 ∷ []

-- the decimal digits
abbrev digits : List ℕ
digits = 48 ∷ 49 ∷ 50 ∷ 51 ∷ 52 ∷ 53 ∷ 54 ∷ 55 ∷ 56 ∷ 57 ∷ []

-- line terminators, and what is white space whatever its category
abbrev blanks : List ℕ
blanks = 9 ∷ 11 ∷ 12 ∷ 32 ∷ 160 ∷ 65279 ∷ 10 ∷ 13 ∷ 8232 ∷ 8233 ∷ []

-- the unit is in the list
abbrev is_listed : List ℕ → ℕ → Bool
is_listed xs u = list_any (λ x. x == u) xs

-- none of the list passes
abbrev none_passes : (ℕ → Bool) → List ℕ → Bool
none_passes t xs = list_all (λ u. not (t u)) xs

-- a unit that passes doesn't begin the text
abbrev begins_without : (ℕ → Bool) → List ℕ → Bool
begins_without t [] = true
begins_without t (x ∷ xs) = not (t x)

-- nor any punctuator
unfoldable no_punctuator : (ℕ → Bool) → Bool
no_punctuator t = list_all (begins_without t) (punctuators_of_1 ++ (punctuators_of_2 ++ (punctuators_of_3 ++ punctuators_of_4)))

-- white space or a line terminator
abbrev is_blank : ℕ → Bool
is_blank u = is_white_space u || is_line_terminator u

-- no mark and no blank starts an identifier
no_mark_starts : none_passes is_identifier_start (marks ++ blanks) ≡ true
unfolding ucd_category is_identifier_start
no_mark_starts = refl

-- nor does a digit
no_digit_starts : none_passes is_identifier_start digits ≡ true
unfolding ucd_category is_identifier_start
no_digit_starts = refl

-- nor the first unit of a punctuator
no_punctuator_starts : no_punctuator is_identifier_start ≡ true
unfolding ucd_category is_identifier_start no_punctuator
no_punctuator_starts = refl

-- no mark is a blank
no_mark_blank : none_passes is_blank marks ≡ true
unfolding ucd_category is_white_space is_line_terminator
no_mark_blank = refl

-- nor is a digit
no_digit_blank : none_passes is_blank digits ≡ true
unfolding ucd_category is_white_space is_line_terminator
no_digit_blank = refl

-- nor the first unit of a punctuator
no_punctuator_blank : no_punctuator is_blank ≡ true
unfolding ucd_category is_white_space is_line_terminator no_punctuator
no_punctuator_blank = refl

-- nor are `$` and `_`
no_other_start_space : none_passes (λ u. is_space (general_category u)) (36 ∷ 95 ∷ []) ≡ true
unfolding ucd_category
no_other_start_space = refl

-- `\` isn't behind the first unit of an identifier
no_backslash_part : is_identifier_part 92 ≡ false
unfolding ucd_category is_identifier_start is_identifier_part
no_backslash_part = refl

-- nor does it begin a punctuator
no_backslash_punctuator : no_punctuator (λ u. u == 92) ≡ true
unfolding no_punctuator
no_backslash_punctuator = refl

-- line terminators aren't white space
no_terminator_space : none_passes is_white_space (10 ∷ 13 ∷ 8232 ∷ 8233 ∷ []) ≡ true
unfolding ucd_category is_white_space
no_terminator_space = refl

-- ---- the same of any unit

-- a listed unit doesn't pass what none of the list passes
listed_fails : (t : ℕ → Bool) (xs : List ℕ) (u : ℕ) → is_listed xs u ≡ true → none_passes t xs ≡ true → t u ≡ false
listed_fails t [] u h a = absurd (true≢false (sym h))
listed_fails t (x ∷ xs) u h a =
    let parts = and_parts (not (t x)) (none_passes t xs) a in
    ⊎_elim
    (λ (e : (x == u) ≡ true). subst (λ y. t y ≡ false) (eqb-true x u e) (not-true (t x) parts.0))
    (λ (e : is_listed xs u ≡ true). listed_fails t xs u e parts.1)
    (or_cases (x == u) (is_listed xs u) h)

-- two units of which one passes differ
differs : (t : ℕ → Bool) (u v : ℕ) → t u ≡ true → t v ≡ false → (u == v) ≡ false
differs t u v h e = false_from_ne_true (u == v) (λ s. true≢false (sym h ∙ ap t (eqb-true u v s) ∙ e))

-- a digit is below 58
digit_below : (u : ℕ) → is_digit u 10 ≡ true → u < 58
digit_below u h = grind (arith, nat_tests)

-- each digit is listed
digits_listed : all_below (λ u. not (is_digit u 10) || is_listed digits u) 58 ≡ true
unfolding all_below
digits_listed = refl

-- a digit is listed
digit_listed : (u : ℕ) → is_digit u 10 ≡ true → is_listed digits u ≡ true
digit_listed u h = ap (λ b. not b || is_listed digits u) (sym h) ∙ all_below-at (λ x. not (is_digit x 10) || is_listed digits x) 58 u digits_listed (digit_below u h)

-- a unit that passes what no digit passes is no digit
no_digit : (t : ℕ → Bool) (u : ℕ) → t u ≡ true → none_passes t digits ≡ true → is_digit u 10 ≡ false
no_digit t u h a = false_from_ne_true (is_digit u 10) (λ d. true≢false (sym h ∙ listed_fails t digits u (digit_listed u d) a))

-- nor is a text that it begins among those that begin without it
no_text : (t : ℕ → Bool) (texts : List (List ℕ)) (u : ℕ) (us : List ℕ) → t u ≡ true → list_all (begins_without t) texts ≡ true → is_one_of texts (u ∷ us) ≡ false
no_text t [] u us h a = refl
no_text t ([] ∷ texts) u us h a = no_text t texts u us h a
no_text t ((x ∷ xs) ∷ texts) u us h a =
    let parts = and_parts (not (t x)) (list_all (begins_without t) texts) a in
    or_from ((u == x) && bytes_eq us xs) (is_one_of texts (u ∷ us)) (and_left (u == x) (bytes_eq us xs) (differs t u x h (not-true (t x) parts.0))) (no_text t texts u us h parts.1)

-- nor among the punctuators
no_punctuator_at : (t : ℕ → Bool) (u : ℕ) (us : List ℕ) → t u ≡ true → no_punctuator t ≡ true → is_punctuator (u ∷ us) ≡ false
unfolding no_punctuator is_punctuator
no_punctuator_at t u us h a = no_text t (punctuators_of_1 ++ (punctuators_of_2 ++ (punctuators_of_3 ++ punctuators_of_4))) u us h a

-- ---- what starts an identifier

-- it is no mark and no blank that is listed
start_differs : (u v : ℕ) → is_identifier_start u ≡ true → is_listed (marks ++ blanks) v ≡ true → (u == v) ≡ false
start_differs u v h l = differs is_identifier_start u v h (listed_fails is_identifier_start (marks ++ blanks) v l no_mark_starts)

-- a letter is no space
letter_no_space : (c : GeneralCategory) → is_letter c ≡ true → is_space c ≡ false
letter_no_space UppercaseLetter h = refl
letter_no_space LowercaseLetter h = refl
letter_no_space TitlecaseLetter h = refl
letter_no_space ModifierLetter h = refl
letter_no_space OtherLetter h = refl
letter_no_space LetterNumber h = refl
letter_no_space _ h = absurd (true≢false (sym h))

-- nor are `$` and `_`
other_start_no_space : (u v : ℕ) → is_listed (36 ∷ 95 ∷ []) v ≡ true → (u == v) ≡ true → is_space (general_category u) ≡ false
other_start_no_space u v l e = subst (λ x. is_space (general_category x) ≡ false) (sym (eqb-true u v e)) (listed_fails (λ x. is_space (general_category x)) (36 ∷ 95 ∷ []) v l no_other_start_space)

-- it is no space
start_no_space : (u : ℕ) → is_identifier_start u ≡ true → is_space (general_category u) ≡ false
unfolding is_identifier_start
start_no_space u h =
    ⊎_elim
    (λ e. ⊎_elim (λ f. letter_no_space (general_category u) f) (λ f. other_start_no_space u 36 refl f) (or_cases (is_letter (general_category u)) (u == 36) e))
    (λ e. other_start_no_space u 95 refl e)
    (or_cases (is_letter (general_category u) || u == 36) (u == 95) h)

-- it is no white space
start_no_white_space : (u : ℕ) → is_identifier_start u ≡ true → is_white_space u ≡ false
unfolding is_white_space
start_no_white_space u h =
    simp (start_differs u 9 h refl, start_differs u 11 h refl, start_differs u 12 h refl, start_differs u 32 h refl, start_differs u 160 h refl, start_differs u 65279 h refl, start_no_space u h)

-- it is no line terminator
start_no_terminator : (u : ℕ) → is_identifier_start u ≡ true → is_line_terminator u ≡ false
unfolding is_line_terminator
start_no_terminator u h = simp (start_differs u 10 h refl, start_differs u 13 h refl, start_differs u 8232 h refl, start_differs u 8233 h refl)

-- it is no blank, no quote, no digit, and not `.`, `/` or `\`
pub start_other : (u : ℕ) → is_identifier_start u ≡ true → (is_white_space u ≡ false) × (is_line_terminator u ≡ false) × (is_quote u ≡ false) × (is_digit u 10 ≡ false) × ((u == 46) ≡ false) × ((u == 47) ≡ false) × ((u == 92) ≡ false)
unfolding is_quote
start_other u h =
    (start_no_white_space u h, start_no_terminator u h, simp (start_differs u 34 h refl, start_differs u 39 h refl), no_digit is_identifier_start u h no_digit_starts, start_differs u 46 h refl, start_differs u 47 h refl, start_differs u 92 h refl)

-- no punctuator begins with it
pub start_no_punctuator : (u : ℕ) (us : List ℕ) → is_identifier_start u ≡ true → is_punctuator (u ∷ us) ≡ false
start_no_punctuator u us h = no_punctuator_at is_identifier_start u us h no_punctuator_starts

-- no punctuator begins with `\`
pub backslash_no_punctuator : (us : List ℕ) → is_punctuator (92 ∷ us) ≡ false
backslash_no_punctuator us = no_punctuator_at (λ u. u == 92) 92 us refl no_backslash_punctuator

-- it may stand behind the first unit too
pub start_is_part : (u : ℕ) → is_identifier_start u ≡ true → is_identifier_part u ≡ true
unfolding is_identifier_part
start_is_part u h = simp h

-- what may stand there is no `\`
pub part_no_backslash : (u : ℕ) → is_identifier_part u ≡ true → (u == 92) ≡ false
part_no_backslash u h = differs is_identifier_part u 92 h no_backslash_part

-- ---- blanks

-- a blank is no mark
blank_differs : (u v : ℕ) → is_blank u ≡ true → is_listed marks v ≡ true → (u == v) ≡ false
blank_differs u v h l = differs is_blank u v h (listed_fails is_blank marks v l no_mark_blank)

-- a blank starts no identifier
blank_no_start : (u : ℕ) → is_blank u ≡ true → is_identifier_start u ≡ false
blank_no_start u h =
    false_from_ne_true (is_identifier_start u) (λ s. true≢false (sym h ∙ or_from (is_white_space u) (is_line_terminator u) (start_no_white_space u s) (start_no_terminator u s)))

-- nor is it a quote, a digit, `.`, `/` or `\`
pub blank_other : (u : ℕ) → (is_white_space u || is_line_terminator u) ≡ true → (is_quote u ≡ false) × (is_digit u 10 ≡ false) × ((u == 46) ≡ false) × ((u == 47) ≡ false) × ((u == 92) ≡ false) × (is_identifier_start u ≡ false)
unfolding is_quote
blank_other u h =
    (simp (blank_differs u 34 h refl, blank_differs u 39 h refl), no_digit is_blank u h no_digit_blank, blank_differs u 46 h refl, blank_differs u 47 h refl, blank_differs u 92 h refl, blank_no_start u h)

-- no punctuator begins with a blank
pub blank_no_punctuator : (u : ℕ) (us : List ℕ) → (is_white_space u || is_line_terminator u) ≡ true → is_punctuator (u ∷ us) ≡ false
blank_no_punctuator u us h = no_punctuator_at is_blank u us h no_punctuator_blank

-- one of the four line terminators is no white space
terminator_at : (u v : ℕ) → is_listed (10 ∷ 13 ∷ 8232 ∷ 8233 ∷ []) v ≡ true → (u == v) ≡ true → is_white_space u ≡ false
terminator_at u v l e = subst (λ x. is_white_space x ≡ false) (sym (eqb-true u v e)) (listed_fails is_white_space (10 ∷ 13 ∷ 8232 ∷ 8233 ∷ []) v l no_terminator_space)

-- a line terminator is no white space
pub line_terminator_no_white_space : (u : ℕ) → is_line_terminator u ≡ true → is_white_space u ≡ false
unfolding is_line_terminator
line_terminator_no_white_space u h =
    ⊎_elim
    (λ e. ⊎_elim (λ f. ⊎_elim (λ g. terminator_at u 10 refl g) (λ g. terminator_at u 13 refl g) (or_cases (u == 10) (u == 13) f)) (λ f. terminator_at u 8232 refl f) (or_cases (u == 10 || u == 13) (u == 8232) e))
    (λ e. terminator_at u 8233 refl e)
    (or_cases (u == 10 || u == 13 || u == 8232) (u == 8233) h)
