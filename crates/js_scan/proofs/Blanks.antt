-- White space and line terminators are the blanks of numeric texts.
use Rattle.std.proofs.Common.{◌≡◌, ℕ, zero, suc, ◌+◌, ◌-◌, ◌≤◌, ◌<◌, ◌==◌, Bool, true, false, true≢false, cond, not, ◌&&◌, ◌||◌, List, [], ◌∷◌, refl, sym, ap, subst, ◌∙◌, ⊎_elim, inl, inr, arith}
use Rattle.std.specs.Prelude.{nat_le}
use Rattle.std.specs.List.{list_any, list_all}
use Rattle.std.proofs.lemmas.Bool.{or_cases, or_from, and_parts, eqb-true, leb-true, false_from_ne_true, cases_eq}
use Rattle.ucd_table.specs.Rows.{Row, value_in}
use Rattle.ucd_category.specs.GeneralCategoryRows.{general_category_rows}
use Rattle.ucd_category.specs.declared.GeneralCategory.{GeneralCategory}
use Rattle.ucd_category.specs.declared.GeneralCategory.TheVariants.{Unassigned}
use Rattle.ucd_category.proofs.Computing.{ucd_category}
use Rattle.unicode.specs.GeneralCategory.{general_category}
use Rattle.js_number.specs.Literal as numeric
use Rattle.js_scan.specs.Units.{is_space, is_white_space, is_line_terminator}

-- the units from one on, so many, are blanks
unfoldable are_blank : ℕ → ℕ → Bool
are_blank from zero = true
are_blank from (suc count) = numeric.is_blank from && are_blank (suc from) count

blank_among : (from count u : ℕ) → are_blank from count ≡ true → from ≤ u → u < from + count → numeric.is_blank u ≡ true
unfolding are_blank
blank_among from zero u are least below = absurd (omega arith)
blank_among from (suc count) u are least below =
    let parts = and_parts (numeric.is_blank from) (are_blank (suc from) count) are in
    elim (cases_eq from u) [
      | inl e ↦ subst (λ x. numeric.is_blank x ≡ true) e parts.0
      | inr n ↦ blank_among (suc from) count u parts.1 (omega (arith, n)) (omega arith)
    ]

-- each row of the category Zs has blanks alone
unfoldable spaces_are_blank : List (Row GeneralCategory) → Bool
spaces_are_blank [] = true
spaces_are_blank (r ∷ rs) = (not (is_space r.2) || are_blank r.0 (suc r.1 - r.0)) && spaces_are_blank rs

all_spaces : spaces_are_blank general_category_rows ≡ true
unfolding spaces_are_blank are_blank general_category_rows
all_spaces = refl

held : (r : Row GeneralCategory) (u : ℕ) → (not (is_space r.2) || are_blank r.0 (suc r.1 - r.0)) ≡ true → is_space r.2 ≡ true
    → nat_le r.0 u ≡ true → nat_le u r.1 ≡ true → numeric.is_blank u ≡ true
held r u either is least most =
    ⊎_elim
    (λ (e : not (is_space r.2) ≡ true). absurd (true≢false (sym e ∙ ap not is)))
    (λ (e : are_blank r.0 (suc r.1 - r.0) ≡ true). blank_among r.0 (suc r.1 - r.0) u e (leb-true r.0 u least) (omega (arith, leb-true r.0 u least, leb-true u r.1 most)))
    (or_cases (not (is_space r.2)) (are_blank r.0 (suc r.1 - r.0)) either)

space_at : (b : Bool) (r : Row GeneralCategory) (rest : GeneralCategory) (u : ℕ) → (nat_le r.0 u && nat_le u r.1) ≡ b → (not (is_space r.2) || are_blank r.0 (suc r.1 - r.0)) ≡ true
    → (is_space rest ≡ true → numeric.is_blank u ≡ true) → is_space (cond b r.2 rest) ≡ true → numeric.is_blank u ≡ true
space_at true r rest u in_row either later is = let ends = and_parts (nat_le r.0 u) (nat_le u r.1) in_row in held r u either is ends.0 ends.1
space_at false r rest u in_row either later is = later is

space_in : (rs : List (Row GeneralCategory)) (u : ℕ) → spaces_are_blank rs ≡ true → is_space (value_in Unassigned rs u) ≡ true → numeric.is_blank u ≡ true
unfolding spaces_are_blank value_in
space_in [] u are is = absurd (true≢false (sym is))
space_in (r ∷ rs) u are is =
    let parts = and_parts (not (is_space r.2) || are_blank r.0 (suc r.1 - r.0)) (spaces_are_blank rs) are in
    space_at (nat_le r.0 u && nat_le u r.1) r (value_in Unassigned rs u) u refl parts.0 (λ e. space_in rs u parts.1 e) is

-- a unit of the category Zs is a blank
space_blank : (u : ℕ) → is_space (general_category u) ≡ true → numeric.is_blank u ≡ true
unfolding general_category
space_blank u is = space_in general_category_rows u all_spaces is

-- what is in a list passes a test that all its items pass
any_passes : (t : ℕ → Bool) (xs : List ℕ) (u : ℕ) → list_any (λ x. x == u) xs ≡ true → list_all t xs ≡ true → t u ≡ true
any_passes t [] u h a = absurd (true≢false (sym h))
any_passes t (x ∷ xs) u h a =
    let parts = and_parts (t x) (list_all t xs) a in
    ⊎_elim
    (λ (e : (x == u) ≡ true). subst (λ y. t y ≡ true) (eqb-true x u e) parts.0)
    (λ (e : list_any (λ y. y == u) xs ≡ true). any_passes t xs u e parts.1)
    (or_cases (x == u) (list_any (λ y. y == u) xs) h)

-- white space or a line terminator
abbrev blank : ℕ → Bool
blank u = is_white_space u || is_line_terminator u

all_white : list_all blank numeric.white_space ≡ true
unfolding ucd_category is_white_space is_line_terminator
all_white = refl

all_terminators : list_all blank numeric.line_terminators ≡ true
unfolding ucd_category is_white_space is_line_terminator
all_terminators = refl

-- a blank of a numeric text is white space or a line terminator
blank_here : (u : ℕ) → numeric.is_blank u ≡ true → blank u ≡ true
blank_here u h =
    ⊎_elim
    (λ e. any_passes blank numeric.white_space u e all_white)
    (λ e. any_passes blank numeric.line_terminators u e all_terminators)
    (or_cases (list_any (λ b. b == u) numeric.white_space) (list_any (λ b. b == u) numeric.line_terminators) h)

one_of : (u v : ℕ) → (u == v) ≡ true → numeric.is_blank v ≡ true → numeric.is_blank u ≡ true
one_of u v e is = subst (λ x. numeric.is_blank x ≡ true) (sym (eqb-true u v e)) is

terminator_blank : (u : ℕ) → is_line_terminator u ≡ true → numeric.is_blank u ≡ true
unfolding is_line_terminator
terminator_blank u h =
    ⊎_elim (λ e. ⊎_elim (λ f. ⊎_elim (λ g. one_of u 10 g refl) (λ g. one_of u 13 g refl) (or_cases (u == 10) (u == 13) f)) (λ f. one_of u 8232 f refl) (or_cases (u == 10 || u == 13) (u == 8232) e))
    (λ e. one_of u 8233 e refl) (or_cases (u == 10 || u == 13 || u == 8232) (u == 8233) h)

white_blank : (u : ℕ) → is_white_space u ≡ true → numeric.is_blank u ≡ true
unfolding is_white_space
white_blank u h =
    ⊎_elim
    (λ a. ⊎_elim
    (λ b. ⊎_elim
    (λ c. ⊎_elim
    (λ d. ⊎_elim
    (λ e. ⊎_elim (λ f. one_of u 9 f refl) (λ f. one_of u 11 f refl) (or_cases (u == 9) (u == 11) e))
    (λ e. one_of u 12 e refl) (or_cases (u == 9 || u == 11) (u == 12) d))
    (λ d. one_of u 32 d refl) (or_cases (u == 9 || u == 11 || u == 12) (u == 32) c))
    (λ c. one_of u 160 c refl) (or_cases (u == 9 || u == 11 || u == 12 || u == 32) (u == 160) b))
    (λ b. one_of u 65279 b refl) (or_cases (u == 9 || u == 11 || u == 12 || u == 32 || u == 160) (u == 65279) a))
    (λ a. space_blank u a)
    (or_cases (u == 9 || u == 11 || u == 12 || u == 32 || u == 160 || u == 65279) (is_space (general_category u)) h)

blank_there : (u : ℕ) → blank u ≡ true → numeric.is_blank u ≡ true
blank_there u h = ⊎_elim (λ e. white_blank u e) (λ e. terminator_blank u e) (or_cases (is_white_space u) (is_line_terminator u) h)

both : (a b : Bool) → (a ≡ true → b ≡ true) → (b ≡ true → a ≡ true) → a ≡ b
both true b f g = sym (f refl)
both false true f g = g refl
both false false f g = refl

-- the two are one
pub one_white_space : (u : ℕ) → blank u ≡ numeric.is_blank u
one_white_space u = both (blank u) (numeric.is_blank u) (blank_there u) (blank_here u)
