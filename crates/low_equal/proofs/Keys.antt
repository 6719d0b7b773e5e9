-- The keys of elements, and the key of the `length` of an array, which is none of them. Changes of one leave the others as they are.
use Rattle.std.proofs.Common.{◌≡◌, ℕ, zero, suc, ◌+◌, ◌/◌, ◌%◌, ◌<◌, ◌≤◌, ◌==◌, Bool, true, false, cond, List, [], ◌∷◌, Some, None, refl, sym, ◌∙◌, ap, subst, if◌then◌else◌, arith}
use Rattle.std.specs.Fmt.{digits, digits_onto, digit_glyph}
use Rattle.std.proofs.lemmas.Bool.{lt-ltb}
use Rattle.origin_labels.specs.Names.{same_name}
use Rattle.js_values.specs.Numerals.{index_of, value_after}
use Rattle.js_values.specs.Arrays.{length_key, element_key, highest, higher_if}
use Rattle.js_values.specs.Objects.{Rows, own, changed, without}
use Rattle.low_equal.proofs.Erased.{cond_true, cond_false, by_test}
use Rattle.low_equal.proofs.Rows.{are_one}

-- ---- the texts of numbers begin with digits, if with anything

pub data IsNumeral : List ℕ → Type 0 where
  no_digit : IsNumeral []
  a_digit : {c : ℕ} {cs : List ℕ} → c < 58 → IsNumeral (c ∷ cs)

glyph_low : (d : ℕ) → d < 10 → digit_glyph false d < 58
glyph_low d h = subst (λ b. (if b then 48 + d else (if false then 55 + d else 87 + d)) < 58) (sym (lt-ltb d 10 h)) (omega arith)

digits_numeral : (k n : ℕ) (acc : List ℕ) → IsNumeral acc → IsNumeral (digits_onto k 10 false n acc)
digits_numeral zero n acc a = a
digits_numeral (suc k) n acc a =
    let h : n % 10 < 10 = omega arith in
    let first : IsNumeral (digit_glyph false (n % 10) ∷ acc) = a_digit (glyph_low (n % 10) h) in
    either (n / 10 == 0) first (digits_numeral k (n / 10) (digit_glyph false (n % 10) ∷ acc) first)
  where
    either : (b : Bool) {x y : List ℕ} → IsNumeral x → IsNumeral y → IsNumeral (if b then x else y)
    either true p q = p
    either false p q = q

pub element_numeral : (n : ℕ) → IsNumeral (element_key n)
unfolding digits
element_numeral n = digits_numeral 64 n [] no_digit

pub no_numeral : {c : ℕ} {cs : List ℕ} → IsNumeral (c ∷ cs) → 58 ≤ c → ⊥
no_numeral (a_digit l) h = absurd (omega arith)

-- no element has this key
pub element_differs : (n : ℕ) → element_key n ≡ length_key → ⊥
element_differs n e = no_numeral (subst IsNumeral e (element_numeral n)) (omega arith)

-- and it is no index
length_no_index : index_of length_key ≡ None
unfolding index_of value_after
length_no_index = refl

-- ---- what is done with a property of one key leaves that of another

other_name : (r key other : List ℕ) → (key ≡ other → ⊥) → same_name r key ≡ true → same_name r other ≡ false
other_name r key other n e = by_test (same_name r other) (λ f. absurd (n (sym (are_one r key e) ∙ are_one r other f))) (λ f. f)

module _ {S : Type 0} where
  -- it is removed, and another changed
  pub without_changed : (key other : List ℕ) → (key ≡ other → ⊥) → (f : S → S) (rows : Rows S) → without key (changed other f rows) ≡ changed other f (without key rows)
  without_changed key other n f [] = refl
  without_changed key other n f (r ∷ rows) = by_test (same_name r.0 key) here (behind (without_changed key other n f rows))
    where
      here : same_name r.0 key ≡ true → without key (changed other f (r ∷ rows)) ≡ changed other f (without key (r ∷ rows))
      here e =
          ap (without key) (cond_false (same_name r.0 other) ((r.0, f r.1) ∷ rows) (r ∷ changed other f rows) (other_name r.0 key other n e))
          ∙ cond_true (same_name r.0 key) (changed other f rows) (r ∷ without key (changed other f rows)) e
          ∙ sym (ap (changed other f) (cond_true (same_name r.0 key) rows (r ∷ without key rows) e))

      behind : without key (changed other f rows) ≡ changed other f (without key rows) → same_name r.0 key ≡ false → without key (changed other f (r ∷ rows)) ≡ changed other f (without key (r ∷ rows))
      behind ih e = by_test (same_name r.0 other)
          (λ d. ap (without key) (cond_true (same_name r.0 other) ((r.0, f r.1) ∷ rows) (r ∷ changed other f rows) d)
          ∙ cond_false (same_name r.0 key) rows ((r.0, f r.1) ∷ without key rows) e
          ∙ sym (ap (changed other f) (cond_false (same_name r.0 key) rows (r ∷ without key rows) e) ∙ cond_true (same_name r.0 other) ((r.0, f r.1) ∷ without key rows) (r ∷ changed other f (without key rows)) d))
          (λ d. ap (without key) (cond_false (same_name r.0 other) ((r.0, f r.1) ∷ rows) (r ∷ changed other f rows) d)
          ∙ cond_false (same_name r.0 key) (changed other f rows) (r ∷ without key (changed other f rows)) e
          ∙ ap (λ (rs : Rows S). r ∷ rs) ih
          ∙ sym (ap (changed other f) (cond_false (same_name r.0 key) rows (r ∷ without key rows) e) ∙ cond_false (same_name r.0 other) ((r.0, f r.1) ∷ without key rows) (r ∷ changed other f (without key rows)) d))

  -- what another key names is there still
  pub own_without : (key other : List ℕ) → (key ≡ other → ⊥) → (rows : Rows S) → own other (without key rows) ≡ own other rows
  own_without key other n [] = refl
  own_without key other n (r ∷ rows) = by_test (same_name r.0 key)
      (λ e. ap (own other) (cond_true (same_name r.0 key) rows (r ∷ without key rows) e) ∙ sym (cond_false (same_name r.0 other) (Some r.1) (own other rows) (other_name r.0 key other n e)))
      (λ e. ap (own other) (cond_false (same_name r.0 key) rows (r ∷ without key rows) e) ∙ ap (λ x. cond (same_name r.0 other) (Some r.1) x) (own_without key other n rows))

  -- the `length` changes no highest element
  pub highest_changed : (n : ℕ) (f : S → S) (rows : Rows S) → highest n (changed length_key f rows) ≡ highest n rows
  highest_changed n f [] = refl
  highest_changed n f (r ∷ rows) = by_test (same_name r.0 length_key) here (behind (highest_changed n f rows))
    where
      here : same_name r.0 length_key ≡ true → highest n (changed length_key f (r ∷ rows)) ≡ highest n (r ∷ rows)
      here e =
          let none : index_of r.0 ≡ None = ap index_of (are_one r.0 length_key e) ∙ length_no_index in
          ap (highest n) (cond_true (same_name r.0 length_key) ((r.0, f r.1) ∷ rows) (r ∷ changed length_key f rows) e)
          ∙ ap (λ x. higher_if n x (f r.1) (highest n rows)) none ∙ sym (ap (λ x. higher_if n x r.1 (highest n rows)) none)

      behind : highest n (changed length_key f rows) ≡ highest n rows → same_name r.0 length_key ≡ false → highest n (changed length_key f (r ∷ rows)) ≡ highest n (r ∷ rows)
      behind ih e = ap (highest n) (cond_false (same_name r.0 length_key) ((r.0, f r.1) ∷ rows) (r ∷ changed length_key f rows) e) ∙ ap (higher_if n (index_of r.0) r.1) ih
