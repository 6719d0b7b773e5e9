-- What an observer sees of labels.
use Rattle.std.proofs.Common.{◌≡◌, Bool, true, false, cond, ◌⊎◌, ⊎_elim, refl, sym, ◌∙◌, true≢false}
use Rattle.std.proofs.lemmas.Bool.{cases_Bool, and_parts, and_from, and_cases, and_left, and_right}
use Rattle.origin_labels.specs.Label.{Label, bottom, union, within, sees}
use Rattle.origin_labels.proofs.LabelLaws.{within-union, within-trans, within-bottom}
use Rattle.low_equal.specs.Observed.{Sees, Hides}

-- a choice of which the test is known
pub cond_true : {A : Type 0} (b : Bool) (x y : A) → b ≡ true → cond b x y ≡ x
cond_true true x y e = refl
cond_true false x y e = absurd (true≢false (sym e))

pub cond_false : {A : Type 0} (b : Bool) (x y : A) → b ≡ false → cond b x y ≡ y
cond_false true x y e = absurd (true≢false e)
cond_false false x y e = refl

-- by a test and what it says
pub by_test : {P : Type 0} (b : Bool) → (b ≡ true → P) → (b ≡ false → P) → P
by_test true h k = h refl
by_test false h k = k refl

module _ (observer : Label) where
  -- no label is seen and hidden
  pub not_both : (a : Label) → Sees observer a → Hides observer a → ⊥
  not_both a p q = true≢false (sym p ∙ q)

  -- each is seen or hidden
  pub sees_or_hides : (a : Label) → Sees observer a ⊎ Hides observer a
  sees_or_hides a = cases_Bool (sees observer a)

  -- who sees two labels sees their union
  pub sees_union : (a b : Label) → Sees observer a → Sees observer b → Sees observer (union a b)
  sees_union a b p q = within-union a b observer ∙ and_from (sees observer a) (sees observer b) p q

  -- who sees a union sees the first label
  pub sees_first : (a b : Label) → Sees observer (union a b) → Sees observer a
  sees_first a b p = (and_parts (sees observer a) (sees observer b) (sym (within-union a b observer) ∙ p)).0

  -- and the second
  pub sees_second : (a b : Label) → Sees observer (union a b) → Sees observer b
  sees_second a b p = (and_parts (sees observer a) (sees observer b) (sym (within-union a b observer) ∙ p)).1

  -- a union with a hidden label is hidden
  pub hides_first : (a b : Label) → Hides observer a → Hides observer (union a b)
  hides_first a b p = within-union a b observer ∙ and_left (sees observer a) (sees observer b) p

  -- on either side
  pub hides_second : (a b : Label) → Hides observer b → Hides observer (union a b)
  hides_second a b p = within-union a b observer ∙ and_right (sees observer a) (sees observer b) p

  -- of a hidden union one label is hidden
  pub hidden_part : (a b : Label) → Hides observer (union a b) → Hides observer a ⊎ Hides observer b
  hidden_part a b p = and_cases (sees observer a) (sees observer b) (sym (within-union a b observer) ∙ p)

  -- of a hidden union whose first label is seen, the second is hidden
  pub hidden_second : (a b : Label) → Hides observer (union a b) → Sees observer a → Hides observer b
  hidden_second a b p q = ⊎_elim (λ h. absurd (not_both a q h)) (λ h. h) (hidden_part a b p)

  -- and whose second label is seen, the first
  pub hidden_first : (a b : Label) → Hides observer (union a b) → Sees observer b → Hides observer a
  hidden_first a b p q = ⊎_elim (λ h. h) (λ h. absurd (not_both b q h)) (hidden_part a b p)

  -- the empty set is seen
  pub sees_bottom : Sees observer bottom
  sees_bottom = within-bottom observer

  -- what includes a hidden label is hidden
  pub hides_within : (need have : Label) → within need have ≡ true → Hides observer need → Hides observer have
  hides_within need have p h = ⊎_elim (λ s. absurd (not_both need (within-trans need have observer p s) h)) (λ x. x) (sees_or_hides have)

  -- what a seen label includes is seen
  pub sees_within : (need have : Label) → within need have ≡ true → Sees observer have → Sees observer need
  sees_within need have p s = within-trans need have observer p s
