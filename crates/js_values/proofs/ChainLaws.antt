-- Where each element leads to one before it, a chain is an element and what it leads to.
use Rattle.std.proofs.Common.{◌≡◌, ℕ, suc, zero, ◌<◌, List, ◌∷◌, Option, Some, None, refl, ap, ◌∙◌, arith}
use Rattle.std.specs.List.{slice_get}
use Rattle.js_values.specs.Chains.{beginning, onwards, chain_within, chain, LeadBack}

module _ {A : Type 0} (next : A → Option ℕ) (xs : List A) (back : LeadBack next xs) where
  -- two ways on that are the same up to an element are the same from it
  same_onwards : (i : ℕ) (f g : ℕ → List (ℕ × A)) → ((j : ℕ) → j < i → f j ≡ g j) → (a : A) → slice_get xs i ≡ Some a → (j : Option ℕ) → next a ≡ j → onwards j f ≡ onwards j g
  same_onwards i f g same a here None leads = refl
  same_onwards i f g same a here (Some j) leads = same j (back i j a here leads)

  same_beginning : (i : ℕ) (f g : ℕ → List (ℕ × A)) → ((j : ℕ) → j < i → f j ≡ g j) → (o : Option A) → slice_get xs i ≡ o → beginning i o (λ a. onwards (next a) f) ≡ beginning i o (λ a. onwards (next a) g)
  same_beginning i f g same None here = refl
  same_beginning i f g same (Some a) here = ap (λ c. (i, a) ∷ c) (same_onwards i f g same a here (next a) refl)

  -- any bound above the number gives the whole chain
  enough : (n m i : ℕ) → i < n → i < m → chain_within next xs n i ≡ chain_within next xs m i
  enough zero m i below other = absurd (omega arith)
  enough (suc n) zero i below other = absurd (omega arith)
  enough (suc n) (suc m) i below other = same_beginning i (chain_within next xs n) (chain_within next xs m) (λ j lt. enough n m j (omega arith) (omega arith)) (slice_get xs i) refl

  pub chain_step : (i : ℕ) (a : A) → slice_get xs i ≡ Some a → chain next xs i ≡ (i, a) ∷ onwards (next a) (chain next xs)
  chain_step i a here =
      ap (λ o. beginning i o (λ x. onwards (next x) (chain_within next xs i))) here
      ∙ ap (λ c. (i, a) ∷ c) (same_onwards i (chain_within next xs i) (chain next xs) (λ j lt. enough i (suc j) j lt (omega arith)) a here (next a) refl)
