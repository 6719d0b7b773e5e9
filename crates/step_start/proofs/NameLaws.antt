-- A name that is one of three.
use Rattle.std.proofs.Common.{refl, sym, ap, ◌∙◌, ◌≡◌, ℕ, Bool, true, false, ◌||◌, List, [], ◌∷◌}
use Rattle.std.specs.List.{list_any}
use Rattle.origin_labels.specs.Names.{has_name, same_name}

module _ (name a b c : List ℕ) where
  pub is_first : same_name a name ≡ true → true ≡ has_name name (a ∷ b ∷ c ∷ [])
  unfolding has_name
  is_first first = sym (ap (λ x. x || list_any (λ other. same_name other name) (b ∷ c ∷ [])) first)

  behind : same_name a name ≡ false → has_name name (a ∷ b ∷ c ∷ []) ≡ list_any (λ other. same_name other name) (b ∷ c ∷ [])
  unfolding has_name
  behind first = ap (λ x. x || list_any (λ other. same_name other name) (b ∷ c ∷ [])) first

  pub is_second : same_name a name ≡ false → same_name b name ≡ true → true ≡ has_name name (a ∷ b ∷ c ∷ [])
  is_second first second = sym (behind first ∙ ap (λ x. x || list_any (λ other. same_name other name) (c ∷ [])) second)

  or_false : (x : Bool) → (x || false) ≡ x
  or_false true = refl
  or_false false = refl

  pub is_third : {r : Bool} → same_name a name ≡ false → same_name b name ≡ false → r ≡ same_name c name → r ≡ has_name name (a ∷ b ∷ c ∷ [])
  is_third first second third = third ∙ sym (behind first ∙ ap (λ x. x || list_any (λ other. same_name other name) (c ∷ [])) second ∙ or_false (same_name c name))
