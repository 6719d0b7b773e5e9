-- The laws of labels: inclusion is an order, the empty set is least, and the union is the least upper bound.
use Rattle.std.specs.Prelude.{◌≡◌, ℕ, true, ◌&&◌, ◌||◌}
use Rattle.origin_labels.specs.Label.{Label, IsLabel, bottom, has, union, within, sees}

pub record IsLattice : Type 0 where
  -- unions hold what either holds
  pub members : (origin : ℕ) (a b : Label) → has origin (union a b) ≡ (has origin a || has origin b)
  pub kept : (a b : Label) → IsLabel a → IsLabel b → IsLabel (union a b)
  -- inclusion is an order
  pub reflexive : (a : Label) → within a a ≡ true
  pub transitive : (a b c : Label) → within a b ≡ true → within b c ≡ true → within a c ≡ true
  pub antisymmetric : (a b : Label) → IsLabel a → IsLabel b → within a b ≡ true → within b a ≡ true → a ≡ b
  -- the empty set is least, and the union is the least upper bound
  pub least : (a : Label) → within bottom a ≡ true
  pub upper : (a b : Label) → (within a (union a b) ≡ true) × (within b (union a b) ≡ true)
  pub lowest : (a b c : Label) → within a c ≡ true → within b c ≡ true → within (union a b) c ≡ true
  -- who sees a union sees both parts
  pub seen : (observer a b : Label) → sees observer (union a b) ≡ (sees observer a && sees observer b)
