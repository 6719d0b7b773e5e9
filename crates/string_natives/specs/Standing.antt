-- Places in a list.
use Rattle.std.specs.Prelude.{◌≡◌, ℕ, List, Some, slice_get}

-- what stands at a place of a list
pub record StandsAt {R : Type 0} (table : List R) (which : ℕ) (row : R) : Type 0 where
  pub at : slice_get table which ≡ Some row
