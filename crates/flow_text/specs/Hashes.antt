-- The hash of a text's units, which is kept with them.
use Rattle.std.specs.Prelude.{ℕ, ◌+◌, ◌*◌, ◌%◌, List}
use Rattle.std.specs.List.{fold}

-- one unit more
unfoldable pub hash_step : ℕ → ℕ → ℕ
hash_step hash unit = ((hash * 16777619) % 4294967296 + unit) % 4294967296

unfoldable pub hash_of : List ℕ → ℕ
hash_of units = fold hash_step 0 units
