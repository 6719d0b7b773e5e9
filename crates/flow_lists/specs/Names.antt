-- Names of origins and channels.
use Rattle.std.specs.Prelude.{ℕ, Bool, List, ◌==◌, nat_le, ◌&&◌, ◌||◌, length}
use Rattle.std.specs.List.{list_all}
use Rattle.std.specs.Int.{is_in_range}

-- a letter, a digit or `_`
abbrev pub is_name_unit : ℕ → Bool
is_name_unit unit = is_in_range 65 90 unit || is_in_range 97 122 unit || is_in_range 48 57 unit || unit == 95

-- 1 to 32 of these
unfoldable pub is_name : List ℕ → Bool
is_name word = nat_le 1 (length word) && nat_le (length word) 32 && list_all is_name_unit word
