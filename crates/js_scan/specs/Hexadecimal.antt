-- Hexadecimal digits as they are read.
use Rattle.std.specs.Prelude.{ℕ, List, length, take, Bool, nat_le, ◌&&◌, Option, Some, None, if◌then◌else◌}
use Rattle.std.specs.List.{list_all}
use Rattle.std.specs.Char.{is_digit}
use Rattle.std.specs.Str.Parse.{digits_value}

-- so many hexadecimal digits stand at the front
abbrev pub begins_with_hexadecimal : ℕ → List ℕ → Bool
begins_with_hexadecimal count us = nat_le count (length us) && list_all (λ u. is_digit u 16) (take count us)

-- the number that they write
unfoldable pub hexadecimal_value : ℕ → List ℕ → Option ℕ
hexadecimal_value count us = if begins_with_hexadecimal count us then Some (digits_value 16 (take count us)) else None
