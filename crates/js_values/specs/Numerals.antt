-- How a decimal numeral is read, unit by unit.
use Rattle.std.specs.Prelude.{ℕ, ◌+◌, ◌-◌, ◌*◌, ◌==◌, ◌&&◌, nat_le, nat_lt, List, [], ◌∷◌, Option, Some, None, if◌then◌else◌}

-- the value of a decimal digit
abbrev pub digit : ℕ → Option ℕ
digit unit = if nat_le 48 unit && nat_le unit 57 then Some (unit - 48) else None

-- the value, as far as it is below 2^32 - 1
abbrev pub below_limit : ℕ → (ℕ → Option ℕ) → Option ℕ
below_limit value more = if nat_lt value 4294967295 then more value else None

abbrev pub with_digit : ℕ → Option ℕ → (ℕ → Option ℕ) → Option ℕ
with_digit value None more = None
with_digit value (Some d) more = below_limit (value * 10 + d) more

-- the value of digits that stand behind those read so far
unfoldable pub value_after : ℕ → List ℕ → Option ℕ
value_after value [] = Some value
value_after value (unit ∷ units) = with_digit value (digit unit) (λ next. value_after next units)

-- the array index that the units spell: a 0 stands first only where it stands alone
unfoldable pub index_of : List ℕ → Option ℕ
index_of [] = None
index_of (unit ∷ []) = value_after 0 (unit ∷ [])
index_of (unit ∷ next ∷ units) = if unit == 48 then None else value_after 0 (unit ∷ next ∷ units)
