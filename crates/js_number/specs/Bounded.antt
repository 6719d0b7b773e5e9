-- What the reader of numbers holds of a value: it, or that it is too large.
use Rattle.std.specs.Prelude.{ℕ, ◌-◌, ◌^◌, min, nat_lt, Option, Some, None, if◌then◌else◌}
use Rattle.js_number.specs.declared.numeric_text.PowerOfTen.{PowerOfTen}
use Rattle.js_number.specs.declared.numeric_text.Spelled.{Spelled}
use Rattle.js_number.specs.declared.numeric_text.Spelled.TheVariants.{NoLiteral, NoInteger, Integer}
use Rattle.js_number.specs.NumericText.{integer_if}

-- the value, where it is below 2 ^ 53
abbrev pub bounded : Option ℕ → Option ℕ
bounded (Some n) = if nat_lt n (2 ^ 53) then Some n else None
bounded None = None

-- what a text spells, where an integer of 2 ^ 53 and more is as one that isn't there
abbrev pub bounded_spelled : Spelled → Spelled
bounded_spelled (Integer n) = integer_if (bounded (Some n))
bounded_spelled NoInteger = NoInteger
bounded_spelled NoLiteral = NoLiteral

-- the value, or the greatest `usize` where it is more
abbrev pub capped : ℕ → ℕ
capped n = min n (2 ^ 64 - 1)

-- the power of ten with its size cut so
abbrev pub cut : Option PowerOfTen → Option PowerOfTen
cut (Some power) = Some (record { negative = power.negative; size = capped power.size })
cut None = None
