-- Texts: lists of UTF-16 units (ECMA-262 8.4).
use Rattle.std.specs.Prelude.{ℕ, ◌<◌, List, [], Option, Some, None}
use Rattle.std.specs.List.{All}
use Rattle.std.specs.declared.rc.Rc.{Rc}

-- each unit is a 16-bit number
abbrev pub AreUnits : List ℕ → Type 0
AreUnits units = All (λ u. u < 65536) units

-- the units that a text shares with others, if it has any
abbrev pub units_in : {Z : Type 0} → Option (Rc (List ℕ) Z) → List ℕ
units_in None = []
units_in (Some shared) = shared.value
