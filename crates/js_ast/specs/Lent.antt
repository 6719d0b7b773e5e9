-- What lending the functions of a program does: slots for the functions from a first number on, and a walk that fills them.
use Rattle.std.specs.Prelude.{ℕ, ◌-◌, List, [], ◌∷◌, leb, if◌then◌else◌, set, Option, Some, None}
use Rattle.js_ast.specs.Functions.{FunctionCode}

-- a function takes its slot, where it has one
abbrev pub put : ℕ → List (Option (ℕ × FunctionCode)) → ℕ × FunctionCode → List (Option (ℕ × FunctionCode))
put first slots f = if leb first f.0 then set slots (f.0 - first) (Some f) else slots

-- functions take their slots in turn
unfoldable pub filled : ℕ → List (Option (ℕ × FunctionCode)) → List (ℕ × FunctionCode) → List (Option (ℕ × FunctionCode))
filled first slots [] = slots
filled first slots (f ∷ fs) = filled first (put first slots f) fs

-- the functions that have taken a slot
abbrev pub taken : List (Option (ℕ × FunctionCode)) → List (ℕ × FunctionCode)
taken [] = []
taken (None ∷ slots) = taken slots
taken (Some f ∷ slots) = f ∷ taken slots
