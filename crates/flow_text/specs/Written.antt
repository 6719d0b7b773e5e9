-- How a text is written on a line of its own.
use Rattle.std.specs.Prelude.{ℕ, List, [], ◌∷◌, ◌==◌, if◌then◌else◌}
use Rattle.std.specs.List.{flat_map}

-- a backslash as `\\`, LF as `\n`, CR as `\r`, and any other unit as itself
unfoldable pub escaped_unit : ℕ → List ℕ
escaped_unit u = if u == 92 then 92 ∷ 92 ∷ [] else (if u == 10 then 92 ∷ 110 ∷ [] else (if u == 13 then 92 ∷ 114 ∷ [] else u ∷ []))

unfoldable pub escaped : List ℕ → List ℕ
escaped units = flat_map escaped_unit units
