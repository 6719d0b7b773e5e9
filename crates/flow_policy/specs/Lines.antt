-- The lines of a file.
use Rattle.std.specs.Prelude.{ℕ, Bool, List, [], ◌∷◌, ◌==◌, length, if◌then◌else◌}
use Rattle.std.specs.List.{slice_split}

abbrev pub is_line_end : ℕ → Bool
is_line_end byte = byte == 10

-- without one CR at its end
unfoldable pub without_cr : List ℕ → List ℕ
without_cr [] = []
without_cr (byte ∷ []) = if byte == 13 then [] else byte ∷ []
without_cr (byte ∷ next ∷ bytes) = byte ∷ without_cr (next ∷ bytes)

-- of the parts that LFs cut: each that an LF ends, without one CR, and the rest behind the last LF if there is one
unfoldable pub lines_of_parts : List (List ℕ) → List (List ℕ)
lines_of_parts [] = []
lines_of_parts (rest ∷ []) = if length rest == 0 then [] else rest ∷ []
lines_of_parts (part ∷ next ∷ parts) = without_cr part ∷ lines_of_parts (next ∷ parts)

-- the lines of a policy or an input
unfoldable pub lines_of : List ℕ → List (List ℕ)
lines_of bytes = lines_of_parts (slice_split is_line_end bytes)

unfoldable pub all_but_last : List (List ℕ) → List (List ℕ)
all_but_last [] = []
all_but_last (part ∷ []) = []
all_but_last (part ∷ next ∷ parts) = part ∷ all_but_last (next ∷ parts)

-- the lines of output: each that an LF ends, as it stands; a rest without an LF is no line
unfoldable pub whole_lines : List ℕ → List (List ℕ)
whole_lines bytes = all_but_last (slice_split is_line_end bytes)
