-- The words of a line.
use Rattle.std.specs.Prelude.{ℕ, Bool, List, [], ◌∷◌, Option, Some, None, ◌==◌, not, length}
use Rattle.std.specs.List.{slice_split, filter, before_first}

abbrev pub is_space : ℕ → Bool
is_space byte = byte == 32

-- the words of a line, which stand between runs of spaces
unfoldable pub words_of : List ℕ → List (List ℕ)
words_of line = filter (λ word. not (length word == 0)) (slice_split is_space line)

-- what stands before the first space of a line
abbrev pub first_word : List ℕ → List ℕ
first_word line = before_first is_space line

-- the word, where there is just one
unfoldable pub only_word : List (List ℕ) → Option (List ℕ)
only_word (word ∷ []) = Some word
only_word words = None

-- the words, where there are just two
unfoldable pub only_two : List (List ℕ) → Option (List ℕ × List ℕ)
only_two (first ∷ second ∷ []) = Some (first, second)
only_two words = None
