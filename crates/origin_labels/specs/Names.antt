-- Lists of distinct names, each a text.
use Rattle.std.specs.Prelude.{ℕ, Bool, List, Option, ◌≢◌, ◌<◌, length}
use Rattle.std.specs.List.{position, list_any, slice_index_or}
use Rattle.std.specs.Str.{bytes_eq}

-- whether two names are one
abbrev pub same_name : List ℕ → List ℕ → Bool
same_name a b = bytes_eq a b

-- whether the name stands in the list
unfoldable pub has_name : List ℕ → List (List ℕ) → Bool
has_name name names = list_any (λ other. same_name other name) names

-- the first place at which the name stands
unfoldable pub place_of : List ℕ → List (List ℕ) → Option ℕ
place_of name names = position (λ other. same_name other name) names

-- no name stands at two places
abbrev pub AreDistinct : List (List ℕ) → Type 0
AreDistinct names = (i j : ℕ) (d : List ℕ) → i < j → j < length names → slice_index_or names i d ≢ slice_index_or names j d
