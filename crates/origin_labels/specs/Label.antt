-- A label is a finite set of origins. It is held as the list of their numbers in rising order, so that each set has one
-- list, equal sets are equal lists, and a label is printed from its list.
use Rattle.std.specs.Prelude.{ℕ, Bool, List, [], ◌∷◌, ◌==◌, nat_lt, if◌then◌else◌}
use Rattle.std.specs.List.{list_any, list_all}
use Rattle.std.specs.List.Sorted.{IsStrictlyIncreasing}

abbrev pub Label : Type 0
Label = List ℕ

-- the list is one of a label
abbrev pub IsLabel : Label → Type 0
IsLabel label = IsStrictlyIncreasing label

-- the empty set, and the set of one origin
abbrev pub bottom : Label
bottom = []

abbrev pub single : ℕ → Label
single origin = origin ∷ []

-- whether the origin is in the set
unfoldable pub has : ℕ → Label → Bool
has origin label = list_any (λ k. k == origin) label

-- the set with the origin, in its place
unfoldable pub with_origin : ℕ → Label → Label
with_origin origin [] = origin ∷ []
with_origin origin (k ∷ label) = if nat_lt origin k then origin ∷ k ∷ label else (if origin == k then k ∷ label else k ∷ with_origin origin label)

-- the union of two sets
unfoldable pub union : Label → Label → Label
union [] other = other
union (k ∷ label) other = with_origin k (union label other)

-- the union of sets of one origin each
unfoldable pub label_of : List ℕ → Label
label_of [] = bottom
label_of (k ∷ origins) = with_origin k (label_of origins)

-- each origin of the first set is in the second
unfoldable pub within : Label → Label → Bool
within label other = list_all (λ k. has k other) label

-- an observer, who is a set of origins, sees a label that is included in it
abbrev pub sees : Label → Label → Bool
sees observer label = within label observer
