-- The origins that a list names.
use Rattle.std.specs.Prelude.{ℕ, Bool, List, map}
use Rattle.std.specs.Option.{unwrap_or}
use Rattle.std.specs.List.{list_all}
use Rattle.origin_labels.specs.Label.{Label, label_of}
use Rattle.origin_labels.specs.Names.{has_name, place_of}
use Rattle.flow_lists.specs.Lists.{names_in}

-- each name of the list is a declared origin
abbrev pub are_declared : List (List ℕ) → List ℕ → Bool
are_declared origins list = list_all (λ name. has_name name origins) (names_in list)

-- the numbers of names of declared origins
abbrev pub numbers_of : List (List ℕ) → List (List ℕ) → List ℕ
numbers_of origins names = map (λ name. unwrap_or (place_of name origins) 0) names

-- the set of the list's origins, by their numbers
unfoldable pub label_in : List (List ℕ) → List ℕ → Label
label_in origins list = label_of (numbers_of origins (names_in list))
