-- Lists of names, as policies, upgrade directives and command lines write them.
use Rattle.std.specs.Prelude.{ℕ, Bool, List, [], ◌∷◌, ◌==◌, if◌then◌else◌}
use Rattle.std.specs.List.{slice_split, list_all}
use Rattle.std.specs.Str.{bytes_eq}
use Rattle.flow_lists.specs.Names.{is_name}

abbrev pub is_comma : ℕ → Bool
is_comma unit = unit == 44

-- `-`
abbrev pub is_bare : List ℕ → Bool
is_bare list = bytes_eq list (45 ∷ [])

-- the names of a list: none for `-`, and else what stands between single commas
unfoldable pub names_in : List ℕ → List (List ℕ)
names_in list = if is_bare list then [] else slice_split is_comma list

-- each name of the list keeps the rule for names
abbrev pub are_names : List ℕ → Bool
are_names list = list_all is_name (names_in list)
