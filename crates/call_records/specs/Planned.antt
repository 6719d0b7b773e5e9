-- The names that the record of a call begins with, and their places. They depend on the function alone.
use Rattle.std.specs.Prelude.{◌≡◌, ℕ, Bool, true, false, List, [], ◌∷◌, ◌++◌, Option, Some, None, length, map}
use Rattle.js_ast.specs.Trees.{Ident, Function, name_of, params_of, body_of}
use Rattle.env_records.specs.Layouts.{LaidName, first_place}
use Rattle.es_meaning.specs.Declared.{declared_functions, declared_statements}
use Rattle.es_meaning.specs.Functions.{this_name, function_name, name_text}
use Rattle.es_meaning.specs.Naming.{arguments_name, names_in_statements}

abbrev pub names : Bool → List ℕ → List LaidName
names mutable name = record { name = name; mutable = mutable } ∷ []

-- a name more, unless it has a place
abbrev pub with_name_at : Option ℕ → List ℕ → List LaidName → List LaidName
with_name_at None name ns = ns ++ names true name
with_name_at (Some place) name ns = ns

abbrev pub with_name : List ℕ → List LaidName → List LaidName
with_name name ns = with_name_at (first_place name ns) name ns

-- such names in turn
abbrev pub with_names : List (List ℕ) → List LaidName → List LaidName
with_names [] ns = ns
with_names (name ∷ more) ns = with_names more (with_name name ns)

-- ---- the names of a function

abbrev pub parameter_names : List Ident → List (List ℕ)
parameter_names ps = map (λ p. p.text) ps

abbrev pub function_names : List Function → List (List ℕ)
function_names fs = map (λ f. name_text (name_of f)) fs

-- that of the `arguments` object, where the code names it and it has no place yet, and its place
abbrev pub with_arguments_at : Option ℕ → List LaidName → List LaidName
with_arguments_at None ns = ns ++ names false arguments_name
with_arguments_at (Some place) ns = ns

abbrev pub with_arguments_name : Bool → List LaidName → List LaidName
with_arguments_name true ns = with_arguments_at (first_place arguments_name ns) ns
with_arguments_name false ns = ns

abbrev pub place_behind : Option ℕ → List LaidName → Option ℕ
place_behind None ns = Some (length ns)
place_behind (Some place) ns = None

abbrev pub arguments_place : Bool → List LaidName → Option ℕ
arguments_place true ns = place_behind (first_place arguments_name ns) ns
arguments_place false ns = None

-- `this` and the function, the parameters, and the functions that are declared
abbrev pub names_before : Function → List LaidName
names_before f = with_names (function_names (declared_functions (body_of f))) (with_names (parameter_names (params_of f)) (names false this_name ++ names false function_name))

-- and then `arguments`, and the variables
abbrev pub layout_of : Function → List LaidName
layout_of f = with_names (declared_statements (body_of f)) (with_arguments_name (names_in_statements (body_of f)) (names_before f))

-- ---- places

-- names have these places
abbrev pub ArePlaces : List LaidName → List (List ℕ) → List ℕ → Type 0
ArePlaces ns [] [] = Unit {0}
ArePlaces ns [] (place ∷ places) = ⊥
ArePlaces ns (name ∷ more) [] = ⊥
ArePlaces ns (name ∷ more) (place ∷ places) = (first_place name ns ≡ Some place) × ArePlaces ns more places

-- names are added where they aren't there, and their places to a list of such
pub record Adds (more : List (List ℕ)) (old new : List LaidName) (places_old places_new : List ℕ) : Type 0 where
  pub names : new ≡ with_names more old
  pub places : (before : List (List ℕ)) → ArePlaces old before places_old → ArePlaces new (before ++ more) places_new

-- what a call of a function needs
pub record IsPlanned (f : Function) (names_arguments : Bool) (layout : List LaidName) (places function_places : List ℕ) (own_place : Option ℕ) : Type 0 where
  pub named : names_arguments ≡ names_in_statements (body_of f)
  pub names : layout ≡ layout_of f
  pub parameters : ArePlaces layout (parameter_names (params_of f)) places
  pub functions : ArePlaces layout (function_names (declared_functions (body_of f))) function_places
  pub arguments : own_place ≡ arguments_place (names_in_statements (body_of f)) (names_before f)
