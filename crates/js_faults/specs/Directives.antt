-- Upgrade directives: expression statements that are one string literal whose value begins with `flow `. In ECMAScript they do nothing.
use Rattle.std.specs.Prelude.{ℕ, List, [], ◌∷◌, Bool, true, false, not, ◌==◌, ◌&&◌, ◌||◌, Option, Some, None, codes, nat_eq}
use Rattle.std.specs.List.{slice_split, starts_with}
use Rattle.std.specs.Str.{bytes_eq}
use Rattle.flow_lists.specs.Lists.{are_names}
use Rattle.js_scan.specs.Names.{is_identifier}
use Rattle.js_ast.specs.Trees.{Expr, string, Statement, expression}
use Rattle.js_faults.specs.declared.directives.BadDirective.{BadDirective}
use Rattle.js_faults.specs.Faults.{Own, Order}

abbrev pub is_space : ℕ → Bool
is_space unit = unit == 32

-- `@` and a label
abbrev pub is_label : List ℕ → Bool
is_label [] = false
is_label (u ∷ text) = u == 64 && is_identifier text

-- the words of a directive are cut at each space, so that two spaces in turn have an empty word between them
unfoldable pub words_of : List ℕ → List (List ℕ)
words_of units = slice_split is_space units

-- a jump that a loop, a `switch` or a label stops
abbrev pub is_jump : List ℕ → Bool
is_jump what = bytes_eq what (codes "break") || bytes_eq what (codes "continue")

-- the jump whose label is raised
abbrev pub is_raised : List ℕ → Bool
is_raised what = bytes_eq what (codes "exc") || (bytes_eq what (codes "ret") || is_jump what)

-- `flow`, what is raised, a label behind it or none, and a list of origins
abbrev pub parts_of : List (List ℕ) → Option (List ℕ × (Option (List ℕ) × List ℕ))
parts_of (flow ∷ what ∷ list ∷ []) = Some (what, (None, list))
parts_of (flow ∷ what ∷ label ∷ list ∷ []) = Some (what, (Some label, list))
parts_of _ = None

unfoldable pub parts_in : List ℕ → Option (List ℕ × (Option (List ℕ) × List ℕ))
parts_in units = parts_of (words_of units)

-- only a jump has a label
abbrev pub are_parts : Option (List ℕ × (Option (List ℕ) × List ℕ)) → Bool
are_parts (Some (what, (None, list))) = is_raised what && are_names list
are_parts (Some (what, (Some label, list))) = is_jump what && (is_label label && are_names list)
are_parts None = false

-- a value is that of a directive
unfoldable pub is_directive : List ℕ → Bool
is_directive units = starts_with nat_eq units (codes "flow ")

-- and it has the form of one
unfoldable pub has_form : List ℕ → Bool
has_form units = are_parts (parts_in units)

-- the value of a directive
abbrev pub directive_by : Bool → List ℕ → Option (List ℕ)
directive_by true units = Some units
directive_by false units = None

abbrev pub directive_in : Expr → Option (List ℕ)
directive_in (string at text units) = directive_by (is_directive units) units
directive_in _ = None

abbrev pub directive_of : Statement → Option (List ℕ)
directive_of (expression at e semi) = directive_in e
directive_of _ = None

-- a directive without a form of one, at the statement
abbrev pub bad_if : Bool → ℕ → List BadDirective
bad_if true at = record { at = at } ∷ []
bad_if false at = []

abbrev pub of_directive : ℕ → Option (List ℕ) → List BadDirective
of_directive at (Some units) = bad_if (not (has_form units)) at
of_directive at None = []

-- the same of a statement
unfoldable pub without_form : Statement → List BadDirective
without_form (expression at e semi) = of_directive at (directive_in e)
without_form _ = []

-- nothing is told of other nodes
abbrev pub directives : Own BadDirective
directives = record { expr = λ e. []; function = λ f. []; statement = λ s statement. without_form statement }

abbrev pub by_place : Order BadDirective
by_place = record { at = λ d. d.at; row = λ d. 0 }
