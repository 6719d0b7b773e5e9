-- What stands round a statement in its function.
use Rattle.std.specs.Prelude.{ℕ, List, [], ◌∷◌, Bool, true, false, ◌&&◌, ◌||◌}
use Rattle.std.specs.Str.{bytes_eq}
use Rattle.js_ast.specs.Trees.{Statement, do_while, while, for, for_in, labelled}

pub record Scope : Type 0 where
  -- it stands in a function
  pub in_function : Bool
  -- a loop stands round it
  pub in_loop : Bool
  -- a `switch` stands round it
  pub in_switch : Bool
  -- the labels of the statements round it, and whether each names a loop; the innermost first
  pub labels : List (List ℕ × Bool)

-- the outermost code
abbrev pub outermost : Scope
outermost = record { in_function = false; in_loop = false; in_switch = false; labels = [] }

-- the body of a function
abbrev pub in_body : Scope
in_body = record { in_function = true; in_loop = false; in_switch = false; labels = [] }

-- the body of a loop
abbrev pub looped : Scope → Scope
looped s = record { in_function = s.in_function; in_loop = true; in_switch = s.in_switch; labels = s.labels }

-- the clauses of a `switch`
abbrev pub switched : Scope → Scope
switched s = record { in_function = s.in_function; in_loop = s.in_loop; in_switch = true; labels = s.labels }

-- a loop, also behind labels of its own (ECMA-262 12.12: it has each of them in its label set)
abbrev pub is_loop : Statement → Bool
is_loop (do_while at s e semi) = true
is_loop (while at e s) = true
is_loop (for at first test step s) = true
is_loop (for_in at target e s) = true
is_loop (labelled at text s) = is_loop s
is_loop _ = false

-- the statement behind a label
abbrev pub labelled_by : List ℕ → Statement → Scope → Scope
labelled_by text statement s = record { in_function = s.in_function; in_loop = s.in_loop; in_switch = s.in_switch; labels = (text, is_loop statement) ∷ s.labels }

-- a statement has this label, or a loop has it
abbrev pub has_label : List ℕ → List (List ℕ × Bool) → Bool
has_label text [] = false
has_label text (label ∷ labels) = bytes_eq label.0 text || has_label text labels

abbrev pub has_loop : List ℕ → List (List ℕ × Bool) → Bool
has_loop text [] = false
has_loop text (label ∷ labels) = (bytes_eq label.0 text && label.1) || has_loop text labels

-- a label names a statement round this one, or a loop round it
abbrev pub names_statement : List ℕ → Scope → Bool
names_statement text s = has_label text s.labels

abbrev pub names_loop : List ℕ → Scope → Bool
names_loop text s = has_loop text s.labels
