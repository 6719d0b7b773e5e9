-- Tables of built-ins: what they are called, and which steps they take.
use Rattle.std.specs.Prelude.{ℕ, Bool, List, [], ◌++◌, map, codes, if◌then◌else◌}
use Rattle.std.specs.Str.{bytes_eq}
use Rattle.flow_text.specs.Utf8.{units_of}
use Rattle.native_protocol.specs.declared.natives.Form.TheVariants as form
use Rattle.native_protocol.specs.Sets.{SeenEntry, seen_entry}
use Rattle.native_protocol.specs.Steps.{Steps, leaves}

-- a built-in, and its steps by the number of its arguments and whether it constructs
pub record Row : Type 0 where
  pub entry : SeenEntry
  pub clause : ℕ → Bool → Steps

abbrev pub as_constructor : List ℕ → List ℕ → ℕ → (ℕ → Bool → Steps) → Row
as_constructor holder name size clause = record { entry = seen_entry holder name size form.Constructor; clause = clause }

abbrev pub function : List ℕ → List ℕ → ℕ → (ℕ → Steps) → Row
function holder name size clause = record { entry = seen_entry holder name size form.Function; clause = λ argc construct. clause argc }

-- what isn't offered has a dotted path, and on the global object its name alone
abbrev pub path : List ℕ → List ℕ → List ℕ
path holder name = if bytes_eq holder (codes "global") then units_of name else units_of holder ++ codes "." ++ units_of name

-- what isn't offered: its call leaves
abbrev pub left_out : SeenEntry → Steps
left_out e = leaves (path e.holder e.name)

abbrev pub left_function : List ℕ → List ℕ → ℕ → Row
left_function holder name size = record { entry = seen_entry holder name size form.LeftFunction; clause = λ argc construct. left_out (seen_entry holder name size form.LeftFunction) }

abbrev pub left_constructor : List ℕ → List ℕ → ℕ → Row
left_constructor holder name size = record { entry = seen_entry holder name size form.Constructor; clause = λ argc construct. left_out (seen_entry holder name size form.Constructor) }

abbrev pub entries_of : List Row → List SeenEntry
entries_of rows = map (λ r. r.entry) rows

abbrev pub clauses_of : List Row → List (ℕ → Bool → Steps)
clauses_of rows = map (λ r. r.clause) rows

-- no built-in
abbrev pub none : SeenEntry
none = seen_entry [] [] 0 form.LeftFunction
