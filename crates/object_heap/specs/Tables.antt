-- Properties with an index of their keys.
use Rattle.std.specs.Prelude.{ℕ, suc, List, Option, Some, None, nat_le, if◌then◌else◌}
use Rattle.std.specs.declared.boxed.Box.{Box}
use Rattle.js_values.specs.Arrays.{higher_of, higher_if}
use Rattle.js_values.specs.Numerals.{index_of}

-- the keys of the index, and these where there is none
abbrev pub indexed : {Z : Type 0} → Option (Box (List (List ℕ)) Z) → List (List ℕ) → List (List ℕ)
indexed None keys = keys
indexed (Some index) keys = index.value

-- a bound above the element that a key names, where it names one
abbrev pub bound_with : ℕ → Option ℕ → ℕ
bound_with bound None = bound
bound_with bound (Some i) = if nat_le bound i then suc i else bound

-- the higher of two elements, or the second of equal ones
abbrev pub higher_than : {S : Type 0} → Option (ℕ × S) → Option (ℕ × S) → Option (ℕ × S)
higher_than None rest = rest
higher_than (Some e) rest = higher_of e.0 e.1 rest

-- the highest element so far, behind a property more
abbrev pub higher_behind : {S : Type 0} → ℕ → List ℕ × S → Option (ℕ × S) → Option (ℕ × S)
higher_behind n row found = higher_than found (higher_if n (index_of row.0) row.1 None)
