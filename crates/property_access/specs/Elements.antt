-- Keys that name the `length` of an array.
use Rattle.std.specs.Prelude.{ℕ, Bool, false, List, Option, Some, None}
use Rattle.js_values.specs.Arrays.{is_length}
use Rattle.js_values.specs.Objects.{Object}

-- the key names the `length` of the object that there may be, which is an array
abbrev pub length_in : {T : Type 0} → List ℕ → Option (Object T) → Bool
length_in key None = false
length_in key (Some p) = is_length p.class key
