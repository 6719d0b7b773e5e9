-- Functions in the order of their first tokens.
use Rattle.std.specs.Prelude.{◌≡◌, ◌<◌, ◌^◌, ℕ, Bool, true, false, List, [], ◌∷◌, Option, Some, None, length, map, leb, nat_eq, slice_get, if◌then◌else◌}
use Rattle.js_ast.specs.Trees.{Function}
use Rattle.js_ast.specs.declared.trees.Function as tree
use Rattle.js_ast.specs.Held.{code_of}
use Rattle.js_ast.specs.Functions.{FunctionCode}
use Rattle.es_meaning.specs.Functions.{begins_at}

-- functions in memory, by what they show
abbrev pub table : List tree.Function → List FunctionCode
table fs = map code_of fs

-- each begins at a higher place than the one before, and the first above this one
abbrev pub rises_after : ℕ → List FunctionCode → Bool
rises_after last [] = true
rises_after last (f ∷ fs) = if leb (begins_at f.function) last then false else rises_after (begins_at f.function) fs

abbrev pub rises : List FunctionCode → Bool
rises [] = true
rises (f ∷ fs) = rises_after (begins_at f.function) fs

-- so many are known by a number, and where they are said to be in order they are
pub record AreTabled (functions : List FunctionCode) (in_order : Bool) : Type 0 where
  pub few : length functions < 2 ^ 32
  pub ordered : in_order ≡ true → rises functions ≡ true

-- the function with a number begins where another one does
abbrev pub begins_where : Option FunctionCode → Function → Bool
begins_where None f = false
begins_where (Some code) f = nat_eq (begins_at code.function) (begins_at f)

abbrev pub begins_there : List FunctionCode → ℕ → Function → Bool
begins_there functions number f = begins_where (slice_get functions number) f
