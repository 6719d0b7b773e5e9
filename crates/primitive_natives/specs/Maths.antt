-- Functions of Math (ECMA-262 15.8.2): each converts its arguments by ToNumber, from the left.
use Rattle.std.specs.Prelude.{ℕ, zero, suc, ◌+◌, if◌then◌else◌, pos, int_lt, unsigned_abs, codes}
use Rattle.js_number.specs.declared.num.Num.{Num}
use Rattle.js_number.specs.declared.num.Num.TheVariants.{Nan, Int}
use Rattle.js_number.specs.declared.primitive.Primitive.TheVariants as prims
use Rattle.native_protocol.specs.Steps.{Steps, leaves, reg, number_of_register}
use Rattle.primitive_natives.specs.declared.scratch.Scratch.{Scratch}
use Rattle.primitive_natives.specs.Endings.{gives}
use Rattle.primitive_natives.specs.Registers.{scratch}

-- Math.abs (15.8.2.1)
abbrev pub absolute_of : Num → Num
absolute_of Nan = Nan
absolute_of (Int n) = Int (pos (unsigned_abs n))

abbrev pub math_abs : ℕ → Steps
math_abs argc = number_of_register (reg 2) (scratch argc).first (scratch argc).second (λ n. gives (prims.Num (absolute_of n)) (scratch argc).first)

-- the larger and the smaller of two numbers: NaN where one of them is NaN
abbrev pub larger : Num → Num → Num
larger (Int m) (Int n) = if int_lt m n then Int n else Int m
larger (Int m) Nan = Nan
larger Nan n = Nan

abbrev pub smaller : Num → Num → Num
smaller (Int m) (Int n) = if int_lt n m then Int n else Int m
smaller (Int m) Nan = Nan
smaller Nan n = Nan

-- so many arguments from this register on, and the best number before them
unfoldable pub best_with : (Num → Num → Num) → Scratch → ℕ → ℕ → Num → Steps
best_with better s zero at best = gives (prims.Num best) s.first
best_with better s (suc left) at best = number_of_register (reg at) s.first s.second (λ n. best_with better s left (at + 1) (better best n))

-- the best of the arguments: of none it is an infinity
abbrev pub best_of : (Num → Num → Num) → ℕ → Steps
best_of better zero = leaves (codes "number")
best_of better (suc others) = number_of_register (reg 2) (scratch (suc others)).first (scratch (suc others)).second (λ n. best_with better (scratch (suc others)) others 3 n)

-- Math.max (15.8.2.11)
abbrev pub math_max : ℕ → Steps
math_max argc = best_of larger argc

-- Math.min (15.8.2.12)
abbrev pub math_min : ℕ → Steps
math_min argc = best_of smaller argc
