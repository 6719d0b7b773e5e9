-- The machine of the functions of Math.
use Rattle.std.specs.Prelude.{ℕ, zero, suc, ◌+◌, Option, Some, None}
use Rattle.js_number.specs.declared.num.Num.{Num}
use Rattle.js_number.specs.declared.primitive.Primitive.TheVariants as prims
use Rattle.native_protocol.specs.declared.number_of.NumberOf.{NumberOf}
use Rattle.native_protocol.specs.declared.progress.Progress.{Progress}
use Rattle.native_protocol.specs.declared.progress.Progress.TheVariants.{Going, Ready}
use Rattle.native_protocol.specs.declared.registers.Reg.{Reg}
use Rattle.native_protocol.specs.declared.request.Answer.{Answer}
use Rattle.native_protocol.specs.declared.request.Request.{Request}
use Rattle.native_protocol.specs.Pieces.{number_asks, number_after, number_rest}
use Rattle.native_protocol.specs.Steps.{Steps, reg}
use Rattle.primitive_natives.specs.declared.ending.Ending.{Ending}
use Rattle.primitive_natives.specs.declared.ending.Ending.TheVariants as ending
use Rattle.primitive_natives.specs.declared.ending.Left.TheVariants as why
use Rattle.primitive_natives.specs.declared.math.Extreme.{Extreme}
use Rattle.primitive_natives.specs.declared.math.Extreme.TheVariants.{Greatest, Least}
use Rattle.primitive_natives.specs.declared.math.MathCall.{MathCall}
use Rattle.primitive_natives.specs.declared.math.MathCall.TheVariants as call
use Rattle.primitive_natives.specs.declared.math.MathFunction.{MathFunction}
use Rattle.primitive_natives.specs.declared.math.MathFunction.TheVariants as function
use Rattle.primitive_natives.specs.declared.math.Comparing.{Comparing}
use Rattle.primitive_natives.specs.declared.scratch.Scratch.{Scratch}
use Rattle.primitive_natives.specs.Endings.{gives}
use Rattle.primitive_natives.specs.Maths.{absolute_of, larger, smaller, best_with, math_abs, math_max, math_min}
use Rattle.primitive_natives.specs.NumberMachine.{number_at}
use Rattle.primitive_natives.specs.Registers.{scratch}

abbrev pub better : Extreme → Num → Num → Num
better Greatest m n = larger m n
better Least m n = smaller m n

-- the best number so far, with one more
abbrev pub best_and : Extreme → Option Num → Num → Num
best_and extreme None n = n
best_and extreme (Some best) n = better extreme best n

abbrev pub comparing : Extreme → Option Num → ℕ → ℕ → Scratch → Comparing
comparing extreme best at left s = record { extreme = extreme; best = best; at = at; left = left; scratch = s }

-- the argument in the register is converted
abbrev pub converts : Comparing → Progress MathCall Ending
converts c = Going (call.Best c (number_at (reg c.at) c.scratch))

-- ---- how it begins

abbrev pub best_begin : Extreme → ℕ → Progress MathCall Ending
best_begin extreme zero = Ready (ending.Leave why.Number)
best_begin extreme (suc others) = converts (comparing extreme None 2 others (scratch (suc others)))

abbrev pub math_begin : MathFunction → ℕ → Progress MathCall Ending
math_begin function.Abs argc = Going (call.Abs (number_at (reg 2) (scratch argc)) (scratch argc).first)
math_begin function.Max argc = best_begin Greatest argc
math_begin function.Min argc = best_begin Least argc

-- ---- what it asks for, and where an answer leads

abbrev pub math_asks : MathCall → Request
math_asks (call.Abs number to) = number_asks number
math_asks (call.Best c number) = number_asks number

abbrev pub absolute : Progress NumberOf Num → Reg → Progress MathCall Ending
absolute (Going number) to = Going (call.Abs number to)
absolute (Ready n) to = Ready (ending.Give (prims.Num (absolute_of n)) to)

-- the best number so far, and so many arguments more
abbrev pub best_found : Comparing → ℕ → Num → Progress MathCall Ending
best_found c zero best = Ready (ending.Give (prims.Num best) c.scratch.first)
best_found c (suc left) best = converts (comparing c.extreme (Some best) (c.at + 1) left c.scratch)

abbrev pub best_converted : Comparing → Progress NumberOf Num → Progress MathCall Ending
best_converted c (Going number) = Going (call.Best c number)
best_converted c (Ready n) = best_found c c.left (best_and c.extreme c.best n)

abbrev pub math_after : MathCall → Answer → Progress MathCall Ending
math_after (call.Abs number to) a = absolute (number_after number a) to
math_after (call.Best c number) a = best_converted c (number_after number a)

-- ---- which steps are still to take

abbrev pub best_rest : Comparing → Num → Steps
best_rest c n = best_with (better c.extreme) c.scratch c.left (c.at + 1) (best_and c.extreme c.best n)

abbrev pub math_rest : MathCall → Steps
math_rest (call.Abs number to) = number_rest number (λ n. gives (prims.Num (absolute_of n)) to)
math_rest (call.Best c number) = number_rest number (best_rest c)

-- the clause of each
abbrev pub math_clause : MathFunction → ℕ → Steps
math_clause function.Abs argc = math_abs argc
math_clause function.Max argc = math_max argc
math_clause function.Min argc = math_min argc
