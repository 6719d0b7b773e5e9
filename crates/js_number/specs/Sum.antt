-- The operator + (ECMA-262 11.6.1).
use Rattle.std.specs.Prelude.{◌≡◌, ℕ, ◌+◌, List, ◌++◌, length, nat_le, Result, Ok, Err, if◌then◌else◌}
use Rattle.js_number.specs.declared.int.LeftNumbers.{LeftNumbers}
use Rattle.js_number.specs.declared.num.Num.{Num as Number}
use Rattle.js_number.specs.declared.primitive.Primitive.{Primitive}
use Rattle.js_number.specs.declared.primitive.Primitive.TheVariants.{Num, Str}
use Rattle.js_number.specs.declared.sum.AddFault.{AddFault}
use Rattle.js_number.specs.declared.sum.AddFault.TheVariants as faults
use Rattle.js_number.specs.Arithmetic.{added}
use Rattle.js_number.specs.Conversions.{number_of, text_of}

-- two texts joined, unless they are together longer than a string may be
abbrev pub joined : List ℕ → List ℕ → Result Primitive AddFault
joined s t = if nat_le (length s + length t) 1_048_576 then Ok (Str (s ++ t)) else Err faults.LeftString

-- a sum as a primitive value
abbrev pub as_sum : Result Number LeftNumbers → Result Primitive AddFault
as_sum (Ok n) = Ok (Num n)
as_sum (Err left) = Err faults.LeftNumbers

-- the sum of two numbers, where both are there
abbrev pub summed : Result Number LeftNumbers → Result Number LeftNumbers → Result Primitive AddFault
summed (Ok m) (Ok n) = as_sum (added m n)
summed (Ok m) (Err left) = Err faults.LeftNumbers
summed (Err left) _ = Err faults.LeftNumbers

-- x + y (ECMA-262 11.6.1) of primitive values: texts where one of them is one, and else numbers
abbrev pub sum_of : Primitive → Primitive → Result Primitive AddFault
sum_of (Str s) y = joined s (text_of y)
sum_of x (Str t) = joined (text_of x) t
sum_of x y = summed (number_of x) (number_of y)

-- the answer is that sum, unless memory ran out
abbrev pub GivesSum : Result Primitive AddFault → Result Primitive AddFault → Type 0
GivesSum (Err faults.OutOfMemory) sum = Unit {0}
GivesSum answer sum = answer ≡ sum
