-- Numbers, and the answer of an operation whose ECMAScript result is a number, or is none.
use Rattle.std.specs.Prelude.{Bool, true, false, ℤ, pos, Option, Some, None, Result, Ok, Err, if◌then◌else◌}
use Rattle.js_number.specs.declared.int.LeftNumbers.{LeftNumbers}
use Rattle.js_number.specs.declared.num.Num.{Num}
use Rattle.js_number.specs.declared.num.Num.TheVariants.{Nan, Int}
use Rattle.js_number.specs.Profile.{in_profile}

-- the integer, or LeftNumbers where it is no number of the profile
abbrev pub number : ℤ → Result Num LeftNumbers
number n = if in_profile n then Ok (Int n) else Err (record {})

-- that of an integer, and LeftNumbers where there is none, as for a fraction or an infinity
abbrev pub some_number : Option ℤ → Result Num LeftNumbers
some_number (Some n) = number n
some_number None = Err (record {})

-- that of an integer, and NaN where there is none
abbrev pub number_or_nan : Option ℤ → Result Num LeftNumbers
number_or_nan (Some n) = number n
number_or_nan None = Ok Nan

-- 1 for true and 0 for false
abbrev pub number_of_bool : Bool → ℤ
number_of_bool true = pos 1
number_of_bool false = pos 0

-- ToInteger (ECMA-262 9.4), which ToInt32 and ToUint32 (9.5, 9.6) begin with: NaN counts as 0
abbrev pub integer_of : Num → ℤ
integer_of Nan = pos 0
integer_of (Int n) = n

-- an operation on two numbers (ECMA-262 11.5, 11.6.3): NaN where an operand is NaN
abbrev pub of_integers : (ℤ → ℤ → Result Num LeftNumbers) → Num → Num → Result Num LeftNumbers
of_integers f (Int m) (Int n) = f m n
of_integers f (Int m) Nan = Ok Nan
of_integers f Nan n = Ok Nan
