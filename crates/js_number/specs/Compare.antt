-- Comparisons of primitive values (ECMA-262 9.12, 11.8.5, 11.9.3, 11.9.6).
use Rattle.std.specs.Prelude.{Bool, true, false, ℤ, int_lt, Option, Some, None, Result, Ok, Err}
use Rattle.std.specs.Ordering.{nat_cmp, int_eq, is_lt}
use mathlib.Core.Bool.{beq}
use Rattle.std.specs.Cmp.Lexicographic.{slice_cmp}
use Rattle.std.specs.Str.{bytes_eq}
use Rattle.js_number.specs.declared.int.LeftNumbers.{LeftNumbers}
use Rattle.js_number.specs.declared.num.Num.{Num as Number}
use Rattle.js_number.specs.declared.num.Num.TheVariants.{Nan, Int}
use Rattle.js_number.specs.declared.primitive.Primitive.{Primitive}
use Rattle.js_number.specs.declared.primitive.Primitive.TheVariants.{Undefined, Null, Num, Str}
use Rattle.js_number.specs.declared.primitive.Primitive.TheVariants as prims
use Rattle.js_number.specs.NumericText.{number_of_text}
use Rattle.js_number.specs.Number.{number_of_bool}
use Rattle.js_number.specs.Conversions.{number_of}

-- x === y and x == y of numbers (ECMA-262 11.9.6, step 4, and 11.9.3, step 1.c): NaN is equal to nothing, itself included
abbrev pub equal_numbers : Number → Number → Bool
equal_numbers (Int m) (Int n) = int_eq m n
equal_numbers (Int m) Nan = false
equal_numbers Nan n = false

-- x === y (ECMA-262 11.9.6)
abbrev pub strictly_equal : Primitive → Primitive → Bool
strictly_equal Undefined Undefined = true
strictly_equal Null Null = true
strictly_equal (prims.Bool a) (prims.Bool b) = beq a b
strictly_equal (Num a) (Num b) = equal_numbers a b
strictly_equal (Str a) (Str b) = bytes_eq a b
strictly_equal _ _ = false

-- SameValue of numbers (ECMA-262 9.12, step 4): NaN is the same as NaN. There is one zero
abbrev pub same_number : Number → Number → Bool
same_number (Int m) (Int n) = int_eq m n
same_number (Int m) Nan = false
same_number Nan (Int n) = false
same_number Nan Nan = true

-- SameValue of primitive values (ECMA-262 9.12)
abbrev pub same_primitive : Primitive → Primitive → Bool
same_primitive (Num a) (Num b) = same_number a b
same_primitive x y = strictly_equal x y

-- a conversion's number compared, or that the conversion leaves
abbrev pub equals_converted : Number → Result Number LeftNumbers → Result Bool LeftNumbers
equals_converted n (Ok m) = Ok (equal_numbers n m)
equals_converted n (Err left) = Err left

-- a number == y, or y == a number (ECMA-262 11.9.3, steps 1.c, 4, 5 and 7)
abbrev pub equals_number : Number → Primitive → Result Bool LeftNumbers
equals_number n Undefined = Ok false
equals_number n Null = Ok false
equals_number n (prims.Bool b) = Ok (equal_numbers n (Int (number_of_bool b)))
equals_number n (Num m) = Ok (equal_numbers n m)
equals_number n (Str text) = equals_converted n (number_of_text text)

-- x == y (ECMA-262 11.9.3) of primitive values: true and false count as 1 and 0, also with each other, and undefined equals null
abbrev pub loosely_equal : Primitive → Primitive → Result Bool LeftNumbers
loosely_equal (Num n) y = equals_number n y
loosely_equal (prims.Bool b) y = equals_number (Int (number_of_bool b)) y
loosely_equal Undefined (Num n) = Ok false
loosely_equal Undefined (prims.Bool b) = Ok false
loosely_equal Undefined (Str t) = Ok false
loosely_equal Undefined _ = Ok true
loosely_equal Null (Num n) = Ok false
loosely_equal Null (prims.Bool b) = Ok false
loosely_equal Null (Str t) = Ok false
loosely_equal Null _ = Ok true
loosely_equal (Str s) (Num n) = equals_number n (Str s)
loosely_equal (Str s) (prims.Bool b) = equals_number (Int (number_of_bool b)) (Str s)
loosely_equal (Str s) (Str t) = Ok (bytes_eq s t)
loosely_equal (Str s) _ = Ok false

-- x < y of numbers (ECMA-262 11.8.5, step 3): nothing, which the standard calls undefined, where one of them is NaN
abbrev pub less_numbers : Number → Number → Option Bool
less_numbers (Int m) (Int n) = Some (int_lt m n)
less_numbers (Int m) Nan = None
less_numbers Nan n = None

-- the first conversion that leaves, or the comparison of the two numbers
abbrev pub less_converted : Result Number LeftNumbers → Result Number LeftNumbers → Result (Option Bool) LeftNumbers
less_converted (Ok m) (Ok n) = Ok (less_numbers m n)
less_converted (Ok m) (Err left) = Err left
less_converted (Err left) _ = Err left

-- x < y (ECMA-262 11.8.5) of primitive values: two texts by their units, and all else by numbers
abbrev pub is_less : Primitive → Primitive → Result (Option Bool) LeftNumbers
is_less (Str s) (Str t) = Ok (Some (is_lt (slice_cmp nat_cmp s t)))
is_less x y = less_converted (number_of x) (number_of y)
