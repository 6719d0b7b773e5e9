-- The conversions of primitive values (ECMA-262 9.2, 9.3, 9.8).
use Rattle.std.specs.Prelude.{ℕ, ◌==◌, Bool, true, false, not, List, length, codes, ℤ, pos, unsigned_abs, Result, Ok}
use Rattle.std.specs.Fmt.{signed_decimal}
use Rattle.js_number.specs.declared.int.LeftNumbers.{LeftNumbers}
use Rattle.js_number.specs.declared.num.Num.{Num as Number}
use Rattle.js_number.specs.declared.num.Num.TheVariants.{Nan, Int}
use Rattle.js_number.specs.declared.primitive.Primitive.{Primitive}
use Rattle.js_number.specs.declared.primitive.Primitive.TheVariants.{Undefined, Null, Num, Str}
use Rattle.js_number.specs.declared.primitive.Primitive.TheVariants as prims
use Rattle.js_number.specs.Number.{number_of_bool}
use Rattle.js_number.specs.NumericText.{number_of_text}

-- ToBoolean (ECMA-262 9.2): 0, NaN and the empty text are false
abbrev pub boolean_of : Primitive → Bool
boolean_of Undefined = false
boolean_of Null = false
boolean_of (prims.Bool b) = b
boolean_of (Num Nan) = false
boolean_of (Num (Int n)) = not (unsigned_abs n == 0)
boolean_of (Str text) = not (length text == 0)

-- ToNumber (ECMA-262 9.3), where it gives a number of the profile
abbrev pub number_of : Primitive → Result Number LeftNumbers
number_of Undefined = Ok Nan
number_of Null = Ok (Int (pos 0))
number_of (prims.Bool b) = Ok (Int (number_of_bool b))
number_of (Num n) = Ok n
number_of (Str text) = number_of_text text

-- ToString of a number (ECMA-262 9.8.1)
abbrev pub number_text : Number → List ℕ
number_text Nan = codes "NaN"
number_text (Int n) = signed_decimal n

-- ToString (ECMA-262 9.8)
abbrev pub text_of : Primitive → List ℕ
text_of Undefined = codes "undefined"
text_of Null = codes "null"
text_of (prims.Bool true) = codes "true"
text_of (prims.Bool false) = codes "false"
text_of (Num n) = number_text n
text_of (Str text) = text
