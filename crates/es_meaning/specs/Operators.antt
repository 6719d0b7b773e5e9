-- Operators on values (ECMA-262 11.4 to 11.11), where what they give is in the profile, and else the name by which the run leaves.
use Rattle.std.specs.Prelude.{ℕ, ◌==◌, List, Bool, true, false, not, ℤ, Option, Some, None, Result, Ok, Err, codes}
use Rattle.js_ast.specs.declared.operators.UnaryOperator.{UnaryOperator}
use Rattle.js_ast.specs.declared.operators.UnaryOperator.TheVariants as unary_operator
use Rattle.js_ast.specs.declared.operators.BinaryOperator.{BinaryOperator}
use Rattle.js_ast.specs.declared.operators.BinaryOperator.TheVariants as binary_operator
use Rattle.js_number.specs.declared.int.LeftNumbers.{LeftNumbers}
use Rattle.js_number.specs.declared.num.Num.{Num as Number}
use Rattle.js_number.specs.declared.num.Num.TheVariants.{Int}
use Rattle.js_number.specs.declared.primitive.Primitive.{Primitive}
use Rattle.js_number.specs.declared.primitive.Primitive.TheVariants.{Undefined, Null, Num, Str}
use Rattle.js_number.specs.declared.primitive.Primitive.TheVariants as prims
use Rattle.js_number.specs.declared.sum.AddFault.{AddFault}
use Rattle.js_number.specs.declared.sum.AddFault.TheVariants as faults
use Rattle.js_number.specs.Number.{integer_of}
use Rattle.js_number.specs.Conversions.{boolean_of, number_of}
use Rattle.js_number.specs.Arithmetic.{subtracted, multiplied, divided, remainder_of, negated}
use Rattle.js_number.specs.Bits.{shifted_left, shifted_right, shifted_with_zeros, and_of, xor_of, or_of, not_of}
use Rattle.js_number.specs.Compare.{strictly_equal, loosely_equal, is_less}
use Rattle.js_number.specs.Sum.{sum_of}
use Rattle.native_protocol.specs.declared.request.Seen.{Seen}
use Rattle.native_protocol.specs.declared.request.Seen.TheVariants as seen
use Rattle.js_values.specs.declared.inner.Class.{Class}
use Rattle.js_values.specs.declared.inner.Class.TheVariants as class
use Rattle.js_values.specs.declared.value.Value.{Value}
use Rattle.js_values.specs.declared.value.Value.TheVariants as value

-- a value, or the name by which the run leaves
abbrev pub Given : Type 0
Given = Result Primitive (List ℕ)

-- the run leaves since a result is no number of the profile, or a text is too long
abbrev pub leaves_numbers : List ℕ
leaves_numbers = codes "number"

abbrev pub leaves_strings : List ℕ
leaves_strings = codes "string"

-- what stands in the tables below where an operator can't stand: `&&`, `||`, `in`, `instanceof`, `++` and `--` are evaluated on their own, and an object beside an operator of numbers is converted first, so that no evaluation takes it
abbrev pub elsewhere : Given
elsewhere = Err leaves_numbers

abbrev pub as_number : Result Number LeftNumbers → Given
as_number (Ok n) = Ok (Num n)
as_number (Err e) = Err leaves_numbers

abbrev pub as_boolean : Result Bool LeftNumbers → Given
as_boolean (Ok b) = Ok (prims.Bool b)
as_boolean (Err e) = Err leaves_numbers

-- that of two values turned (ECMA-262 11.9.2)
abbrev pub turned : Result Bool LeftNumbers → Result Bool LeftNumbers
turned (Ok b) = Ok (not b)
turned (Err e) = Err e

-- `<` and `>` (ECMA-262 11.8.1, 11.8.2): false where NaN takes part, which is no answer
abbrev pub holds : Option Bool → Bool
holds None = false
holds (Some b) = b

abbrev pub as_less : Result (Option Bool) LeftNumbers → Given
as_less (Ok less) = Ok (prims.Bool (holds less))
as_less (Err e) = Err leaves_numbers

-- `<=` and `>=` (ECMA-262 11.8.3, 11.8.4): whether the operands, exchanged, are not less. This is false too where NaN takes part
abbrev pub fails : Option Bool → Bool
fails None = false
fails (Some b) = not b

abbrev pub as_not_less : Result (Option Bool) LeftNumbers → Given
as_not_less (Ok less) = Ok (prims.Bool (fails less))
as_not_less (Err e) = Err leaves_numbers

abbrev pub as_sum : Result Primitive AddFault → Given
as_sum (Ok v) = Ok v
as_sum (Err faults.LeftNumbers) = Err leaves_numbers
as_sum (Err faults.LeftString) = Err leaves_strings
-- the sum is a function of its operands, and knows no memory
as_sum (Err faults.OutOfMemory) = Err leaves_strings

-- a function of a value as a number (ECMA-262 9.3)
abbrev pub of_number : (Number → Result Number LeftNumbers) → Result Number LeftNumbers → Given
of_number f (Ok n) = as_number (f n)
of_number f (Err e) = Err leaves_numbers

-- a function of two values as numbers, of which the left one is converted first
abbrev pub both : (Number → Number → Result Number LeftNumbers) → Result Number LeftNumbers → Result Number LeftNumbers → Given
both f (Ok m) n = of_number (f m) n
both f (Err e) n = Err leaves_numbers

abbrev pub of_numbers : (Number → Number → Result Number LeftNumbers) → Primitive → Primitive → Given
of_numbers f v u = both f (number_of v) (number_of u)

-- a function of two integers: a shift or an operator on bits, for which NaN counts as 0 (ECMA-262 9.5, 9.6)
abbrev pub of_bits : (ℤ → ℤ → ℤ) → Primitive → Primitive → Given
of_bits f v u = of_numbers (λ m n. Ok (Int (f (integer_of m) (integer_of n)))) v u

-- what `typeof` says of a value (ECMA-262 11.4.3)
abbrev pub type_of : Primitive → List ℕ
type_of Undefined = codes "undefined"
type_of Null = codes "object"
type_of (prims.Bool b) = codes "boolean"
type_of (Num n) = codes "number"
type_of (Str text) = codes "string"

-- ---- values

abbrev pub is_object : Value → Bool
is_object (value.Primitive p) = false
is_object (value.Object o) = true

-- ToBoolean (ECMA-262 9.2)
abbrev pub truth : Value → Bool
truth (value.Primitive p) = boolean_of p
truth (value.Object o) = true

-- whether `==` takes an object as a primitive value beside this one (ECMA-262 11.9.3, steps 6 to 9)
abbrev pub is_compared : Primitive → Bool
is_compared Undefined = false
is_compared Null = false
is_compared (prims.Bool b) = true
is_compared (Num n) = true
is_compared (Str text) = true

abbrev pub converts_beside : Value → Value → Bool
converts_beside (value.Object o) (value.Primitive p) = is_compared p
converts_beside (value.Object o) (value.Object q) = false
converts_beside (value.Primitive p) u = false

-- what `typeof` says of an object (ECMA-262 11.4.3)
abbrev pub type_of_class : Class → List ℕ
type_of_class class.Function = codes "function"
type_of_class _ = codes "object"

-- ---- an operator in front of its operand; those that take a reference, and not its value, can't stand here

abbrev pub unary_of_primitive : UnaryOperator → Primitive → Given
unary_of_primitive unary_operator.Void v = Ok Undefined
unary_of_primitive unary_operator.Typeof v = Ok (Str (type_of v))
unary_of_primitive unary_operator.Plus v = as_number (number_of v)
unary_of_primitive unary_operator.Minus v = of_number (λ n. Ok (negated n)) (number_of v)
unary_of_primitive unary_operator.BitNot v = of_number (λ n. Ok (Int (not_of (integer_of n)))) (number_of v)
unary_of_primitive unary_operator.Not v = Ok (prims.Bool (not (boolean_of v)))
unary_of_primitive unary_operator.Delete v = Ok (prims.Bool true)
unary_of_primitive unary_operator.Increment v = elsewhere
unary_of_primitive unary_operator.Decrement v = elsewhere

-- an object is converted before an operator takes it as a number
abbrev pub unary_of_object : UnaryOperator → Class → Given
unary_of_object unary_operator.Void c = Ok Undefined
unary_of_object unary_operator.Typeof c = Ok (Str (type_of_class c))
unary_of_object unary_operator.Not c = Ok (prims.Bool false)
unary_of_object unary_operator.Delete c = Ok (prims.Bool true)
unary_of_object _ c = elsewhere

unfoldable pub unary_of : UnaryOperator → Seen → Given
unary_of o (seen.Prim v) = unary_of_primitive o v
unary_of o (seen.Object c) = unary_of_object o c

-- ---- an operator between two operands; `&&` and `||` choose what is evaluated, and `in` and `instanceof` take objects: they can't stand here

abbrev pub binary_of_primitives : BinaryOperator → Primitive → Primitive → Given
binary_of_primitives binary_operator.Multiply v u = of_numbers multiplied v u
binary_of_primitives binary_operator.Divide v u = of_numbers divided v u
binary_of_primitives binary_operator.Remainder v u = of_numbers remainder_of v u
binary_of_primitives binary_operator.Add v u = as_sum (sum_of v u)
binary_of_primitives binary_operator.Subtract v u = of_numbers subtracted v u
binary_of_primitives binary_operator.ShiftLeft v u = of_bits shifted_left v u
binary_of_primitives binary_operator.ShiftRight v u = of_bits shifted_right v u
binary_of_primitives binary_operator.ShiftRightZero v u = of_bits shifted_with_zeros v u
binary_of_primitives binary_operator.Less v u = as_less (is_less v u)
binary_of_primitives binary_operator.Greater v u = as_less (is_less u v)
binary_of_primitives binary_operator.LessEqual v u = as_not_less (is_less u v)
binary_of_primitives binary_operator.GreaterEqual v u = as_not_less (is_less v u)
binary_of_primitives binary_operator.Equal v u = as_boolean (loosely_equal v u)
binary_of_primitives binary_operator.NotEqual v u = as_boolean (turned (loosely_equal v u))
binary_of_primitives binary_operator.StrictEqual v u = Ok (prims.Bool (strictly_equal v u))
binary_of_primitives binary_operator.StrictNotEqual v u = Ok (prims.Bool (not (strictly_equal v u)))
binary_of_primitives binary_operator.BitAnd v u = of_bits and_of v u
binary_of_primitives binary_operator.BitXor v u = of_bits xor_of v u
binary_of_primitives binary_operator.BitOr v u = of_bits or_of v u
binary_of_primitives binary_operator.And v u = elsewhere
binary_of_primitives binary_operator.Or v u = elsewhere
binary_of_primitives binary_operator.In v u = elsewhere
binary_of_primitives binary_operator.Instanceof v u = elsewhere

-- two values of which one or both are objects: an object is equal to itself alone
abbrev pub binary_with_object : BinaryOperator → Bool → Given
binary_with_object binary_operator.Equal same = Ok (prims.Bool same)
binary_with_object binary_operator.NotEqual same = Ok (prims.Bool (not same))
binary_with_object binary_operator.StrictEqual same = Ok (prims.Bool same)
binary_with_object binary_operator.StrictNotEqual same = Ok (prims.Bool (not same))
binary_with_object _ same = elsewhere

abbrev pub binary_values_of : BinaryOperator → Value → Value → Given
binary_values_of o (value.Primitive v) (value.Primitive u) = binary_of_primitives o v u
binary_values_of o (value.Object v) (value.Object u) = binary_with_object o (v.0 == u.0)
binary_values_of o (value.Primitive v) (value.Object u) = binary_with_object o false
binary_values_of o (value.Object v) (value.Primitive u) = binary_with_object o false

unfoldable pub binary_of : BinaryOperator → Value → Value → Given
binary_of o v u = binary_values_of o v u
