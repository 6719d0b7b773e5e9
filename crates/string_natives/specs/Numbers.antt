-- `parseInt`, `isNaN` and the text of a number (ECMA-262 15.1.2.2, 15.1.2.4, 15.7.4.2).
use Rattle.std.specs.Prelude.{ℕ, Bool, true, false, ◌&&◌, List, ℤ, pos, int_le, nat_lt, unsigned_abs, if◌then◌else◌}
use Rattle.js_number.specs.Bits.{int32}
use Rattle.js_number.specs.Number.{integer_of}
use Rattle.js_number.specs.Radix.{integer_prefix, text_in_radix}
use Rattle.js_number.specs.declared.num.Num.{Num as Number}
use Rattle.js_number.specs.declared.num.Num.TheVariants.{Nan, Int}
use Rattle.js_number.specs.declared.primitive.Primitive.TheVariants as prims
use Rattle.js_values.specs.declared.inner.Class.TheVariants as class
use Rattle.native_protocol.specs.declared.request.ErrorKind.TheVariants as error
use Rattle.native_protocol.specs.declared.request.Request.TheVariants.{ThrowNew}
use Rattle.native_protocol.specs.declared.request.Seen.{Seen}
use Rattle.native_protocol.specs.declared.request.Seen.TheVariants.{Prim, Object}
use Rattle.native_protocol.specs.Steps.{Steps, look, ends, throws_type_error, reg, number_or_leave}
use Rattle.native_programs.specs.Clauses.{gives, integer_or, text}
use Rattle.string_natives.specs.Values.{argument, needs_wrapper, to_number}

-- `parseInt` (15.1.2.2): the text is converted first, and then the radix by ToInt32 (9.5). An integer of 2 ^ 53 and more leaves.
abbrev pub read_in : ℕ → List ℕ → Number → Steps
read_in argc units radix = number_or_leave (integer_prefix units (int32 (integer_of radix))) (λ n. gives argc (prims.Num n))

abbrev pub parse_by : (List ℕ → Number → Steps) → ℕ → Steps
parse_by reads argc = text argc (argument 0) (λ units. to_number argc (argument 1) (reads units))

abbrev pub parse_int : ℕ → Steps
parse_int argc = parse_by (read_in argc) argc

-- `isNaN` (15.1.2.4)
abbrev pub tested : ℕ → Number → Steps
tested argc Nan = gives argc (prims.Bool true)
tested argc (Int n) = gives argc (prims.Bool false)

abbrev pub is_not_a_number : ℕ → Steps
is_not_a_number argc = to_number argc (argument 0) (tested argc)

-- ---- Number.prototype.toString (15.7.4.2)

-- an integer from 2 to 36
abbrev pub is_radix : ℤ → Bool
is_radix radix = int_le (pos 2) radix && int_le radix (pos 36)

-- the digits of the number in the radix (for 10 this is ToString, 9.8.1: a clause of `number_in_radix` says so)
abbrev pub spelled : ℕ → Number → ℤ → Steps
spelled argc n radix = if is_radix radix then gives argc (prims.Str (text_in_radix (unsigned_abs radix) n)) else ends (ThrowNew error.RangeError)

-- the radix by ToInteger, or 10 where none was passed or it is undefined
abbrev pub with_radix : ℕ → (ℤ → Steps) → Steps
with_radix argc next = if nat_lt 0 argc then integer_or argc (argument 0) (pos 10) next else next (pos 10)

-- the Number value that `this` is. The prototype is the only object of the class.
abbrev pub number_in : Seen → (Number → Steps) → Steps
number_in (Prim (prims.Num n)) next = next n
number_in (Prim p) next = throws_type_error
number_in (Object class.Number) next = needs_wrapper
number_in (Object c) next = throws_type_error

abbrev pub number_to_string : ℕ → Steps
number_to_string argc = look (reg 0) (λ s. number_in s (λ n. with_radix argc (spelled argc n)))
