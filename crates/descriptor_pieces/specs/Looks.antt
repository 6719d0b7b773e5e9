-- What a look tells of the values that descriptors are made of.
use Rattle.std.specs.Prelude.{ℕ, Bool, true, false, List, [], unsigned_abs}
use Rattle.js_number.specs.declared.primitive.Primitive.TheVariants as prims
use Rattle.js_number.specs.Number.{integer_of}
use Rattle.js_number.specs.Conversions.{boolean_of}
use Rattle.native_protocol.specs.declared.request.Seen.{Seen}
use Rattle.native_protocol.specs.declared.request.Seen.TheVariants.{Prim, Object}

abbrev pub is_undefined : Seen → Bool
is_undefined (Prim prims.Undefined) = true
is_undefined other = false

abbrev pub is_true : Seen → Bool
is_true (Prim (prims.Bool true)) = true
is_true other = false

abbrev pub is_false : Seen → Bool
is_false (Prim (prims.Bool false)) = true
is_false other = false

-- ToBoolean (ECMA-262 9.2): an object is true
abbrev pub truth_of : Seen → Bool
truth_of (Prim p) = boolean_of p
truth_of (Object c) = true

-- the length of a list of keys, which is a number that isn't negative
abbrev pub count_in : Seen → ℕ
count_in (Prim (prims.Num n)) = unsigned_abs (integer_of n)
count_in other = 0

-- a key of such a list, which is a text
abbrev pub key_in : Seen → List ℕ
key_in (Prim (prims.Str text)) = text
key_in other = []
