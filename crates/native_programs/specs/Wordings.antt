-- Texts that are computed.
use Rattle.std.specs.Prelude.{ℕ, ◌+◌, ◌-◌, ◌%◌, Bool, Result, Ok, Err, ◌&&◌, ◌||◌, List, [], ◌∷◌, ◌++◌, length, map, slice_range, codes, nat_le, nat_lt, ℤ, pos, int_lt, unsigned_abs, if◌then◌else◌}
use Rattle.js_values.specs.declared.inner.Class.{Class}
use Rattle.js_number.specs.Radix.{text_in_radix, trimmed}
use Rattle.js_number.specs.declared.int.LeftNumbers.{LeftNumbers}
use Rattle.js_number.specs.declared.num.Num.{Num}
use Rattle.js_number.specs.declared.num.Num.TheVariants.{Nan}
use Rattle.js_number.specs.declared.primitive.Primitive.{Primitive}
use Rattle.js_number.specs.declared.primitive.Primitive.TheVariants as prims
use Rattle.js_values.specs.declared.inner.Class.TheVariants as class
use Rattle.native_protocol.specs.declared.request.Seen.{Seen}
use Rattle.native_protocol.specs.declared.request.Seen.TheVariants.{Prim, Object}
use Rattle.native_programs.specs.declared.line.Counter.{Counter}
use Rattle.native_programs.specs.declared.line.TextSlot.{TextSlot}
use Rattle.native_programs.specs.declared.line.Wording.{Wording}
use Rattle.native_programs.specs.declared.line.Wording.TheVariants as wording
use Rattle.native_programs.specs.declared.values.Values.{Values}
use Rattle.native_programs.specs.Values.{counter_in, text_kept, with_text}

-- the units from one place up to another, where these are places in order; else none
abbrev pub part_of : List ℕ → ℤ → ℤ → List ℕ
part_of units first last =
    if int_lt first (pos 0) || int_lt last first || int_lt (pos (length units)) last then [] else slice_range units (unsigned_abs first) (unsigned_abs last)

abbrev pub is_between : ℕ → ℕ → ℕ → Bool
is_between low high unit = nat_le low unit && nat_le unit high

-- the letters of ASCII
abbrev pub lower : ℕ → ℕ
lower unit = if is_between 65 90 unit then unit + 32 else unit

abbrev pub upper : ℕ → ℕ
upper unit = if is_between 97 122 unit then unit - 32 else unit

-- a number in a radix, where there is such a radix
abbrev pub spelled_in : Num → ℤ → List ℕ
spelled_in n radix = if int_lt radix (pos 2) || int_lt (pos 36) radix then [] else text_in_radix (unsigned_abs radix) n

-- that of the number that was seen
abbrev pub primitive_in_radix : Primitive → ℤ → List ℕ
primitive_in_radix (prims.Num n) radix = spelled_in n radix
primitive_in_radix other radix = []

abbrev pub in_radix : Seen → ℤ → List ℕ
in_radix (Prim p) radix = primitive_in_radix p radix
in_radix (Object c) radix = []

-- what was read, where it is a number of the profile
abbrev pub number_read : Result Num LeftNumbers → Num
number_read (Ok n) = n
number_read (Err left) = Nan

-- the class of an object (ECMA-262 15.2.4.2)
abbrev pub class_name : Class → List ℕ
class_name class.Object = codes "[object Object]"
class_name class.Function = codes "[object Function]"
class_name class.Array = codes "[object Array]"
class_name class.Arguments = codes "[object Arguments]"
class_name class.Error = codes "[object Error]"
class_name class.Math = codes "[object Math]"
class_name class.Json = codes "[object JSON]"
class_name class.String = codes "[object String]"
class_name class.Number = codes "[object Number]"
class_name class.Boolean = codes "[object Boolean]"

abbrev pub class_text : Seen → List ℕ
class_text (Prim p) = []
class_text (Object c) = class_name c

abbrev pub worded : Wording → Values → List ℕ
worded wording.Comma v = codes ","
worded wording.Colon v = codes ": "
worded wording.Error v = codes "Error"
worded wording.ClassSeen v = class_text v.seen
worded (wording.InRadix radix) v = in_radix v.seen (counter_in v radix)
worded (wording.Lower t) v = map lower (text_kept v t)
worded (wording.Upper t) v = map upper (text_kept v t)
worded (wording.Trimmed t) v = trimmed (text_kept v t)

-- ---- texts that grow

-- whether both texts together are no longer than a text may be
abbrev pub fits : List ℕ → List ℕ → Bool
fits a b = nat_le (length a) 1048576 && nat_le (length b) (1048576 - length a)

-- whether a text may have one more unit
abbrev pub has_room : List ℕ → Bool
has_room text = nat_lt (length text) 1048576

-- the unit of a number
abbrev pub unit_of : ℤ → ℕ
unit_of n = unsigned_abs n % 65536

abbrev pub pushed : TextSlot → Counter → Values → Values
pushed to unit v = with_text to (text_kept v to ++ unit_of (counter_in v unit) ∷ []) v

abbrev pub appended : TextSlot → TextSlot → Values → Values
appended to from v = with_text to (text_kept v to ++ text_kept v from) v
