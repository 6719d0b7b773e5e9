-- What is computed and decided without asking.
use Rattle.std.specs.Prelude.{ℕ, ◌-◌, ◌%◌, Bool, true, false, not, ◌&&◌, ◌||◌, is_some, is_err, List, length, slice_index_or, Option, Some, None, nat_eq, nat_lt, ℤ, pos, negsuc, ◌+ℤ◌, ◌-ℤ◌, int_lt, int_div, unsigned_abs, if◌then◌else◌}
use Rattle.std.specs.List.{list_all}
use Rattle.std.specs.Ordering.{int_eq}
use Rattle.js_number.specs.declared.primitive.Primitive.TheVariants as prims
use Rattle.js_number.specs.declared.num.Num.{Num}
use Rattle.js_number.specs.declared.num.Num.TheVariants.{Nan, Int}
use Rattle.js_number.specs.Bits.{uint32, int32}
use Rattle.js_number.specs.Number.{integer_of}
use Rattle.js_number.specs.Radix.{integer_prefix}
use Rattle.js_values.specs.declared.inner.Class.TheVariants as class
use Rattle.js_number.specs.Conversions.{boolean_of}
use Rattle.native_protocol.specs.declared.request.Seen.{Seen}
use Rattle.native_protocol.specs.declared.request.Seen.TheVariants.{Prim, Object}
use Rattle.native_protocol.specs.Steps.{is_object, is_function, is_text}
use Rattle.native_programs.specs.declared.line.Amount.{Amount}
use Rattle.native_programs.specs.declared.line.Amount.TheVariants as amount
use Rattle.native_programs.specs.declared.line.Condition.{Condition}
use Rattle.native_programs.specs.declared.line.Condition.TheVariants as condition
use Rattle.native_programs.specs.declared.line.Count.{Count}
use Rattle.native_programs.specs.declared.line.Count.TheVariants as count
use Rattle.native_programs.specs.declared.line.Sight.{Sight}
use Rattle.native_programs.specs.declared.line.Sight.TheVariants as sight
use Rattle.native_programs.specs.declared.line.Whole.{Whole}
use Rattle.native_programs.specs.declared.line.Whole.TheVariants as whole
use Rattle.native_programs.specs.declared.lines.Left.{Left}
use Rattle.native_programs.specs.declared.lines.Left.TheVariants as left
use Rattle.native_programs.specs.declared.values.Values.{Values}
use Rattle.native_programs.specs.Searching.{found_in, found_back_in, piece_end}
use Rattle.native_programs.specs.Values.{counter_in, with_counter, text_kept, cleared}

-- ---- what looks tell

abbrev pub is_undefined : Seen → Bool
is_undefined (Prim prims.Undefined) = true
is_undefined other = false

abbrev pub is_null : Seen → Bool
is_null (Prim prims.Null) = true
is_null other = false

abbrev pub is_true : Seen → Bool
is_true (Prim p) = boolean_of p
is_true (Object c) = true

abbrev pub is_number : Seen → Bool
is_number (Prim (prims.Num n)) = true
is_number other = false

abbrev pub is_array : Seen → Bool
is_array (Object class.Array) = true
is_array (Object other) = false
is_array (Prim p) = false

abbrev pub is_string_object : Seen → Bool
is_string_object (Object class.String) = true
is_string_object (Object other) = false
is_string_object (Prim p) = false

abbrev pub is_number_object : Seen → Bool
is_number_object (Object class.Number) = true
is_number_object (Object other) = false
is_number_object (Prim p) = false

abbrev pub sees : Sight → Seen → Bool
sees sight.Anything s = true
sees sight.Undefined s = is_undefined s
sees sight.Given s = not (is_undefined s)
sees sight.Valued s = not (is_undefined s) && not (is_null s)
sees sight.True s = is_true s
sees sight.NotTrue s = not (is_true s)
sees sight.Number s = is_number s
sees sight.Text s = is_text s
sees sight.Object s = is_object s
sees sight.ObjectOrNone s = is_object s || is_undefined s || is_null s
sees sight.Callable s = is_function s
sees sight.Array s = is_array s
sees sight.StringObject s = is_string_object s
sees sight.NumberObject s = is_number_object s

-- ---- numbers

-- ToInteger, ToInt32, ToUint32 and ToUint16 (ECMA-262 9.4 to 9.7): NaN counts as 0
abbrev pub whole_of : Whole → Num → ℤ
whole_of whole.Integer n = integer_of n
whole_of whole.Int32 n = int32 (integer_of n)
whole_of whole.Uint32 n = pos (uint32 (integer_of n))
whole_of whole.Uint16 n = pos (uint32 (integer_of n) % 65536)

abbrev pub lesser : ℤ → ℤ → ℤ
lesser a b = if int_lt b a then b else a

abbrev pub greater : ℤ → ℤ → ℤ
greater a b = if int_lt a b then b else a

-- cut to those from zero to a size
abbrev pub within : ℤ → ℤ → ℤ
within number size = lesser (greater number (pos 0)) size

-- a number that counts from the end where it is below zero, cut to those from zero to the end
abbrev pub relative : ℤ → ℤ → ℤ
relative number size = if int_lt number (pos 0) then within (size +ℤ number) size else within number size

-- how many arguments were passed from one on
abbrev pub passed : ℕ → ℕ → ℤ
passed argc from = pos (argc - from)

-- the unit at a place, and 0 where there is none
abbrev pub unit_at : List ℕ → ℤ → ℤ
unit_at units (pos n) = pos (slice_index_or units n 0)
unit_at units (negsuc n) = pos 0

abbrev pub amount_of : Values → Amount → ℤ
amount_of v (amount.Whole n) = n
amount_of v (amount.Of a) = counter_in v a
amount_of v (amount.Next a) = counter_in v a +ℤ pos 1
amount_of v (amount.Prior a) = counter_in v a +ℤ negsuc 0
amount_of v (amount.Half a) = int_div (counter_in v a) (pos 2)
amount_of v (amount.Plus a b) = counter_in v a +ℤ counter_in v b
amount_of v (amount.Minus a b) = counter_in v a -ℤ counter_in v b
amount_of v (amount.Lesser a b) = lesser (counter_in v a) (counter_in v b)
amount_of v (amount.Greater a b) = greater (counter_in v a) (counter_in v b)
amount_of v (amount.Within a size) = within (counter_in v a) (counter_in v size)
amount_of v (amount.Relative a size) = relative (counter_in v a) (counter_in v size)
amount_of v (amount.Passed from) = passed v.argc from
amount_of v (amount.Size t) = pos (length (text_kept v t))
amount_of v (amount.UnitAt t at) = unit_at (text_kept v t) (counter_in v at)
amount_of v (amount.Found t s from) = found_in (text_kept v t) (text_kept v s) (counter_in v from)
amount_of v (amount.FoundBack t s from) = found_back_in (text_kept v t) (text_kept v s) (counter_in v from)
amount_of v (amount.PieceEnd t s from) = piece_end (text_kept v t) (text_kept v s) (counter_in v from)

-- ---- conditions

-- whether nothing stands between a number and another
abbrev pub is_last : ℤ → ℤ → Bool
is_last a b = not (int_lt (a +ℤ pos 1) b)

abbrev pub is_nan : Option Num → Bool
is_nan (Some Nan) = true
is_nan other = false

-- whether a number is another than this
abbrev pub is_other : Num → ℤ → Bool
is_other Nan a = true
is_other (Int n) a = not (int_eq n a)

-- whether a number was converted and is another
abbrev pub differs : Option Num → ℤ → Bool
differs None a = false
differs (Some n) a = is_other n a

abbrev pub is_ascii : List ℕ → Bool
is_ascii units = list_all (λ u. nat_lt u 128) units

abbrev pub is_empty : List ℕ → Bool
is_empty units = nat_eq (length units) 0

abbrev pub holds : Condition → Values → Bool
holds (condition.Is a n) v = int_eq (counter_in v a) n
holds (condition.Below a n) v = int_lt (counter_in v a) n
holds (condition.NotBelow a n) v = not (int_lt (counter_in v a) n)
holds (condition.NotLess a b) v = not (int_lt (counter_in v a) (counter_in v b))
holds (condition.More a b) v = int_lt (counter_in v b) (counter_in v a)
holds (condition.Last a b) v = is_last (counter_in v a) (counter_in v b)
holds (condition.Given n) v = nat_lt n v.argc
holds (condition.NotGiven n) v = not (nat_lt n v.argc)
holds condition.Constructed v = v.construct
holds (condition.Sees s) v = sees s v.seen
holds (condition.SeesNot s) v = not (sees s v.seen)
holds condition.HasText v = is_some v.held
holds condition.HasNumber v = is_some v.number
holds condition.IsNan v = is_nan v.number
holds (condition.Differs a) v = differs v.number (counter_in v a)
holds (condition.Empty t) v = is_empty (text_kept v t)
holds (condition.NotAscii t) v = not (is_ascii (text_kept v t))
holds (condition.ParsesNot t radix) v = is_err (integer_prefix (text_kept v t) (counter_in v radix))

-- ---- loops

-- so many numbers from one up to another, without that
abbrev pub count_between : ℤ → ℤ → ℕ
count_between from until = if int_lt (until -ℤ from) (pos 0) then 0 else unsigned_abs (until -ℤ from)

abbrev pub turns_between : ℤ → ℤ → Left
turns_between from until = left.Turns (count_between from until)

abbrev pub turns_of : Count → Values → Left
turns_of (count.Up index until) v = turns_between (counter_in v index) (counter_in v until)
turns_of (count.Down index until) v = turns_between (counter_in v until) (counter_in v index)
turns_of count.Endless v = left.Endless

abbrev pub bumped : Count → Values → Values
bumped (count.Up index until) v = with_counter index (counter_in v index +ℤ pos 1) (cleared v)
bumped (count.Down index until) v = with_counter index (counter_in v index +ℤ negsuc 0) (cleared v)
bumped count.Endless v = cleared v
