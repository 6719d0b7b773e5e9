-- The elements of arrays, and their `length` (ECMA-262 15.4.5).
use Rattle.std.specs.Prelude.{ℕ, Bool, false, not, ◌||◌, List, [], ◌∷◌, Option, Some, None, pos, int_le, nat_le, nat_lt, codes, if◌then◌else◌}
use Rattle.std.specs.Fmt.{signed_decimal}
use Rattle.origin_labels.specs.Label.{Label, bottom, union}
use Rattle.origin_labels.specs.Names.{same_name}
use Rattle.js_number.specs.declared.num.Num.TheVariants.{Nan, Int}
use Rattle.js_number.specs.declared.primitive.Primitive.TheVariants.{Undefined, Null, Bool as Boolean, Num, Str}
use Rattle.js_values.specs.declared.value.Value.{Value}
use Rattle.js_values.specs.declared.value.Value.TheVariants.{Primitive, Object as Reference}
use Rattle.js_values.specs.declared.property.Body.{Body}
use Rattle.js_values.specs.declared.property.Body.TheVariants.{Data, Accessor}
use Rattle.js_values.specs.declared.inner.Class.{Class}
use Rattle.js_values.specs.declared.inner.Class.TheVariants as class
use Rattle.js_values.specs.declared.property.Marks.{Marks}
use Rattle.js_values.specs.declared.property.Slot.{Slot}
use Rattle.js_values.specs.Numerals.{index_of}
use Rattle.js_values.specs.Objects.{Rows}

-- the key `length`
abbrev pub length_key : List ℕ
length_key = codes "length"

-- the element of an array that the key names
abbrev pub element_of : Class → List ℕ → Option ℕ
element_of class.Array key = index_of key
element_of class.Object key = None
element_of class.Function key = None
element_of class.Arguments key = None
element_of class.Error key = None
element_of class.Math key = None
element_of class.Json key = None
element_of class.String key = None
element_of class.Number key = None
element_of class.Boolean key = None

-- the body of a `length`
abbrev pub length_body : ℕ → Body
length_body n = Data (Primitive (Num (Int (pos n))))

-- the element stands at or above this length
abbrev pub is_past_value : ℕ → Value → Bool
is_past_value i (Primitive (Num (Int n))) = int_le n (pos i)
is_past_value i (Primitive (Num Nan)) = false
is_past_value i (Primitive Undefined) = false
is_past_value i (Primitive Null) = false
is_past_value i (Primitive (Boolean b)) = false
is_past_value i (Primitive (Str text)) = false
is_past_value i (Reference o) = false

abbrev pub is_past : ℕ → Body → Bool
is_past i (Data v) = is_past_value i v
is_past i (Accessor get set) = false

-- the key of an element
abbrev pub element_key : ℕ → List ℕ
element_key n = signed_decimal (pos n)

-- whether the key names the `length` of an array
abbrev pub is_length : Class → List ℕ → Bool
is_length class.Array key = same_name key length_key
is_length class.Object key = false
is_length class.Function key = false
is_length class.Arguments key = false
is_length class.Error key = false
is_length class.Math key = false
is_length class.Json key = false
is_length class.String key = false
is_length class.Number key = false
is_length class.Boolean key = false

-- an element that isn't there may be added beside this `length`: below it, or where it can be written (15.4.5.1, step 4.b)
abbrev pub allows_element : ℕ → Marks → Body → Bool
allows_element i marks body = marks.writable || not (is_past i body)

-- that depends on the existence label of `length`, and where it can't be written on its value label
abbrev pub element_label : Option ℕ → Option (Slot Label) → Label
element_label None length = bottom
element_label (Some i) None = bottom
element_label (Some i) (Some s) = if s.marks.writable then s.existence else union s.existence s.label

-- ---- the highest element at or above a number, with what it has there

abbrev pub higher_of : {S : Type 0} → ℕ → S → Option (ℕ × S) → Option (ℕ × S)
higher_of i s None = Some (i, s)
higher_of i s (Some e) = if nat_lt e.0 i then Some (i, s) else Some e

abbrev pub higher_if : {S : Type 0} → ℕ → Option ℕ → S → Option (ℕ × S) → Option (ℕ × S)
higher_if n None s rest = rest
higher_if n (Some i) s rest = if nat_le n i then higher_of i s rest else rest

abbrev pub highest : {S : Type 0} → ℕ → Rows S → Option (ℕ × S)
highest n [] = None
highest n (r ∷ rows) = higher_if n (index_of r.0) r.1 (highest n rows)

-- ---- the properties of a new array: its `length`, and elements at these numbers

abbrev pub element_rows : {S : Type 0} → List ℕ → List S → Rows S
element_rows (n ∷ ns) (s ∷ ss) = (element_key n, s) ∷ element_rows ns ss
element_rows _ _ = []

abbrev pub array_rows : {S : Type 0} → S → List ℕ → List S → Rows S
array_rows count ns ss = (length_key, count) ∷ element_rows ns ss
