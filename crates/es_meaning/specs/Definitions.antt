-- Definitions of properties (ECMA-262 8.10, 8.12.9): which are refused, and what an own property is behind one.
use Rattle.std.specs.Prelude.{Bool, true, false, not, ◌&&◌, ◌||◌, Option, Some, None, nat_eq}
use Rattle.std.specs.Option.{is_some}
use Rattle.js_number.specs.declared.primitive.Primitive.TheVariants.{Undefined}
use Rattle.js_number.specs.Compare.{same_primitive}
use Rattle.js_values.specs.declared.ids.ObjId.{ObjId}
use Rattle.js_values.specs.declared.value.Value.{Value}
use Rattle.js_values.specs.declared.value.Value.TheVariants as value
use Rattle.js_values.specs.declared.property.Body.{Body}
use Rattle.js_values.specs.declared.property.Body.TheVariants.{Data, Accessor}
use Rattle.js_values.specs.declared.property.Marks.{Marks}
use Rattle.js_values.specs.Objects.{Property}
use Rattle.native_protocol.specs.declared.request.GivenMarks.{GivenMarks}

-- what a property is given besides its attributes: nothing, a value, or a getter and a setter, each of which may be left as it is
pub data GivenBody : Type 0 where
  no_body : GivenBody
  a_value : Value → GivenBody
  accessors : Option (Option ObjId) → Option (Option ObjId) → GivenBody

-- a property descriptor (8.10)
pub record Definition : Type 0 where
  pub marks : GivenMarks
  pub body : GivenBody

-- ---- what is given, if anything

abbrev pub given_or : {A : Type 0} → A → Option A → A
given_or other None = other
given_or other (Some a) = a

abbrev pub same_mark : Bool → Bool → Bool
same_mark true mark = mark
same_mark false mark = not mark

abbrev pub same_object : Option ObjId → Option ObjId → Bool
same_object None None = true
same_object None (Some g) = false
same_object (Some f) None = false
same_object (Some f) (Some g) = nat_eq f.0 g.0

-- whether two values are one (9.12): NaN is the same as NaN, and there is one zero
abbrev pub same_value : Value → Value → Bool
same_value (value.Primitive v) (value.Primitive u) = same_primitive v u
same_value (value.Object o) (value.Object p) = nat_eq o.0 p.0
same_value _ _ = false

abbrev pub keeps : {A : Type 0} → (A → A → Bool) → A → Option A → Bool
keeps same old None = true
keeps same old (Some a) = same old a

-- ---- the kinds of descriptors: an accessor's, a data property's, or neither (8.10.1 to 8.10.3)

abbrev pub is_accessor : Body → Bool
is_accessor (Data v) = false
is_accessor (Accessor get set) = true

-- whether a property is an accessor behind the definition
abbrev pub becomes_accessor : Bool → Definition → Bool
becomes_accessor was d = by d.body d.marks.writable
  where
    by : GivenBody → Option Bool → Bool
    by (accessors get set) writable = true
    by (a_value v) writable = false
    by no_body None = was
    by no_body (Some mark) = false

-- ---- a present property that can't be configured (8.12.9, steps 7 to 11) stays what it is, but that what can be written may be written, or made unwritable

abbrev pub keeps_attributes : Marks → GivenMarks → Bool
keeps_attributes old given = keeps same_mark false given.configurable && keeps same_mark old.enumerable given.enumerable

abbrev pub keeps_data : Value → GivenMarks → GivenBody → Bool
keeps_data v given no_body = keeps same_mark false given.writable
keeps_data v given (a_value u) = keeps same_mark false given.writable && same_value v u
keeps_data v given (accessors get set) = false

abbrev pub keeps_body : Bool → Body → GivenMarks → GivenBody → Bool
keeps_body writable (Data v) given (accessors get set) = false
keeps_body writable (Data v) given body = writable || keeps_data v given body
keeps_body writable (Accessor get set) given (accessors getter setter) = keeps same_object get getter && keeps same_object set setter
keeps_body writable (Accessor get set) given (a_value v) = false
keeps_body writable (Accessor get set) given no_body = not (is_some given.writable)

abbrev pub may_define_over : Property → Definition → Bool
may_define_over p d = p.marks.configurable || (keeps_attributes p.marks d.marks && keeps_body p.marks.writable p.body d.marks d.body)

-- ---- what the property is behind it (steps 4, 8, 9 and 12): what isn't given stays, or has its default where the kind is another (8.6.1)

abbrev pub value_in : Body → Value
value_in (Data v) = v
value_in (Accessor get set) = value.Primitive Undefined

abbrev pub getter_in : Body → Option ObjId
getter_in (Data v) = None
getter_in (Accessor get set) = get

abbrev pub setter_in : Body → Option ObjId
setter_in (Data v) = None
setter_in (Accessor get set) = set

abbrev pub given_value : GivenBody → Option Value
given_value (a_value v) = Some v
given_value _ = None

abbrev pub given_getter : GivenBody → Option (Option ObjId)
given_getter (accessors get set) = get
given_getter _ = None

abbrev pub given_setter : GivenBody → Option (Option ObjId)
given_setter (accessors get set) = set
given_setter _ = None

abbrev pub body_of_kind : Bool → Body → GivenBody → Body
body_of_kind false old given = Data (given_or (value_in old) (given_value given))
body_of_kind true old given = Accessor (given_or (getter_in old) (given_getter given)) (given_or (setter_in old) (given_setter given))

-- an accessor can't be written, so a property that becomes data is written where that is given alone
abbrev pub marks_of_kind : Bool → Marks → GivenMarks → Marks
marks_of_kind accessor old given = record { writable = not accessor && given_or old.writable given.writable; enumerable = given_or old.enumerable given.enumerable; configurable = given_or old.configurable given.configurable }

abbrev pub defined_over : Property → Definition → Property
defined_over p d = let accessor = becomes_accessor (is_accessor p.body) d in record { body = body_of_kind accessor p.body d.body; marks = marks_of_kind accessor p.marks d.marks }

-- where there was none, all is by default
abbrev pub default_property : Property
default_property = record { body = Data (value.Primitive Undefined); marks = record { writable = false; enumerable = false; configurable = false } }

abbrev pub defined_new : Definition → Property
defined_new d = defined_over default_property d

-- whether the body is given anew: a value, a getter or a setter is given, or the kind is another
abbrev pub changes_body : Property → Definition → Bool
changes_body p d = is_given d.body || not (same_mark (is_accessor p.body) (becomes_accessor (is_accessor p.body) d))
  where
    is_given : GivenBody → Bool
    is_given no_body = false
    is_given (a_value v) = true
    is_given (accessors get set) = is_some get || is_some set

-- what is left of an accessor of which one half is given anew
abbrev pub keeps_a_half : Property → Definition → Bool
keeps_a_half p d = is_accessor p.body && half d.body
  where
    half : GivenBody → Bool
    half (accessors get set) = not (is_some get && is_some set)
    half _ = false
