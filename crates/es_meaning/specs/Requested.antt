-- What acts make of objects and find in them: the objects of literals, what is known of an own property, definitions, new objects and bound functions.
use Rattle.std.specs.Prelude.{ℕ, zero, suc, map, length, pos, ◌+◌, ◌-◌, ◌||◌, List, [], ◌∷◌, Bool, true, false, Option, Some, None, codes, slice_get, nat_lt, if◌then◌else◌}
use Rattle.std.specs.List.{list_all}
use Rattle.std.specs.Option.{is_some}
use Rattle.js_number.specs.declared.num.Num.TheVariants.{Int}
use Rattle.js_number.specs.declared.primitive.Primitive.TheVariants.{Undefined, Null, Num, Str}
use Rattle.js_values.specs.declared.value.Value.{Value}
use Rattle.js_values.specs.declared.value.Value.TheVariants as value
use Rattle.js_values.specs.declared.property.Body.{Body}
use Rattle.js_values.specs.declared.property.Body.TheVariants.{Data, Accessor}
use Rattle.js_values.specs.declared.inner.Class.TheVariants as class
use Rattle.js_values.specs.declared.ids.ObjId.{ObjId}
use Rattle.js_values.specs.Arrays.{length_key}
use Rattle.js_values.specs.Objects.{Rows, Property, PlainInner, PlainObject, plain as plain_inner, bound as bound_inner, own, fresh_plain}
use Rattle.js_values.specs.declared.property.Marks.{Marks}
use Rattle.js_values.specs.declared.inner.Class.{Class}
use Rattle.es_meaning.specs.Operations.{Part, as_value, as_getter, as_setter, OwnPart, own_marks, own_value, own_getter, own_setter, Shape}
use Rattle.es_meaning.specs.Functions.{Target, own_target, bound_behind, is_function, property_with}
use Rattle.es_meaning.specs.Objects.{made_by_script, defined, elements_onto}
use Rattle.native_protocol.specs.declared.request.ErrorKind.TheVariants as kinds
use Rattle.native_protocol.specs.declared.request.GivenMarks.{GivenMarks}
use Rattle.es_meaning.specs.Definitions.{GivenBody, no_body, a_value, accessors, Definition, is_accessor, value_in, getter_in, setter_in, may_define_over, defined_over as defined_by, defined_new}
use Rattle.es_meaning.specs.Start.{object_prototype, function_prototype, array_prototype, string_prototype, boolean_prototype, number_prototype, error_prototype, function_rows, count_property, length_property}

-- ---- object literals (ECMA-262 11.1.5)

-- an object with parts: a getter or a setter joins the other half of its property, if that is there
abbrev pub function_in : Value → Option ObjId
function_in (value.Primitive p) = None
function_in (value.Object o) = Some o

abbrev pub getter_behind : Option Property → Option ObjId → Body
getter_behind None f = Accessor f None
getter_behind (Some p) f = Accessor f (setter_in p.body)

abbrev pub setter_behind : Option Property → Option ObjId → Body
setter_behind None f = Accessor None f
setter_behind (Some p) f = Accessor (getter_in p.body) f

abbrev pub part_body : Part → Option Property → Value → Body
part_body as_value old v = Data v
part_body as_getter old v = getter_behind old (function_in v)
part_body as_setter old v = setter_behind old (function_in v)

-- an accessor can't be written
abbrev pub part_marks : Part → Marks
part_marks as_value = made_by_script
part_marks as_getter = record made_by_script { writable = false }
part_marks as_setter = record made_by_script { writable = false }

abbrev pub with_part : Part → List ℕ → Value → Rows Property → Rows Property
with_part part key v rows = defined key (record { body = part_body part (own key rows) v; marks = part_marks part }) rows

abbrev pub with_parts : List (Part × List ℕ) → List Value → Rows Property → Rows Property
with_parts (part ∷ parts) (v ∷ vs) rows = with_parts parts vs (with_part part.0 part.1 v rows)
with_parts _ _ rows = rows

abbrev pub literal_object : List (Part × List ℕ) → List Value → PlainObject
literal_object parts vs = record (fresh_plain class.Object plain_inner (Some object_prototype)) { rows = with_parts parts vs [] }

-- ---- functions

abbrev pub is_function_in : Option PlainObject → Bool
is_function_in None = false
is_function_in (Some p) = is_function p.class

abbrev pub is_function_at : List PlainObject → Value → Bool
is_function_at heap (value.Primitive p) = false
is_function_at heap (value.Object o) = is_function_in (slice_get heap o.0)

-- ---- own properties

-- what is known of an own property (ECMA-262 8.12.1): of its marks a number, 1 where it is writable, 2 enumerable, 4 configurable and 8 an accessor
abbrev pub mark_of : ℕ → Bool → ℕ
mark_of n true = n
mark_of n false = 0

abbrev pub marks_number : Property → ℕ
marks_number p = mark_of 1 p.marks.writable + mark_of 2 p.marks.enumerable + mark_of 4 p.marks.configurable + mark_of 8 (is_accessor p.body)

abbrev pub function_value : Option ObjId → Value
function_value None = value.Primitive Undefined
function_value (Some f) = value.Object f

abbrev pub part_of_property : OwnPart → Property → Value
part_of_property own_marks p = value.Primitive (Num (Int (pos (marks_number p))))
part_of_property own_value p = value_in p.body
part_of_property own_getter p = function_value (getter_in p.body)
part_of_property own_setter p = function_value (setter_in p.body)

abbrev pub part_or_undefined : OwnPart → Option Property → Value
part_or_undefined part None = value.Primitive Undefined
part_or_undefined part (Some p) = part_of_property part p

-- ---- definitions

-- a definition (ECMA-262 8.10.5, 8.12.9): it is refused where a getter or a setter is no function, or stands beside a value or the mark for writable
abbrev pub given_function : List PlainObject → Bool → Value → Option (Option (Option ObjId))
given_function heap false v = Some None
given_function heap true (value.Primitive Undefined) = Some (Some None)
given_function heap true (value.Primitive p) = None
given_function heap true (value.Object o) = if is_function_in (slice_get heap o.0) then Some (Some (Some o)) else None

abbrev pub accessors_of : Option (Option (Option ObjId)) → Option (Option (Option ObjId)) → Option GivenBody
accessors_of (Some get) (Some set) = Some (accessors get set)
accessors_of _ _ = None

abbrev pub data_given : Bool → Value → GivenBody
data_given true v = a_value v
data_given false v = no_body

abbrev pub given_body : List PlainObject → GivenMarks → Shape → Value → Value → Value → Option GivenBody
given_body heap marks shape v g s =
    if shape.has_getter || shape.has_setter then (if shape.has_value || is_some marks.writable then None else accessors_of (given_function heap shape.has_getter g) (given_function heap shape.has_setter s))
    else Some (data_given shape.has_value v)

-- the object's own property behind it, if it isn't refused
abbrev pub defined_if : Bool → Property → Option Property
defined_if true p = Some p
defined_if false p = None

abbrev pub behind_definition : Bool → Option Property → Definition → Option Property
behind_definition extensible None d = defined_if extensible (defined_new d)
behind_definition extensible (Some p) d = defined_if (may_define_over p d) (defined_by p d)

-- a `length` of an array is data (ECMA-262 15.4.5.1, step 1): one that is an accessor gets no number
abbrev pub behind_length : Option Property → Definition → Option Property
behind_length None d = None
behind_length (Some p) d = if is_accessor p.body then None else behind_definition false (Some p) d

abbrev pub behind_given : Bool → Option Property → GivenMarks → Option GivenBody → Option Property
behind_given extensible old marks None = None
behind_given extensible old marks (Some body) = behind_definition extensible old (record { marks = marks; body = body })

-- one that gives no attributes
abbrev pub no_marks : GivenMarks
no_marks = record { writable = None; enumerable = None; configurable = None }

-- ---- arrays

-- an array of which these elements have these values (ECMA-262 11.1.4)
abbrev pub array_object : ℕ → List ℕ → List Value → PlainObject
array_object n places vs = record (fresh_plain class.Array plain_inner (Some array_prototype)) { rows = elements_onto ((length_key, length_property n) ∷ []) places (map (λ v. property_with v made_by_script) vs) }

-- the numbers from one on, one for each element of a list
abbrev pub places_from : {A : Type 0} → ℕ → List A → List ℕ
places_from n [] = []
places_from n (a ∷ as_) = n ∷ places_from (suc n) as_

abbrev pub text_value : List ℕ → Value
text_value text = value.Primitive (Str text)

-- of texts
abbrev pub array_of_texts : List (List ℕ) → PlainObject
array_of_texts texts = array_object (length texts) (places_from 0 texts) (map text_value texts)

-- the own keys of an object in their order (15.2.3.4, 15.2.3.14): all, or the enumerable ones
abbrev pub listed : Bool → Rows Property → List (List ℕ)
listed all [] = []
listed all (r ∷ rows) = if all || r.1.marks.enumerable then r.0 ∷ listed all rows else listed all rows

-- a new object of a class; an array has a `length`
abbrev pub made_of : Class → Option ObjId → PlainObject
made_of class.Array proto = record (array_object 0 [] []) { proto = proto }
made_of c proto = fresh_plain c plain_inner proto

-- ---- prototypes

-- the prototype of an object, and whether it may get further properties
abbrev pub reference_or_null : Option ObjId → Value
reference_or_null None = value.Primitive Null
reference_or_null (Some o) = value.Object o

abbrev pub prototype_in : Option PlainObject → Value
prototype_in None = value.Primitive Null
prototype_in (Some p) = reference_or_null p.proto

abbrev pub extensible_in : Option PlainObject → Bool
extensible_in None = false
extensible_in (Some p) = p.extensible

-- that of a new object of a class (ECMA-262 15.2.2.1, 15.2.3.5)
abbrev pub class_prototype : Class → ObjId
class_prototype class.Function = function_prototype
class_prototype class.Array = array_prototype
class_prototype class.String = string_prototype
class_prototype class.Error = error_prototype kinds.Error
class_prototype class.Boolean = boolean_prototype
class_prototype class.Number = number_prototype
class_prototype _ = object_prototype

-- a value that gives the prototype: null gives none, and what is no object `Object.prototype`
abbrev pub prototype_given : Value → Option ObjId
prototype_given (value.Primitive Null) = None
prototype_given (value.Primitive p) = Some object_prototype
prototype_given (value.Object o) = Some o

-- an object that stands in the heap, and else `Object.prototype`
abbrev pub standing_or_default : ObjId → Option PlainObject → ObjId
standing_or_default o None = object_prototype
standing_or_default o (Some p) = o

-- ---- bound functions

-- a bound function (ECMA-262 15.3.4.5): its `length` is that of the target without the arguments that are bound
abbrev pub count_in : Option Property → ℕ
count_in None = 0
count_in (Some p) = count_of (value_in p.body)
  where
    count_of : Value → ℕ
    count_of (value.Primitive (Num (Int (pos n)))) = n
    count_of _ = 0

abbrev pub bound_count : Option PlainObject → ℕ → ℕ
bound_count None given = 0
bound_count (Some p) given = count_in (own (codes "length") p.rows) - given

abbrev pub bound_object : ObjId → Value → List Value → ℕ → PlainObject
bound_object target this args count = record (fresh_plain class.Function (bound_inner target this args) (Some function_prototype)) { rows = (codes "length", count_property count) ∷ function_rows }

-- what a bound function comes to: the chain of its targets, each below it, is walked
abbrev pub target_behind : (ℕ → Target Value) → ℕ → PlainInner → Target Value
target_behind next o (bound_inner target this args) = bound_behind this args (next target.0)
target_behind next o _ = own_target o

abbrev pub target_in : (ℕ → Target Value) → ℕ → Option PlainObject → Target Value
target_in next o None = own_target o
target_in next o (Some p) = target_behind next o p.inner

abbrev pub target_within : List PlainObject → ℕ → ℕ → Target Value
target_within heap zero o = own_target o
target_within heap (suc n) o = target_in (target_within heap n) o (slice_get heap o)

abbrev pub target_of : List PlainObject → ℕ → Target Value
target_of heap o = target_within heap (suc o) o

-- ---- origins that are declared

abbrev pub are_origins : ℕ → List ℕ → Bool
are_origins count origins = list_all (λ o. nat_lt o count) origins
