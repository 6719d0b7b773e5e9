-- The objects that a run starts with: the standard's own, and those that the entries of a set of built-ins make, one after another (ECMA-262 15).
use Rattle.std.specs.Prelude.{ℕ, zero, suc, nat_eq, Bool, true, false, not, ◌&&◌, List, [], ◌∷◌, ◌++◌, length, map, Option, Some, None, codes, slice_get, if◌then◌else◌}
use Rattle.origin_labels.specs.Names.{same_name, has_name}
use Rattle.js_values.specs.declared.ids.ObjId.{ObjId}
use Rattle.js_values.specs.declared.value.Value.{Value}
use Rattle.js_values.specs.declared.value.Value.TheVariants as value
use Rattle.js_values.specs.declared.property.Body.{Body}
use Rattle.js_values.specs.declared.property.Body.TheVariants.{Data, Accessor}
use Rattle.js_values.specs.Objects.{Rows, Property, PlainObject, own, changed}
use Rattle.native_protocol.specs.declared.request.ErrorKind.TheVariants as kinds
use Rattle.native_protocol.specs.declared.natives.Form.{Form}
use Rattle.native_protocol.specs.declared.natives.Form.TheVariants.{Function, Constructor, LeftFunction, LeftAccessor, NotANumber}
use Rattle.native_protocol.specs.Sets.{SeenEntry}
use Rattle.es_meaning.specs.BuiltIns.{BuiltIns, in_set}
use Rattle.es_meaning.specs.Functions.{is_function}
use Rattle.es_meaning.specs.Objects.{defined, with_rows, with_object}
use Rattle.es_meaning.specs.Start.{id, built_in, fixed, native_function, nan_property, function_rows, error_name, global_object, object_prototype, function_prototype, array_prototype, string_prototype, boolean_prototype, number_prototype, error_prototype, math_object, json_object, start_heap}

-- ---- the holder of an entry: the global object, or what a dotted path leads to from there

-- the parts of a path between its dots
abbrev pub joined_to_first : ℕ → List (List ℕ) → List (List ℕ)
joined_to_first c [] = (c ∷ []) ∷ []
joined_to_first c (part ∷ parts) = (c ∷ part) ∷ parts

abbrev pub dot : ℕ
dot = 46

abbrev pub parts_of : List ℕ → List (List ℕ)
parts_of [] = [] ∷ []
parts_of (c ∷ path) = if nat_eq c dot then [] ∷ parts_of path else joined_to_first c (parts_of path)

abbrev pub object_in : Body → Option ℕ
object_in (Data (value.Object o)) = Some o.0
object_in (Data (value.Primitive p)) = None
object_in (Accessor get set) = None

abbrev pub object_of : Option Property → Option ℕ
object_of None = None
object_of (Some p) = object_in p.body

abbrev pub object_at : List ℕ → Option PlainObject → Option ℕ
object_at part None = None
object_at part (Some p) = object_of (own part p.rows)

abbrev pub led_on : List (List ℕ) → List PlainObject → Option ℕ → Option ℕ
led_on [] heap o = o
led_on (part ∷ parts) heap None = None
led_on (part ∷ parts) heap (Some o) = led_on parts heap (object_at part (slice_get heap o))

abbrev pub holder_in : List PlainObject → List ℕ → Option ℕ
holder_in heap path = if same_name path (codes "global") then Some global_object.0 else led_on (parts_of path) heap (Some global_object.0)

-- ---- tables of names

abbrev pub named_in : List ℕ → List (List ℕ × ObjId) → Option ObjId
named_in name [] = None
named_in name (e ∷ table) = if same_name name e.0 then Some e.1 else named_in name table

-- `Math` and `JSON` are properties of the global object from the first entry on that names them as its holder
abbrev pub holders : List (List ℕ × ObjId)
holders = (codes "Math", math_object) ∷ (codes "JSON", json_object) ∷ []

-- the objects that constructors give what they make as their prototype: each has the constructor as a property
abbrev pub prototypes : List (List ℕ × ObjId)
prototypes = (codes "Object", object_prototype)
    ∷ (codes "Function", function_prototype)
    ∷ (codes "Array", array_prototype)
    ∷ (codes "String", string_prototype)
    ∷ (codes "Boolean", boolean_prototype)
    ∷ (codes "Number", number_prototype)
    ∷ (error_name kinds.Error, error_prototype kinds.Error)
    ∷ (error_name kinds.EvalError, error_prototype kinds.EvalError)
    ∷ (error_name kinds.RangeError, error_prototype kinds.RangeError)
    ∷ (error_name kinds.ReferenceError, error_prototype kinds.ReferenceError)
    ∷ (error_name kinds.SyntaxError, error_prototype kinds.SyntaxError)
    ∷ (error_name kinds.TypeError, error_prototype kinds.TypeError)
    ∷ (error_name kinds.UriError, error_prototype kinds.UriError)
    ∷ []

abbrev pub with_property_of : ℕ → List ℕ → Property → List PlainObject → List PlainObject
with_property_of o name p heap = with_object o (λ q. with_rows q (defined name p q.rows)) heap

abbrev pub holding : Value → Property
holding v = record { body = Data v; marks = built_in }

abbrev pub with_holder_of : List ℕ → Option ObjId → List PlainObject → List PlainObject
with_holder_of name None heap = heap
with_holder_of name (Some o) heap = with_property_of global_object.0 name (holding (value.Object o)) heap

abbrev pub with_holder : SeenEntry → List PlainObject → List PlainObject
with_holder e heap = with_holder_of e.holder (named_in e.holder holders) heap

-- ---- what an entry makes: a function, behind all objects that there are, and a property of its holder

abbrev pub prototype_named : List ℕ → Option ObjId
prototype_named name = named_in name prototypes

abbrev pub prototype_rows : Option ObjId → Rows Property
prototype_rows None = []
prototype_rows (Some o) = (codes "prototype", record { body = Data (value.Object o); marks = fixed }) ∷ []

-- `constructor` stands in front of the other properties of a prototype, but for a `length`
abbrev pub in_front : List ℕ → Property → Rows Property → Rows Property
in_front name p [] = (name, p) ∷ []
in_front name p (r ∷ rows) = if same_name r.0 (codes "length") then r ∷ (name, p) ∷ rows else (name, p) ∷ r ∷ rows

abbrev pub with_first : Option Property → List ℕ → Property → Rows Property → Rows Property
with_first None name p rows = in_front name p rows
with_first (Some q) name p rows = changed name (λ s. p) rows

abbrev pub with_first_of : ℕ → List ℕ → Property → List PlainObject → List PlainObject
with_first_of o name p heap = with_object o (λ q. with_rows q (with_first (own name q.rows) name p q.rows)) heap

abbrev pub with_constructor : Option ObjId → ℕ → List PlainObject → List PlainObject
with_constructor None f heap = heap
with_constructor (Some o) f heap = with_first_of o.0 (codes "constructor") (holding (value.Object (id f))) heap

-- a value that is left out can be replaced where chapter 15 lets a script do so: of the global ones constructors and `JSON` (15.1.4, 15.1.5)
abbrev pub may_be_replaced : SeenEntry → Bool
may_be_replaced e = has_name e.name (codes "Date" ∷ codes "RegExp" ∷ codes "JSON" ∷ [])

abbrev pub left_accessor : SeenEntry → ℕ → Property
left_accessor e f = record { body = Accessor (Some (id f)) (Some (id f)); marks = record { writable = false; enumerable = false; configurable = may_be_replaced e } }

abbrev pub made_for : Form → SeenEntry → ℕ → ℕ → List PlainObject → List PlainObject
made_for Function e which holder heap = with_property_of holder e.name (holding (value.Object (id (length heap)))) (heap ++ native_function which e.length [] ∷ [])
made_for LeftFunction e which holder heap = with_property_of holder e.name (holding (value.Object (id (length heap)))) (heap ++ native_function which e.length [] ∷ [])
made_for Constructor e which holder heap =
    with_property_of holder e.name (holding (value.Object (id (length heap)))) (with_constructor (prototype_named e.name) (length heap) (heap ++ native_function which e.length (prototype_rows (prototype_named e.name)) ∷ []))
made_for NotANumber e which holder heap = with_property_of holder e.name nan_property heap
made_for LeftAccessor e which holder heap = with_property_of holder e.name (left_accessor e (length heap)) (heap ++ native_function which 0 [] ∷ [])

-- an entry whose holder isn't there makes nothing: no lawful set has one
abbrev pub made_on : Option ℕ → SeenEntry → ℕ → List PlainObject → List PlainObject
made_on None e which heap = heap
made_on (Some holder) e which heap = made_for e.form e which holder heap

abbrev pub with_entry : ℕ → SeenEntry → List PlainObject → List PlainObject
with_entry which e heap = let here = with_holder e heap in made_on (holder_in here e.holder) e which here

-- the entries from this number on
unfoldable pub with_entries : ℕ → List SeenEntry → List PlainObject → List PlainObject
with_entries n [] heap = heap
with_entries n (e ∷ entries) heap = with_entries (suc n) entries (with_entry (in_set n) e heap)

-- each function has the accessors of `caller` and `arguments` behind all others, or in the place of what an entry has made of these names (13.2, step 19)
abbrev pub given_rows : Rows Property → Rows Property → Rows Property
given_rows [] rows = rows
given_rows (r ∷ more) rows = given_rows more (defined r.0 r.1 rows)

abbrev pub with_accessors_if : Bool → PlainObject → PlainObject
with_accessors_if true p = with_rows p (given_rows function_rows p.rows)
with_accessors_if false p = p

abbrev pub with_accessors : List PlainObject → List PlainObject
with_accessors heap = map (λ p. with_accessors_if (is_function p.class) p) heap

unfoldable pub built_heap : List SeenEntry → List PlainObject
built_heap entries = with_accessors (with_entries 0 entries start_heap)

-- ---- lawful sets: the holder of each entry is there when it is made, and has no property of its name yet

abbrev pub has_own : List ℕ → Option PlainObject → Bool
has_own name None = false
has_own name (Some p) = is_property (own name p.rows)
  where
    is_property : Option Property → Bool
    is_property None = false
    is_property (Some q) = true

abbrev pub may_hold_entry : List PlainObject → SeenEntry → Option ℕ → Bool
may_hold_entry heap e None = false
may_hold_entry heap e (Some holder) = not (has_own e.name (slice_get heap holder))

-- an entry names no property that its holder has, `caller` and `arguments` of a function among them, which are made last
abbrev pub are_lawful_from : ℕ → List SeenEntry → List PlainObject → Bool
are_lawful_from n [] heap = true
are_lawful_from n (e ∷ entries) heap = may_hold_entry (with_accessors (with_holder e heap)) e (holder_in (with_holder e heap) e.holder) && are_lawful_from (suc n) entries (with_entry (in_set n) e heap)

abbrev pub are_lawful : List SeenEntry → Bool
are_lawful entries = are_lawful_from 0 entries start_heap

-- ---- which built-ins construct: constructors, and those that leave the language by their names

abbrev pub form_constructs : Form → Bool
form_constructs Function = false
form_constructs Constructor = true
form_constructs LeftFunction = true
form_constructs LeftAccessor = true
form_constructs NotANumber = false

abbrev pub entry_constructs : Option SeenEntry → Bool
entry_constructs None = false
entry_constructs (Some e) = form_constructs e.form

abbrev pub constructs_in : BuiltIns → ℕ → Bool
constructs_in set zero = true
constructs_in set (suc zero) = true
constructs_in set (suc (suc zero)) = true
constructs_in set (suc (suc (suc which))) = entry_constructs (slice_get set.entries which)
