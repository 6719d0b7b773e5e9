-- The objects that a run starts with, the errors of the engine, and what is shown of a value.
use Rattle.std.specs.Prelude.{ℕ, pos, true, false, List, [], ◌∷◌, ◌++◌, Option, Some, None, codes, slice_get}
use Rattle.flow_text.specs.Written.{escaped}
use Rattle.js_number.specs.declared.num.Num.TheVariants.{Nan, Int}
use Rattle.js_number.specs.declared.primitive.Primitive.{Primitive}
use Rattle.js_number.specs.declared.primitive.Primitive.TheVariants.{Undefined, Null, Num, Str}
use Rattle.js_number.specs.declared.primitive.Primitive.TheVariants as prims
use Rattle.js_number.specs.Conversions.{text_of}
use Rattle.js_values.specs.declared.ids.ObjId.{ObjId}
use Rattle.js_values.specs.declared.value.Value.{Value}
use Rattle.js_values.specs.declared.value.Value.TheVariants as value
use Rattle.js_values.specs.declared.property.Body.{Body}
use Rattle.js_values.specs.declared.property.Body.TheVariants.{Data, Accessor}
use Rattle.js_values.specs.declared.property.Marks.{Marks}
use Rattle.js_values.specs.declared.inner.Class.{Class}
use Rattle.js_values.specs.declared.inner.Class.TheVariants as class
use Rattle.native_protocol.specs.declared.request.ErrorKind.{ErrorKind}
use Rattle.native_protocol.specs.declared.request.ErrorKind.TheVariants as kinds
use Rattle.js_values.specs.Objects.{Rows, Property, PlainObject, plain, native, fresh_plain}
use Rattle.js_values.specs.Walks.{plain_chain, plain_find}

abbrev pub id : ℕ → ObjId
id n = record { 0 = n }

-- ---- errors (ECMA-262 15.11)

abbrev pub error_name : ErrorKind → List ℕ
error_name kinds.Error = codes "Error"
error_name kinds.EvalError = codes "EvalError"
error_name kinds.RangeError = codes "RangeError"
error_name kinds.ReferenceError = codes "ReferenceError"
error_name kinds.SyntaxError = codes "SyntaxError"
error_name kinds.TypeError = codes "TypeError"
error_name kinds.UriError = codes "URIError"

-- ---- the numbers of the objects that a run starts with: a prototype's is below that of what has it

abbrev pub object_prototype : ObjId
object_prototype = id 0

abbrev pub global_object : ObjId
global_object = id 1

abbrev pub function_prototype : ObjId
function_prototype = id 9

abbrev pub error_prototype : ErrorKind → ObjId
error_prototype kinds.Error = id 2
error_prototype kinds.EvalError = id 3
error_prototype kinds.RangeError = id 4
error_prototype kinds.ReferenceError = id 5
error_prototype kinds.SyntaxError = id 6
error_prototype kinds.TypeError = id 7
error_prototype kinds.UriError = id 8

-- the prototypes of booleans and of numbers (ECMA-262 15.6.4, 15.7.4), and `Math`
abbrev pub boolean_prototype : ObjId
boolean_prototype = id 10

abbrev pub number_prototype : ObjId
number_prototype = id 11

abbrev pub math_object : ObjId
math_object = id 12

-- `JSON`, and the prototypes of arrays and of strings (ECMA-262 15.12, 15.4.4, 15.5.4)
abbrev pub json_object : ObjId
json_object = id 13

abbrev pub array_prototype : ObjId
array_prototype = id 14

abbrev pub string_prototype : ObjId
string_prototype = id 15

-- the accessors of `caller`, `arguments` and `callee` (ECMA-262 13.2.3)
abbrev pub caller_accessor : ObjId
caller_accessor = id 16

abbrev pub arguments_accessor : ObjId
arguments_accessor = id 17

abbrev pub callee_accessor : ObjId
callee_accessor = id 18

-- ---- these objects

-- the attributes of the properties of built-in objects (ECMA-262 15)
abbrev pub built_in : Marks
built_in = record { writable = true; enumerable = false; configurable = true }

abbrev pub text_property : List ℕ → Property
text_property text = record { body = Data (value.Primitive (Str text)); marks = built_in }

-- a prototype of errors (ECMA-262 15.11.4, 15.11.7)
abbrev pub prototype_of_errors : ErrorKind → ObjId → PlainObject
prototype_of_errors kind proto = record (fresh_plain class.Error plain (Some proto)) { rows = (codes "name", text_property (error_name kind)) ∷ (codes "message", text_property []) ∷ [] }

-- `undefined` is a property of the global object that can't be changed (ECMA-262 15.1.1.3)
abbrev pub fixed : Marks
fixed = record { writable = false; enumerable = false; configurable = false }

abbrev pub global : PlainObject
global = record (fresh_plain class.Object plain (Some object_prototype)) { rows = (codes "undefined", record { body = Data (value.Primitive Undefined); marks = fixed }) ∷ [] }

-- an accessor that is its own getter and setter, and can't be changed
abbrev pub fixed_accessor : ObjId → Property
fixed_accessor f = record { body = Accessor (Some f) (Some f); marks = fixed }

abbrev pub count_property : ℕ → Property
count_property n = record { body = Data (value.Primitive (Num (Int (pos n)))); marks = fixed }

-- the `length` of an array can be written (ECMA-262 15.4.5.2)
abbrev pub length_marks : Marks
length_marks = record { writable = true; enumerable = false; configurable = false }

abbrev pub length_property : ℕ → Property
length_property n = record { body = Data (value.Primitive (Num (Int (pos n)))); marks = length_marks }

-- the constant NaN (ECMA-262 15.1.1.1, 15.7.3.4)
abbrev pub nan_property : Property
nan_property = record { body = Data (value.Primitive (Num Nan)); marks = fixed }

-- the prototype of arrays is an array, and that of strings the object of the empty text
abbrev pub prototype_of_arrays : PlainObject
prototype_of_arrays = record (fresh_plain class.Array plain (Some object_prototype)) { rows = (codes "length", length_property 0) ∷ [] }

abbrev pub prototype_of_strings : PlainObject
prototype_of_strings = record (fresh_plain class.String plain (Some object_prototype)) { rows = (codes "length", count_property 0) ∷ [] }

-- the properties that each function has behind its own (ECMA-262 13.2, 15.3.5)
abbrev pub function_rows : Rows Property
function_rows = (codes "caller", fixed_accessor caller_accessor) ∷ (codes "arguments", fixed_accessor arguments_accessor) ∷ []

-- the prototype of functions, which is a function itself (ECMA-262 15.3.4)
abbrev pub prototype_of_functions : PlainObject
prototype_of_functions = record (fresh_plain class.Function plain (Some object_prototype)) { rows = (codes "length", count_property 0) ∷ [] }

-- a built-in function (ECMA-262 15). It gets the accessors of `caller` and `arguments` when all built-ins are made, so that they stand last
abbrev pub native_function : ℕ → ℕ → Rows Property → PlainObject
native_function which size rows = record (fresh_plain class.Function (native which) (Some function_prototype)) { rows = (codes "length", count_property size) ∷ rows }

abbrev pub start_heap : List PlainObject
start_heap = fresh_plain class.Object plain None
    ∷ global
    ∷ prototype_of_errors kinds.Error object_prototype
    ∷ prototype_of_errors kinds.EvalError (error_prototype kinds.Error)
    ∷ prototype_of_errors kinds.RangeError (error_prototype kinds.Error)
    ∷ prototype_of_errors kinds.ReferenceError (error_prototype kinds.Error)
    ∷ prototype_of_errors kinds.SyntaxError (error_prototype kinds.Error)
    ∷ prototype_of_errors kinds.TypeError (error_prototype kinds.Error)
    ∷ prototype_of_errors kinds.UriError (error_prototype kinds.Error)
    ∷ prototype_of_functions
    ∷ fresh_plain class.Boolean plain (Some object_prototype)
    ∷ fresh_plain class.Number plain (Some object_prototype)
    ∷ fresh_plain class.Math plain (Some object_prototype)
    ∷ fresh_plain class.Json plain (Some object_prototype)
    ∷ prototype_of_arrays
    ∷ prototype_of_strings
    ∷ native_function 0 0 [] ∷ native_function 1 0 [] ∷ native_function 2 0 [] ∷ []

-- an error that the engine makes has no properties of its own
abbrev pub engine_error : ErrorKind → PlainObject
engine_error kind = fresh_plain class.Error plain (Some (error_prototype kind))

-- ---- what is shown of a value that leaves the script: its type and its text, or its class, and its name where that is a text

abbrev pub class_name : Class → List ℕ
class_name class.Object = codes "Object"
class_name class.Function = codes "Function"
class_name class.Array = codes "Array"
class_name class.Arguments = codes "Arguments"
class_name class.Error = codes "Error"
class_name class.Math = codes "Math"
class_name class.Json = codes "JSON"
class_name class.String = codes "String"
class_name class.Number = codes "Number"
class_name class.Boolean = codes "Boolean"

abbrev pub shown_primitive : Primitive → List ℕ
shown_primitive Undefined = codes "undefined"
shown_primitive Null = codes "null"
shown_primitive (prims.Bool b) = codes "boolean " ++ text_of (prims.Bool b)
shown_primitive (Num n) = codes "number " ++ text_of (Num n)
shown_primitive (Str text) = codes "string " ++ escaped text

abbrev pub shown_name : Value → List ℕ
shown_name (value.Primitive (Str text)) = 32 ∷ escaped text
shown_name _ = []

abbrev pub shown_body : Body → List ℕ
shown_body (Data v) = shown_name v
shown_body (Accessor get set) = []

abbrev pub shown_found : Option (ℕ × Property) → List ℕ
shown_found None = []
shown_found (Some f) = shown_body f.1.body

abbrev pub shown_class : Option PlainObject → List ℕ
shown_class None = []
shown_class (Some p) = class_name p.class

unfoldable pub shown : List PlainObject → Value → List ℕ
shown heap (value.Primitive p) = shown_primitive p
shown heap (value.Object o) = codes "object " ++ (shown_class (slice_get heap o.0) ++ shown_found (plain_find (codes "name") (plain_chain heap o.0)))
