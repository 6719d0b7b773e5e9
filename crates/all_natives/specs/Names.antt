-- The names that the start objects have, in their order: first `length` and `prototype` of a function and `constructor` of a prototype, then the names that are
-- kept, then those that aren't offered. `isNaN` and the two `NaN` stand among the latter, where chapter 15 lists them. `caller` and `arguments` of a function come last: no built-in has them in the standard, and here they leave by their names.
use Rattle.std.specs.Prelude.{ℕ, List, [], ◌∷◌, ◌++◌, map, Option, Some, None, codes, slice_get}
use Rattle.js_values.specs.Objects.{PlainObject}
use Rattle.es_meaning.specs.Holders.{holder_in}

-- the names of the own properties of the object that a path leads to
abbrev pub names_in : Option PlainObject → List (List ℕ)
names_in None = []
names_in (Some o) = map (λ row. row.0) o.rows

abbrev pub names_at : List PlainObject → Option ℕ → List (List ℕ)
names_at heap None = []
names_at heap (Some o) = names_in (slice_get heap o)

abbrev pub names_of : List ℕ → List PlainObject → List (List ℕ)
names_of path heap = names_at heap (holder_in heap path)

-- ---- the global object

abbrev pub global_names : List (List ℕ)
global_names =
    codes "undefined" ∷ codes "parseInt" ∷ codes "Object" ∷ codes "Function" ∷ codes "Array" ∷ codes "String" ∷ codes "Boolean" ∷ codes "Number"
    ∷ codes "Error" ∷ codes "EvalError" ∷ codes "RangeError" ∷ codes "ReferenceError" ∷ codes "SyntaxError" ∷ codes "TypeError" ∷ codes "URIError" ∷ codes "Math"
    ∷ codes "read" ∷ codes "print" ∷ codes "lbl" ∷ codes "upgs" ∷ codes "upge"
    ∷ codes "eval" ∷ codes "parseFloat" ∷ codes "isNaN" ∷ codes "isFinite"
    ∷ codes "decodeURI" ∷ codes "decodeURIComponent" ∷ codes "encodeURI" ∷ codes "encodeURIComponent"
    ∷ codes "NaN" ∷ codes "Infinity" ∷ codes "Date" ∷ codes "RegExp" ∷ codes "JSON" ∷ []

-- ---- constructors and prototypes

-- those of a constructor, round its own
abbrev pub constructor_names : List (List ℕ) → List (List ℕ)
constructor_names own_names = codes "length" ∷ codes "prototype" ∷ (own_names ++ codes "caller" ∷ codes "arguments" ∷ [])

abbrev pub object_names : List (List ℕ)
object_names =
    constructor_names (
    codes "getPrototypeOf" ∷ codes "getOwnPropertyDescriptor" ∷ codes "getOwnPropertyNames" ∷ codes "create"
    ∷ codes "defineProperty" ∷ codes "defineProperties" ∷ codes "seal" ∷ codes "freeze" ∷ codes "preventExtensions"
    ∷ codes "isSealed" ∷ codes "isFrozen" ∷ codes "isExtensible" ∷ codes "keys" ∷ [])

abbrev pub object_prototype_names : List (List ℕ)
object_prototype_names =
    codes "constructor"
    ∷ codes "toString" ∷ codes "valueOf" ∷ codes "hasOwnProperty" ∷ codes "isPrototypeOf" ∷ codes "propertyIsEnumerable"
    ∷ codes "toLocaleString" ∷ []

-- the prototype of functions is a function itself (15.3.4)
abbrev pub function_prototype_names : List (List ℕ)
function_prototype_names =
    codes "length" ∷ codes "constructor"
    ∷ codes "apply" ∷ codes "call" ∷ codes "bind"
    ∷ codes "toString"
    ∷ codes "caller" ∷ codes "arguments" ∷ []

abbrev pub array_names : List (List ℕ)
array_names = constructor_names (codes "isArray" ∷ [])

-- and that of arrays an array (15.4.4)
abbrev pub array_prototype_names : List (List ℕ)
array_prototype_names =
    codes "length" ∷ codes "constructor"
    ∷ codes "toString" ∷ codes "concat" ∷ codes "join" ∷ codes "pop" ∷ codes "push" ∷ codes "reverse" ∷ codes "shift" ∷ codes "slice"
    ∷ codes "splice" ∷ codes "unshift" ∷ codes "indexOf" ∷ codes "lastIndexOf" ∷ codes "every" ∷ codes "some" ∷ codes "forEach"
    ∷ codes "map" ∷ codes "filter" ∷ codes "reduce" ∷ codes "reduceRight"
    ∷ codes "toLocaleString" ∷ codes "sort" ∷ []

abbrev pub string_names : List (List ℕ)
string_names = constructor_names (codes "fromCharCode" ∷ [])

-- the prototype of strings is the object of the empty text (15.5.4)
abbrev pub string_prototype_names : List (List ℕ)
string_prototype_names =
    codes "length" ∷ codes "constructor"
    ∷ codes "toString" ∷ codes "valueOf" ∷ codes "charAt" ∷ codes "charCodeAt" ∷ codes "concat" ∷ codes "indexOf" ∷ codes "lastIndexOf" ∷ codes "slice"
    ∷ codes "split" ∷ codes "substring" ∷ codes "toLowerCase" ∷ codes "toUpperCase" ∷ codes "trim"
    ∷ codes "localeCompare" ∷ codes "match" ∷ codes "replace" ∷ codes "search" ∷ codes "toLocaleLowerCase" ∷ codes "toLocaleUpperCase" ∷ []

abbrev pub boolean_prototype_names : List (List ℕ)
boolean_prototype_names = codes "constructor" ∷ codes "toString" ∷ codes "valueOf" ∷ []

abbrev pub number_names : List (List ℕ)
number_names =
    constructor_names (codes "MAX_VALUE" ∷ codes "MIN_VALUE" ∷ codes "NaN" ∷ codes "NEGATIVE_INFINITY" ∷ codes "POSITIVE_INFINITY" ∷ [])

abbrev pub number_prototype_names : List (List ℕ)
number_prototype_names =
    codes "constructor"
    ∷ codes "toString" ∷ codes "valueOf"
    ∷ codes "toLocaleString" ∷ codes "toFixed" ∷ codes "toExponential" ∷ codes "toPrecision" ∷ []

abbrev pub math_names : List (List ℕ)
math_names =
    codes "abs" ∷ codes "max" ∷ codes "min"
    ∷ codes "E" ∷ codes "LN10" ∷ codes "LN2" ∷ codes "LOG2E" ∷ codes "LOG10E" ∷ codes "PI" ∷ codes "SQRT1_2" ∷ codes "SQRT2"
    ∷ codes "acos" ∷ codes "asin" ∷ codes "atan" ∷ codes "atan2" ∷ codes "ceil" ∷ codes "cos" ∷ codes "exp" ∷ codes "floor" ∷ codes "log"
    ∷ codes "pow" ∷ codes "random" ∷ codes "round" ∷ codes "sin" ∷ codes "sqrt" ∷ codes "tan" ∷ []

-- ---- errors (15.11)

abbrev pub error_prototype_names : List (List ℕ)
error_prototype_names = codes "constructor" ∷ codes "name" ∷ codes "message" ∷ codes "toString" ∷ []

-- those of the six other prototypes of errors
abbrev pub kind_prototype_names : List (List ℕ)
kind_prototype_names = codes "constructor" ∷ codes "name" ∷ codes "message" ∷ []

-- ---- the holders of built-ins, by their paths, and the prototypes beside them

-- a constructor that has no names but those of each constructor
abbrev pub bare : List ℕ → List ℕ × List (List ℕ)
bare path = (path, constructor_names [])

abbrev pub kind_prototype : List ℕ → List ℕ × List (List ℕ)
kind_prototype path = (path, kind_prototype_names)

abbrev pub names_wanted : List (List ℕ × List (List ℕ))
names_wanted =
    (codes "global", global_names)
    ∷ (codes "Object", object_names) ∷ (codes "Object.prototype", object_prototype_names)
    ∷ bare (codes "Function") ∷ (codes "Function.prototype", function_prototype_names)
    ∷ (codes "Array", array_names) ∷ (codes "Array.prototype", array_prototype_names)
    ∷ (codes "String", string_names) ∷ (codes "String.prototype", string_prototype_names)
    ∷ bare (codes "Boolean") ∷ (codes "Boolean.prototype", boolean_prototype_names)
    ∷ (codes "Number", number_names) ∷ (codes "Number.prototype", number_prototype_names)
    ∷ bare (codes "Error") ∷ (codes "Error.prototype", error_prototype_names)
    ∷ bare (codes "EvalError") ∷ kind_prototype (codes "EvalError.prototype")
    ∷ bare (codes "RangeError") ∷ kind_prototype (codes "RangeError.prototype")
    ∷ bare (codes "ReferenceError") ∷ kind_prototype (codes "ReferenceError.prototype")
    ∷ bare (codes "SyntaxError") ∷ kind_prototype (codes "SyntaxError.prototype")
    ∷ bare (codes "TypeError") ∷ kind_prototype (codes "TypeError.prototype")
    ∷ bare (codes "URIError") ∷ kind_prototype (codes "URIError.prototype")
    ∷ (codes "Math", math_names) ∷ []

-- the names that these objects have in a heap
abbrev pub names_found : List PlainObject → List (List ℕ × List (List ℕ))
names_found heap = map (λ h. (h.0, names_of h.0 heap)) names_wanted
