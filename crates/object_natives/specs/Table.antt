-- The built-ins of this set: what they are called, and which steps they take.
use Rattle.std.specs.Prelude.{ℕ, Bool, List, [], ◌∷◌, ◌++◌, map, get_or, codes, if◌then◌else◌}
use Rattle.std.specs.Str.{bytes_eq}
use Rattle.flow_text.specs.Utf8.{units_of}
use Rattle.native_protocol.specs.declared.natives.Form.TheVariants as form
use Rattle.native_protocol.specs.Sets.{SeenEntry, seen_entry}
use Rattle.native_protocol.specs.Steps.{Steps, leaves}
use Rattle.primitive_natives.specs.Booleans.{boolean, boolean_to_string, boolean_value_of}
use Rattle.primitive_natives.specs.Maths.{math_abs, math_max, math_min}
use Rattle.primitive_natives.specs.Numbers.{number, number_value_of}
use Rattle.object_functions.specs.Objects.{object, get_prototype_of, get_own_property_names, prevent_extensions, is_extensible, keys}
use Rattle.object_functions.specs.Properties.{get_own_property_descriptor, create, define_property, define_all, seal, freeze, is_sealed, is_frozen}
use Rattle.object_functions.specs.Prototypes.{object_to_string, object_value_of, has_own_property, is_prototype_of, property_is_enumerable}

-- a built-in, and its steps by the number of its arguments and whether it constructs
pub record Row : Type 0 where
  pub entry : SeenEntry
  pub clause : ℕ → Bool → Steps

abbrev pub as_constructor : List ℕ → List ℕ → ℕ → (ℕ → Bool → Steps) → Row
as_constructor holder name size clause = record { entry = seen_entry holder name size form.Constructor; clause = clause }

abbrev pub function : List ℕ → List ℕ → ℕ → (ℕ → Steps) → Row
function holder name size clause = record { entry = seen_entry holder name size form.Function; clause = λ argc construct. clause argc }

-- what isn't offered has a dotted path, and on the global object its name alone
abbrev pub path : List ℕ → List ℕ → List ℕ
path holder name = if bytes_eq holder (codes "global") then units_of name else units_of holder ++ codes "." ++ units_of name

-- a function that isn't offered: its call leaves
abbrev pub left_function : List ℕ → List ℕ → ℕ → Row
left_function holder name size = record { entry = seen_entry holder name size form.LeftFunction; clause = λ argc construct. leaves (path holder name) }

-- a value that isn't offered: reading or writing it leaves
abbrev pub left_accessor : List ℕ → List ℕ → Row
left_accessor holder name = record { entry = seen_entry holder name 0 form.LeftAccessor; clause = λ argc construct. leaves (path holder name) }

-- the constant NaN, which is no function: nothing begins what stands here in place of one
abbrev pub nan_constant : List ℕ → List ℕ → Row
nan_constant holder name = record { entry = seen_entry holder name 0 form.NotANumber; clause = λ argc construct. leaves (path holder name) }

-- the constructors of the global object (15.2, 15.6, 15.7)
abbrev pub constructor_rows : List Row
constructor_rows =
    as_constructor (codes "global") (codes "Object") 1 (λ argc construct. object argc) ∷
    as_constructor (codes "global") (codes "Boolean") 1 (boolean) ∷
    as_constructor (codes "global") (codes "Number") 1 (number) ∷ []

-- what isn't offered on the global object (15.1), and its NaN
abbrev pub global_rows : List Row
global_rows =
    left_function (codes "global") (codes "eval") 1 ∷
    left_function (codes "global") (codes "parseFloat") 1 ∷
    left_function (codes "global") (codes "isFinite") 1 ∷
    left_function (codes "global") (codes "decodeURI") 1 ∷
    left_function (codes "global") (codes "decodeURIComponent") 1 ∷
    left_function (codes "global") (codes "encodeURI") 1 ∷
    left_function (codes "global") (codes "encodeURIComponent") 1 ∷
    nan_constant (codes "global") (codes "NaN") ∷
    left_accessor (codes "global") (codes "Infinity") ∷
    left_accessor (codes "global") (codes "Date") ∷
    left_accessor (codes "global") (codes "RegExp") ∷
    left_accessor (codes "global") (codes "JSON") ∷ []

-- Object (15.2.3)
abbrev pub object_rows : List Row
object_rows =
    function (codes "Object") (codes "getPrototypeOf") 1 (λ argc. get_prototype_of argc) ∷
    function (codes "Object") (codes "getOwnPropertyDescriptor") 2 (λ argc. get_own_property_descriptor argc) ∷
    function (codes "Object") (codes "getOwnPropertyNames") 1 (λ argc. get_own_property_names argc) ∷
    function (codes "Object") (codes "create") 2 (λ argc. create argc) ∷
    function (codes "Object") (codes "defineProperty") 3 (λ argc. define_property argc) ∷
    function (codes "Object") (codes "defineProperties") 2 (λ argc. define_all argc) ∷
    function (codes "Object") (codes "seal") 1 (λ argc. seal argc) ∷
    function (codes "Object") (codes "freeze") 1 (λ argc. freeze argc) ∷
    function (codes "Object") (codes "preventExtensions") 1 (λ argc. prevent_extensions) ∷
    function (codes "Object") (codes "isSealed") 1 (λ argc. is_sealed argc) ∷
    function (codes "Object") (codes "isFrozen") 1 (λ argc. is_frozen argc) ∷
    function (codes "Object") (codes "isExtensible") 1 (λ argc. is_extensible argc) ∷
    function (codes "Object") (codes "keys") 1 (λ argc. keys argc) ∷ []

-- Object.prototype (15.2.4)
abbrev pub object_prototype_rows : List Row
object_prototype_rows =
    function (codes "Object.prototype") (codes "toString") 0 (λ argc. object_to_string argc) ∷
    function (codes "Object.prototype") (codes "valueOf") 0 (λ argc. object_value_of) ∷
    function (codes "Object.prototype") (codes "hasOwnProperty") 1 (λ argc. has_own_property argc) ∷
    function (codes "Object.prototype") (codes "isPrototypeOf") 1 (λ argc. is_prototype_of argc) ∷
    function (codes "Object.prototype") (codes "propertyIsEnumerable") 1 (λ argc. property_is_enumerable argc) ∷
    left_function (codes "Object.prototype") (codes "toLocaleString") 0 ∷ []

-- Boolean.prototype (15.6.4)
abbrev pub boolean_rows : List Row
boolean_rows =
    function (codes "Boolean.prototype") (codes "toString") 0 (λ argc. boolean_to_string argc) ∷
    function (codes "Boolean.prototype") (codes "valueOf") 0 (λ argc. boolean_value_of) ∷ []

-- Number (15.7.3) and Number.prototype (15.7.4)
abbrev pub number_rows : List Row
number_rows =
    left_accessor (codes "Number") (codes "MAX_VALUE") ∷
    left_accessor (codes "Number") (codes "MIN_VALUE") ∷
    nan_constant (codes "Number") (codes "NaN") ∷
    left_accessor (codes "Number") (codes "NEGATIVE_INFINITY") ∷
    left_accessor (codes "Number") (codes "POSITIVE_INFINITY") ∷
    function (codes "Number.prototype") (codes "valueOf") 0 (λ argc. number_value_of) ∷
    left_function (codes "Number.prototype") (codes "toLocaleString") 0 ∷
    left_function (codes "Number.prototype") (codes "toFixed") 1 ∷
    left_function (codes "Number.prototype") (codes "toExponential") 1 ∷
    left_function (codes "Number.prototype") (codes "toPrecision") 1 ∷ []

-- Math (15.8)
abbrev pub math_rows : List Row
math_rows =
    function (codes "Math") (codes "abs") 1 (λ argc. math_abs argc) ∷
    function (codes "Math") (codes "max") 2 (λ argc. math_max argc) ∷
    function (codes "Math") (codes "min") 2 (λ argc. math_min argc) ∷
    left_accessor (codes "Math") (codes "E") ∷
    left_accessor (codes "Math") (codes "LN10") ∷
    left_accessor (codes "Math") (codes "LN2") ∷
    left_accessor (codes "Math") (codes "LOG2E") ∷
    left_accessor (codes "Math") (codes "LOG10E") ∷
    left_accessor (codes "Math") (codes "PI") ∷
    left_accessor (codes "Math") (codes "SQRT1_2") ∷
    left_accessor (codes "Math") (codes "SQRT2") ∷
    left_function (codes "Math") (codes "acos") 1 ∷
    left_function (codes "Math") (codes "asin") 1 ∷
    left_function (codes "Math") (codes "atan") 1 ∷
    left_function (codes "Math") (codes "atan2") 2 ∷
    left_function (codes "Math") (codes "ceil") 1 ∷
    left_function (codes "Math") (codes "cos") 1 ∷
    left_function (codes "Math") (codes "exp") 1 ∷
    left_function (codes "Math") (codes "floor") 1 ∷
    left_function (codes "Math") (codes "log") 1 ∷
    left_function (codes "Math") (codes "pow") 2 ∷
    left_function (codes "Math") (codes "random") 0 ∷
    left_function (codes "Math") (codes "round") 1 ∷
    left_function (codes "Math") (codes "sin") 1 ∷
    left_function (codes "Math") (codes "sqrt") 1 ∷
    left_function (codes "Math") (codes "tan") 1 ∷ []

-- those of the holders that constructors make
abbrev pub holder_rows : List Row
holder_rows = object_rows ++ (object_prototype_rows ++ (boolean_rows ++ number_rows))

-- all of them, in the order of their numbers
abbrev pub rows : List Row
rows = constructor_rows ++ (global_rows ++ (holder_rows ++ math_rows))

abbrev pub entries_of : List Row → List SeenEntry
entries_of rs = map (λ r. r.entry) rs

unfoldable pub entries : List SeenEntry
entries = map (λ r. r.entry) rows

-- no built-in
abbrev pub none : SeenEntry
none = seen_entry [] [] 0 form.LeftFunction

-- the steps of the built-in with a number
abbrev pub steps : ℕ → ℕ → Bool → Steps
steps which = get_or (map (λ r. r.clause) rows) which (λ argc construct. leaves [])
