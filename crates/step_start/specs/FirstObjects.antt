-- The standard's own objects, as they are made.
use Rattle.std.specs.Prelude.{List, [], ◌∷◌, Some, None}
use Rattle.js_values.specs.declared.inner.Class.TheVariants as class
use Rattle.js_values.specs.Objects.{PlainObject, plain, fresh_plain}
use Rattle.native_protocol.specs.declared.request.ErrorKind.TheVariants as kinds
use Rattle.es_meaning.specs.Start.{object_prototype, error_prototype, global, prototype_of_arrays, prototype_of_errors, prototype_of_strings, native_function}

-- the prototype of all objects, and the global object behind it
abbrev pub first_two : List PlainObject
first_two = fresh_plain class.Object plain None ∷ global ∷ []

abbrev pub prototypes_of_errors : List PlainObject
prototypes_of_errors = prototype_of_errors kinds.Error object_prototype
    ∷ prototype_of_errors kinds.EvalError (error_prototype kinds.Error)
    ∷ prototype_of_errors kinds.RangeError (error_prototype kinds.Error)
    ∷ prototype_of_errors kinds.ReferenceError (error_prototype kinds.Error)
    ∷ prototype_of_errors kinds.SyntaxError (error_prototype kinds.Error)
    ∷ prototype_of_errors kinds.TypeError (error_prototype kinds.Error)
    ∷ prototype_of_errors kinds.UriError (error_prototype kinds.Error) ∷ []

-- the prototypes of booleans and numbers, `Math` and `JSON`, and the prototypes of arrays and strings
abbrev pub holders : List PlainObject
holders = fresh_plain class.Boolean plain (Some object_prototype)
    ∷ fresh_plain class.Number plain (Some object_prototype)
    ∷ fresh_plain class.Math plain (Some object_prototype)
    ∷ fresh_plain class.Json plain (Some object_prototype)
    ∷ prototype_of_arrays ∷ prototype_of_strings ∷ []

-- the accessors `caller`, `arguments` and `callee`
abbrev pub accessors : List PlainObject
accessors = native_function 0 0 [] ∷ native_function 1 0 [] ∷ native_function 2 0 [] ∷ []
