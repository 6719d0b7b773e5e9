-- The built-ins of this set: what they are called, and which steps they take.
use Rattle.std.specs.Prelude.{ℕ, Bool, List, [], ◌∷◌, ◌++◌, get_or, codes}
use Rattle.native_protocol.specs.Sets.{SeenEntry}
use Rattle.native_protocol.specs.Steps.{Steps, leaves}
use Rattle.native_programs.specs.Tables.{Row, as_constructor, function, left_constructor, left_function, entries_of, clauses_of}
use Rattle.function_natives.specs.Errors.{error, error_to_string}
use Rattle.function_natives.specs.Functions.{apply, call, bind}

-- the constructor of functions (15.3.1, 15.3.2): it exists, but its call and its construction aren't offered
abbrev pub function_rows : List Row
function_rows = left_constructor (codes "global") (codes "Function") 1 ∷ []

-- a constructor of errors
abbrev pub error_row : List ℕ → Row
error_row name = as_constructor (codes "global") name 1 (λ argc construct. error argc)

-- the constructors of errors (15.11.1, 15.11.2, 15.11.7)
abbrev pub error_rows : List Row
error_rows =
    error_row (codes "Error") ∷
    error_row (codes "EvalError") ∷
    error_row (codes "RangeError") ∷
    error_row (codes "ReferenceError") ∷
    error_row (codes "SyntaxError") ∷
    error_row (codes "TypeError") ∷
    error_row (codes "URIError") ∷ []

-- Function.prototype (15.3.4) and Error.prototype (15.11.4)
abbrev pub prototype_rows : List Row
prototype_rows =
    function (codes "Function.prototype") (codes "apply") 2 (λ argc. apply argc) ∷
    function (codes "Function.prototype") (codes "call") 1 (λ argc. call argc) ∷
    function (codes "Function.prototype") (codes "bind") 1 (λ argc. bind argc) ∷
    left_function (codes "Function.prototype") (codes "toString") 0 ∷
    function (codes "Error.prototype") (codes "toString") 0 (λ argc. error_to_string argc) ∷ []

-- all of them, in the order of their numbers
abbrev pub rows : List Row
rows = function_rows ++ (error_rows ++ prototype_rows)

unfoldable pub entries : List SeenEntry
entries = entries_of rows

-- the steps of the built-in with a number
abbrev pub steps : ℕ → ℕ → Bool → Steps
steps which = get_or (clauses_of rows) which (λ argc construct. leaves [])
