-- The built-ins of this set: what they are called, and which steps they take.
use Rattle.std.specs.Prelude.{ℕ, Bool, List, [], ◌∷◌, ◌++◌, map, get_or, codes}
use Rattle.native_protocol.specs.Sets.{SeenEntry}
use Rattle.native_protocol.specs.Steps.{Steps, leaves}
use Rattle.native_programs.specs.Tables.{Row, as_constructor, function, left_function}
use Rattle.string_natives.specs.Numbers.{parse_int, is_not_a_number, number_to_string}
use Rattle.string_natives.specs.Parts.{concat, slice, substring, to_lower_case, to_upper_case, trim}
use Rattle.string_natives.specs.Pieces.{split}
use Rattle.string_natives.specs.Places.{char_at, char_code_at, index_of, last_index_of}
use Rattle.string_natives.specs.Values.{string, from_char_code, value_of_text}

-- the global object (15.1.2, 15.5.1)
abbrev pub global_rows : List Row
global_rows =
    function (codes "global") (codes "parseInt") 2 (λ argc. parse_int argc) ∷
    as_constructor (codes "global") (codes "String") 1 (λ argc construct. string argc construct) ∷
    function (codes "global") (codes "isNaN") 1 (λ argc. is_not_a_number argc) ∷ []

-- String (15.5.3) and String.prototype (15.5.4)
abbrev pub string_rows : List Row
string_rows =
    function (codes "String") (codes "fromCharCode") 1 (λ argc. from_char_code argc) ∷
    function (codes "String.prototype") (codes "toString") 0 (λ argc. value_of_text) ∷
    function (codes "String.prototype") (codes "valueOf") 0 (λ argc. value_of_text) ∷
    function (codes "String.prototype") (codes "charAt") 1 (λ argc. char_at argc) ∷
    function (codes "String.prototype") (codes "charCodeAt") 1 (λ argc. char_code_at argc) ∷
    function (codes "String.prototype") (codes "concat") 1 (λ argc. concat argc) ∷
    function (codes "String.prototype") (codes "indexOf") 1 (λ argc. index_of argc) ∷
    function (codes "String.prototype") (codes "lastIndexOf") 1 (λ argc. last_index_of argc) ∷
    function (codes "String.prototype") (codes "slice") 2 (λ argc. slice argc) ∷
    function (codes "String.prototype") (codes "split") 2 (λ argc. split argc) ∷
    function (codes "String.prototype") (codes "substring") 2 (λ argc. substring argc) ∷
    function (codes "String.prototype") (codes "toLowerCase") 0 (λ argc. to_lower_case argc) ∷
    function (codes "String.prototype") (codes "toUpperCase") 0 (λ argc. to_upper_case argc) ∷
    function (codes "String.prototype") (codes "trim") 0 (λ argc. trim argc) ∷
    left_function (codes "String.prototype") (codes "localeCompare") 1 ∷
    left_function (codes "String.prototype") (codes "match") 1 ∷
    left_function (codes "String.prototype") (codes "replace") 2 ∷
    left_function (codes "String.prototype") (codes "search") 1 ∷
    left_function (codes "String.prototype") (codes "toLocaleLowerCase") 0 ∷
    left_function (codes "String.prototype") (codes "toLocaleUpperCase") 0 ∷ []

-- Number.prototype (15.7.4): the functions that make no text of a number by a radix are in `object_natives`
abbrev pub number_rows : List Row
number_rows = function (codes "Number.prototype") (codes "toString") 1 (λ argc. number_to_string argc) ∷ []

-- all of them, in the order of their numbers
abbrev pub rows : List Row
rows = global_rows ++ (string_rows ++ number_rows)

unfoldable pub entries : List SeenEntry
entries = map (λ r. r.entry) rows

-- the steps of the built-in with a number
abbrev pub steps : ℕ → ℕ → Bool → Steps
steps which = get_or (map (λ r. r.clause) rows) which (λ argc construct. leaves [])
