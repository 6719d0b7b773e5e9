-- The built-ins of this set: what they are called, and which steps they take.
use Rattle.std.specs.Prelude.{ℕ, Bool, List, [], ◌∷◌, ◌++◌, get_or, codes}
use Rattle.native_protocol.specs.Sets.{SeenEntry}
use Rattle.native_protocol.specs.Steps.{Steps, leaves}
use Rattle.native_programs.specs.Tables.{Row, as_constructor, clauses_of, entries_of, function, left_function}
use Rattle.array_natives.specs.Constructor.{array_of, array_test}
use Rattle.array_natives.specs.Ends.{pop, push, shift, unshift}
use Rattle.array_natives.specs.Iterating.{every, some, for_each, map_all, filter, reduce, reduce_right}
use Rattle.array_natives.specs.Searching.{index_of, last_index_of}
use Rattle.array_natives.specs.Splicing.{splice}
use Rattle.array_natives.specs.Whole.{concat, join, reverse, slice, to_string}

-- Array (15.4.1, 15.4.2) and its function (15.4.3)
abbrev pub array_rows : List Row
array_rows =
    as_constructor (codes "global") (codes "Array") 1 (λ argc construct. array_of argc) ∷
    function (codes "Array") (codes "isArray") 1 (λ argc. array_test argc) ∷ []

-- Array.prototype (15.4.4)
abbrev pub prototype_rows : List Row
prototype_rows =
    function (codes "Array.prototype") (codes "toString") 0 (λ argc. to_string argc) ∷
    function (codes "Array.prototype") (codes "concat") 1 (λ argc. concat argc) ∷
    function (codes "Array.prototype") (codes "join") 1 (λ argc. join argc) ∷
    function (codes "Array.prototype") (codes "pop") 0 (λ argc. pop argc) ∷
    function (codes "Array.prototype") (codes "push") 1 (λ argc. push argc) ∷
    function (codes "Array.prototype") (codes "reverse") 0 (λ argc. reverse argc) ∷
    function (codes "Array.prototype") (codes "shift") 0 (λ argc. shift argc) ∷
    function (codes "Array.prototype") (codes "slice") 2 (λ argc. slice argc) ∷
    function (codes "Array.prototype") (codes "splice") 2 (λ argc. splice argc) ∷
    function (codes "Array.prototype") (codes "unshift") 1 (λ argc. unshift argc) ∷
    function (codes "Array.prototype") (codes "indexOf") 1 (λ argc. index_of argc) ∷
    function (codes "Array.prototype") (codes "lastIndexOf") 1 (λ argc. last_index_of argc) ∷
    function (codes "Array.prototype") (codes "every") 1 (λ argc. every argc) ∷
    function (codes "Array.prototype") (codes "some") 1 (λ argc. some argc) ∷
    function (codes "Array.prototype") (codes "forEach") 1 (λ argc. for_each argc) ∷
    function (codes "Array.prototype") (codes "map") 1 (λ argc. map_all argc) ∷
    function (codes "Array.prototype") (codes "filter") 1 (λ argc. filter argc) ∷
    function (codes "Array.prototype") (codes "reduce") 1 (λ argc. reduce argc) ∷
    function (codes "Array.prototype") (codes "reduceRight") 1 (λ argc. reduce_right argc) ∷
    left_function (codes "Array.prototype") (codes "toLocaleString") 0 ∷
    left_function (codes "Array.prototype") (codes "sort") 1 ∷ []

-- all of them, in the order of their numbers
abbrev pub rows : List Row
rows = array_rows ++ prototype_rows

unfoldable pub entries : List SeenEntry
entries = entries_of rows

-- the steps of the built-in with a number
abbrev pub steps : ℕ → ℕ → Bool → Steps
steps which = get_or (clauses_of rows) which (λ argc construct. leaves [])
