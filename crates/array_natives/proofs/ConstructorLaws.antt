-- The lines of Array and of Array.isArray mean their clauses.
use Rattle.std.proofs.Common.{◌≡◌, ℕ, zero, Bool, not, nat_lt, if◌then◌else◌, drop, ℤ, pos, refl, ◌∙◌, ap}
use mathlib.Core.Path.{fun_ext}
use Rattle.js_number.specs.declared.num.Num.TheVariants.{Nan, Int}
use Rattle.js_number.specs.declared.primitive.Primitive.TheVariants as prims
use Rattle.native_protocol.specs.declared.request.Seen.{Seen}
use Rattle.native_protocol.specs.declared.request.Seen.TheVariants.{Prim, Object}
use Rattle.native_protocol.specs.Steps.{Steps, look, reg}
use Rattle.native_programs.proofs.EachLaws.{each_alike}
use Rattle.native_programs.specs.declared.line.Sight.TheVariants as sight
use Rattle.native_programs.specs.declared.values.Values.{Values}
use Rattle.native_programs.specs.Choosing.{count_between, passed, sees, whole_of}
use Rattle.native_programs.specs.declared.line.Whole.TheVariants as whole
use Rattle.native_programs.specs.Clauses.{free}
use Rattle.native_programs.specs.Meaning.{fails, meaning, means, number_of_seen}
use Rattle.native_programs.specs.Values.{values_begin, with_number}
use Rattle.array_natives.specs.declared.constructor.TheConstants.{ARRAY_OF, IS_ARRAY}
use Rattle.array_natives.specs.Constructor.{array_by, array_of, array_test, elements, elements_defined, sized_or}
use Rattle.array_natives.specs.Shared.{new_array}

pub is_array_means : (argc : ℕ) (construct : Bool) → means IS_ARRAY argc construct ≡ array_test argc
is_array_means argc construct = refl

-- an index and how many arguments there are are kept
at_items : ℕ → Bool → ℤ → Values
at_items argc construct i = record (values_begin argc construct) { index = i; items = passed argc 0 }

defines : (argc : ℕ) (construct : Bool) → meaning zero (drop 11 ARRAY_OF) fails fails (at_items argc construct (pos 0)) ≡ elements_defined argc
unfolding at_items
defines argc construct = each_alike (at_items argc construct) _ _ _ _ (λ again i. refl) (λ i. refl) (count_between (pos 0) (passed argc 0)) (pos 0)

fills : (argc : ℕ) (construct : Bool) → meaning zero (drop 3 ARRAY_OF) fails fails (values_begin argc construct) ≡ elements argc
unfolding at_items
fills argc construct = ap (λ (all : Steps). new_array argc all) (defines argc construct)

-- what follows the look at a single argument
single : ℕ → Bool → Seen → Steps
single argc construct s =
    if sees sight.Number s
    then number_of_seen s (reg 2) (free argc 0) (free argc 1) (λ n. meaning zero (drop 3 ARRAY_OF) fails fails (with_number n (record (values_begin argc construct) { length = whole_of whole.Uint32 n })))
    else meaning zero (drop 3 ARRAY_OF) fails fails (values_begin argc construct)

sizes : (argc : ℕ) (construct : Bool) (s : Seen) → single argc construct s ≡ sized_or (meaning zero (drop 3 ARRAY_OF) fails fails (values_begin argc construct)) argc s
unfolding single
sizes argc construct (Object c) = refl
sizes argc construct (Prim prims.Undefined) = refl
sizes argc construct (Prim prims.Null) = refl
sizes argc construct (Prim (prims.Bool b)) = refl
sizes argc construct (Prim (prims.Str t)) = refl
sizes argc construct (Prim (prims.Num Nan)) = refl
sizes argc construct (Prim (prims.Num (Int n))) = refl

-- the whole, with what follows that look, and what follows where there is no single argument
array_with : (Seen → Steps) → Steps → ℕ → Steps
array_with seen filled argc = if not (nat_lt 1 argc) then (if nat_lt 0 argc then look (reg 2) seen else filled) else filled

looks : (argc : ℕ) (construct : Bool) → means ARRAY_OF argc construct ≡ array_by (meaning zero (drop 3 ARRAY_OF) fails fails (values_begin argc construct)) argc
unfolding array_with single
looks argc construct = ap (λ (seen : Seen → Steps). array_with seen (meaning zero (drop 3 ARRAY_OF) fails fails (values_begin argc construct)) argc) (fun_ext (sizes argc construct))

pub array_means : (argc : ℕ) (construct : Bool) → means ARRAY_OF argc construct ≡ array_of argc
array_means argc construct = looks argc construct ∙ ap (λ (filled : Steps). array_by filled argc) (fills argc construct)
