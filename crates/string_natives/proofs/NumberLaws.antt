-- The lines of `parseInt`, of `isNaN` and of the text of a number mean their clauses.
use Rattle.std.proofs.Common.{◌≡◌, ℕ, Bool, true, false, cond, ltb, leb, not, ◌&&◌, ◌||◌, List, [], codes, Some, ℤ, pos, negsuc, Result, Ok, Err, if◌then◌else◌, refl, sym, ap, ap₂, ◌∙◌, arith}
use Rattle.std.specs.Prelude.{int_lt, is_err}
use mathlib.Core.Path.{fun_ext}
use Rattle.std.proofs.lemmas.Bool.{ltb-true, ltb-false, le-leb, lt-leb, le-ltb, or_from}
use Rattle.js_number.specs.Bits.{int32}
use Rattle.js_number.specs.Number.{integer_of}
use Rattle.js_number.specs.Radix.{integer_prefix, text_in_radix}
use Rattle.js_number.specs.declared.int.LeftNumbers.{LeftNumbers}
use Rattle.js_number.specs.declared.num.Num.{Num}
use Rattle.js_number.specs.declared.num.Num.TheVariants.{Nan, Int}
use Rattle.js_number.specs.declared.primitive.Primitive.TheVariants as prims
use Rattle.js_values.specs.declared.inner.Class.TheVariants as class
use Rattle.native_protocol.specs.declared.request.ErrorKind.TheVariants as error
use Rattle.native_protocol.specs.declared.request.Request.TheVariants.{ThrowNew}
use Rattle.native_protocol.specs.declared.request.Seen.{Seen}
use Rattle.native_protocol.specs.declared.request.Seen.TheVariants.{Prim, Object}
use Rattle.native_protocol.specs.Steps.{Steps, look, ends, leaves, reg, throws_type_error, number_or_leave}
use Rattle.native_programs.specs.Choosing.{is_nan, is_number, is_number_object}
use Rattle.native_programs.specs.Clauses.{gives}
use Rattle.native_programs.specs.Meaning.{means}
use Rattle.native_programs.specs.Wordings.{in_radix, number_read}
use Rattle.string_natives.specs.declared.numbers.TheConstants.{PARSE_INT, IS_NAN, NUMBER_TO_STRING}
use Rattle.string_natives.specs.Numbers.{parse_by, parse_int, tested, is_not_a_number, spelled, with_radix, number_in, number_to_string}
use Rattle.string_natives.specs.Values.{argument, to_number, needs_wrapper}

-- ---- parseInt

read_leaves : (argc : ℕ) (r : Result Num LeftNumbers) → (if is_err r then leaves (codes "number") else gives argc (prims.Num (number_read r))) ≡ number_or_leave r (λ n. gives argc (prims.Num n))
read_leaves argc (Ok n) = refl
read_leaves argc (Err left) = refl

pub parse_int_means : (argc : ℕ) (construct : Bool) → means PARSE_INT argc construct ≡ parse_int argc
parse_int_means argc construct =
    ap (λ (reads : List ℕ → Num → Steps). parse_by reads argc) (fun_ext (λ units. fun_ext (λ radix. read_leaves argc (integer_prefix units (int32 (integer_of radix))))))

-- ---- isNaN

nan_tested : (argc : ℕ) (n : Num) → (if is_nan (Some n) then gives argc (prims.Bool true) else gives argc (prims.Bool false)) ≡ tested argc n
nan_tested argc Nan = refl
nan_tested argc (Int n) = refl

pub is_nan_means : (argc : ℕ) (construct : Bool) → means IS_NAN argc construct ≡ is_not_a_number argc
is_nan_means argc construct = ap (λ (tests : Num → Steps). to_number argc (argument 0) tests) (fun_ext (nan_tested argc))

-- ---- Number.prototype.toString

range_error : Steps
range_error = ends (ThrowNew error.RangeError)

-- the radix is compared with both ends
checked : ℕ → Seen → ℤ → Steps
checked argc s radix = if int_lt radix (pos 2) then range_error else (if not (int_lt radix (pos 37)) then range_error else gives argc (prims.Str (in_radix s radix)))

radix_test : (a b : Bool) (k : ℕ) → ltb k 2 ≡ a → ltb k 37 ≡ b → (leb 2 k && leb k 36) ≡ (not a && b)
radix_test true b k e f = ap (λ t. t && leb k 36) (lt-leb 2 k (ltb-true k 2 e))
radix_test false true k e f = ap₂ (λ s t. s && t) (le-leb 2 k (ltb-false k 2 e)) (le-leb k 36 (omega (arith, ltb-true k 37 f)))
radix_test false false k e f = ap₂ (λ s t. s && t) (le-leb 2 k (ltb-false k 2 e)) (lt-leb k 36 (omega (arith, ltb-false k 37 f)))

checked_by : (a b : Bool) (argc k : ℕ) (n : Num) → ltb k 2 ≡ a → ltb k 37 ≡ b
    → cond a range_error (cond (not b) range_error (gives argc (prims.Str (cond (ltb k 2 || ltb 36 k) [] (text_in_radix k n))))) ≡ cond (leb 2 k && leb k 36) (gives argc (prims.Str (text_in_radix k n))) range_error
checked_by true b argc k n e f = sym (ap (λ t. cond t (gives argc (prims.Str (text_in_radix k n))) range_error) (radix_test true b k e f))
checked_by false true argc k n e f =
    ap (λ t. gives argc (prims.Str (cond t [] (text_in_radix k n)))) (or_from _ _ e (le-ltb 36 k (omega (arith, ltb-true k 37 f))))
    ∙ sym (ap (λ t. cond t (gives argc (prims.Str (text_in_radix k n))) range_error) (radix_test false true k e f))
checked_by false false argc k n e f = sym (ap (λ t. cond t (gives argc (prims.Str (text_in_radix k n))) range_error) (radix_test false false k e f))

checks : (argc : ℕ) (n : Num) (radix : ℤ) → checked argc (Prim (prims.Num n)) radix ≡ spelled argc n radix
unfolding checked range_error
checks argc n (pos k) = checked_by (ltb k 2) (ltb k 37) argc k n refl refl
checks argc n (negsuc k) = refl

-- what follows the look at `this`
this_seen : ℕ → Seen → Steps
this_seen argc s = if is_number_object s then needs_wrapper else (if not (is_number s) then throws_type_error else with_radix argc (checked argc s))

number_seen : (argc : ℕ) (s : Seen) → this_seen argc s ≡ number_in s (λ n. with_radix argc (spelled argc n))
unfolding this_seen
number_seen argc (Prim prims.Undefined) = refl
number_seen argc (Prim prims.Null) = refl
number_seen argc (Prim (prims.Bool b)) = refl
number_seen argc (Prim (prims.Num n)) = ap (λ (steps : ℤ → Steps). with_radix argc steps) (fun_ext (checks argc n))
number_seen argc (Prim (prims.Str t)) = refl
number_seen argc (Object class.Number) = refl
number_seen argc (Object c) = refl

pub number_to_string_means : (argc : ℕ) (construct : Bool) → means NUMBER_TO_STRING argc construct ≡ number_to_string argc
unfolding this_seen checked range_error
number_to_string_means argc construct = ap (λ (f : Seen → Steps). look (reg 0) f) (fun_ext (number_seen argc))
