-- The lines of `apply`, `call` and `bind` mean their clauses.
use Rattle.std.proofs.Common.{◌≡◌, ℕ, zero, Bool, drop, ℤ, pos, if◌then◌else◌, refl, ap}
use mathlib.Core.Path.{fun_ext}
use Rattle.js_number.specs.declared.primitive.Primitive.TheVariants as prims
use Rattle.native_protocol.specs.declared.request.Seen.{Seen}
use Rattle.native_protocol.specs.declared.request.Seen.TheVariants.{Prim, Object}
use Rattle.native_protocol.specs.Steps.{Steps, throws_type_error}
use Rattle.native_programs.proofs.EachLaws.{each_alike}
use Rattle.native_programs.specs.declared.line.Sight.TheVariants as sight
use Rattle.native_programs.specs.declared.values.Values.{Values}
use Rattle.native_programs.specs.Choosing.{count_between, sees}
use Rattle.native_programs.specs.Meaning.{fails, meaning, means}
use Rattle.native_programs.specs.Values.{values_begin, with_seen}
use Rattle.function_natives.specs.declared.functions.TheConstants.{APPLY, CALL, BIND}
use Rattle.function_natives.specs.Functions.{elements_gathered, list_seen, list_seen_by, apply_by, apply, call, bind}

-- ---- apply

at_index : ℕ → Bool → ℤ → ℤ → Values
at_index argc construct len i = record (values_begin argc construct) { length = len; index = i }

gathers : (argc : ℕ) (construct : Bool) (n : ℤ) → meaning zero (drop 5 APPLY) fails fails (at_index argc construct n (pos 0)) ≡ elements_gathered argc n
unfolding at_index
gathers argc construct n = each_alike (at_index argc construct n) _ _ _ _ (λ again i. refl) (λ i. refl) (count_between (pos 0) n) (pos 0)

-- what follows the look at the list of arguments
listed : ℕ → Bool → Seen → Steps
listed argc construct s = if sees sight.ObjectOrNone s then meaning zero (drop 2 APPLY) fails fails (with_seen s (values_begin argc construct)) else throws_type_error

lists : (argc : ℕ) (construct : Bool) (s : Seen) → listed argc construct s ≡ list_seen argc s
unfolding listed at_index
lists argc construct (Object c) = ap (λ (gather : ℤ → Steps). list_seen_by gather argc (Object c)) (fun_ext (gathers argc construct))
lists argc construct (Prim prims.Undefined) = refl
lists argc construct (Prim prims.Null) = refl
lists argc construct (Prim (prims.Bool b)) = refl
lists argc construct (Prim (prims.Num n)) = refl
lists argc construct (Prim (prims.Str t)) = refl

pub apply_means : (argc : ℕ) (construct : Bool) → means APPLY argc construct ≡ apply argc
unfolding listed
apply_means argc construct = ap apply_by (fun_ext (lists argc construct))

-- ---- call and bind

pub call_means : (argc : ℕ) (construct : Bool) → means CALL argc construct ≡ call argc
call_means argc construct = refl

pub bind_means : (argc : ℕ) (construct : Bool) → means BIND argc construct ≡ bind argc
bind_means argc construct = refl
