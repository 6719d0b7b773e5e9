-- The lines of what is added and removed at the ends mean their clauses.
use Rattle.std.proofs.Common.{◌≡◌, ℕ, zero, Bool, drop, ℤ, pos, refl, ap}
use mathlib.Core.Path.{fun_ext}
use Rattle.native_protocol.specs.Steps.{Steps}
use Rattle.native_programs.proofs.EachLaws.{each_alike}
use Rattle.native_programs.specs.declared.values.Values.{Values}
use Rattle.native_programs.specs.Choosing.{count_between, passed}
use Rattle.native_programs.specs.Meaning.{fails, meaning, means}
use Rattle.native_programs.specs.Values.{values_begin}
use Rattle.array_natives.specs.declared.ends.TheConstants.{POP, PUSH, SHIFT, UNSHIFT}
use Rattle.array_natives.specs.Ends.{pop, pushed, push_by, push, shifted, shift_by, shift, items_first, moved_up_by, unshift_by, unshift}

pub pop_means : (argc : ℕ) (construct : Bool) → means POP argc construct ≡ pop argc
pop_means argc construct = refl

-- a length, an index and how many arguments there are are kept
at_items : ℕ → Bool → ℤ → ℤ → Values
at_items argc construct len i = record (values_begin argc construct) { length = len; index = i; items = passed argc 0 }

pushes : (argc : ℕ) (construct : Bool) (len : ℤ) → meaning zero (drop 4 PUSH) fails fails (at_items argc construct len (pos 0)) ≡ pushed argc len
unfolding at_items
pushes argc construct len = each_alike (at_items argc construct len) _ _ _ _ (λ again i. refl) (λ i. refl) (count_between (pos 0) (passed argc 0)) (pos 0)

pub push_means : (argc : ℕ) (construct : Bool) → means PUSH argc construct ≡ push argc
unfolding at_items
push_means argc construct = ap (λ (puts : ℤ → Steps). push_by puts argc) (fun_ext (pushes argc construct))

-- a length and an index are kept
at_index : ℕ → Bool → ℤ → ℤ → Values
at_index argc construct len i = record (values_begin argc construct) { length = len; index = i }

shifts : (argc : ℕ) (construct : Bool) (len : ℤ) → meaning zero (drop 10 SHIFT) fails fails (at_index argc construct len (pos 1)) ≡ shifted argc len
unfolding at_index
shifts argc construct len = each_alike (at_index argc construct len) _ _ _ _ (λ again i. refl) (λ i. refl) (count_between (pos 1) len) (pos 1)

pub shift_means : (argc : ℕ) (construct : Bool) → means SHIFT argc construct ≡ shift argc
unfolding at_index
shift_means argc construct = ap (λ (moves : ℤ → Steps). shift_by moves argc) (fun_ext (shifts argc construct))

firsts : (argc : ℕ) (construct : Bool) (len : ℤ) → meaning zero (drop 15 UNSHIFT) fails fails (at_items argc construct len (pos 0)) ≡ items_first argc len
unfolding at_items
firsts argc construct len = each_alike (at_items argc construct len) _ _ _ _ (λ again i. refl) (λ i. refl) (count_between (pos 0) (passed argc 0)) (pos 0)

moves_up : (argc : ℕ) (construct : Bool) (len : ℤ) → meaning zero (drop 5 UNSHIFT) fails fails (at_items argc construct len len) ≡ moved_up_by (items_first argc len) argc len
unfolding at_items
moves_up argc construct len = each_alike (at_items argc construct len) _ _ _ _ (λ again i. refl) (λ i. firsts argc construct len) (count_between (pos 0) len) len

pub unshift_means : (argc : ℕ) (construct : Bool) → means UNSHIFT argc construct ≡ unshift argc
unfolding at_items
unshift_means argc construct = ap (λ (moves : ℤ → Steps). unshift_by moves argc) (fun_ext (moves_up argc construct))
