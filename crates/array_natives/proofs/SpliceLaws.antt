-- The lines of `splice` mean its clause.
use Rattle.std.proofs.Common.{◌≡◌, ℕ, zero, suc, Bool, drop, ℤ, pos, ◌+ℤ◌, ◌-ℤ◌, refl, ◌∙◌, ap}
use mathlib.Core.Path.{fun_ext}
use Rattle.native_protocol.specs.Steps.{Steps}
use Rattle.native_programs.proofs.EachLaws.{each_alike}
use Rattle.native_programs.specs.declared.line.Ask.TheVariants as asking
use Rattle.native_programs.specs.declared.line.Count.TheVariants as times
use Rattle.native_programs.specs.declared.line.Counter.TheVariants as counter
use Rattle.native_programs.specs.declared.line.Name.TheVariants as name
use Rattle.native_programs.specs.declared.line.Place.TheVariants as place
use Rattle.native_programs.specs.declared.values.Values.{Values}
use Rattle.native_programs.specs.Choosing.{bumped, count_between}
use Rattle.native_programs.specs.Meaning.{asked, exit_steps, fails, meaning, means}
use Rattle.native_programs.specs.Values.{values_begin}
use Rattle.array_natives.specs.declared.splice.TheConstants.{SPLICE}
use Rattle.array_natives.specs.Shared.{define_at, element, element_or}
use Rattle.array_natives.specs.Splicing.{Splice, closed, closed_or, cut_off, filled_up, items_put, opened, opened_or, replaced, splice, splice_by, splice_of, spliced}

-- the length, the start, the numbers of removed elements and of items, the end of a loop and an index are kept
at_index : ℕ → Bool → Splice → ℤ → ℤ → Values
at_index argc construct s last i = record (values_begin argc construct) { length = s.len; first = s.start; count = s.removed; items = s.items; last = last; index = i }

-- the same, before the items are counted
at_removed : ℕ → Bool → ℤ → ℤ → ℤ → ℤ → Values
at_removed argc construct len start removed i = record (values_begin argc construct) { length = len; first = start; count = removed; last = len -ℤ start; index = i }

puts : (argc : ℕ) (construct : Bool) (s : Splice) (last : ℤ) → meaning zero (drop 45 SPLICE) fails fails (at_index argc construct s last (pos 0)) ≡ items_put argc s
unfolding at_index
puts argc construct s last = each_alike (at_index argc construct s last) _ _ _ _ (λ again i. refl) (λ i. refl) (count_between (pos 0) s.items) (pos 0)

-- step 13
opens : (argc : ℕ) (construct : Bool) (s : Splice) (last : ℤ) → meaning zero (drop 34 SPLICE) fails fails (at_index argc construct s last (s.len -ℤ s.removed)) ≡ opened argc s (items_put argc s)
unfolding at_index
opens argc construct s last = each_alike (at_index argc construct s last) _ _ _ _ (λ again i. refl) (λ i. puts argc construct s last) (count_between s.start (s.len -ℤ s.removed)) (s.len -ℤ s.removed)

fills : (argc : ℕ) (construct : Bool) (s : Splice) (last i : ℤ) → meaning zero (drop 32 SPLICE) fails fails (at_index argc construct s last i) ≡ filled_up argc s
unfolding at_index
fills argc construct s last i =
    ap (λ (move : Steps). opened_or move s (meaning zero (drop 45 SPLICE) fails fails (at_index argc construct s last (pos 0)))) (opens argc construct s last)
    ∙ ap (λ (put : Steps). opened_or (opened argc s (items_put argc s)) s put) (puts argc construct s last)

-- step 12
cuts : (argc : ℕ) (construct : Bool) (s : Splice) → meaning zero (drop 29 SPLICE) fails fails (at_index argc construct s ((s.len -ℤ s.removed) +ℤ s.items) s.len) ≡ cut_off argc s (filled_up argc s)
unfolding at_index
cuts argc construct s =
    each_alike (at_index argc construct s ((s.len -ℤ s.removed) +ℤ s.items)) _ _ _ _ (λ again i. refl) (λ i. fills argc construct s ((s.len -ℤ s.removed) +ℤ s.items) i)
    (count_between ((s.len -ℤ s.removed) +ℤ s.items) s.len) s.len

closes : (argc : ℕ) (construct : Bool) (s : Splice) → meaning zero (drop 18 SPLICE) fails fails (at_index argc construct s (s.len -ℤ s.removed) s.start) ≡ closed argc s (cut_off argc s (filled_up argc s))
unfolding at_index
closes argc construct s =
    each_alike (at_index argc construct s (s.len -ℤ s.removed)) _ _ _ _ (λ again i. refl) (λ i. cuts argc construct s) (count_between s.start (s.len -ℤ s.removed)) s.start

replaces : (argc : ℕ) (construct : Bool) (s : Splice) (last i : ℤ) → meaning zero (drop 15 SPLICE) fails fails (at_index argc construct s last i) ≡ replaced argc s
unfolding at_index
replaces argc construct s last i =
    ap (λ (move : Steps). closed_or move s (meaning zero (drop 32 SPLICE) fails fails (at_index argc construct s last i))) (closes argc construct s)
    ∙ ap (λ (fill : Steps). closed_or (closed argc s (cut_off argc s (filled_up argc s))) s fill) (fills argc construct s last i)

-- steps 8 and 9. What an iteration does is written out, since for a `_` the check would compute all lines that follow
abbrev copy_turn : Values → (Values → Steps) → Steps
copy_turn w again =
    asked (asking.Has place.This (name.Sum counter.First counter.Index) (place.Free 6)) w
    (meaning zero (drop 10 SPLICE) (λ u. again (bumped (times.Up counter.Index counter.Count) u)) (meaning (suc zero) (drop 10 SPLICE) fails fails))
    (exit_steps (meaning zero (drop 10 SPLICE) (λ u. again (bumped (times.Up counter.Index counter.Count) u)) (meaning (suc zero) (drop 10 SPLICE) fails fails))
    (λ u. again (bumped (times.Up counter.Index counter.Count) u)) (meaning (suc zero) (drop 10 SPLICE) fails fails))

removes : (argc : ℕ) (construct : Bool) (len start removed : ℤ) → meaning zero (drop 9 SPLICE) fails fails (at_removed argc construct len start removed (pos 0)) ≡ spliced argc len start removed
unfolding at_index at_removed
removes argc construct len start removed =
    each_alike (at_removed argc construct len start removed) copy_turn
    (λ k again. element_or argc (start +ℤ k) (define_at argc k (element argc) (again (k +ℤ pos 1))) (again (k +ℤ pos 1)))
    (meaning (suc zero) (drop 10 SPLICE) fails fails) (λ k. replaced argc (splice_of argc len start removed))
    (λ again k. refl) (λ k. replaces argc construct (splice_of argc len start removed) (len -ℤ start) k)
    (count_between (pos 0) removed) (pos 0)

pub splice_means : (argc : ℕ) (construct : Bool) → means SPLICE argc construct ≡ splice argc
unfolding at_removed
splice_means argc construct = ap (λ (all : ℤ → ℤ → ℤ → Steps). splice_by all argc) (fun_ext (λ len. fun_ext (λ start. fun_ext (removes argc construct len start))))
