-- The lines of what is made of an array as a whole mean their clauses.
use Rattle.std.proofs.Common.{◌≡◌, ℕ, zero, Bool, List, [], drop, ℤ, pos, ◌+ℤ◌, int_div, refl, ap}
use mathlib.Core.Path.{fun_ext}
use Rattle.native_protocol.specs.Steps.{Steps}
use Rattle.native_programs.proofs.EachLaws.{each_alike}
use Rattle.native_programs.specs.declared.line.Count.TheVariants as times
use Rattle.native_programs.specs.declared.line.Counter.TheVariants as counter
use Rattle.native_programs.specs.declared.values.Values.{Values}
use Rattle.native_programs.specs.Choosing.{bumped, count_between, passed}
use Rattle.native_programs.specs.Meaning.{fails, meaning, means}
use Rattle.native_programs.specs.Values.{values_begin}
use Rattle.array_natives.specs.declared.whole.TheConstants.{TO_STRING, CONCAT, JOIN, REVERSE, SLICE}
use Rattle.array_natives.specs.Shared.{Places, places}
use Rattle.array_natives.specs.Whole.{Joining, all_copied, concat, concat_by, concatenated, item_added_by, join, joined, joining, joins_by, reverse, reverse_by, reversed, slice, slice_by, sliced, to_string}

pub to_string_means : (argc : ℕ) (construct : Bool) → means TO_STRING argc construct ≡ to_string argc
to_string_means argc construct = refl

-- ---- concat

-- how many items there are, the number of one, and an index of the new array are kept
at_item : ℕ → Bool → Places → Values
at_item argc construct p = record (values_begin argc construct) { items = passed argc 0 +ℤ pos 1; first = p.from; count = p.to }

-- and besides, in an array, its length and an index
at_element : ℕ → Bool → ℤ → ℤ → Places → Values
at_element argc construct first len p = record (values_begin argc construct) { items = passed argc 0 +ℤ pos 1; first = first; length = len; index = p.from; count = p.to }

copies : (argc : ℕ) (construct : Bool) (again : Values → Steps) (p : Places) (len : ℤ)
    → meaning zero (drop 12 CONCAT) (λ u. again (bumped (times.Up counter.First counter.Items) u)) fails (at_element argc construct p.from len (places (pos 0) p.to))
    ≡ all_copied argc p (λ q. again (at_item argc construct q)) len
unfolding at_item at_element
copies argc construct again p len = each_alike (at_element argc construct p.from len) _ _ _ _ (λ more q. refl) (λ q. refl) (count_between (pos 0) len) (places (pos 0) p.to)

concatenates : (argc : ℕ) (construct : Bool) → meaning zero (drop 4 CONCAT) fails fails (at_item argc construct (places (pos 0) (pos 0))) ≡ concatenated argc
unfolding at_item at_element
concatenates argc construct =
    each_alike (at_item argc construct) _ _ _ _
    (λ again p. ap (λ (copy : ℤ → Steps). item_added_by copy argc p (λ q. again (at_item argc construct q))) (fun_ext (copies argc construct again p)))
    (λ p. refl) (count_between (pos 0) (passed argc 0 +ℤ pos 1)) (places (pos 0) (pos 0))

pub concat_means : (argc : ℕ) (construct : Bool) → means CONCAT argc construct ≡ concat argc
unfolding at_item
concat_means argc construct = ap (λ (all : Steps). concat_by all argc) (concatenates argc construct)

-- ---- join

-- a length, an index, the separator and the text so far are kept
at_joining : ℕ → Bool → ℤ → List ℕ → Joining → Values
at_joining argc construct len sep j = record (values_begin argc construct) { length = len; index = j.at; sought = sep; result = j.text }

joins : (argc : ℕ) (construct : Bool) (len : ℤ) (sep : List ℕ) → meaning zero (drop 5 JOIN) fails fails (at_joining argc construct len sep (joining (pos 0) [])) ≡ joined argc len sep
unfolding at_joining
joins argc construct len sep = each_alike (at_joining argc construct len sep) _ _ _ _ (λ again j. refl) (λ j. refl) (count_between (pos 0) len) (joining (pos 0) [])

pub join_means : (argc : ℕ) (construct : Bool) → means JOIN argc construct ≡ join argc
unfolding at_joining
join_means argc construct = ap (λ (each_joined : ℤ → List ℕ → Steps). joins_by each_joined argc) (fun_ext (λ len. fun_ext (joins argc construct len)))

-- ---- reverse

at_lower : ℕ → Bool → ℤ → ℤ → Values
at_lower argc construct len i = record (values_begin argc construct) { length = len; last = int_div len (pos 2); index = i }

reverses : (argc : ℕ) (construct : Bool) (len : ℤ) → meaning zero (drop 4 REVERSE) fails fails (at_lower argc construct len (pos 0)) ≡ reversed argc len
unfolding at_lower
reverses argc construct len = each_alike (at_lower argc construct len) _ _ _ _ (λ again i. refl) (λ i. refl) (count_between (pos 0) (int_div len (pos 2))) (pos 0)

pub reverse_means : (argc : ℕ) (construct : Bool) → means REVERSE argc construct ≡ reverse argc
unfolding at_lower
reverse_means argc construct = ap (λ (turns : ℤ → Steps). reverse_by turns argc) (fun_ext (reverses argc construct))

-- ---- slice

-- a length, the end, and an index in each array are kept
at_slice : ℕ → Bool → ℤ → ℤ → Places → Values
at_slice argc construct len until p = record (values_begin argc construct) { length = len; last = until; index = p.from; count = p.to }

slices : (argc : ℕ) (construct : Bool) (len from until : ℤ) → meaning zero (drop 9 SLICE) fails fails (at_slice argc construct len until (places from (pos 0))) ≡ sliced argc from until
unfolding at_slice
slices argc construct len from until = each_alike (at_slice argc construct len until) _ _ _ _ (λ again p. refl) (λ p. refl) (count_between from until) (places from (pos 0))

pub slice_means : (argc : ℕ) (construct : Bool) → means SLICE argc construct ≡ slice argc
unfolding at_slice
slice_means argc construct = ap (λ (cuts : ℤ → ℤ → ℤ → Steps). slice_by cuts argc) (fun_ext (λ len. fun_ext (λ from. fun_ext (slices argc construct len from))))
