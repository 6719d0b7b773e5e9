-- The lines of the searches mean their clauses.
use Rattle.std.proofs.Common.{◌≡◌, ℕ, zero, Bool, drop, ℤ, negsuc, refl, ap}
use mathlib.Core.Path.{fun_ext}
use Rattle.native_protocol.specs.Steps.{Steps}
use Rattle.native_programs.proofs.EachLaws.{each_alike}
use Rattle.native_programs.specs.declared.values.Values.{Values}
use Rattle.native_programs.specs.Choosing.{count_between}
use Rattle.native_programs.specs.Meaning.{fails, meaning, means}
use Rattle.native_programs.specs.Values.{values_begin}
use Rattle.array_natives.specs.declared.searching.TheConstants.{INDEX_OF, LAST_INDEX_OF}
use Rattle.array_natives.specs.Searching.{searched, index_by, index_of, searched_back, last_index_by, last_index_of}

-- a length and an index are kept
at_index : ℕ → Bool → ℤ → ℤ → Values
at_index argc construct len i = record (values_begin argc construct) { length = len; index = i }

searches : (argc : ℕ) (construct : Bool) (len from : ℤ) → meaning zero (drop 7 INDEX_OF) fails fails (at_index argc construct len from) ≡ searched argc len from
unfolding at_index
searches argc construct len from = each_alike (at_index argc construct len) _ _ _ _ (λ again i. refl) (λ i. refl) (count_between from len) from

pub index_of_means : (argc : ℕ) (construct : Bool) → means INDEX_OF argc construct ≡ index_of argc
unfolding at_index
index_of_means argc construct = ap (λ (search : ℤ → ℤ → Steps). index_by search argc) (fun_ext (λ len. fun_ext (searches argc construct len)))

-- and the integer of the second argument
at_last : ℕ → Bool → ℤ → ℤ → ℤ → Values
at_last argc construct len n i = record (values_begin argc construct) { length = len; first = n; last = negsuc 0; index = i }

searches_back : (argc : ℕ) (construct : Bool) (len n from : ℤ) → meaning zero (drop 12 LAST_INDEX_OF) fails fails (at_last argc construct len n from) ≡ searched_back argc from
unfolding at_last
searches_back argc construct len n from = each_alike (at_last argc construct len n) _ _ _ _ (λ again i. refl) (λ i. refl) (count_between (negsuc 0) from) from

pub last_index_of_means : (argc : ℕ) (construct : Bool) → means LAST_INDEX_OF argc construct ≡ last_index_of argc
unfolding at_last
last_index_of_means argc construct = ap (λ (search : ℤ → ℤ → ℤ → Steps). last_index_by search argc) (fun_ext (λ len. fun_ext (λ n. fun_ext (searches_back argc construct len n))))
