-- The lines of the functions that call back for each element mean their clauses.
use Rattle.std.proofs.Common.{◌≡◌, ℕ, zero, Bool, true, false, not, nat_lt, if◌then◌else◌, drop, ℤ, pos, negsuc, ◌+ℤ◌, refl, ◌∙◌, ap}
use mathlib.Core.Path.{fun_ext}
use Rattle.native_protocol.specs.declared.request.Request.TheVariants.{Copy}
use Rattle.native_protocol.specs.Steps.{Steps, ask, reg}
use Rattle.native_programs.proofs.EachLaws.{each_alike}
use Rattle.native_programs.specs.declared.values.Values.{Values}
use Rattle.native_programs.specs.Choosing.{count_between}
use Rattle.native_programs.specs.Meaning.{fails, meaning, means}
use Rattle.native_programs.specs.Values.{values_begin}
use Rattle.array_natives.specs.declared.iterating.TheConstants.{EVERY, SOME, FOR_EACH, MAP, FILTER, REDUCE, REDUCE_RIGHT}
use Rattle.array_natives.specs.Iterating.{visits_by, tested, every, sought, some, each_called, for_each, mapped, maps_by, map_all, filtered, filters_by, filter, folded, folded_back, first_by, last_by, begun_by, reduced, reduce, reduced_back, reduce_right}
use Rattle.array_natives.specs.Shared.{Places, places, total}

-- a length and an index are kept
at_index : ℕ → Bool → ℤ → ℤ → Values
at_index argc construct len i = record (values_begin argc construct) { length = len; index = i }

-- ---- every, some, forEach

tests : (argc : ℕ) (construct : Bool) (len : ℤ) → meaning zero (drop 4 EVERY) fails fails (at_index argc construct len (pos 0)) ≡ tested argc len
unfolding at_index
tests argc construct len = each_alike (at_index argc construct len) _ _ _ _ (λ again i. refl) (λ i. refl) (count_between (pos 0) len) (pos 0)

pub every_means : (argc : ℕ) (construct : Bool) → means EVERY argc construct ≡ every argc
unfolding at_index
every_means argc construct = ap (λ (test : ℤ → Steps). visits_by test argc) (fun_ext (tests argc construct))

seeks : (argc : ℕ) (construct : Bool) (len : ℤ) → meaning zero (drop 4 SOME) fails fails (at_index argc construct len (pos 0)) ≡ sought argc len
unfolding at_index
seeks argc construct len = each_alike (at_index argc construct len) _ _ _ _ (λ again i. refl) (λ i. refl) (count_between (pos 0) len) (pos 0)

pub some_means : (argc : ℕ) (construct : Bool) → means SOME argc construct ≡ some argc
unfolding at_index
some_means argc construct = ap (λ (seek : ℤ → Steps). visits_by seek argc) (fun_ext (seeks argc construct))

calls : (argc : ℕ) (construct : Bool) (len : ℤ) → meaning zero (drop 4 FOR_EACH) fails fails (at_index argc construct len (pos 0)) ≡ each_called argc len
unfolding at_index
calls argc construct len = each_alike (at_index argc construct len) _ _ _ _ (λ again i. refl) (λ i. refl) (count_between (pos 0) len) (pos 0)

pub for_each_means : (argc : ℕ) (construct : Bool) → means FOR_EACH argc construct ≡ for_each argc
unfolding at_index
for_each_means argc construct = ap (λ (call : ℤ → Steps). visits_by call argc) (fun_ext (calls argc construct))

-- ---- map, filter

maps : (argc : ℕ) (construct : Bool) (len : ℤ) → meaning zero (drop 7 MAP) fails fails (at_index argc construct len (pos 0)) ≡ mapped argc len
unfolding at_index
maps argc construct len = each_alike (at_index argc construct len) _ _ _ _ (λ again i. refl) (λ i. refl) (count_between (pos 0) len) (pos 0)

pub map_means : (argc : ℕ) (construct : Bool) → means MAP argc construct ≡ map_all argc
unfolding at_index
map_means argc construct = ap (λ (each_mapped : ℤ → Steps). maps_by each_mapped argc) (fun_ext (maps argc construct))

-- an index of the array and one of the new array are kept
at_places : ℕ → Bool → ℤ → Places → Values
at_places argc construct len p = record (values_begin argc construct) { length = len; index = p.from; count = p.to }

filters : (argc : ℕ) (construct : Bool) (len : ℤ) → meaning zero (drop 5 FILTER) fails fails (at_places argc construct len (places (pos 0) (pos 0))) ≡ filtered argc len
unfolding at_places
filters argc construct len = each_alike (at_places argc construct len) _ _ _ _ (λ again p. refl) (λ p. refl) (count_between (pos 0) len) (places (pos 0) (pos 0))

pub filter_means : (argc : ℕ) (construct : Bool) → means FILTER argc construct ≡ filter argc
unfolding at_places
filter_means argc construct = ap (λ (each_filtered : ℤ → Steps). filters_by each_filtered argc) (fun_ext (filters argc construct))

-- ---- reduce, reduceRight

-- what is tested twice
once : (b : Bool) (first : Steps → Steps) (p q r s : Steps) → (if b then first (if not b then p else q) else (if not b then r else s)) ≡ (if b then first q else r)
once true first p q r s = refl
once false first p q r s = refl

-- whether a first value was found is kept
at_fold : ℕ → Bool → ℤ → ℤ → ℤ → ℤ → Values
at_fold argc construct len last found i = record (values_begin argc construct) { length = len; last = last; count = found; index = i }

folding : (argc : ℕ) (construct : Bool) (len found from : ℤ) → meaning zero (drop 15 REDUCE) fails fails (at_fold argc construct len (pos 0) found from) ≡ folded argc len from
unfolding at_fold
folding argc construct len found from = each_alike (at_fold argc construct len (pos 0) found) _ _ _ _ (λ again i. refl) (λ i. refl) (count_between from len) from

-- the steps after the first value
from_first : ℕ → Bool → ℤ → ℤ → Steps
from_first argc construct len from = meaning zero (drop 15 REDUCE) fails fails (at_fold argc construct len (pos 0) (pos 1) from)

first_loop : (argc : ℕ) (construct : Bool) (len : ℤ) → meaning zero (drop 6 REDUCE) fails fails (at_fold argc construct len (pos 0) (pos 0) (pos 0)) ≡ first_by (from_first argc construct len) argc len
unfolding at_fold from_first
first_loop argc construct len = each_alike (at_fold argc construct len (pos 0) (pos 0)) _ _ _ _ (λ again i. refl) (λ i. refl) (count_between (pos 0) len) (pos 0)

firsts : (argc : ℕ) (construct : Bool) (len : ℤ) → meaning zero (drop 6 REDUCE) fails fails (at_fold argc construct len (pos 0) (pos 0) (pos 0)) ≡ first_by (folded argc len) argc len
unfolding from_first
firsts argc construct len = first_loop argc construct len ∙ ap (λ (fold : ℤ → Steps). first_by fold argc len) (fun_ext (folding argc construct len (pos 1)))

begun : (argc : ℕ) (construct : Bool) (len : ℤ) → meaning zero (drop 4 REDUCE) fails fails (at_fold argc construct len (pos 0) (pos 0) (pos 0))
    ≡ begun_by (meaning zero (drop 15 REDUCE) fails fails (at_fold argc construct len (pos 0) (pos 0) (pos 0))) (meaning zero (drop 6 REDUCE) fails fails (at_fold argc construct len (pos 0) (pos 0) (pos 0))) argc
unfolding at_fold
begun argc construct len =
    let v = at_fold argc construct len (pos 0) (pos 0) (pos 0) in
    once (nat_lt 1 argc) (λ next. ask (Copy (reg 3) (total argc)) next) (meaning zero (drop 6 REDUCE) fails fails v) (meaning zero (drop 15 REDUCE) fails fails v) (meaning zero (drop 6 REDUCE) fails fails v) (meaning zero (drop 15 REDUCE) fails fails v)

reduces : (argc : ℕ) (construct : Bool) (len : ℤ) → meaning zero (drop 4 REDUCE) fails fails (at_fold argc construct len (pos 0) (pos 0) (pos 0)) ≡ reduced argc len
reduces argc construct len =
    begun argc construct len
    ∙ ap (λ (fold : Steps). begun_by fold (meaning zero (drop 6 REDUCE) fails fails (at_fold argc construct len (pos 0) (pos 0) (pos 0))) argc) (folding argc construct len (pos 0) (pos 0))
    ∙ ap (λ (found : Steps). begun_by (folded argc len (pos 0)) found argc) (firsts argc construct len)

pub reduce_means : (argc : ℕ) (construct : Bool) → means REDUCE argc construct ≡ reduce argc
unfolding at_fold
reduce_means argc construct = ap (λ (each_reduced : ℤ → Steps). visits_by each_reduced argc) (fun_ext (reduces argc construct))

folding_back : (argc : ℕ) (construct : Bool) (len found from : ℤ) → meaning zero (drop 17 REDUCE_RIGHT) fails fails (at_fold argc construct len (negsuc 0) found from) ≡ folded_back argc from
unfolding at_fold
folding_back argc construct len found from = each_alike (at_fold argc construct len (negsuc 0) found) _ _ _ _ (λ again i. refl) (λ i. refl) (count_between (negsuc 0) from) from

from_last : ℕ → Bool → ℤ → ℤ → Steps
from_last argc construct len from = meaning zero (drop 17 REDUCE_RIGHT) fails fails (at_fold argc construct len (negsuc 0) (pos 1) from)

last_loop : (argc : ℕ) (construct : Bool) (len : ℤ) → meaning zero (drop 8 REDUCE_RIGHT) fails fails (at_fold argc construct len (negsuc 0) (pos 0) (len +ℤ negsuc 0)) ≡ last_by (from_last argc construct len) argc len
unfolding at_fold from_last
last_loop argc construct len = each_alike (at_fold argc construct len (negsuc 0) (pos 0)) _ _ _ _ (λ again i. refl) (λ i. refl) (count_between (negsuc 0) (len +ℤ negsuc 0)) (len +ℤ negsuc 0)

lasts : (argc : ℕ) (construct : Bool) (len : ℤ) → meaning zero (drop 8 REDUCE_RIGHT) fails fails (at_fold argc construct len (negsuc 0) (pos 0) (len +ℤ negsuc 0)) ≡ last_by (folded_back argc) argc len
unfolding from_last
lasts argc construct len = last_loop argc construct len ∙ ap (λ (fold : ℤ → Steps). last_by fold argc len) (fun_ext (folding_back argc construct len (pos 1)))

begun_back : (argc : ℕ) (construct : Bool) (len : ℤ) → meaning zero (drop 6 REDUCE_RIGHT) fails fails (at_fold argc construct len (negsuc 0) (pos 0) (len +ℤ negsuc 0))
    ≡ begun_by (meaning zero (drop 17 REDUCE_RIGHT) fails fails (at_fold argc construct len (negsuc 0) (pos 0) (len +ℤ negsuc 0))) (meaning zero (drop 8 REDUCE_RIGHT) fails fails (at_fold argc construct len (negsuc 0) (pos 0) (len +ℤ negsuc 0))) argc
unfolding at_fold
begun_back argc construct len =
    let v = at_fold argc construct len (negsuc 0) (pos 0) (len +ℤ negsuc 0) in
    once (nat_lt 1 argc) (λ next. ask (Copy (reg 3) (total argc)) next) (meaning zero (drop 8 REDUCE_RIGHT) fails fails v) (meaning zero (drop 17 REDUCE_RIGHT) fails fails v) (meaning zero (drop 8 REDUCE_RIGHT) fails fails v) (meaning zero (drop 17 REDUCE_RIGHT) fails fails v)

reduces_back : (argc : ℕ) (construct : Bool) (len : ℤ) → meaning zero (drop 6 REDUCE_RIGHT) fails fails (at_fold argc construct len (negsuc 0) (pos 0) (len +ℤ negsuc 0)) ≡ reduced_back argc len
reduces_back argc construct len =
    begun_back argc construct len
    ∙ ap (λ (fold : Steps). begun_by fold (meaning zero (drop 8 REDUCE_RIGHT) fails fails (at_fold argc construct len (negsuc 0) (pos 0) (len +ℤ negsuc 0))) argc) (folding_back argc construct len (pos 0) (len +ℤ negsuc 0))
    ∙ ap (λ (found : Steps). begun_by (folded_back argc (len +ℤ negsuc 0)) found argc) (lasts argc construct len)

pub reduce_right_means : (argc : ℕ) (construct : Bool) → means REDUCE_RIGHT argc construct ≡ reduce_right argc
unfolding at_fold
reduce_right_means argc construct = ap (λ (each_reduced : ℤ → Steps). visits_by each_reduced argc) (fun_ext (reduces_back argc construct))
