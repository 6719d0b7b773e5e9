-- Each number is that of a built-in of one of the sets, with its entry.
use Rattle.std.proofs.Common.{arith, ◌≡◌, ◌<◌, ◌≤◌, ℕ, zero, suc, ◌+◌, ◌-◌, nat_le, nat_lt, if◌then◌else◌, Bool, true, false, ◌&&◌, List, [], ◌∷◌, ◌++◌, length, get_or, take, drop, Option, refl, sym, ◌∙◌, ap, inl, inr, lt-ltb, le-ltb, leb-true}
use Rattle.std.specs.List.{slice_get, flat_map}
use Rattle.std.proofs.Math.Seq.{take-length}
use Rattle.std.proofs.lemmas.Bool.{cases_lt, false≢true}
use Rattle.std.proofs.lemmas.List.{length-append, length-take-le, length-drop}
use Rattle.channels.specs.Entries.{channel_entries}
use Rattle.native_protocol.specs.Sets.{SeenEntry}
use Rattle.object_natives.specs.Table as objects
use Rattle.array_natives.specs.Table as arrays
use Rattle.function_natives.specs.Table as functions
use Rattle.string_natives.specs.Table as texts
use Rattle.all_natives.specs.declared.order.Part.{Part}
use Rattle.all_natives.specs.declared.order.Part.TheVariants as part
use Rattle.all_natives.specs.declared.sets.Range.{Range}
use Rattle.all_natives.specs.declared.sets.Set.{Set}
use Rattle.all_natives.specs.declared.sets.Set.TheVariants as set
use Rattle.all_natives.specs.declared.sets.TheConstants.{RANGES}
use Rattle.all_natives.specs.Together.{set_entries, range_entries, all_entries, ranges_lie, part_of, part_in, part_at, IsPart}

-- ---- the ranges lie in their sets

pub all_lie : ranges_lie RANGES ≡ true
unfolding objects.entries arrays.entries functions.entries texts.entries
all_lie = refl

first_true : (a b : Bool) → (a && b) ≡ true → a ≡ true
first_true true b is = refl
first_true false b is = is

second_true : (a b : Bool) → (a && b) ≡ true → b ≡ true
second_true true b is = is
second_true false b is = absurd (false≢true is)

object_count : length objects.entries ≡ 72
unfolding objects.entries
object_count = refl

array_count : length arrays.entries ≡ 23
unfolding arrays.entries
array_count = refl

function_count : length functions.entries ≡ 13
unfolding functions.entries
function_count = refl

text_count : length texts.entries ≡ 24
unfolding texts.entries
text_count = refl

-- no set has more built-ins than this
few : (s : Set) → length (set_entries s) ≤ 1000
few set.Channels = omega arith
few set.Objects = omega (arith, object_count)
few set.Arrays = omega (arith, array_count)
few set.Functions = omega (arith, function_count)
few set.Texts = omega (arith, text_count)

lies : (r : Range) (ranges : List Range) → ranges_lie (r ∷ ranges) ≡ true → r.1 + r.2 ≤ length (set_entries r.0)
lies r ranges lie = leb-true (r.1 + r.2) (length (set_entries r.0)) (first_true _ (ranges_lie ranges) lie)

others_lie : (r : Range) (ranges : List Range) → ranges_lie (r ∷ ranges) ≡ true → ranges_lie ranges ≡ true
others_lie r ranges lie = second_true (nat_le (r.1 + r.2) (length (set_entries r.0))) (ranges_lie ranges) lie

-- no number in a range is too large
is_small : (r : Range) (ranges : List Range) (which : ℕ) → ranges_lie (r ∷ ranges) ≡ true → which < r.2 → r.1 + which < 4294967296
is_small r ranges which lie less =
    let within : r.1 + r.2 ≤ length (set_entries r.0) = lies r ranges lie in
    let most : length (set_entries r.0) ≤ 1000 = few r.0 in
    omega (arith, less, within, most)

-- the first range of some, and those behind it
first_taken : (ranges : List Range) (r : Range) → 1 ≤ length ranges → ranges ≡ get_or ranges 0 r ∷ take (length ranges - 1) (drop 1 ranges)
first_taken [] r some = absurd (omega arith)
first_taken (r' ∷ ranges) r some =
    let same : length ranges ≡ length (r' ∷ ranges) - 1 = omega arith in
    ap (λ (rs : List Range). r' ∷ rs) (sym (take-length ranges) ∙ ap (λ (n : ℕ). take n ranges) same)

pub first_is_small : (ranges : List Range) (r : Range) (which : ℕ) → 1 ≤ length ranges → ranges_lie ranges ≡ true → which < (get_or ranges 0 r).2 → (get_or ranges 0 r).1 + which < 4294967296
first_is_small ranges r which some lie less =
    is_small (get_or ranges 0 r) (take (length ranges - 1) (drop 1 ranges)) which (ap ranges_lie (sym (first_taken ranges r some)) ∙ lie) less

pub those_behind_lie : (ranges : List Range) (r : Range) → 1 ≤ length ranges → ranges_lie ranges ≡ true → ranges_lie (take (length ranges - 1) (drop 1 ranges)) ≡ true
those_behind_lie ranges r some lie =
    others_lie (get_or ranges 0 r) (take (length ranges - 1) (drop 1 ranges)) (ap ranges_lie (sym (first_taken ranges r some)) ∙ lie)

part_here : (r : Range) (ranges : List Range) (which : ℕ) → which < r.2 → part_in (r ∷ ranges) which ≡ part_of r.0 (r.1 + which)
part_here r ranges which less = ap (λ (b : Bool). if b then part_of r.0 (r.1 + which) else part_in ranges (which - r.2)) (lt-ltb which r.2 less)

part_further : (r : Range) (ranges : List Range) (which : ℕ) → r.2 ≤ which → part_in (r ∷ ranges) which ≡ part_in ranges (which - r.2)
part_further r ranges which le = ap (λ (b : Bool). if b then part_of r.0 (r.1 + which) else part_in ranges (which - r.2)) (le-ltb which r.2 le)

pub part_first : (ranges : List Range) (r : Range) (which : ℕ) → 1 ≤ length ranges → which < (get_or ranges 0 r).2 → part_in ranges which ≡ part_of (get_or ranges 0 r).0 ((get_or ranges 0 r).1 + which)
part_first ranges r which some less =
    ap (λ (rs : List Range). part_in rs which) (first_taken ranges r some)
    ∙ part_here (get_or ranges 0 r) (take (length ranges - 1) (drop 1 ranges)) which less

pub part_behind : (ranges : List Range) (r : Range) (which : ℕ) → 1 ≤ length ranges → (get_or ranges 0 r).2 ≤ which → part_in ranges which ≡ part_in (take (length ranges - 1) (drop 1 ranges)) (which - (get_or ranges 0 r).2)
part_behind ranges r which some le =
    ap (λ (rs : List Range). part_in rs which) (first_taken ranges r some)
    ∙ part_further (get_or ranges 0 r) (take (length ranges - 1) (drop 1 ranges)) which le

-- ---- places in lists

first_ones : {X : Type 0} (xs ys : List X) (n : ℕ) → n < length xs → slice_get (xs ++ ys) n ≡ slice_get xs n
first_ones [] ys n less = absurd (omega arith)
first_ones (x ∷ xs) ys zero less = refl
first_ones (x ∷ xs) ys (suc n) less = first_ones xs ys n (omega arith)

further : {X : Type 0} (xs ys : List X) (n : ℕ) → slice_get (xs ++ ys) (n + length xs) ≡ slice_get ys n
further [] ys n = ap (λ m. slice_get ys m) (omega arith)
further (x ∷ xs) ys n = ap (λ m. slice_get (x ∷ (xs ++ ys)) m) (let more : n + suc (length xs) ≡ suc (n + length xs) = omega arith in more) ∙ further xs ys n

is_behind : {X : Type 0} (xs ys : List X) (n k : ℕ) → length xs ≡ k → k ≤ n → slice_get (xs ++ ys) n ≡ slice_get ys (n - k)
is_behind xs ys n k e le = ap (λ m. slice_get (xs ++ ys) m) (omega (arith, e)) ∙ further xs ys (n - k)

taken : {X : Type 0} (xs : List X) (k n : ℕ) → n < k → slice_get (take k xs) n ≡ slice_get xs n
taken xs zero n less = absurd (omega arith)
taken [] (suc k) n less = refl
taken (x ∷ xs) (suc k) zero less = refl
taken (x ∷ xs) (suc k) (suc n) less = taken xs k n (omega arith)

dropped : {X : Type 0} (xs : List X) (k n : ℕ) → slice_get (drop k xs) n ≡ slice_get xs (k + n)
dropped xs zero n = ap (λ m. slice_get xs m) (let same : n ≡ 0 + n = omega arith in same)
dropped [] (suc k) n = refl
dropped (x ∷ xs) (suc k) n = dropped xs k n ∙ ap (λ m. slice_get (x ∷ xs) m) (let more : suc (k + n) ≡ suc k + n = omega arith in more)

-- ---- a range

range_count : (r : Range) → r.1 + r.2 ≤ length (set_entries r.0) → length (range_entries r) ≡ r.2
range_count r within =
    let left_over : length (drop r.1 (set_entries r.0)) ≡ length (set_entries r.0) - r.1 = length-drop r.1 (set_entries r.0) in
    length-take-le r.2 (drop r.1 (set_entries r.0)) (omega (arith, within, left_over))

range_at : (r : Range) (n : ℕ) → n < r.2 → slice_get (range_entries r) n ≡ slice_get (set_entries r.0) (r.1 + n)
range_at r n less = taken (drop r.1 (set_entries r.0)) r.2 n less ∙ dropped (set_entries r.0) r.1 n

-- ---- each number below the number of all

is_part : (s : Set) (n : ℕ) → n < length (set_entries s) → IsPart (part_of s n)
is_part set.Channels n less = less
is_part set.Objects n less = less
is_part set.Arrays n less = less
is_part set.Functions n less = less
is_part set.Texts n less = less

unfoldable pub entry_in : Part → Option SeenEntry
entry_in (part.Channel n) = slice_get channel_entries n
entry_in (part.Object n) = slice_get objects.entries n
entry_in (part.Array n) = slice_get arrays.entries n
entry_in (part.Function n) = slice_get functions.entries n
entry_in (part.Text n) = slice_get texts.entries n

part_entry : (s : Set) (n : ℕ) → slice_get (set_entries s) n ≡ entry_in (part_of s n)
unfolding entry_in
part_entry set.Channels n = refl
part_entry set.Objects n = refl
part_entry set.Arrays n = refl
part_entry set.Functions n = refl
part_entry set.Texts n = refl

-- a property of what is at a number, for each range alone
by_range : (P : ℕ → Part → Type 0) (r : Range) (ranges : List Range) (which : ℕ) → (which < r.2 → P which (part_of r.0 (r.1 + which))) → (r.2 ≤ which → P which (part_in ranges (which - r.2))) → P which (part_in (r ∷ ranges) which)
by_range P r ranges which first others = elim (cases_lt which r.2) as (λ _. P which (if nat_lt which r.2 then part_of r.0 (r.1 + which) else part_in ranges (which - r.2))) [
  | inl a ↦ rw (lt-ltb which r.2 a) (first a)
  | inr b ↦ rw (le-ltb which r.2 b) (others b)
]

-- those behind the first range
fewer : (r : Range) (ranges : List Range) (which : ℕ) → ranges_lie (r ∷ ranges) ≡ true → r.2 ≤ which → which < length (flat_map range_entries (r ∷ ranges)) → which - r.2 < length (flat_map range_entries ranges)
fewer r ranges which lie le less =
    let all_of : length (range_entries r ++ flat_map range_entries ranges) ≡ length (range_entries r) + length (flat_map range_entries ranges) = length-append (range_entries r) (flat_map range_entries ranges) in
    let own : length (range_entries r) ≡ r.2 = range_count r (lies r ranges lie) in
    let less' : which < length (range_entries r ++ flat_map range_entries ranges) = less in
    omega (arith, all_of, own, less', le)

parts_lie : (ranges : List Range) (which : ℕ) → ranges_lie ranges ≡ true → which < length (flat_map range_entries ranges) → IsPart (part_in ranges which)
parts_lie [] which lie less = absurd (omega arith)
parts_lie (r ∷ ranges) which lie less =
    by_range (λ n p. IsPart p) r ranges which
    (λ a. is_part r.0 (r.1 + which) (let within : r.1 + r.2 ≤ length (set_entries r.0) = lies r ranges lie in omega (arith, a, within)))
    (λ b. parts_lie ranges (which - r.2) (others_lie r ranges lie) (fewer r ranges which lie b less))

entries_lie : (ranges : List Range) (which : ℕ) → ranges_lie ranges ≡ true → which < length (flat_map range_entries ranges) → slice_get (flat_map range_entries ranges) which ≡ entry_in (part_in ranges which)
entries_lie [] which lie less = absurd (omega arith)
entries_lie (r ∷ ranges) which lie less =
    let own : length (range_entries r) ≡ r.2 = range_count r (lies r ranges lie) in
    by_range (λ n p. slice_get (range_entries r ++ flat_map range_entries ranges) n ≡ entry_in p) r ranges which
    (λ a. first_ones (range_entries r) (flat_map range_entries ranges) which (omega (arith, a, own)) ∙ range_at r which a ∙ part_entry r.0 (r.1 + which))
    (λ b. is_behind (range_entries r) (flat_map range_entries ranges) which r.2 own b ∙ entries_lie ranges (which - r.2) (others_lie r ranges lie) (fewer r ranges which lie b less))

pub parts_stand : (which : ℕ) → which < length all_entries → IsPart (part_at which)
unfolding all_entries
parts_stand which less = parts_lie RANGES which all_lie less

pub entries_stand : (which : ℕ) → which < length all_entries → slice_get all_entries which ≡ entry_in (part_at which)
unfolding all_entries
entries_stand which less = entries_lie RANGES which all_lie less
