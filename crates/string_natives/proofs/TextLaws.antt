-- Places and parts of texts, as lines compute them and as the clauses say them.
use Rattle.std.proofs.Common.{◌≡◌, ℕ, zero, suc, ◌+◌, ◌-◌, ◌%◌, ◌<◌, ◌≤◌, min, max, Bool, true, false, cond, ltb, List, [], ◌∷◌, length, take, drop, slice_get, ℤ, pos, negsuc, None, refl, ap, ap₂, ◌∙◌, arith, le-ltb, ltb-true, ltb-false}
use Rattle.std.specs.Prelude.{slice_range}
use Rattle.std.proofs.lemmas.Bool.{or_from}
use Rattle.js_number.specs.Bits.{uint32}
use Rattle.js_number.specs.declared.num.Num.TheVariants.{Int}
use Rattle.native_programs.specs.Choosing.{count_between, greater, lesser, passed, relative, unit_at, within}
use Rattle.native_programs.specs.Searching.{found_in}
use Rattle.native_programs.specs.Wordings.{part_of, unit_of}
use Rattle.string_natives.specs.Places.{index_in}
use Rattle.string_natives.specs.Texts.{clamped, from_end, text_of_unit, number_of_unit, sliced, substring_of, uint16}

-- ---- numbers

not_below_zero : (n : ℕ) → ltb n 0 ≡ false
not_below_zero n = le-ltb n 0 (omega arith)

-- as many turns as arguments were passed
pub all_passed : (argc : ℕ) → count_between (pos 0) (passed argc 0) ≡ argc
all_passed argc = ap (λ t. cond t 0 (argc - 0 + 0)) (not_below_zero (argc - 0 + 0)) ∙ omega arith

pub unit_is : (z : ℤ) → unit_of (pos (uint32 z % 65536)) ≡ uint16 z
unit_is (pos n) = omega arith
unit_is (negsuc n) = omega arith

lesser_by : (t : Bool) (a b : ℕ) → ltb b a ≡ t → cond t (pos b) (pos a) ≡ pos (min a b)
lesser_by true a b e = ap pos (omega (arith, ltb-true b a e))
lesser_by false a b e = ap pos (omega (arith, ltb-false b a e))

pub lesser_is : (a b : ℕ) → lesser (pos a) (pos b) ≡ pos (min a b)
lesser_is a b = lesser_by (ltb b a) a b refl

greater_by : (t : Bool) (a b : ℕ) → ltb a b ≡ t → cond t (pos b) (pos a) ≡ pos (max a b)
greater_by true a b e = ap pos (omega (arith, ltb-true a b e))
greater_by false a b e = ap pos (omega (arith, ltb-false a b e))

pub greater_is : (a b : ℕ) → greater (pos a) (pos b) ≡ pos (max a b)
greater_is a b = greater_by (ltb a b) a b refl

-- a place within a text
pub clamped_is : (n : ℤ) (size : ℕ) → within n (pos size) ≡ pos (clamped n size)
clamped_is (pos k) size = ap (λ t. lesser (cond t (pos 0) (pos k)) (pos size)) (not_below_zero k) ∙ lesser_is k size
clamped_is (negsuc k) size = ap (λ t. cond t (pos size) (pos 0)) (not_below_zero size)

clamped_within : (n : ℤ) (size : ℕ) → clamped n size ≤ size
clamped_within (pos k) size = omega arith
clamped_within (negsuc k) size = omega arith

-- a place that counts from the end
end_by : (t : Bool) (size k : ℕ) → ltb size (suc k) ≡ t → within (cond t (negsuc (suc k - suc size)) (pos (size - suc k))) (pos size) ≡ pos (size - suc k)
end_by true size k e = clamped_is (negsuc (suc k - suc size)) size ∙ ap pos (omega (arith, ltb-true size (suc k) e))
end_by false size k e = clamped_is (pos (size - suc k)) size ∙ ap pos (omega arith)

pub end_is : (n : ℤ) (size : ℕ) → relative n (pos size) ≡ pos (from_end n size)
end_is (pos k) size = ap (λ t. cond t (within (pos (size + k)) (pos size)) (within (pos k) (pos size))) (not_below_zero k) ∙ clamped_is (pos k) size
end_is (negsuc k) size = end_by (ltb size (suc k)) size k refl

end_within : (n : ℤ) (size : ℕ) → from_end n size ≤ size
end_within (pos k) size = omega arith
end_within (negsuc k) size = omega arith

-- ---- parts

pub part_is : (units : List ℕ) (a b : ℕ) → a ≤ b → b ≤ length units → part_of units (pos a) (pos b) ≡ slice_range units a b
part_is units a b order inside =
    ap (λ t. cond t [] (slice_range units a b)) (or_from _ _ (or_from _ _ (not_below_zero a) (le-ltb b a order)) (le-ltb (length units) b inside))

sliced_by : (units : List ℕ) (a b : ℕ) → a ≤ length units → b ≤ length units → part_of units (pos a) (greater (pos a) (pos b)) ≡ slice_range units a b
sliced_by units a b p q =
    ap (part_of units (pos a)) (greater_is a b)
    ∙ part_is units a (max a b) (omega arith) (omega arith)
    ∙ ap (λ k. take k (drop a units)) (omega arith)

pub sliced_is : (units : List ℕ) (a b : ℤ) → part_of units (relative a (pos (length units))) (greater (relative a (pos (length units))) (relative b (pos (length units)))) ≡ sliced units a b
sliced_is units a b =
    ap₂ (λ x y. part_of units x (greater x y)) (end_is a (length units)) (end_is b (length units))
    ∙ sliced_by units (from_end a (length units)) (from_end b (length units)) (end_within a (length units)) (end_within b (length units))

between : (units : List ℕ) (a b : ℕ) → a ≤ length units → b ≤ length units → part_of units (lesser (pos a) (pos b)) (greater (pos a) (pos b)) ≡ slice_range units (min a b) (max a b)
between units a b p q = ap₂ (part_of units) (lesser_is a b) (greater_is a b) ∙ part_is units (min a b) (max a b) (omega arith) (omega arith)

pub substring_is : (units : List ℕ) (a b : ℤ) → part_of units (lesser (within a (pos (length units))) (within b (pos (length units)))) (greater (within a (pos (length units))) (within b (pos (length units)))) ≡ substring_of units a b
substring_is units a b =
    ap₂ (λ x y. part_of units (lesser x y) (greater x y)) (clamped_is a (length units)) (clamped_is b (length units))
    ∙ between units (clamped a (length units)) (clamped b (length units)) (clamped_within a (length units)) (clamped_within b (length units))

-- ---- units

unit_here : (units : List ℕ) (k : ℕ) → k < length units → take 1 (drop k units) ≡ text_of_unit (slice_get units k)
unit_here [] k h = absurd (omega arith)
unit_here (u ∷ us) zero h = refl
unit_here (u ∷ us) (suc k) h = unit_here us k (omega arith)

pub text_here : (units : List ℕ) (k : ℕ) → k < length units → part_of units (pos k) (pos (k + 1)) ≡ text_of_unit (slice_get units k)
text_here units k h =
    let one : k + 1 - k ≡ 1 = omega arith in
    part_is units k (k + 1) (omega arith) (omega arith) ∙ ap (λ n. take n (drop k units)) one ∙ unit_here units k h

pub code_here : (units : List ℕ) (k : ℕ) → k < length units → Int (unit_at units (pos k)) ≡ number_of_unit (slice_get units k)
code_here [] k h = absurd (omega arith)
code_here (u ∷ us) zero h = refl
code_here (u ∷ us) (suc k) h = code_here us k (omega arith)

pub none_here : (units : List ℕ) (k : ℕ) → length units ≤ k → slice_get units k ≡ None
none_here [] k h = refl
none_here (u ∷ us) zero h = absurd (omega arith)
none_here (u ∷ us) (suc k) h = none_here us k (omega arith)

-- ---- searches

pub index_is : (units sought : List ℕ) (position : ℤ) → found_in units sought (within position (pos (length units))) ≡ index_in units sought position
index_is units sought position = ap (found_in units sought) (clamped_is position (length units))
