-- The set that a mask means holds the places of its ones below 64.
use Rattle.std.proofs.Common.{arith, refl, ap, sym, ◌∙◌, subst, ◌≡◌, inl, inr, ◌<◌, ◌≤◌, ◌+◌, ◌*◌, ◌%◌, ◌^◌, min, max, ℕ, suc, zero, Bool, true, false, ◌==◌, ◌||◌, ◌&&◌, nat_eq, List, [], ◌∷◌, bit_and, bit_or, eqb-true, eq-eqb, ne_eqb, shl_exact, one-mul}
use Rattle.std.specs.Int.{bit_at}
use Rattle.std.specs.List.{filter, range_with_len}
use Rattle.std.proofs.lemmas.Bool.{cond_both, cases_eq, cases_lt, false≢true}
use Rattle.std.proofs.lemmas.Nat.Bits.{bit_at_and, bit_at_or, bit_at-pow_same, bit_at-pow_other, same_from_bits, bit_at_above, bit_at-lt, bit_at-zero}
use Rattle.origin_labels.specs.Label.{Label, IsLabel, bottom, single, has, union, within}
use Rattle.origin_labels.specs.Masks.{origins_of}
use Rattle.origin_labels.proofs.LabelLaws.{same_test, same_label, has-single, has-union, has-within, has-bottom, within-from_has, IsLabel-bottom, IsLabel-single, IsLabel-union, Follows, Rises, IsLabel-from_Rises}

-- ---- what a filter keeps

-- what a filter keeps of the numbers from a on rises from below a
Follows-filter : (p : ℕ → Bool) (k a n : ℕ) → k < a → Follows k (filter p (range_with_len a n))
Follows-filter p k a zero lt = tt
Follows-filter p k a (suc n) lt =
    cond_both (p a) (a ∷ filter p (range_with_len (a + 1) n)) (filter p (range_with_len (a + 1) n)) (Follows k)
    (λ _. (lt, Follows-filter p a (a + 1) n (omega arith)))
    (λ _. Follows-filter p k (a + 1) n (omega arith))

-- what a filter keeps of the numbers from a on rises
pub Rises-filter : (p : ℕ → Bool) (a n : ℕ) → Rises (filter p (range_with_len a n))
Rises-filter p a zero = tt
Rises-filter p a (suc n) =
    cond_both (p a) (a ∷ filter p (range_with_len (a + 1) n)) (filter p (range_with_len (a + 1) n)) Rises
    (λ _. Follows-filter p a (a + 1) n (omega arith))
    (λ _. Rises-filter p (a + 1) n)

-- a test and false is false
and_false : (x : Bool) → (x && false) ≡ false
and_false true = refl
and_false false = refl

-- a kept element is found, or a later one
cond_or : (x y z : Bool) → (x ≡ true → z ≡ true) → (x || (y && z)) ≡ ((x || y) && z)
cond_or true y z f = sym (f refl)
cond_or false y z f = refl

-- an element that is left out is found nowhere
cond_none : (x y z : Bool) → (x ≡ true → z ≡ false) → (y && z) ≡ ((x || y) && z)
cond_none true y z f = rw (f refl) (and_false y)
cond_none false y z f = refl

-- a filter keeps what the list holds and passes
pub has-filter : (p : ℕ → Bool) (x : ℕ) (xs : List ℕ) → has x (filter p xs) ≡ (has x xs && p x)
unfolding has
has-filter p x [] = refl
has-filter p x (k ∷ xs) =
    cond_both (p k) (k ∷ filter p xs) (filter p xs) (λ l. has x l ≡ (has x (k ∷ xs) && p x))
    (λ e. ap (λ (t : Bool). (k == x) || t) (has-filter p x xs) ∙ cond_or (k == x) (has x xs) (p x) (λ q. subst (λ (n : ℕ). p n ≡ true) (eqb-true k x q) e))
    (λ e. has-filter p x xs ∙ cond_none (k == x) (has x xs) (p x) (λ q. subst (λ (n : ℕ). p n ≡ false) (eqb-true k x q) e))

-- the numbers from a on hold each below a + n
pub has-range_inside : (x a n : ℕ) → a ≤ x → x < a + n → has x (range_with_len a n) ≡ true
unfolding has
has-range_inside x a zero low high = absurd (omega arith)
has-range_inside x a (suc n) low high = elim (cases_eq a x) as (λ _. has x (range_with_len a (suc n)) ≡ true) [
  | inl e ↦ rw (eq-eqb a x e) refl
  | inr ne ↦ rw (ne_eqb a x ne) (has-range_inside x (a + 1) n (omega arith) (omega arith))
]

-- the numbers from a on hold none from a + n on
pub has-range_above : (x a n : ℕ) → a + n ≤ x → has x (range_with_len a n) ≡ false
unfolding has
has-range_above x a zero high = refl
has-range_above x a (suc n) high = rw (ne_eqb a x (λ e. omega arith)) (has-range_above x (a + 1) n (omega arith))

-- ---- the set of a mask

-- the set of a mask is a label
pub IsLabel-origins_of : (mask : ℕ) → IsLabel (origins_of mask)
unfolding origins_of
IsLabel-origins_of mask = IsLabel-from_Rises (filter (λ k. bit_at mask k == 1) (range_with_len 0 64)) (Rises-filter (λ k. bit_at mask k == 1) 0 64)

-- below 64 the set holds the places of ones
pub has-origins_of : (x mask : ℕ) → x < 64 → has x (origins_of mask) ≡ (bit_at mask x == 1)
unfolding origins_of
has-origins_of x mask lt = has-filter (λ k. bit_at mask k == 1) x (range_with_len 0 64) ∙ ap (λ (t : Bool). t && (bit_at mask x == 1)) (has-range_inside x 0 64 (omega arith) (omega arith))

-- from 64 on it holds nothing
pub has-origins_of_above : (x mask : ℕ) → 64 ≤ x → has x (origins_of mask) ≡ false
unfolding origins_of
has-origins_of_above x mask le = has-filter (λ k. bit_at mask k == 1) x (range_with_len 0 64) ∙ ap (λ (t : Bool). t && (bit_at mask x == 1)) (has-range_above x 0 64 (omega arith))

-- two sets below 64 that hold the same there are equal
same_below : (mask : ℕ) (label : Label) → IsLabel label → ((x : ℕ) → x < 64 → (bit_at mask x == 1) ≡ has x label) → ((x : ℕ) → 64 ≤ x → has x label ≡ false) → origins_of mask ≡ label
same_below mask label h inside above = same_label (origins_of mask) label (IsLabel-origins_of mask) h
    (λ x. elim (cases_lt x 64) as (λ _. has x (origins_of mask) ≡ has x label) [
      | inl lt ↦ has-origins_of x mask lt ∙ inside x lt
      | inr le ↦ has-origins_of_above x mask le ∙ sym (above x le)
    ])

-- ---- what the operations on masks mean

-- no ones mean the empty set
pub origins_of-zero : origins_of 0 ≡ bottom
origins_of-zero = same_below 0 bottom IsLabel-bottom (λ x lt. rw (bit_at-zero x, has-bottom x) refl) (λ x _. has-bottom x)

-- a power of two has its one at its exponent alone
bit_single : (x origin : ℕ) → (bit_at (2 ^ origin) x == 1) ≡ (origin == x)
bit_single x origin = elim (cases_eq x origin) as (λ _. (bit_at (2 ^ origin) x == 1) ≡ (origin == x)) [
  | inl e ↦ rw (e, bit_at-pow_same origin, eq-eqb origin origin refl) refl
  | inr ne ↦ rw (bit_at-pow_other origin x ne, ne_eqb origin x (λ q. ne (sym q))) refl
]

-- a power of two means the set of its exponent
pub origins_of-single : (origin : ℕ) → origin < 64 → origins_of (1 * 2 ^ origin % 2 ^ 64) ≡ single origin
origins_of-single origin lt = rw (shl_exact {a = 1} 1 origin 64 (omega arith) (omega arith), one-mul (2 ^ origin))
    (same_below (2 ^ origin) (single origin) (IsLabel-single origin) (λ x _. bit_single x origin ∙ sym (has-single x origin)) (λ x le. has-single x origin ∙ ne_eqb origin x (λ e. omega arith)))

-- the greater of two bits is one where either is
test_max : (u v : ℕ) → u < 2 → v < 2 → (max u v == 1) ≡ ((u == 1) || (v == 1))
test_max zero zero p q = refl
test_max zero (suc zero) p q = refl
test_max (suc zero) zero p q = refl
test_max (suc zero) (suc zero) p q = refl
test_max _ _ p q = absurd (omega arith)

-- the ones of either mask mean the union
pub origins_of-or : (a b : ℕ) → origins_of (bit_or a b) ≡ union (origins_of a) (origins_of b)
origins_of-or a b = same_below (bit_or a b) (union (origins_of a) (origins_of b)) (IsLabel-union (origins_of a) (origins_of b) (IsLabel-origins_of b))
    (λ x lt. rw (has-union x (origins_of a) (origins_of b), has-origins_of x a lt, has-origins_of x b lt, bit_at_or a b x) (test_max (bit_at a x) (bit_at b x) (bit_at-lt a x) (bit_at-lt b x)))
    (λ x le. rw (has-union x (origins_of a) (origins_of b), has-origins_of_above x a le, has-origins_of_above x b le) refl)

-- the lesser of two bits is the first where that brings the second
test_min : (u v : ℕ) → u < 2 → v < 2 → ((u == 1) ≡ true → (v == 1) ≡ true) → min u v ≡ u
test_min zero v p q f = omega arith
test_min (suc zero) zero p q f = absurd (false≢true (f refl))
test_min (suc zero) (suc zero) p q f = refl
test_min _ _ p q f = absurd (omega arith)

-- a bit that the lesser equals brings the other
test_min_right : (u v : ℕ) → min u v ≡ u → u ≡ 1 → v < 2 → v ≡ 1
test_min_right u v e one lt = omega arith

-- where a mask is its part in another, each of its ones is there
within-and_to : (a b : ℕ) → bit_and a b ≡ a → within (origins_of a) (origins_of b) ≡ true
within-and_to a b e = within-from_has (origins_of a) (origins_of b) (λ x p. elim (cases_lt x 64) as (λ _. has x (origins_of b) ≡ true) [
  | inl lt ↦ has-origins_of x b lt ∙ eq-eqb (bit_at b x) 1 (test_min_right (bit_at a x) (bit_at b x) (sym (bit_at_and a b x) ∙ ap (λ (n : ℕ). bit_at n x) e) (eqb-true (bit_at a x) 1 (sym (has-origins_of x a lt) ∙ p)) (bit_at-lt b x))
  | inr le ↦ absurd (false≢true (sym (has-origins_of_above x a le) ∙ p))
])

-- where each one of a mask is in another, the mask is its part in that
within-and_from : (a b : ℕ) → a < 2 ^ 64 → within (origins_of a) (origins_of b) ≡ true → bit_and a b ≡ a
within-and_from a b fits h = same_from_bits (bit_and a b) a (λ x. bit_at_and a b x ∙ elim (cases_lt x 64) as (λ _. min (bit_at a x) (bit_at b x) ≡ bit_at a x) [
  | inl lt ↦ test_min (bit_at a x) (bit_at b x) (bit_at-lt a x) (bit_at-lt b x) (λ p. sym (has-origins_of x b lt) ∙ has-within x (origins_of a) (origins_of b) h (has-origins_of x a lt ∙ p))
  | inr le ↦ rw (bit_at_above a 64 x fits le) (omega arith)
])

-- a mask is its part in another where its set is included in that one's
pub within-and : (a b : ℕ) → a < 2 ^ 64 → nat_eq (bit_and a b) a ≡ within (origins_of a) (origins_of b)
within-and a b fits = same_test (nat_eq (bit_and a b) a) (within (origins_of a) (origins_of b)) (λ p. within-and_to a b (eqb-true (bit_and a b) a p)) (λ p. eq-eqb (bit_and a b) a (within-and_from a b fits p))
