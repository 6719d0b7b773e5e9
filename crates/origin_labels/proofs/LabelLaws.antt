-- The laws of labels. Those on `has` hold for every list, and those on equality for labels.
use Rattle.std.proofs.Common.{arith, refl, ap, ap₂, sym, ◌∙◌, subst, ◌≡◌, inl, inr, ◌<◌, ◌≤◌, ℕ, suc, zero, Bool, true, false, cond, ◌==◌, ◌||◌, ◌&&◌, nat_lt, List, [], ◌∷◌, ◌++◌, add-one, ltb-true, ltb-false, lt-ltb, eqb-true, eq-eqb, ne_eqb}
use Rattle.std.specs.List.{list_any}
use Rattle.std.proofs.lemmas.List.Folds.{list_any-append}
use Rattle.std.proofs.lemmas.Bool.{cond_both, cond-true, and_parts, and_from, or_cases, or_left, or_right, cases_Bool, cases_order, false≢true, eqb-false}
use Rattle.origin_labels.specs.Label.{Label, IsLabel, bottom, single, has, with_origin, union, label_of, within}
use Rattle.origin_labels.specs.Lattice.{IsLattice}

-- ---- tests

-- two tests that hold alike are equal
pub same_test : (x y : Bool) → (x ≡ true → y ≡ true) → (y ≡ true → x ≡ true) → x ≡ y
same_test true y f g = sym (f refl)
same_test false true f g = g refl
same_test false false f g = refl

-- a test once more changes nothing
or_twice : (x y : Bool) → (x || (x || y)) ≡ (x || y)
or_twice true y = refl
or_twice false y = refl

-- two tests change places
or_swap : (x y z : Bool) → (x || (y || z)) ≡ (y || (x || z))
or_swap true true z = refl
or_swap true false z = refl
or_swap false true z = refl
or_swap false false z = refl

-- the tests are grouped the other way
or_regroup : (x y z : Bool) → (x || (y || z)) ≡ ((x || y) || z)
or_regroup true y z = refl
or_regroup false y z = refl

-- a test or false is the test
or_false : (x : Bool) → (x || false) ≡ x
or_false true = refl
or_false false = refl

-- a test that brings another adds nothing to it
or_known : (x y : Bool) → (x ≡ true → y ≡ true) → (x || y) ≡ y
or_known true y f = sym (f refl)
or_known false y f = refl

-- the order of two tests does not matter
or_comm : (x y : Bool) → (x || y) ≡ (y || x)
or_comm true true = refl
or_comm true false = refl
or_comm false true = refl
or_comm false false = refl

-- ---- what a set holds

-- a set with an origin holds that origin, and what the set holds
pub has-with_origin : (x origin : ℕ) (label : Label) → has x (with_origin origin label) ≡ ((origin == x) || has x label)
unfolding has with_origin
has-with_origin x origin [] = refl
has-with_origin x origin (k ∷ label) =
    cond_both (nat_lt origin k) (origin ∷ k ∷ label) (cond (origin == k) (k ∷ label) (k ∷ with_origin origin label)) (λ l. has x l ≡ ((origin == x) || has x (k ∷ label)))
    (λ _. refl)
    (λ _. cond_both (origin == k) (k ∷ label) (k ∷ with_origin origin label) (λ l. has x l ≡ ((origin == x) || has x (k ∷ label)))
    (λ e. subst (λ (n : ℕ). ((k == x) || has x label) ≡ ((n == x) || ((k == x) || has x label))) (sym (eqb-true origin k e)) (sym (or_twice (k == x) (has x label))))
    (λ _. ap (λ (b : Bool). (k == x) || b) (has-with_origin x origin label) ∙ or_swap (k == x) (origin == x) (has x label)))

-- a union holds what either set holds
pub has-union : (x : ℕ) (a b : Label) → has x (union a b) ≡ (has x a || has x b)
unfolding has union
has-union x [] b = refl
has-union x (k ∷ a) b = has-with_origin x k (union a b) ∙ ap (λ (t : Bool). (k == x) || t) (has-union x a b) ∙ or_regroup (k == x) (has x a) (has x b)

-- the set of some origins holds those
pub has-label_of : (x : ℕ) (origins : List ℕ) → has x (label_of origins) ≡ list_any (λ k. k == x) origins
unfolding has label_of
has-label_of x [] = refl
has-label_of x (k ∷ origins) = has-with_origin x k (label_of origins) ∙ ap (λ (t : Bool). (k == x) || t) (has-label_of x origins)

-- the set of one origin holds that origin alone
pub has-single : (x origin : ℕ) → has x (single origin) ≡ (origin == x)
unfolding has
has-single x origin = or_false (origin == x)

-- the empty set holds nothing
pub has-bottom : (x : ℕ) → has x bottom ≡ false
unfolding has
has-bottom x = refl

-- ---- inclusion

-- an included set holds nothing else
pub has-within : (x : ℕ) (a b : Label) → within a b ≡ true → has x a ≡ true → has x b ≡ true
unfolding has within
has-within x [] b h p = absurd (false≢true p)
has-within x (k ∷ a) b h p = let parts = and_parts (has k b) (within a b) h in
    elim (or_cases (k == x) (has x a) p) as (λ _. has x b ≡ true) [ inl e ↦ subst (λ (n : ℕ). has n b ≡ true) (eqb-true k x e) parts.0 | inr q ↦ has-within x a b parts.1 q ]

-- a set whose every origin is in the other is included in it
pub within-from_has : (a b : Label) → ((x : ℕ) → has x a ≡ true → has x b ≡ true) → within a b ≡ true
unfolding has within
within-from_has [] b f = refl
within-from_has (k ∷ a) b f = and_from (has k b) (within a b) (f k (or_left (k == k) (has k a) (eq-eqb k k refl))) (within-from_has a b (λ x p. f x (or_right (k == x) (has x a) p)))

-- the empty set is included in each
pub within-bottom : (a : Label) → within bottom a ≡ true
unfolding within
within-bottom a = refl

-- each set is included in itself
pub within-refl : (a : Label) → within a a ≡ true
within-refl a = within-from_has a a (λ x p. p)

-- what is included in an included set is included
pub within-trans : (a b c : Label) → within a b ≡ true → within b c ≡ true → within a c ≡ true
within-trans a b c f g = within-from_has a c (λ x p. has-within x b c g (has-within x a b f p))

-- a union holds its first set
pub within-union_left : (a b : Label) → within a (union a b) ≡ true
within-union_left a b = within-from_has a (union a b) (λ x p. has-union x a b ∙ or_left (has x a) (has x b) p)

-- a union holds its second set
pub within-union_right : (a b : Label) → within b (union a b) ≡ true
within-union_right a b = within-from_has b (union a b) (λ x p. has-union x a b ∙ or_right (has x a) (has x b) p)

-- a union is the least set that holds both
pub union-within : (a b c : Label) → within a c ≡ true → within b c ≡ true → within (union a b) c ≡ true
union-within a b c f g = within-from_has (union a b) c
    (λ x p. elim (or_cases (has x a) (has x b) (sym (has-union x a b) ∙ p)) as (λ _. has x c ≡ true) [ inl q ↦ has-within x a c f q | inr q ↦ has-within x b c g q ])

-- a union is included where both sets are
pub within-union : (a b c : Label) → within (union a b) c ≡ (within a c && within b c)
within-union a b c = same_test (within (union a b) c) (within a c && within b c)
    (λ p. and_from (within a c) (within b c) (within-trans a (union a b) c (within-union_left a b) p) (within-trans b (union a b) c (within-union_right a b) p))
    (λ p. let parts = and_parts (within a c) (within b c) p in union-within a b c parts.0 parts.1)

-- ---- rising lists

-- an origin and the list behind it rise
abbrev pub Follows : ℕ → List ℕ → Type 0
Follows k [] = Unit {0}
Follows k (j ∷ label) = (k < j) × Follows j label

-- the list rises, by recursion
abbrev pub Rises : List ℕ → Type 0
Rises [] = Unit {0}
Rises (k ∷ label) = Follows k label

-- an origin with a list that rises from it is a label
IsLabel-from_Follows : (k : ℕ) (label : List ℕ) → Follows k label → IsLabel (k ∷ label)
IsLabel-from_Follows k [] h i lt = absurd (omega arith)
IsLabel-from_Follows k (j ∷ label) h zero lt = h.0
IsLabel-from_Follows k (j ∷ label) h (suc i) lt =
    let later = rw add-one at (IsLabel-from_Follows j label h.1 i (omega arith)) in rw add-one later

-- a list that rises by recursion is a label
pub IsLabel-from_Rises : (label : List ℕ) → Rises label → IsLabel label
IsLabel-from_Rises [] h = λ i lt. absurd (omega arith)
IsLabel-from_Rises (k ∷ label) h = IsLabel-from_Follows k label h

-- a label rises from its first origin
Follows-from_IsLabel : (k : ℕ) (label : List ℕ) → IsLabel (k ∷ label) → Follows k label
Follows-from_IsLabel k [] h = tt
Follows-from_IsLabel k (j ∷ label) h = (h 0 (omega arith), Follows-from_IsLabel j label (λ i lt. let here = rw add-one at (h (suc i) (omega arith)) in rw add-one here))

-- a label rises by recursion
pub Rises-from_IsLabel : (label : List ℕ) → IsLabel label → Rises label
Rises-from_IsLabel [] h = tt
Rises-from_IsLabel (k ∷ label) h = Follows-from_IsLabel k label h

-- ---- sets as labels

-- a list that rises from above an origin does not hold it, nor any below
has-below : (x k : ℕ) (label : Label) → x ≤ k → Follows k label → has x label ≡ false
unfolding has
has-below x k [] le h = refl
has-below x k (j ∷ label) le h = rw (ne_eqb j x (λ e. omega arith)) (has-below x j label (omega arith) h.1)

-- a set with an origin that is above k still rises from k
Follows-with_origin : (k origin : ℕ) (label : Label) → k < origin → Follows k label → Follows k (with_origin origin label)
unfolding with_origin
Follows-with_origin k origin [] lt h = (lt, tt)
Follows-with_origin k origin (j ∷ label) lt h =
    cond_both (nat_lt origin j) (origin ∷ j ∷ label) (cond (origin == j) (j ∷ label) (j ∷ with_origin origin label)) (λ l. Follows k l)
    (λ e. (lt, (ltb-true origin j e, h.1)))
    (λ e. cond_both (origin == j) (j ∷ label) (j ∷ with_origin origin label) (λ l. Follows k l)
    (λ _. h)
    (λ n. let le = ltb-false origin j e in let ne = eqb-false origin j n in (h.0, Follows-with_origin j origin label (omega arith) h.1)))

-- a rising set with an origin still rises
Rises-with_origin : (origin : ℕ) (label : Label) → Rises label → Rises (with_origin origin label)
unfolding with_origin
Rises-with_origin origin [] h = tt
Rises-with_origin origin (j ∷ label) h =
    cond_both (nat_lt origin j) (origin ∷ j ∷ label) (cond (origin == j) (j ∷ label) (j ∷ with_origin origin label)) Rises
    (λ e. (ltb-true origin j e, h))
    (λ e. cond_both (origin == j) (j ∷ label) (j ∷ with_origin origin label) Rises
    (λ _. h)
    (λ n. let le = ltb-false origin j e in let ne = eqb-false origin j n in Follows-with_origin j origin label (omega arith) h))

-- the empty set is a label
pub IsLabel-bottom : IsLabel bottom
IsLabel-bottom = IsLabel-from_Rises [] tt

-- the set of one origin is a label
pub IsLabel-single : (origin : ℕ) → IsLabel (single origin)
IsLabel-single origin = IsLabel-from_Rises (origin ∷ []) tt

-- a label with an origin is a label
pub IsLabel-with_origin : (origin : ℕ) (label : Label) → IsLabel label → IsLabel (with_origin origin label)
IsLabel-with_origin origin label h = IsLabel-from_Rises (with_origin origin label) (Rises-with_origin origin label (Rises-from_IsLabel label h))

-- a union with a label is a label
pub IsLabel-union : (a b : Label) → IsLabel b → IsLabel (union a b)
unfolding union
IsLabel-union [] b h = h
IsLabel-union (k ∷ a) b h = IsLabel-with_origin k (union a b) (IsLabel-union a b h)

-- the set of some origins is a label
pub IsLabel-label_of : (origins : List ℕ) → IsLabel (label_of origins)
unfolding label_of
IsLabel-label_of [] = IsLabel-bottom
IsLabel-label_of (k ∷ origins) = IsLabel-with_origin k (label_of origins) (IsLabel-label_of origins)

-- the tails of two rising lists from one origin hold the same
tails_same : (k : ℕ) (a b : Label) → Follows k a → Follows k b → ((x : ℕ) → has x (k ∷ a) ≡ has x (k ∷ b)) → (x : ℕ) → has x a ≡ has x b
unfolding has
tails_same k a b f g same x = elim (cases_Bool (k == x)) as (λ _. has x a ≡ has x b) [
  | inl e ↦ let le : x ≤ k = omega (arith, eqb-true k x e) in has-below x k a le f ∙ sym (has-below x k b le g)
  | inr n ↦ rw n at (same x)
]

-- what rises from above an origin rises
Rises-from_Follows : (k : ℕ) (label : Label) → Follows k label → Rises label
Rises-from_Follows k [] h = tt
Rises-from_Follows k (j ∷ label) h = h.1

-- two rising lists that hold the same origins are equal
same_from_Rises : (a b : Label) → Rises a → Rises b → ((x : ℕ) → has x a ≡ has x b) → a ≡ b
unfolding has
same_from_Rises [] [] f g same = refl
same_from_Rises [] (j ∷ b) f g same = absurd (false≢true (same j ∙ or_left (j == j) (has j b) (eq-eqb j j refl)))
same_from_Rises (i ∷ a) [] f g same = absurd (false≢true (sym (same i) ∙ or_left (i == i) (has i a) (eq-eqb i i refl)))
same_from_Rises (i ∷ a) (j ∷ b) f g same = elim (cases_order i j) as (λ _. i ∷ a ≡ j ∷ b) [
  | inl e ↦ subst (λ (n : ℕ). Follows n b → ((x : ℕ) → has x (i ∷ a) ≡ has x (n ∷ b)) → i ∷ a ≡ n ∷ b) e
      (λ h alike. ap (λ (l : List ℕ). i ∷ l) (same_from_Rises a b (Rises-from_Follows i a f) (Rises-from_Follows i b h) (tails_same i a b f h alike))) g same
  | inr apart ↦ elim apart as (λ _. i ∷ a ≡ j ∷ b) [
    | inl lt ↦ absurd (false≢true (sym (has-below i i (j ∷ b) (omega arith) (lt, g)) ∙ sym (same i) ∙ or_left (i == i) (has i a) (eq-eqb i i refl)))
    | inr gt ↦ absurd (false≢true (sym (has-below j j (i ∷ a) (omega arith) (gt, f)) ∙ same j ∙ or_left (j == j) (has j b) (eq-eqb j j refl)))
  ]
]

-- two labels that hold the same origins are equal
pub same_label : (a b : Label) → IsLabel a → IsLabel b → ((x : ℕ) → has x a ≡ has x b) → a ≡ b
same_label a b f g same = same_from_Rises a b (Rises-from_IsLabel a f) (Rises-from_IsLabel b g) same

-- ---- unions as labels

-- sets that include each other are equal
pub within-antisym : (a b : Label) → IsLabel a → IsLabel b → within a b ≡ true → within b a ≡ true → a ≡ b
within-antisym a b f g p q = same_label a b f g (λ x. same_test (has x a) (has x b) (has-within x a b p) (has-within x b a q))

-- a rising list is the set of its own origins
label_of-Rises : (label : Label) → Rises label → label_of label ≡ label
unfolding label_of with_origin
label_of-Rises [] h = refl
label_of-Rises (k ∷ []) h = refl
label_of-Rises (k ∷ j ∷ label) h =
    ap (λ (l : List ℕ). with_origin k l) (label_of-Rises (j ∷ label) h.1) ∙ cond-true (nat_lt k j) (k ∷ j ∷ label) (cond (k == j) (j ∷ label) (j ∷ with_origin k label)) (lt-ltb k j h.0)

-- a label is the set of its own origins
pub label_of-label : (label : Label) → IsLabel label → label_of label ≡ label
label_of-label label h = label_of-Rises label (Rises-from_IsLabel label h)

-- a set with an origin that it holds is itself
pub with_origin-has : (origin : ℕ) (label : Label) → IsLabel label → has origin label ≡ true → with_origin origin label ≡ label
with_origin-has origin label h p = same_label (with_origin origin label) label (IsLabel-with_origin origin label h) h
    (λ x. has-with_origin x origin label ∙ or_known (origin == x) (has x label) (λ e. subst (λ (n : ℕ). has n label ≡ true) (eqb-true origin x e) p))

-- a set with an origin is its union with the set of that origin
pub with_origin-union : (origin : ℕ) (label : Label) → with_origin origin label ≡ union (single origin) label
unfolding union
with_origin-union origin label = refl

-- the union of the empty set with another
pub union-bottom_left : (a : Label) → union bottom a ≡ a
unfolding union
union-bottom_left a = refl

-- the union with the empty set
pub union-bottom : (a : Label) → IsLabel a → union a bottom ≡ a
unfolding has
union-bottom a h = same_label (union a bottom) a (IsLabel-union a bottom IsLabel-bottom) h (λ x. has-union x a bottom ∙ or_false (has x a))

-- the order of a union does not matter
pub union-comm : (a b : Label) → IsLabel a → IsLabel b → union a b ≡ union b a
union-comm a b f g = same_label (union a b) (union b a) (IsLabel-union a b g) (IsLabel-union b a f)
    (λ x. has-union x a b ∙ or_comm (has x a) (has x b) ∙ sym (has-union x b a))

-- how a union of three is grouped does not matter
pub union-assoc : (a b c : Label) → IsLabel c → union (union a b) c ≡ union a (union b c)
union-assoc a b c h = same_label (union (union a b) c) (union a (union b c)) (IsLabel-union (union a b) c h) (IsLabel-union a (union b c) (IsLabel-union b c h))
    (λ x. has-union x (union a b) c ∙ ap (λ (t : Bool). t || has x c) (has-union x a b) ∙ sym (or_regroup (has x a) (has x b) (has x c))
    ∙ ap (λ (t : Bool). has x a || t) (sym (has-union x b c)) ∙ sym (has-union x a (union b c)))

-- the union with an included set
pub union-within_same : (a b : Label) → IsLabel b → within a b ≡ true → union a b ≡ b
union-within_same a b h p = within-antisym (union a b) b (IsLabel-union a b h) h (union-within a b b p (within-refl b)) (within-union_right a b)

-- the union of a set with itself
pub union-same : (a : Label) → IsLabel a → union a a ≡ a
union-same a h = union-within_same a a h (within-refl a)

-- the union of a front of some origins with one more
pub label_of-push : (origins : List ℕ) (origin : ℕ) → union (label_of origins) (single origin) ≡ label_of (origins ++ origin ∷ [])
label_of-push origins origin = same_label (union (label_of origins) (single origin)) (label_of (origins ++ origin ∷ []))
    (IsLabel-union (label_of origins) (single origin) (IsLabel-single origin)) (IsLabel-label_of (origins ++ origin ∷ []))
    (λ x. has-union x (label_of origins) (single origin) ∙ ap₂ (λ (s t : Bool). s || t) (has-label_of x origins) (has-single x origin ∙ sym (or_false (origin == x)))
    ∙ sym (list_any-append (λ k. k == x) origins (origin ∷ [])) ∙ sym (has-label_of x (origins ++ origin ∷ [])))

-- the set of two lists of origins is the union of their sets
pub label_of-append : (a b : List ℕ) → label_of (a ++ b) ≡ union (label_of a) (label_of b)
label_of-append a b = same_label (label_of (a ++ b)) (union (label_of a) (label_of b)) (IsLabel-label_of (a ++ b)) (IsLabel-union (label_of a) (label_of b) (IsLabel-label_of b))
    (λ x. has-label_of x (a ++ b) ∙ list_any-append (λ k. k == x) a b ∙ ap₂ (λ (s t : Bool). s || t) (sym (has-label_of x a)) (sym (has-label_of x b)) ∙ sym (has-union x (label_of a) (label_of b)))

-- ---- the lattice

-- labels under inclusion are a lattice
pub lattice_laws : IsLattice
lattice_laws = record {
  members = has-union;
  kept = λ a b _ g. IsLabel-union a b g;
  reflexive = within-refl;
  transitive = within-trans;
  antisymmetric = within-antisym;
  least = within-bottom;
  upper = λ a b. (within-union_left a b, within-union_right a b);
  lowest = union-within;
  seen = λ observer a b. within-union a b observer;
}
