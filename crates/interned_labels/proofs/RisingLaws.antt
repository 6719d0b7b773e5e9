-- Unions and inclusions of rising lists, from their first origins on.
use Rattle.std.proofs.Common.{arith, refl, ap, ap₂, sym, ◌∙◌, subst, ◌≡◌, inl, inr, ◌<◌, ◌≤◌, ◌+◌, ◌-◌, min, ℕ, ◌⊎◌, Bool, true, false, cond, ◌==◌, ◌||◌, nat_lt, leb, List, [], ◌∷◌, ◌++◌, drop, length, get_or, lt-ltb, eqb-true, eq-eqb, ne_eqb}
use Rattle.std.specs.Int.{from_bool}
use Rattle.std.proofs.lemmas.Bool.{cond-true, and_parts, and_from, or_cases, or_left, or_right, cases_lt, cases_order, le-leb, lt-leb, false≢true}
use Rattle.std.proofs.lemmas.List.{get_or-drop, length-drop, drop_more, drop_all, drop-drop, append_assoc, append-nil}
use Rattle.origin_labels.specs.Label.{Label, IsLabel, has, with_origin, union, within}
use Rattle.origin_labels.proofs.LabelLaws.{same_test, same_label, has-with_origin, has-union, has-within, within-from_has, Follows, Rises-from_IsLabel, IsLabel-with_origin, IsLabel-union, union-comm, union-bottom, union-bottom_left}

-- ---- parts of rising lists

-- what is left of a rising list rises
pub IsLabel-drop : (n : ℕ) (label : Label) → IsLabel label → IsLabel (drop n label)
IsLabel-drop n label h k lt =
    let next : (n + k) + 1 ≡ n + (k + 1) = omega arith in
    let here : get_or label (n + k) 0 < get_or label (n + (k + 1)) 0 = subst (λ (m : ℕ). get_or label (n + k) 0 < get_or label m 0) next (h (n + k) (omega (arith, lt, length-drop n label))) in
    subst (λ (m : ℕ). m < get_or (drop n label) (k + 1) 0) (sym (get_or-drop n label k 0)) (subst (λ (m : ℕ). get_or label (n + k) 0 < m) (sym (get_or-drop n label (k + 1) 0)) here)

-- each later origin is above the first
pub above : (x k : ℕ) (label : Label) → Follows x label → has k label ≡ true → x < k
unfolding has
above x k [] f h = absurd (false≢true h)
above x k (j ∷ label) f h = elim (or_cases (j == k) (has k label) h) as (λ _. x < k) [
  | inl e ↦ omega (arith, f.0, eqb-true j k e)
  | inr later ↦ omega (arith, f.0, above j k label f.1 later)
]

-- an origin below all others comes first
with_origin-first : (x : ℕ) (label : Label) → ((k : ℕ) → has k label ≡ true → x < k) → with_origin x label ≡ x ∷ label
unfolding has with_origin
with_origin-first x [] h = refl
with_origin-first x (j ∷ label) h = cond-true (nat_lt x j) (x ∷ j ∷ label) (cond (x == j) (j ∷ label) (j ∷ with_origin x label)) (lt-ltb x j (h j (or_left (j == j) (has j label) (eq-eqb j j refl))))

-- ---- unions

-- an origin that stands before two lists and before the second
or_again : (x y z : Bool) → (x || (y || (x || z))) ≡ (x || (y || z))
or_again true y z = refl
or_again false true z = refl
or_again false false z = refl

-- the lesser first origin comes first
union-less : (x y : ℕ) (a b : Label) → IsLabel (x ∷ a) → IsLabel (y ∷ b) → x < y → union (x ∷ a) (y ∷ b) ≡ x ∷ union a (y ∷ b)
unfolding union has
union-less x y a b f g lt = with_origin-first x (union a (y ∷ b)) (λ k h. elim (or_cases (has k a) (has k (y ∷ b)) (sym (has-union k a (y ∷ b)) ∙ h)) as (λ _. x < k) [
  | inl p ↦ above x k a (Rises-from_IsLabel (x ∷ a) f) p
  | inr q ↦ elim (or_cases (y == k) (has k b) q) as (λ _. x < k) [
    | inl e ↦ omega (arith, lt, eqb-true y k e)
    | inr later ↦ omega (arith, lt, above y k b (Rises-from_IsLabel (y ∷ b) g) later)
  ]
])

-- a first origin of both comes once
union-equal : (x : ℕ) (a b : Label) → IsLabel (x ∷ a) → IsLabel (x ∷ b) → union (x ∷ a) (x ∷ b) ≡ x ∷ union a b
unfolding union has
union-equal x a b f g = same_label (with_origin x (union a (x ∷ b))) (with_origin x (union a b)) (IsLabel-with_origin x (union a (x ∷ b)) (IsLabel-union a (x ∷ b) g)) (IsLabel-with_origin x (union a b) (IsLabel-union a b (IsLabel-drop 1 (x ∷ b) g)))
    (λ k. has-with_origin k x (union a (x ∷ b)) ∙ ap (λ (t : Bool). (x == k) || t) (has-union k a (x ∷ b)) ∙ or_again (x == k) (has k a) (has k b)
    ∙ ap (λ (t : Bool). (x == k) || t) (sym (has-union k a b)) ∙ sym (has-with_origin k x (union a b)))
    ∙ with_origin-first x (union a b) (λ k h. elim (or_cases (has k a) (has k b) (sym (has-union k a b) ∙ h)) as (λ _. x < k) [
      | inl p ↦ above x k a (Rises-from_IsLabel (x ∷ a) f) p
      | inr q ↦ above x k b (Rises-from_IsLabel (x ∷ b) g) q
    ])

-- the lesser first origin, and the union of what is left of both
union_step : (x y : ℕ) (a b : Label) → IsLabel (x ∷ a) → IsLabel (y ∷ b) → union (x ∷ a) (y ∷ b) ≡ min x y ∷ union (drop (from_bool (leb x y)) (x ∷ a)) (drop (from_bool (leb y x)) (y ∷ b))
union_step x y a b f g = elim (cases_order x y) as (λ _. union (x ∷ a) (y ∷ b) ≡ min x y ∷ union (drop (from_bool (leb x y)) (x ∷ a)) (drop (from_bool (leb y x)) (y ∷ b))) [
  | inl e ↦ rw (le-leb x y (omega (arith, e)), le-leb y x (omega (arith, e)), (let least : min x y ≡ x = omega (arith, e) in least))
      (subst (λ (n : ℕ). union (x ∷ a) (n ∷ b) ≡ x ∷ union a b) e (union-equal x a b f (subst (λ (n : ℕ). IsLabel (n ∷ b)) (sym e) g)))
  | inr apart ↦ elim apart as (λ _. union (x ∷ a) (y ∷ b) ≡ min x y ∷ union (drop (from_bool (leb x y)) (x ∷ a)) (drop (from_bool (leb y x)) (y ∷ b))) [
    | inl lt ↦ rw (le-leb x y (omega arith), lt-leb y x lt, (let least : min x y ≡ x = omega arith in least)) (union-less x y a b f g lt)
    | inr gt ↦ rw (lt-leb x y gt, le-leb y x (omega arith), (let least : min x y ≡ y = omega arith in least))
        (union-comm (x ∷ a) (y ∷ b) f g ∙ union-less y x b a g f gt ∙ ap (λ (l : Label). y ∷ l) (union-comm b (x ∷ a) (IsLabel-drop 1 (y ∷ b) g) f))
  ]
]

-- a merge that took the lesser of two origins still gives the union
pub merge_more : (a b whole done : Label) (i j least s t : ℕ) → IsLabel a → IsLabel b → i < length a → j < length b
    → least ≡ min (get_or a i 0) (get_or b j 0) → s ≡ from_bool (leb (get_or a i 0) (get_or b j 0)) → t ≡ from_bool (leb (get_or b j 0) (get_or a i 0))
    → done ++ union (drop i a) (drop j b) ≡ whole → (done ++ least ∷ []) ++ union (drop (i + s) a) (drop (j + t) b) ≡ whole
merge_more a b whole done i j least s t f g lt below is_least is_s is_t so_far =
    let x = get_or a i 0 in
    let y = get_or b j 0 in
    let m = from_bool (leb x y) in
    let n = from_bool (leb y x) in
    let first = drop_more a i 0 lt in
    let second = drop_more b j 0 below in
    let left : drop (i + s) a ≡ drop m (x ∷ drop (i + 1) a) = ap (λ (k : ℕ). drop (i + k) a) is_s ∙ sym (drop-drop m i a) ∙ ap (drop m) first in
    let right : drop (j + t) b ≡ drop n (y ∷ drop (j + 1) b) = ap (λ (k : ℕ). drop (j + k) b) is_t ∙ sym (drop-drop n j b) ∙ ap (drop n) second in
    let next : least ∷ union (drop (i + s) a) (drop (j + t) b) ≡ union (drop i a) (drop j b) =
    ap (λ (k : ℕ). k ∷ union (drop (i + s) a) (drop (j + t) b)) is_least
    ∙ ap₂ (λ (p q : Label). min x y ∷ union p q) left right
    ∙ sym (union_step x y (drop (i + 1) a) (drop (j + 1) b) (subst IsLabel first (IsLabel-drop i a f)) (subst IsLabel second (IsLabel-drop j b g)))
    ∙ ap₂ union (sym first) (sym second) in
    append_assoc done (least ∷ []) (union (drop (i + s) a) (drop (j + t) b)) ∙ ap (λ (l : Label). done ++ l) next ∙ so_far

-- a step stays within the list
pub step_fits : (i n s : ℕ) (test : Bool) → i < n → s ≡ from_bool test → i + s ≤ n
step_fits i n s true lt e = let one : s ≡ 1 = e in omega (arith, lt, one)
step_fits i n s false lt e = let none : s ≡ 0 = e in omega (arith, lt, none)

-- one of two steps is taken
pub merge_smaller : (m n i j x y s t : ℕ) → i < m → j < n → s ≡ from_bool (leb x y) → t ≡ from_bool (leb y x) → (m - (i + s)) + (n - (j + t)) < (m - i) + (n - j)
merge_smaller m n i j x y s t lt below is_s is_t = elim (cases_lt x y) as (λ _. (m - (i + s)) + (n - (j + t)) < (m - i) + (n - j)) [
  | inl less ↦ let one : s ≡ 1 = is_s ∙ ap from_bool (le-leb x y (omega arith)) in omega (arith, one, lt, below)
  | inr other ↦ let one : t ≡ 1 = is_t ∙ ap from_bool (le-leb y x other) in omega (arith, one, lt, below)
]

-- a merge ends with what is left of either
pub merge_ends : (a b whole done : Label) (i j : ℕ) → IsLabel a → (length a ≤ i) ⊎ (length b ≤ j) → done ++ union (drop i a) (drop j b) ≡ whole → (done ++ drop i a) ++ drop j b ≡ whole
merge_ends a b whole done i j f end so_far = append_assoc done (drop i a) (drop j b) ∙ ap (λ (l : Label). done ++ l) (elim end as (λ _. drop i a ++ drop j b ≡ union (drop i a) (drop j b)) [
  | inl past ↦ rw (drop_all i a past) (sym (union-bottom_left (drop j b)))
  | inr past ↦ rw (drop_all j b past) (append-nil (drop i a) ∙ sym (union-bottom (drop i a) (IsLabel-drop i a f)))
]) ∙ so_far

-- ---- inclusions

-- a first origin of both is found
within-equal : (x : ℕ) (a b : Label) → IsLabel (x ∷ a) → within (x ∷ a) (x ∷ b) ≡ within a b
unfolding within has
within-equal x a b f = same_test (within (x ∷ a) (x ∷ b)) (within a b)
    (λ h. within-from_has a b (λ k p. elim (or_cases (x == k) (has k b) (has-within k a (x ∷ b) (and_parts (has x (x ∷ b)) (within a (x ∷ b)) h).1 p)) as (λ _. has k b ≡ true) [
      | inl e ↦ absurd (let lt = above x k a (Rises-from_IsLabel (x ∷ a) f) p in omega (arith, lt, eqb-true x k e))
      | inr q ↦ q
    ]))
    (λ h. and_from (has x (x ∷ b)) (within a (x ∷ b)) (or_left (x == x) (has x b) (eq-eqb x x refl)) (within-from_has a (x ∷ b) (λ k p. or_right (x == k) (has k b) (has-within k a b h p))))

-- another first origin of the second list is passed
within-other : (x y : ℕ) (a b : Label) → IsLabel (x ∷ a) → IsLabel (y ∷ b) → (x ≡ y → ⊥) → within (x ∷ a) (y ∷ b) ≡ within (x ∷ a) b
unfolding has
within-other x y a b f g ne = same_test (within (x ∷ a) (y ∷ b)) (within (x ∷ a) b)
    (λ h. within-from_has (x ∷ a) b (λ k p. elim (or_cases (y == k) (has k b) (has-within k (x ∷ a) (y ∷ b) h p)) as (λ _. has k b ≡ true) [
      | inl e ↦ absurd (let same = eqb-true y k e in
          let low : y < x = elim (or_cases (y == x) (has x b) (has-within x (x ∷ a) (y ∷ b) h (or_left (x == x) (has x a) (eq-eqb x x refl)))) as (λ _. y < x) [
            | inl q ↦ absurd (ne (sym (eqb-true y x q)))
            | inr q ↦ above y x b (Rises-from_IsLabel (y ∷ b) g) q
          ] in
          elim (or_cases (x == k) (has k a) p) as (λ _. ⊥) [
            | inl q ↦ ne (eqb-true x k q ∙ sym same)
            | inr q ↦ let high = above x k a (Rises-from_IsLabel (x ∷ a) f) q in omega (arith, low, high, same)
          ])
      | inr q ↦ q
    ]))
    (λ h. within-from_has (x ∷ a) (y ∷ b) (λ k p. or_right (y == k) (has k b) (has-within k (x ∷ a) b h p)))

-- the origin at this place was found
search_found : (a b : Label) (whole : Bool) (i k : ℕ) → IsLabel a → i < length a → k < length b → get_or a i 0 ≡ get_or b k 0
    → within (drop i a) (drop k b) ≡ whole → within (drop (i + 1) a) (drop (k + 1) b) ≡ whole
search_found a b whole i k f lt below same so_far =
    let first = drop_more a i 0 lt in
    let second = drop_more b k 0 below in
    sym (within-equal (get_or a i 0) (drop (i + 1) a) (drop (k + 1) b) (subst IsLabel first (IsLabel-drop i a f)))
    ∙ ap₂ within (sym first) (ap (λ (n : ℕ). n ∷ drop (k + 1) b) same ∙ sym second) ∙ so_far

-- this origin isn't the one that is looked for
search_passed : (a b : Label) (whole : Bool) (i k : ℕ) → IsLabel a → IsLabel b → i < length a → k < length b → (get_or a i 0 ≡ get_or b k 0 → ⊥)
    → within (drop i a) (drop k b) ≡ whole → within (drop i a) (drop (k + 1) b) ≡ whole
search_passed a b whole i k f g lt below ne so_far =
    let first = drop_more a i 0 lt in
    let second = drop_more b k 0 below in
    ap (λ (l : Label). within l (drop (k + 1) b)) first
    ∙ sym (within-other (get_or a i 0) (get_or b k 0) (drop (i + 1) a) (drop (k + 1) b) (subst IsLabel first (IsLabel-drop i a f)) (subst IsLabel second (IsLabel-drop k b g)) ne)
    ∙ ap₂ within (sym first) (sym second) ∙ so_far

-- all were found
search_done : (a b : Label) (whole : Bool) (i k m : ℕ) → length a ≤ i → within (drop i a) (drop k b) ≡ whole → within (drop i a) (drop m b) ≡ whole
unfolding within
search_done a b whole i k m past so_far = ap (λ (l : Label). within l (drop m b)) (drop_all i a past) ∙ sym (ap (λ (l : Label). within l (drop k b)) (drop_all i a past)) ∙ so_far

-- what one more origin changes: j is the place in the first list after it
pub search_more : (a b : Label) (whole : Bool) (i j k : ℕ) → IsLabel a → IsLabel b → i ≤ length a → k < length b
    → ((i < length a) × (get_or a i 0 ≡ get_or b k 0) × (j ≡ i + 1)) ⊎ ((((i < length a) × (get_or a i 0 ≡ get_or b k 0 → ⊥)) ⊎ (length a ≤ i)) × (j ≡ i))
    → within (drop i a) (drop k b) ≡ whole → (j ≤ length a) × (within (drop j a) (drop (k + 1) b) ≡ whole)
search_more a b whole i j k f g le below way so_far = elim way as (λ _. (j ≤ length a) × (within (drop j a) (drop (k + 1) b) ≡ whole)) [
  | inl found ↦ (omega (arith, found.0, found.2), ap (λ (n : ℕ). within (drop n a) (drop (k + 1) b)) found.2 ∙ search_found a b whole i k f found.0 below found.1 so_far)
  | inr other ↦ (
    omega (arith, le, other.1),
    ap (λ (n : ℕ). within (drop n a) (drop (k + 1) b)) other.1
        ∙ elim other.0 as (λ _. within (drop i a) (drop (k + 1) b) ≡ whole) [
          | inl apart ↦ search_passed a b whole i k f g apart.0 below apart.1 so_far
          | inr past ↦ search_done a b whole i k (k + 1) past so_far
        ],
  )
]

-- at the end all were found where none is left
pub search_ends : (a b : Label) (i k : ℕ) → i ≤ length a → length b ≤ k → (i == length a) ≡ within (drop i a) (drop k b)
unfolding within has
search_ends a b i k le past = elim (cases_lt i (length a)) as (λ _. (i == length a) ≡ within (drop i a) (drop k b)) [
  | inl lt ↦ ne_eqb i (length a) (λ e. omega (arith, lt, e)) ∙ sym (ap₂ within (drop_more a i 0 lt) (drop_all k b past))
  | inr end ↦ eq-eqb i (length a) (omega (arith, le, end)) ∙ sym (ap (λ (l : Label). within l (drop k b)) (drop_all i a end))
]
