-- A set with one more origin: those below it, itself, and those above it.
use Rattle.std.proofs.Common.{arith, eq-eqb, ne_eqb, lt-ltb, le-ltb, ◌≡◌, ◌<◌, ◌≤◌, ℕ, ◌+◌, Bool, nat_lt, List, [], ◌∷◌, ◌++◌, length, get_or, drop, All, refl, sym, ◌∙◌, ap, subst, inl, inr}
use Rattle.std.specs.List.{filter}
use Rattle.std.proofs.lemmas.Bool.{cases_lt, cases_eq}
use Rattle.std.proofs.lemmas.List.{get_or_append_left, get_or_at, length-append, append-nil, drop_more, drop_all}
use Rattle.std.proofs.lemmas.List.Kept.{AllPairs-from_increasing, IsStrictlyIncreasing-filter}
use Rattle.origin_labels.specs.Label.{Label, IsLabel, with_origin}
use Rattle.origin_labels.proofs.LabelLaws.{Follows, Rises, Rises-from_IsLabel, IsLabel-with_origin}

-- each origin before another in a label is below it
pub all_before : (front : List ℕ) (y : ℕ) (back : List ℕ) → IsLabel (front ++ y ∷ back) → All (λ o. o < y) front
all_before front y back rises k d lt =
    let pair = AllPairs-from_increasing (front ++ y ∷ back) rises k (length front) d lt (omega (arith, length-append front (y ∷ back))) in
    rw (get_or_append_left front (y ∷ back) d k lt, get_or_at front y back d (length front) refl) at pair

abbrev pub below : ℕ → List ℕ → List ℕ
below origin label = filter (λ k. nat_lt k origin) label

abbrev pub above : ℕ → List ℕ → List ℕ
above origin label = filter (λ k. nat_lt origin k) label

-- what rises from an origin has none below it, and all above it
none_below : (origin k : ℕ) (label : List ℕ) → origin ≤ k → Follows k label → below origin label ≡ []
none_below origin k [] le f = refl
none_below origin k (j ∷ label) le f = rw (le-ltb j origin (omega (arith, f.0))) (none_below origin j label (omega (arith, f.0)) f.1)

all_above : (origin k : ℕ) (label : List ℕ) → origin ≤ k → Follows k label → above origin label ≡ label
all_above origin k [] le f = refl
all_above origin k (j ∷ label) le f = rw (lt-ltb origin j (omega (arith, f.0)), all_above origin j label (omega (arith, f.0)) f.1) refl

parted : (origin : ℕ) (label : List ℕ) → Rises label → with_origin origin label ≡ below origin label ++ origin ∷ above origin label
unfolding with_origin
parted origin [] f = refl
parted origin (j ∷ label) f = elim (cases_lt origin j) as (λ _. with_origin origin (j ∷ label) ≡ below origin (j ∷ label) ++ origin ∷ above origin (j ∷ label)) [
  | inl lt ↦ rw (lt-ltb origin j lt, le-ltb j origin (omega arith), none_below origin j label (omega arith) f, all_above origin j label (omega arith) f) refl
  | inr le ↦ elim (cases_eq origin j) as (λ _. with_origin origin (j ∷ label) ≡ below origin (j ∷ label) ++ origin ∷ above origin (j ∷ label)) [
    | inl e ↦ rw (le-ltb origin j le, eq-eqb origin j e, le-ltb j origin (omega arith), none_below origin j label (omega arith) f, all_above origin j label (omega arith) f, e) refl
    | inr ne ↦ rw (le-ltb origin j le, ne_eqb origin j ne, lt-ltb j origin (omega arith)) (ap (λ (l : List ℕ). j ∷ l) (parted origin label (rises_behind j label f)))
  ]
]
  where
    rises_behind : (k : ℕ) (l : List ℕ) → Follows k l → Rises l
    rises_behind k [] h = tt
    rises_behind k (i ∷ l) h = h.1

-- the whole set, in its three parts
pub parted_label : (origin : ℕ) (label : Label) → IsLabel label → with_origin origin label ≡ below origin label ++ origin ∷ above origin label
parted_label origin label rises = parted origin label (Rises-from_IsLabel label rises)

pub whole_rises : (origin : ℕ) (label : Label) → IsLabel label → IsLabel (below origin label ++ origin ∷ above origin label)
whole_rises origin label rises = subst IsLabel (parted_label origin label rises) (IsLabel-with_origin origin label rises)

-- ---- the parts that are put one by one: what was put, with what is left, is a label, so that what was put is below what comes next

pub copied_below : (put items whole : List ℕ) (i : ℕ) → i < length items → put ++ drop i items ≡ whole → IsLabel whole → All (λ o. o < get_or items i 0) put
copied_below put items whole i lt h rises =
    all_before put (get_or items i 0) (drop (i + 1) items) (subst (λ (l : List ℕ). IsLabel (put ++ l)) (drop_more items i 0 lt) (subst IsLabel (sym h) rises))

below_more : (origin : ℕ) (items : List ℕ) (i : ℕ) → i < length items → get_or items i 0 < origin → below origin (drop i items) ≡ get_or items i 0 ∷ below origin (drop (i + 1) items)
below_more origin items i lt under = rw (drop_more items i 0 lt, lt-ltb (get_or items i 0) origin under) refl

above_more : (origin : ℕ) (items : List ℕ) (i : ℕ) → i < length items → origin < get_or items i 0 → above origin (drop i items) ≡ get_or items i 0 ∷ above origin (drop (i + 1) items)
above_more origin items i lt over = rw (drop_more items i 0 lt, lt-ltb origin (get_or items i 0) over) refl

pub first_below : (origin : ℕ) (put items label : List ℕ) (i : ℕ) → i < length items → get_or items i 0 < origin → put ++ below origin (drop i items) ≡ below origin label → IsLabel label → All (λ o. o < get_or items i 0) put
first_below origin put items label i lt under h rises =
    all_before put (get_or items i 0) (below origin (drop (i + 1) items))
    (subst (λ (l : List ℕ). IsLabel (put ++ l)) (below_more origin items i lt under) (subst IsLabel (sym h) (IsStrictlyIncreasing-filter (λ k. nat_lt k origin) label rises)))

nothing_left : (test : ℕ → Bool) (put items whole : List ℕ) (i : ℕ) → length items ≤ i → put ++ filter test (drop i items) ≡ whole → put ≡ whole
nothing_left test put items whole i le h = sym (append-nil put) ∙ subst (λ (l : List ℕ). put ++ filter test l ≡ whole) (drop_all i items le) h

pub origin_above : (origin : ℕ) (put items label : List ℕ) (i : ℕ) → length items ≤ i → put ++ below origin (drop i items) ≡ below origin label → IsLabel label → All (λ o. o < origin) put
origin_above origin put items label i le h rises =
    subst (λ (l : List ℕ). All (λ o. o < origin) l) (sym (nothing_left (λ k. nat_lt k origin) put items (below origin label) i le h))
    (all_before (below origin label) origin (above origin label) (whole_rises origin label rises))

pub last_below : (origin : ℕ) (put items label : List ℕ) (i : ℕ) → i < length items → origin < get_or items i 0 → put ++ above origin (drop i items) ≡ below origin label ++ origin ∷ above origin label → IsLabel label → All (λ o. o < get_or items i 0) put
last_below origin put items label i lt over h rises =
    all_before put (get_or items i 0) (above origin (drop (i + 1) items))
    (subst (λ (l : List ℕ). IsLabel (put ++ l)) (above_more origin items i lt over) (subst IsLabel (sym h) (whole_rises origin label rises)))

pub all_put : (origin : ℕ) (put items label : List ℕ) (i : ℕ) → length items ≤ i → put ++ above origin (drop i items) ≡ below origin label ++ origin ∷ above origin label → IsLabel label → put ≡ with_origin origin label
all_put origin put items label i le h rises =
    nothing_left (λ k. nat_lt origin k) put items (below origin label ++ origin ∷ above origin label) i le h ∙ sym (parted_label origin label rises)
