-- What a store keeps, and what its unions are.
use Rattle.std.proofs.Common.{arith, refl, ap, ap₂, sym, ◌∙◌, subst, ◌≡◌, inl, inr, ◌<◌, ℕ, Bool, true, false, cond, ◌==◌, ◌||◌, List, [], ◌∷◌, length, bytes_eq, position, Option, Some, None, Result, Ok, Err, OnErr, ◌⊎◌, eqb-true, eq-eqb, ne_eqb}
use Rattle.std.specs.Map.{lookup}
use Rattle.std.specs.Option.{unwrap_or}
use Rattle.std.proofs.lemmas.Bool.{cond-true, cond-false, and_parts, or_cases, or_left, or_right, or_from, cases_Bool}
use Rattle.std.proofs.lemmas.Option.{none-some}
use Rattle.origin_labels.specs.Label.{Label, IsLabel, bottom, single, union}
use Rattle.origin_labels.specs.Stores.{IsKept}
use Rattle.origin_labels.proofs.StoreLaws.{IsKept-refl}
use Rattle.origin_labels.proofs.LabelLaws.{IsLabel-bottom, IsLabel-single, IsLabel-union, union-same, union-bottom, union-bottom_left}
use Rattle.interned_labels.specs.declared.interned.InternedLabel.{InternedLabel}
use Rattle.interned_labels.specs.Interned.{InternedSets, set_at, same_pair, known_union, KeepsUnions, AreDistinct, HasDistinctLabels, IsMade, IsUnion, IsFormed}
use Rattle.interned_labels.proofs.TableLaws.{IsAdded, found_set, missing_set}

-- what holds in any case holds on an error
pub on_err : {T E P : Type 0} (r : Result T E) → P → OnErr r P
on_err (Ok x) p = tt
on_err (Err e) p = p

-- ---- stores

-- the label with a number
abbrev pub label_at : ℕ → InternedLabel
label_at n = record { 0 = n }

-- the store with these parts
abbrev pub store_of : List Label → List ((ℕ × ℕ) × ℕ) → ℕ → InternedSets
store_of sets unions room = record { sets = sets; unions = unions; room = room }

-- an equal store keeps all
pub kept_same : (old new : InternedSets) → new ≡ old → IsKept IsMade (λ (store : InternedSets) (label : InternedLabel). set_at store.sets label.0) (λ (store : InternedSets). store.room) (λ (store : InternedSets). false) old new
kept_same old new same = subst (λ (s : InternedSets). IsKept IsMade (λ (store : InternedSets) (label : InternedLabel). set_at store.sets label.0) (λ (store : InternedSets). store.room) (λ (store : InternedSets). false) old s) (sym same) (IsKept-refl _ _ _ _ old)

pub unions_same : (old new : InternedSets) → new ≡ old → KeepsUnions old.unions new.unions
unions_same old new same a b n e = ap (λ (s : InternedSets). known_union s.unions a b) same ∙ e

-- ---- more sets

-- each earlier set stays at its number
abbrev pub KeepsSets : List Label → List Label → Type 0
KeepsSets old new = (m : ℕ) → m < length old → (m < length new) × (set_at new m ≡ set_at old m)

pub labels_kept : (old now new : InternedSets) → old ≡ now → KeepsSets old.sets new.sets → new.room ≡ old.room
    → IsKept IsMade (λ (store : InternedSets) (label : InternedLabel). set_at store.sets label.0) (λ (store : InternedSets). store.room) (λ (store : InternedSets). false) now new
labels_kept old now new is kept same = subst (λ (s : InternedSets). IsKept IsMade (λ (store : InternedSets) (label : InternedLabel). set_at store.sets label.0) (λ (store : InternedSets). store.room) (λ (store : InternedSets). false) s new) is (record {
  labels = λ label m. let k = kept label.0 m.known in (record { known = k.0; rises = subst IsLabel (sym k.1) m.rises }, k.1);
  same_room = same;
  same_firm = refl;
})

-- a number whose set is a label is a label of the store
pub made_at : (store : InternedSets) (n : ℕ) (set : Label) → n < length store.sets → set_at store.sets n ≡ set → IsLabel set → IsMade store (label_at n)
made_at store n set lt is label = record { known = lt; rises = subst IsLabel (sym is) label }

union_kept : (old new : List Label) (a b n : ℕ) → KeepsSets old new → IsUnion old a b n → IsUnion new a b n
union_kept old new a b n kept u =
    let first = kept a u.first in
    let second = kept b u.second in
    let last = kept n u.known in
    record { first = first.0; second = second.0; known = last.0; is = last.1 ∙ u.is ∙ ap₂ union (sym first.1) (sym second.1) }

pub formed_kept : (old new : InternedSets) → KeepsSets old.sets new.sets → new.unions ≡ old.unions → IsFormed old → IsFormed new
formed_kept old new kept same formed =
    let zero = kept 0 formed.known in
    record {
      known = zero.0;
      empty = zero.1 ∙ formed.empty;
      unions = λ a b n e. union_kept old.sets new.sets a b n kept (formed.unions a b n (ap (lookup (same_pair (a, b))) (sym same) ∙ e));
    }

-- a new store
pub formed_new : (store : InternedSets) → store.sets ≡ bottom ∷ [] → store.unions ≡ [] → IsFormed store
formed_new store sets unions = record {
  known = subst (λ (l : List Label). 0 < length l) (sym sets) (omega arith);
  empty = ap (λ (l : List Label). set_at l 0) sets;
  unions = λ a b n e. absurd (none-some n (ap (lookup (same_pair (a, b))) (sym unions) ∙ e));
}

-- the empty set has number 0
pub bottom_made : (store now : InternedSets) → store ≡ now → IsFormed store → IsMade now (label_at 0) × (set_at now.sets 0 ≡ bottom)
bottom_made store now is formed = subst (λ (s : InternedSets). IsMade s (label_at 0) × (set_at s.sets 0 ≡ bottom)) is (made_at store 0 bottom formed.known formed.empty IsLabel-bottom, formed.empty)

-- the label of one origin that was found
pub single_found : (store now : InternedSets) (origin n : ℕ) → store ≡ now → Some n ≡ position (bytes_eq (origin ∷ [])) store.sets → IsMade now (label_at n) × (set_at now.sets n ≡ single origin)
single_found store now origin n is e =
    let found = found_set (origin ∷ []) store.sets n (sym e) in
    subst (λ (s : InternedSets). IsMade s (label_at n) × (set_at s.sets n ≡ single origin)) is (made_at store n (single origin) found.0 found.1 (IsLabel-single origin), found.1)

-- the label of one origin that wasn't found
pub single_missing : (store now : InternedSets) (origin : ℕ) → store ≡ now → None ≡ position (bytes_eq (origin ∷ [])) store.sets → (n : ℕ) → n < length now.sets → set_at now.sets n ≡ single origin → ⊥
single_missing store now origin is e = subst (λ (s : InternedSets). (n : ℕ) → n < length s.sets → set_at s.sets n ≡ single origin → ⊥) is (missing_set (origin ∷ []) store.sets (sym e))

-- labels with distinct numbers have distinct sets
pub distinct_labels : (store : InternedSets) → AreDistinct store.sets → HasDistinctLabels store
distinct_labels store distinct a b first second = (
  (λ e. ap (λ (label : InternedLabel). set_at store.sets label.0) e),
  (λ e. ap label_at (distinct a.0 b.0 first.known second.known e)),
)

-- ---- a union that is known

pub same_some : (m n : ℕ) → Some m ≡ Some n → m ≡ n
same_some m n e = ap (λ (o : Option ℕ). unwrap_or o 0) e

-- the union of sets of which the first is the second, or the second is empty
first_union : (store : InternedSets) (a b : ℕ) → IsFormed store → a < length store.sets → b < length store.sets → IsLabel (set_at store.sets a) → ((a == b) || (b == 0)) ≡ true → IsUnion store.sets a b a
first_union store a b formed first second label t =
    let set = set_at store.sets in
    record {
      first = first;
      second = second;
      known = first;
      is = elim (or_cases (a == b) (b == 0) t) as (λ _. set a ≡ union (set a) (set b)) [
        | inl e ↦ sym (ap (λ (n : ℕ). union (set a) (set n)) (sym (eqb-true a b e)) ∙ union-same (set a) label)
        | inr e ↦ sym (ap (union (set a)) (ap set (eqb-true b 0 e) ∙ formed.empty) ∙ union-bottom (set a) label)
      ];
    }

-- the union of the empty set with another
second_union : (store : InternedSets) (a b : ℕ) → IsFormed store → a < length store.sets → b < length store.sets → (a == 0) ≡ true → IsUnion store.sets a b b
second_union store a b formed first second e =
    let set = set_at store.sets in
    record {
      first = first;
      second = second;
      known = second;
      is = sym (ap (λ (l : Label). union l (set b)) (ap set (eqb-true a 0 e) ∙ formed.empty) ∙ union-bottom_left (set b));
    }

-- the union of one set with itself or with the empty set
pub known_first : (unions : List ((ℕ × ℕ) × ℕ)) (a b : ℕ) → (a ≡ b) ⊎ ((a ≡ b → ⊥) × (b ≡ 0)) → Some a ≡ known_union unions a b
unfolding known_union
known_first unions a b way = sym (cond-true ((a == b) || (b == 0)) (Some a) (cond (a == 0) (Some b) (lookup (same_pair (a, b)) unions))
    (elim way as (λ _. ((a == b) || (b == 0)) ≡ true) [ inl e ↦ or_left (a == b) (b == 0) (eq-eqb a b e) | inr e ↦ or_right (a == b) (b == 0) (eq-eqb b 0 e.1) ]))

-- the union of the empty set with another
pub known_second : (unions : List ((ℕ × ℕ) × ℕ)) (a b : ℕ) → (a ≡ b → ⊥) → (b ≡ 0 → ⊥) → a ≡ 0 → Some b ≡ known_union unions a b
unfolding known_union
known_second unions a b apart some zero_is =
    let found = lookup (same_pair (a, b)) unions in
    sym (cond-false ((a == b) || (b == 0)) (Some a) (cond (a == 0) (Some b) found) (or_from (a == b) (b == 0) (ne_eqb a b apart) (ne_eqb b 0 some)) ∙ cond-true (a == 0) (Some b) found (eq-eqb a 0 zero_is))

-- the union of two other sets
pub known_rest : (unions : List ((ℕ × ℕ) × ℕ)) (a b : ℕ) → (a ≡ b → ⊥) → (b ≡ 0 → ⊥) → (a ≡ 0 → ⊥) → lookup (same_pair (a, b)) unions ≡ known_union unions a b
unfolding known_union
known_rest unions a b apart some other =
    let found = lookup (same_pair (a, b)) unions in
    sym (cond-false ((a == b) || (b == 0)) (Some a) (cond (a == 0) (Some b) found) (or_from (a == b) (b == 0) (ne_eqb a b apart) (ne_eqb b 0 some)) ∙ cond-false (a == 0) (Some b) found (ne_eqb a 0 other))

-- a number that is known is that of the union
pub known_is_union : (store : InternedSets) (a b n : ℕ) → IsFormed store → a < length store.sets → b < length store.sets → IsLabel (set_at store.sets a) → known_union store.unions a b ≡ Some n → IsUnion store.sets a b n
unfolding known_union
known_is_union store a b n formed first second label e =
    let sets = store.sets in
    let found = lookup (same_pair (a, b)) store.unions in
    let rest = cond (a == 0) (Some b) found in
    elim (cases_Bool ((a == b) || (b == 0))) as (λ _. IsUnion sets a b n) [
      | inl t ↦ subst (IsUnion sets a b) (same_some a n (sym (cond-true ((a == b) || (b == 0)) (Some a) rest t) ∙ e)) (first_union store a b formed first second label t)
      | inr f ↦ let left : rest ≡ Some n = sym (cond-false ((a == b) || (b == 0)) (Some a) rest f) ∙ e in
          elim (cases_Bool (a == 0)) as (λ _. IsUnion sets a b n) [
            | inl t ↦ subst (IsUnion sets a b) (same_some b n (sym (cond-true (a == 0) (Some b) found t) ∙ left)) (second_union store a b formed first second t)
            | inr g ↦ formed.unions a b n (sym (cond-false (a == 0) (Some b) found g) ∙ left)
          ]
    ]

-- ---- a union that was computed

-- the label of a union that is known
pub known_made : (store now : InternedSets) (a b : InternedLabel) (n : ℕ) → store ≡ now → IsFormed store → IsMade now a → IsMade now b → Some n ≡ known_union now.unions a.0 b.0
    → IsMade now (label_at n) × (set_at now.sets n ≡ union (set_at now.sets a.0) (set_at now.sets b.0))
known_made store now a b n is formed first second e =
    let u = known_is_union now a.0 b.0 n (subst IsFormed is formed) first.known second.known first.rises (sym e) in
    (made_at now n (union (set_at now.sets a.0) (set_at now.sets b.0)) u.known u.is (IsLabel-union (set_at now.sets a.0) (set_at now.sets b.0) second.rises), u.is)

-- a union that was added
pub union_added : (old new : List Label) (a b n : ℕ) → a < length old → b < length old → IsAdded old new (union (set_at old a) (set_at old b)) n → IsUnion new a b n
union_added old new a b n first second added =
    let at = added.kept a first in
    let bt = added.kept b second in
    record { first = at.0; second = bt.0; known = added.known; is = added.is ∙ ap₂ union (sym at.1) (sym bt.1) }

-- what holds where a union isn't known
pub record IsMissing (unions : List ((ℕ × ℕ) × ℕ)) (a b : ℕ) : Type 0 where
  pub apart : ((a == b) || (b == 0)) ≡ false
  pub first : (a == 0) ≡ false
  pub none : lookup (same_pair (a, b)) unions ≡ None

pub missing : (unions : List ((ℕ × ℕ) × ℕ)) (a b : ℕ) → known_union unions a b ≡ None → IsMissing unions a b
unfolding known_union
missing unions a b e =
    let found = lookup (same_pair (a, b)) unions in
    let rest = cond (a == 0) (Some b) found in
    elim (cases_Bool ((a == b) || (b == 0))) as (λ _. IsMissing unions a b) [
      | inl t ↦ absurd (none-some a (sym e ∙ cond-true ((a == b) || (b == 0)) (Some a) rest t))
      | inr f ↦ let left : rest ≡ None = sym (cond-false ((a == b) || (b == 0)) (Some a) rest f) ∙ e in
          elim (cases_Bool (a == 0)) as (λ _. IsMissing unions a b) [
            | inl t ↦ absurd (none-some b (sym left ∙ cond-true (a == 0) (Some b) found t))
            | inr g ↦ record { apart = f; first = g; none = sym (cond-false (a == 0) (Some b) found g) ∙ left }
          ]
    ]

-- the later list has the number of one more pair
abbrev pub HasPair : List ((ℕ × ℕ) × ℕ) → List ((ℕ × ℕ) × ℕ) → ℕ → ℕ → ℕ → Type 0
HasPair old new a b n = (q : ℕ × ℕ) → lookup (same_pair q) new ≡ cond (same_pair (a, b) q) (Some n) (lookup (same_pair q) old)

-- the pair is known with its number
pub known_after : (old new : List ((ℕ × ℕ) × ℕ)) (a b n : ℕ) → IsMissing old a b → lookup (same_pair (a, b)) new ≡ Some n → known_union new a b ≡ Some n
unfolding known_union
known_after old new a b n m e =
    let found = lookup (same_pair (a, b)) new in
    cond-false ((a == b) || (b == 0)) (Some a) (cond (a == 0) (Some b) found) m.apart ∙ cond-false (a == 0) (Some b) found m.first ∙ e

-- the pair of the two numbers
pair_of : (a b x y : ℕ) → same_pair (a, b) (x, y) ≡ true → (a ≡ x) × (b ≡ y)
pair_of a b x y t = let parts = and_parts (a == x) (b == y) t in (eqb-true a x parts.0, eqb-true b y parts.1)

-- a pair that was found before is found with its number
still_found : (old new : List ((ℕ × ℕ) × ℕ)) (a b n x y m : ℕ) → lookup (same_pair (a, b)) old ≡ None → HasPair old new a b n → lookup (same_pair (x, y)) old ≡ Some m → lookup (same_pair (x, y)) new ≡ Some m
still_found old new a b n x y m none has e =
    elim (cases_Bool (same_pair (a, b) (x, y))) as (λ _. lookup (same_pair (x, y)) new ≡ Some m) [
      | inl t ↦ let same = pair_of a b x y t in
          absurd (none-some m (sym none ∙ ap₂ (λ (p q : ℕ). lookup (same_pair (p, q)) old) same.0 same.1 ∙ e))
      | inr f ↦ has (x, y) ∙ cond-false (same_pair (a, b) (x, y)) (Some n) (lookup (same_pair (x, y)) old) f ∙ e
    ]

pub unions_kept : (old new : List ((ℕ × ℕ) × ℕ)) (a b n : ℕ) → IsMissing old a b → HasPair old new a b n → KeepsUnions old new
unfolding known_union
unions_kept old new a b n miss has x y m e =
    let before = lookup (same_pair (x, y)) old in
    let after = lookup (same_pair (x, y)) new in
    let t = (x == y) || (y == 0) in
    elim (cases_Bool t) as (λ _. known_union new x y ≡ Some m) [
      | inl p ↦ cond-true t (Some x) (cond (x == 0) (Some y) after) p ∙ sym (cond-true t (Some x) (cond (x == 0) (Some y) before) p) ∙ e
      | inr f ↦ let left : cond (x == 0) (Some y) before ≡ Some m = sym (cond-false t (Some x) (cond (x == 0) (Some y) before) f) ∙ e in
          cond-false t (Some x) (cond (x == 0) (Some y) after) f
          ∙ elim (cases_Bool (x == 0)) as (λ _. cond (x == 0) (Some y) after ≡ Some m) [
            | inl p ↦ cond-true (x == 0) (Some y) after p ∙ sym (cond-true (x == 0) (Some y) before p) ∙ left
            | inr g ↦ cond-false (x == 0) (Some y) after g ∙ still_found old new a b n x y m miss.none has (sym (cond-false (x == 0) (Some y) before g) ∙ left)
          ]
    ]

-- a store with the number of one more union is formed
pub formed_with : (old new : InternedSets) (a b n : ℕ) → KeepsSets old.sets new.sets → IsFormed old → HasPair old.unions new.unions a b n → IsUnion new.sets a b n → IsFormed new
formed_with old new a b n kept formed has u =
    let zero = kept 0 formed.known in
    record {
      known = zero.0;
      empty = zero.1 ∙ formed.empty;
      unions = λ x y m e. elim (cases_Bool (same_pair (a, b) (x, y))) as (λ _. IsUnion new.sets x y m) [
        | inl t ↦ let same = pair_of a b x y t in
            let number : n ≡ m = same_some n m (sym (has (x, y) ∙ cond-true (same_pair (a, b) (x, y)) (Some n) (lookup (same_pair (x, y)) old.unions) t) ∙ e) in
            subst (λ (k : ℕ). IsUnion new.sets x y k) number (subst (λ (k : ℕ). IsUnion new.sets x k n) same.1 (subst (λ (k : ℕ). IsUnion new.sets k b n) same.0 u))
        | inr f ↦ union_kept old.sets new.sets x y m kept (formed.unions x y m (sym (has (x, y) ∙ cond-false (same_pair (a, b) (x, y)) (Some n) (lookup (same_pair (x, y)) old.unions) f) ∙ e))
      ];
    }
