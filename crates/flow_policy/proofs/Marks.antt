-- Lists of names, and marks of the origins that they name.
use Rattle.std.proofs.Common.{arith, refl, sym, ap, ◌∙◌, subst, eq-eqb, ne_eqb, inl, inr, ◌≡◌, ◌<◌, ◌≤◌, ◌+◌, ℕ, suc, zero, Bool, true, false, cond, nat_lt, ◌==◌, ◌&&◌, ◌||◌, List, [], ◌∷◌, ◌++◌, length, get_or, set, replicate, All, Option, Some, None, Err, ltb-false}
use Rattle.std.specs.List.{slice_split, position_or_len, list_all, list_any}
use Rattle.std.specs.Option.{unwrap_or}
use Rattle.std.proofs.lemmas.Bool.{cases_lt, cases_eq}
use Rattle.std.proofs.lemmas.List.{length-set, get_or-set_same, get_or-set_other, get_or_push, get_or_append_left, length_push}
use Rattle.std.proofs.lemmas.List.Elements.{All-push, All-weaker}
use Rattle.std.proofs.lemmas.List.Folds.{list_any-append, list_any_none, list_any_at}
use Rattle.std.proofs.lemmas.List.Quantifiers.{position-Some}
use Rattle.std.proofs.lemmas.List.Sums.{fails_before_first}
use Rattle.origin_labels.specs.Label.{Label, IsLabel, has, label_of}
use Rattle.origin_labels.specs.Names.{same_name, has_name, place_of}
use Rattle.origin_labels.proofs.LabelLaws.{has-label_of, IsLabel-label_of, same_label}
use Rattle.flow_policy.specs.declared.fault.LineFault.{LineFault}
use Rattle.flow_policy.specs.declared.fault.LineFault.TheVariants as line
use Rattle.flow_policy.specs.Answers.{FindsOrigin, MarksOrigins}
use Rattle.flow_lists.proofs.ListLaws.{names_in-none, names_in-some}
use Rattle.flow_lists.specs.Lists.{names_in, is_comma}
use Rattle.flow_policy.specs.Lists.{are_declared, numbers_of, label_in}

-- ---- a name that has a place

pub place_of-has : (name : List ℕ) (origins : List (List ℕ)) (i : ℕ) → place_of name origins ≡ Some i → (i < length origins) × (has_name name origins ≡ true)
unfolding place_of has_name
place_of-has name origins i e =
    let found = position-Some (λ (other : List ℕ). same_name other name) origins i [] e in
    (found.0, list_any_at (λ (other : List ℕ). same_name other name) origins i [] found.0 found.1)

cond_none : (b : Bool) (x : ℕ) → cond b (Some x) None ≡ None → b ≡ false
cond_none true x e = absurd cc
cond_none false x e = refl

pub place_of-hasnt : (name : List ℕ) (origins : List (List ℕ)) → place_of name origins ≡ None → has_name name origins ≡ false
unfolding place_of has_name
place_of-hasnt name origins e =
    let p = λ (other : List ℕ). same_name other name in
    let le = ltb-false (position_or_len p origins) (length origins) (cond_none (nat_lt (position_or_len p origins) (length origins)) (position_or_len p origins) e) in
    list_any_none p origins (λ k d lt. fails_before_first p origins k d (omega arith))

-- ---- marks

-- the marks, with those for the names that are left, are those for all the names
pub record AreMarked (origins names left : List (List ℕ)) (marks : List Bool) : Type 0 where
  pub room : length marks ≡ 64
  pub declared : list_all (λ name. has_name name origins) left ≡ list_all (λ name. has_name name origins) names
  pub marked : (k : ℕ) → (get_or marks k false || list_any (λ j. j == k) (numbers_of origins left)) ≡ list_any (λ j. j == k) (numbers_of origins names)

or_moved : (a b c d : Bool) → d ≡ (a || c) → (d || b) ≡ (c || (a || b))
or_moved true true true d e = rw e refl
or_moved true true false d e = rw e refl
or_moved true false true d e = rw e refl
or_moved true false false d e = rw e refl
or_moved false true true d e = rw e refl
or_moved false true false d e = rw e refl
or_moved false false true d e = rw e refl
or_moved false false false d e = rw e refl

get_or-mark : (marks : List Bool) (i k : ℕ) → i < length marks → get_or (set marks i true) k false ≡ ((i == k) || get_or marks k false)
get_or-mark marks i k lt = elim (cases_eq i k) as (λ _. get_or (set marks i true) k false ≡ ((i == k) || get_or marks k false)) [
  | inl e ↦ rw (eq-eqb i k e) (subst (λ (n : ℕ). get_or (set marks i true) n false ≡ true) e (get_or-set_same marks i true false lt))
  | inr n ↦ rw (ne_eqb i k n) (get_or-set_other marks i k true false (λ e. n (sym e)))
]

-- no mark is set yet
pub unmarked : (n k : ℕ) → get_or (replicate n false) k false ≡ false
unmarked zero k = refl
unmarked (suc n) zero = refl
unmarked (suc n) (suc k) = unmarked n k

pub AreMarked-start : (origins names : List (List ℕ)) (marks : List Bool) → length marks ≡ 64 → ((k : ℕ) → get_or marks k false ≡ false) → AreMarked origins names names marks
AreMarked-start origins names marks room h = record { room = room; declared = refl; marked = λ k. rw (h k) refl }

-- one more name is marked
pub AreMarked-more : (origins names left : List (List ℕ)) (name : List ℕ) (marks : List Bool) (i : ℕ) → i < 64 → place_of name origins ≡ Some i → AreMarked origins names (name ∷ left) marks → AreMarked origins names left (set marks i true)
AreMarked-more origins names left name marks i lt at m = record {
  room = length-set marks i true ∙ m.room;
  declared = sym (ap (λ (b : Bool). b && list_all (λ n. has_name n origins) left) (place_of-has name origins i at).1) ∙ m.declared;
  marked = λ k. or_moved (i == k) (list_any (λ j. j == k) (numbers_of origins left)) (get_or marks k false) (get_or (set marks i true) k false) (get_or-mark marks i k (omega (arith, m.room)))
      ∙ ap (λ (o : Option ℕ). get_or marks k false || ((unwrap_or o 0 == k) || list_any (λ j. j == k) (numbers_of origins left))) (sym at) ∙ m.marked k;
}

-- an undeclared name
pub AreMarked-unknown : (origins names left : List (List ℕ)) (name : List ℕ) (marks : List Bool) → place_of name origins ≡ None → AreMarked origins names (name ∷ left) marks → list_all (λ n. has_name n origins) names ≡ false
AreMarked-unknown origins names left name marks none m = sym m.declared ∙ ap (λ (b : Bool). b && list_all (λ n. has_name n origins) left) (place_of-hasnt name origins none)

or_none : (b : Bool) → (b || false) ≡ b
or_none true = refl
or_none false = refl

-- the marks for all the names of a list
pub marks_done : (origins : List (List ℕ)) (list : List ℕ) (marks : List Bool) → same_name list (45 ∷ []) ≡ false → AreMarked origins (slice_split is_comma list) [] marks
    → (are_declared origins list ≡ true) × ((k : ℕ) → get_or marks k false ≡ has k (label_in origins list))
unfolding label_in
marks_done origins list marks some m = (
  ap (list_all (λ name. has_name name origins)) (names_in-some list some) ∙ sym m.declared,
  λ k. sym (or_none (get_or marks k false)) ∙ m.marked k ∙ sym (has-label_of k (numbers_of origins (slice_split is_comma list))) ∙ ap (λ (ns : List (List ℕ)). has k (label_of (numbers_of origins ns))) (sym (names_in-some list some)),
)

pub marks_none : (origins : List (List ℕ)) (list : List ℕ) (marks : List Bool) → same_name list (45 ∷ []) ≡ true → ((k : ℕ) → get_or marks k false ≡ false)
    → (are_declared origins list ≡ true) × ((k : ℕ) → get_or marks k false ≡ has k (label_in origins list))
unfolding label_in
marks_none origins list marks none h = (
  ap (list_all (λ name. has_name name origins)) (names_in-none list none),
  λ k. h k ∙ sym (has-label_of k []) ∙ ap (λ (ns : List (List ℕ)). has k (label_of (numbers_of origins ns))) (sym (names_in-none list none)),
)

pub unknown_done : (origins : List (List ℕ)) (list : List ℕ) → same_name list (45 ∷ []) ≡ false → list_all (λ n. has_name n origins) (slice_split is_comma list) ≡ false → are_declared origins list ≡ false
unknown_done origins list some h = ap (list_all (λ name. has_name name origins)) (names_in-some list some) ∙ h

-- the fault of a name is that of its list
pub mark_fails : (fault : LineFault) (origins left : List (List ℕ)) (list name : List ℕ) (marks : List Bool) → same_name list (45 ∷ []) ≡ false → AreMarked origins (slice_split is_comma list) (name ∷ left) marks
    → FindsOrigin (Err fault) origins name → MarksOrigins (Err fault) origins list
mark_fails (line.Bad kind) origins left list name marks some m h = (h.0, unknown_done origins list some (AreMarked-unknown origins (slice_split is_comma list) left name marks h.1 m))
mark_fails line.OutOfMemory origins left list name marks some m h = tt

-- the label that holds what is marked is the label of the list
pub label_done : (origins : List (List ℕ)) (list : List ℕ) (label : Label) → IsLabel label → ((k : ℕ) → has k label ≡ has k (label_in origins list)) → label ≡ label_in origins list
unfolding label_in
label_done origins list label h same = same_label label (label_in origins list) h (IsLabel-label_of (numbers_of origins (names_in list))) same

-- ---- marks as a rising list

-- the list holds the origins below n that pass the test
pub record IsMarked (label : Label) (test : ℕ → Bool) (n : ℕ) : Type 0 where
  pub rising : IsLabel label
  pub below : All (λ origin. origin < n) label
  pub members : (k : ℕ) → k < n → has k label ≡ test k

IsLabel-push : (label : Label) (n : ℕ) → All (λ origin. origin < n) label → IsLabel label → IsLabel (label ++ n ∷ [])
IsLabel-push label n below h k lt =
    let len = length_push label n in
    elim (cases_lt (k + 1) (length label)) as (λ _. get_or (label ++ n ∷ []) k 0 < get_or (label ++ n ∷ []) (k + 1) 0) [
      | inl inside ↦ rw (get_or_append_left label (n ∷ []) 0 k (omega arith), get_or_append_left label (n ∷ []) 0 (k + 1) inside) (h k inside)
      | inr past ↦ rw (get_or_append_left label (n ∷ []) 0 k (omega arith), get_or_push label n 0 (k + 1) (omega arith)) (below k 0 (omega arith))
    ]

pub has-above : (label : Label) (n k : ℕ) → All (λ origin. origin < n) label → n ≤ k → has k label ≡ false
unfolding has
has-above label n k below le = list_any_none (λ j. j == k) label (λ i d lt. ne_eqb (get_or label i d) k (λ e. omega (arith, below i d lt)))

has-push : (label : Label) (n k : ℕ) → has k (label ++ n ∷ []) ≡ (has k label || (n == k))
unfolding has
has-push label n k = list_any-append (λ j. j == k) label (n ∷ []) ∙ ap (λ (b : Bool). list_any (λ j. j == k) label || b) (or_none (n == k))

all_below : (label : Label) (n : ℕ) → All (λ origin. origin < n) label → All (λ origin. origin < n + 1) label
all_below label n h = All-weaker (λ origin. origin < n) (λ origin. origin < n + 1) (λ x lt. omega arith) label h

pub IsMarked-yes : (label : Label) (test : ℕ → Bool) (n : ℕ) → test n ≡ true → IsMarked label test n → IsMarked (label ++ n ∷ []) test (n + 1)
IsMarked-yes label test n set_at m = record {
  rising = IsLabel-push label n m.below m.rising;
  below = All-push (λ origin. origin < n + 1) label n (all_below label n m.below) (omega arith);
  members = λ k lt. has-push label n k ∙ elim (cases_lt k n) as (λ _. (has k label || (n == k)) ≡ test k) [
    | inl before ↦ rw (ne_eqb n k (λ e. omega arith)) (or_none (has k label) ∙ m.members k before)
    | inr past ↦ let e : n ≡ k = omega arith in rw (has-above label n k m.below past, eq-eqb n k e) (sym (subst (λ (j : ℕ). test j ≡ true) e set_at))
  ];
}

pub IsMarked-no : (label : Label) (test : ℕ → Bool) (n : ℕ) → test n ≡ false → IsMarked label test n → IsMarked label test (n + 1)
IsMarked-no label test n unset m = record {
  rising = m.rising;
  below = all_below label n m.below;
  members = λ k lt. elim (cases_lt k n) as (λ _. has k label ≡ test k) [
    | inl before ↦ m.members k before
    | inr past ↦ let e : n ≡ k = omega arith in has-above label n k m.below past ∙ sym (subst (λ (j : ℕ). test j ≡ false) e unset)
  ];
}

-- no origin from n on passes
pub IsMarked-done : (label : Label) (test : ℕ → Bool) (n : ℕ) → ((k : ℕ) → n ≤ k → test k ≡ false) → IsMarked label test n → (k : ℕ) → has k label ≡ test k
IsMarked-done label test n none m k = elim (cases_lt k n) as (λ _. has k label ≡ test k) [
  | inl before ↦ m.members k before
  | inr past ↦ has-above label n k m.below past ∙ sym (none k past)
]
