-- Lists of distinct sets, with one more set.
use Rattle.std.proofs.Common.{arith, refl, ap, sym, ◌∙◌, subst, ◌≡◌, inl, inr, ◌<◌, ◌≤◌, ◌+◌, ◌-◌, ◌^◌, ◌==◌, ℕ, zero, suc, Bool, true, false, cond, nat_lt, List, [], ◌∷◌, ◌++◌, length, get_or, bytes_eq, position, Option, Some, None, lt-ltb, le-ltb}
use Rattle.std.specs.List.{list_any, position_or_len, IsDistinct}
use Rattle.std.specs.Option.{option_map}
use Rattle.std.specs.Cmp.Lexicographic.{nat_list_eq_equiv}
use Rattle.std.proofs.lemmas.Bool.{cond_both, cond-true, cond-false, cases_Bool, cases_lt, cases_order, false≢true}
use Rattle.std.proofs.lemmas.List.{length_push, get_or_push, get_or_append_left, get_or_default, nil_from_length}
use Rattle.std.proofs.lemmas.List.Folds.{list_any_at, list_any_none}
use Rattle.std.proofs.lemmas.List.Quantifiers.{position-Some}
use Rattle.std.proofs.lemmas.List.Sums.{position_or_len_is, fails_before_first, passes_at_first}
use Rattle.std.proofs.lemmas.Map.Keys.{IsDistinct-push, apart_from_distinct}
use Rattle.std.proofs.lemmas.Option.{none-some}
use Rattle.std.proofs.lemmas.Slice.Eq.{bytes_eq-Decides}
use Rattle.indexmap.specs.IndexSet.{insert_key}
use Rattle.origin_labels.specs.Label.{Label, bottom}
use Rattle.interned_labels.specs.Interned.{set_at, AreDistinct}

-- ---- the first element that passes

first_there : {X : Type 0} (p : X → Bool) (xs : List X) (d : X) → list_any p xs ≡ true → (position_or_len p xs < length xs) × (p (get_or xs (position_or_len p xs) d) ≡ true)
first_there p xs d there =
    elim (cases_lt (position_or_len p xs) (length xs)) as (λ _. (position_or_len p xs < length xs) × (p (get_or xs (position_or_len p xs) d) ≡ true)) [
      | inl lt ↦ (lt, passes_at_first p xs d lt)
      | inr past ↦ absurd (false≢true (sym (list_any_none p xs (λ k e lt. fails_before_first p xs k e (omega arith))) ∙ there))
    ]

first_missing : {X : Type 0} (p : X → Bool) (xs : List X) (d : X) → list_any p xs ≡ false → position_or_len p xs ≡ length xs
first_missing p xs d none =
    elim (cases_lt (position_or_len p xs) (length xs)) as (λ _. position_or_len p xs ≡ length xs) [
      | inl lt ↦ absurd (false≢true (sym none ∙ list_any_at p xs (position_or_len p xs) d lt (passes_at_first p xs d lt)))
      | inr past ↦ position_or_len_is p xs (length xs) d (omega arith) (λ k lt. fails_before_first p xs k d (omega arith)) (λ lt. absurd (omega arith))
    ]

-- ---- a set that was added

-- the later list has the set with the number, and each earlier set at its number
pub record IsAdded (old new : List Label) (set : Label) (n : ℕ) : Type 0 where
  pub known : n < length new
  pub is : set_at new n ≡ set
  pub kept : (m : ℕ) → m < length old → (m < length new) × (set_at new m ≡ set_at old m)

pub added : (sets : List Label) (set : Label) → IsAdded sets (insert_key bytes_eq sets set) set (position_or_len (bytes_eq set) sets)
added sets set =
    let n = position_or_len (bytes_eq set) sets in
    let new = insert_key bytes_eq sets set in
    elim (cases_Bool (list_any (bytes_eq set) sets)) as (λ _. IsAdded sets new set n) [
      | inl there ↦
          let at = first_there (bytes_eq set) sets [] there in
          subst (λ (l : List Label). IsAdded sets l set n) (sym (cond-true (list_any (bytes_eq set) sets) sets (sets ++ set ∷ []) there))
          (record { known = at.0; is = sym ((bytes_eq-Decides set (get_or sets n [])).0 at.1); kept = λ m lt. (lt, refl) })
      | inr none ↦
          let last : n ≡ length sets = first_missing (bytes_eq set) sets [] none in
          subst (λ (l : List Label). IsAdded sets l set n) (sym (cond-false (list_any (bytes_eq set) sets) sets (sets ++ set ∷ []) none))
          (record {
            known = omega (arith, last, length_push sets set);
            is = get_or_push sets set [] n (sym last);
            kept = λ m lt. (omega (arith, lt, length_push sets set), get_or_append_left sets (set ∷ []) [] m lt);
          })
    ]

pub length-added : (sets : List Label) (set : Label) → length (insert_key bytes_eq sets set) ≤ length sets + 1
length-added sets set = cond_both (list_any (bytes_eq set) sets) sets (sets ++ set ∷ []) (λ (l : List Label). length l ≤ length sets + 1) (λ _. omega arith) (λ _. omega (arith, length_push sets set))

pub IsDistinct-added : (sets : List Label) (set : Label) → IsDistinct bytes_eq sets → IsDistinct bytes_eq (insert_key bytes_eq sets set)
IsDistinct-added sets set d = cond_both (list_any (bytes_eq set) sets) sets (sets ++ set ∷ []) (IsDistinct bytes_eq) (λ _. d) (λ none. IsDistinct-push nat_list_eq_equiv sets set d none)

-- ---- the empty set before the others

cons_cond : {X : Type 0} (b : Bool) (x : X) (l m : List X) → cond b (x ∷ l) (x ∷ m) ≡ x ∷ cond b l m
cons_cond true x l m = refl
cons_cond false x l m = refl

-- a set that isn't empty is added behind it
pub added_behind : (set : Label) (sets : List Label) → 0 < length set → insert_key bytes_eq (bottom ∷ sets) set ≡ bottom ∷ insert_key bytes_eq sets set
added_behind [] sets lt = absurd (omega arith)
added_behind (x ∷ xs) sets lt = cons_cond (list_any (bytes_eq (x ∷ xs)) sets) [] sets (sets ++ (x ∷ xs) ∷ [])

-- and its number is one more
pub number_behind : (set : Label) (sets : List Label) → 0 < length set → position_or_len (bytes_eq set) (bottom ∷ sets) ≡ position_or_len (bytes_eq set) sets + 1
number_behind [] sets lt = absurd (omega arith)
number_behind (x ∷ xs) sets lt = let next : 1 + position_or_len (bytes_eq (x ∷ xs)) sets ≡ position_or_len (bytes_eq (x ∷ xs)) sets + 1 = omega arith in next

shifted : (n m : ℕ) → cond (nat_lt (1 + n) (suc m)) (Some (1 + n)) None ≡ option_map (λ (k : ℕ). k + 1) (cond (nat_lt n m) (Some n) None)
shifted n m = let next : 1 + n ≡ n + 1 = omega arith in
    elim (cases_lt n m) as (λ _. cond (nat_lt (1 + n) (suc m)) (Some (1 + n)) None ≡ option_map (λ (k : ℕ). k + 1) (cond (nat_lt n m) (Some n) None)) [
      | inl lt ↦ cond-true (nat_lt (1 + n) (suc m)) (Some (1 + n)) None (lt-ltb (1 + n) (suc m) (omega arith)) ∙ ap Some next ∙ sym (ap (option_map (λ (k : ℕ). k + 1)) (cond-true (nat_lt n m) (Some n) None (lt-ltb n m lt)))
      | inr past ↦ cond-false (nat_lt (1 + n) (suc m)) (Some (1 + n)) None (le-ltb (1 + n) (suc m) (omega arith)) ∙ sym (ap (option_map (λ (k : ℕ). k + 1)) (cond-false (nat_lt n m) (Some n) None (le-ltb n m past)))
    ]

pub position_behind : (set : Label) (sets : List Label) → 0 < length set → position (bytes_eq set) (bottom ∷ sets) ≡ option_map (λ (k : ℕ). k + 1) (position (bytes_eq set) sets)
position_behind [] sets lt = absurd (omega arith)
position_behind (x ∷ xs) sets lt = shifted (position_or_len (bytes_eq (x ∷ xs)) sets) (length sets)

-- what a table says of a set that it added
pub table_added : (old new : List Label) (set items : Label) (n : ℕ) → items ≡ set → n ≡ position_or_len (bytes_eq items) old → new ≡ insert_key bytes_eq old items → IsAdded old new set n
table_added old new set items n is number adds =
    subst (λ (l : Label). IsAdded old new l n) is
    (subst (λ (k : ℕ). IsAdded old new items k) (sym number)
    (subst (λ (l : List Label). IsAdded old l items (position_or_len (bytes_eq items) old)) (sym adds) (added old items)))

-- a length that isn't zero
pub nonempty : (n : ℕ) → false ≡ (n == 0) → 0 < n
nonempty zero e = absurd (false≢true e)
nonempty (suc n) e = omega arith

-- ---- what a table does, whose value is the empty set and then its keys

pub table_new : (keys : List Label) → keys ≡ [] → IsDistinct bytes_eq (bottom ∷ keys) × (length (bottom ∷ keys) ≤ 2 ^ 32)
unfolding IsDistinct
table_new keys e = subst (λ (l : List Label). IsDistinct bytes_eq (bottom ∷ l) × (length (bottom ∷ l) ≤ 2 ^ 32)) (sym e) ((tt, tt), omega arith)

pub added_none : (keys sets : List Label) (set : Label) → bottom ∷ keys ≡ sets → length set ≡ 0 → (0 ≡ position_or_len (bytes_eq set) sets) × (sets ≡ insert_key bytes_eq sets set)
added_none keys sets set is none =
    subst (λ (l : Label). (0 ≡ position_or_len (bytes_eq l) sets) × (sets ≡ insert_key bytes_eq sets l)) (sym (nil_from_length set none))
    (subst (λ (s : List Label). (0 ≡ position_or_len (bytes_eq []) s) × (s ≡ insert_key bytes_eq s [])) is (refl, refl))

pub added_number : (keys sets : List Label) (set value : Label) (place : ℕ) → bottom ∷ keys ≡ sets → 0 < length set → value ≡ set → place ≡ position_or_len (bytes_eq value) keys → place + 1 ≡ position_or_len (bytes_eq set) sets
added_number keys sets set value place is some same at =
    ap (λ (n : ℕ). n + 1) (at ∙ ap (λ (l : Label). position_or_len (bytes_eq l) keys) same) ∙ sym (number_behind set keys some) ∙ ap (position_or_len (bytes_eq set)) is

pub added_sets : (keys new sets : List Label) (set value : Label) → bottom ∷ keys ≡ sets → 0 < length set → value ≡ set → new ≡ insert_key bytes_eq keys value → bottom ∷ new ≡ insert_key bytes_eq sets set
added_sets keys new sets set value is some same adds =
    ap (λ (l : List Label). bottom ∷ l) (adds ∙ ap (insert_key bytes_eq keys) same) ∙ sym (added_behind set keys some) ∙ ap (λ (l : List Label). insert_key bytes_eq l set) is

pub added_formed : (keys new : List Label) (set value : Label) → 0 < length set → value ≡ set → new ≡ insert_key bytes_eq keys value → length keys < 4294967295 → IsDistinct bytes_eq (bottom ∷ keys)
    → IsDistinct bytes_eq (bottom ∷ new) × (length (bottom ∷ new) ≤ 2 ^ 32)
added_formed keys new set value some same adds few distinct =
    let is = added_sets keys new (bottom ∷ keys) set value refl some same adds in
    subst (λ (l : List Label). IsDistinct bytes_eq l × (length l ≤ 2 ^ 32)) (sym is) (IsDistinct-added (bottom ∷ keys) set distinct, omega (arith, few, length-added (bottom ∷ keys) set))

pub place_fits : (keys new : List Label) (value : Label) (place : ℕ) → new ≡ insert_key bytes_eq keys value → place < length new → length keys < 4294967295 → place + 1 < 2 ^ 32
place_fits keys new value place adds lt few = omega (arith, lt, few, ap length adds, length-added keys value)

pub found_number : (keys sets : List Label) (set : Label) (place : ℕ) → bottom ∷ keys ≡ sets → 0 < length set → position (bytes_eq set) keys ≡ Some place → Some (place + 1) ≡ position (bytes_eq set) sets
found_number keys sets set place is some at = sym (ap (option_map (λ (k : ℕ). k + 1)) at) ∙ sym (position_behind set keys some) ∙ ap (position (bytes_eq set)) is

pub found_none : (keys sets : List Label) (set : Label) → bottom ∷ keys ≡ sets → 0 < length set → position (bytes_eq set) keys ≡ None → None ≡ position (bytes_eq set) sets
found_none keys sets set is some at = sym (ap (option_map (λ (k : ℕ). k + 1)) at) ∙ sym (position_behind set keys some) ∙ ap (position (bytes_eq set)) is

-- the set with a number that isn't zero
pub set_behind : (keys slice sets : List Label) (place n : ℕ) (x : Label) → bottom ∷ keys ≡ sets → slice ≡ keys → 1 ≤ n → place ≡ n - 1 → place < length slice → x ≡ get_or slice place x → x ≡ set_at sets n
set_behind keys slice sets place n x is same some at lt read =
    let next : suc place ≡ n = omega (arith, some, at) in
    read ∙ get_or_default slice place x [] lt ∙ ap (λ (l : List Label). get_or l place []) same ∙ ap (λ (k : ℕ). set_at (bottom ∷ keys) k) next ∙ ap (λ (l : List Label). set_at l n) is

-- the set with number 0
pub set_zero : (keys sets : List Label) (n : ℕ) → bottom ∷ keys ≡ sets → (1 ≤ n → ⊥) → [] ≡ set_at sets n
set_zero keys sets n is none = elim (cases_lt 0 n) as (λ _. [] ≡ set_at sets n) [
  | inl lt ↦ absurd (none (omega (arith, lt)))
  | inr le ↦ let zero_is : 0 ≡ n = omega (arith, le) in ap (λ (k : ℕ). set_at (bottom ∷ keys) k) zero_is ∙ ap (λ (l : List Label). set_at l n) is
]

-- ---- numbers

-- distinct sets have distinct numbers
pub distinct_numbers : (sets : List Label) → IsDistinct bytes_eq sets → AreDistinct sets
distinct_numbers sets d m n lt below same = elim (cases_order m n) as (λ _. m ≡ n) [
  | inl e ↦ e
  | inr apart ↦ elim apart as (λ _. m ≡ n) [
    | inl less ↦ absurd (false≢true (sym (apart_from_distinct bytes_eq sets m n [] d less below) ∙ (bytes_eq-Decides (get_or sets m []) (get_or sets n [])).1 same))
    | inr more ↦ absurd (false≢true (sym (apart_from_distinct bytes_eq sets n m [] d more lt) ∙ (bytes_eq-Decides (get_or sets n []) (get_or sets m [])).1 (sym same)))
  ]
]

-- a set that was found at a number is the set with that number
pub found_set : (set : Label) (sets : List Label) (n : ℕ) → position (bytes_eq set) sets ≡ Some n → (n < length sets) × (set_at sets n ≡ set)
found_set set sets n e = let at = position-Some (bytes_eq set) sets n [] e in (at.0, sym ((bytes_eq-Decides set (get_or sets n [])).0 at.1))

-- a set that was not found has no number
pub missing_set : (set : Label) (sets : List Label) → position (bytes_eq set) sets ≡ None → (n : ℕ) → n < length sets → set_at sets n ≡ set → ⊥
missing_set set sets e n lt same =
    let there : list_any (bytes_eq set) sets ≡ true = list_any_at (bytes_eq set) sets n [] lt ((bytes_eq-Decides set (get_or sets n [])).1 (sym same)) in
    let at = position_or_len (bytes_eq set) sets in
    none-some at (sym e ∙ cond-true (nat_lt at (length sets)) (Some at) None (lt-ltb at (length sets) (first_there (bytes_eq set) sets [] there).0))
