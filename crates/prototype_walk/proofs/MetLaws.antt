-- The keys that were met, as an ordered set and as a list.
use Rattle.std.proofs.Common.{◌≡◌, ℕ, Bool, true, false, ◌||◌, List, [], ◌∷◌, ◌++◌, refl, sym, ap, ap₂, ◌∙◌}
use Rattle.std.specs.Ordering.{is_eq, match_ordering, nat_cmp}
use Rattle.std.specs.declared.cmp.Ordering.{Ordering}
use Rattle.std.specs.declared.cmp.Ordering.TheVariants.{Less, Equal, Greater}
use Rattle.std.specs.Cmp.Lexicographic.{bytes_decides, slice_cmp, texts_ties}
use Rattle.std.specs.List.{list_any}
use Rattle.std.specs.BTreeMap.{is_at}
use Rattle.std.specs.BTreeSet.{insert_key}
use Rattle.std.proofs.lemmas.Bool.{true≢false}
use Rattle.std.proofs.lemmas.List.Folds.{list_any-append}
use Rattle.origin_labels.specs.Names.{same_name, has_name}

same_turn : (a b : List ℕ) (s t : Bool) → same_name a b ≡ s → same_name b a ≡ t → s ≡ t
same_turn a b true true e f = refl
same_turn a b false false e f = refl
same_turn a b true false e f = absurd (true≢false (sym ((bytes_decides b a).1 (sym ((bytes_decides a b).0 e))) ∙ f))
same_turn a b false true e f = absurd (true≢false (sym ((bytes_decides a b).1 (sym ((bytes_decides b a).0 f))) ∙ e))

same_name-turn : (a b : List ℕ) → same_name a b ≡ same_name b a
same_name-turn a b = same_turn a b _ _ refl refl

-- the set has a key where the list of its keys has it
pub set_has : (key : List ℕ) (keys : List (List ℕ)) → list_any (is_at (slice_cmp nat_cmp key)) keys ≡ has_name key keys
unfolding has_name
set_has key [] = refl
set_has key (k ∷ keys) = ap₂ (λ s t. s || t) (sym (texts_ties key k) ∙ same_name-turn key k) (set_has key keys)

pub has_append : (key : List ℕ) (xs ys : List (List ℕ)) → has_name key (xs ++ ys) ≡ (has_name key xs || has_name key ys)
unfolding has_name
has_append key xs ys = list_any-append (λ other. same_name other key) xs ys

pub has_first : (key k : List ℕ) (keys : List (List ℕ)) → has_name key (k ∷ keys) ≡ (same_name k key || has_name key keys)
unfolding has_name
has_first key k keys = refl

or_swap : (a b c : Bool) → (a || (b || c)) ≡ (b || (a || c))
or_swap true true c = refl
or_swap true false c = refl
or_swap false true c = refl
or_swap false false c = refl

or_same : (a c : Bool) → (a || c) ≡ (a || (a || c))
or_same true c = refl
or_same false c = refl

-- one key more in the set
inserted_at : (key k x : List ℕ) (keys : List (List ℕ)) (o : Ordering) → slice_cmp nat_cmp k x ≡ o → has_name key (insert_key (slice_cmp nat_cmp) keys k) ≡ (same_name k key || has_name key keys)
    → has_name key (match_ordering o (k ∷ x ∷ keys) (x ∷ keys) (x ∷ insert_key (slice_cmp nat_cmp) keys k)) ≡ (same_name k key || has_name key (x ∷ keys))
inserted_at key k x keys Less is rest = has_first key k (x ∷ keys)
inserted_at key k x keys Equal is rest =
    let same : k ≡ x = (bytes_decides k x).0 (texts_ties k x ∙ ap is_eq is) in
    has_first key x keys
    ∙ or_same (same_name x key) (has_name key keys)
    ∙ ap₂ (λ s t. s || t) (ap (λ y. same_name y key) (sym same)) (sym (has_first key x keys))
inserted_at key k x keys Greater is rest =
    has_first key x (insert_key (slice_cmp nat_cmp) keys k)
    ∙ ap (λ t. same_name x key || t) rest
    ∙ or_swap (same_name x key) (same_name k key) (has_name key keys)
    ∙ ap (λ t. same_name k key || t) (sym (has_first key x keys))

pub set_more : (key k : List ℕ) (keys : List (List ℕ)) → has_name key (insert_key (slice_cmp nat_cmp) keys k) ≡ (same_name k key || has_name key keys)
set_more key k [] = has_first key k []
set_more key k (x ∷ keys) = inserted_at key k x keys (slice_cmp nat_cmp k x) refl (set_more key k keys)

or_assoc : (a b c : Bool) → ((a || b) || c) ≡ (b || (a || c))
or_assoc true true c = refl
or_assoc true false c = refl
or_assoc false true c = refl
or_assoc false false c = refl

-- a key of an object is met
pub meets_key : (key k : List ℕ) (old new rest : List (List ℕ)) → new ≡ insert_key (slice_cmp nat_cmp) old k → has_name key (new ++ rest) ≡ has_name key (old ++ k ∷ rest)
meets_key key k old new rest is =
    ap (λ ks. has_name key (ks ++ rest)) is
    ∙ has_append key (insert_key (slice_cmp nat_cmp) old k) rest
    ∙ ap (λ s. s || has_name key rest) (set_more key k old)
    ∙ or_assoc (same_name k key) (has_name key old) (has_name key rest)
    ∙ ap (λ t. has_name key old || t) (sym (has_first key k rest))
    ∙ sym (has_append key old (k ∷ rest))
