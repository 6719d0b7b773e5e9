-- The first input channel on which inputs differ.
use Rattle.std.proofs.Common.{arith, refl, sym, ap, ◌∙◌, subst, inl, inr, ◌≡◌, ◌↔◌, ◌<◌, ℕ, Bool, true, false, cond, nat_lt, lt-ltb, not, ◌&&◌, List, length, get_or, Option, Some, None}
use Rattle.std.specs.List.{slice_get, position, position_or_len, range_with_len}
use Rattle.std.proofs.lemmas.Bool.{cond-true, cond-false, cases_Bool, le-ltb, ltb-false, and_left, and_right, and_from, not_from_true, not_from_false}
use Rattle.std.proofs.lemmas.List.FromFn.{length-range_with_len, get_or-range_with_len}
use Rattle.std.proofs.lemmas.List.Sums.{position_or_len_is, fails_before_first}
use Rattle.std.proofs.lemmas.Option.{slice_get_within, slice_get_read}
use Rattle.std.proofs.lemmas.Slice.Eq.{slice_eq-Decides, bytes_eq-Decides}
use Rattle.origin_labels.specs.Label.{Label, sees}
use Rattle.flow_policy.specs.declared.policy.Channel.{Channel}
use Rattle.flow_policy.specs.Policies.{Tables}
use Rattle.flow_policy.specs.Inputs.{Given, given_on}
use Rattle.flow_policy.specs.Observed.{Agree, sees_channel, same_lines, differ_at, first_disagreement}

-- ---- the first number that passes

range_at : (n k : ℕ) → k < n → get_or (range_with_len 0 n) k 0 ≡ k
range_at n k lt = let at = get_or-range_with_len 0 n k 0 lt in omega arith

-- the first of the numbers below n that passes stands at its own place
range_first : (p : ℕ → Bool) (n i : ℕ) → i < n → ((k : ℕ) → k < i → p k ≡ false) → p i ≡ true → position p (range_with_len 0 n) ≡ Some i
range_first p n i lt before here =
    let len = length-range_with_len 0 n in
    let at : position_or_len p (range_with_len 0 n) ≡ i = position_or_len_is p (range_with_len 0 n) i 0 (omega arith)
    (λ k below. subst (λ (j : ℕ). p j ≡ false) (sym (range_at n k (omega arith))) (before k below))
    (λ _. subst (λ (j : ℕ). p j ≡ true) (sym (range_at n i lt)) here) in
    cond-true (nat_lt (position_or_len p (range_with_len 0 n)) (length (range_with_len 0 n))) (Some (position_or_len p (range_with_len 0 n))) None (lt-ltb (position_or_len p (range_with_len 0 n)) (length (range_with_len 0 n)) (omega arith))
    ∙ ap (λ (j : ℕ). Some j) at

range_none : (p : ℕ → Bool) (n : ℕ) → ((k : ℕ) → k < n → p k ≡ false) → position p (range_with_len 0 n) ≡ None
range_none p n none =
    let len = length-range_with_len 0 n in
    let at : position_or_len p (range_with_len 0 n) ≡ n = position_or_len_is p (range_with_len 0 n) n 0 (omega arith)
    (λ k below. subst (λ (j : ℕ). p j ≡ false) (sym (range_at n k below)) (none k below))
    (λ past. absurd (omega arith)) in
    cond-false (nat_lt (position_or_len p (range_with_len 0 n)) (length (range_with_len 0 n))) (Some (position_or_len p (range_with_len 0 n))) None (le-ltb (position_or_len p (range_with_len 0 n)) (length (range_with_len 0 n)) (omega arith))

cond_none : (b : Bool) (x : ℕ) → cond b (Some x) None ≡ None → b ≡ false
cond_none true x e = absurd cc
cond_none false x e = refl

range_fails : (p : ℕ → Bool) (n k : ℕ) → position p (range_with_len 0 n) ≡ None → k < n → p k ≡ false
range_fails p n k e lt =
    let len = length-range_with_len 0 n in
    let le = ltb-false (position_or_len p (range_with_len 0 n)) (length (range_with_len 0 n)) (cond_none (nat_lt (position_or_len p (range_with_len 0 n)) (length (range_with_len 0 n))) (position_or_len p (range_with_len 0 n)) e) in
    subst (λ (j : ℕ). p j ≡ false) (range_at n k lt) (fails_before_first p (range_with_len 0 n) k 0 (omega arith))

-- ---- inputs that differ

pub disagree_first : (observer : Label) (tables : Tables) (first second : Given) (i : ℕ) → i < length tables.inputs → ((k : ℕ) → k < i → differ_at observer tables first second k ≡ false) → differ_at observer tables first second i ≡ true
    → first_disagreement observer tables first second ≡ Some i
unfolding first_disagreement
disagree_first observer tables first second i lt before here = range_first (differ_at observer tables first second) (length tables.inputs) i lt before here

pub disagree_none : (observer : Label) (tables : Tables) (first second : Given) → ((k : ℕ) → k < length tables.inputs → differ_at observer tables first second k ≡ false) → first_disagreement observer tables first second ≡ None
unfolding first_disagreement
disagree_none observer tables first second none = range_none (differ_at observer tables first second) (length tables.inputs) none

-- whether the observer sees a channel that is there
pub sees_at : (observer : Label) (tables : Tables) (i : ℕ) (channel : Channel) → slice_get tables.inputs i ≡ Some channel → sees_channel observer (slice_get tables.inputs i) ≡ sees observer channel.label
unfolding sees_channel
sees_at observer tables i channel e = ap (sees_channel observer) e

-- what the test is at a channel that is there
differ_is : (observer : Label) (tables : Tables) (first second : Given) (i : ℕ) (channels : List Channel) (channel : Channel) → channels ≡ tables.inputs → i < length channels → channel ≡ get_or channels i channel
    → differ_at observer tables first second i ≡ (sees observer channel.label && not (same_lines (given_on first i) (given_on second i)))
differ_is observer tables first second i channels channel e lt at =
    ap (λ (b : Bool). b && not (same_lines (given_on first i) (given_on second i)))
    (sees_at observer tables i channel (subst (λ (cs : List Channel). slice_get cs i ≡ Some channel) e (slice_get_read channels (length channels) i channel refl lt at)))

pub differ_yes : (observer : Label) (tables : Tables) (first second : Given) (i : ℕ) (channels : List Channel) (channel : Channel) → channels ≡ tables.inputs → i < length channels → channel ≡ get_or channels i channel
    → sees observer channel.label ≡ true → same_lines (given_on first i) (given_on second i) ≡ false → differ_at observer tables first second i ≡ true
differ_yes observer tables first second i channels channel e lt at seen apart =
    differ_is observer tables first second i channels channel e lt at
    ∙ and_from (sees observer channel.label) (not (same_lines (given_on first i) (given_on second i))) seen (not_from_false (same_lines (given_on first i) (given_on second i)) apart)

pub differ_same : (observer : Label) (tables : Tables) (first second : Given) (i : ℕ) (channels : List Channel) (channel : Channel) → channels ≡ tables.inputs → i < length channels → channel ≡ get_or channels i channel
    → same_lines (given_on first i) (given_on second i) ≡ true → differ_at observer tables first second i ≡ false
differ_same observer tables first second i channels channel e lt at same =
    differ_is observer tables first second i channels channel e lt at
    ∙ and_right (sees observer channel.label) (not (same_lines (given_on first i) (given_on second i))) (not_from_true (same_lines (given_on first i) (given_on second i)) same)

pub differ_unseen : (observer : Label) (tables : Tables) (first second : Given) (i : ℕ) (channels : List Channel) (channel : Channel) → channels ≡ tables.inputs → i < length channels → channel ≡ get_or channels i channel
    → sees observer channel.label ≡ false → differ_at observer tables first second i ≡ false
differ_unseen observer tables first second i channels channel e lt at unseen =
    differ_is observer tables first second i channels channel e lt at ∙ and_left (sees observer channel.label) (not (same_lines (given_on first i) (given_on second i))) unseen

same_decides : (first second : List (List ℕ)) → (same_lines first second ≡ true → first ≡ second) × (first ≡ second → same_lines first second ≡ true)
same_decides first second = slice_eq-Decides bytes_eq-Decides first second (same_lines first second) refl

unseen : (observer : Label) (o : Option Channel) (first second : List (List ℕ)) → ((channel : Channel) → o ≡ Some channel → sees observer channel.label ≡ true → first ≡ second) → (sees_channel observer o && not (same_lines first second)) ≡ false
unfolding sees_channel
unseen observer None first second h = refl
unseen observer (Some channel) first second h = elim (cases_Bool (sees observer channel.label)) as (λ _. (sees observer channel.label && not (same_lines first second)) ≡ false) [
  | inl sure ↦ and_right (sees observer channel.label) (not (same_lines first second)) (not_from_true (same_lines first second) ((same_decides first second).1 (h channel refl sure)))
  | inr not_sure ↦ and_left (sees observer channel.label) (not (same_lines first second)) not_sure
]

seen_same : (a b : Bool) → (a && not b) ≡ false → a ≡ true → b ≡ true
seen_same true true e h = refl
seen_same true false e h = absurd cc
seen_same false b e h = absurd cc

-- no channel that the observer sees has other lines where the inputs agree, and only there
pub disagree_agree : (observer : Label) (tables : Tables) (first second : Given) (r : Option ℕ) → r ≡ first_disagreement observer tables first second → (r ≡ None) ↔ Agree observer tables first second
unfolding first_disagreement
disagree_agree observer tables first second r e = (
  λ none i channel at seen. (same_decides (given_on first i) (given_on second i)).0
      (seen_same (sees_channel observer (slice_get tables.inputs i)) (same_lines (given_on first i) (given_on second i))
      (range_fails (differ_at observer tables first second) (length tables.inputs) i (sym e ∙ none) (slice_get_within tables.inputs i channel at))
      (sees_at observer tables i channel at ∙ seen)),
  λ agree. e ∙ range_none (differ_at observer tables first second) (length tables.inputs) (λ k lt. unseen observer (slice_get tables.inputs k) (given_on first k) (given_on second k) (λ channel at seen. agree k channel at seen)),
)
