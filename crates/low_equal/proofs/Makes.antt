-- Several objects more, which may hold references to each other: on one side, and pairs of them; and a function is made.
use Rattle.std.proofs.Common.{◌≡◌, ℕ, zero, suc, ◌+◌, ◌<◌, Bool, List, [], ◌∷◌, ◌++◌, length, Option, Some, None, true, false, slice_get, codes, ⊎_elim, refl, sym, ◌∙◌, ap, subst, arith}
use Rattle.std.proofs.lemmas.Option.{same_Some}
use Rattle.origin_labels.specs.Label.{Label}
use Rattle.flow_policy.specs.Policies.{Tables}
use Rattle.js_values.specs.declared.property.Body.TheVariants.{Accessor}
use Rattle.js_values.specs.declared.property.Slot.{Slot}
use Rattle.js_values.specs.Objects.{Rows, Object}
use Rattle.es_meaning.specs.Start.{start_heap, fixed, function_rows, caller_accessor, arguments_accessor}
use Rattle.flow_frames.specs.Frames.{context}
use Rattle.js_values.specs.declared.ids.ObjId.{ObjId}
use Rattle.js_values.specs.declared.ids.EnvId.{EnvId}
use Rattle.js_values.specs.declared.value.Value.TheVariants as value
use Rattle.js_values.specs.Records.{Record}
use Rattle.js_ast.specs.Trees.{Ident, Function, name_of}
use Rattle.js_ast.specs.Functions.{FunctionCode}
use Rattle.es_meaning.specs.Outcomes.{Outcome, Goes}
use Rattle.es_meaning.specs.Start.{id}
use Rattle.es_meaning.specs.Functions.{env_id, function_objects, closes_over, own_name}
use Rattle.flow_meaning.specs.Erased.{labelled_by, made_rows, made_objects, unlabelled}
use Rattle.flow_meaning.specs.Scopes.{Val, Halt, State, Jump}
use Rattle.flow_meaning.specs.Tracked.{make_function}
use Rattle.low_equal.specs.Observed.{Sees, IsSeen}
use Rattle.low_equal.specs.LowEqual.{Pairing, IsOneToOne, Extends, seen, primitives, objects, both, within, Agree, data_bodies, accessors, RowsAgree, no_rows, row, scripts, plains, seen_shape, ObjectsAgree, bindings, no_bindings, Both, AreDistinct, no_keys, one_more, nowhere, IsFormed, FormedAt, HeapsAgree, ScopesAgree, LowEqual}
use Rattle.low_equal.specs.Runs.{Confined, InStep, go, Lockstep}
use Rattle.low_equal.proofs.Labels.{sees_bottom}
use Rattle.low_equal.proofs.Agreement.{objects_more, records_more, both_map, two, both_by}
use Rattle.low_equal.proofs.Rows.{own_absent}
use Rattle.low_equal.proofs.Entries.{with_records, record_left, record_below, record_both}
use Rattle.low_equal.proofs.Lines.{front_refl}
use Rattle.low_equal.proofs.States.{low_sym, same_context}
use Rattle.low_equal.proofs.Steps.{still_goes}
use Rattle.low_equal.proofs.Heaps.{get_new, get_old, get_below, with_pair, pair_old, pair_new, pair_cases, pair_unique, formed_more, formed_new, new_left, start_stands}

-- with so many pairs more
abbrev pub with_pairs : (ℕ → ℕ → Bool) → ℕ → ℕ → ℕ → ℕ → ℕ → Bool
with_pairs pairs a b zero = pairs
with_pairs pairs a b (suc n) = with_pairs (with_pair pairs a b) (suc a) (suc b) n

pub pairs_old : (pairs : ℕ → ℕ → Bool) (a b n i j : ℕ) → pairs i j ≡ true → with_pairs pairs a b n i j ≡ true
pairs_old pairs a b zero i j p = p
pairs_old pairs a b (suc n) i j p = pairs_old (with_pair pairs a b) (suc a) (suc b) n i j (pair_old pairs a b i j p)

pub pairs_new : (pairs : ℕ → ℕ → Bool) (a b n k : ℕ) → k < n → with_pairs pairs a b n (a + k) (b + k) ≡ true
pairs_new pairs a b zero k l = absurd (omega arith)
pairs_new pairs a b (suc n) zero l = pairs_old (with_pair pairs a b) (suc a) (suc b) n (a + 0) (b + 0)
    (let e : a + 0 ≡ a = omega arith in let d : b + 0 ≡ b = omega arith in subst (λ i. with_pair pairs a b i (b + 0) ≡ true) (sym e) (subst (λ j. with_pair pairs a b a j ≡ true) (sym d) (pair_new pairs a b)))
pairs_new pairs a b (suc n) (suc k) l =
    let e : suc a + k ≡ a + suc k = omega arith in let d : suc b + k ≡ b + suc k = omega arith in
    subst (λ i. with_pairs pairs a b (suc n) i (b + suc k) ≡ true) e (subst (λ j. with_pairs pairs a b (suc n) (suc a + k) j ≡ true) d (pairs_new (with_pair pairs a b) (suc a) (suc b) n k (omega arith)))

module _ (observer : Label) where
  -- objects more on one side
  pub news_left : {β : Pairing} {h g : List (Object Label)} (ps : List (Object Label)) → HeapsAgree observer β h g → HeapsAgree observer β (h ++ ps) g
  news_left {β} {h} {g} [] r = subst (λ (x : List (Object Label)). HeapsAgree observer β x g) (sym (behind_none h)) r
    where
      behind_none : (xs : List (Object Label)) → xs ++ [] ≡ xs
      behind_none [] = refl
      behind_none (x ∷ xs) = ap (λ (ys : List (Object Label)). x ∷ ys) (behind_none xs)
  news_left {β} {h} {g} (p ∷ ps) r = subst (λ (x : List (Object Label)). HeapsAgree observer β x g) (in_turn h) (news_left ps (new_left observer p r))
    where
      in_turn : (xs : List (Object Label)) → (xs ++ p ∷ []) ++ ps ≡ xs ++ p ∷ ps
      in_turn [] = refl
      in_turn (x ∷ xs) = ap (λ (ys : List (Object Label)). x ∷ ys) (in_turn xs)

  -- heaps that agree at some pairs, by more
  pub record AgreeAt (γ : Pairing) (pairs : ℕ → ℕ → Bool) (h g : List (Object Label)) : Type 0 where
    pub starts : (o : ℕ) → o < length start_heap → pairs o o ≡ true
    pub paired : (o q : ℕ) → pairs o q ≡ true → Both (ObjectsAgree observer γ) (slice_get h o) (slice_get g q)
    pub one_to_one : IsOneToOne pairs
    pub left : (o q : ℕ) → pairs o q ≡ true → FormedAt observer h o
    pub right : (o q : ℕ) → pairs o q ≡ true → FormedAt observer g q

  -- objects from two numbers on that agree by such pairs
  pub data News (γ : Pairing) : ℕ → ℕ → List (Object Label) → List (Object Label) → Type 0 where
    no_news : {a b : ℕ} → News γ a b [] []
    news : {a b : ℕ} {p q : Object Label} {ps qs : List (Object Label)} → IsFormed observer a p → IsFormed observer b q → ObjectsAgree observer γ p q → News γ (suc a) (suc b) ps qs → News γ a b (p ∷ ps) (q ∷ qs)

  pub agree_at : {β γ : Pairing} {h g : List (Object Label)} → Extends β γ → HeapsAgree observer β h g → AgreeAt γ β.objects h g
  agree_at e r = record { starts = r.starts; paired = λ o q p. both_map (λ a b x. objects_more observer e x) (r.paired o q p); one_to_one = r.one_to_one; left = r.left; right = r.right }

  pub agree_all : {γ : Pairing} {h g : List (Object Label)} → AgreeAt γ γ.objects h g → HeapsAgree observer γ h g
  agree_all r = record { starts = r.starts; paired = r.paired; one_to_one = r.one_to_one; left = r.left; right = r.right }

  -- one pair more
  next_both : {γ : Pairing} {pairs : ℕ → ℕ → Bool} {h g : List (Object Label)} (p q : Object Label) → IsFormed observer (length h) p → IsFormed observer (length g) q → ObjectsAgree observer γ p q → AgreeAt γ pairs h g
      → AgreeAt γ (with_pair pairs (length h) (length g)) (h ++ p ∷ []) (g ++ q ∷ [])
  next_both {γ} {pairs} {h} {g} p q k l a r = record {
    starts = λ o b. pair_old pairs (length h) (length g) o o (r.starts o b);
    paired = λ o n x. ⊎_elim
        (λ e. both_by (ObjectsAgree observer γ) (ap (slice_get (h ++ p ∷ [])) e.0 ∙ get_new h p) (ap (slice_get (g ++ q ∷ [])) e.1 ∙ get_new g q) a)
        (λ e. let t = two (r.paired o n e) in both_by (ObjectsAgree observer γ) (get_old h p t.one o t.is_one) (get_old g q t.other n t.is_other) t.related)
        (pair_cases pairs (length h) (length g) o n x);
    one_to_one = pair_unique pairs (length h) (length g) r.one_to_one (λ i j x. let t = two (r.paired i j x) in let a = get_below h t.one i t.is_one in let b = get_below g t.other j t.is_other in (λ e. absurd (omega arith), λ e. absurd (omega arith)));
    left = λ o n x. ⊎_elim (λ e. formed_new observer h p o e.0 k) (λ e. let t = two (r.paired o n e) in formed_more observer h p t.one o t.is_one (r.left o n e)) (pair_cases pairs (length h) (length g) o n x);
    right = λ o n x. ⊎_elim (λ e. formed_new observer g q n e.1 l) (λ e. let t = two (r.paired o n e) in formed_more observer g q t.other n t.is_other (r.right o n e)) (pair_cases pairs (length h) (length g) o n x);
  }

  -- and several
  pub news_both : {γ : Pairing} {pairs : ℕ → ℕ → Bool} {h g : List (Object Label)} {a b : ℕ} {ps qs : List (Object Label)} → a ≡ length h → b ≡ length g → News γ a b ps qs → AgreeAt γ pairs h g → AgreeAt γ (with_pairs pairs a b (length ps)) (h ++ ps) (g ++ qs)
  news_both {γ} {pairs} {h} {g} x y no_news r = subst (λ (z : List (Object Label)). AgreeAt γ pairs z (g ++ [])) (sym (behind_none h)) (subst (AgreeAt γ pairs h) (sym (behind_none g)) r)
    where
      behind_none : (xs : List (Object Label)) → xs ++ [] ≡ xs
      behind_none [] = refl
      behind_none (z ∷ xs) = ap (λ (ys : List (Object Label)). z ∷ ys) (behind_none xs)
  news_both {γ} {pairs} {h} {g} {a} {b} x y (news {p = p} {q = q} {ps = ps} {qs = qs} k l m more) r =
      subst (λ (z : List (Object Label)). AgreeAt γ (with_pairs (with_pair pairs a b) (suc a) (suc b) (length ps)) z (g ++ q ∷ qs)) (in_turn p ps h) (subst (AgreeAt γ (with_pairs (with_pair pairs a b) (suc a) (suc b) (length ps)) ((h ++ p ∷ []) ++ ps)) (in_turn q qs g)
      (news_both {γ = γ} {pairs = with_pair pairs a b} {h = h ++ p ∷ []} {g = g ++ q ∷ []} {a = suc a} {b = suc b} (ap suc x ∙ sym (longer h p)) (ap suc y ∙ sym (longer g q)) more
      (subst (λ i. AgreeAt γ (with_pair pairs i b) (h ++ p ∷ []) (g ++ q ∷ [])) (sym x) (subst (λ j. AgreeAt γ (with_pair pairs (length h) j) (h ++ p ∷ []) (g ++ q ∷ [])) (sym y)
      (next_both p q (subst (λ i. IsFormed observer i p) x k) (subst (λ j. IsFormed observer j q) y l) m r)))))
    where
      in_turn : (o : Object Label) (os xs : List (Object Label)) → (xs ++ o ∷ []) ++ os ≡ xs ++ o ∷ os
      in_turn o os [] = refl
      in_turn o os (z ∷ xs) = ap (λ (ys : List (Object Label)). z ∷ ys) (in_turn o os xs)

      longer : (xs : List (Object Label)) (o : Object Label) → length (xs ++ o ∷ []) ≡ suc (length xs)
      longer [] o = refl
      longer (z ∷ xs) o = ap suc (longer xs o)

  -- ---- the objects of a function

  -- an accessor of the start objects, which is its own getter and setter
  pub accessor_row : {γ : Pairing} (name : List ℕ) (o : ObjId) (l : Label) {rs qs : Rows (Slot Label)} → Sees observer l → γ.objects o.0 o.0 ≡ true → RowsAgree observer γ rs qs
      → RowsAgree observer γ ((name, record { body = Accessor (Some o) (Some o); label = l; existence = l; marks = fixed }) ∷ rs) ((name, record { body = Accessor (Some o) (Some o); label = l; existence = l; marks = fixed }) ∷ qs)
  accessor_row name o l v p r = row (seen v refl (refl, accessors (seen v refl (both p, both p)))) r

  -- the properties that each function has behind its own
  pub function_rows_agree : {γ : Pairing} (l : Label) → Sees observer l → ((o : ℕ) → o < length start_heap → γ.objects o o ≡ true) → RowsAgree observer γ (made_rows l function_rows) (made_rows l function_rows)
  function_rows_agree l v starts = accessor_row (codes "caller") caller_accessor l v (starts caller_accessor.0 (omega arith)) (accessor_row (codes "arguments") arguments_accessor l v (starts arguments_accessor.0 (omega arith)) no_rows)

  function_distinct : (l : Label) (a b : Slot Label) → AreDistinct ((codes "length", a) ∷ (codes "prototype", b) ∷ made_rows l function_rows)
  function_distinct l a b = one_more (own_absent (codes "length") _ refl) (one_more (own_absent (codes "prototype") _ refl) (one_more (own_absent (codes "caller") _ refl) (one_more nowhere no_keys)))

  pub function_news : {γ : Pairing} (functions : List FunctionCode) (o q place other : ℕ) (f : Function) (l : Label) (ps qs : List (Object Label)) → Sees observer l → γ.objects o q ≡ true → γ.objects (suc o) (suc q) ≡ true → γ.records place other ≡ true
      → ((n : ℕ) → n < length start_heap → γ.objects n n ≡ true) → 9 < o → 9 < q → News γ (suc (suc o)) (suc (suc q)) ps qs
      → News γ o q (made_objects l (function_objects functions o place f) ++ ps) (made_objects l (function_objects functions q other f) ++ qs)
  unfolding function_objects
  function_news functions o q place other f l ps qs v first second r starts h k more =
      news
      (record { below = λ x i e. subst (λ (y : ObjId). y.0 < o) (same_Some _ i e) h; target = tt; distinct = function_distinct l _ _ })
      (record { below = λ x i e. subst (λ (y : ObjId). y.0 < q) (same_Some _ i e) k; target = tt; distinct = function_distinct l _ _ })
      (record {
        class = refl;
        inner = scripts r;
        links = seen v refl (both (starts 9 (omega arith)));
        shapes = seen_shape v refl refl (row (seen v refl (refl, data_bodies (seen v refl primitives))) (row (seen v refl (refl, data_bodies (seen v refl (objects second)))) (function_rows_agree l v starts)));
      })
      (news
      (record { below = λ x i e. subst (λ (y : ObjId). y.0 < suc o) (same_Some _ i e) (omega arith); target = tt; distinct = one_more nowhere no_keys })
      (record { below = λ x i e. subst (λ (y : ObjId). y.0 < suc q) (same_Some _ i e) (omega arith); target = tt; distinct = one_more nowhere no_keys })
      (record {
        class = refl;
        inner = plains;
        links = seen v refl (both (starts 0 (omega arith)));
        shapes = seen_shape v refl refl (row (seen v refl (refl, data_bodies (seen v refl (objects first)))) no_rows);
      }) more)

  -- records agree by more pairs of objects
  pub scopes_more : {β : Pairing} {rs qs : List (Record Val)} (pairs : ℕ → ℕ → Bool) → ((i j : ℕ) → β.objects i j ≡ true → pairs i j ≡ true) → ScopesAgree observer β rs qs → ScopesAgree observer (record { objects = pairs; records = β.records }) rs qs
  scopes_more pairs h r = record {
    paired = λ i j p. both_map (λ a b x. records_more observer (record { objects = h; records = λ k n e. e }) x) (r.paired i j p);
    one_to_one = r.one_to_one;
    left = r.left;
    right = r.right;
  }

  records_behind : (xs : List (Record Val)) → xs ++ [] ≡ xs
  records_behind [] = refl
  records_behind (z ∷ xs) = ap (λ (ys : List (Record Val)). z ∷ ys) (records_behind xs)

  -- a record for the name of a function, on one side
  names_left : {β : Pairing} {rs qs : List (Record Val)} (o : Option Ident) (place : ℕ) (v : Val) → ScopesAgree observer β rs qs → ScopesAgree observer β (rs ++ own_name o place v) qs
  names_left {β} {rs} {qs} None place v r = subst (λ x. ScopesAgree observer β x qs) (sym (records_behind rs)) r
  names_left (Some ident) place v r = record_left observer (record { outer = Some (env_id place); bindings = record { name = ident.text; mutable = false; value = v } ∷ [] }) r

module _ (observer : Label) (tables : Tables) where
  pub conf_function : (functions : List FunctionCode) (f : Function) (place : ℕ) → Confined observer tables (make_function functions f place)
  unfolding make_function
  conf_function functions f place = record {
    still = λ s p. still_goes observer tables _ (record {
      looks = λ β u r. record { some = r.some; counts = r.counts; frames = r.frames; heap = news_left observer _ r.heap; records = names_left observer (name_of f) place _ r.records; positions = r.positions; lines = r.lines };
      frames = refl;
    }) refl refl;
    fits = λ s. omega arith;
    adds = λ s. front_refl s.lines;
  }

  -- what is made, with a name or none and with a label
  abbrev made : List FunctionCode → Option Ident → Function → ℕ → Label → State → Outcome Halt Jump Val State
  made functions o f place l s = Goes (unlabelled (value.Object (id (length s.heap)))) (record s {
    heap = s.heap ++ made_objects l (function_objects functions (length s.heap) (closes_over o place (length s.records)) f);
    records = s.records ++ own_name o place (labelled_by l (value.Object (id (length s.heap))));
  })

  -- the pairs of what is made
  abbrev pairs_made : Pairing → State → State → ℕ → ℕ → Bool
  pairs_made γ s t = with_pairs γ.objects (length s.heap) (length t.heap) 2

  kept_made : (γ : Pairing) (s t : State) (i j : ℕ) → γ.objects i j ≡ true → pairs_made γ s t i j ≡ true
  kept_made γ s t i j p = pairs_old γ.objects (length s.heap) (length t.heap) 2 i j p

  first_made : (γ : Pairing) (s t : State) → pairs_made γ s t (length s.heap) (length t.heap) ≡ true
  first_made γ s t = pair_old (with_pair γ.objects (length s.heap) (length t.heap)) (suc (length s.heap)) (suc (length t.heap)) (length s.heap) (length t.heap) (pair_new γ.objects (length s.heap) (length t.heap))

  second_made : (γ : Pairing) (s t : State) → pairs_made γ s t (suc (length s.heap)) (suc (length t.heap)) ≡ true
  second_made γ s t = pair_new (with_pair γ.objects (length s.heap) (length t.heap)) (suc (length s.heap)) (suc (length t.heap))

  -- the heaps, where the function closes over paired records
  heaps_made : {γ : Pairing} (functions : List FunctionCode) (f : Function) (l : Label) (s t : State) (records : ℕ → ℕ → Bool) (i j : ℕ) → Sees observer l → ((a b : ℕ) → γ.records a b ≡ true → records a b ≡ true) → records i j ≡ true → LowEqual observer tables γ s t
      → HeapsAgree observer (record { objects = pairs_made γ s t; records = records }) (s.heap ++ made_objects l (function_objects functions (length s.heap) i f)) (t.heap ++ made_objects l (function_objects functions (length t.heap) j f))
  unfolding function_objects
  heaps_made {γ} functions f l s t records i j v h p r =
      agree_all observer (news_both observer refl refl
      (function_news observer functions (length s.heap) (length t.heap) i j f l [] [] v (first_made γ s t) (second_made γ s t) p (λ n lt. kept_made γ s t n n (r.heap.starts n lt))
      (start_stands observer r.heap 9 (omega arith)) (start_stands observer (low_sym observer tables r).heap 9 (omega arith)) (no_news))
      (agree_at observer (record { objects = kept_made γ s t; records = h }) r.heap))

  made_after : {γ : Pairing} (functions : List FunctionCode) (o : Option Ident) (f : Function) (l : Label) (i j : ℕ) (s t : State) → Sees observer l → γ.records i j ≡ true → LowEqual observer tables γ s t → IsSeen observer s
      → InStep observer tables (Agree observer) γ (made functions o f i l s) (made functions o f j l t)
  made_after {γ} functions None f l i j s t v p r w =
      let δ : Pairing = record { objects = pairs_made γ s t; records = γ.records } in
      go δ (record { objects = kept_made γ s t; records = λ a b e. e })
      (record {
        some = r.some;
        counts = r.counts;
        frames = r.frames;
        positions = r.positions;
        lines = r.lines;
        heap = heaps_made functions f l s t γ.records i j v (λ a b e. e) p r;
        records = subst (λ x. ScopesAgree observer δ x (t.records ++ [])) (sym (records_behind observer s.records)) (subst (ScopesAgree observer δ s.records) (sym (records_behind observer t.records)) (scopes_more observer (pairs_made γ s t) (kept_made γ s t) r.records));
      }) w (seen (sees_bottom observer) refl (objects (first_made γ s t)))
  made_after {γ} functions (Some ident) f l i j s t v p r w =
      let β : Pairing = record { objects = pairs_made γ s t; records = γ.records } in
      let δ : Pairing = with_records β (length s.records) (length t.records) in
      let n = record_below observer r.records p in
      let old : (a b : ℕ) → γ.records a b ≡ true → δ.records a b ≡ true = λ a b e. pair_old γ.records (length s.records) (length t.records) a b e in
      go δ (record { objects = kept_made γ s t; records = old })
      (record {
        some = r.some;
        counts = r.counts;
        frames = r.frames;
        positions = r.positions;
        lines = r.lines;
        heap = heaps_made functions f l s t δ.records (length s.records) (length t.records) v old (pair_new γ.records (length s.records) (length t.records)) r;
        records = record_both observer {β = β} _ _ (λ e q. subst (λ (x : EnvId). x.0 < length s.records) (same_Some _ e q) n.0) (λ e q. subst (λ (x : EnvId). x.0 < length t.records) (same_Some _ e q) n.1)
            (record { outer = within (old _ _ p); bindings = bindings (seen v refl (objects (first_made γ s t))) no_bindings }) (scopes_more observer (pairs_made γ s t) (kept_made γ s t) r.records);
      }) w (seen (sees_bottom observer) refl (objects (first_made γ s t)))

  pub lock_function : {β : Pairing} (functions : List FunctionCode) (f : Function) (i j : ℕ) → β.records i j ≡ true → Lockstep observer tables (Agree observer) β (make_function functions f i) (make_function functions f j)
  unfolding make_function
  lock_function functions f i j p = record {
    steps = λ γ e s t r w. subst (λ l. InStep observer tables (Agree observer) γ (made functions (name_of f) f i (context s.frames) s) (made functions (name_of f) f j l t)) (same_context observer tables r w)
        (made_after functions (name_of f) f (context s.frames) i j s t w (e.records _ _ p) r w);
  }
