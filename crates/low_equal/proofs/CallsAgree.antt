-- Calls in two runs.
use Rattle.std.proofs.Common.{◌≡◌, ℕ, suc, pos, ◌+◌, ◌<◌, List, [], ◌∷◌, ◌++◌, length, map, Bool, true, false, refl, sym, ◌∙◌, ap, ap₂, subst, arith}
use Rattle.std.proofs.lemmas.Option.{same_Some}
use Rattle.origin_labels.specs.Label.{Label, union}
use Rattle.flow_policy.specs.Policies.{Tables}
use Rattle.flow_frames.specs.declared.kind.Kind.TheVariants as kind
use Rattle.flow_frames.specs.Frames.{Frame, context}
use Rattle.flow_frames.specs.Changes.{pushed}
use Rattle.js_number.specs.declared.num.Num.TheVariants.{Int}
use Rattle.js_number.specs.declared.primitive.Primitive.TheVariants.{Num}
use Rattle.native_protocol.specs.declared.request.ErrorKind.TheVariants as kinds
use Rattle.js_values.specs.declared.ids.EnvId.{EnvId}
use Rattle.js_values.specs.declared.value.Value.{Value}
use Rattle.js_values.specs.declared.value.Value.TheVariants as value
use Rattle.js_values.specs.Objects.{Object}
use Rattle.js_ast.specs.Trees.{Function, body_of}
use Rattle.js_ast.specs.Functions.{FunctionCode}
use Rattle.es_meaning.specs.BuiltIns.{BuiltIns}
use Rattle.es_meaning.specs.Holders.{constructs_in}
use Rattle.es_meaning.specs.Outcomes.{Outcome, ret, and_then, ◌>>=◌}
use Rattle.es_meaning.specs.Operations.{Value as a_value}
use Rattle.es_meaning.specs.Environments.{called_env}
use Rattle.es_meaning.specs.Declared.{declared_functions}
use Rattle.es_meaning.specs.Naming.{names_in_statements}
use Rattle.es_meaning.specs.Functions.{function_objects, objects_of, references_of, behind_functions, Callee, of_script, made_if, entry_record}
use Rattle.es_meaning.specs.Start.{id, start_heap}
use Rattle.es_meaning.specs.Plain.{undefined, choose}
use Rattle.es_meaning.proofs.Link.{Rels, nils, conses}
use Rattle.flow_meaning.specs.Erased.{labelled_by, labelled_values, made_objects, unlabelled}
use Rattle.flow_meaning.specs.Scopes.{Val, joined, Came, Left, Halt, State, Jump, L, pushed_on, popped, scope, given_by, given_back, settled_value, answer, construction}
use Rattle.flow_meaning.specs.Requested.{Aim, arguments_object}
use Rattle.flow_meaning.specs.Tracked.{throw_error, with_call, Enters, in_call, entered, called_value, call_by, call_aimed, call_value, prototype_of, with_fresh, constructed, construct_built_in, construct_by, construct_aimed, construct_value}
use Rattle.low_equal.specs.Observed.{Sees, IsSeen}
use Rattle.low_equal.specs.LowEqual.{Pairing, Extends, Alike, seen, hidden, SameValue, primitives, objects, within, Agree, LowEqual}
use Rattle.low_equal.specs.Runs.{InStep, go, jump, apart, first_ends, second_ends, Lockstep}
use Rattle.low_equal.specs.Laws.{Nothing}
use Rattle.low_equal.proofs.Labels.{sees_bottom, sees_union, hides_second}
use Rattle.low_equal.proofs.Views.{length_pushed, seen_pushed}
use Rattle.low_equal.proofs.Agreement.{extends_refl, value_more, agree_more, agree_joined}
use Rattle.low_equal.proofs.Arguments.{arguments_news}
use Rattle.low_equal.proofs.Aims.{AimsAgree, aims_agree, this_agrees, rels_behind}
use Rattle.low_equal.proofs.Calls.{EntersConfined, EntersInStep, CalleesAgree, no_calls, empties, one_built_in, one_function, callees_agree, callees_more, entry_both, conf_entered, mum_call_aimed, mum_call_value, conf_constructed, conf_construct_built_in, mum_construct_aimed, mum_construct_value}
use Rattle.low_equal.proofs.Constructions.{prototypes_agree, fresh_both, constructions_agree}
use Rattle.low_equal.proofs.Entries.{record_below, record_both}
use Rattle.low_equal.proofs.Heaps.{with_objects, extends_objects, with_pair, pair_old, pair_new, start_stands}
use Rattle.low_equal.proofs.Makes.{with_pairs, pairs_old, pairs_new, News, AgreeAt, news_both, agree_at, agree_all, function_news, scopes_more}
use Rattle.low_equal.proofs.Mute.{values_apart, lock_hidden}
use Rattle.low_equal.proofs.References.{undefined_agree}
use Rattle.low_equal.proofs.States.{low_sym, low_seen, same_frames, same_context}
use Rattle.low_equal.proofs.Steps.{CameAgree, both_ended, both_caught, LeftAgree, conf_ret, lock_ret, lock_bind, lock_scope, step_more, fits_more, pushed_seen, popped_after, then_after}
use Rattle.low_equal.proofs.Acts.{thrown_both, thrown_at, lock_throw}

-- how many objects functions are
abbrev pub count : List Function → ℕ
count [] = 0
count (f ∷ fs) = suc (suc (count fs))

behind_is : (o : ℕ) (fs : List Function) → behind_functions o fs ≡ o + count fs
unfolding behind_functions
behind_is o [] = omega arith
behind_is o (f ∷ fs) = let e = behind_is (suc (suc o)) fs in omega arith

counts : (functions : List FunctionCode) (l : Label) (o place : ℕ) (fs : List Function) (ps : List (Object Label)) → length (made_objects l (objects_of functions o place fs) ++ ps) ≡ count fs + length ps
unfolding objects_of function_objects
counts functions l o place [] ps = omega arith
counts functions l o place (f ∷ fs) ps = let e = counts functions l (suc (suc o)) place fs ps in ap (λ n. suc (suc n)) e ∙ omega arith

module _ (observer : Label) (δ : Pairing) where
  -- pairs of numbers from two on
  abbrev Row : ℕ → ℕ → ℕ → Type 0
  Row o q n = (k : ℕ) → k < n → δ.objects (o + k) (q + k) ≡ true

  row_first : (o q n : ℕ) → Row o q (suc n) → δ.objects o q ≡ true
  row_first o q n h = let e : o + 0 ≡ o = omega arith in let d : q + 0 ≡ q = omega arith in subst (λ i. δ.objects i q ≡ true) e (subst (λ j. δ.objects (o + 0) j ≡ true) d (h 0 (omega arith)))

  row_next : (o q n : ℕ) → Row o q (suc n) → Row (suc o) (suc q) n
  row_next o q n h k l = let e : o + suc k ≡ suc o + k = omega arith in let d : q + suc k ≡ suc q + k = omega arith in subst (λ i. δ.objects i (suc q + k) ≡ true) e (subst (λ j. δ.objects (o + suc k) j ≡ true) d (h (suc k) (omega arith)))

  functions_news : (functions : List FunctionCode) (fs : List Function) (o q i j : ℕ) (l : Label) {ps qs : List (Object Label)} → Sees observer l → Row o q (count fs) → δ.records i j ≡ true → ((n : ℕ) → n < length start_heap → δ.objects n n ≡ true) → 9 < o → 9 < q
      → News observer δ (behind_functions o fs) (behind_functions q fs) ps qs → News observer δ o q (made_objects l (objects_of functions o i fs) ++ ps) (made_objects l (objects_of functions q j fs) ++ qs)
  unfolding objects_of behind_functions function_objects
  functions_news functions [] o q i j l v h r z a b more = more
  functions_news functions (f ∷ fs) o q i j l {ps} {qs} v h r z a b more =
      function_news observer functions o q i j f l (made_objects l (objects_of functions (suc (suc o)) i fs) ++ ps) (made_objects l (objects_of functions (suc (suc q)) j fs) ++ qs) v (row_first o q (suc (count fs)) h) (row_first (suc o) (suc q) (count fs) (row_next o q (suc (count fs)) h)) r z a b
      (functions_news functions fs (suc (suc o)) (suc (suc q)) i j l v (row_next (suc o) (suc q) (count fs) (row_next o q (suc (count fs)) h)) r z (omega arith) (omega arith) more)

  references_lists : (fs : List Function) (o q : ℕ) (l : Label) → Sees observer l → Row o q (count fs) → Rels (Agree observer δ) (labelled_values l (references_of o fs)) (labelled_values l (references_of q fs))
  unfolding references_of
  references_lists [] o q l v h = nils
  references_lists (f ∷ fs) o q l v h = conses (seen v refl (objects (row_first o q (suc (count fs)) h))) (references_lists fs (suc (suc o)) (suc (suc q)) l v (row_next (suc o) (suc q) (count fs) (row_next o q (suc (count fs)) h)))

module _ (observer : Label) (tables : Tables) where
  came_agree : {γ : Pairing} {c d : Came Val} → CameAgree observer tables (Agree observer) γ c d → Agree observer γ (given_by a_value c) (given_by a_value d)
  came_agree (both_ended p) = p
  came_agree (both_caught q) = undefined_agree observer tables

  pub settled_agree : {γ : Pairing} (c d : Left Val) → LeftAgree observer tables (Agree observer) γ c d → Agree observer γ (settled_value c) (settled_value d)
  settled_agree c d (hidden a b) = hidden (hides_second observer (given_by a_value c.how).label c.label a) (hides_second observer (given_by a_value d.how).label d.label b)
  settled_agree c d (seen a e x) = agree_joined observer (seen a e tt) (came_agree x)

  -- what is settled of two scopes in step
  pub lock_settled : {β : Pairing} {m n : L (Left Val)} → Lockstep observer tables (LeftAgree observer tables (Agree observer)) β m n
      → Lockstep observer tables (Agree observer) β (m >>= λ c. ret (settled_value c)) (n >>= λ c. ret (settled_value c))
  lock_settled l = lock_bind observer tables (LeftAgree observer tables (Agree observer)) (Agree observer) (λ c. ret (settled_value c)) (λ c. ret (settled_value c)) l
      (λ c. conf_ret observer tables (settled_value c)) (λ c. conf_ret observer tables (settled_value c)) (λ γ e c d z. lock_ret observer tables (Agree observer) γ (λ δ k. agree_more observer k (settled_agree c d z)))

module _ (observer : Label) (tables : Tables) (functions : List FunctionCode) where
  lists_joined : {δ : Pairing} (l : Label) {vs us : List Val} → Sees observer l → Rels (Agree observer δ) vs us → Rels (Agree observer δ) (map (joined l) vs) (map (joined l) us)
  lists_joined l v nils = nils
  lists_joined l v (conses a r) = conses (agree_joined observer (seen v refl tt) a) (lists_joined l v r)

  lists_more : {β γ : Pairing} {vs us : List Val} → Extends β γ → Rels (Agree observer β) vs us → Rels (Agree observer γ) vs us
  lists_more e nils = nils
  lists_more e (conses a r) = conses (agree_more observer e a) (lists_more e r)

  -- the objects of a call in its record, with a label in the place of the context
  abbrev begun_with : ℕ → ℕ → ℕ → Function → List Val → Label → List (Object Label)
  begun_with number o i f args l = made_objects l (objects_of functions o i (declared_functions (body_of f))) ++ made_if (names_in_statements (body_of f)) (arguments_object number i args l)

  -- and the call
  abbrev begun : ℕ → Function → ℕ → Val → List Val → Label → State → State
  begun number f place this args l s = record s {
    heap = s.heap ++ begun_with number (length s.heap) (length s.records) f args l;
    records = s.records ++ entry_record f place (record {
      this = this;
      function = unlabelled (value.Primitive (Num (Int (pos number))));
      args = map (joined l) args;
      missing = labelled_by l undefined;
      functions = labelled_values l (references_of (length s.heap) (declared_functions (body_of f)));
      arguments = labelled_by l (value.Object (id (behind_functions (length s.heap) (declared_functions (body_of f)))));
    }) ∷ [];
  }

  -- with the pairs of its objects and records
  abbrev paired_by : Pairing → State → State → ℕ → Pairing
  paired_by γ s t n = record { objects = with_pairs γ.objects (length s.heap) (length t.heap) n; records = with_pair γ.records (length s.records) (length t.records) }

  extends_by : (γ : Pairing) (s t : State) (n : ℕ) → Extends γ (paired_by γ s t n)
  extends_by γ s t n = record { objects = λ i j p. pairs_old γ.objects (length s.heap) (length t.heap) n i j p; records = λ i j p. pair_old γ.records (length s.records) (length t.records) i j p }

  -- how many objects there are for `arguments`
  abbrev one_if : Bool → ℕ
  one_if true = 1
  one_if false = 0

  made_count : (b : Bool) (p : Object Label) → length (made_if b p) ≡ one_if b
  made_count true p = refl
  made_count false p = refl

  begun_count : (number o i : ℕ) (f : Function) (args : List Val) (l : Label) → length (begun_with number o i f args l) ≡ count (declared_functions (body_of f)) + one_if (names_in_statements (body_of f))
  begun_count number o i f args l = counts functions l o i (declared_functions (body_of f)) (made_if (names_in_statements (body_of f)) (arguments_object number i args l)) ∙ ap (λ n. count (declared_functions (body_of f)) + n) (made_count (names_in_statements (body_of f)) (arguments_object number i args l))

  below_one : (b : Bool) (n : ℕ) → b ≡ true → n < n + one_if b
  below_one b n e = subst (λ x. n < n + one_if x) (sym e) (omega arith)

  begun_both : {γ : Pairing} (number : ℕ) (f : Function) (i j : ℕ) {this that : Val} {vs us : List Val} (l : Label) (s t : State) → Sees observer l → γ.records i j ≡ true → Agree observer γ this that → Rels (Agree observer γ) vs us → LowEqual observer tables γ s t
      → (n : ℕ) → n ≡ count (declared_functions (body_of f)) + one_if (names_in_statements (body_of f)) → LowEqual observer tables (paired_by γ s t n) (begun number f i this vs l s) (begun number f j that us l t)
  begun_both {γ} number f i j {this} {that} {vs} {us} l s t v p a c r n e =
      let fs = declared_functions (body_of f) in
      let b = names_in_statements (body_of f) in
      let δ = paired_by γ s t n in
      let more = extends_by γ s t n in
      let o = length s.heap in
      let q = length t.heap in
      let m = count fs in
      let n_is : n ≡ count fs + one_if b = e in
      let rows : (k : ℕ) → k < n → δ.objects (o + k) (q + k) ≡ true = λ k h. pairs_new γ.objects o q n k h in
      let functions_in : (k : ℕ) → k < m → δ.objects (o + k) (q + k) ≡ true = λ k h. rows k (omega arith) in
      let place : δ.records (length s.records) (length t.records) ≡ true = pair_new γ.records (length s.records) (length t.records) in
      let left = start_stands observer r.heap 9 (omega arith) in
      let right = start_stands observer (low_sym observer tables r).heap 9 (omega arith) in
      let starts : (i : ℕ) → i < length start_heap → δ.objects i i ≡ true = λ i z. more.objects i i (r.heap.starts i z) in
      let x = behind_is o fs in
      let y = behind_is q fs in
      let made = functions_news observer δ functions fs o q (length s.records) (length t.records) l v functions_in place starts left right
      (arguments_news observer tables δ b number (length s.records) (length t.records) (behind_functions o fs) (behind_functions q fs) l v place starts (omega arith) (omega arith) (lists_more more c)) in
      let stand = record_below observer r.records p in
      record {
        some = r.some;
        counts = r.counts;
        frames = r.frames;
        positions = r.positions;
        lines = r.lines;
        heap = agree_all observer (subst (λ k. AgreeAt observer δ (with_pairs γ.objects o q k) (s.heap ++ begun_with number o (length s.records) f vs l) (t.heap ++ begun_with number q (length t.records) f us l))
            (begun_count number o (length s.records) f vs l ∙ sym e) (news_both observer refl refl made (agree_at observer more r.heap)));
        records = record_both observer {β = record { objects = δ.objects; records = γ.records }} _ _
            (λ z w. subst (λ (k : EnvId). k.0 < length s.records) (same_Some _ z w) stand.0) (λ z w. subst (λ (k : EnvId). k.0 < length t.records) (same_Some _ z w) stand.1)
            (record {
              outer = within (more.records _ _ p);
              bindings = entry_both observer δ f (record {
                this = agree_more observer more a;
                function = seen (sees_bottom observer) refl primitives;
                args = lists_joined l v (lists_more more c);
                missing = seen v refl primitives;
                functions = references_lists observer δ fs o q l v functions_in;
                arguments = λ z. seen v refl (objects (subst (λ k. δ.objects k (behind_functions q fs) ≡ true) (sym x) (subst (λ k. δ.objects (o + m) k ≡ true) (sym y) (rows m (subst (λ k. m < k) (sym e) (below_one b m z))))));
              });
            })
            (scopes_more observer δ.objects (λ k h z. pairs_old γ.objects o q n k h z) r.records);
      }

  -- ---- what two calls give

  given_agree : {γ : Pairing} {c d : Came (Unit {0})} → CameAgree observer tables Nothing γ c d → Agree observer γ (given_back c) (given_back d)
  given_agree (both_ended p) = undefined_agree observer tables
  given_agree (both_caught q) = q.value

  answers_agree : {γ : Pairing} (c d : Left (Unit {0})) → LeftAgree observer tables Nothing γ c d → Agree observer γ (answer c) (answer d)
  answers_agree c d (hidden a b) = hidden (hides_second observer (given_back c.how).label c.label a) (hides_second observer (given_back d.how).label d.label b)
  answers_agree c d (seen a e x) = agree_joined observer (seen a e tt) (given_agree x)

  -- ---- two calls

  module _ {E D : Enters} (ce : EntersConfined observer tables E) (cd : EntersConfined observer tables D) (in_step : EntersInStep observer tables E D) where
    script_after : {γ : Pairing} (number : ℕ) (f : Function) (i j : ℕ) (label that_label : Label) {this that : Val} {vs us : List Val} (depth : ℕ) (s t : State) → γ.records i j ≡ true → Agree observer γ this that → Rels (Agree observer γ) vs us → LowEqual observer tables γ s t → IsSeen observer s
        → InStep observer tables Nothing γ (entered functions (of_script number f i) label this vs E depth s) (entered functions (of_script number f j) that_label that us D depth t)
    unfolding entered with_call
    script_after {γ} number f i j label that_label {this} {that} {vs} {us} depth s t p a c r w =
        let n = count (declared_functions (body_of f)) + one_if (names_in_statements (body_of f)) in
        let δ = paired_by γ s t n in
        let place : δ.records (length s.records) (length t.records) ≡ true = pair_new γ.records (length s.records) (length t.records) in
        subst (λ l. InStep observer tables Nothing γ (in_call E f (length s.records) depth (begun number f i this vs (context s.frames) s)) (in_call D f (length t.records) depth (begun number f j that us l t))) (same_context observer tables r w)
        (step_more observer tables Nothing (extends_by γ s t n)
        ((in_step.body δ (body_of f) (called_env (length s.records) depth) (called_env (length t.records) depth) (record { place = place; call = refl; around = refl })).steps δ (extends_refl δ)
        (begun number f i this vs (context s.frames) s) (begun number f j that us (context s.frames) t) (begun_both number f i j (context s.frames) s t w p a c r n refl) w))

    entered_after : {γ : Pairing} {c d : Callee} (label that_label : Label) {this that : Val} {vs us : List Val} (depth : ℕ) (s t : State) → CalleesAgree γ c d → Alike observer label that_label (Unit {0}) → Agree observer γ this that → Rels (Agree observer γ) vs us → LowEqual observer tables γ s t → IsSeen observer s
        → InStep observer tables Nothing γ (entered functions c label this vs E depth s) (entered functions d that_label that us D depth t)
    unfolding entered
    entered_after label that_label depth s t no_calls l a c r w = thrown_both observer tables Nothing kinds.TypeError s t l r w
    entered_after {γ} label that_label depth s t empties l a c r w = go γ (extends_refl γ) r w tt
    entered_after label that_label depth s t one_built_in l a c r w = thrown_both observer tables Nothing kinds.TypeError s t l r w
    entered_after label that_label depth s t (one_function {number = number} {f = f} {i = i} {j = j} p) l a c r w = script_after number f i j label that_label depth s t p a c r w

    -- in frames of one kind
    lock_by_script : {β : Pairing} {c d : Callee} {l m : Label} {this that : Val} {vs us : List Val} → CalleesAgree β c d → Alike observer l m (Unit {0}) → Agree observer β this that → Rels (Agree observer β) vs us
        → Lockstep observer tables (Agree observer) β (scope kind.Call l (λ depth. entered functions c l this vs E depth) >>= λ x. ret (answer x)) (scope kind.Call m (λ depth. entered functions d m that us D depth) >>= λ x. ret (answer x))
    lock_by_script {c = c} {d = d} {l = l} {m = m} {this = this} {that = that} {vs = vs} {us = us} q a b z =
        lock_bind observer tables (LeftAgree observer tables Nothing) (Agree observer) (λ x. ret (answer x)) (λ x. ret (answer x))
        (lock_scope observer tables Nothing kind.Call a (λ n. conf_entered observer tables functions ce c l this vs n) (λ n. conf_entered observer tables functions cd d m that us n)
        (λ p n. record { steps = λ γ e s t r w. entered_after l m n s t (callees_more e q) a (agree_more observer e b) (lists_more e z) r w }))
        (λ x. conf_ret observer tables (answer x)) (λ x. conf_ret observer tables (answer x))
        (λ γ e x y k. lock_ret observer tables (Agree observer) γ (λ δ i. agree_more observer i (answers_agree x y k)))

    called_agree : {β : Pairing} {l m : Label} {o q : ℕ} → Sees observer l → l ≡ m → β.objects o q ≡ true → Agree observer β (called_value l o) (called_value m q)
    called_agree s e p = seen s e (objects p)

    -- callees that agree, under one label that is seen
    lock_call_by : {β : Pairing} {c d : Callee} (l m : Label) (o q : ℕ) {this that : Val} {vs us : List Val} → CalleesAgree β c d → Sees observer l → l ≡ m → β.objects o q ≡ true → Agree observer β this that → Rels (Agree observer β) vs us
        → Lockstep observer tables (Agree observer) β (call_by functions c l o this vs E) (call_by functions d m q that us D)
    unfolding call_by
    lock_call_by l m o q no_calls s e p b z = lock_by_script no_calls (seen s e tt) b z
    lock_call_by l m o q empties s e p b z = lock_by_script empties (seen s e tt) b z
    lock_call_by l m o q (one_function k) s e p b z = lock_by_script (one_function k) (seen s e tt) b z
    lock_call_by {β} l m o q {this} {that} {vs} {us} (one_built_in {which = which}) s e p b z =
        lock_settled observer tables (lock_scope observer tables (Agree observer) kind.Native (seen s e tt) (λ n. ce.built_in which false (this ∷ called_value l o ∷ vs)) (λ n. cd.built_in which false (that ∷ called_value m q ∷ us))
        (λ v n. in_step.built_in β which false _ _ (conses b (conses (called_agree s e p) z))))

    aimed_after : {γ : Pairing} (l m : Label) {a b : Aim} {this that : Val} {vs us : List Val} (s t : State) → Sees observer l → l ≡ m → AimsAgree observer γ a b → Agree observer γ this that → Rels (Agree observer γ) vs us → LowEqual observer tables γ s t → IsSeen observer s
        → InStep observer tables (Agree observer) γ (call_aimed functions l a this vs E s) (call_aimed functions m b that us D t)
    unfolding call_aimed
    aimed_after l m {a} {b} {this} {that} {vs} {us} s t v e (hidden c d) k z r w =
        values_apart observer tables r w ((mum_call_aimed observer tables functions ce l a this vs (hides_second observer l a.label c)).mute s w) ((mum_call_aimed observer tables functions cd m b that us (hides_second observer m b.label d)).mute t (low_seen observer tables r w))
    aimed_after {γ} l m {a} {b} s t v e (seen c i x) k z r w =
        (lock_call_by (union l a.label) (union m b.label) a.target.function b.target.function (callees_agree observer γ functions r.heap x.function) (sees_union observer l a.label v c) (ap₂ union e i) x.function (this_agrees observer x.this k) (rels_behind observer x.args z)).steps γ (extends_refl γ) s t r w

    value_after : {γ : Pairing} (l m : Label) {f g : Value} {this that : Val} {vs us : List Val} (s t : State) → Sees observer l → l ≡ m → SameValue γ f g → Agree observer γ this that → Rels (Agree observer γ) vs us → LowEqual observer tables γ s t → IsSeen observer s
        → InStep observer tables (Agree observer) γ (call_value functions l f this vs E s) (call_value functions m g that us D t)
    unfolding call_value
    value_after {γ} l m s t v e primitives k z r w = (lock_call_by l m 0 0 no_calls v e (r.heap.starts 0 (omega arith)) k z).steps γ (extends_refl γ) s t r w
    value_after {γ} l m s t v e (objects p) k z r w = aimed_after l m s t v e (aims_agree observer r.heap p) k z r w

    pub lock_call_value : {β : Pairing} {l m : Label} {f g : Value} {this that : Val} {vs us : List Val} → Alike observer l m (SameValue β f g) → Agree observer β this that → Rels (Agree observer β) vs us
        → Lockstep observer tables (Agree observer) β (call_value functions l f this vs E) (call_value functions m g that us D)
    lock_call_value {l = l} {m = m} {f = f} {g = g} {this = this} {that = that} {vs = vs} {us = us} (hidden h k) b z = lock_hidden observer tables (mum_call_value observer tables functions ce l f this vs h) (mum_call_value observer tables functions cd m g that us k)
    lock_call_value {l = l} {m = m} (seen v e x) b z = record { steps = λ γ i s t r w. value_after l m s t v e (value_more observer i x) (agree_more observer i b) (lists_more i z) r w }

    -- ---- `new`

    step_by : {X : Type 0} (P Q : Pairing → X → X → Type 0) {γ : Pairing} {o p : Outcome Halt Jump X State} → ((δ : Pairing) → Extends γ δ → (a b : X) → P δ a b → Q δ a b) → InStep observer tables P γ o p → InStep observer tables Q γ o p
    step_by P Q h (go {a = a} {b = b} δ e r v p) = go δ e r v (h δ e a b p)
    step_by P Q h (jump δ e r v p) = jump δ e r v p
    step_by P Q h (apart δ e r v a b) = apart δ e r v a b
    step_by P Q h (first_ends f) = first_ends f
    step_by P Q h (second_ends f) = second_ends f

    constructed_after : {γ : Pairing} {c d : Callee} (l m : Label) (o q : ℕ) {vs us : List Val} (depth : ℕ) (s t : State) → CalleesAgree γ c d → Sees observer l → l ≡ m → γ.objects o q ≡ true → Rels (Agree observer γ) vs us → LowEqual observer tables γ s t → IsSeen observer s
        → InStep observer tables Nothing (with_objects γ (length s.heap) (length t.heap)) (constructed functions c l o vs E depth s) (constructed functions d m q us D depth t)
    unfolding constructed
    constructed_after l m o q depth s t no_calls v e p c r w = thrown_at observer tables Nothing kinds.TypeError s t v e r w
    constructed_after l m o q depth s t empties v e p c r w = thrown_at observer tables Nothing kinds.TypeError s t v e r w
    constructed_after l m o q depth s t one_built_in v e p c r w = thrown_at observer tables Nothing kinds.TypeError s t v e r w
    constructed_after {γ} l m o q depth s t (one_function {number = number} {f = code} {i = i} {j = j} k) v e p c r w =
        entered_after l m depth (with_fresh (prototype_of s.heap o) s) (with_fresh (prototype_of t.heap q) t) (one_function k) (seen v e tt)
        (seen (sees_bottom observer) refl (objects (pair_new γ.objects (length s.heap) (length t.heap)))) (lists_more (extends_objects γ (length s.heap) (length t.heap)) c)
        (fresh_both observer tables s t (prototypes_agree observer tables r.heap p) r w) w

    -- what is left of two scopes
    abbrev Made : State → State → Pairing → Left (Unit {0}) → Left (Unit {0}) → Type 0
    Made s t γ x y = Agree observer γ (construction (length s.heap) x) (construction (length t.heap) y)

    scopes_built : {γ : Pairing} {c d : Callee} (l m : Label) (o q : ℕ) {vs us : List Val} (s t : State) → CalleesAgree γ c d → Sees observer l → l ≡ m → γ.objects o q ≡ true → Rels (Agree observer γ) vs us → LowEqual observer tables γ s t → IsSeen observer s
        → InStep observer tables (Made s t) γ (popped (length s.frames) (constructed functions c l o vs E (length s.frames) (pushed_on kind.Call l s))) (popped (length s.frames) (constructed functions d m q us D (length s.frames) (pushed_on kind.Call m t)))
    scopes_built {γ} {c} {d} l m o q {vs} {us} s t k a e p z r w =
        let n = length s.frames in
        let is : length s.frames ≡ length t.frames = ap (λ (fs : List Frame). length fs) (same_frames observer tables r w) in
        let x = length_pushed s.frames (pushed kind.Call l) in
        let y = length_pushed t.frames (pushed kind.Call m) in
        let i = length s.heap in
        let j = length t.heap in
        let low = subst (λ b. LowEqual observer tables γ (pushed_on kind.Call l s) (pushed_on kind.Call b t)) e (pushed_seen observer tables kind.Call l r w) in
        step_more observer tables (Made s t) (extends_objects γ i j)
        (step_by (LeftAgree observer tables Nothing) (Made s t) (λ δ h u v b. constructions_agree observer tables i j u v (h.objects _ _ (pair_new γ.objects i j)) b)
        (popped_after observer tables Nothing n r.some
        (fits_more observer tables (length (pushed_on kind.Call l s).frames) (suc n) (omega arith) _ ((conf_constructed observer tables functions ce c l o vs n).fits (pushed_on kind.Call l s)))
        (fits_more observer tables (length (pushed_on kind.Call m t).frames) (suc n) (omega arith) _ ((conf_constructed observer tables functions cd d m q us n).fits (pushed_on kind.Call m t)))
        (constructed_after l m o q n (pushed_on kind.Call l s) (pushed_on kind.Call m t) k a e p z low (seen_pushed observer s.frames (pushed kind.Call l) w a))))

    module _ (set : BuiltIns) where
      built_after : {γ : Pairing} {c d : Callee} (l m : Label) (o q : ℕ) {vs us : List Val} (s t : State) → CalleesAgree γ c d → Sees observer l → l ≡ m → γ.objects o q ≡ true → Rels (Agree observer γ) vs us → LowEqual observer tables γ s t → IsSeen observer s
          → InStep observer tables (Agree observer) γ (and_then (popped (length s.frames) (constructed functions c l o vs E (length s.frames) (pushed_on kind.Call l s))) (λ x. ret (construction (length s.heap) x)))
          (and_then (popped (length t.frames) (constructed functions d m q us D (length t.frames) (pushed_on kind.Call m t))) (λ x. ret (construction (length t.heap) x)))
      built_after {γ} {c} {d} l m o q {vs} {us} s t k a e p z r w =
          subst (λ n. InStep observer tables (Agree observer) γ (and_then (popped (length s.frames) (constructed functions c l o vs E (length s.frames) (pushed_on kind.Call l s))) (λ x. ret (construction (length s.heap) x)))
          (and_then (popped n (constructed functions d m q us D n (pushed_on kind.Call m t))) (λ x. ret (construction (length t.heap) x))))
          (ap (λ (fs : List Frame). length fs) (same_frames observer tables r w))
          (then_after observer tables (Made s t) (Agree observer) (λ x. ret (construction (length s.heap) x)) (λ x. ret (construction (length t.heap) x)) (λ x. conf_ret observer tables _) (λ x. conf_ret observer tables _)
          (scopes_built l m o q s t k a e p z r w) (λ δ h x y b. lock_ret observer tables (Agree observer) δ (λ ε i. agree_more observer i b)))

      lock_built_in : {β : Pairing} (which : ℕ) (l m : Label) (o q : ℕ) {vs us : List Val} → Sees observer l → l ≡ m → β.objects o q ≡ true → Rels (Agree observer β) vs us
          → Lockstep observer tables (Agree observer) β (construct_built_in set which l o vs E) (construct_built_in set which m q us D)
      unfolding construct_built_in
      lock_built_in {β} which l m o q {vs} {us} v e p z = by_form (constructs_in set which)
        where
          by_form : (b : Bool) → Lockstep observer tables (Agree observer) β (choose b (E.built_in which true (unlabelled undefined ∷ called_value l o ∷ vs)) (throw_error kinds.TypeError l)) (choose b (D.built_in which true (unlabelled undefined ∷ called_value m q ∷ us)) (throw_error kinds.TypeError m))
          by_form true = in_step.built_in β which true _ _ (conses (undefined_agree observer tables) (conses (called_agree v e p) z))
          by_form false = lock_throw observer tables (Agree observer) kinds.TypeError (seen v e tt)

      construct_after : {γ : Pairing} {c d : Callee} (l m : Label) (o q : ℕ) {vs us : List Val} (s t : State) → CalleesAgree γ c d → Sees observer l → l ≡ m → γ.objects o q ≡ true → Rels (Agree observer γ) vs us → LowEqual observer tables γ s t → IsSeen observer s
          → InStep observer tables (Agree observer) γ (construct_by set functions c l o vs E s) (construct_by set functions d m q us D t)
      unfolding construct_by
      construct_after l m o q s t no_calls a e p z r w = built_after l m o q s t no_calls a e p z r w
      construct_after l m o q s t empties a e p z r w = built_after l m o q s t empties a e p z r w
      construct_after l m o q s t (one_function k) a e p z r w = built_after l m o q s t (one_function k) a e p z r w
      construct_after {γ} l m o q {vs} {us} s t (one_built_in {which = which}) a e p z r w =
          (lock_settled observer tables (lock_scope observer tables (Agree observer) kind.Native (seen a e tt) (λ n. conf_construct_built_in observer tables functions ce set which l o vs) (λ n. conf_construct_built_in observer tables functions cd set which m q us)
          (λ v n. lock_built_in which l m o q a e p z))).steps γ (extends_refl γ) s t r w

      aimed_built : {γ : Pairing} (l m : Label) {a b : Aim} {vs us : List Val} (s t : State) → Sees observer l → l ≡ m → AimsAgree observer γ a b → Rels (Agree observer γ) vs us → LowEqual observer tables γ s t → IsSeen observer s
          → InStep observer tables (Agree observer) γ (construct_aimed set functions l a vs E s) (construct_aimed set functions m b us D t)
      unfolding construct_aimed
      aimed_built l m {a} {b} {vs} {us} s t v e (hidden c d) z r w =
          values_apart observer tables r w ((mum_construct_aimed observer tables functions ce set l a vs (hides_second observer l a.label c)).mute s w) ((mum_construct_aimed observer tables functions cd set m b us (hides_second observer m b.label d)).mute t (low_seen observer tables r w))
      aimed_built {γ} l m {a} {b} s t v e (seen c i x) z r w =
          construct_after (union l a.label) (union m b.label) a.target.function b.target.function s t (callees_agree observer γ functions r.heap x.function) (sees_union observer l a.label v c) (ap₂ union e i) x.function (rels_behind observer x.args z) r w

      value_built : {γ : Pairing} (l m : Label) {f g : Value} {vs us : List Val} (s t : State) → Sees observer l → l ≡ m → SameValue γ f g → Rels (Agree observer γ) vs us → LowEqual observer tables γ s t → IsSeen observer s
          → InStep observer tables (Agree observer) γ (construct_value set functions l f vs E s) (construct_value set functions m g us D t)
      unfolding construct_value
      value_built l m s t v e primitives z r w = construct_after l m 0 0 s t no_calls v e (r.heap.starts 0 (omega arith)) z r w
      value_built {γ} l m s t v e (objects p) z r w = aimed_built l m s t v e (aims_agree observer r.heap p) z r w

      pub lock_construct_value : {β : Pairing} {l m : Label} {f g : Value} {vs us : List Val} → Alike observer l m (SameValue β f g) → Rels (Agree observer β) vs us
          → Lockstep observer tables (Agree observer) β (construct_value set functions l f vs E) (construct_value set functions m g us D)
      lock_construct_value {l = l} {m = m} {f = f} {g = g} {vs = vs} {us = us} (hidden h k) z = lock_hidden observer tables (mum_construct_value observer tables functions ce set l f vs h) (mum_construct_value observer tables functions cd set m g us k)
      lock_construct_value {l = l} {m = m} (seen v e x) z = record { steps = λ γ i s t r w. value_built l m s t v e (value_more observer i x) (lists_more i z) r w }
