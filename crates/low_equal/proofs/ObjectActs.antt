-- Acts on values and objects that enter no function, literals, and the keys of a value: where the cause can't be seen, and in two runs.
use Rattle.std.proofs.Common.{◌≡◌, ℕ, zero, suc, ◌<◌, List, [], ◌∷◌, ◌++◌, map, length, Bool, true, false, cond, Option, Some, None, is_some, refl, sym, ◌∙◌, ap, ap₂, subst, true≢false, arith}
use Rattle.std.proofs.lemmas.Option.{none-some, same_Some}
use Rattle.origin_labels.specs.Names.{same_name}
use Rattle.origin_labels.specs.Label.{Label, bottom, union}
use Rattle.flow_policy.specs.Policies.{Tables}
use Rattle.flow_frames.specs.Frames.{context}
use Rattle.js_number.specs.declared.primitive.Primitive.{Primitive}
use Rattle.js_number.specs.declared.primitive.Primitive.TheVariants as prims
use Rattle.native_protocol.specs.declared.request.ErrorKind.TheVariants as kinds
use Rattle.js_values.specs.declared.ids.ObjId.{ObjId}
use Rattle.js_values.specs.declared.value.Value.{Value}
use Rattle.js_values.specs.declared.value.Value.TheVariants as value
use Rattle.js_values.specs.declared.property.Body.{Body}
use Rattle.js_values.specs.declared.property.Slot.{Slot}
use Rattle.js_values.specs.Arrays.{element_key}
use Rattle.js_values.specs.Objects.{Rows, Object, own, changed, with_row}
use Rattle.js_values.specs.Walks.{Found, find, object_chain}
use Rattle.prototype_walk.specs.KeyLists.{Keys}
use Rattle.es_meaning.specs.Outcomes.{Outcome, Goes, ◌>>=◌}
use Rattle.es_meaning.specs.Operations.{Part, as_value, as_getter, as_setter}
use Rattle.es_meaning.specs.Operators.{is_object}
use Rattle.es_meaning.specs.Objects.{defined_over, elements_onto}
use Rattle.es_meaning.specs.Definitions.{getter_in, setter_in}
use Rattle.es_meaning.specs.Primitives.{own_value_of}
use Rattle.es_meaning.specs.Start.{id, array_prototype}
use Rattle.es_meaning.specs.Plain.{key_text, is_coercible, is_found}
use Rattle.es_meaning.specs.Requested.{function_in, part_body}
use Rattle.es_meaning.proofs.Link.{Rels, nils, conses}
use Rattle.flow_meaning.specs.Erased.{unlabelled}
use Rattle.flow_meaning.specs.Scopes.{Val, Halt, State, Jump, L, raise}
use Rattle.flow_meaning.specs.Tracked.{throw_error, truth_of, make_object, make_array, needed, primitive_chain, has_of_primitive, has, argument, key_list, with_list}
use Rattle.flow_meaning.specs.Requested.{property_in, half_label, part_slot, with_parts, literal_object, data_slot, array_object}
use Rattle.low_equal.specs.Observed.{Sees, Hides, IsSeen}
use Rattle.low_equal.specs.LowEqual.{Pairing, Extends, Alike, seen, hidden, SameValue, primitives, objects, SameObject, neither, both, Agree, BodiesAgree, data_bodies, accessors, SlotsAgree, RowsAgree, no_rows, row, plains, AreDistinct, nowhere, no_keys, one_more, HeapsAgree, LowEqual}
use Rattle.low_equal.specs.Runs.{Confined, InStep, go, Lockstep}
use Rattle.low_equal.specs.Laws.{Nothing}
use Rattle.low_equal.proofs.Labels.{not_both, sees_union, hides_first, hides_second, sees_bottom}
use Rattle.low_equal.proofs.Agreement.{extends_refl, extends_trans, alike_map, alike_join, agree_more, records_more, both_map}
use Rattle.low_equal.proofs.Lines.{front_refl}
use Rattle.low_equal.proofs.Heaps.{with_objects, extends_objects, pair_new, new_left, start_stands}
use Rattle.low_equal.proofs.Rows as rows
use Rattle.low_equal.proofs.Rows.{own_absent, distinct_altered, distinct_with_row, own_agree, altered_both, with_row_both}
use Rattle.low_equal.proofs.Additions.{level_new}
use Rattle.low_equal.proofs.States.{low_sym, low_heap, same_context}
use Rattle.low_equal.proofs.Steps.{still_goes, conf_ret, conf_ends, conf_bind, lock_bind, ends_first, ends_second}
use Rattle.low_equal.proofs.Acts.{conf_throw, thrown_both, conf_raise, lock_raise}
use Rattle.low_equal.proofs.Walks.{found_there, level_from, prototype_same, level_there, level_keys}
use Rattle.low_equal.proofs.Mute.{Mum, HiddenVal, mum_ret, mum_at, mum_throw, values_apart}
use Rattle.low_equal.proofs.References.{conf_at, both_end, undefined_agree, seen_other}

-- ---- rows of a literal: each exists under a label that is seen

module _ (observer : Label) where
  data AreSeen : Rows (Slot Label) → Type 0 where
    no_more : AreSeen []
    one_seen : {key : List ℕ} {s : Slot Label} {rs : Rows (Slot Label)} → Sees observer s.existence → AreSeen rs → AreSeen ((key, s) ∷ rs)

  own_is_seen : (key : List ℕ) (s : Slot Label) {rs : Rows (Slot Label)} → AreSeen rs → own key rs ≡ Some s → Sees observer s.existence
  own_is_seen key s no_more e = absurd (none-some s e)
  own_is_seen key s (one_seen {key = j} {s = x} {rs = rs} v d) e = at_first (same_name j key) e (λ f. own_is_seen key s d f)
    where
      at_first : (b : Bool) → cond b (Some x) (own key rs) ≡ Some s → (own key rs ≡ Some s → Sees observer s.existence) → Sees observer s.existence
      at_first true f h = subst (λ (y : Slot Label). Sees observer y.existence) (same_Some x s f) v
      at_first false f h = h f

  seen_with_row : (key : List ℕ) (s : Slot Label) {rs : Rows (Slot Label)} → Sees observer s.existence → AreSeen rs → AreSeen (with_row key s rs)
  seen_with_row key s v no_more = one_seen v no_more
  seen_with_row key s v (one_seen u d) = one_seen u (seen_with_row key s v d)

  seen_changed : (key : List ℕ) (s : Slot Label) {rs : Rows (Slot Label)} → Sees observer s.existence → AreSeen rs → AreSeen (changed key (λ z. s) rs)
  seen_changed key s v no_more = no_more
  seen_changed key s v (one_seen {key = j} {s = x} {rs = rs} u d) = at_first (same_name j key) (seen_changed key s v d)
    where
      at_first : (b : Bool) → AreSeen (changed key (λ z. s) rs) → AreSeen (cond b ((j, s) ∷ rs) ((j, x) ∷ changed key (λ z. s) rs))
      at_first true h = one_seen v d
      at_first false h = one_seen u h

  seen_over : (o : Option (Slot Label)) (key : List ℕ) (s : Slot Label) {rs : Rows (Slot Label)} → Sees observer s.existence → AreSeen rs → AreSeen (defined_over o key s rs)
  seen_over None key s v d = seen_with_row key s v d
  seen_over (Some x) key s v d = seen_changed key s v d

  -- ---- values that are the same

  functions_same : {γ : Pairing} {v u : Value} → SameValue γ v u → SameObject γ (function_in v) (function_in u)
  functions_same primitives = neither
  functions_same (objects p) = both p

  pub getters_same : {γ : Pairing} {l m : Label} {a b : Body} → BodiesAgree observer γ l m a b → Alike observer l m (SameObject γ (getter_in a) (getter_in b))
  getters_same (data_bodies r) = alike_map observer (λ x. neither) r
  getters_same (accessors r) = alike_map observer (λ x. x.0) r

  pub setters_same : {γ : Pairing} {l m : Label} {a b : Body} → BodiesAgree observer γ l m a b → Alike observer l m (SameObject γ (setter_in a) (setter_in b))
  setters_same (data_bodies r) = alike_map observer (λ x. neither) r
  setters_same (accessors r) = alike_map observer (λ x. x.1) r

  -- what a part gives its property, beside one that was there or none
  module _ {γ : Pairing} (l : Label) (h : Sees observer l) where
    abbrev under_context : {v u : Val} → Agree observer γ v u → Alike observer (union v.label l) (union u.label l) (SameValue γ v.value u.value)
    under_context a = alike_join observer (λ x (y : Unit {0}). x) a (seen h refl tt)

    part_bodies : (part : Part) {o u : Option (Slot Label)} {v w : Val} → rows.OwnAgree observer γ o u → ((s : Slot Label) → o ≡ Some s → Sees observer s.existence) → Agree observer γ v w
        → BodiesAgree observer γ (union (union v.label l) (half_label part o)) (union (union w.label l) (half_label part u)) (part_body part (property_in o) v.value) (part_body part (property_in u) w.value)
    part_bodies as_value q f a = data_bodies (alike_join observer (λ x (y : Unit {0}). x) (under_context a) (seen (sees_bottom observer) refl tt))
    part_bodies as_getter rows.neither_names f a = accessors (alike_join observer (λ x (y : Unit {0}). (functions_same x, neither)) (under_context a) (seen (sees_bottom observer) refl tt))
    part_bodies as_setter rows.neither_names f a = accessors (alike_join observer (λ x (y : Unit {0}). (neither, functions_same x)) (under_context a) (seen (sees_bottom observer) refl tt))
    part_bodies as_getter (rows.both_name (seen p e z)) f a = accessors (alike_join observer (λ x y. (functions_same x, y)) (under_context a) (setters_same z.1))
    part_bodies as_setter (rows.both_name (seen p e z)) f a = accessors (alike_join observer (λ x y. (y, functions_same x)) (under_context a) (getters_same z.1))
    part_bodies as_getter (rows.both_name {s = s} (hidden p e)) f a = absurd (not_both observer s.existence (f s refl) p)
    part_bodies as_setter (rows.both_name {s = s} (hidden p e)) f a = absurd (not_both observer s.existence (f s refl) p)

module _ (observer : Label) (tables : Tables) where
  abbrev Hid : Val → Type 0
  Hid v = HiddenVal observer tables v

  -- ---- a value that is needed

  pub conf_needed : (b : Bool) (v : Val) → Confined observer tables (needed b v)
  unfolding needed
  conf_needed true v = conf_ret observer tables v
  conf_needed false v = conf_at observer tables (λ s. throw_error kinds.TypeError v.label) (λ s. conf_throw observer tables {X = Val} kinds.TypeError v.label)

  mum_needed : (b : Bool) (v : Val) → Hides observer v.label → Mum observer tables Hid (needed b v)
  unfolding needed
  mum_needed true v h = mum_ret observer tables Hid h
  mum_needed false v h = mum_at observer tables Hid (λ s. throw_error kinds.TypeError v.label) (λ s. mum_throw observer tables Hid kinds.TypeError v.label h)

  needed_same : {γ : Pairing} (b : Bool) {v u : Val} (s t : State) → Agree observer γ v u → Alike observer v.label u.label (Unit {0}) → LowEqual observer tables γ s t → IsSeen observer s → InStep observer tables (Agree observer) γ (needed b v s) (needed b u t)
  unfolding needed
  needed_same true s t a e r w = go _ (extends_refl _) r w a
  needed_same false s t a e r w = thrown_both observer tables (Agree observer) kinds.TypeError s t e r w

  pub needed_after : {γ : Pairing} (b c : Bool) {v u : Val} (s t : State) → Agree observer γ v u → (SameValue γ v.value u.value → b ≡ c) → LowEqual observer tables γ s t → IsSeen observer s → InStep observer tables (Agree observer) γ (needed b v s) (needed c u t)
  needed_after b c {v} {u} s t (hidden h k) f r w = values_apart observer tables r w ((mum_needed b v h).mute s w) ((mum_needed c u k).mute t (seen_other observer tables r w))
  needed_after {γ} b c {v} {u} s t (seen h e p) f r w = subst (λ x. InStep observer tables (Agree observer) γ (needed b v s) (needed x u t)) (f p) (needed_same b s t (seen h e p) (seen h e tt) r w)

  pub coercible_same : {γ : Pairing} {v u : Value} → SameValue γ v u → is_coercible v ≡ is_coercible u
  coercible_same primitives = refl
  coercible_same (objects p) = refl

  pub object_same : {γ : Pairing} {v u : Value} → SameValue γ v u → is_object v ≡ is_object u
  object_same primitives = refl
  object_same (objects p) = refl

  -- ---- whether a key is there

  conf_of_primitive : (own : Option Primitive) (label : Label) (walk : Found) → Confined observer tables (has_of_primitive own label walk)
  unfolding has_of_primitive
  conf_of_primitive None label walk = conf_ret observer tables _
  conf_of_primitive (Some v) label walk = conf_ret observer tables _

  pub conf_has : (label : Label) (key : List ℕ) (v : Value) → Confined observer tables (has label key v)
  unfolding has
  conf_has label key (value.Primitive p) = conf_at observer tables (λ s. has_of_primitive (own_value_of p key) label (find key (primitive_chain s.heap p))) (λ s. conf_of_primitive _ label _)
  conf_has label key (value.Object o) = conf_at observer tables (λ s t. Goes (truth_of (is_found (find key (object_chain s.heap o.0)).at) (union label (find key (object_chain s.heap o.0)).walk)) t) (λ s. conf_ret observer tables _)

  mum_of_primitive : (own : Option Primitive) (label : Label) (walk : Found) → Hides observer label → Mum observer tables Hid (has_of_primitive own label walk)
  unfolding has_of_primitive
  mum_of_primitive None label walk h = mum_ret observer tables Hid (hides_first observer label walk.walk h)
  mum_of_primitive (Some v) label walk h = mum_ret observer tables Hid h

  mum_has : (label : Label) (key : List ℕ) (v : Value) → Hides observer label → Mum observer tables Hid (has label key v)
  unfolding has
  mum_has label key (value.Primitive p) h = mum_at observer tables Hid (λ s. has_of_primitive (own_value_of p key) label (find key (primitive_chain s.heap p))) (λ s. mum_of_primitive _ label _ h)
  mum_has label key (value.Object o) h = mum_at observer tables Hid (λ s t. Goes (truth_of (is_found (find key (object_chain s.heap o.0)).at) (union label (find key (object_chain s.heap o.0)).walk)) t)
      (λ s. mum_ret observer tables Hid (hides_first observer label (find key (object_chain s.heap o.0)).walk h))

  found_is : {A : Type 0} (o : Option A) → is_found o ≡ is_some o
  found_is None = refl
  found_is (Some a) = refl

  found_agrees : {γ : Pairing} (l m : Label) (a b : Found) → Sees observer l → l ≡ m → Alike observer a.walk b.walk (is_some a.at ≡ is_some b.at) → Agree observer γ (truth_of (is_found a.at) (union l a.walk)) (truth_of (is_found b.at) (union m b.walk))
  found_agrees l m a b h e (hidden c d) = hidden (hides_second observer l a.walk c) (hides_second observer m b.walk d)
  found_agrees {γ} l m a b h e (seen c d x) = seen (sees_union observer l a.walk h c) (ap₂ union e d)
      (subst (λ z. SameValue γ (value.Primitive (prims.Bool (is_found a.at))) (value.Primitive (prims.Bool z))) (found_is a.at ∙ x ∙ sym (found_is b.at)) primitives)

  has_object : {γ : Pairing} (key : List ℕ) (l m : Label) (o q : ObjId) (s t : State) → Sees observer l → l ≡ m → γ.objects o.0 q.0 ≡ true → LowEqual observer tables γ s t → IsSeen observer s
      → InStep observer tables (Agree observer) γ (has l key (value.Object o) s) (has m key (value.Object q) t)
  unfolding has
  has_object {γ} key l m o q s t h e p r w = go γ (extends_refl γ) r w (found_agrees l m (find key (object_chain s.heap o.0)) (find key (object_chain t.heap q.0)) h e (level_there observer r.heap key p))

  primitive_after : {γ : Pairing} (own : Option Primitive) (l m : Label) (a b : Found) (s t : State) → Sees observer l → l ≡ m → Alike observer a.walk b.walk (is_some a.at ≡ is_some b.at) → LowEqual observer tables γ s t → IsSeen observer s
      → InStep observer tables (Agree observer) γ (has_of_primitive own l a s) (has_of_primitive own m b t)
  unfolding has_of_primitive
  primitive_after {γ} None l m a b s t h e k r w = go γ (extends_refl γ) r w (found_agrees l m a b h e k)
  primitive_after {γ} (Some v) l m a b s t h e k r w = go γ (extends_refl γ) r w (seen h e primitives)

  has_same : {γ : Pairing} (key : List ℕ) (l m : Label) {v u : Value} (s t : State) → Sees observer l → l ≡ m → SameValue γ v u → LowEqual observer tables γ s t → IsSeen observer s → InStep observer tables (Agree observer) γ (has l key v s) (has m key u t)
  unfolding has
  has_same {γ} key l m s t h e (primitives {p = p}) r w = primitive_after (own_value_of p key) l m (find key (primitive_chain s.heap p)) (find key (primitive_chain t.heap p)) s t h e
      (alike_map observer (found_there observer γ s.heap t.heap key) (level_from observer r.heap key (prototype_same observer r.heap p))) r w
  has_same key l m s t h e (objects {o = o} {q = q} p) r w = has_object key l m o q s t h e p r w

  pub key_same : {γ : Pairing} {v u : Value} → SameValue γ v u → key_text v ≡ key_text u
  key_same primitives = refl
  key_same (objects p) = refl

  pub has_after : {γ : Pairing} {k j v u : Val} (s t : State) → Agree observer γ k j → Agree observer γ v u → LowEqual observer tables γ s t → IsSeen observer s
      → InStep observer tables (Agree observer) γ (has (union k.label v.label) (key_text k.value) v.value s) (has (union j.label u.label) (key_text j.value) u.value t)
  has_after {γ} {k} {j} {v} {u} s t a b r w = by_label (alike_join observer (λ p q. (p, q)) a b)
    where
      by_label : Alike observer (union k.label v.label) (union j.label u.label) (SameValue γ k.value j.value × SameValue γ v.value u.value)
          → InStep observer tables (Agree observer) γ (has (union k.label v.label) (key_text k.value) v.value s) (has (union j.label u.label) (key_text j.value) u.value t)
      by_label (hidden d e) = values_apart observer tables r w ((mum_has _ (key_text k.value) v.value d).mute s w) ((mum_has _ (key_text j.value) u.value e).mute t (seen_other observer tables r w))
      by_label (seen d e p) = subst (λ x. InStep observer tables (Agree observer) γ (has (union k.label v.label) (key_text k.value) v.value s) (has (union j.label u.label) x u.value t)) (key_same p.0)
          (has_same (key_text k.value) (union k.label v.label) (union j.label u.label) s t d e p.1 r w)

  -- ---- literals

  -- keys stay distinct
  pub distinct_over : (o : Option (Slot Label)) (key : List ℕ) (x : Slot Label) {rs : Rows (Slot Label)} → own key rs ≡ o → AreDistinct rs → AreDistinct (defined_over o key x rs)
  distinct_over None key x {rs} e d = distinct_with_row key x (own_absent key rs e) d
  distinct_over (Some y) key x e d = distinct_altered key (λ z. Some x) d

  distinct_parts : (l : Label) (parts : List (Part × List ℕ)) (vs : List Val) {rs : Rows (Slot Label)} → AreDistinct rs → AreDistinct (with_parts l parts vs rs)
  distinct_parts l [] vs d = d
  distinct_parts l (part ∷ parts) [] d = d
  distinct_parts l (part ∷ parts) (v ∷ vs) {rs} d = distinct_parts l parts vs (distinct_over (own part.1 rs) part.1 (part_slot l part.0 (own part.1 rs) v) refl d)

  -- the first object stands
  first_stands : {γ : Pairing} {h g : List (Object Label)} → HeapsAgree observer γ h g → 0 < length h
  first_stands {h = h} r = start_stands observer r 0 (omega arith)

  pub conf_make : (parts : List (Part × List ℕ)) (vs : List Val) → Confined observer tables (make_object parts vs)
  unfolding make_object
  conf_make parts vs = record {
    still = λ s p. still_goes observer tables _ (record { looks = λ β u r. low_heap observer tables r (new_left observer (literal_object parts vs (context s.frames)) r.heap) r.records; frames = refl }) refl refl;
    fits = λ s. omega arith;
    adds = λ s. front_refl s.lines;
  }

  pub conf_array : (places : List ℕ) (n : ℕ) (vs : List Val) → Confined observer tables (make_array places n vs)
  unfolding make_array
  conf_array places n vs = record {
    still = λ s p. still_goes observer tables _ (record { looks = λ β u r. low_heap observer tables r (new_left observer (array_object n places vs (context s.frames)) r.heap) r.records; frames = refl }) refl refl;
    fits = λ s. omega arith;
    adds = λ s. front_refl s.lines;
  }

  -- rows that agree are given properties that agree
  pub rows_over : {γ : Pairing} {o u : Option (Slot Label)} (key : List ℕ) {x y : Slot Label} {rs qs : Rows (Slot Label)} → rows.OwnAgree observer γ o u → SlotsAgree observer γ x y → RowsAgree observer γ rs qs → RowsAgree observer γ (defined_over o key x rs) (defined_over u key y qs)
  rows_over key rows.neither_names a r = with_row_both observer key a r
  rows_over key (rows.both_name z) a r = altered_both observer key _ _ (λ s t q. rows.both_name a) r

  parts_agree : {γ : Pairing} (parts : List (Part × List ℕ)) (l : Label) {vs us : List Val} {rs qs : Rows (Slot Label)} → Sees observer l → Rels (Agree observer γ) vs us → AreSeen observer rs → RowsAgree observer γ rs qs
      → RowsAgree observer γ (with_parts l parts vs rs) (with_parts l parts us qs)
  parts_agree [] l h a d r = r
  parts_agree (part ∷ parts) l h nils d r = r
  parts_agree {γ} (part ∷ parts) l {rs = rs} {qs = qs} h (conses {a = v} {b = u} a bs) d r =
      let slots = part_bodies observer l h part.0 (own_agree observer part.1 r) (λ s e. own_is_seen observer part.1 s d e) a in
      parts_agree parts l h bs (seen_over observer (own part.1 rs) part.1 (part_slot l part.0 (own part.1 rs) v) h d)
      (rows_over part.1 (own_agree observer part.1 r) (seen h refl (refl, slots)) r)

  -- what is made under a label
  abbrev literal_made : List (Part × List ℕ) → List Val → Label → State → Outcome Halt Jump Val State
  literal_made parts vs l s = Goes (unlabelled (value.Object (id (length s.heap)))) (record s { heap = s.heap ++ literal_object parts vs l ∷ [] })

  made_after : {γ : Pairing} (parts : List (Part × List ℕ)) {vs us : List Val} (l : Label) (s t : State) → Sees observer l → Rels (Agree observer γ) vs us → LowEqual observer tables γ s t → IsSeen observer s
      → InStep observer tables (Agree observer) γ (literal_made parts vs l s) (literal_made parts us l t)
  made_after {γ} parts {vs} {us} l s t h a r w =
      let more = extends_objects γ (length s.heap) (length t.heap) in
      go (with_objects γ (length s.heap) (length t.heap)) more
      (low_heap observer tables r
      (level_new observer (literal_object parts vs l) (literal_object parts us l) refl plains (seen h refl (both (r.heap.starts 0 (omega arith)))) h refl refl (parts_agree parts l h a no_more no_rows) (distinct_parts l parts vs no_keys)
      (λ v o x. subst (λ (y : ObjId). y.0 < length s.heap) (same_Some _ o x) (first_stands r.heap)) (λ v o x. subst (λ (y : ObjId). y.0 < length t.heap) (same_Some _ o x) (first_stands (low_sym observer tables r).heap)) tt tt r.heap)
      (record { paired = λ i j z. both_map (λ c d x. records_more observer more x) (r.records.paired i j z); one_to_one = r.records.one_to_one; left = r.records.left; right = r.records.right }))
      w (seen (sees_bottom observer) refl (objects (pair_new γ.objects (length s.heap) (length t.heap))))

  pub make_after : {γ : Pairing} (parts : List (Part × List ℕ)) {vs us : List Val} (s t : State) → Rels (Agree observer γ) vs us → LowEqual observer tables γ s t → IsSeen observer s → InStep observer tables (Agree observer) γ (make_object parts vs s) (make_object parts us t)
  unfolding make_object
  make_after {γ} parts {vs} {us} s t a r w = subst (λ l. InStep observer tables (Agree observer) γ (literal_made parts vs (context s.frames) s) (literal_made parts us l t)) (same_context observer tables r w) (made_after parts (context s.frames) s t w a r w)

  -- ---- arrays

  -- elements of distinct keys
  onto_distinct : (ns : List ℕ) (ss : List (Slot Label)) {rs : Rows (Slot Label)} → AreDistinct rs → AreDistinct (elements_onto rs ns ss)
  onto_distinct [] ss d = d
  onto_distinct (n ∷ ns) [] d = d
  onto_distinct (n ∷ ns) (s ∷ ss) {rs} d = onto_distinct ns ss (distinct_over (own (element_key n) rs) (element_key n) s refl d)

  onto_agree : {γ : Pairing} (ns : List ℕ) (l : Label) {vs us : List Val} {rs qs : Rows (Slot Label)} → Sees observer l → Rels (Agree observer γ) vs us → RowsAgree observer γ rs qs
      → RowsAgree observer γ (elements_onto rs ns (map (data_slot l) vs)) (elements_onto qs ns (map (data_slot l) us))
  onto_agree [] l h bs r = r
  onto_agree (n ∷ ns) l h nils r = r
  onto_agree (n ∷ ns) l h (conses a bs) r = onto_agree ns l h bs (rows_over (element_key n) (own_agree observer (element_key n) r) (seen h refl (refl, data_bodies (alike_join observer (λ x (y : Unit {0}). x) a (seen h refl tt)))) r)

  abbrev array_made : List ℕ → ℕ → List Val → Label → State → Outcome Halt Jump Val State
  array_made places n vs l s = Goes (unlabelled (value.Object (id (length s.heap)))) (record s { heap = s.heap ++ array_object n places vs l ∷ [] })

  array_stands : {γ : Pairing} {h g : List (Object Label)} → HeapsAgree observer γ h g → array_prototype.0 < length h
  array_stands r = start_stands observer r array_prototype.0 (omega arith)

  array_both : {γ : Pairing} (places : List ℕ) (n : ℕ) {vs us : List Val} (l : Label) (s t : State) → Sees observer l → Rels (Agree observer γ) vs us → LowEqual observer tables γ s t → IsSeen observer s
      → InStep observer tables (Agree observer) γ (array_made places n vs l s) (array_made places n us l t)
  array_both {γ} places n {vs} {us} l s t h a r w =
      let more = extends_objects γ (length s.heap) (length t.heap) in
      go (with_objects γ (length s.heap) (length t.heap)) more
      (low_heap observer tables r
      (level_new observer (array_object n places vs l) (array_object n places us l) refl plains (seen h refl (both (r.heap.starts array_prototype.0 (omega arith)))) h refl refl
      (onto_agree places l h a (row (seen h refl (refl, data_bodies (seen h refl primitives))) no_rows)) (onto_distinct places (map (data_slot l) vs) (one_more nowhere no_keys))
      (λ v o x. subst (λ (y : ObjId). y.0 < length s.heap) (same_Some _ o x) (array_stands r.heap)) (λ v o x. subst (λ (y : ObjId). y.0 < length t.heap) (same_Some _ o x) (array_stands (low_sym observer tables r).heap)) tt tt r.heap)
      (record { paired = λ i j z. both_map (λ c d x. records_more observer more x) (r.records.paired i j z); one_to_one = r.records.one_to_one; left = r.records.left; right = r.records.right }))
      w (seen (sees_bottom observer) refl (objects (pair_new γ.objects (length s.heap) (length t.heap))))

  pub array_after : {γ : Pairing} (places : List ℕ) (n : ℕ) {vs us : List Val} (s t : State) → Rels (Agree observer γ) vs us → LowEqual observer tables γ s t → IsSeen observer s → InStep observer tables (Agree observer) γ (make_array places n vs s) (make_array places n us t)
  unfolding make_array
  array_after {γ} places n {vs} {us} s t a r w = subst (λ l. InStep observer tables (Agree observer) γ (array_made places n vs (context s.frames) s) (array_made places n us l t)) (same_context observer tables r w) (array_both places n (context s.frames) s t w a r w)

  -- ---- arguments

  pub argument_agree : {γ : Pairing} (n : ℕ) {vs us : List Val} → Rels (Agree observer γ) vs us → Agree observer γ (argument n vs) (argument n us)
  argument_agree n nils = undefined_agree observer tables
  argument_agree zero (conses a bs) = a
  argument_agree (suc n) (conses a bs) = argument_agree n bs

  pub rels_more : {β γ : Pairing} {vs us : List Val} → Extends β γ → Rels (Agree observer β) vs us → Rels (Agree observer γ) vs us
  rels_more e nils = nils
  rels_more e (conses a bs) = conses (agree_more observer e a) (rels_more e bs)

  -- ---- the keys of a value

  conf_list : (list : Option Keys) (label : Label) (next : List (List ℕ) → L (Unit {0})) → ((ks : List (List ℕ)) → Confined observer tables (next ks)) → Confined observer tables (with_list list label next)
  unfolding with_list
  conf_list None label next c = conf_ends observer tables _
  conf_list (Some list) label next c = conf_at observer tables (λ s. raise (union label list.walk) >>= λ u. next list.keys) (λ s. conf_bind observer tables _ (conf_raise observer tables (union label list.walk)) (λ u. c list.keys))

  pub conf_keys : (v : Val) (next : List (List ℕ) → L (Unit {0})) → ((ks : List (List ℕ)) → Confined observer tables (next ks)) → Confined observer tables (λ s. with_list (key_list s.heap v.value) v.label next s)
  conf_keys v next c = conf_at observer tables (λ s. with_list (key_list s.heap v.value) v.label next) (λ s. conf_list (key_list s.heap v.value) v.label next c)

  -- lists that a label covers
  data ListsAgree (l m : Label) : Option Keys → Option Keys → Type 0 where
    no_lists : ListsAgree l m None None
    lists : {a b : Keys} → Alike observer (union l a.walk) (union m b.walk) (a.keys ≡ b.keys) → ListsAgree l m (Some a) (Some b)
    one_list : {a : Option Keys} {b : Option Keys} → Hides observer l → Hides observer m → ListsAgree l m a b

  list_after : {γ : Pairing} {a b : Option Keys} (l m : Label) (f g : List (List ℕ) → L (Unit {0})) (s t : State) → ListsAgree l m a b → ((ks : List (List ℕ)) → Confined observer tables (f ks)) → ((ks : List (List ℕ)) → Confined observer tables (g ks))
      → ((ks : List (List ℕ)) → Lockstep observer tables Nothing γ (f ks) (g ks)) → LowEqual observer tables γ s t → IsSeen observer s → InStep observer tables Nothing γ (with_list a l f s) (with_list b m g t)
  unfolding with_list
  list_after l m f g s t no_lists c d h r w = both_end observer tables Nothing r
  list_after {γ} l m f g s t (lists {a = a} {b = b} z) c d h r w =
      (lock_bind observer tables (λ δ x y. a.keys ≡ b.keys) Nothing _ _ (lock_raise observer tables (a.keys ≡ b.keys) (alike_map observer (λ e. tt) z) (alike_in z)) (λ u. c a.keys) (λ u. d b.keys)
      (λ δ e x y k. subst (λ ks. Lockstep observer tables Nothing δ (f a.keys) (g ks)) k (record { steps = λ ε i s' t' r' w'. (h a.keys).steps ε (extends_trans e i) s' t' r' w' }))).steps γ (extends_refl γ) s t r w
    where
      alike_in : {x y : Label} {P : Type 0} → Alike observer x y P → Sees observer x → P
      alike_in (seen u v p) k = p
      alike_in (hidden u v) k = absurd (true≢false (sym k ∙ u))
  list_after l m f g s t (one_list {a = None} {b = b} h k) c d i r w = ends_first observer tables Nothing r ((conf_list b m g d).adds t)
  list_after l m f g s t (one_list {a = Some a} {b = None} h k) c d i r w = ends_second observer tables Nothing r ((conf_list (Some a) l f c).adds s)
  list_after {γ} l m f g s t (one_list {a = Some a} {b = Some b} h k) c d i r w =
      (lock_bind observer tables (λ δ x y. ⊥) Nothing _ _ (lock_raise observer tables ⊥ (hidden (hides_first observer l a.walk h) (hides_first observer m b.walk k)) (λ q. absurd (true≢false (sym q ∙ hides_first observer l a.walk h)))) (λ u. c a.keys) (λ u. d b.keys)
      (λ δ e x y never. absurd never)).steps γ (extends_refl γ) s t r w

  keys_agree : {γ : Pairing} {v u : Value} {h g : List (Object Label)} {l m : Label} → Sees observer l → l ≡ m → SameValue γ v u → HeapsAgree observer γ h g → ListsAgree l m (key_list h v) (key_list g u)
  keys_agree a e (primitives {p = prims.Undefined}) r = lists (seen (sees_union observer _ bottom a (sees_bottom observer)) (ap (λ x. union x bottom) e) refl)
  keys_agree a e (primitives {p = prims.Null}) r = lists (seen (sees_union observer _ bottom a (sees_bottom observer)) (ap (λ x. union x bottom) e) refl)
  keys_agree a e (primitives {p = prims.Bool b}) r = no_lists
  keys_agree a e (primitives {p = prims.Num n}) r = no_lists
  keys_agree a e (primitives {p = prims.Str t}) r = no_lists
  keys_agree a e (objects {o = o} {q = q} p) r = lists (alike_join observer (λ (x : Unit {0}) y. y) (seen a e tt) (level_keys observer r p))

  pub lock_keys : {β : Pairing} {v u : Val} (f g : List (List ℕ) → L (Unit {0})) → Agree observer β v u → ((ks : List (List ℕ)) → Confined observer tables (f ks)) → ((ks : List (List ℕ)) → Confined observer tables (g ks))
      → ((ks : List (List ℕ)) → Lockstep observer tables Nothing β (f ks) (g ks)) → Lockstep observer tables Nothing β (λ s. with_list (key_list s.heap v.value) v.label f s) (λ s. with_list (key_list s.heap u.value) u.label g s)
  lock_keys {v = v} {u = u} f g a c d h = record {
    steps = λ γ e s t r w. list_after v.label u.label f g s t (by_value (agree_more observer e a) r.heap) c d (λ ks. record { steps = λ δ i s' t' r' w'. (h ks).steps δ (extends_trans e i) s' t' r' w' }) r w;
  }
    where
      by_value : {γ : Pairing} {h g : List (Object Label)} → Agree observer γ v u → HeapsAgree observer γ h g → ListsAgree v.label u.label (key_list h v.value) (key_list g u.value)
      by_value (hidden x y) r = one_list x y
      by_value (seen x e p) r = keys_agree x e p r
