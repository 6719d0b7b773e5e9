-- References: where the cause of what is done can't be seen, and in two runs. A read of one comes to a value or to a getter that is called then.
use Rattle.std.proofs.Common.{◌≡◌, ℕ, List, true, Option, Some, None, refl, ap₂, subst, arith}
use Rattle.origin_labels.specs.Label.{Label, bottom, union}
use Rattle.flow_policy.specs.Policies.{Tables}
use Rattle.native_protocol.specs.declared.request.ErrorKind.TheVariants as kinds
use Rattle.js_number.specs.declared.primitive.Primitive.{Primitive}
use Rattle.js_values.specs.declared.ids.ObjId.{ObjId}
use Rattle.js_values.specs.declared.value.Value.{Value}
use Rattle.js_values.specs.declared.value.Value.TheVariants as value
use Rattle.js_values.specs.declared.property.Body.{Body}
use Rattle.js_values.specs.declared.property.Body.TheVariants.{Data, Accessor}
use Rattle.js_values.specs.declared.property.Slot.{Slot}
use Rattle.js_values.specs.Objects.{Object}
use Rattle.js_values.specs.Records.{Binding}
use Rattle.js_values.specs.Walks.{Found, find, object_chain}
use Rattle.es_meaning.specs.Outcomes.{Outcome, Goes, Ends, ret}
use Rattle.es_meaning.specs.Primitives.{own_value_of}
use Rattle.es_meaning.specs.Start.{global_object}
use Rattle.es_meaning.specs.Plain.{undefined, Place, in_record, on_global, nowhere, place_from, binding_at}
use Rattle.flow_meaning.specs.Erased.{unlabelled}
use Rattle.flow_meaning.specs.Scopes.{Val, Halt, State, Jump, L}
use Rattle.flow_meaning.specs.Tracked.{throw_error, Reference, of_name, of_property, walk_from, global_walk, resolved, bound, Access, has_value, has_getter, getter_or_none, held, global_value, found_globally, found as found_at, found_by, primitive_chain, primitive_access, property_of, as_access, named, accessed, accessed_for_typeof}
use Rattle.low_equal.specs.Observed.{Sees, Hides, IsSeen}
use Rattle.low_equal.specs.LowEqual.{Pairing, Extends, Alike, seen, hidden, SameValue, primitives, objects, SameObject, neither, both, Agree, BodiesAgree, data_bodies, accessors, LowEqual}
use Rattle.low_equal.specs.Runs.{Confined, InStep, go, Lockstep}
use Rattle.low_equal.proofs.Labels.{sees_union, hides_first, hides_second, sees_bottom}
use Rattle.low_equal.proofs.Agreement.{extends_refl, alike_map, alike_join, value_more, agree_more}
use Rattle.low_equal.proofs.Scopes as scopes
use Rattle.low_equal.proofs.Scopes.{PlacesAgree, somewhere, FoundAgree, missing, there, binding_agree, lookup_agree}
use Rattle.low_equal.proofs.States.{low_seen}
use Rattle.low_equal.proofs.Steps.{conf_ret, conf_bind, lock_ret, lock_bind, ends_first}
use Rattle.low_equal.proofs.Lines.{front_refl}
use Rattle.low_equal.proofs.Acts.{conf_throw, thrown_both}
use Rattle.low_equal.proofs.Mute.{Mute, Mum, mum_ret, mum_at, mum_throw, mute_both}
use Rattle.low_equal.proofs.Walks as walks
use Rattle.low_equal.proofs.Walks.{FoundSame, not_found, level_find, level_from, prototype_same}

-- the reference of one name in paired records, on the global object or nowhere; or a property of values that agree. Where the walk to a name is hidden,
-- it may be found in one run alone
pub data ReferencesAgree (observer : Label) (β : Pairing) : Reference → Reference → Type 0 where
  in_records : {x : List ℕ} {i j : ℕ} {l m : Label} → β.records i j ≡ true → ReferencesAgree observer β (of_name x (in_record i) l) (of_name x (in_record j) m)
  on_globals : {x : List ℕ} {l m : Label} → Alike observer l m (Unit {0}) → ReferencesAgree observer β (of_name x on_global l) (of_name x on_global m)
  nowheres : {x : List ℕ} {l m : Label} → Alike observer l m (Unit {0}) → ReferencesAgree observer β (of_name x nowhere l) (of_name x nowhere m)
  found_first : {x : List ℕ} {l m : Label} → Hides observer l → Hides observer m → ReferencesAgree observer β (of_name x on_global l) (of_name x nowhere m)
  found_second : {x : List ℕ} {l m : Label} → Hides observer l → Hides observer m → ReferencesAgree observer β (of_name x nowhere l) (of_name x on_global m)
  properties : {v u : Val} {x y : List ℕ} {l m : Label} → Agree observer β v u → Alike observer l m (x ≡ y) → ReferencesAgree observer β (of_property v x l) (of_property u y m)

-- the label of a read: that of its value, or that of the frame of its getter
abbrev pub access_label : Access → Label
access_label (has_value v) = v.label
access_label (has_getter label f this) = label

-- values that agree; or getters that are paired, with `this` that agree, in frames of one label that is seen; or reads whose labels are hidden, of whatever kinds
pub data AccessesAgree (observer : Label) (β : Pairing) : Access → Access → Type 0 where
  both_values : {v u : Val} → Agree observer β v u → AccessesAgree observer β (has_value v) (has_value u)
  both_getters : {l m : Label} {f g : ObjId} {this that : Val} → Sees observer l → l ≡ m → β.objects f.0 g.0 ≡ true → Agree observer β this that → AccessesAgree observer β (has_getter l f this) (has_getter m g that)
  hidden_accesses : {a b : Access} → Hides observer (access_label a) → Hides observer (access_label b) → AccessesAgree observer β a b

module _ (observer : Label) (tables : Tables) where
  pub references_more : {β γ : Pairing} {n m : Reference} → Extends β γ → ReferencesAgree observer β n m → ReferencesAgree observer γ n m
  references_more h (in_records p) = in_records (h.records _ _ p)
  references_more h (on_globals a) = on_globals a
  references_more h (nowheres a) = nowheres a
  references_more h (found_first a b) = found_first a b
  references_more h (found_second a b) = found_second a b
  references_more h (properties a b) = properties (agree_more observer h a) b

  pub accesses_more : {β γ : Pairing} {a b : Access} → Extends β γ → AccessesAgree observer β a b → AccessesAgree observer γ a b
  accesses_more h (both_values r) = both_values (agree_more observer h r)
  accesses_more h (both_getters s e p r) = both_getters s e (h.objects _ _ p) (agree_more observer h r)
  accesses_more h (hidden_accesses a b) = hidden_accesses a b

  -- what is done at each state
  pub conf_at : {X : Type 0} (m : State → L X) → ((s : State) → Confined observer tables (m s)) → Confined observer tables (λ s. m s s)
  conf_at m c = record { still = λ s. (c s).still s; fits = λ s. (c s).fits s; adds = λ s. (c s).adds s }

  pub no_cause : Alike observer bottom bottom (Unit {0})
  no_cause = seen (sees_bottom observer) refl tt

  pub undefined_agree : {γ : Pairing} → Agree observer γ (unlabelled undefined) (unlabelled undefined)
  undefined_agree = seen (sees_bottom observer) refl primitives

  -- an end of both
  pub both_end : {X : Type 0} (Q : Pairing → X → X → Type 0) {γ : Pairing} {halt other : Halt} {s t : State} → LowEqual observer tables γ s t → InStep observer tables Q γ (Ends halt s) (Ends other t)
  both_end Q {t = t} r = ends_first observer tables Q r (front_refl t.lines)

  -- a read whose label is hidden
  abbrev pub HiddenAccess : Access → Type 0
  HiddenAccess a = Hides observer (access_label a)

  pub accesses_apart : {γ : Pairing} {s t : State} {o p : Outcome Halt Jump Access State} → LowEqual observer tables γ s t → IsSeen observer s → Mute observer tables HiddenAccess s o → Mute observer tables HiddenAccess t p
      → InStep observer tables (AccessesAgree observer) γ o p
  accesses_apart r w a b = mute_both observer tables HiddenAccess (AccessesAgree observer) (λ x y h k. hidden_accesses h k) r w a b

  -- ---- one run alone

  conf_bound : (b : Option (Binding Val)) → Confined observer tables (bound b)
  unfolding bound
  conf_bound (Some b) = conf_ret observer tables b.value
  conf_bound None = conf_at (λ s. throw_error kinds.ReferenceError bottom) (λ s. conf_throw observer tables {X = Val} kinds.ReferenceError bottom)

  conf_globally : (walk : Label) (f : Option (ℕ × Slot Label)) → Confined observer tables (found_globally walk f)
  unfolding found_globally
  conf_globally walk (Some f) = conf_ret observer tables _
  conf_globally walk None = conf_at (λ s. throw_error kinds.ReferenceError walk) (λ s. conf_throw observer tables {X = Access} kinds.ReferenceError walk)

  pub conf_property : (label : Label) (base : Val) (v : Value) (key : List ℕ) → Confined observer tables (property_of label base v key)
  unfolding property_of
  conf_property label base (value.Primitive p) key = conf_at (λ s t. Goes (primitive_access label (own_value_of p key) (found_by label base (find key (primitive_chain s.heap p)))) t) (λ s. conf_ret observer tables _)
  conf_property label base (value.Object o) key = conf_at (λ s t. Goes (found_by label base (find key (object_chain s.heap o.0))) t) (λ s. conf_ret observer tables _)

  conf_as_access : {m : L Val} → Confined observer tables m → Confined observer tables (as_access m)
  conf_as_access c = conf_bind observer tables (λ v. ret (has_value v)) c (λ v. conf_ret observer tables (has_value v))

  conf_named : (place : Place) (walk : Label) (x : List ℕ) → Confined observer tables (named place walk x)
  unfolding named
  conf_named (in_record i) walk x = conf_at (λ s. as_access (bound (binding_at s.records i x))) (λ s. conf_as_access (conf_bound _))
  conf_named on_global walk x = conf_at (λ s. found_globally (union walk (global_walk s.heap x).walk) (global_walk s.heap x).at) (λ s. conf_globally _ _)
  conf_named nowhere walk x = conf_at (λ s. throw_error kinds.ReferenceError walk) (λ s. conf_throw observer tables {X = Access} kinds.ReferenceError walk)

  pub conf_accessed : (n : Reference) → Confined observer tables (accessed n)
  unfolding accessed
  conf_accessed (of_name x place walk) = conf_named place walk x
  conf_accessed (of_property v key label) = conf_property _ v v.value key

  pub conf_typeof : (n : Reference) → Confined observer tables (accessed_for_typeof n)
  unfolding accessed_for_typeof
  conf_typeof (of_name x (in_record i) walk) = conf_at (λ s. accessed (of_name x (in_record i) walk)) (λ s. conf_accessed _)
  conf_typeof (of_name x on_global walk) = conf_at (λ s. accessed (of_name x on_global walk)) (λ s. conf_accessed _)
  conf_typeof (of_name x nowhere walk) = conf_ret observer tables _
  conf_typeof (of_property v key label) = conf_at (λ s. accessed (of_property v key label)) (λ s. conf_accessed _)

  -- ---- what a read comes to under a hidden label

  hidden_getter : (label : Label) (get : Option ObjId) (base : Val) → Hides observer label → HiddenAccess (getter_or_none label get base)
  hidden_getter label None base h = h
  hidden_getter label (Some f) base h = h

  hidden_held : (label : Label) (base : Val) (body : Body) → Hides observer label → HiddenAccess (held label base body)
  hidden_held label base (Data v) h = h
  hidden_held label base (Accessor get set) h = hidden_getter label get base h

  hidden_found : (place : Label) (base : Val) (f : Option (ℕ × Slot Label)) → Hides observer place → HiddenAccess (found_at place base f)
  hidden_found place base (Some f) h = hidden_held (union place f.1.label) base f.1.body (hides_first observer place f.1.label h)
  hidden_found place base None h = h

  hidden_primitive : (label : Label) (own : Option Primitive) (beyond : Access) → Hides observer label → HiddenAccess beyond → HiddenAccess (primitive_access label own beyond)
  hidden_primitive label None beyond h k = k
  hidden_primitive label (Some v) beyond h k = h

  -- a property of a base, under a label that is hidden
  pub mum_property : (label : Label) (base : Val) (v : Value) (key : List ℕ) → Hides observer label → Mum observer tables HiddenAccess (property_of label base v key)
  unfolding property_of
  mum_property label base (value.Primitive p) key h = mum_at observer tables HiddenAccess (λ s t. Goes (primitive_access label (own_value_of p key) (found_by label base (find key (primitive_chain s.heap p)))) t)
      (λ s. let walk = find key (primitive_chain s.heap p) in mum_ret observer tables HiddenAccess (hidden_primitive label (own_value_of p key) (found_by label base walk) h (hidden_found (union label walk.walk) base walk.at (hides_first observer label walk.walk h))))
  mum_property label base (value.Object o) key h = mum_at observer tables HiddenAccess (λ s t. Goes (found_by label base (find key (object_chain s.heap o.0))) t)
      (λ s. let walk = find key (object_chain s.heap o.0) in mum_ret observer tables HiddenAccess (hidden_found (union label walk.walk) base walk.at (hides_first observer label walk.walk h)))

  mum_globally : (walk : Label) (f : Option (ℕ × Slot Label)) → Hides observer walk → Mum observer tables HiddenAccess (found_globally walk f)
  unfolding found_globally
  mum_globally walk (Some f) h = mum_ret observer tables HiddenAccess (hidden_held (union walk f.1.label) global_value f.1.body (hides_first observer walk f.1.label h))
  mum_globally walk None h = mum_at observer tables HiddenAccess (λ s. throw_error kinds.ReferenceError walk) (λ s. mum_throw observer tables HiddenAccess kinds.ReferenceError walk h)

  mum_global : (walk : Label) (x : List ℕ) → Hides observer walk → Mum observer tables HiddenAccess (named on_global walk x)
  unfolding named
  mum_global walk x h = mum_at observer tables HiddenAccess (λ s. found_globally (union walk (global_walk s.heap x).walk) (global_walk s.heap x).at) (λ s. mum_globally _ _ (hides_first observer walk (global_walk s.heap x).walk h))

  mum_nowhere : (walk : Label) (x : List ℕ) → Hides observer walk → Mum observer tables HiddenAccess (named nowhere walk x)
  unfolding named
  mum_nowhere walk x h = mum_at observer tables HiddenAccess (λ s. throw_error kinds.ReferenceError walk) (λ s. mum_throw observer tables HiddenAccess kinds.ReferenceError walk h)

  -- ---- two runs

  pub seen_other : {γ : Pairing} {s t : State} → LowEqual observer tables γ s t → IsSeen observer s → IsSeen observer t
  seen_other r w = low_seen observer tables r w

  -- the global object stands for itself
  pub global_pair : {γ : Pairing} {s t : State} → LowEqual observer tables γ s t → γ.objects global_object.0 global_object.0 ≡ true
  global_pair r = r.heap.starts global_object.0 (omega arith)

  pub global_agrees : {γ : Pairing} {s t : State} → LowEqual observer tables γ s t → Agree observer γ global_value global_value
  global_agrees r = seen (sees_bottom observer) refl (objects (global_pair r))

  getters_agree : {γ : Pairing} (l m : Label) {f g : Option ObjId} {this that : Val} → Sees observer l → l ≡ m → SameObject γ f g → Agree observer γ this that → AccessesAgree observer γ (getter_or_none l f this) (getter_or_none m g that)
  getters_agree l m z e neither a = both_values (seen z e primitives)
  getters_agree l m z e (both p) a = both_getters z e p a

  -- two bodies that agree
  pub held_agree : {γ : Pairing} (l m : Label) {x y : Label} {a b : Body} {this that : Val} → Sees observer l → l ≡ m → BodiesAgree observer γ x y a b → Agree observer γ this that → AccessesAgree observer γ (held (union l x) this a) (held (union m y) that b)
  held_agree l m z e (data_bodies q) a = both_values (alike_join observer (λ (u : Unit {0}) p. p) (seen z e tt) q)
  held_agree l m {x} {y} {this = this} {that = that} z e (accessors {g = g} {f = f} (hidden h k)) a = hidden_accesses (hidden_getter (union l x) g this (hides_second observer l x h)) (hidden_getter (union m y) f that (hides_second observer m y k))
  held_agree l m {x} {y} z e (accessors (seen h k p)) a = getters_agree (union l x) (union m y) (sees_union observer l x z h) (ap₂ union e k) p.0 a

  found_agree : {γ : Pairing} {h g : List (Object Label)} (key : List ℕ) (l m : Label) {o u : Option (ℕ × Slot Label)} {this that : Val} → Sees observer l → l ≡ m → FoundSame observer γ h g key o u → Agree observer γ this that
      → AccessesAgree observer γ (found_at l this o) (found_at m that u)
  found_agree key l m z e not_found a = both_values (seen z e primitives)
  found_agree key l m z e (walks.found p x y marks b) a = held_agree l m z e b a

  -- what a read comes to, by two walks
  walk_access : {γ : Pairing} {h g : List (Object Label)} (key : List ℕ) (l m : Label) (a b : Found) {this that : Val} → Sees observer l → l ≡ m → Alike observer a.walk b.walk (FoundSame observer γ h g key a.at b.at) → Agree observer γ this that
      → AccessesAgree observer γ (found_by l this a) (found_by m that b)
  walk_access key l m a b {this} {that} z e (hidden c d) x = hidden_accesses (hidden_found (union l a.walk) this a.at (hides_second observer l a.walk c)) (hidden_found (union m b.walk) that b.at (hides_second observer m b.walk d))
  walk_access key l m a b z e (seen c d f) x = found_agree key (union l a.walk) (union m b.walk) (sees_union observer l a.walk z c) (ap₂ union e d) f x

  -- a read of paired objects
  object_access : {γ : Pairing} {s t : State} (key : List ℕ) (l m : Label) (o q : ObjId) {this that : Val} → Sees observer l → l ≡ m → γ.objects o.0 q.0 ≡ true → Agree observer γ this that → LowEqual observer tables γ s t
      → AccessesAgree observer γ (found_by l this (find key (object_chain s.heap o.0))) (found_by m that (find key (object_chain t.heap q.0)))
  object_access {γ} {s} {t} key l m o q a e p x r = walk_access key l m (find key (object_chain s.heap o.0)) (find key (object_chain t.heap q.0)) a e (level_find observer r.heap key p) x

  -- and of a primitive value
  primitives_agree : {γ : Pairing} (l m : Label) (own : Option Primitive) {a b : Access} → Sees observer l → l ≡ m → AccessesAgree observer γ a b → AccessesAgree observer γ (primitive_access l own a) (primitive_access m own b)
  primitives_agree l m None z e r = r
  primitives_agree l m (Some v) z e r = both_values (seen z e primitives)

  primitive_read : {γ : Pairing} {s t : State} (key : List ℕ) (l m : Label) (p : Primitive) {this that : Val} → Sees observer l → l ≡ m → Agree observer γ this that → LowEqual observer tables γ s t
      → AccessesAgree observer γ (primitive_access l (own_value_of p key) (found_by l this (find key (primitive_chain s.heap p)))) (primitive_access m (own_value_of p key) (found_by m that (find key (primitive_chain t.heap p))))
  primitive_read {γ} {s} {t} key l m p a e x r = primitives_agree l m (own_value_of p key) a e
      (walk_access key l m (find key (primitive_chain s.heap p)) (find key (primitive_chain t.heap p)) a e (level_from observer r.heap key (prototype_same observer r.heap p)) x)

  pub property_after : {γ : Pairing} {s t : State} (l m : Label) {v u : Value} (key : List ℕ) {this that : Val} → Sees observer l → l ≡ m → SameValue γ v u → Agree observer γ this that → LowEqual observer tables γ s t → IsSeen observer s
      → InStep observer tables (AccessesAgree observer) γ (property_of l this v key s) (property_of m that u key t)
  unfolding property_of
  property_after {γ} {s} {t} l m key a e (primitives {p = p}) x r w = go γ (extends_refl γ) r w (primitive_read {s = s} {t = t} key l m p a e x r)
  property_after {γ} {s} {t} l m key a e (objects {o = o} {q = q} p) x r w = go γ (extends_refl γ) r w (object_access {s = s} {t = t} key l m o q a e p x r)

  -- a property of values, by labels that are alike
  pub lock_property : {β : Pairing} {v u : Value} {this that : Val} {l m : Label} (key : List ℕ) → Alike observer l m (SameValue β v u) → Agree observer β this that
      → Lockstep observer tables (AccessesAgree observer) β (property_of l this v key) (property_of m that u key)
  lock_property {v = v} {u = u} {this = this} {that = that} {l = l} {m = m} key (seen h e p) a = record { steps = λ γ x s t r w. property_after {s = s} {t = t} l m key h e (value_more observer x p) (agree_more observer x a) r w }
  lock_property {v = v} {u = u} {this = this} {that = that} {l = l} {m = m} key (hidden h k) a = record { steps = λ γ x s t r w. accesses_apart r w ((mum_property l this v key h).mute s w) ((mum_property m that u key k).mute t (seen_other r w)) }

  properties_after : {γ : Pairing} {v u : Val} {x y : List ℕ} {l m : Label} (s t : State) → Agree observer γ v u → Alike observer l m (x ≡ y) → LowEqual observer tables γ s t → IsSeen observer s
      → InStep observer tables (AccessesAgree observer) γ (property_of (union v.label l) v v.value x s) (property_of (union u.label m) u u.value y t)
  properties_after {γ} {v} {u} {x} {y} {l} {m} s t a b r w = by_label (alike_join observer (λ p q. (p, q)) a b)
    where
      by_label : Alike observer (union v.label l) (union u.label m) (SameValue γ v.value u.value × (x ≡ y)) → InStep observer tables (AccessesAgree observer) γ (property_of (union v.label l) v v.value x s) (property_of (union u.label m) u u.value y t)
      by_label (hidden c d) = accesses_apart r w ((mum_property _ v v.value x c).mute s w) ((mum_property _ u u.value y d).mute t (seen_other r w))
      by_label (seen c e p) = subst (λ k. InStep observer tables (AccessesAgree observer) γ (property_of (union v.label l) v v.value x s) (property_of (union u.label m) u u.value k t)) p.1
          (property_after {s = s} {t = t} (union v.label l) (union u.label m) x c e p.0 a r w)

  globally_after : {γ : Pairing} {s t : State} (key : List ℕ) (l m : Label) {o u : Option (ℕ × Slot Label)} → Sees observer l → l ≡ m → FoundSame observer γ s.heap t.heap key o u → LowEqual observer tables γ s t → IsSeen observer s
      → InStep observer tables (AccessesAgree observer) γ (found_globally l o s) (found_globally m u t)
  unfolding found_globally
  globally_after {s = s} {t = t} key l m z e not_found r w = thrown_both observer tables (AccessesAgree observer) kinds.ReferenceError s t (seen z e tt) r w
  globally_after {γ} {s} {t} key l m z e (walks.found p x y marks b) r w = go γ (extends_refl γ) r w (held_agree l m z e b (global_agrees {s = s} {t = t} r))

  global_seen : {γ : Pairing} {s t : State} (x : List ℕ) (l m : Label) → Sees observer l → l ≡ m → Alike observer (global_walk s.heap x).walk (global_walk t.heap x).walk (FoundSame observer γ s.heap t.heap x (global_walk s.heap x).at (global_walk t.heap x).at)
      → LowEqual observer tables γ s t → IsSeen observer s → InStep observer tables (AccessesAgree observer) γ (named on_global l x s) (named on_global m x t)
  unfolding named
  global_seen {s = s} {t = t} x l m a e (hidden c d) r w = accesses_apart r w ((mum_globally _ _ (hides_second observer l (global_walk s.heap x).walk c)).mute s w) ((mum_globally _ _ (hides_second observer m (global_walk t.heap x).walk d)).mute t (seen_other r w))
  global_seen {s = s} {t = t} x l m a e (seen c d f) r w = globally_after {s = s} {t = t} x (union l (global_walk s.heap x).walk) (union m (global_walk t.heap x).walk) (sees_union observer l (global_walk s.heap x).walk a c) (ap₂ union e d) f r w

  global_after : {γ : Pairing} {s t : State} (x : List ℕ) {l m : Label} → Alike observer l m (Unit {0}) → LowEqual observer tables γ s t → IsSeen observer s
      → InStep observer tables (AccessesAgree observer) γ (named on_global l x s) (named on_global m x t)
  global_after {γ} {s} {t} x {l} {m} (hidden a b) r w = accesses_apart r w ((mum_global l x a).mute s w) ((mum_global m x b).mute t (seen_other r w))
  global_after {γ} {s} {t} x {l} {m} (seen a e u) r w = global_seen {s = s} {t = t} x l m a e (level_find observer r.heap x (global_pair {s = s} {t = t} r)) r w

  lock_bound : {β : Pairing} {b c : Option (Binding Val)} → FoundAgree observer β b c → Lockstep observer tables (Agree observer) β (bound b) (bound c)
  unfolding bound
  lock_bound missing = record { steps = λ γ e s t r w. thrown_both observer tables (Agree observer) kinds.ReferenceError s t no_cause r w }
  lock_bound {β} (there a) = lock_ret observer tables (Agree observer) β (λ γ e. agree_more observer e a)

  bound_after : {γ : Pairing} {b c : Option (Binding Val)} (s t : State) → FoundAgree observer γ b c → LowEqual observer tables γ s t → IsSeen observer s → InStep observer tables (AccessesAgree observer) γ (as_access (bound b) s) (as_access (bound c) t)
  bound_after {γ} {b} {c} s t q r w =
      (lock_bind observer tables (Agree observer) (AccessesAgree observer) (λ v. ret (has_value v)) (λ v. ret (has_value v)) (lock_bound q) (λ v. conf_ret observer tables (has_value v)) (λ v. conf_ret observer tables (has_value v))
      (λ δ e v u a. lock_ret observer tables (AccessesAgree observer) δ (λ ε x. both_values (agree_more observer x a)))).steps γ (extends_refl γ) s t r w

  record_after : {γ : Pairing} (x : List ℕ) (i j : ℕ) (l m : Label) (s t : State) → γ.records i j ≡ true → LowEqual observer tables γ s t → IsSeen observer s
      → InStep observer tables (AccessesAgree observer) γ (named (in_record i) l x s) (named (in_record j) m x t)
  unfolding named
  record_after {γ} x i j l m s t p r w = bound_after s t (binding_agree observer γ x r.records p) r w

  nowhere_after : {γ : Pairing} (x : List ℕ) (l m : Label) (s t : State) → Alike observer l m (Unit {0}) → LowEqual observer tables γ s t → IsSeen observer s
      → InStep observer tables (AccessesAgree observer) γ (named nowhere l x s) (named nowhere m x t)
  unfolding named
  nowhere_after x l m s t a r w = thrown_both observer tables (AccessesAgree observer) kinds.ReferenceError s t a r w

  value_after : {γ : Pairing} {n m : Reference} (s t : State) → ReferencesAgree observer γ n m → LowEqual observer tables γ s t → IsSeen observer s → InStep observer tables (AccessesAgree observer) γ (accessed n s) (accessed m t)
  unfolding accessed
  value_after {γ} s t (in_records {x = x} {i = i} {j = j} {l = l} {m = m} p) r w = record_after x i j l m s t p r w
  value_after s t (on_globals {x = x} a) r w = global_after {s = s} {t = t} x a r w
  value_after s t (nowheres {x = x} {l = l} {m = m} a) r w = nowhere_after x l m s t a r w
  value_after s t (found_first {x = x} {l = l} {m = m} a b) r w = accesses_apart r w ((mum_global l x a).mute s w) ((mum_nowhere m x b).mute t (seen_other r w))
  value_after s t (found_second {x = x} {l = l} {m = m} a b) r w = accesses_apart r w ((mum_nowhere l x a).mute s w) ((mum_global m x b).mute t (seen_other r w))
  value_after s t (properties a b) r w = properties_after s t a b r w

  pub lock_accessed : {β : Pairing} {n m : Reference} → ReferencesAgree observer β n m → Lockstep observer tables (AccessesAgree observer) β (accessed n) (accessed m)
  lock_accessed q = record { steps = λ γ e s t r w. value_after s t (references_more e q) r w }

  mum_on_global : (walk : Label) (x : List ℕ) → Hides observer walk → Mum observer tables HiddenAccess (accessed (of_name x on_global walk))
  unfolding accessed
  mum_on_global walk x h = mum_global walk x h

  mum_undefined : (walk : Label) → Hides observer walk → Mum observer tables HiddenAccess (ret (has_value (record { value = undefined; label = walk })))
  mum_undefined walk h = mum_ret observer tables HiddenAccess h

  typeof_after : {γ : Pairing} {n m : Reference} (s t : State) → ReferencesAgree observer γ n m → LowEqual observer tables γ s t → IsSeen observer s → InStep observer tables (AccessesAgree observer) γ (accessed_for_typeof n s) (accessed_for_typeof m t)
  unfolding accessed_for_typeof
  typeof_after s t (in_records p) r w = value_after s t (in_records p) r w
  typeof_after s t (on_globals a) r w = value_after s t (on_globals a) r w
  typeof_after {γ} s t (nowheres a) r w = go γ (extends_refl γ) r w (both_values (alike_map observer (λ u. primitives) a))
  typeof_after s t (found_first {x = x} {l = l} {m = m} a b) r w = accesses_apart r w ((mum_on_global l x a).mute s w) ((mum_undefined m b).mute t (seen_other r w))
  typeof_after s t (found_second {x = x} {l = l} {m = m} a b) r w = accesses_apart r w ((mum_undefined l a).mute s w) ((mum_on_global m x b).mute t (seen_other r w))
  typeof_after s t (properties a b) r w = value_after s t (properties a b) r w

  pub lock_typeof : {β : Pairing} {n m : Reference} → ReferencesAgree observer β n m → Lockstep observer tables (AccessesAgree observer) β (accessed_for_typeof n) (accessed_for_typeof m)
  lock_typeof q = record { steps = λ γ e s t r w. typeof_after s t (references_more e q) r w }

  -- ---- a name is resolved

  pub resolved_agree : {γ : Pairing} {s t : State} (x : List ℕ) {i j : ℕ} → LowEqual observer tables γ s t → γ.records i j ≡ true → ReferencesAgree observer γ (resolved s.records s.heap i x) (resolved t.records t.heap j x)
  resolved_agree {γ} {s} {t} x {i} {j} r p = by_lookup (lookup_agree observer γ s.records t.records r.records x i j p)
    where
      by_walk : (f g : Option (ℕ × Slot Label)) {l m : Label} → Alike observer l m (FoundSame observer γ s.heap t.heap x f g) → ReferencesAgree observer γ (of_name x (place_from None f) l) (of_name x (place_from None g) m)
      by_walk None None (hidden a b) = nowheres (hidden a b)
      by_walk None (Some k) (hidden a b) = found_second a b
      by_walk (Some f) None (hidden a b) = found_first a b
      by_walk (Some f) (Some k) (hidden a b) = on_globals (hidden a b)
      by_walk _ _ (seen a e not_found) = nowheres (seen a e tt)
      by_walk _ _ (seen a e (walks.found q y z marks b)) = on_globals (seen a e tt)

      by_lookup : {o u : Option ℕ} → PlacesAgree γ o u → ReferencesAgree observer γ (of_name x (place_from o (global_walk s.heap x).at) (walk_from o (global_walk s.heap x).walk)) (of_name x (place_from u (global_walk t.heap x).at) (walk_from u (global_walk t.heap x).walk))
      by_lookup scopes.nowhere = by_walk _ _ (level_find observer r.heap x (global_pair r))
      by_lookup (somewhere q) = in_records q
