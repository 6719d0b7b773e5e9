-- What built-ins ask of an object: its own property, its prototype, whether it may get properties, and that it may not: where the cause can't be seen, and in
-- two runs.
use Rattle.std.proofs.Common.{◌≡◌, ℕ, ◌+◌, List, Bool, true, pos, Option, Some, None, slice_get, refl, sym, ap₂, subst}
use Rattle.origin_labels.specs.Label.{Label, union}
use Rattle.flow_policy.specs.Policies.{Tables}
use Rattle.flow_frames.specs.Frames.{context}
use Rattle.js_number.specs.declared.num.Num.TheVariants.{Int}
use Rattle.js_number.specs.declared.primitive.Primitive.TheVariants.{Num}
use Rattle.js_number.specs.declared.primitive.Primitive.TheVariants as prims
use Rattle.native_protocol.specs.declared.request.ErrorKind.TheVariants as kinds
use Rattle.js_values.specs.declared.ids.ObjId.{ObjId}
use Rattle.js_values.specs.declared.value.Value.{Value}
use Rattle.js_values.specs.declared.value.Value.TheVariants as value
use Rattle.js_values.specs.declared.property.Marks.{Marks}
use Rattle.js_values.specs.declared.property.Body.{Body}
use Rattle.js_values.specs.declared.property.Slot.{Slot}
use Rattle.js_values.specs.Objects.{Object, own}
use Rattle.es_meaning.specs.Operations.{OwnPart, own_marks, own_value, own_getter, own_setter}
use Rattle.es_meaning.specs.Definitions.{is_accessor, value_in}
use Rattle.es_meaning.specs.Requested.{mark_of, marks_number, function_value, part_of_property, reference_or_null}
use Rattle.flow_meaning.specs.Erased.{erased_slot}
use Rattle.flow_meaning.specs.Scopes.{Val, State, L}
use Rattle.flow_meaning.specs.Tracked.{throw_error, truth_of, on_object_in, on_object, own_property_in, prototype_in, extensible_in, prevent}
use Rattle.flow_meaning.specs.Requested.{own_test, part_label, known_of}
use Rattle.low_equal.specs.Observed.{Sees, Hides, IsSeen}
use Rattle.low_equal.specs.LowEqual.{Pairing, Alike, seen, hidden, SameValue, primitives, objects, SameObject, neither, both, Agree, BodiesAgree, data_bodies, accessors, ShapesAgree, seen_shape, hidden_shape, ObjectsAgree, LowEqual}
use Rattle.low_equal.specs.Runs.{Confined, InStep, go}
use Rattle.low_equal.proofs.Labels.{sees_union, hides_first, hides_second, sees_bottom}
use Rattle.low_equal.proofs.Agreement.{extends_refl, alike_map, alike_join, two}
use Rattle.low_equal.proofs.States.{same_context}
use Rattle.low_equal.proofs.Steps.{conf_ret}
use Rattle.low_equal.proofs.Acts.{conf_throw, thrown_both}
use Rattle.low_equal.proofs.Changes.{still_prevent_extensions, level_prevent_extensions}
use Rattle.low_equal.proofs.Walks.{own_walk, level_own, OwnSame, names_nothing, names_both}
use Rattle.low_equal.proofs.Mute.{Mum, HiddenVal, mum_ret, mum_at, mum_throw, mute_both}
use Rattle.low_equal.proofs.HeapSteps.{still_acted, fits_acted, adds_acted, mute_acted, acted_after}
use Rattle.low_equal.proofs.References.{conf_at, seen_other}
use Rattle.low_equal.proofs.ObjectActs.{getters_same, setters_same}

-- the label of an own test
pub own_test_is : (o : Option (Slot Label)) (structure : Label) → own_test o structure ≡ own_walk structure o
own_test_is None structure = refl
own_test_is (Some s) structure = refl

module _ (observer : Label) where
  -- ---- parts of bodies that agree

  functions_agree : {γ : Pairing} {f g : Option ObjId} → SameObject γ f g → SameValue γ (function_value f) (function_value g)
  functions_agree neither = primitives
  functions_agree (both p) = objects p

  pub values_same : {γ : Pairing} {l m : Label} {a b : Body} → BodiesAgree observer γ l m a b → Alike observer l m (SameValue γ (value_in a) (value_in b))
  values_same (data_bodies r) = r
  values_same (accessors r) = alike_map observer (λ x. primitives) r

  -- the kind of a property is known with its existence
  pub kinds_same : {γ : Pairing} {l m : Label} {a b : Body} → BodiesAgree observer γ l m a b → is_accessor a ≡ is_accessor b
  kinds_same (data_bodies r) = refl
  kinds_same (accessors r) = refl

  number_same : {γ : Pairing} (n m : ℕ) → n ≡ m → SameValue γ (value.Primitive (Num (Int (pos n)))) (value.Primitive (Num (Int (pos m))))
  number_same {γ} n m e = subst (λ k. SameValue γ (value.Primitive (Num (Int (pos n)))) (value.Primitive (Num (Int (pos k))))) e primitives

  pub part_agrees : {γ : Pairing} (part : OwnPart) (s t : Slot Label) → s.marks ≡ t.marks → BodiesAgree observer γ s.label t.label s.body t.body
      → Alike observer (part_label part s.label) (part_label part t.label) (SameValue γ (part_of_property part (erased_slot s)) (part_of_property part (erased_slot t)))
  part_agrees {γ} own_marks s t e b = seen (sees_bottom observer) refl (number_same (marks_number (erased_slot s)) (marks_number (erased_slot t))
      (ap₂ (λ (m : Marks) (k : Bool). mark_of 1 m.writable + mark_of 2 m.enumerable + mark_of 4 m.configurable + mark_of 8 k) e (kinds_same b)))
  part_agrees own_value s t e b = values_same b
  part_agrees own_getter s t e b = alike_map observer (λ x. functions_agree x) (getters_same observer b)
  part_agrees own_setter s t e b = alike_map observer (λ x. functions_agree x) (setters_same observer b)

  reference_agrees : {γ : Pairing} {o q : Option ObjId} → SameObject γ o q → SameValue γ (reference_or_null o) (reference_or_null q)
  reference_agrees neither = primitives
  reference_agrees (both p) = objects p

module _ (observer : Label) (tables : Tables) where
  abbrev Hid : Val → Type 0
  Hid v = HiddenVal observer tables v

  -- ---- what is done with an object, or an exception by the label of the value

  pub conf_on_object : {X : Type 0} (label : Label) (v : Value) {next : ℕ → L X} → ((o : ℕ) → Confined observer tables (next o)) → Confined observer tables (on_object_in label v next)
  unfolding on_object_in
  conf_on_object {X} label (value.Primitive p) c = conf_at observer tables (λ s. throw_error kinds.TypeError label) (λ s. conf_throw observer tables {X = X} kinds.TypeError label)
  conf_on_object label (value.Object o) {next} c = conf_at observer tables (λ s. next o.0) (λ s. c o.0)

  -- with results that can't be seen
  pub mum_on : {X : Type 0} (H : X → Type 0) (label : Label) (v : Value) {next : ℕ → L X} → Hides observer label → ((o : ℕ) → Mum observer tables H (next o)) → Mum observer tables H (on_object_in label v next)
  unfolding on_object_in
  mum_on H label (value.Primitive p) h c = mum_at observer tables H (λ s. throw_error kinds.TypeError label) (λ s. mum_throw observer tables H kinds.TypeError label h)
  mum_on H label (value.Object o) {next} h c = mum_at observer tables H (λ s. next o.0) (λ s. c o.0)

  pub mum_on_object : (label : Label) (v : Value) {next : ℕ → L Val} → Hides observer label → ((o : ℕ) → Mum observer tables Hid (next o)) → Mum observer tables Hid (on_object_in label v next)
  mum_on_object label v h c = mum_on Hid label v h c

  -- of the same values, by a label that is seen
  on_seen : {X : Type 0} (Q : Pairing → X → X → Type 0) {γ : Pairing} {x y : Value} (l m : Label) (f g : ℕ → L X) (s t : State) → Sees observer l → l ≡ m → SameValue γ x y
      → ((i j : ℕ) → γ.objects i j ≡ true → InStep observer tables Q γ (f i s) (g j t)) → LowEqual observer tables γ s t → IsSeen observer s
      → InStep observer tables Q γ (on_object_in l x f s) (on_object_in m y g t)
  unfolding on_object_in
  on_seen Q l m f g s t h e primitives k r w = thrown_both observer tables Q kinds.TypeError s t (seen h e tt) r w
  on_seen Q l m f g s t h e (objects {o = o} {q = q} p) k r w = k o.0 q.0 p

  -- of values that agree: where their label is hidden each is done by itself
  pub on_after : {X : Type 0} (H : X → Type 0) (Q : Pairing → X → X → Type 0) {γ : Pairing} {v u : Val} (f g : ℕ → L X) (s t : State) → Agree observer γ v u → ((x y : X) → H x → H y → Q γ x y)
      → (Hides observer v.label → (o : ℕ) → Mum observer tables H (f o)) → (Hides observer u.label → (o : ℕ) → Mum observer tables H (g o))
      → (Sees observer v.label → v.label ≡ u.label → (i j : ℕ) → γ.objects i j ≡ true → InStep observer tables Q γ (f i s) (g j t)) → LowEqual observer tables γ s t → IsSeen observer s
      → InStep observer tables Q γ (on_object v f s) (on_object u g t)
  on_after H Q {v = v} {u = u} f g s t (hidden h k) apart c d x r w = mute_both observer tables H Q apart r w ((mum_on H v.label v.value h (c h)).mute s w) ((mum_on H u.label u.value k (d k)).mute t (seen_other observer tables r w))
  on_after H Q {v = v} {u = u} f g s t (seen h e p) apart c d x r w = on_seen Q v.label u.label f g s t h e p (x h e) r w

  pub object_after : {γ : Pairing} {v u : Val} (f g : ℕ → L Val) (s t : State) → Agree observer γ v u
      → (Hides observer v.label → (o : ℕ) → Mum observer tables Hid (f o)) → (Hides observer u.label → (o : ℕ) → Mum observer tables Hid (g o))
      → (Sees observer v.label → v.label ≡ u.label → (i j : ℕ) → γ.objects i j ≡ true → InStep observer tables (Agree observer) γ (f i s) (g j t)) → LowEqual observer tables γ s t → IsSeen observer s
      → InStep observer tables (Agree observer) γ (on_object v f s) (on_object u g t)
  object_after f g s t a c d x r w = on_after Hid (Agree observer) f g s t a (λ x y h k. hidden h k) c d x r w

  -- both objects of a pair stand
  pub both_there : {X : Type 0} (Q : Pairing → X → X → Type 0) {γ : Pairing} (m n : Option (Object Label) → L X) (i j : ℕ) (s t : State) → LowEqual observer tables γ s t → γ.objects i j ≡ true
      → ((p q : Object Label) → slice_get s.heap i ≡ Some p → slice_get t.heap j ≡ Some q → ObjectsAgree observer γ p q → InStep observer tables Q γ (m (Some p) s) (n (Some q) t))
      → InStep observer tables Q γ (m (slice_get s.heap i) s) (n (slice_get t.heap j) t)
  both_there Q {γ} m n i j s t r e k =
      let z = two (r.heap.paired i j e) in
      subst (λ x. InStep observer tables Q γ (m x s) (n (slice_get t.heap j) t)) (sym z.is_one)
      (subst (λ x. InStep observer tables Q γ (m (Some z.one) s) (n x t)) (sym z.is_other) (k z.one z.other z.is_one z.is_other z.related))

  -- ---- an own property

  conf_own : (part : OwnPart) (key : List ℕ) (label : Label) (p : Option (Object Label)) → Confined observer tables (own_property_in part key label p)
  unfolding own_property_in
  conf_own part key label None = conf_ret observer tables _
  conf_own part key label (Some p) = conf_ret observer tables _

  hidden_known : (part : OwnPart) (label structure : Label) (o : Option (Slot Label)) → Hides observer (union label (own_walk structure o)) → Hid (known_of part label structure o)
  hidden_known part label structure None h = h
  hidden_known part label structure (Some p) h = hides_first observer (union label p.existence) (part_label part p.label) h

  mum_own : (part : OwnPart) (key : List ℕ) (label : Label) (p : Option (Object Label)) → Hides observer label → Mum observer tables Hid (own_property_in part key label p)
  unfolding own_property_in
  mum_own part key label None h = mum_ret observer tables Hid h
  mum_own part key label (Some p) h = mum_ret observer tables Hid (hidden_known part label p.structure (own key p.rows) (hides_first observer label (own_walk p.structure (own key p.rows)) h))

  known_agree : {γ : Pairing} (part : OwnPart) (l m a b : Label) {o u : Option (Slot Label)} → Sees observer l → l ≡ m → Alike observer (own_walk a o) (own_walk b u) (OwnSame observer γ o u) → Agree observer γ (known_of part l a o) (known_of part m b u)
  known_agree part l m a b {o} {u} h e (hidden x y) = hidden (hidden_known part l a o (hides_second observer l (own_walk a o) x)) (hidden_known part m b u (hides_second observer m (own_walk b u) y))
  known_agree part l m a b h e (seen x y names_nothing) = seen (sees_union observer l a h x) (ap₂ union e y) primitives
  known_agree part l m a b h e (seen x y (names_both {s = s} {t = t} marks z)) = alike_join observer (λ (c : Unit {0}) d. d) (seen (sees_union observer l s.existence h x) (ap₂ union e y) tt) (part_agrees observer part s t marks z)

  own_both : {γ : Pairing} (part : OwnPart) (key : List ℕ) (l m : Label) (i j : ℕ) (s t : State) → Sees observer l → l ≡ m → γ.objects i j ≡ true → LowEqual observer tables γ s t → IsSeen observer s
      → InStep observer tables (Agree observer) γ (own_property_in part key l (slice_get s.heap i) s) (own_property_in part key m (slice_get t.heap j) t)
  unfolding own_property_in
  own_both {γ} part key l m i j s t h e x r w = both_there (Agree observer) (own_property_in part key l) (own_property_in part key m) i j s t r x
      (λ p q a b z. go γ (extends_refl γ) r w (known_agree part l m p.structure q.structure h e (level_own observer r.heap key p q x a b)))

  pub conf_own_property : (part : OwnPart) (key : List ℕ) (v : Val) → Confined observer tables (on_object v (λ o s. own_property_in part key v.label (slice_get s.heap o) s))
  conf_own_property part key v = conf_on_object v.label v.value (λ o. conf_at observer tables (λ s. own_property_in part key v.label (slice_get s.heap o)) (λ s. conf_own part key v.label (slice_get s.heap o)))

  pub own_property_after : {γ : Pairing} (part : OwnPart) (key : List ℕ) {v u : Val} (s t : State) → Agree observer γ v u → LowEqual observer tables γ s t → IsSeen observer s
      → InStep observer tables (Agree observer) γ (on_object v (λ o k. own_property_in part key v.label (slice_get k.heap o) k) s) (on_object u (λ o k. own_property_in part key u.label (slice_get k.heap o) k) t)
  own_property_after part key {v} {u} s t a r w = object_after (λ o k. own_property_in part key v.label (slice_get k.heap o) k) (λ o k. own_property_in part key u.label (slice_get k.heap o) k) s t a
      (λ h o. mum_at observer tables Hid (λ k. own_property_in part key v.label (slice_get k.heap o)) (λ k. mum_own part key v.label (slice_get k.heap o) h))
      (λ h o. mum_at observer tables Hid (λ k. own_property_in part key u.label (slice_get k.heap o)) (λ k. mum_own part key u.label (slice_get k.heap o) h))
      (λ h e i j x. own_both part key v.label u.label i j s t h e x r w) r w

  -- ---- the prototype

  conf_prototype_in : (label : Label) (p : Option (Object Label)) → Confined observer tables (prototype_in label p)
  unfolding prototype_in
  conf_prototype_in label None = conf_ret observer tables _
  conf_prototype_in label (Some p) = conf_ret observer tables _

  mum_prototype_in : (label : Label) (p : Option (Object Label)) → Hides observer label → Mum observer tables Hid (prototype_in label p)
  unfolding prototype_in
  mum_prototype_in label None h = mum_ret observer tables Hid h
  mum_prototype_in label (Some p) h = mum_ret observer tables Hid (hides_first observer label p.link h)

  prototype_both : {γ : Pairing} (l m : Label) (i j : ℕ) (s t : State) → Sees observer l → l ≡ m → γ.objects i j ≡ true → LowEqual observer tables γ s t → IsSeen observer s
      → InStep observer tables (Agree observer) γ (prototype_in l (slice_get s.heap i) s) (prototype_in m (slice_get t.heap j) t)
  unfolding prototype_in
  prototype_both {γ} l m i j s t h e x r w = both_there (Agree observer) (prototype_in l) (prototype_in m) i j s t r x
      (λ p q a b z. go γ (extends_refl γ) r w (alike_join observer (λ (c : Unit {0}) d. reference_agrees observer d) (seen h e tt) z.links))

  pub conf_prototype : (v : Val) → Confined observer tables (on_object v (λ o s. prototype_in v.label (slice_get s.heap o) s))
  conf_prototype v = conf_on_object v.label v.value (λ o. conf_at observer tables (λ s. prototype_in v.label (slice_get s.heap o)) (λ s. conf_prototype_in v.label (slice_get s.heap o)))

  pub prototype_after : {γ : Pairing} {v u : Val} (s t : State) → Agree observer γ v u → LowEqual observer tables γ s t → IsSeen observer s
      → InStep observer tables (Agree observer) γ (on_object v (λ o k. prototype_in v.label (slice_get k.heap o) k) s) (on_object u (λ o k. prototype_in u.label (slice_get k.heap o) k) t)
  prototype_after {v = v} {u = u} s t a r w = object_after (λ o k. prototype_in v.label (slice_get k.heap o) k) (λ o k. prototype_in u.label (slice_get k.heap o) k) s t a
      (λ h o. mum_at observer tables Hid (λ k. prototype_in v.label (slice_get k.heap o)) (λ k. mum_prototype_in v.label (slice_get k.heap o) h))
      (λ h o. mum_at observer tables Hid (λ k. prototype_in u.label (slice_get k.heap o)) (λ k. mum_prototype_in u.label (slice_get k.heap o) h))
      (λ h e i j x. prototype_both v.label u.label i j s t h e x r w) r w

  -- ---- whether there may be further properties

  conf_extensible_in : (label : Label) (p : Option (Object Label)) → Confined observer tables (extensible_in label p)
  unfolding extensible_in
  conf_extensible_in label None = conf_ret observer tables _
  conf_extensible_in label (Some p) = conf_ret observer tables _

  mum_extensible_in : (label : Label) (p : Option (Object Label)) → Hides observer label → Mum observer tables Hid (extensible_in label p)
  unfolding extensible_in
  mum_extensible_in label None h = mum_ret observer tables Hid h
  mum_extensible_in label (Some p) h = mum_ret observer tables Hid (hides_first observer label p.structure h)

  truth_same : {γ : Pairing} (b c : Bool) (l m : Label) → b ≡ c → Sees observer l → l ≡ m → Agree observer γ (truth_of b l) (truth_of c m)
  truth_same {γ} b c l m e h d = seen h d (subst (λ x. SameValue γ (value.Primitive (prims.Bool b)) (value.Primitive (prims.Bool x))) e primitives)

  extensible_agree : {γ : Pairing} (l m : Label) {p q : Object Label} → Sees observer l → l ≡ m → ShapesAgree observer γ p q → Agree observer γ (truth_of p.extensible (union l p.structure)) (truth_of q.extensible (union m q.structure))
  extensible_agree l m {p} {q} h e (seen_shape a b x r) = truth_same p.extensible q.extensible (union l p.structure) (union m q.structure) x (sees_union observer l p.structure h a) (ap₂ union e b)
  extensible_agree l m {p} {q} h e (hidden_shape a b r) = hidden (hides_second observer l p.structure a) (hides_second observer m q.structure b)

  extensible_both : {γ : Pairing} (l m : Label) (i j : ℕ) (s t : State) → Sees observer l → l ≡ m → γ.objects i j ≡ true → LowEqual observer tables γ s t → IsSeen observer s
      → InStep observer tables (Agree observer) γ (extensible_in l (slice_get s.heap i) s) (extensible_in m (slice_get t.heap j) t)
  unfolding extensible_in
  extensible_both {γ} l m i j s t h e x r w = both_there (Agree observer) (extensible_in l) (extensible_in m) i j s t r x (λ p q a b z. go γ (extends_refl γ) r w (extensible_agree l m h e z.shapes))

  pub conf_extensible : (v : Val) → Confined observer tables (on_object v (λ o s. extensible_in v.label (slice_get s.heap o) s))
  conf_extensible v = conf_on_object v.label v.value (λ o. conf_at observer tables (λ s. extensible_in v.label (slice_get s.heap o)) (λ s. conf_extensible_in v.label (slice_get s.heap o)))

  pub extensible_after : {γ : Pairing} {v u : Val} (s t : State) → Agree observer γ v u → LowEqual observer tables γ s t → IsSeen observer s
      → InStep observer tables (Agree observer) γ (on_object v (λ o k. extensible_in v.label (slice_get k.heap o) k) s) (on_object u (λ o k. extensible_in u.label (slice_get k.heap o) k) t)
  extensible_after {v = v} {u = u} s t a r w = object_after (λ o k. extensible_in v.label (slice_get k.heap o) k) (λ o k. extensible_in u.label (slice_get k.heap o) k) s t a
      (λ h o. mum_at observer tables Hid (λ k. extensible_in v.label (slice_get k.heap o)) (λ k. mum_extensible_in v.label (slice_get k.heap o) h))
      (λ h o. mum_at observer tables Hid (λ k. extensible_in u.label (slice_get k.heap o)) (λ k. mum_extensible_in u.label (slice_get k.heap o) h))
      (λ h e i j x. extensible_both v.label u.label i j s t h e x r w) r w

  -- ---- that there may not be any

  conf_prevent_at : (label : Label) (o : ℕ) → Confined observer tables (prevent label o)
  unfolding prevent
  conf_prevent_at label o = record {
    still = λ s p. still_acted observer tables _ _ s (still_prevent_extensions observer o _ s.heap (hides_first observer (context s.frames) label p));
    fits = λ s. fits_acted observer tables _ _ s;
    adds = λ s. adds_acted observer tables _ _ s;
  }

  mum_prevent_at : (label : Label) (o : ℕ) → Hides observer label → Mum observer tables Hid (prevent label o)
  unfolding prevent
  mum_prevent_at label o h = record { mute = λ s w. mute_acted observer tables Hid _ _ s h (still_prevent_extensions observer o _ s.heap (hides_second observer (context s.frames) label h)) }

  prevent_both : {γ : Pairing} (l m : Label) (i j : ℕ) (s t : State) → Sees observer l → l ≡ m → γ.objects i j ≡ true → LowEqual observer tables γ s t → IsSeen observer s
      → InStep observer tables (Agree observer) γ (prevent l i s) (prevent m j t)
  unfolding prevent
  prevent_both l m i j s t h e x r w = acted_after observer tables (Agree observer) s t
      (level_prevent_extensions observer r.heap (seen (sees_union observer (context s.frames) l w h) (ap₂ union (same_context observer tables r w) e) x)) (seen h e primitives) r w

  pub conf_prevent : (v : Val) → Confined observer tables (on_object v (prevent v.label))
  conf_prevent v = conf_on_object v.label v.value (λ o. conf_prevent_at v.label o)

  pub prevent_after : {γ : Pairing} {v u : Val} (s t : State) → Agree observer γ v u → LowEqual observer tables γ s t → IsSeen observer s
      → InStep observer tables (Agree observer) γ (on_object v (prevent v.label) s) (on_object u (prevent u.label) t)
  prevent_after {v = v} {u = u} s t a r w = object_after (prevent v.label) (prevent u.label) s t a (λ h o. mum_prevent_at v.label o h) (λ h o. mum_prevent_at u.label o h)
      (λ h e i j x. prevent_both v.label u.label i j s t h e x r w) r w
