-- Deletions: where the cause can't be seen, and in two runs.
use Rattle.std.proofs.Common.{◌≡◌, ℕ, List, Bool, true, false, Option, Some, None, slice_get, refl, sym, ap, ap₂, subst}
use Rattle.origin_labels.specs.Label.{Label, bottom, union}
use Rattle.flow_policy.specs.Policies.{Tables}
use Rattle.flow_frames.specs.Frames.{context}
use Rattle.js_number.specs.declared.primitive.Primitive.{Primitive}
use Rattle.js_values.specs.declared.value.Value.{Value}
use Rattle.js_values.specs.declared.value.Value.TheVariants as value
use Rattle.js_values.specs.declared.property.Marks.{Marks}
use Rattle.js_values.specs.declared.property.Slot.{Slot}
use Rattle.js_values.specs.Objects.{Object, own}
use Rattle.native_protocol.specs.declared.request.ErrorKind.TheVariants as kinds
use Rattle.es_meaning.specs.Primitives.{own_value_of}
use Rattle.flow_meaning.specs.Scopes.{Val, State}
use Rattle.flow_meaning.specs.Tracked.{throw_error, Reference, of_name, of_property, truth_of, removed_if, removed_own, removed_in, removed_of_primitive, remove_property, remove}
use Rattle.low_equal.specs.Observed.{Sees, Hides, IsSeen}
use Rattle.low_equal.specs.LowEqual.{Pairing, Alike, seen, hidden, SameValue, primitives, objects, Agree, ObjectsAgree, LowEqual}
use Rattle.low_equal.specs.Runs.{Confined, InStep, go, Lockstep}
use Rattle.low_equal.proofs.Labels.{sees_union, hides_first, hides_second}
use Rattle.low_equal.proofs.Agreement.{extends_refl, alike_join, Two, two}
use Rattle.low_equal.proofs.States.{same_context}
use Rattle.low_equal.proofs.Steps.{conf_ret}
use Rattle.low_equal.proofs.Acts.{conf_throw, thrown_both}
use Rattle.low_equal.proofs.Changes.{still_remove, level_remove}
use Rattle.low_equal.proofs.Walks as walks
use Rattle.low_equal.proofs.Walks.{FoundSame, not_found, level_find, level_own, OwnSame, names_nothing, names_both}
use Rattle.low_equal.proofs.Mute.{Mum, HiddenVal, mum_ret, mum_at, mum_throw, values_apart}
use Rattle.low_equal.proofs.HeapSteps.{still_acted, fits_acted, adds_acted, mute_acted, acted_after}
use Rattle.low_equal.proofs.References.{ReferencesAgree, in_records, on_globals, nowheres, found_first, found_second, properties, references_more, conf_at, no_cause, seen_other}

module _ (observer : Label) (tables : Tables) where
  -- ---- deletions

  conf_removed_if : (b : Bool) (place : Label) (o : ℕ) (key : List ℕ) → Confined observer tables (removed_if b place o key)
  unfolding removed_if
  conf_removed_if true place o key = record {
    still = λ s p. still_acted observer tables _ _ s (still_remove observer o key _ s.heap (hides_first observer (context s.frames) place p));
    fits = λ s. fits_acted observer tables _ _ s;
    adds = λ s. adds_acted observer tables _ _ s;
  }
  conf_removed_if false place o key = conf_at observer tables (λ s. throw_error kinds.TypeError place) (λ s. conf_throw observer tables {X = Val} kinds.TypeError place)

  conf_removed_own : (p : Option (Slot Label)) (label structure : Label) (o : ℕ) (key : List ℕ) → Confined observer tables (removed_own p label structure o key)
  unfolding removed_own
  conf_removed_own None label structure o key = conf_ret observer tables _
  conf_removed_own (Some p) label structure o key = conf_at observer tables (λ s. removed_if p.marks.configurable (union label p.existence) o key) (λ s. conf_removed_if _ _ o key)

  conf_removed_in : (p : Option (Object Label)) (label : Label) (o : ℕ) (key : List ℕ) → Confined observer tables (removed_in p label o key)
  unfolding removed_in
  conf_removed_in None label o key = conf_ret observer tables _
  conf_removed_in (Some p) label o key = conf_at observer tables (λ s. removed_own (own key p.rows) label p.structure o key) (λ s. conf_removed_own _ label p.structure o key)

  conf_of_primitive : (own : Option Primitive) (label : Label) → Confined observer tables (removed_of_primitive own label)
  unfolding removed_of_primitive
  conf_of_primitive None label = conf_ret observer tables _
  conf_of_primitive (Some v) label = conf_at observer tables (λ s. throw_error kinds.TypeError label) (λ s. conf_throw observer tables {X = Val} kinds.TypeError label)

  conf_remove_property : (label : Label) (base : Value) (key : List ℕ) → Confined observer tables (remove_property label base key)
  unfolding remove_property
  conf_remove_property label (value.Primitive p) key = conf_at observer tables (λ s. removed_of_primitive (own_value_of p key) label) (λ s. conf_of_primitive _ label)
  conf_remove_property label (value.Object o) key = conf_at observer tables (λ s. removed_in (slice_get s.heap o.0) label o.0 key) (λ s. conf_removed_in _ label o.0 key)

  pub conf_remove : (n : Reference) → Confined observer tables (remove n)
  unfolding remove
  conf_remove (of_name x place walk) = conf_at observer tables (λ s. throw_error kinds.SyntaxError bottom) (λ s. conf_throw observer tables {X = Val} kinds.SyntaxError bottom)
  conf_remove (of_property base key label) = conf_at observer tables (λ s. remove_property (union base.label label) base.value key) (λ s. conf_remove_property _ base.value key)

  -- ---- with labels that are hidden

  abbrev Hid : Val → Type 0
  Hid v = HiddenVal observer tables v

  mum_removed_if : (b : Bool) (place : Label) (o : ℕ) (key : List ℕ) → Hides observer place → Mum observer tables Hid (removed_if b place o key)
  unfolding removed_if
  mum_removed_if true place o key h = record { mute = λ s w. mute_acted observer tables Hid _ _ s h (still_remove observer o key _ s.heap (hides_second observer (context s.frames) place h)) }
  mum_removed_if false place o key h = mum_at observer tables Hid (λ s. throw_error kinds.TypeError place) (λ s. mum_throw observer tables Hid kinds.TypeError place h)

  mum_removed_own : (p : Option (Slot Label)) (label structure : Label) (o : ℕ) (key : List ℕ) → Hides observer (union label (walks.own_walk structure p)) → Mum observer tables Hid (removed_own p label structure o key)
  unfolding removed_own
  mum_removed_own None label structure o key h = mum_ret observer tables Hid h
  mum_removed_own (Some p) label structure o key h = mum_at observer tables Hid (λ s. removed_if p.marks.configurable (union label p.existence) o key) (λ s. mum_removed_if p.marks.configurable (union label p.existence) o key h)

  mum_removed_in : (p : Option (Object Label)) (label : Label) (o : ℕ) (key : List ℕ) → Hides observer label → Mum observer tables Hid (removed_in p label o key)
  unfolding removed_in
  mum_removed_in None label o key h = mum_ret observer tables Hid h
  mum_removed_in (Some p) label o key h = mum_at observer tables Hid (λ s. removed_own (own key p.rows) label p.structure o key)
      (λ s. mum_removed_own (own key p.rows) label p.structure o key (hides_first observer label (walks.own_walk p.structure (own key p.rows)) h))

  mum_of_primitive : (own : Option Primitive) (label : Label) → Hides observer label → Mum observer tables Hid (removed_of_primitive own label)
  unfolding removed_of_primitive
  mum_of_primitive None label h = mum_ret observer tables Hid h
  mum_of_primitive (Some v) label h = mum_at observer tables Hid (λ s. throw_error kinds.TypeError label) (λ s. mum_throw observer tables Hid kinds.TypeError label h)

  pub mum_remove_property : (label : Label) (base : Value) (key : List ℕ) → Hides observer label → Mum observer tables Hid (remove_property label base key)
  unfolding remove_property
  mum_remove_property label (value.Primitive p) key h = mum_at observer tables Hid (λ s. removed_of_primitive (own_value_of p key) label) (λ s. mum_of_primitive _ label h)
  mum_remove_property label (value.Object o) key h = mum_at observer tables Hid (λ s. removed_in (slice_get s.heap o.0) label o.0 key) (λ s. mum_removed_in (slice_get s.heap o.0) label o.0 key h)

  -- ---- in two runs

  truth_agree : {γ : Pairing} (b : Bool) {l m : Label} → Sees observer l → l ≡ m → Agree observer γ (truth_of b l) (truth_of b m)
  truth_agree b h e = seen h e primitives

  removed_if_after : {γ : Pairing} (b : Bool) (i j : ℕ) (key : List ℕ) {l m : Label} (s t : State) → Sees observer l → l ≡ m → γ.objects i j ≡ true → LowEqual observer tables γ s t → IsSeen observer s
      → InStep observer tables (Agree observer) γ (removed_if b l i key s) (removed_if b m j key t)
  unfolding removed_if
  removed_if_after true i j key {l} {m} s t h e p r w = acted_after observer tables (Agree observer) s t
      (level_remove observer r.heap (seen (sees_union observer (context s.frames) l w h) (ap₂ union (same_context observer tables r w) e) (p, refl))) (truth_agree true h e) r w
  removed_if_after false i j key {l} {m} s t h e p r w = thrown_both observer tables (Agree observer) kinds.TypeError s t (seen h e tt) r w

  removed_own_after : {γ : Pairing} {o u : Option (Slot Label)} (i j : ℕ) (key : List ℕ) {l m : Label} (a b : Label) (s t : State) → Sees observer l → l ≡ m → Sees observer (walks.own_walk a o) → walks.own_walk a o ≡ walks.own_walk b u → OwnSame observer γ o u
      → γ.objects i j ≡ true → LowEqual observer tables γ s t → IsSeen observer s → InStep observer tables (Agree observer) γ (removed_own o l a i key s) (removed_own u m b j key t)
  unfolding removed_own
  removed_own_after i j key {l} {m} a b s t h e c d names_nothing p r w = go _ (extends_refl _) r w (truth_agree true (sees_union observer l a h c) (ap₂ union e d))
  removed_own_after {γ} i j key {l} {m} a b s t h e c d (names_both {s = x} {t = y} marks z) p r w =
      subst (λ k. InStep observer tables (Agree observer) γ (removed_if x.marks.configurable (union l x.existence) i key s) (removed_if k (union m y.existence) j key t)) (ap (λ (k : Marks). k.configurable) marks)
      (removed_if_after x.marks.configurable i j key s t (sees_union observer l x.existence h c) (ap₂ union e d) p r w)

  -- paired objects stand
  removed_in_after : {γ : Pairing} (i j : ℕ) (key : List ℕ) {l m : Label} (s t : State) → Sees observer l → l ≡ m → γ.objects i j ≡ true → Two (ObjectsAgree observer γ) (slice_get s.heap i) (slice_get t.heap j) → LowEqual observer tables γ s t → IsSeen observer s
      → InStep observer tables (Agree observer) γ (removed_in (slice_get s.heap i) l i key s) (removed_in (slice_get t.heap j) m j key t)
  unfolding removed_in
  removed_in_after {γ} i j key {l} {m} s t h e p z r w =
      subst (λ x. InStep observer tables (Agree observer) γ (removed_in x l i key s) (removed_in (slice_get t.heap j) m j key t)) (sym z.is_one)
      (subst (λ x. InStep observer tables (Agree observer) γ (removed_in (Some z.one) l i key s) (removed_in x m j key t)) (sym z.is_other)
      (by_test (level_own observer r.heap key z.one z.other p z.is_one z.is_other)))
    where
      by_test : Alike observer (walks.own_walk z.one.structure (own key z.one.rows)) (walks.own_walk z.other.structure (own key z.other.rows)) (OwnSame observer γ (own key z.one.rows) (own key z.other.rows))
          → InStep observer tables (Agree observer) γ (removed_own (own key z.one.rows) l z.one.structure i key s) (removed_own (own key z.other.rows) m z.other.structure j key t)
      by_test (hidden a b) = values_apart observer tables r w ((mum_removed_own (own key z.one.rows) l z.one.structure i key (hides_second observer l (walks.own_walk z.one.structure (own key z.one.rows)) a)).mute s w)
          ((mum_removed_own (own key z.other.rows) m z.other.structure j key (hides_second observer m (walks.own_walk z.other.structure (own key z.other.rows)) b)).mute t (seen_other observer tables r w))
      by_test (seen a b o) = removed_own_after i j key z.one.structure z.other.structure s t h e a b o p r w

  primitive_after : {γ : Pairing} (own : Option Primitive) {l m : Label} (s t : State) → Sees observer l → l ≡ m → LowEqual observer tables γ s t → IsSeen observer s
      → InStep observer tables (Agree observer) γ (removed_of_primitive own l s) (removed_of_primitive own m t)
  unfolding removed_of_primitive
  primitive_after None s t h e r w = go _ (extends_refl _) r w (truth_agree true h e)
  primitive_after (Some v) s t h e r w = thrown_both observer tables (Agree observer) kinds.TypeError s t (seen h e tt) r w

  remove_property_after : {γ : Pairing} {b c : Value} (key : List ℕ) {l m : Label} (s t : State) → Sees observer l → l ≡ m → SameValue γ b c → LowEqual observer tables γ s t → IsSeen observer s
      → InStep observer tables (Agree observer) γ (remove_property l b key s) (remove_property m c key t)
  unfolding remove_property
  remove_property_after key s t h e (primitives {p = p}) r w = primitive_after (own_value_of p key) s t h e r w
  remove_property_after key s t h e (objects {o = o} {q = q} p) r w = removed_in_after o.0 q.0 key s t h e p (two (r.heap.paired o.0 q.0 p)) r w

  removes_after : {γ : Pairing} {b c : Val} {x y : List ℕ} {l m : Label} (s t : State) → Agree observer γ b c → Alike observer l m (x ≡ y) → LowEqual observer tables γ s t → IsSeen observer s
      → InStep observer tables (Agree observer) γ (remove_property (union b.label l) b.value x s) (remove_property (union c.label m) c.value y t)
  removes_after {γ} {b} {c} {x} {y} {l} {m} s t z k r w = by_label (alike_join observer (λ p q. (p, q)) z k)
    where
      by_label : Alike observer (union b.label l) (union c.label m) (SameValue γ b.value c.value × (x ≡ y)) → InStep observer tables (Agree observer) γ (remove_property (union b.label l) b.value x s) (remove_property (union c.label m) c.value y t)
      by_label (hidden d e) = values_apart observer tables r w ((mum_remove_property _ b.value x d).mute s w) ((mum_remove_property _ c.value y e).mute t (seen_other observer tables r w))
      by_label (seen d e p) = subst (λ i. InStep observer tables (Agree observer) γ (remove_property (union b.label l) b.value x s) (remove_property (union c.label m) c.value i t)) p.1 (remove_property_after x s t d e p.0 r w)

  -- a name can't be deleted in strict code
  no_name : {γ : Pairing} (s t : State) → LowEqual observer tables γ s t → IsSeen observer s → InStep observer tables (Agree observer) γ (throw_error kinds.SyntaxError bottom s) (throw_error kinds.SyntaxError bottom t)
  no_name s t r w = thrown_both observer tables (Agree observer) kinds.SyntaxError s t (no_cause observer tables) r w

  remove_after : {γ : Pairing} {n m : Reference} (s t : State) → ReferencesAgree observer γ n m → LowEqual observer tables γ s t → IsSeen observer s → InStep observer tables (Agree observer) γ (remove n s) (remove m t)
  unfolding remove
  remove_after s t (in_records p) r w = no_name s t r w
  remove_after s t (on_globals z) r w = no_name s t r w
  remove_after s t (nowheres z) r w = no_name s t r w
  remove_after s t (found_first h k) r w = no_name s t r w
  remove_after s t (found_second h k) r w = no_name s t r w
  remove_after s t (properties z k) r w = removes_after s t z k r w

  pub lock_remove : {β : Pairing} {n m : Reference} → ReferencesAgree observer β n m → Lockstep observer tables (Agree observer) β (remove n) (remove m)
  lock_remove q = record { steps = λ γ e s t r w. remove_after s t (references_more observer tables e q) r w }
