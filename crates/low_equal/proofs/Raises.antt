-- Requests that raise labels of objects: where the cause can't be seen, and in two runs.
use Rattle.std.proofs.Common.{◌≡◌, ℕ, List, true, Some, slice_get, refl, sym, ap₂, subst}
use Rattle.origin_labels.specs.Label.{Label, union, label_of}
use Rattle.flow_policy.specs.Policies.{Tables}
use Rattle.flow_frames.specs.Frames.{context}
use Rattle.js_values.specs.Objects.{own}
use Rattle.flow_meaning.specs.Scopes.{Val, State}
use Rattle.flow_meaning.specs.Tracked.{on_object, raise_structure, raise_existence}
use Rattle.flow_meaning.specs.Requested.{own_test, own_walk}
use Rattle.low_equal.specs.Observed.{Sees, Hides, IsSeen}
use Rattle.low_equal.specs.LowEqual.{Pairing, Alike, seen, primitives, Agree, LowEqual}
use Rattle.low_equal.specs.Runs.{Confined, InStep}
use Rattle.low_equal.proofs.Labels.{sees_union, hides_first, hides_second}
use Rattle.low_equal.proofs.Agreement.{alike_refl, alike_map, alike_join, two}
use Rattle.low_equal.proofs.States.{same_context}
use Rattle.low_equal.proofs.Changes.{still_raise_structure, still_raise_existence, level_raise_structure, level_raise_existence}
use Rattle.low_equal.proofs.Walks as walks
use Rattle.low_equal.proofs.Walks.{level_own}
use Rattle.low_equal.proofs.Mute.{Mum, HiddenVal}
use Rattle.low_equal.proofs.HeapSteps.{still_acted, fits_acted, adds_acted, mute_acted, acted_after}
use Rattle.low_equal.proofs.Owns.{own_test_is, conf_on_object, object_after}

module _ (observer : Label) (tables : Tables) (origins : List ℕ) where
  abbrev Hid : Val → Type 0
  Hid v = HiddenVal observer tables v

  -- ---- the structure label of an object

  conf_structure : (label : Label) (o : ℕ) → Confined observer tables (raise_structure origins label o)
  unfolding raise_structure
  conf_structure label o = record {
    still = λ s p. still_acted observer tables _ _ s (still_raise_structure observer o _ (label_of origins) s.heap (hides_first observer (context s.frames) label p));
    fits = λ s. fits_acted observer tables _ _ s;
    adds = λ s. adds_acted observer tables _ _ s;
  }

  mum_structure : (label : Label) (o : ℕ) → Hides observer label → Mum observer tables Hid (raise_structure origins label o)
  unfolding raise_structure
  mum_structure label o h = record { mute = λ s w. mute_acted observer tables Hid _ _ s h (still_raise_structure observer o _ (label_of origins) s.heap (hides_second observer (context s.frames) label h)) }

  structure_both : {γ : Pairing} (l m : Label) (i j : ℕ) (s t : State) → Sees observer l → l ≡ m → γ.objects i j ≡ true → LowEqual observer tables γ s t → IsSeen observer s
      → InStep observer tables (Agree observer) γ (raise_structure origins l i s) (raise_structure origins m j t)
  unfolding raise_structure
  structure_both l m i j s t h e x r w = acted_after observer tables (Agree observer) s t
      (level_raise_structure observer r.heap (seen (sees_union observer (context s.frames) l w h) (ap₂ union (same_context observer tables r w) e) (x, alike_refl observer (label_of origins)))) (seen h e primitives) r w

  pub conf_raise_structure : (v : Val) → Confined observer tables (on_object v (raise_structure origins v.label))
  conf_raise_structure v = conf_on_object observer tables v.label v.value (λ o. conf_structure v.label o)

  pub raise_structure_after : {γ : Pairing} {v u : Val} (s t : State) → Agree observer γ v u → LowEqual observer tables γ s t → IsSeen observer s
      → InStep observer tables (Agree observer) γ (on_object v (raise_structure origins v.label) s) (on_object u (raise_structure origins u.label) t)
  raise_structure_after {v = v} {u = u} s t a r w = object_after observer tables (raise_structure origins v.label) (raise_structure origins u.label) s t a (λ h o. mum_structure v.label o h) (λ h o. mum_structure u.label o h)
      (λ h e i j x. structure_both v.label u.label i j s t h e x r w) r w

  -- ---- the existence label of a property, by its own test

  conf_existence : (label : Label) (key : List ℕ) (o : ℕ) → Confined observer tables (raise_existence origins label key o)
  unfolding raise_existence
  conf_existence label key o = record {
    still = λ s p. still_acted observer tables _ _ s (still_raise_existence observer o key _ (label_of origins) s.heap (hides_first observer (context s.frames) (union label (own_walk key (slice_get s.heap o))) p));
    fits = λ s. fits_acted observer tables _ _ s;
    adds = λ s. adds_acted observer tables _ _ s;
  }

  mum_existence : (label : Label) (key : List ℕ) (o : ℕ) → Hides observer label → Mum observer tables Hid (raise_existence origins label key o)
  unfolding raise_existence
  mum_existence label key o h = record {
    mute = λ s w. mute_acted observer tables Hid _ _ s h (still_raise_existence observer o key _ (label_of origins) s.heap
        (hides_second observer (context s.frames) (union label (own_walk key (slice_get s.heap o))) (hides_first observer label (own_walk key (slice_get s.heap o)) h)));
  }

  -- the own tests of paired objects
  own_alike : {γ : Pairing} (s t : State) (key : List ℕ) (i j : ℕ) → γ.objects i j ≡ true → LowEqual observer tables γ s t → Alike observer (own_walk key (slice_get s.heap i)) (own_walk key (slice_get t.heap j)) (Unit {0})
  own_alike {γ} s t key i j q r =
      let z = two (r.heap.paired i j q) in
      subst (λ x. Alike observer (own_walk key x) (own_walk key (slice_get t.heap j)) (Unit {0})) (sym z.is_one) (subst (λ x. Alike observer (own_walk key (Some z.one)) (own_walk key x) (Unit {0})) (sym z.is_other)
      (subst (λ x. Alike observer x (own_test (own key z.other.rows) z.other.structure) (Unit {0})) (sym (own_test_is (own key z.one.rows) z.one.structure))
      (subst (λ x. Alike observer (walks.own_walk z.one.structure (own key z.one.rows)) x (Unit {0})) (sym (own_test_is (own key z.other.rows) z.other.structure))
      (alike_map observer (λ o. tt) (level_own observer r.heap key z.one z.other q z.is_one z.is_other)))))

  existence_both : {γ : Pairing} (l m : Label) (key : List ℕ) (i j : ℕ) (s t : State) → Sees observer l → l ≡ m → γ.objects i j ≡ true → LowEqual observer tables γ s t → IsSeen observer s
      → InStep observer tables (Agree observer) γ (raise_existence origins l key i s) (raise_existence origins m key j t)
  unfolding raise_existence
  existence_both l m key i j s t h e x r w = acted_after observer tables (Agree observer) s t
      (level_raise_existence observer r.heap (alike_join observer (λ (u : Unit {0}) (y : Unit {0}). ((x, refl), alike_refl observer (label_of origins))) (seen w (same_context observer tables r w) tt)
      (alike_join observer (λ (u : Unit {0}) (y : Unit {0}). tt) (seen h e tt) (own_alike s t key i j x r)))) (seen h e primitives) r w

  pub conf_raise_existence : (key : List ℕ) (v : Val) → Confined observer tables (on_object v (raise_existence origins v.label key))
  conf_raise_existence key v = conf_on_object observer tables v.label v.value (λ o. conf_existence v.label key o)

  pub raise_existence_after : {γ : Pairing} (key : List ℕ) {v u : Val} (s t : State) → Agree observer γ v u → LowEqual observer tables γ s t → IsSeen observer s
      → InStep observer tables (Agree observer) γ (on_object v (raise_existence origins v.label key) s) (on_object u (raise_existence origins u.label key) t)
  raise_existence_after key {v} {u} s t a r w = object_after observer tables (raise_existence origins v.label key) (raise_existence origins u.label key) s t a (λ h o. mum_existence v.label key o h) (λ h o. mum_existence u.label key o h)
      (λ h e i j x. existence_both v.label u.label key i j s t h e x r w) r w
