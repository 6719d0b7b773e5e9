-- Names and their values, in a reading of the labels.
use Rattle.std.proofs.Common.{arith, refl, sym, ap, ap₂, subst, ◌∙◌, ◌≡◌, ◌≢◌, ℕ, suc, Bool, List, [], ◌∷◌, if◌then◌else◌, Option, Some, None, true, false, Result, Ok}
use Rattle.std.specs.List.{All, slice_get}
use Rattle.std.specs.Option.{option_map}
use Rattle.std.proofs.lemmas.Option.{none-some, same_Some, slice_get_within, get_or_from_slice_get}
use Rattle.origin_labels.specs.Label.{Label, bottom}
use Rattle.origin_labels.specs.Names.{same_name}
use Rattle.flow_frames.specs.declared.faults.FlowFault.{FlowFault}
use Rattle.js_values.specs.declared.ids.EnvId.{EnvId}
use Rattle.js_values.specs.declared.ids.ObjId.{ObjId}
use Rattle.js_values.specs.declared.property.Slot.{Slot}
use Rattle.js_values.specs.declared.value.Labelled.{Labelled}
use Rattle.js_values.specs.Objects.{Object, number_of}
use Rattle.js_values.specs.Records.{Binding, Bindings, Record, found, bound_in, lookup}
use Rattle.js_values.specs.Readings.{HasValue, HasRecord, HasRecords, read_value, read_binding, read_records, read_heap}
use Rattle.es_meaning.specs.Outcomes.{Goes, and_then, ret}
use Rattle.es_meaning.specs.Plain as plain
use Rattle.es_meaning.specs.Plain.{binding_at, in_record, place_from, place_beyond}
use Rattle.native_protocol.specs.declared.request.ErrorKind.TheVariants as kinds
use Rattle.flow_meaning.specs.Scopes.{Val, State}
use Rattle.flow_meaning.specs.Tracked as tracked
use Rattle.flow_meaning.specs.Tracked.{of_name, resolved, global_walk, walk_from, bound, as_access, has_value, named, accessed, accessed_for_typeof, throw_error}
use Rattle.run_state.specs.declared.outcome.Access.{Access}
use Rattle.run_state.specs.declared.outcome.Access.TheVariants as access
use Rattle.run_state.specs.declared.outcome.Outcome.{Outcome}
use Rattle.run_state.specs.declared.outcome.Outcome.TheVariants as outcome
use Rattle.run_state.specs.declared.outcome.Place.{Place}
use Rattle.run_state.specs.declared.outcome.Place.TheVariants as place
use Rattle.run_state.specs.declared.world.World.{World}
use Rattle.run_state.specs.Accesses.{read_access}
use Rattle.run_state.specs.Acts.{Acts}
use Rattle.run_state.specs.Names.{place_of}
use Rattle.run_state.specs.Worlds.{state_of}
use Rattle.run_state.proofs.ActLaws.{Acts-as}
use Rattle.property_access.specs.Accessors.{undefined_with}
use Rattle.property_access.proofs.Reading.{read_bound_in, read_lookup}
use Rattle.property_access.proofs.ThrowLaws.{then_error}

-- ---- where a name stands

module _ {T : Type 0} (reading : T → Label) (records : List (Record (Labelled T))) (heap : List (Object T)) (i : ℕ) (name : List ℕ) where
  -- it stands where the search in the records ends, and else where the walk along the global object does
  from_lookup : (e : Option ℕ) → lookup name records i ≡ e → resolved (read_records reading records) (read_heap reading heap) i name ≡ of_name name (place_from e (global_walk (read_heap reading heap) name).at) (walk_from e (global_walk (read_heap reading heap) name).walk)
  from_lookup e is =
      let walk = global_walk (read_heap reading heap) name in
      ap (λ o. of_name name (place_from o walk.at) (walk_from o walk.walk)) (read_lookup reading name records i ∙ is)

  pub resolved_inside : (e : EnvId) (walk : T) → Some e.0 ≡ lookup name records i → reading walk ≡ bottom → of_name name (in_record e.0) (reading walk) ≡ resolved (read_records reading records) (read_heap reading heap) i name
  resolved_inside e walk is empty = ap (of_name name (in_record e.0)) empty ∙ sym (from_lookup (Some e.0) (sym is))

  pub resolved_beyond : (at : Option ObjId) (p : plain.Place) (walk : T) → None ≡ lookup name records i → p ≡ place_beyond (number_of at)
      → number_of at ≡ option_map (λ f. f.0) (global_walk (read_heap reading heap) name).at → reading walk ≡ (global_walk (read_heap reading heap) name).walk → of_name name p (reading walk) ≡ resolved (read_records reading records) (read_heap reading heap) i name
  resolved_beyond at p walk is beyond found depends =
      ap₂ (of_name name) (beyond ∙ ap place_beyond found ∙ mapped (global_walk (read_heap reading heap) name).at) depends ∙ sym (from_lookup None (sym is))
    where
      mapped : (o : Option (ℕ × Slot Label)) → place_beyond (option_map (λ f. f.0) o) ≡ place_beyond o
      mapped None = refl
      mapped (Some f) = refl

-- ---- the label of a value that a name has was made

All-at : {X : Type 0} (P : X → Type 0) (xs : List X) (i : ℕ) (x : X) → slice_get xs i ≡ Some x → All P xs → P x
All-at P xs i x here all = subst P (get_or_from_slice_get xs i x x here) (all i x (slice_get_within xs i x here))

module _ {T : Type 0} (made : T → Type 0) where
  found_at : (b : Binding (Labelled T)) (test : Bool) (rest : Option (Binding (Labelled T))) (v : Labelled T) → made b.value.label → (Some v ≡ option_map (λ x. x.value) rest → made v.label) → Some v ≡ option_map (λ x. x.value) (if test then Some b else rest) → made v.label
  found_at b true rest v here behind is = subst (HasValue made) (sym (same_Some v b.value is)) here
  found_at b false rest v here behind is = behind is

  found_has : (name : List ℕ) (bindings : Bindings (Labelled T)) (v : Labelled T) → All (λ b. HasValue made b.value) bindings → Some v ≡ option_map (λ b. b.value) (found name bindings) → made v.label
  found_has name [] v has is = absurd (none-some v (sym is))
  found_has name (b ∷ bindings) v has is = found_at b (same_name b.name name) (found name bindings) v (has 0 b (omega arith)) (λ there. found_has name bindings v (λ k d lt. has (suc k) d (omega arith)) there) is

  bound_has : (name : List ℕ) (records : List (Record (Labelled T))) (i : ℕ) (o : Option (Record (Labelled T))) (v : Labelled T) → HasRecords made records → slice_get records i ≡ o → Some v ≡ option_map (λ b. b.value) (bound_in name o) → made v.label
  bound_has name records i None v has here is = absurd (none-some v (sym is))
  bound_has name records i (Some r) v has here is = found_has name r.bindings v (All-at (HasRecord made) records i r here has) is

  pub name_has : (records : List (Record (Labelled T))) (i : ℕ) (name : List ℕ) (v : Labelled T) → HasRecords made records → Some v ≡ option_map (λ b. b.value) (binding_at records i name) → made v.label
  name_has records i name v has is = bound_has name records i (slice_get records i) v has refl is

-- ---- the value of a name in a record

module _ {T : Type 0} (reading : T → Label) (s : State) where
  got_value : (o : Option (Binding (Labelled T))) (v : Labelled T) → Some v ≡ option_map (λ b. b.value) o → bound (option_map (read_binding reading) o) s ≡ Goes (read_value reading v) s
  unfolding bound
  got_value None v is = absurd (none-some v (sym is))
  got_value (Some b) v is = ap (λ (x : Labelled T). Goes (read_value reading x) s) (sym (same_Some v b.value is))

  got_none : (o : Option (Binding (Labelled T))) → None ≡ option_map (λ b. b.value) o → bound (option_map (read_binding reading) o) s ≡ throw_error kinds.ReferenceError bottom s
  unfolding bound
  got_none None is = refl
  got_none (Some b) is = absurd (none-some b.value is)

module _ {S T : Type 0} (made : S → T → Type 0) (meaning : S → T → Label) (store : S) (w : World T) (i : ℕ) (name : List ℕ) where
  abbrev reads : World T → Result (Outcome (Access T) T) (FlowFault T) → Type 0
  reads after result = Acts made meaning store (λ reading. read_access reading) (λ reading. as_access (λ s. bound (binding_at s.records i name) s)) w after result

  pub name_read : (v : Labelled T) → Some v ≡ option_map (λ b. b.value) (binding_at w.records i name) → reads w (Ok (outcome.Goes (access.Value v)))
  name_read v is = record {
    says = λ reading read told turns.
        let s = state_of reading w told turns in
        ap (λ o. and_then o (λ (x : Val). ret (has_value x))) (ap (λ b. bound b s) (read_bound_in reading name w.records i) ∙ got_value reading s (binding_at w.records i name) v is);
  }

  pub name_unbound : (after : World T) (result : Result (Outcome (Access T) T) (FlowFault T)) → None ≡ option_map (λ b. b.value) (binding_at w.records i name)
      → Acts made meaning store (λ reading. read_access reading) (λ reading. throw_error {X = tracked.Access} kinds.ReferenceError bottom) w after result
      → reads after result
  name_unbound after result is acts =
      Acts-as made meaning store (λ reading. read_access reading) (λ reading. throw_error {X = tracked.Access} kinds.ReferenceError bottom) (λ reading. as_access (λ s. bound (binding_at s.records i name) s)) w after result
      (λ reading agrees told turns.
      let s = state_of reading w told turns in
      ap (λ o. and_then o (λ (x : Val). ret (has_value x))) (ap (λ b. bound b s) (read_bound_in reading name w.records i) ∙ got_none reading s (binding_at w.records i name) is)
      ∙ then_error Val tracked.Access kinds.ReferenceError bottom (λ x. ret (has_value x)) s)
      acts

-- ---- the value of a name, by where it stands

module _ {S T : Type 0} (made : S → T → Type 0) (meaning : S → T → Label) (store : S) (w after : World T) (result : Result (Outcome (Access T) T) (FlowFault T)) (p : Place) (name : List ℕ) (walk : T) where
  abbrev gets : Place → Type 0
  gets q = Acts made meaning store (λ reading. read_access reading) (λ reading. accessed (of_name name (place_of q) (reading walk))) w after result

  pub got_inside : (e : EnvId) → p ≡ place.Record e → Acts made meaning store (λ reading. read_access reading) (λ reading. as_access (λ s. bound (binding_at s.records e.0 name) s)) w after result → gets p
  unfolding accessed named
  got_inside e is acts = subst gets (sym is) (record { says = acts.says })

  pub got_globally : p ≡ place.Global → Acts made meaning store (λ reading. read_access reading) (λ reading. named plain.on_global (reading walk) name) w after result → gets p
  unfolding accessed
  got_globally is acts = subst gets (sym is) (record { says = acts.says })

  pub got_nowhere : p ≡ place.Nowhere → Acts made meaning store (λ reading. read_access reading) (λ reading. throw_error {X = tracked.Access} kinds.ReferenceError (reading walk)) w after result → gets p
  unfolding accessed named
  got_nowhere is acts = subst gets (sym is) (record { says = acts.says })

-- ---- for `typeof`

module _ {S T : Type 0} (made : S → T → Type 0) (meaning : S → T → Label) (store : S) (w : World T) (p : Place) (name : List ℕ) (walk : T) where
  abbrev asks : (after : World T) → Result (Outcome (Access T) T) (FlowFault T) → Place → Type 0
  asks after result q = Acts made meaning store (λ reading. read_access reading) (λ reading. accessed_for_typeof (of_name name (place_of q) (reading walk))) w after result

  pub asked_nowhere : p ≡ place.Nowhere → (v : Labelled T) → v ≡ undefined_with walk → asks w (Ok (outcome.Goes (access.Value v))) p
  unfolding accessed_for_typeof
  asked_nowhere is v gives =
      subst (λ (u : Labelled T). asks w (Ok (outcome.Goes (access.Value u))) p) (sym gives)
      (subst (asks w (Ok (outcome.Goes (access.Value (undefined_with walk))))) (sym is) (record { says = λ reading read told turns. refl }))

  -- a name that stands somewhere is asked for its value
  pub asked_there : (after : World T) (result : Result (Outcome (Access T) T) (FlowFault T)) (q : Place) → q ≢ place.Nowhere
      → Acts made meaning store (λ reading. read_access reading) (λ reading. accessed (of_name name (place_of q) (reading walk))) w after result → asks after result q
  unfolding accessed_for_typeof
  asked_there after result (place.Record e) there acts = record { says = acts.says }
  asked_there after result place.Global there acts = record { says = acts.says }
  asked_there after result place.Nowhere there acts = absurd (there refl)
