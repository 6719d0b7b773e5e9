-- How a property is deleted, in a reading of the labels.
use Rattle.std.proofs.Common.{◌≡◌, ◌≤◌, ℕ, Bool, true, false, List, map, length, true≢false, Option, Some, None, is_some, Ok, Result, refl, sym, ap, ap₂, ◌∙◌}
use Rattle.std.specs.List.{slice_get}
use Rattle.std.specs.Option.{option_map}
use Rattle.std.proofs.lemmas.Option.{slice_get-map, slice_get_past}
use Rattle.origin_labels.specs.Label.{Label, bottom, union}
use Rattle.flow_frames.specs.declared.faults.FlowFault.{FlowFault}
use Rattle.flow_frames.specs.Frames.{context}
use Rattle.flow_frames.specs.Held.{seen_frame}
use Rattle.js_number.specs.declared.primitive.Primitive.{Primitive}
use Rattle.js_number.specs.declared.primitive.Primitive.TheVariants as prims
use Rattle.js_values.specs.declared.ids.ObjId.{ObjId}
use Rattle.js_values.specs.declared.property.Slot.{Slot}
use Rattle.js_values.specs.declared.value.Labelled.{Labelled}
use Rattle.js_values.specs.declared.value.Value.TheVariants as value
use Rattle.js_values.specs.Readings.{read_value, read_slot, read_object}
use Rattle.object_heap.specs.declared.shape.Shape.{Shape}
use Rattle.object_heap.specs.Acts as heap_acts
use Rattle.object_heap.specs.Formed.{own_in, IsShape}
use Rattle.object_heap.proofs.ReadLaws.{read_own}
use Rattle.prototype_walk.specs.Answers.{Means}
use Rattle.es_meaning.specs.Outcomes.{Goes}
use Rattle.es_meaning.specs.Plain.{Place, key_text}
use Rattle.es_meaning.specs.Primitives.{own_value_of}
use Rattle.native_protocol.specs.declared.request.ErrorKind.TheVariants as kinds
use Rattle.flow_meaning.specs.Scopes.{Val, State}
use Rattle.flow_meaning.specs.Tracked as tracked
use Rattle.flow_meaning.specs.Tracked.{remove, removed_in, removed_own, removed_if, removed_of_primitive, acted, truth_of, throw_error}
use Rattle.run_state.specs.declared.outcome.Outcome.{Outcome}
use Rattle.run_state.specs.declared.outcome.Outcome.TheVariants as outcome
use Rattle.run_state.specs.declared.world.World.{World}
use Rattle.run_state.specs.Acts.{Acts}
use Rattle.run_state.specs.Names.{property_of}
use Rattle.run_state.specs.Worlds.{state_of}
use Rattle.run_state.proofs.ActLaws.{Acts-as}
use Rattle.property_access.proofs.HeldLaws.{own_there, structure_there}

-- true, with a label
abbrev pub yes_of : {T : Type 0} → T → Labelled T
yes_of label = record { value = value.Primitive (prims.Bool true); label = label }

module _ {S T : Type 0} (made : S → T → Type 0) (meaning : S → T → Label) (store : S) (w : World T) where
  -- ---- the property of a base that a key names

  module _ (base key : Labelled T) where
    module _ (o : ObjId) (is : base.value ≡ value.Object o) (name : List ℕ) (named : name ≡ key_text key.value) (label : T) (means : Means made meaning store label (λ reading. union (reading base.label) (reading key.label))) where
      pub deletes_member : (after : World T) (result : Result (Outcome (Labelled T) T) (FlowFault T)) → Acts made meaning store (λ reading. read_value reading) (λ reading. tracked.remove_property (reading label) (value.Object o) name) w after result
          → Acts made meaning store (λ reading. read_value reading) (λ reading. remove (property_of (read_value reading base) (read_value reading key))) w after result
      unfolding remove
      deletes_member after result acts =
          Acts-as made meaning store (λ reading. read_value reading) (λ reading. tracked.remove_property (reading label) (value.Object o) name) (λ reading. remove (property_of (read_value reading base) (read_value reading key))) w after result
          (λ reading read told turns.
          let s = state_of reading w told turns in
          ap (λ b. tracked.remove_property (union (reading base.label) (reading key.label)) b (key_text key.value) s) is
          ∙ ap₂ (λ l k. tracked.remove_property l (value.Object o) k s) (sym (means.is reading read)) (sym named))
          acts

    module _ (p : Primitive) (is : base.value ≡ value.Primitive p) (name : List ℕ) (named : name ≡ key_text key.value) (label : T) (means : Means made meaning store label (λ reading. union (reading base.label) (reading key.label))) where
      pub deletes_of_primitive : (after : World T) (result : Result (Outcome (Labelled T) T) (FlowFault T)) → Acts made meaning store (λ reading. read_value reading) (λ reading. removed_of_primitive (own_value_of p name) (reading label)) w after result
          → Acts made meaning store (λ reading. read_value reading) (λ reading. remove (property_of (read_value reading base) (read_value reading key))) w after result
      unfolding remove tracked.remove_property
      deletes_of_primitive after result acts =
          Acts-as made meaning store (λ reading. read_value reading) (λ reading. removed_of_primitive (own_value_of p name) (reading label)) (λ reading. remove (property_of (read_value reading base) (read_value reading key))) w after result
          (λ reading read told turns.
          let s = state_of reading w told turns in
          ap (λ b. tracked.remove_property (union (reading base.label) (reading key.label)) b (key_text key.value) s) is
          ∙ ap₂ (λ l k. removed_of_primitive (own_value_of p k) l s) (sym (means.is reading read)) (sym named))
          acts

  -- ---- the property of a primitive value

  module _ (own : Option Primitive) (label : T) where
    abbrev deletes_own_of : World T → Result (Outcome (Labelled T) T) (FlowFault T) → Type 0
    deletes_own_of after result = Acts made meaning store (λ reading. read_value reading) (λ reading. removed_of_primitive own (reading label)) w after result

    by_own : (q : Option Primitive) → is_some q ≡ true → (l : Label) (s : State) → removed_of_primitive q l s ≡ throw_error {X = Val} kinds.TypeError l s
    unfolding removed_of_primitive
    by_own None there l s = absurd (true≢false (sym there))
    by_own (Some v) there l s = refl

    without : (q : Option Primitive) → is_some q ≡ false → (l : Label) (s : State) → removed_of_primitive q l s ≡ Goes (truth_of true l) s
    unfolding removed_of_primitive
    without None none l s = refl
    without (Some v) none l s = absurd (true≢false none)

    pub stays : (after : World T) (result : Result (Outcome (Labelled T) T) (FlowFault T)) → is_some own ≡ true → Acts made meaning store (λ reading. read_value reading) (λ reading. throw_error {X = Val} kinds.TypeError (reading label)) w after result → deletes_own_of after result
    stays after result there acts =
        Acts-as made meaning store (λ reading. read_value reading) (λ reading. throw_error {X = Val} kinds.TypeError (reading label)) (λ reading. removed_of_primitive own (reading label)) w after result
        (λ reading read told turns. by_own own there (reading label) (state_of reading w told turns)) acts

    pub none_deleted : (v : Labelled T) → v ≡ yes_of label → is_some own ≡ false → deletes_own_of w (Ok (outcome.Goes v))
    none_deleted v is none = record {
      says = λ reading read told turns.
          let s = state_of reading w told turns in
          without own none (reading label) s ∙ ap (λ (x : Labelled T). Goes (read_value reading x) s) (sym is);
    }

  -- ---- a name

  pub deletes_name : (name : List ℕ) (place : Place) (walk none : T) → Means made meaning store none (λ reading. bottom) → (after : World T) (result : Result (Outcome (Labelled T) T) (FlowFault T))
      → Acts made meaning store (λ reading. read_value reading) (λ reading. throw_error {X = Val} kinds.SyntaxError (reading none)) w after result → Acts made meaning store (λ reading. read_value reading) (λ reading. remove (tracked.of_name name place (reading walk))) w after result
  unfolding remove
  deletes_name name place walk none means after result acts =
      Acts-as made meaning store (λ reading. read_value reading) (λ reading. throw_error {X = Val} kinds.SyntaxError (reading none)) (λ reading. remove (tracked.of_name name place (reading walk))) w after result
      (λ reading read told turns. ap (λ l. throw_error {X = Val} kinds.SyntaxError l (state_of reading w told turns)) (sym (means.is reading read))) acts

  -- ---- the property of an object

  module _ (o : ObjId) (key : List ℕ) (label : T) where
    abbrev deletes : World T → Result (Outcome (Labelled T) T) (FlowFault T) → Type 0
    deletes after result = Acts made meaning store (λ reading. read_value reading) (λ reading. tracked.remove_property (reading label) (value.Object o) key) w after result

    pub no_object : (v : Labelled T) → v ≡ yes_of label → length w.heap ≤ o.0 → deletes w (Ok (outcome.Goes v))
    unfolding tracked.remove_property removed_in
    no_object v is past = record {
      says = λ reading read told turns.
          let s = state_of reading w told turns in
          ap (λ p. removed_in p (reading label) o.0 key s) (slice_get-map (read_object reading) w.heap o.0 ∙ ap (option_map (read_object reading)) (slice_get_past w.heap o.0 past))
          ∙ ap (λ (x : Labelled T). Goes (read_value reading x) s) (sym is);
    }

    pub no_property : (shape : Shape T) (depends : T) (v : Labelled T) → v ≡ yes_of depends → own_in key (slice_get w.heap o.0) ≡ None → IsShape (slice_get w.heap o.0) shape
        → Means made meaning store depends (λ reading. union (reading label) (reading shape.structure)) → deletes w (Ok (outcome.Goes v))
    unfolding tracked.remove_property removed_in removed_own
    no_property shape depends v is none has means =
        let there = structure_there w.heap o.0 shape has in
        record {
          says = λ reading read told turns.
              let s = state_of reading w told turns in
              ap (λ p. removed_in p (reading label) o.0 key s) (slice_get-map (read_object reading) w.heap o.0 ∙ ap (option_map (read_object reading)) there.here)
              ∙ ap (λ q. removed_own q (reading label) (reading there.object.structure) o.0 key s) (read_own reading key there.object.rows ∙ ap (option_map (read_slot reading)) (sym (ap (own_in key) there.here) ∙ none))
              ∙ ap (λ (l : Label). Goes (truth_of true l) s) (ap (λ t. union (reading label) (reading t)) (sym there.is) ∙ sym (means.is reading read))
              ∙ ap (λ (x : Labelled T). Goes (read_value reading x) s) (sym is);
        }

    pub deletes_own : (slot : Slot T) (place : T) (after : World T) (result : Result (Outcome (Labelled T) T) (FlowFault T)) → own_in key (slice_get w.heap o.0) ≡ Some slot → Means made meaning store place (λ reading. union (reading label) (reading slot.existence))
        → Acts made meaning store (λ reading. read_value reading) (λ reading. removed_if slot.marks.configurable (reading place) o.0 key) w after result → deletes after result
    unfolding tracked.remove_property removed_in removed_own
    deletes_own slot place after result has means acts =
        let there = own_there w.heap o.0 key slot has in
        Acts-as made meaning store (λ reading. read_value reading) (λ reading. removed_if slot.marks.configurable (reading place) o.0 key) (λ reading. tracked.remove_property (reading label) (value.Object o) key) w after result
        (λ reading read told turns.
        let s = state_of reading w told turns in
        ap (λ p. removed_in p (reading label) o.0 key s) (slice_get-map (read_object reading) w.heap o.0 ∙ ap (option_map (read_object reading)) there.here)
        ∙ ap (λ q. removed_own q (reading label) (reading there.object.structure) o.0 key s) (read_own reading key there.object.rows ∙ ap (option_map (read_slot reading)) there.has)
        ∙ ap (λ l. removed_if slot.marks.configurable l o.0 key s) (sym (means.is reading read)))
        acts

  -- ---- a property that is there

  module _ (o : ObjId) (key : List ℕ) (configurable : Bool) (place : T) (after : World T) (result : Result (Outcome (Labelled T) T) (FlowFault T)) where
    pub refuses : configurable ≡ false → Acts made meaning store (λ reading. read_value reading) (λ reading. throw_error {X = Val} kinds.TypeError (reading place)) w after result
        → Acts made meaning store (λ reading. read_value reading) (λ reading. removed_if configurable (reading place) o.0 key) w after result
    unfolding removed_if
    refuses test acts =
        Acts-as made meaning store (λ reading. read_value reading) (λ reading. throw_error {X = Val} kinds.TypeError (reading place)) (λ reading. removed_if configurable (reading place) o.0 key) w after result
        (λ reading read told turns. ap (λ b. removed_if b (reading place) o.0 key (state_of reading w told turns)) test)
        acts

    pub takes_away : configurable ≡ true → (need : T) (v : Labelled T) → v ≡ yes_of place → Means made meaning store need (λ reading. union (context (map (seen_frame reading) w.frames.frames)) (reading place))
        → Acts made meaning store (λ reading. read_value reading) (λ reading s. acted (read_value reading v) (heap_acts.remove o.0 key (reading need) s.heap) s) w after result
        → Acts made meaning store (λ reading. read_value reading) (λ reading. removed_if configurable (reading place) o.0 key) w after result
    unfolding removed_if
    takes_away test need v is means acts =
        Acts-as made meaning store (λ reading. read_value reading) (λ reading s. acted (read_value reading v) (heap_acts.remove o.0 key (reading need) s.heap) s) (λ reading. removed_if configurable (reading place) o.0 key) w after result
        (λ reading read told turns.
        let s = state_of reading w told turns in
        ap (λ b. removed_if b (reading place) o.0 key s) test
        ∙ ap₂ (λ (x : Labelled T) n. acted (read_value reading x) (heap_acts.remove o.0 key n s.heap) s) (sym is) (sym (means.is reading read)))
        acts
