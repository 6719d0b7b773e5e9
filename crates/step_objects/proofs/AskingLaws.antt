-- Whether a value has a key, in a reading of the labels.
use Rattle.std.proofs.Common.{◌≡◌, ℕ, Bool, true, false, true≢false, List, [], ◌∷◌, Option, Some, None, is_some, Ok, Result, refl, sym, ap, ap₂, subst, ◌∙◌}
use Rattle.std.specs.Option.{option_map}
use Rattle.origin_labels.specs.Label.{Label, IsLabel, bottom, union}
use Rattle.origin_labels.specs.Stores.{IsKept}
use Rattle.origin_labels.proofs.LabelLaws.{IsLabel-union, union-bottom}
use Rattle.flow_policy.specs.Policies.{Tables}
use Rattle.flow_policy.specs.Inputs.{Given}
use Rattle.flow_frames.specs.declared.faults.FlowFault.{FlowFault}
use Rattle.js_number.specs.declared.primitive.Primitive.{Primitive}
use Rattle.js_number.specs.declared.primitive.Primitive.TheVariants as prims
use Rattle.js_values.specs.declared.ids.ObjId.{ObjId}
use Rattle.js_values.specs.declared.property.Slot.{Slot}
use Rattle.js_values.specs.declared.value.Labelled.{Labelled}
use Rattle.js_values.specs.declared.value.Value.{Value}
use Rattle.js_values.specs.declared.value.Value.TheVariants as value
use Rattle.js_values.specs.Readings.{IsReading, read_heap, read_value}
use Rattle.js_values.specs.Walks.{Found, find}
use Rattle.js_values.proofs.ReadingLaws.{IsReading-earlier}
use Rattle.prototype_walk.specs.Answers.{Means, read_place}
use Rattle.es_meaning.specs.Operations.{has_key}
use Rattle.es_meaning.specs.Outcomes.{Goes}
use Rattle.es_meaning.specs.Plain.{key_text, is_found}
use Rattle.es_meaning.specs.Primitives.{own_value_of}
use Rattle.flow_meaning.specs.Scopes.{L, State, Val}
use Rattle.flow_meaning.specs.Tracked.{act, has, has_of_primitive, primitive_chain, truth_of}
use Rattle.run_state.specs.declared.outcome.Outcome.{Outcome}
use Rattle.run_state.specs.declared.outcome.Outcome.TheVariants as outcome
use Rattle.run_state.specs.declared.world.World.{World}
use Rattle.run_state.specs.Acts.{Acts}
use Rattle.run_state.specs.Worlds.{state_of}
use Rattle.step_objects.specs.declared.asking.Asked.{Asked}
use Rattle.step_objects.specs.Asking.{IsAsked, asked_in, asked_of, asked_of_primitive}

-- ---- what a walk found

is_found_at : {T : Type 0} (reading : T → Label) (at : Option (ObjId × Slot T)) (walk : T) → is_found (read_place reading at walk).at ≡ is_some at
is_found_at reading None walk = refl
is_found_at reading (Some f) walk = refl

some_map : {X Y : Type 0} (f : X → Y) (at : Option X) → is_some at ≡ is_some (option_map f at)
some_map f None = refl
some_map f (Some x) = refl

module _ {S T : Type 0} (made : S → T → Type 0) (meaning : S → T → Label) (store : S) where
  pub asked_by : {X : Type 0} (means : (T → Label) → Found) (f : X → ObjId × Slot T) (at : Option X) (walk : T) → made store walk → ((reading : T → Label) → IsReading made meaning store reading → read_place reading (option_map f at) walk ≡ means reading)
      → (answer : Bool) → answer ≡ is_some at → IsAsked made meaning store (λ reading. asked_in (means reading)) (record { has = answer; walk = walk })
  asked_by means f at walk m is answer same = record {
    belongs = m;
    is = λ reading read. ap (λ (b : Bool). record { has = b; walk = reading walk }) (same ∙ some_map f at ∙ sym (is_found_at reading (option_map f at) walk)) ∙ ap asked_in (is reading read);
  }

  -- what is asked of a primitive value
  own_there : (own : Option Primitive) (found : Found) → is_some own ≡ true → asked_of_primitive own found ≡ record { has = true; walk = bottom }
  own_there None found is = absurd (true≢false (sym is))
  own_there (Some v) found is = refl

  own_not_there : (own : Option Primitive) (found : Found) → is_some own ≡ false → asked_of_primitive own found ≡ asked_in found
  own_not_there None found is = refl
  own_not_there (Some v) found is = absurd (true≢false is)

  module _ (own : Option Primitive) (means : (T → Label) → Found) where
    pub asked_own : (walk : T) → made store walk → meaning store walk ≡ bottom → is_some own ≡ true → IsAsked made meaning store (λ reading. asked_of_primitive own (means reading)) (record { has = true; walk = walk })
    asked_own walk m empty there = record {
      belongs = m;
      is = λ reading read. ap (λ (l : Label). record { has = true; walk = l }) (read.agrees walk m ∙ empty) ∙ sym (own_there own (means reading) there);
    }

    pub asked_beyond : (asked : Asked T) → is_some own ≡ false → IsAsked made meaning store (λ reading. asked_in (means reading)) asked → IsAsked made meaning store (λ reading. asked_of_primitive own (means reading)) asked
    asked_beyond asked none a = record { belongs = a.belongs; is = λ reading read. a.is reading read ∙ sym (own_not_there own (means reading) none) }

-- what was asked, in a later store
pub asked_later : {S T : Type 0} (made : S → T → Type 0) (meaning : S → T → Label) (room : S → ℕ) (firm : S → Bool) (old new : S) (kept : IsKept made meaning room firm old new) (means : (T → Label) → Asked Label) (asked : Asked T) → IsAsked made meaning old means asked → IsAsked made meaning new means asked
asked_later made meaning room firm old new kept means asked a = record {
  belongs = (kept.labels asked.walk a.belongs).0;
  is = λ reading read. a.is reading (IsReading-earlier made meaning room firm old new reading kept read);
}

-- ---- the act

abbrev answered : Label → Asked Label → L Val
answered label a s = Goes (truth_of a.has (union label a.walk)) s

of_primitive : (own : Option Primitive) (label : Label) → IsLabel label → (walk : Found) (s : State) → has_of_primitive own label walk s ≡ answered label (asked_of_primitive own walk) s
unfolding has_of_primitive
of_primitive None label is walk s = refl
of_primitive (Some v) label is walk s = ap (λ l. Goes (truth_of true l) s) (sym (union-bottom label is))

of_value : (label : Label) → IsLabel label → (key : List ℕ) (v : Value) (s : State) → has label key v s ≡ answered label (asked_of s.heap key v) s
unfolding has
of_value label is key (value.Object o) s = refl
of_value label is key (value.Primitive p) s = of_primitive (own_value_of p key) label is (find key (primitive_chain s.heap p)) s

module _ (tables : Tables) (inputs : Given) {S T : Type 0} (made : S → T → Type 0) (meaning : S → T → Label) (rising : (store : S) (label : T) → made store label → IsLabel (meaning store label)) (store : S) (w : World T) (key object : Labelled T) where
  abbrev asks : Result (Outcome (Labelled T) T) (FlowFault T) → Type 0
  asks result = Acts made meaning store (λ reading. read_value reading) (λ reading. act tables inputs has_key (read_value reading key ∷ read_value reading object ∷ [])) w w result

  pub has_goes : (name : List ℕ) (named : name ≡ key_text key.value) (label depends : T) (asked : Asked T) → made store object.label
      → Means made meaning store label (λ reading. union (reading key.label) (reading object.label)) → IsAsked made meaning store (λ reading. asked_of (read_heap reading w.heap) name object.value) asked
      → Means made meaning store depends (λ reading. union (reading label) (reading asked.walk)) → asks (Ok (outcome.Goes (record { value = value.Primitive (prims.Bool asked.has); label = depends })))
  unfolding act
  has_goes name named label depends asked m labels walked joined = record {
    says = λ reading read told turns.
        let s = state_of reading w told turns in
        let both = union (reading key.label) (reading object.label) in
        let is : IsLabel both = IsLabel-union (reading key.label) (reading object.label) (subst IsLabel (sym (read.agrees object.label m)) (rising store object.label m)) in
        of_value both is (key_text key.value) object.value s
        ∙ ap (λ k. answered both (asked_of s.heap k object.value) s) (sym named)
        ∙ ap₂ (λ l (a : Asked Label). answered l a s) (sym (labels.is reading read)) (sym (walked.is reading read))
        ∙ ap (λ (l : Label). Goes (truth_of asked.has l) s) (sym (joined.is reading read));
  }
