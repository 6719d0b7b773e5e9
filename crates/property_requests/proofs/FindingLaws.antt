-- What is asked of an object, and of a value that is none.
use Rattle.std.proofs.Common.{◌≡◌, ℕ, List, Option, Ok, Result, sym, ap, ◌∙◌}
use Rattle.std.specs.List.{slice_get}
use Rattle.std.specs.Option.{option_map}
use Rattle.std.proofs.lemmas.Option.{slice_get-map}
use Rattle.origin_labels.specs.Label.{Label, union}
use Rattle.flow_frames.specs.declared.faults.FlowFault.{FlowFault}
use Rattle.js_number.specs.declared.primitive.Primitive.{Primitive}
use Rattle.js_values.specs.declared.ids.ObjId.{ObjId}
use Rattle.js_values.specs.declared.value.Labelled.{Labelled}
use Rattle.js_values.specs.declared.value.Value.TheVariants as value
use Rattle.js_values.specs.Objects.{Object}
use Rattle.js_values.specs.Readings.{read_object, read_value}
use Rattle.native_protocol.specs.declared.request.ErrorKind.TheVariants as kinds
use Rattle.prototype_walk.specs.Answers.{Means}
use Rattle.es_meaning.specs.Outcomes.{Goes}
use Rattle.flow_meaning.specs.Requested.{own_walk}
use Rattle.flow_meaning.specs.Scopes.{Val, L}
use Rattle.flow_meaning.specs.Tracked.{on_object, on_object_in, throw_error}
use Rattle.run_state.specs.declared.outcome.Outcome.{Outcome}
use Rattle.run_state.specs.declared.outcome.Outcome.TheVariants as outcome
use Rattle.run_state.specs.declared.world.World.{World}
use Rattle.run_state.specs.Acts.{Acts}
use Rattle.run_state.specs.Worlds.{state_of}
use Rattle.run_state.proofs.ActLaws.{Acts-as}
use Rattle.property_requests.specs.Finding.{Finds, IsTest}
use Rattle.property_requests.proofs.HeldLaws.{read_test}

module _ {S T : Type 0} (made : S → T → Type 0) (meaning : S → T → Label) (store : S) (w : World T) (base : Labelled T) {X : Type 0} (read : (T → Label) → X → Val) where
  module _ (next : (T → Label) → ℕ → L Val) (after : World T) (result : Result (Outcome X T) (FlowFault T)) where
    pub base_throws : (p : Primitive) → base.value ≡ value.Primitive p → Acts made meaning store read (λ reading. throw_error {X = Val} kinds.TypeError (reading base.label)) w after result
        → Acts made meaning store read (λ reading. on_object (read_value reading base) (next reading)) w after result
    unfolding on_object_in
    base_throws p is acts =
        Acts-as made meaning store read (λ reading. throw_error {X = Val} kinds.TypeError (reading base.label)) (λ reading. on_object (read_value reading base) (next reading)) w after result
        (λ reading agrees told turns. ap (λ b. on_object_in (reading base.label) b (next reading) (state_of reading w told turns)) is)
        acts

    pub base_is : (o : ObjId) → base.value ≡ value.Object o → Acts made meaning store read (λ reading. next reading o.0) w after result
        → Acts made meaning store read (λ reading. on_object (read_value reading base) (next reading)) w after result
    unfolding on_object_in
    base_is o is acts =
        Acts-as made meaning store read (λ reading. next reading o.0) (λ reading. on_object (read_value reading base) (next reading)) w after result
        (λ reading agrees told turns. ap (λ b. on_object_in (reading base.label) b (next reading) (state_of reading w told turns)) is)
        acts

  -- what is found of the object
  pub base_finds : (o : ObjId) → base.value ≡ value.Object o → (x : X) (v : Labelled T) (of : (T → Label) → Option (Object Label) → L Val)
      → ((reading : T → Label) → read reading x ≡ read_value reading v)
      → Finds made meaning store (λ reading. of reading (option_map (read_object reading) (slice_get w.heap o.0))) v
      → Acts made meaning store read (λ reading. on_object (read_value reading base) (λ i s. of reading (slice_get s.heap i) s)) w w (Ok (outcome.Goes x))
  unfolding on_object_in
  base_finds o is x v of same finds = record {
    says = λ reading agrees told turns.
        let s = state_of reading w told turns in
        ap (λ b. on_object_in (reading base.label) b (λ i t. of reading (slice_get t.heap i) t) s) is
        ∙ ap (λ p. of reading p s) (slice_get-map (read_object reading) w.heap o.0)
        ∙ finds.says reading agrees s
        ∙ ap (λ (u : Val). Goes u s) (sym (same reading));
  }

-- ---- the own test

pub place_means : {S T : Type 0} (made : S → T → Type 0) (meaning : S → T → Label) (store : S) (heap : List (Object T)) (o : ℕ) (key : List ℕ) (label test place : T) → IsTest key (slice_get heap o) test
    → Means made meaning store place (λ reading. union (reading label) (reading test))
    → Means made meaning store place (λ reading. union (reading label) (own_walk key (option_map (read_object reading) (slice_get heap o))))
place_means made meaning store heap o key label test place is means = record {
  belongs = means.belongs;
  is = λ reading agrees. means.is reading agrees ∙ ap (union (reading label)) (read_test reading key (slice_get heap o) test is);
}

-- ---- an act on an object, whatever it gives

module _ {S T : Type 0} (made : S → T → Type 0) (meaning : S → T → Label) (store : S) (w : World T) (base : Labelled T) {X Y : Type 0} (read : (T → Label) → X → Y) (next : (T → Label) → ℕ → L Y) (after : World T) (result : Result (Outcome X T) (FlowFault T)) where
  pub base_refuses : (p : Primitive) → base.value ≡ value.Primitive p → Acts made meaning store read (λ reading. throw_error {X = Y} kinds.TypeError (reading base.label)) w after result
      → Acts made meaning store read (λ reading. on_object (read_value reading base) (next reading)) w after result
  unfolding on_object_in
  base_refuses p is acts =
      Acts-as made meaning store read (λ reading. throw_error {X = Y} kinds.TypeError (reading base.label)) (λ reading. on_object (read_value reading base) (next reading)) w after result
      (λ reading agrees told turns. ap (λ b. on_object_in (reading base.label) b (next reading) (state_of reading w told turns)) is)
      acts

  pub base_acts : (o : ObjId) → base.value ≡ value.Object o → Acts made meaning store read (λ reading. next reading o.0) w after result
      → Acts made meaning store read (λ reading. on_object (read_value reading base) (next reading)) w after result
  unfolding on_object_in
  base_acts o is acts =
      Acts-as made meaning store read (λ reading. next reading o.0) (λ reading. on_object (read_value reading base) (next reading)) w after result
      (λ reading agrees told turns. ap (λ b. on_object_in (reading base.label) b (next reading) (state_of reading w told turns)) is)
      acts
