-- The prototype of an object, and whether it may get further properties, in a reading of the labels.
use Rattle.std.proofs.Common.{◌≡◌, ◌≤◌, ℕ, false, List, length, map, Option, Ok, Result, sym, ap, ap₂, ◌∙◌}
use Rattle.std.specs.List.{slice_get}
use Rattle.std.specs.Option.{option_map}
use Rattle.std.proofs.lemmas.Option.{slice_get-map, slice_get_past}
use Rattle.origin_labels.specs.Label.{Label, union}
use Rattle.flow_frames.specs.declared.faults.FlowFault.{FlowFault}
use Rattle.flow_frames.specs.Frames.{context}
use Rattle.flow_frames.specs.Held.{seen_frame}
use Rattle.js_number.specs.declared.primitive.Primitive.TheVariants as prims
use Rattle.js_values.specs.declared.value.Labelled.{Labelled}
use Rattle.js_values.specs.declared.value.Value.TheVariants as value
use Rattle.js_values.specs.Objects.{Object}
use Rattle.js_values.specs.Readings.{read_object, read_value}
use Rattle.object_heap.specs.declared.shape.Shape.{Shape}
use Rattle.object_heap.specs.Acts as heap_acts
use Rattle.object_heap.specs.Acts.{on_object}
use Rattle.object_heap.specs.Formed.{IsShape}
use Rattle.prototype_walk.specs.Answers.{Means}
use Rattle.es_meaning.specs.Outcomes.{Goes}
use Rattle.es_meaning.specs.Requested.{reference_or_null}
use Rattle.flow_meaning.specs.Tracked.{acted, extensible_in, prevent, prototype_in, truth_of}
use Rattle.run_state.specs.declared.outcome.Outcome.{Outcome}
use Rattle.run_state.specs.declared.outcome.Outcome.TheVariants as outcome
use Rattle.run_state.specs.declared.world.World.{World}
use Rattle.run_state.specs.Acts.{Acts}
use Rattle.run_state.specs.Worlds.{state_of}
use Rattle.run_state.proofs.ActLaws.{Acts-as}
use Rattle.property_requests.specs.Finding.{Finds, nothing}
use Rattle.property_requests.proofs.HeldLaws.{shape_there}

module _ {S T : Type 0} (made : S → T → Type 0) (meaning : S → T → Label) (store : S) (heap : List (Object T)) (o : ℕ) (label : T) where
  abbrev there : (T → Label) → Option (Object Label)
  there reading = option_map (read_object reading) (slice_get heap o)

  pub prototype_nowhere : length heap ≤ o → Finds made meaning store (λ reading. prototype_in (reading label) (there reading)) (record { value = value.Primitive prims.Null; label = label })
  unfolding prototype_in
  prototype_nowhere past = record { says = λ reading agrees s. ap (λ p. prototype_in (reading label) (option_map (read_object reading) p) s) (slice_get_past heap o past) }

  pub extensible_nowhere : length heap ≤ o → Finds made meaning store (λ reading. extensible_in (reading label) (there reading)) (record { value = value.Primitive (prims.Bool false); label = label })
  unfolding extensible_in
  extensible_nowhere past = record { says = λ reading agrees s. ap (λ p. extensible_in (reading label) (option_map (read_object reading) p) s) (slice_get_past heap o past) }

  module _ (shape : Shape T) (has : IsShape (slice_get heap o) shape) (depends : T) where
    pub prototype_found : Means made meaning store depends (λ reading. union (reading label) (reading shape.link)) → Finds made meaning store (λ reading. prototype_in (reading label) (there reading)) (record { value = reference_or_null shape.proto; label = depends })
    unfolding prototype_in
    prototype_found means =
        let at = shape_there heap o shape has in
        record {
          says = λ reading agrees s.
              ap (λ p. prototype_in (reading label) (option_map (read_object reading) p) s) at.here
              ∙ ap (λ (q : Shape T). Goes (record { value = reference_or_null q.proto; label = union (reading label) (reading q.link) }) s) (sym at.is)
              ∙ ap (λ (l : Label). Goes (record { value = reference_or_null shape.proto; label = l }) s) (sym (means.is reading agrees));
        }

    pub extensible_found : Means made meaning store depends (λ reading. union (reading label) (reading shape.structure)) → Finds made meaning store (λ reading. extensible_in (reading label) (there reading)) (record { value = value.Primitive (prims.Bool shape.extensible); label = depends })
    unfolding extensible_in
    extensible_found means =
        let at = shape_there heap o shape has in
        record {
          says = λ reading agrees s.
              ap (λ p. extensible_in (reading label) (option_map (read_object reading) p) s) at.here
              ∙ ap (λ (q : Shape T). Goes (truth_of q.extensible (union (reading label) (reading q.structure))) s) (sym at.is)
              ∙ ap (λ (l : Label). Goes (truth_of shape.extensible l) s) (sym (means.is reading agrees));
        }

module _ {S T : Type 0} (made : S → T → Type 0) (meaning : S → T → Label) (store : S) (w : World T) (o : ℕ) (label : T) (v : Labelled T) (is : v ≡ nothing label) where
  pub prevents_nowhere : length w.heap ≤ o → Acts made meaning store (λ reading. read_value reading) (λ reading. prevent (reading label) o) w w (Ok (outcome.Goes v))
  unfolding prevent acted
  prevents_nowhere past = record {
    says = λ reading agrees told turns.
        let s = state_of reading w told turns in
        ap (λ p. acted (nothing (reading label)) (on_object p s.heap o (heap_acts.prevent_own_extensions (union (context s.frames) (reading label)))) s) (slice_get-map (read_object reading) w.heap o ∙ ap (option_map (read_object reading)) (slice_get_past w.heap o past))
        ∙ ap (λ (x : Labelled T). Goes (read_value reading x) s) (sym is);
  }

  pub prevents : (need : T) (after : World T) (result : Result (Outcome (Labelled T) T) (FlowFault T)) → Means made meaning store need (λ reading. union (context (map (seen_frame reading) w.frames.frames)) (reading label))
      → Acts made meaning store (λ reading. read_value reading) (λ reading s. acted (read_value reading v) (heap_acts.prevent_extensions o (reading need) s.heap) s) w after result
      → Acts made meaning store (λ reading. read_value reading) (λ reading. prevent (reading label) o) w after result
  unfolding prevent
  prevents need after result means acts =
      Acts-as made meaning store (λ reading. read_value reading) (λ reading s. acted (read_value reading v) (heap_acts.prevent_extensions o (reading need) s.heap) s) (λ reading. prevent (reading label) o) w after result
      (λ reading agrees told turns. let s = state_of reading w told turns in ap₂ (λ (x : Labelled T) n. acted (read_value reading x) (heap_acts.prevent_extensions o n s.heap) s) (sym is) (sym (means.is reading agrees)))
      acts
