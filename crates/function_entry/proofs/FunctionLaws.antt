-- A function that is made.
use Rattle.std.proofs.Common.{arith, refl, sym, ap, ap₂, ◌∙◌, ◌≡◌, ◌≤◌, ℕ, Bool, List, [], ◌∷◌, ◌++◌, length, Option, Some, None}
use Rattle.std.proofs.lemmas.List.{map-append, length-map}
use Rattle.origin_labels.specs.Label.{Label, IsLabel}
use Rattle.origin_labels.specs.Stores.{IsKept}
use Rattle.flow_frames.specs.Frames.{context}
use Rattle.flow_frames.specs.Held.{seen}
use Rattle.js_ast.specs.Trees.{Ident, Function, name_of, params_of}
use Rattle.js_ast.specs.Functions.{FunctionCode}
use Rattle.js_values.specs.declared.ids.EnvId.{EnvId}
use Rattle.js_values.specs.declared.ids.ObjId.{ObjId}
use Rattle.js_values.specs.declared.value.Labelled.{Labelled}
use Rattle.js_values.specs.declared.value.Value.TheVariants as value
use Rattle.js_values.specs.Objects.{Object}
use Rattle.js_values.specs.Records.{Record}
use Rattle.js_values.specs.Readings.{HasHeap, HasRecords, read_value, read_object, read_record, read_records}
use Rattle.js_values.proofs.ReadingLaws.{IsReading-earlier, HasRecords-kept}
use Rattle.es_meaning.specs.Functions.{number_in, function_object, constructed_prototype, function_objects, closes_over, own_name}
use Rattle.es_meaning.specs.Outcomes.{Outcome, Goes}
use Rattle.es_meaning.specs.Start.{id}
use Rattle.flow_meaning.specs.Erased.{made_objects, labelled_by, unlabelled}
use Rattle.flow_meaning.specs.Scopes.{Val, State, Halt, Jump}
use Rattle.flow_meaning.specs.Tracked.{make_function}
use Rattle.run_state.specs.declared.world.World.{World}
use Rattle.run_state.specs.Worlds.{Belongs, state_of}
use Rattle.run_state.proofs.ActLaws.{Belongs-later}
use Rattle.function_entry.specs.Changing.{Gives}
use Rattle.function_entry.specs.Making.{Makes}
use Rattle.function_entry.proofs.WorldLaws.{context_read}

-- a record of a name, in a reading
name_read : {T : Type 0} (reading : T → Label) (name : Option Ident) (place : ℕ) (v : Labelled T) → read_records reading (own_name name place v) ≡ own_name name place (read_value reading v)
name_read reading None place v = refl
name_read reading (Some ident) place v = refl

abbrev pub with_both : {T : Type 0} → List (Object T) → List (Record (Labelled T)) → World T → World T
with_both heap records w = record w { heap = heap; records = records }

-- what is made, by all that it depends on
abbrev outcome : State → ℕ → ObjId → ℕ → ℕ → ℕ → Label → Option Ident → ℕ → Outcome Halt Jump Val State
outcome s n o number env count c name place = Goes (unlabelled (value.Object o)) (record s {
  heap = s.heap ++ made_objects c (function_object n number env count ∷ constructed_prototype n ∷ []);
  records = s.records ++ own_name name place (labelled_by c (value.Object o));
})

module _ {S T : Type 0} (made : S → T → Type 0) (meaning : S → T → Label) (room : S → ℕ) (firm : S → Bool) (old new : S) (kept : IsKept made meaning room firm old new) (rising : (store : S) (label : T) → made store label → IsLabel (meaning store label)) (w : World T) (belongs : Belongs made meaning old w) where
  -- a world with more objects and records belongs to a later store, if these do
  pub both_belong : (heap : List (Object T)) (records : List (Record (Labelled T))) → HasHeap (made new) heap → length w.heap ≤ length heap → HasRecords (made new) records → Belongs made meaning new (with_both heap records w)
  both_belong heap records has more has_records =
      let later = Belongs-later made meaning room firm old new kept rising w belongs in
      record { frames = later.frames; catch = later.catch; heap = has; records = has_records; started = let started = belongs.started in omega (arith, started, more) }

  pub more_objects_belong : (heap : List (Object T)) → HasHeap (made new) heap → length w.heap ≤ length heap → Belongs made meaning new (with_both heap w.records w)
  more_objects_belong heap has more = both_belong heap w.records has more (HasRecords-kept made meaning room firm old new kept w.records belongs.records)

  pub records_kept : HasRecords (made new) w.records
  records_kept = HasRecords-kept made meaning room firm old new kept w.records belongs.records

  module _ (functions : List FunctionCode) (f : Function) (place env : EnvId) (number count : ℕ) (o : ObjId) (here : T) (here_made : made old here) (here_is : meaning old here ≡ context (seen meaning old w.frames.frames)) (name : Option Ident) (name_is : name_of f ≡ name) where
    pub function_made : (heap : List (Object T)) (records : List (Record (Labelled T))) → number ≡ number_in functions f → count ≡ length (params_of f) → env.0 ≡ closes_over name place.0 (length w.records) → o.0 ≡ length w.heap
        → Makes made meaning new here (function_object (length w.heap) number env.0 count ∷ constructed_prototype (length w.heap) ∷ []) w.heap heap
        → records ≡ w.records ++ own_name name place.0 (record { value = value.Object o; label = here })
        → Gives made meaning new (λ reading. make_function functions f place.0) (unlabelled (value.Object o)) w (with_both heap records w)
    unfolding make_function function_objects
    function_made heap records number_is count_is env_is place_is makes bound = record {
      says = λ reading is told turns.
          let s = state_of reading w told turns in
          let earlier = IsReading-earlier made meaning room firm old new reading kept is in
          let c_is = context_read made meaning old w.frames.frames here belongs.frames here_made here_is reading earlier in
          let n_is : length s.heap ≡ length w.heap = length-map w.heap (read_object reading) in
          let r_is : length s.records ≡ length w.records = length-map w.records (read_record reading) in
          ap₂ (λ n k. outcome s n (id n) (number_in functions f) (closes_over (name_of f) place.0 k) (length (params_of f)) (context s.frames) (name_of f) place.0) n_is r_is
          ∙ ap₂ (λ c m. outcome s (length w.heap) (id (length w.heap)) (number_in functions f) (closes_over m place.0 (length w.records)) (length (params_of f)) c m place.0) c_is name_is
          ∙ ap₂ (λ k e. outcome s (length w.heap) (id (length w.heap)) k e (length (params_of f)) (reading here) name place.0) (sym number_is) (sym env_is)
          ∙ ap₂ (λ k i. outcome s (length w.heap) (id i) number env.0 k (reading here) name place.0) (sym count_is) (sym place_is)
          ∙ ap₂ (λ (h : List (Object Label)) (r : List (Record (Labelled Label))). Goes (unlabelled (value.Object o)) (record s { heap = h; records = r }))
          (sym (makes.says reading is))
          (sym (ap (read_records reading) bound ∙ map-append (read_record reading) w.records (own_name name place.0 (record { value = value.Object o; label = here }))
          ∙ ap (λ (r : List (Record (Labelled Label))). s.records ++ r) (name_read reading name place.0 (record { value = value.Object o; label = here }))));
    }
