-- A record with one name.
use Rattle.std.proofs.Common.{sym, ap, ap₂, subst, ◌∙◌, ◌≡◌, ℕ, Bool, true, List, [], ◌∷◌, ◌++◌, length, Option, Some}
use Rattle.std.proofs.lemmas.List.{map-append}
use Rattle.origin_labels.specs.Label.{Label, IsLabel, union}
use Rattle.origin_labels.specs.Stores.{IsKept}
use Rattle.flow_frames.specs.Frames.{context}
use Rattle.flow_frames.specs.Held.{seen}
use Rattle.js_values.specs.declared.ids.EnvId.{EnvId}
use Rattle.js_values.specs.declared.value.Labelled.{Labelled}
use Rattle.js_values.specs.Records.{Binding, Record}
use Rattle.js_values.specs.Readings.{HasRecord, HasRecords, HasValue, read_value, read_record, read_records}
use Rattle.js_values.proofs.ReadingLaws.{IsReading-earlier, HasRecords-kept}
use Rattle.env_records.specs.Acts.{new_record, bind, bound_in_record}
use Rattle.std.proofs.lemmas.List.Elements.{All-push, All-nil, All-cons}
use Rattle.flow_meaning.specs.Tracked.{with_name}
use Rattle.run_state.specs.declared.world.World.{World}
use Rattle.run_state.specs.Worlds.{Belongs, state_of}
use Rattle.function_entry.specs.Changing.{Changes}
use Rattle.function_entry.proofs.WorldLaws.{last_there, last_set, with_records, context_read}

-- a binding more in the last record
pub last_bound : {V : Type 0} (before : List (Record V)) (r : Record V) (b : Binding V) → bind (length before) b (before ++ r ∷ []) ≡ before ++ record { outer = r.outer; bindings = r.bindings ++ b ∷ [] } ∷ []
last_bound before r b =
    ap (λ o. bound_in_record o (length before) b (before ++ r ∷ [])) (last_there before r)
    ∙ last_set before r (record { outer = r.outer; bindings = r.bindings ++ b ∷ [] })

-- and in the one that was made
pub first_bound : {V : Type 0} (e : EnvId) (outer : Option EnvId) (b : Binding V) (old middle new : List (Record V)) → e.0 ≡ length old → middle ≡ new_record outer old → new ≡ bind e.0 b middle → new ≡ old ++ record { outer = outer; bindings = b ∷ [] } ∷ []
first_bound e outer b old middle new number is_new is_bound =
    is_bound ∙ ap₂ (λ n records. bind n b records) number is_new ∙ last_bound old (record { outer = outer; bindings = [] }) b

module _ {S T : Type 0} (made : S → T → Type 0) (meaning : S → T → Label) (room : S → ℕ) (firm : S → Bool) (old new : S) (kept : IsKept made meaning room firm old new) (rising : (store : S) (label : T) → made store label → IsLabel (meaning store label)) (w : World T) (belongs : Belongs made meaning old w) where
  module _ (v : Labelled T) (m : made old v.label) (here label : T) (here_made : made old here) (here_is : meaning old here ≡ context (seen meaning old w.frames.frames)) (label_made : made new label) (label_is : meaning new label ≡ union (meaning old v.label) (meaning old here)) where
    pub name_bound : (e place : EnvId) (name : List ℕ) (middle records : List (Record (Labelled T))) → e.0 ≡ length w.records → middle ≡ new_record (Some place) w.records → records ≡ bind e.0 (record { name = name; mutable = true; value = record { value = v.value; label = label } }) middle
        → Changes made meaning new (λ reading. with_name place.0 name (read_value reading v)) w (with_records records w)
    name_bound e place name middle records number is_new is_bound = record {
      says = λ reading is told turns.
          let earlier = IsReading-earlier made meaning room firm old new reading kept is in
          let b : Binding (Labelled T) = record { name = name; mutable = true; value = record { value = v.value; label = label } } in
          let r : Record (Labelled T) = record { outer = Some place; bindings = b ∷ [] } in
          let means : reading label ≡ union (reading v.label) (context (state_of reading w told turns).frames) =
          is.agrees label label_made ∙ label_is ∙ ap₂ union (sym (earlier.agrees v.label m)) (here_is ∙ sym here_is ∙ sym (earlier.agrees here here_made) ∙ sym (context_read made meaning old w.frames.frames here belongs.frames here_made here_is reading earlier)) in
          ap (λ (records : List (Record (Labelled Label))). record (state_of reading w told turns) { records = records })
          (ap (read_records reading) (first_bound e (Some place) b w.records middle records number is_new is_bound)
          ∙ map-append (read_record reading) w.records (r ∷ [])
          ∙ ap (λ (l : Label). read_records reading w.records ++ record { outer = Some place; bindings = record { name = name; mutable = true; value = record { value = v.value; label = l } } ∷ [] } ∷ []) means);
    }

  -- records with one more belong
  pub more_belong : (records : List (Record (Labelled T))) (r : Record (Labelled T)) → records ≡ w.records ++ r ∷ [] → HasRecord (made new) r → HasRecords (made new) records
  more_belong records r is has = subst (HasRecords (made new)) (sym is) (All-push (HasRecord (made new)) w.records r (HasRecords-kept made meaning room firm old new kept w.records belongs.records) has)

  pub new_belongs : (outer : Option EnvId) (records : List (Record (Labelled T))) → records ≡ new_record outer w.records → HasRecords (made new) records
  new_belongs outer records is = more_belong records (record { outer = outer; bindings = [] }) is (All-nil (λ b. HasValue (made new) b.value))

  pub bound_belongs : (e : EnvId) (outer : Option EnvId) (b : Binding (Labelled T)) (middle records : List (Record (Labelled T))) → made new b.value.label → e.0 ≡ length w.records → middle ≡ new_record outer w.records → records ≡ bind e.0 b middle → HasRecords (made new) records
  bound_belongs e outer b middle records m number is_new is_bound =
      more_belong records (record { outer = outer; bindings = b ∷ [] }) (first_bound e outer b w.records middle records number is_new is_bound) (All-cons (λ x. HasValue (made new) x.value) b [] m (All-nil (λ x. HasValue (made new) x.value)))
