-- An assignment in the labels of a store, and in their meaning.
use Rattle.std.proofs.Common.{◌≡◌, ℕ, zero, suc, Bool, true, false, List, [], ◌∷◌, ◌++◌, map, set, Option, Some, None, refl, sym, ap, ap₂, subst, ◌∙◌, if◌then◌else◌}
use Rattle.std.specs.List.{slice_get}
use Rattle.std.specs.Option.{option_map}
use Rattle.std.proofs.lemmas.Bool.{cond-true, cond-false}
use Rattle.std.proofs.lemmas.List.{map-set, map-append}
use Rattle.std.proofs.lemmas.Option.{slice_get-map}
use Rattle.origin_labels.specs.Label.{Label, union, within}
use Rattle.origin_labels.specs.Names.{same_name}
use Rattle.origin_labels.specs.Stores.{IsKept}
use Rattle.flow_frames.specs.declared.faults.Rule.TheVariants.{W1}
use Rattle.js_values.specs.declared.ids.EnvId.{EnvId}
use Rattle.js_values.specs.declared.value.Labelled.{Labelled}
use Rattle.js_values.specs.Chains.{beginning, onwards, chain_within}
use Rattle.js_values.specs.Records.{Binding, Bindings, Record, found, rebound, bound_in, if_has, first_with, lookup}
use Rattle.js_values.specs.Readings.{read_value, read_binding, read_record, read_records}
use Rattle.js_values.proofs.ReadingLaws.{IsReading-earlier}
use Rattle.env_records.specs.declared.faults.AssignFault.{AssignFault}
use Rattle.env_records.specs.declared.faults.AssignFault.TheVariants.{Immutable, Stop, OutOfMemory}
use Rattle.env_records.specs.Answers.{Comes, Refuses, Forbids}
use Rattle.env_records.specs.Acts.{done, immutable, stopped, under_assignment, joined, assigned, assign, put, put_in_record, new_record, bound_in_record, bind}

abbrev outside : {V : Type 0} → Record V → Option ℕ
outside r = option_map (λ e. e.0) r.outer

module _ {T : Type 0} (reading : T → Label) where
  read_found_at : (name : List ℕ) (b : Binding (Labelled T)) (bindings : Bindings (Labelled T)) (test : Bool) → found name (map (read_binding reading) bindings) ≡ option_map (read_binding reading) (found name bindings) → (if test then Some (read_binding reading b) else found name (map (read_binding reading) bindings)) ≡ option_map (read_binding reading) (if test then Some b else found name bindings)
  read_found_at name b bindings true rest = refl
  read_found_at name b bindings false rest = rest

  pub read_found : (name : List ℕ) (bindings : Bindings (Labelled T)) → found name (map (read_binding reading) bindings) ≡ option_map (read_binding reading) (found name bindings)
  read_found name [] = refl
  read_found name (b ∷ bindings) = read_found_at name b bindings (same_name b.name name) (read_found name bindings)

  read_rebound_at : (name : List ℕ) (v : Labelled T) (b : Binding (Labelled T)) (bindings : Bindings (Labelled T)) (test : Bool) → rebound name (read_value reading v) (map (read_binding reading) bindings) ≡ map (read_binding reading) (rebound name v bindings) → (if test then record (read_binding reading b) { value = read_value reading v } ∷ map (read_binding reading) bindings else read_binding reading b ∷ rebound name (read_value reading v) (map (read_binding reading) bindings)) ≡ map (read_binding reading) (if test then record b { value = v } ∷ bindings else b ∷ rebound name v bindings)
  read_rebound_at name v b bindings true rest = refl
  read_rebound_at name v b bindings false rest = ap (λ bs. read_binding reading b ∷ bs) rest

  pub read_rebound : (name : List ℕ) (v : Labelled T) (bindings : Bindings (Labelled T)) → rebound name (read_value reading v) (map (read_binding reading) bindings) ≡ map (read_binding reading) (rebound name v bindings)
  read_rebound name v [] = refl
  read_rebound name v (b ∷ bindings) = read_rebound_at name v b bindings (same_name b.name name) (read_rebound name v bindings)

  read_bound_there : (name : List ℕ) (r : Option (Record (Labelled T))) → bound_in name (option_map (read_record reading) r) ≡ option_map (read_binding reading) (bound_in name r)
  read_bound_there name None = refl
  read_bound_there name (Some r) = read_found name r.bindings

  pub read_bound_in : (name : List ℕ) (records : List (Record (Labelled T))) (i : ℕ) → bound_in name (slice_get (read_records reading records) i) ≡ option_map (read_binding reading) (bound_in name (slice_get records i))
  read_bound_in name records i = ap (bound_in name) (slice_get-map (read_record reading) records i) ∙ read_bound_there name (slice_get records i)

  read_put_there : (i : ℕ) (name : List ℕ) (v : Labelled T) (records : List (Record (Labelled T))) (r : Option (Record (Labelled T))) → put_in_record (option_map (read_record reading) r) i name (read_value reading v) (read_records reading records) ≡ read_records reading (put_in_record r i name v records)
  read_put_there i name v records None = refl
  read_put_there i name v records (Some r) =
      ap (λ bs. set (read_records reading records) i (record { outer = r.outer; bindings = bs })) (read_rebound name v r.bindings)
      ∙ sym (map-set (read_record reading) records i (record r { bindings = rebound name v r.bindings }))

  pub read_put : (i : ℕ) (name : List ℕ) (v : Labelled T) (records : List (Record (Labelled T))) → put i name (read_value reading v) (read_records reading records) ≡ read_records reading (put i name v records)
  read_put i name v records =
      ap (λ r. put_in_record r i name (read_value reading v) (read_records reading records)) (slice_get-map (read_record reading) records i)
      ∙ read_put_there i name v records (slice_get records i)

  -- ---- a further record, a further binding, a name that is looked up

  pub read_new : (outer : Option EnvId) (records : List (Record (Labelled T))) → new_record outer (read_records reading records) ≡ read_records reading (new_record outer records)
  read_new outer records = sym (map-append (read_record reading) records (record { outer = outer; bindings = [] } ∷ []))

  read_bind_there : (i : ℕ) (b : Binding (Labelled T)) (records : List (Record (Labelled T))) (r : Option (Record (Labelled T))) → bound_in_record (option_map (read_record reading) r) i (read_binding reading b) (read_records reading records) ≡ read_records reading (bound_in_record r i b records)
  read_bind_there i b records None = refl
  read_bind_there i b records (Some r) =
      ap (λ (bs : Bindings (Labelled Label)). set (read_records reading records) i (record { outer = r.outer; bindings = bs })) (sym (map-append (read_binding reading) r.bindings (b ∷ [])))
      ∙ sym (map-set (read_record reading) records i (record r { bindings = r.bindings ++ b ∷ [] }))

  pub read_bind : (i : ℕ) (b : Binding (Labelled T)) (records : List (Record (Labelled T))) → bind i (read_binding reading b) (read_records reading records) ≡ read_records reading (bind i b records)
  read_bind i b records =
      ap (λ r. bound_in_record r i (read_binding reading b) (read_records reading records)) (slice_get-map (read_record reading) records i)
      ∙ read_bind_there i b records (slice_get records i)

  first_here : (name : List ℕ) (i : ℕ) (b : Option (Binding (Labelled T))) (rest : Option ℕ) → if_has i (option_map (read_binding reading) b) rest ≡ if_has i b rest
  first_here name i None rest = refl
  first_here name i (Some b) rest = refl

  -- the same is found from each record on
  abbrev Alike : (name : List ℕ) → (ℕ → List (ℕ × Record (Labelled Label))) → (ℕ → List (ℕ × Record (Labelled T))) → Type 0
  Alike name f g = (i : ℕ) → first_with name (f i) ≡ first_with name (g i)

  lookup_onwards : (name : List ℕ) (f : ℕ → List (ℕ × Record (Labelled Label))) (g : ℕ → List (ℕ × Record (Labelled T))) → Alike name f g → (j : Option ℕ) → first_with name (onwards j f) ≡ first_with name (onwards j g)
  lookup_onwards name f g alike None = refl
  lookup_onwards name f g alike (Some j) = alike j

  lookup_from : (name : List ℕ) (f : ℕ → List (ℕ × Record (Labelled Label))) (g : ℕ → List (ℕ × Record (Labelled T))) → Alike name f g → (i : ℕ) (o : Option (Record (Labelled T))) → first_with name (beginning i (option_map (read_record reading) o) (λ r. onwards (outside r) f)) ≡ first_with name (beginning i o (λ r. onwards (outside r) g))
  lookup_from name f g alike i None = refl
  lookup_from name f g alike i (Some r) =
      ap₂ (λ b rest. if_has i b rest) (read_found name r.bindings) (lookup_onwards name f g alike (outside r))
      ∙ first_here name i (found name r.bindings) (first_with name (onwards (outside r) g))

  lookup_within : (name : List ℕ) (records : List (Record (Labelled T))) (n : ℕ) → Alike name (chain_within outside (read_records reading records) n) (chain_within outside records n)
  lookup_within name records zero i = refl
  lookup_within name records (suc n) i =
      ap (λ o. first_with name (beginning i o (λ r. onwards (outside r) (chain_within outside (read_records reading records) n)))) (slice_get-map (read_record reading) records i)
      ∙ lookup_from name (chain_within outside (read_records reading records) n) (chain_within outside records n) (lookup_within name records n) i (slice_get records i)

  pub read_lookup : (name : List ℕ) (records : List (Record (Labelled T))) (i : ℕ) → lookup name (read_records reading records) i ≡ lookup name records i
  read_lookup name records i = lookup_within name records (suc i) i

  -- an assignment to a name that is bound, in three cases
  module _ (i : ℕ) (name : List ℕ) (context : T) (v : Labelled T) (records : List (Record (Labelled T))) (b : Binding (Labelled T)) (bound : bound_in name (slice_get records i) ≡ Some b) where
    assign_is : assign i name (reading context) (read_value reading v) (read_records reading records) ≡ assigned (Some (read_binding reading b)) i name (reading context) (read_value reading v) (read_records reading records)
    assign_is = ap (λ o. assigned o i name (reading context) (read_value reading v) (read_records reading records)) (read_bound_in name records i ∙ ap (option_map (read_binding reading)) bound)

    pub assign_immutable : b.mutable ≡ false → assign i name (reading context) (read_value reading v) (read_records reading records) ≡ immutable
    assign_immutable e = assign_is ∙ cond-false b.mutable (under_assignment (reading context) (reading b.value.label) (done (put i name (joined (reading context) (read_value reading v)) (read_records reading records)))) immutable e

    mutable_is : b.mutable ≡ true → assign i name (reading context) (read_value reading v) (read_records reading records) ≡ under_assignment (reading context) (reading b.value.label) (done (put i name (joined (reading context) (read_value reading v)) (read_records reading records)))
    mutable_is e = assign_is ∙ cond-true b.mutable (under_assignment (reading context) (reading b.value.label) (done (put i name (joined (reading context) (read_value reading v)) (read_records reading records)))) immutable e

    pub assign_stopped : b.mutable ≡ true → within (reading context) (reading b.value.label) ≡ false → assign i name (reading context) (read_value reading v) (read_records reading records) ≡ stopped (record { rule = W1; need = reading context; have = reading b.value.label })
    assign_stopped e broken = mutable_is e ∙ cond-false (within (reading context) (reading b.value.label)) (done (put i name (joined (reading context) (read_value reading v)) (read_records reading records))) (stopped (record { rule = W1; need = reading context; have = reading b.value.label })) broken

    pub assign_done : (label : T) → b.mutable ≡ true → within (reading context) (reading b.value.label) ≡ true → reading label ≡ union (reading v.label) (reading context) → assign i name (reading context) (read_value reading v) (read_records reading records) ≡ done (read_records reading (put i name (record { value = v.value; label = label }) records))
    assign_done label e holds is =
        mutable_is e ∙ cond-true (within (reading context) (reading b.value.label)) (done (put i name (joined (reading context) (read_value reading v)) (read_records reading records))) (stopped (record { rule = W1; need = reading context; have = reading b.value.label })) holds
        ∙ ap (λ (x : Label). done (put i name (record { value = v.value; label = x }) (read_records reading records))) (sym is)
        ∙ ap done (read_put i name (record { value = v.value; label = label }) records)

-- ---- what a call answers

module _ {S T : Type 0} (made : S → T → Type 0) (meaning : S → T → Label) (i : ℕ) (name : List ℕ) (context : T) (v : Labelled T) (records : List (Record (Labelled T))) (b : Binding (Labelled T)) (bound : bound_in name (slice_get records i) ≡ Some b) where
  -- an assignment that the binding forbids
  pub refuses : (store : S) → made store context → made store b.value.label → (fault : AssignFault T) → Forbids (meaning store) b context fault → Refuses made meaning store (λ reading. assign i name (reading context) (read_value reading v)) records fault
  refuses store ctx label Immutable forbids = λ reading read. assign_immutable reading i name context v records b bound forbids
  refuses store ctx label (Stop stop) forbids =
      subst (λ s. Refuses made meaning store (λ reading. assign i name (reading context) (read_value reading v)) records (Stop s)) (sym forbids.2)
      (ctx, label, λ reading read. assign_stopped reading i name context v records b bound forbids.0 (ap₂ within (read.agrees context ctx) (read.agrees b.value.label label) ∙ forbids.1))
  refuses store ctx label OutOfMemory forbids = absurd forbids

  -- an assignment that it allows, with a label that was made for the value
  pub does : (room : S → ℕ) (firm : S → Bool) (old new : S) (label : T) → IsKept made meaning room firm old new → made old context → made old v.label → made old b.value.label → made new label → meaning new label ≡ union (meaning old v.label) (meaning old context)
      → b.mutable ≡ true → within (meaning old context) (meaning old b.value.label) ≡ true
      → Comes made meaning new (λ reading. assign i name (reading context) (read_value reading v)) records (λ reading. done (read_records reading (put i name (record { value = v.value; label = label }) records)))
  does room firm old new label kept ctx value have m is mutable holds = λ reading read.
      let earlier = IsReading-earlier made meaning room firm old new reading kept read in
      assign_done reading i name context v records b bound label mutable (ap₂ within (earlier.agrees context ctx) (earlier.agrees b.value.label have) ∙ holds)
      (read.agrees label m ∙ is ∙ ap₂ union (sym (earlier.agrees v.label value)) (sym (earlier.agrees context ctx)))
