-- Names that are given values, in a reading of the labels.
use Rattle.std.proofs.Common.{refl, sym, ap, subst, ◌∙◌, ◌≡◌, ℕ, Bool, true, false, List, Option, Some, None, is_some, IsSome, Result, Ok, Err, if◌then◌else◌}
use Rattle.std.specs.List.{slice_get}
use Rattle.std.specs.Option.{option_map}
use Rattle.std.proofs.lemmas.Bool.{false≢true, true≢false}
use Rattle.std.proofs.lemmas.Option.{none-some}
use Rattle.origin_labels.specs.Label.{Label, IsLabel, bottom, within}
use Rattle.origin_labels.specs.Stores.{IsKept}
use Rattle.flow_frames.specs.declared.faults.FlowFault.{FlowFault}
use Rattle.flow_frames.specs.declared.faults.FlowFault.TheVariants as fault
use Rattle.flow_frames.specs.declared.faults.FlowStop.{FlowStop}
use Rattle.flow_frames.specs.declared.faults.Rule.TheVariants.{W1}
use Rattle.flow_frames.specs.Frames.{context}
use Rattle.flow_frames.specs.Held.{seen}
use Rattle.js_values.specs.declared.value.Labelled.{Labelled}
use Rattle.js_values.specs.Records.{Binding, Record, bound_in}
use Rattle.js_values.specs.Readings.{IsReading, HasRecords, read_value, read_binding, read_records}
use Rattle.js_values.proofs.ReadingLaws.{IsReading-earlier}
use Rattle.env_records.specs.Acts as variables
use Rattle.env_records.specs.Acts.{Assigned, Variables, done, immutable, put, put_in_record, assign}
use Rattle.env_records.specs.Answers.{Comes, read_stop}
use Rattle.es_meaning.specs.Outcomes.{Outcome, Goes, Ends, and_then, ret}
use Rattle.es_meaning.specs.Plain.{in_record, on_global, with_value}
use Rattle.native_protocol.specs.declared.request.ErrorKind.TheVariants as kinds
use Rattle.es_meaning.specs.Start.{global_object}
use Rattle.flow_meaning.specs.Scopes.{Halt, stopped, Jump, Val, State, L, LabelledLine, guard, joined}
use Rattle.flow_meaning.specs.Tracked.{of_name, assigned, assigned_to, as_putting, is_put, put_named, put_value, rebinds, called_value, throw_error}
use Rattle.flow_meaning.specs.Tracked as tracked
use Rattle.run_state.specs.declared.outcome.Outcome as machine
use Rattle.run_state.specs.declared.outcome.Outcome.TheVariants as outcome
use Rattle.run_state.specs.declared.outcome.Putting.{Putting}
use Rattle.run_state.specs.declared.outcome.Putting.TheVariants as putting
use Rattle.run_state.specs.declared.outcome.Place.{Place}
use Rattle.run_state.specs.declared.outcome.Place.TheVariants as place
use Rattle.run_state.specs.declared.world.World.{World}
use Rattle.run_state.specs.Accesses.{read_putting}
use Rattle.run_state.specs.Acts.{Acts}
use Rattle.run_state.specs.Names.{place_of}
use Rattle.run_state.specs.Worlds.{state_of, Belongs}
use Rattle.run_state.proofs.ActLaws.{Acts-as, Belongs-later}
use Rattle.property_access.proofs.Reading.{read_frames, read_bound_in}
use Rattle.property_access.proofs.ThrowLaws.{then_error}

-- ---- an assignment as the records have it, and as the meaning has it

-- what an assignment comes to in a state
abbrev from_assigned : Assigned → State → Outcome Halt Jump tracked.Putting State
from_assigned (done records) s = Goes is_put (record s { records = records })
from_assigned immutable s = throw_error kinds.TypeError bottom s
from_assigned (variables.stopped stop) s = Ends (stopped stop.rule stop.need stop.have) s

same_put : (name : List ℕ) (v : Val) (o : Option (Record Val)) (records : Variables) (i : ℕ) → with_value name v o records i ≡ put_in_record o i name v records
same_put name v None records i = refl
same_put name v (Some r) records i = refl

module _ (i : ℕ) (name : List ℕ) (v : Val) (s : State) where
  -- nothing follows a put
  abbrev put_behind : Unit {0} → L tracked.Putting
  put_behind u = ret is_put

  put_when : (mutable : Bool) (have : Label) (inside : Bool) → within (context s.frames) have ≡ inside
      → as_putting (assigned mutable have name i v) s ≡ from_assigned (if mutable then (if inside then done (put i name (joined (context s.frames) v) s.records) else variables.stopped (record { rule = W1; need = context s.frames; have = have })) else immutable) s
  unfolding assigned guard
  put_when false have inside is = then_error (Unit {0}) tracked.Putting kinds.TypeError bottom put_behind s
  put_when true have true is =
      ap (λ t. and_then (guard t W1 (context s.frames) have (rebinds name i (joined (context s.frames) v)) s) put_behind) is
      ∙ ap (λ (records : Variables). Goes is_put (record s { records = records })) (same_put name (joined (context s.frames) v) (slice_get s.records i) s.records i)
  put_when true have false is = ap (λ t. and_then (guard t W1 (context s.frames) have (rebinds name i (joined (context s.frames) v)) s) put_behind) is

  put_bound : (walk : Label) (b : Binding Val) → bound_in name (slice_get s.records i) ≡ Some b → put_named (in_record i) walk name v s ≡ from_assigned (assign i name (context s.frames) v s.records) s
  unfolding put_named assigned_to
  put_bound walk b here =
      ap (λ o. as_putting (assigned_to o name i v) s) here
      ∙ put_when b.mutable b.value.label (within (context s.frames) b.value.label) refl
      ∙ ap (λ o. from_assigned (variables.assigned o i name (context s.frames) v s.records) s) (sym here)

  put_unbound : (walk : Label) → bound_in name (slice_get s.records i) ≡ None → put_named (in_record i) walk name v s ≡ throw_error kinds.ReferenceError bottom s
  unfolding put_named assigned_to
  put_unbound walk here = ap (λ o. as_putting (assigned_to o name i v) s) here ∙ then_error (Unit {0}) tracked.Putting kinds.ReferenceError bottom put_behind s

-- ---- names, by where they stand

module _ {S T : Type 0} (made : S → T → Type 0) (meaning : S → T → Label) (store : S) (w after : World T) (p : Place) (name : List ℕ) (walk : T) (v : Labelled T) (result : Result (machine.Outcome (Putting T) T) (FlowFault T)) where
  abbrev puts_at : Place → Type 0
  puts_at q = Acts made meaning store (λ reading. read_putting reading) (λ reading. put_value (of_name name (place_of q) (reading walk)) (read_value reading v)) w after result

  -- what is done to a name by where it stands is done to its reference
  pub put_there : (q : Place) → p ≡ q → Acts made meaning store (λ reading. read_putting reading) (λ reading. put_named (place_of q) (reading walk) name (read_value reading v)) w after result → puts_at p
  unfolding put_value
  put_there q is acts = subst puts_at (sym is) (record { says = acts.says })

  pub put_nowhere : p ≡ place.Nowhere → Acts made meaning store (λ reading. read_putting reading) (λ reading. throw_error {X = tracked.Putting} kinds.ReferenceError (reading walk)) w after result → puts_at p
  unfolding put_value put_named
  put_nowhere is acts = subst puts_at (sym is) (record { says = acts.says })

  -- a name of the global object
  pub put_globally : (none : T) → ((reading : T → Label) → IsReading made meaning store reading → reading none ≡ bottom)
      → Acts made meaning store (λ reading. read_putting reading) (λ reading. tracked.put W1 global_object.0 name (reading none) (called_value (reading none) global_object.0) (read_value reading v)) w after result → Acts made meaning store (λ reading. read_putting reading) (λ reading. put_named on_global (reading walk) name (read_value reading v)) w after result
  unfolding put_named
  put_globally none empty acts =
      Acts-as made meaning store (λ reading. read_putting reading) (λ reading. tracked.put W1 global_object.0 name (reading none) (called_value (reading none) global_object.0) (read_value reading v)) (λ reading. put_named on_global (reading walk) name (read_value reading v)) w after result
      (λ reading is told turns. ap (λ l. tracked.put W1 global_object.0 name l (called_value l global_object.0) (read_value reading v) (state_of reading w told turns)) (sym (empty reading is)))
      acts

  -- a name without a binding in the record
  pub put_absent : (i : ℕ) → bound_in name (slice_get w.records i) ≡ None → Acts made meaning store (λ reading. read_putting reading) (λ reading. throw_error {X = tracked.Putting} kinds.ReferenceError bottom) w after result
      → Acts made meaning store (λ reading. read_putting reading) (λ reading. put_named (in_record i) (reading walk) name (read_value reading v)) w after result
  put_absent i none acts =
      Acts-as made meaning store (λ reading. read_putting reading) (λ reading. throw_error {X = tracked.Putting} kinds.ReferenceError bottom) (λ reading. put_named (in_record i) (reading walk) name (read_value reading v)) w after result
      (λ reading agrees told turns. put_unbound i name (read_value reading v) (state_of reading w told turns) (reading walk) (read_bound_in reading name w.records i ∙ ap (option_map (read_binding reading)) none))
      acts

-- a name that isn't found isn't bound
pub unbound_there : {A B V : Type 0} (f : A → B) (g : V → B) (a : Option A) (b : Option V) → option_map f a ≡ option_map g b → is_some a ≡ false → b ≡ None
unbound_there f g (Some a) b same none = absurd (true≢false none)
unbound_there f g None (Some b) same none = absurd (none-some (g b) same)
unbound_there f g None None same none = refl

-- ---- names that have one

-- a world with other records
abbrev pub with_records : {T : Type 0} → List (Record (Labelled T)) → World T → World T
with_records records w = record w { records = records }

module _ {S T : Type 0} (made : S → T → Type 0) (meaning : S → T → Label) (room : S → ℕ) (firm : S → Bool) (old new : S) (kept : IsKept made meaning room firm old new) (w : World T) (belongs : Belongs made meaning old w) where
  -- other records of a later store
  pub Belongs-records : ((store : S) (label : T) → made store label → IsLabel (meaning store label)) → (records : List (Record (Labelled T))) → HasRecords (made new) records → Belongs made meaning new (with_records records w)
  Belongs-records rising records has =
      let later = Belongs-later made meaning room firm old new kept rising w belongs in
      record { frames = later.frames; catch = later.catch; heap = later.heap; records = has; started = later.started }

  module _ (label : T) (m : made old label) (is : meaning old label ≡ context (seen meaning old w.frames.frames)) (i : ℕ) (name : List ℕ) (walk : T) (v : Labelled T) (bound : IsSome (bound_in name (slice_get w.records i))) where
    put_from : (reading : T → Label) (s : State) (o : Option (Binding (Labelled T))) → bound_in name (slice_get w.records i) ≡ o → IsSome o → s.records ≡ read_records reading w.records → put_named (in_record i) (reading walk) name (read_value reading v) s ≡ from_assigned (assign i name (context s.frames) (read_value reading v) s.records) s
    put_from reading s None here some same = absurd (false≢true some)
    put_from reading s (Some b) here some same = put_bound i name (read_value reading v) s (reading walk) (read_binding reading b) (ap (λ rs. bound_in name (slice_get rs i)) same ∙ read_bound_in reading name w.records i ∙ ap (option_map (read_binding reading)) here)

    put_is : (reading : T → Label) → IsReading made meaning old reading → (told : List LabelledLine) (turns : ℕ) → put_named (in_record i) (reading walk) name (read_value reading v) (state_of reading w told turns) ≡ from_assigned (assign i name (reading label) (read_value reading v) (read_records reading w.records)) (state_of reading w told turns)
    put_is reading read told turns =
        let s = state_of reading w told turns in
        put_from reading s (bound_in name (slice_get w.records i)) refl bound refl
        ∙ ap (λ l. from_assigned (assign i name l (read_value reading v) (read_records reading w.records)) s) (ap context (read_frames made meaning old reading w.frames.frames read belongs.frames) ∙ sym is ∙ sym (read.agrees label m))

    pub put_done : (records : List (Record (Labelled T))) → Comes made meaning new (λ reading. assign i name (reading label) (read_value reading v)) w.records (λ reading. done (read_records reading records))
        → Acts made meaning new (λ reading. read_putting reading) (λ reading. put_named (in_record i) (reading walk) name (read_value reading v)) w (with_records records w) (Ok (outcome.Goes putting.Put))
    put_done records comes = record {
      says = λ reading read told turns.
          put_is reading (IsReading-earlier made meaning room firm old new reading kept read) told turns
          ∙ ap (λ a. from_assigned a (state_of reading w told turns)) (comes reading read);
    }

    pub put_stopped : (stop : FlowStop T) (records : List (Record (Labelled T))) → records ≡ w.records → Comes made meaning new (λ reading. assign i name (reading label) (read_value reading v)) w.records (λ reading. variables.stopped (read_stop reading stop))
        → Acts made meaning new (λ reading. read_putting reading) (λ reading. put_named (in_record i) (reading walk) name (read_value reading v)) w (with_records records w) (Err (fault.Stop stop))
    put_stopped stop records same comes = record {
      says = λ reading read told turns.
          put_is reading (IsReading-earlier made meaning room firm old new reading kept read) told turns
          ∙ ap (λ a. from_assigned a (state_of reading w told turns)) (comes reading read)
          ∙ ap (λ rs. Ends (stopped stop.rule (reading stop.need) (reading stop.have)) (state_of reading (with_records rs w) told turns)) (sym same);
    }

    -- a binding that can't be changed: the error is thrown in a later store
    pub put_immutable : (last : S) → IsKept made meaning room firm new last → (records : List (Record (Labelled T))) (after : World T) (result : Result (machine.Outcome (Putting T) T) (FlowFault T)) → records ≡ w.records → Comes made meaning new (λ reading. assign i name (reading label) (read_value reading v)) w.records (λ reading. immutable)
        → Acts made meaning last (λ reading. read_putting reading) (λ reading. throw_error {X = tracked.Putting} kinds.TypeError bottom) (with_records records w) after result
        → Acts made meaning last (λ reading. read_putting reading) (λ reading. put_named (in_record i) (reading walk) name (read_value reading v)) w after result
    put_immutable last later records after result same comes acts =
        Acts-as made meaning last (λ reading. read_putting reading) (λ reading. throw_error {X = tracked.Putting} kinds.TypeError bottom) (λ reading. put_named (in_record i) (reading walk) name (read_value reading v)) w after result
        (λ reading read told turns.
        let middle = IsReading-earlier made meaning room firm new last reading later read in
        put_is reading (IsReading-earlier made meaning room firm old new reading kept middle) told turns
        ∙ ap (λ a. from_assigned a (state_of reading w told turns)) (comes reading middle))
        (subst (λ rs. Acts made meaning last (λ reading. read_putting reading) (λ reading. throw_error {X = tracked.Putting} kinds.TypeError bottom) (with_records rs w) after result) same acts)
