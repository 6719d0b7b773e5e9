-- What calls on channels answer, as the acts in each reading that agrees with the store.
use Rattle.std.proofs.Common.{◌≡◌, ℕ, List, [], ◌∷◌, ◌++◌, ◌<◌, length, get_or, map, Bool, true, false, Option, Some, None, Result, Ok, Err, refl, ap, ap₂, sym, subst, ◌∙◌}
use Rattle.std.specs.Result.{IsErrAnd}
use Rattle.std.proofs.lemmas.Option.{slice_get_read}
use Rattle.origin_labels.specs.Label.{Label, union, within, label_of}
use Rattle.flow_policy.specs.Policies.{Tables}
use Rattle.flow_policy.specs.Inputs.{Given}
use Rattle.flow_policy.specs.declared.policy.Channel.{Channel}
use Rattle.flow_frames.specs.declared.faults.Rule.{Rule}
use Rattle.flow_frames.specs.declared.faults.Rule.TheVariants.{W11, W12}
use Rattle.flow_frames.specs.declared.faults.FlowFault.{FlowFault}
use Rattle.flow_frames.specs.declared.faults.FlowFault.TheVariants as fault
use Rattle.flow_frames.specs.Frames.{context}
use Rattle.flow_frames.specs.Held.{seen_frame}
use Rattle.flow_frames.specs.Stops.{IfStop}
use Rattle.js_number.specs.declared.primitive.Primitive.{Primitive}
use Rattle.js_values.specs.declared.ids.ObjId.{ObjId}
use Rattle.js_values.specs.declared.value.Value.{Value}
use Rattle.js_values.specs.declared.value.Value.TheVariants as value
use Rattle.js_values.specs.declared.value.Labelled.{Labelled}
use Rattle.js_values.specs.Readings.{IsReading, read_value}
use Rattle.native_protocol.specs.declared.request.ErrorKind.TheVariants as kinds
use Rattle.es_meaning.specs.Outcomes.{Outcome, Goes, Ends}
use Rattle.es_meaning.specs.Operations as operations
use Rattle.es_meaning.specs.Plain.{undefined, channel_of, channel_name, value_read, positions_behind, line_at}
use Rattle.es_meaning.specs.Requested.{are_origins}
use Rattle.flow_meaning.specs.Scopes.{Val, L, Halt, Jump, State, LabelledLine, stopped}
use Rattle.flow_meaning.specs.Tracked.{act, label_at, channel_label, if_origins, on_object, on_object_in, throw_error}
use Rattle.run_state.specs.declared.outcome.Outcome as machine
use Rattle.run_state.specs.declared.outcome.Outcome.TheVariants as outcomes
use Rattle.run_state.specs.declared.outcome.Leaving.TheVariants as leaving
use Rattle.run_state.specs.declared.world.World.{World}
use Rattle.run_state.specs.Worlds.{state_of}
use Rattle.run_state.specs.Acts.{Acts, Says}
use Rattle.run_state.proofs.ActLaws.{Acts-as}
use Rattle.channel_requests.specs.declared.printing.Printed.{Printed}
use Rattle.channel_requests.specs.Answers.{Means, Asks, Stops, Prints, text_in, read_printed}
use Rattle.channel_requests.proofs.ActLaws.{origins_declared, origins_unknown, read_unknown, read_allowed, read_stopped, print_unknown, print_without, print_allowed, print_stopped, label_unknown, label_known}

-- the label of the channel that was read at a place
pub channel_here : (channels shown : List Channel) (i : ℕ) (c : Channel) → shown ≡ channels → i < length channels → c ≡ get_or shown i c → channel_label channels i ≡ c.label
channel_here channels shown i c e lt is =
    ap label_at (slice_get_read channels (length channels) i c refl lt (is ∙ ap (λ (cs : List Channel). get_or cs i c) e))

-- ---- a rule stops the run

module _ {S T : Type 0} (made : S → T → Type 0) (meaning : S → T → Label) (store : S) (rule : Rule) (needed had : (T → Label) → Label) where
  fault_says : {X Y : Type 0} (f : X → Y) (reading : T → Label) → IsReading made meaning store reading → (outcome : Outcome Halt Jump Y State) (s : State)
      → (within (needed reading) (had reading) ≡ false → outcome ≡ Ends (stopped rule (needed reading) (had reading)) s)
      → (e : FlowFault T) → IfStop (Stops made meaning store rule needed had) e → Says f reading outcome s (Err e)
  fault_says f reading read outcome s law fault.OutOfMemory stops = tt
  fault_says f reading read outcome s law (fault.Stop stop) stops =
      let r = stops.rule in
      let n = stops.asks.needs.is reading read in
      let h = stops.asks.has.is reading read in
      law (stops.asks.included reading read) ∙ (λ j. Ends (stopped (sym r j) (sym n j) (sym h j)) s)

  -- the call fails with the fault of another one
  pub acts_stopped : {X Y : Type 0} (f : (T → Label) → X → Y) (act : (T → Label) → L Y) (w : World T)
      → ((reading : T → Label) → IsReading made meaning store reading → (told : List LabelledLine) (turns : ℕ) → within (needed reading) (had reading) ≡ false → act reading (state_of reading w told turns) ≡ Ends (stopped rule (needed reading) (had reading)) (state_of reading w told turns))
      → (e : FlowFault T) → IfStop (Stops made meaning store rule needed had) e → (result : Result (machine.Outcome X T) (FlowFault T)) → IsErrAnd result (λ other. other ≡ e) → Acts made meaning store f act w w result
  acts_stopped f act w law e stops (Ok x) is = absurd is
  acts_stopped f act w law e stops (Err other) is = record {
    says = λ reading read told turns.
        let s = state_of reading w told turns in
        fault_says (f reading) reading read (act reading s) s (law reading read told turns) other (subst (IfStop (Stops made meaning store rule needed had)) (sym is) stops);
  }

  pub prints_stopped : (tables : Tables) (act : (T → Label) → L Val) (w : World T)
      → ((reading : T → Label) → IsReading made meaning store reading → (told : List LabelledLine) (turns : ℕ) → within (needed reading) (had reading) ≡ false → act reading (state_of reading w told turns) ≡ Ends (stopped rule (needed reading) (had reading)) (state_of reading w told turns))
      → (e : FlowFault T) → IfStop (Stops made meaning store rule needed had) e → (result : Result (machine.Outcome (Printed T) T) (FlowFault T)) → IsErrAnd result (λ other. other ≡ e) → Prints made meaning store tables act w result
  prints_stopped tables act w law e stops (Ok x) is = absurd is
  prints_stopped tables act w law e stops (Err other) is = record {
    says = λ reading read told turns.
        let s = state_of reading w told turns in
        fault_says (read_printed reading) reading read (act reading s) s (law reading read told turns) other (subst (IfStop (Stops made meaning store rule needed had)) (sym is) stops);
  }

module _ {S T : Type 0} (made : S → T → Type 0) (meaning : S → T → Label) (tables : Tables) (w : World T) (name : Labelled T) where
  -- what the rules of channels need, by the label of what is asked for
  abbrev pub needs : T → (T → Label) → Label
  needs label reading = union (context (map (seen_frame reading) w.frames.frames)) (reading label)

  abbrev pub FoundIn : List Channel → Option ℕ → Type 0
  FoundIn channels found = found ≡ channel_of channels name.value

  -- ---- a line is read

  abbrev reading_line : Given → (T → Label) → L Val
  reading_line inputs reading = act tables inputs operations.read_line (read_value reading name ∷ [])

  pub read_leaves : (store : S) (inputs : Given) → FoundIn tables.inputs None → Acts made meaning store (λ reading. read_value reading) (reading_line inputs) w w (Ok (outcomes.Leaves leaving.Channel))
  read_leaves store inputs found = record { says = λ reading read told turns. read_unknown tables inputs (read_value reading name) (state_of reading w told turns) found }

  module _ (store : S) (inputs : Given) (i : ℕ) (channel : Channel) (found : FoundIn tables.inputs (Some i)) (here : channel_label tables.inputs i ≡ channel.label) where
    pub read_stops : (e : FlowFault T) → IfStop (Stops made meaning store W11 (needs name.label) (λ reading. channel.label)) e → (result : Result (machine.Outcome (Labelled T) T) (FlowFault T)) → IsErrAnd result (λ other. other ≡ e)
        → Acts made meaning store (λ reading. read_value reading) (reading_line inputs) w w result
    read_stops e stops result is =
        acts_stopped made meaning store W11 (needs name.label) (λ reading. channel.label) (λ reading. read_value reading) (reading_line inputs) w
        (λ reading read told turns outside. read_stopped tables inputs (read_value reading name) (state_of reading w told turns) i channel.label found here outside)
        e stops result is

    -- `v` is the world after it
    pub read_goes : (need have : T) (value : Value) (v : World T) → Asks made meaning store (needs name.label) (λ reading. channel.label) true need have → value ≡ value_read (line_at inputs i w.positions.items)
        → ((reading : T → Label) (told : List LabelledLine) (turns : ℕ) → record (state_of reading w told turns) { positions = positions_behind i (line_at inputs i w.positions.items) w.positions.items } ≡ state_of reading v told turns)
        → Acts made meaning store (λ reading. read_value reading) (reading_line inputs) w v (Ok (outcomes.Goes (record { value = value; label = have })))
    read_goes need have value v asks is behind = record {
      says = λ reading read told turns.
          let s = state_of reading w told turns in
          let after = record s { positions = positions_behind i (line_at inputs i w.positions.items) w.positions.items } in
          read_allowed tables inputs (read_value reading name) s i channel.label found here (asks.included reading read)
          ∙ ap₂ (λ (u : Value) (l : Label). Goes (record { value = u; label = l }) after) (sym is) (sym (asks.has.is reading read))
          ∙ ap (λ (t : State). Goes (record { value = value; label = reading have }) t) (behind reading told turns);
    }

  -- ---- a line is printed

  module _ (value : Labelled T) where
    abbrev printing_line : Given → (T → Label) → L Val
    printing_line inputs reading = act tables inputs operations.print_line (read_value reading name ∷ read_value reading value ∷ [])

    pub print_leaves : (store : S) → FoundIn tables.outputs None → (inputs : Given) → Prints made meaning store tables (printing_line inputs) w (Ok (outcomes.Leaves leaving.Channel))
    print_leaves store found inputs = record { says = λ reading read told turns. print_unknown tables inputs (read_value reading name) (state_of reading w told turns) (read_value reading value) found }

    pub print_lacks : (store : S) (i : ℕ) → FoundIn tables.outputs (Some i) → text_in value.value ≡ None → (inputs : Given) → Prints made meaning store tables (printing_line inputs) w (Ok (outcomes.Leaves leaving.Channel))
    print_lacks store i found lacks inputs = record { says = λ reading read told turns. print_without tables inputs (read_value reading name) (state_of reading w told turns) (read_value reading value) i found lacks }

    -- the label of a line
    abbrev pub LineLabel : S → T → Type 0
    LineLabel store label = Means made meaning store label (λ reading. union (reading name.label) (reading value.label))

    module _ (store : S) (i : ℕ) (channel : Channel) (text : List ℕ) (label : T) (found : FoundIn tables.outputs (Some i)) (means : LineLabel store label) (text_is : text_in value.value ≡ Some text) (here : channel_label tables.outputs i ≡ channel.label) where
      pub print_stops : (e : FlowFault T) → IfStop (Stops made meaning store W12 (needs label) (λ reading. channel.label)) e → (result : Result (machine.Outcome (Printed T) T) (FlowFault T)) → IsErrAnd result (λ other. other ≡ e)
          → (inputs : Given) → Prints made meaning store tables (printing_line inputs) w result
      print_stops e stops result is inputs =
          prints_stopped made meaning store W12 (needs label) (λ reading. channel.label) tables (printing_line inputs) w
          (λ reading read told turns outside. print_stopped tables inputs (read_value reading name) (state_of reading w told turns) (read_value reading value) i (reading label) channel.label text found (means.is reading read) text_is here outside)
          e stops result is

      pub print_goes : (need have : T) → Asks made meaning store (needs label) (λ reading. channel.label) true need have
          → (inputs : Given) → Prints made meaning store tables (printing_line inputs) w (Ok (outcomes.Goes (record { channel = i; text = text; need = need; label = label })))
      print_goes need have asks inputs = record {
        says = λ reading read told turns.
            let s = state_of reading w told turns in
            print_allowed tables inputs (read_value reading name) s (read_value reading value) i (reading label) channel.label text found (means.is reading read) text_is here (asks.included reading read)
            ∙ ap (λ (l : Label). Goes (record { value = undefined; label = reading label }) (record s { lines = told ++ record { line = record { channel = channel_name tables.outputs i; text = text }; label = l } ∷ [] })) (sym (asks.needs.is reading read));
      }

-- ---- origins

module _ {S T : Type 0} (made : S → T → Type 0) (meaning : S → T → Label) (store : S) (tables : Tables) (inputs : Given) (w : World T) (v : Labelled T) (origins : List ℕ) where
  abbrev declared : Bool
  declared = are_origins (length tables.origins) origins

  pub label_leaves : declared ≡ false → Acts made meaning store (λ reading. read_value reading) (λ reading. act tables inputs (operations.join_label origins) (read_value reading v ∷ [])) w w (Ok (outcomes.Leaves leaving.Origin))
  label_leaves unknown = record { says = λ reading read told turns. label_unknown tables inputs (read_value reading v) (state_of reading w told turns) origins unknown }

  pub label_goes : declared ≡ true → (added label : T) (value : Value) → value ≡ v.value → Means made meaning store added (λ reading. label_of origins) → Means made meaning store label (λ reading. union (reading v.label) (reading added))
      → Acts made meaning store (λ reading. read_value reading) (λ reading. act tables inputs (operations.join_label origins) (read_value reading v ∷ [])) w w (Ok (outcomes.Goes (record { value = value; label = label })))
  label_goes known added label value is means joined = record {
    says = λ reading read told turns.
        let s = state_of reading w told turns in
        label_known tables inputs (read_value reading v) s origins known
        ∙ ap₂ (λ (u : Value) (l : Label). Goes (record { value = u; label = l }) s) (sym is) (ap (union (reading v.label)) (sym (means.is reading read)) ∙ sym (joined.is reading read));
  }

  -- origins that join a label of an object
  module _ (next : (T → Label) → ℕ → L Val) (asked : (T → Label) → L Val) (same : (reading : T → Label) (s : State) → asked reading s ≡ if_origins declared (on_object (read_value reading v) (next reading)) s) where
    pub raise_leaves : declared ≡ false → Acts made meaning store (λ reading. read_value reading) asked w w (Ok (outcomes.Leaves leaving.Origin))
    raise_leaves unknown = record { says = λ reading read told turns. let s = state_of reading w told turns in same reading s ∙ origins_unknown declared (on_object (read_value reading v) (next reading)) s unknown }

    module _ (known : declared ≡ true) (after : World T) (result : Result (machine.Outcome (Labelled T) T) (FlowFault T)) where
      pub raise_throws : (p : Primitive) → v.value ≡ value.Primitive p → Acts made meaning store (λ reading. read_value reading) (λ reading. throw_error {X = Val} kinds.TypeError (reading v.label)) w after result → Acts made meaning store (λ reading. read_value reading) asked w after result
      unfolding on_object_in
      raise_throws p is acts =
          Acts-as made meaning store (λ reading. read_value reading) (λ reading. throw_error {X = Val} kinds.TypeError (reading v.label)) asked w after result
          (λ reading read told turns.
          let s = state_of reading w told turns in
          same reading s ∙ origins_declared declared (on_object (read_value reading v) (next reading)) s known ∙ ap (λ b. on_object_in (reading v.label) b (next reading) s) is)
          acts

      pub raise_object : (o : ObjId) → v.value ≡ value.Object o → (does : (T → Label) → L Val) → ((reading : T → Label) → IsReading made meaning store reading → (s : State) → next reading o.0 s ≡ does reading s)
          → Acts made meaning store (λ reading. read_value reading) does w after result → Acts made meaning store (λ reading. read_value reading) asked w after result
      unfolding on_object_in
      raise_object o is does does_so acts =
          Acts-as made meaning store (λ reading. read_value reading) does asked w after result
          (λ reading read told turns.
          let s = state_of reading w told turns in
          same reading s ∙ origins_declared declared (on_object (read_value reading v) (next reading)) s known ∙ ap (λ b. on_object_in (reading v.label) b (next reading) s) is ∙ does_so reading read s)
          acts
