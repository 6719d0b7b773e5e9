-- The plans of conversions.
use Rattle.std.proofs.Common.{arith, refl, sym, ap, ap₂, subst, ◌∙◌, ◌≡◌, ◌+◌, ℕ, suc, Bool, true, false, List, [], ◌∷◌, ◌++◌, map, length, Ok}
use Rattle.std.specs.List.{All}
use Rattle.std.proofs.lemmas.List.{length-map}
use Rattle.std.proofs.lemmas.List.Elements.{All-append}
use Rattle.origin_labels.specs.Label.{Label, union}
use Rattle.origin_labels.specs.Stores.{IsKept}
use Rattle.flow_policy.specs.Policies.{Tables}
use Rattle.flow_policy.specs.Inputs.{Given}
use Rattle.flow_frames.specs.declared.kind.Kind.TheVariants as kind
use Rattle.js_ast.specs.Functions.{FunctionCode}
use Rattle.js_values.specs.declared.value.Labelled.{Labelled}
use Rattle.js_values.specs.Readings.{HasValue, IsReading, read_value}
use Rattle.js_values.proofs.ReadingLaws.{IsReading-earlier}
use Rattle.native_protocol.specs.declared.hint.Hint.{Hint}
use Rattle.native_protocol.specs.declared.hint.Hint.TheVariants as hint
use Rattle.native_protocol.specs.declared.request.Answer.{Answer}
use Rattle.native_protocol.specs.declared.request.Request.{Request}
use Rattle.native_protocol.specs.Steps.{conversion}
use Rattle.es_meaning.specs.BuiltIns.{BuiltIns}
use Rattle.es_meaning.specs.Operators.{converts_beside, is_object}
use Rattle.flow_meaning.specs.Planned.{Plan, asking, convert_by, in_frame}
use Rattle.flow_meaning.specs.Scopes.{State, joined}
use Rattle.step_natives.specs.States.{States, running_steps, steps_of, waiting_steps}
use Rattle.run_state.specs.declared.world.World.{World}
use Rattle.run_state.specs.Worlds.{Belongs, state_of}
use Rattle.continuations.specs.declared.continuation.Control.{Control}
use Rattle.continuations.specs.declared.continuation.Control.TheVariants as control
use Rattle.continuations.specs.Going.{Begins, here}
use Rattle.continuations.specs.Kept.{Kept, kept_operands, scopes_of, waiting}
use Rattle.continuations.specs.Pending.{behind, first_or_undefined, next_plan, setting_above}
use Rattle.continuations.specs.Resuming.{coming}
use Rattle.continuations.specs.Settings.{entrance, setting_of}
use Rattle.continuations.specs.Invariant.{Invariant, depths}
use Rattle.continuations.proofs.Handed.{gives_alone}
use Rattle.step_natives.specs.Converting.{Converts}
use Rattle.step_natives.specs.Framed.{RunsNative, steps_at, steps_behind}
use Rattle.step_natives.proofs.FrameLaws.{values_kept}
use Rattle.step_natives.proofs.ValueLists.{front_has, one_has}

alone : {T : Type 0} (reading : T → Label) (loose : List (Labelled T)) → length loose ≡ 1 → map (read_value reading) loose ≡ first_or_undefined (map (read_value reading) loose) ∷ []
alone reading [] one = absurd (omega (arith, one))
alone reading (v ∷ []) one = refl
alone reading (v ∷ u ∷ loose) one = absurd (omega (arith, one))

module _ {S T X : Type 0} (made : S → T → Type 0) (meaning : S → T → Label) (store : S) (tables : Tables) (inputs : Given) (set : BuiltIns) (functions : List FunctionCode) (tells : X → Answer → X) (asks : X → Request) (natives_old natives_new : States X) where
  -- an object is converted
  runs_at : (h : Hint) (label : T) (old new : Kept T) (world world_new : World T) → RunsNative made meaning store label old new world world_new (control.Request 1)
      → running_steps tells asks natives_new ≡ waiting_steps tells asks natives_old ++ conversion h ∷ [] → length (waiting_steps tells asks natives_old) ≡ waiting old.tasks → length old.loose ≡ 1
      → Converts made meaning store tables inputs set functions (waiting_steps tells asks natives_old) (steps_at tells asks natives_new) h label old new world world_new (control.Request 1)
  runs_at h label old new world world_new runs begun size one = λ reading told turns read.
      let ns = waiting_steps tells asks natives_old in
      let s = state_of reading world told turns in
      ap (λ xs. coming tables inputs set functions reading new (control.Request 1) (setting_of xs here) (state_of reading world_new told turns)) begun
      ∙ runs tables inputs set functions reading (setting_of ns here) (conversion h) told turns read size
      ∙ ap (λ vs. behind tables inputs set functions reading old.tasks (setting_of ns here) (in_frame kind.Native (reading label) ((asking tables inputs set functions).native (conversion h) vs) s)) (alone reading old.loose one)

  pub conversion_runs : (h : Hint) (label : T) (old new : Kept T) (world world_new : World T) (move : Control) → move ≡ control.Request 1 → RunsNative made meaning store label old new world world_new move
      → running_steps tells asks natives_new ≡ waiting_steps tells asks natives_old ++ conversion h ∷ [] → length (waiting_steps tells asks natives_old) ≡ waiting old.tasks → length old.loose ≡ 1
      → Converts made meaning store tables inputs set functions (waiting_steps tells asks natives_old) (steps_at tells asks natives_new) h label old new world world_new move
  conversion_runs h label old new world world_new move is runs begun size one =
      subst (λ m. RunsNative made meaning store label old new world world_new m → Converts made meaning store tables inputs set functions (waiting_steps tells asks natives_old) (steps_at tells asks natives_new) h label old new world world_new m) (sym is)
      (λ r. runs_at h label old new world world_new r begun size one) runs

  module _ (h : Hint) (old new : Kept T) (world world_new : World T) (v : Labelled T) (lies : old.loose ≡ v ∷ []) where
    abbrev converted : Bool → (T → Label) → State → Plan
    converted b reading s = convert_by b (entrance tables inputs set functions) h (reading v.label) (read_value reading v) (read_value reading v) s

    planned_so : (b : Bool) → is_object v.value ≡ b → (reading : T → Label) (s : State)
        → coming tables inputs set functions reading old (control.Convert h) (setting_of (waiting_steps tells asks natives_old) here) s ≡ behind tables inputs set functions reading old.tasks (setting_of (waiting_steps tells asks natives_old) here) (converted b reading s)
    planned_so b is reading s =
        ap (λ vs. behind tables inputs set functions reading old.tasks (setting_of (waiting_steps tells asks natives_old) here) (next_plan tables inputs set functions (control.Convert h) (map (read_value reading) vs) (setting_above old.tasks (setting_of (waiting_steps tells asks natives_old) here)) s)) lies
        ∙ ap (λ t. behind tables inputs set functions reading old.tasks (setting_of (waiting_steps tells asks natives_old) here) (converted t reading s)) is

    pub object_begins : is_object v.value ≡ true → (move : Control) → Converts made meaning store tables inputs set functions (waiting_steps tells asks natives_old) (steps_at tells asks natives_new) h v.label old new world world_new move
        → Begins made meaning store tables inputs set functions (waiting_steps tells asks natives_old) (steps_behind {T = T} tells asks natives_new (Ok move)) old new world world_new (control.Convert h) (Ok move)
    unfolding convert_by
    object_begins is move converts = λ reading told turns read.
        let ns = waiting_steps tells asks natives_old in
        let s = state_of reading world told turns in
        converts reading told turns read
        ∙ ap (λ vs. behind tables inputs set functions reading old.tasks (setting_of ns here) (in_frame kind.Native (reading v.label) ((entrance tables inputs set functions).conversion h (first_or_undefined (map (read_value reading) vs))) s)) lies
        ∙ sym (planned_so true is reading s)

  -- a primitive value stays
  pub primitive_begins : (h : Hint) (old : Kept T) (world : World T) (v : Labelled T) → old.loose ≡ v ∷ [] → is_object v.value ≡ false → natives_new ≡ natives_old
      → Begins made meaning store tables inputs set functions (waiting_steps tells asks natives_old) (waiting_steps tells asks natives_new) old old world world (control.Convert h) (Ok control.Value)
  unfolding convert_by
  primitive_begins h old world v lies is same = λ reading told turns read.
      let s = state_of reading world told turns in
      ap (λ (n : States X). coming tables inputs set functions reading old control.Value (setting_of (waiting_steps tells asks n) here) s) same
      ∙ gives_alone tables inputs set functions reading old old v (setting_of (waiting_steps tells asks natives_old) here) s refl lies
      ∙ sym (planned_so h old old world world v lies false is reading s)

  -- ---- two values

  module _ (old laid new : Kept T) (world world_new : World T) (v u : Labelled T) (label : T) (lie : old.loose ≡ v ∷ u ∷ []) (tasks : laid.tasks ≡ old.tasks)
      (means : (reading : T → Label) → IsReading made meaning store reading → reading label ≡ union (reading v.label) (reading u.label)) where
    abbrev compared : Bool → Label → (T → Label) → State → Plan
    compared b l reading s = convert_by b (entrance tables inputs set functions) hint.Default l (read_value reading v) (record { value = v.value; label = l }) s

    compared_so : (b : Bool) → converts_beside v.value u.value ≡ b → (reading : T → Label) → IsReading made meaning store reading → (s : State)
        → coming tables inputs set functions reading old control.Compare (setting_of (waiting_steps tells asks natives_old) here) s ≡ behind tables inputs set functions reading old.tasks (setting_of (waiting_steps tells asks natives_old) here) (compared b (reading label) reading s)
    compared_so b is reading read s =
        ap (λ vs. behind tables inputs set functions reading old.tasks (setting_of (waiting_steps tells asks natives_old) here) (next_plan tables inputs set functions control.Compare (map (read_value reading) vs) (setting_above old.tasks (setting_of (waiting_steps tells asks natives_old) here)) s)) lie
        ∙ ap₂ (λ t l. behind tables inputs set functions reading old.tasks (setting_of (waiting_steps tells asks natives_old) here) (compared t l reading s)) is (sym (means reading read))

    pub beside_begins : converts_beside v.value u.value ≡ true → laid.loose ≡ v ∷ [] → (move : Control) → Converts made meaning store tables inputs set functions (waiting_steps tells asks natives_old) (steps_at tells asks natives_new) hint.Default label laid new world world_new move
        → Begins made meaning store tables inputs set functions (waiting_steps tells asks natives_old) (steps_behind {T = T} tells asks natives_new (Ok move)) old new world world_new control.Compare (Ok move)
    unfolding convert_by
    beside_begins is lies move converts = λ reading told turns read.
        let ns = waiting_steps tells asks natives_old in
        let s = state_of reading world told turns in
        converts reading told turns read
        ∙ ap₂ (λ ts vs. behind tables inputs set functions reading ts (setting_of ns here) (in_frame kind.Native (reading label) ((entrance tables inputs set functions).conversion hint.Default (first_or_undefined (map (read_value reading) vs))) s)) tasks lies
        ∙ sym (compared_so true is reading read s)

    pub apart_begins : converts_beside v.value u.value ≡ false → laid.loose ≡ record { value = v.value; label = label } ∷ [] → natives_new ≡ natives_old
        → Begins made meaning store tables inputs set functions (waiting_steps tells asks natives_old) (waiting_steps tells asks natives_new) old laid world world control.Compare (Ok control.Value)
    unfolding convert_by
    apart_begins is lies same = λ reading told turns read.
        let s = state_of reading world told turns in
        ap (λ (n : States X). coming tables inputs set functions reading laid control.Value (setting_of (waiting_steps tells asks n) here) s) same
        ∙ gives_alone tables inputs set functions reading old laid (record { value = v.value; label = label }) (setting_of (waiting_steps tells asks natives_old) here) s tasks lies
        ∙ sym (compared_so false is reading read s)

    abbrev converted_beside : Bool → Label → (T → Label) → State → Plan
    converted_beside b l reading s = convert_by b (entrance tables inputs set functions) hint.Number l (read_value reading u) (read_value reading u) s

    converted_so : (b : Bool) → is_object u.value ≡ b → (reading : T → Label) → IsReading made meaning store reading → (s : State)
        → coming tables inputs set functions reading old control.ConvertBeside (setting_of (waiting_steps tells asks natives_old) here) s ≡ behind tables inputs set functions reading old.tasks (setting_of (waiting_steps tells asks natives_old) here) (converted_beside b (reading label) reading s)
    converted_so b is reading read s =
        ap (λ vs. behind tables inputs set functions reading old.tasks (setting_of (waiting_steps tells asks natives_old) here) (next_plan tables inputs set functions control.ConvertBeside (map (read_value reading) vs) (setting_above old.tasks (setting_of (waiting_steps tells asks natives_old) here)) s)) lie
        ∙ ap₂ (λ t l. behind tables inputs set functions reading old.tasks (setting_of (waiting_steps tells asks natives_old) here) (converted_beside t l reading s)) is (sym (means reading read))

    -- the second of them is converted with the label of both
    pub second_begins : is_object u.value ≡ true → laid.loose ≡ u ∷ [] → (move : Control) → Converts made meaning store tables inputs set functions (waiting_steps tells asks natives_old) (steps_at tells asks natives_new) hint.Number label laid new world world_new move
        → Begins made meaning store tables inputs set functions (waiting_steps tells asks natives_old) (steps_behind {T = T} tells asks natives_new (Ok move)) old new world world_new control.ConvertBeside (Ok move)
    unfolding convert_by
    second_begins is lies move converts = λ reading told turns read.
        let ns = waiting_steps tells asks natives_old in
        let s = state_of reading world told turns in
        converts reading told turns read
        ∙ ap₂ (λ ts vs. behind tables inputs set functions reading ts (setting_of ns here) (in_frame kind.Native (reading label) ((entrance tables inputs set functions).conversion hint.Number (first_or_undefined (map (read_value reading) vs))) s)) tasks lies
        ∙ sym (converted_so true is reading read s)

    -- or stays, where it is a primitive value
    pub second_stays : is_object u.value ≡ false → laid.loose ≡ u ∷ [] → natives_new ≡ natives_old
        → Begins made meaning store tables inputs set functions (waiting_steps tells asks natives_old) (waiting_steps tells asks natives_new) old laid world world control.ConvertBeside (Ok control.Value)
    unfolding convert_by
    second_stays is lies same = λ reading told turns read.
        let s = state_of reading world told turns in
        ap (λ (n : States X). coming tables inputs set functions reading laid control.Value (setting_of (waiting_steps tells asks n) here) s) same
        ∙ gives_alone tables inputs set functions reading old laid u (setting_of (waiting_steps tells asks natives_old) here) s tasks lies
        ∙ sym (converted_so false is reading read s)

-- ---- steps and labels

pub steps_size : {X : Type 0} (tells : X → Answer → X) (asks : X → Request) (natives : States X) → length (waiting_steps tells asks natives) ≡ length natives.states
unfolding waiting_steps
steps_size tells asks natives = length-map natives.states (steps_of tells asks)

-- a label that was joined, in a later store
pub union_read : {S T : Type 0} (made : S → T → Type 0) (meaning : S → T → Label) (room : S → ℕ) (firm : S → Bool) (old joined last : S) → IsKept made meaning room firm old joined → IsKept made meaning room firm joined last → (a b label : T) → made old a → made old b → made joined label
    → meaning joined label ≡ union (meaning old a) (meaning old b) → (reading : T → Label) → IsReading made meaning last reading → reading label ≡ union (reading a) (reading b)
union_read made meaning room firm old joined last first second a b label m k n is reading read =
    let later = IsReading-earlier made meaning room firm joined last reading second read in
    let earlier = IsReading-earlier made meaning room firm old joined reading first later in
    later.agrees label n ∙ is ∙ ap₂ union (sym (earlier.agrees a m)) (sym (earlier.agrees b k))

-- ---- what stands

module _ {S T : Type 0} (made : S → T → Type 0) (meaning : S → T → Label) (room : S → ℕ) (firm : S → Bool) (old_store new_store : S) (kept : IsKept made meaning room firm old_store new_store) where
  -- a conversion with a value beside it stands as a comparison does
  pub as_compared : (old : Kept T) (world : World T) (natives : ℕ) → Invariant made meaning old_store old world 2 (scopes_of old.tasks) natives control.ConvertBeside → Invariant made meaning old_store old world 2 (scopes_of old.tasks) natives control.Compare
  as_compared old world natives s = record { belongs = s.belongs; operands = s.operands; values = s.values; scopes = s.scopes; frames = s.frames; records = s.records; natives = s.natives }

  -- two values were taken, and one was laid
  pub stands_one : (old laid : Kept T) (world : World T) (natives : ℕ) (v u w : Labelled T) → Invariant made meaning old_store old world 2 (scopes_of old.tasks) natives control.Compare → Belongs made meaning new_store world
      → old.loose ≡ v ∷ u ∷ [] → laid.tasks ≡ old.tasks → laid.loose ≡ w ∷ [] → made new_store w.label
      → Invariant made meaning new_store laid world 1 (scopes_of laid.tasks) natives control.Value
  stands_one old laid world natives v u w s belongs lie tasks lies m =
      let P = HasValue (made new_store) in
      let pending : All P (kept_operands old.tasks) = values_kept made meaning room firm old_store new_store kept (kept_operands old.tasks) (front_has (HasValue (made old_store)) (kept_operands old.tasks) old.loose s.operands) in
      record {
        belongs = belongs;
        operands = subst (All P) (sym (ap₂ (λ ts vs. kept_operands ts ++ vs) tasks lies)) (All-append P (kept_operands old.tasks) (w ∷ []) pending (one_has P w m));
        values = ap length lies;
        scopes = subst (λ ts. scopes_of ts ≡ depths (length (scopes_of ts))) (sym tasks) s.scopes;
        frames = s.frames ∙ ap (λ ts. suc (length (scopes_of ts))) (sym tasks);
        records = s.records;
        natives = s.natives ∙ ap (λ ts. waiting ts + 0) (sym tasks);
      }
