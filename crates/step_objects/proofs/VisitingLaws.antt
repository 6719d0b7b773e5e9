-- Whether a key is still there, in a reading of the labels.
use Rattle.std.proofs.Common.{◌≡◌, ℕ, Bool, List, [], ◌∷◌, length, ◌-◌, Result, Ok, Err, IfOk, OnOk, sym, ap, ap₂, ◌∙◌}
use Rattle.std.specs.Result.{IsErrAnd}
use Rattle.origin_labels.specs.Label.{Label, bottom}
use Rattle.origin_labels.specs.Stores.{IsKept}
use Rattle.flow_frames.specs.declared.faults.FlowFault.{FlowFault}
use Rattle.flow_frames.specs.Changes.{raised}
use Rattle.flow_frames.specs.Frames.{Frame}
use Rattle.flow_frames.specs.Held.{Kept, Belong, seen}
use Rattle.js_number.specs.declared.primitive.Primitive.TheVariants.{Str}
use Rattle.js_values.specs.declared.value.Labelled.{Labelled}
use Rattle.js_values.specs.declared.value.Value.{Value}
use Rattle.js_values.specs.declared.value.Value.TheVariants as value
use Rattle.js_values.specs.Readings.{read_value}
use Rattle.js_values.proofs.ReadingLaws.{IsReading-earlier}
use Rattle.es_meaning.specs.Outcomes.{Goes, and_then, ret, ◌>>=◌}
use Rattle.es_meaning.specs.Operations.{has_key}
use Rattle.es_meaning.specs.Operators.{truth}
use Rattle.es_meaning.specs.Plain.{key_text}
use Rattle.flow_meaning.specs.Erased.{unlabelled}
use Rattle.flow_meaning.specs.Scopes.{L, Val, raise}
use Rattle.flow_policy.specs.Policies.{Tables}
use Rattle.flow_policy.specs.Inputs.{Given}
use Rattle.flow_meaning.specs.Tracked.{act}
use Rattle.run_state.specs.declared.outcome.Outcome.{Outcome}
use Rattle.run_state.specs.declared.outcome.Outcome.TheVariants as outcome
use Rattle.run_state.specs.declared.outcome.Leaving.{Leaving}
use Rattle.run_state.specs.declared.world.World.{World}
use Rattle.run_state.specs.Acts.{Acts}
use Rattle.run_state.specs.Worlds.{state_of}
use Rattle.run_state.proofs.ActLaws.{Acts-as, Acts-throws, Acts-leaves, Acts-passes}
use Rattle.property_access.proofs.ThrowLaws.{with_frames}
use Rattle.step_objects.specs.Taking.{Raises, still}
use Rattle.step_objects.proofs.TakingLaws.{frames_raised}

module _ {S T : Type 0} (made : S → T → Type 0) (meaning : S → T → Label) (room : S → ℕ) (firm : S → Bool) (old new : S) (kept : IsKept made meaning room firm old new) (w : World T) (label : T) (frames : Kept T) where
  pub frame_raised : Belong made meaning old w.frames.frames → Belong made meaning new frames.frames → made old label → seen meaning new frames.frames ≡ raised (seen meaning old w.frames.frames) (length w.frames.frames - 1) (meaning old label)
      → Raises made meaning new label w (with_frames frames w)
  unfolding raise
  frame_raised before after m more = record {
    is = λ reading told turns read. ap (λ (fs : List Frame). Goes tt (record (state_of reading w told turns) { frames = fs })) (frames_raised made meaning room firm old new kept w label frames before after m more reading read);
  }

module _ (tables : Tables) (inputs : Given) {S T : Type 0} (made : S → T → Type 0) (meaning : S → T → Label) (store : S) (object : Labelled T) (key : Value) (text : List ℕ) (none : T) (is : text ≡ key_text key) (m : made store none) (empty : meaning store none ≡ bottom) (old new : World T) where
  abbrev key_with : Labelled T
  key_with = record { value = value.Primitive (Str text); label = none }

  abbrev Asks : Result (Outcome (Labelled T) T) (FlowFault T) → Type 0
  Asks answer = Acts made meaning store (λ reading. read_value reading) (λ reading. act tables inputs has_key (read_value reading key_with ∷ read_value reading object ∷ [])) old new answer

  abbrev told_by : (T → Label) → L Val
  told_by reading = act tables inputs has_key (unlabelled (value.Primitive (Str (key_text key))) ∷ read_value reading object ∷ [])

  abbrev raises : Val → L Bool
  raises v = raise v.label >>= λ u. ret (truth v.value)

  -- the key has no origin
  asks_text : (answer : Result (Outcome (Labelled T) T) (FlowFault T)) → Asks answer → Acts made meaning store (λ reading. read_value reading) told_by old new answer
  asks_text answer acts = Acts-as made meaning store (λ reading. read_value reading) (λ reading. act tables inputs has_key (read_value reading key_with ∷ read_value reading object ∷ [])) told_by old new answer
      (λ reading read told turns. ap₂ (λ (t : List ℕ) (l : Label). act tables inputs has_key (record { value = value.Primitive (Str t); label = l } ∷ read_value reading object ∷ []) (state_of reading old told turns)) (sym is) (sym (read.agrees none m ∙ empty))) acts

  pub still_throws : (error : Labelled T) → Asks (Ok (outcome.Throws error)) → Acts made meaning store (λ reading (b : Bool). b) (λ reading. still tables inputs (read_value reading object) (key_text key)) old new (Ok (outcome.Throws error))
  unfolding still
  still_throws error acts = Acts-throws made meaning store (λ reading. read_value reading) (λ reading (b : Bool). b) told_by (λ reading. raises) old new error (asks_text (Ok (outcome.Throws error)) acts)

  pub still_leaves : (why : Leaving) → Asks (Ok (outcome.Leaves why)) → Acts made meaning store (λ reading (b : Bool). b) (λ reading. still tables inputs (read_value reading object) (key_text key)) old new (Ok (outcome.Leaves why))
  unfolding still
  still_leaves why acts = Acts-leaves made meaning store (λ reading. read_value reading) (λ reading (b : Bool). b) told_by (λ reading. raises) old new why (asks_text (Ok (outcome.Leaves why)) acts)

  pub still_fails : (f : FlowFault T) (result : Result (Outcome Bool T) (FlowFault T)) → IsErrAnd result (λ e. e ≡ f) → Asks (Err f) → Acts made meaning store (λ reading (b : Bool). b) (λ reading. still tables inputs (read_value reading object) (key_text key)) old new result
  unfolding still
  still_fails f result failed acts = Acts-passes made meaning store (λ reading. read_value reading) (λ reading (b : Bool). b) told_by (λ reading. raises) old new f result failed (asks_text (Err f) acts)

  pub still_goes : (room : S → ℕ) (firm : S → Bool) (later : S) → IsKept made meaning room firm store later → (last : World T) (has : Labelled T) (b : Bool) → b ≡ truth has.value → Asks (Ok (outcome.Goes has)) → Raises made meaning later has.label new last
      → Acts made meaning later (λ reading (b : Bool). b) (λ reading. still tables inputs (read_value reading object) (key_text key)) old last (Ok (outcome.Goes b))
  unfolding still
  still_goes room firm later kept last has b same acts raised = record {
    says = λ reading read told turns.
        let earlier = IsReading-earlier made meaning room firm store later reading kept read in
        ap (λ o. and_then o raises) ((asks_text (Ok (outcome.Goes has)) acts).says reading earlier told turns)
        ∙ ap (λ o. and_then o (λ u. ret (truth has.value))) (raised.is reading told turns read)
        ∙ ap (λ (c : Bool). Goes c (state_of reading last told turns)) (sym same);
  }

-- a call that raises it, if it finds memory
pub raised_if : {S T E X : Type 0} (made : S → T → Type 0) (meaning : S → T → Label) (room : S → ℕ) (firm : S → Bool) (old new : S) → IsKept made meaning room firm old new → (w : World T) (label : T) (frames : Kept T) (result : Result X E) → Belong made meaning old w.frames.frames → Belong made meaning new frames.frames → made old label
    → OnOk result (seen meaning new frames.frames ≡ raised (seen meaning old w.frames.frames) (length w.frames.frames - 1) (meaning old label)) → IfOk result (λ x. Raises made meaning new label w (with_frames frames w))
raised_if made meaning room firm old new kept w label frames (Ok x) before after m more = frame_raised made meaning room firm old new kept w label frames before after m more
raised_if made meaning room firm old new kept w label frames (Err e) before after m more = tt
