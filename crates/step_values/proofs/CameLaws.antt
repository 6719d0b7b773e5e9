-- What a run comes to by an operator's answer.
use Rattle.std.proofs.Common.{◌≡◌, refl, sym, subst, ap₂, ◌∙◌, ℕ, Bool, List, Result, Ok, Err}
use Rattle.origin_labels.specs.Label.{Label, union}
use Rattle.origin_labels.specs.Stores.{IsKept}
use Rattle.flow_frames.specs.declared.faults.FlowFault.{FlowFault}
use Rattle.flow_frames.specs.declared.faults.FlowFault.TheVariants as fault
use Rattle.js_number.specs.declared.primitive.Primitive.{Primitive}
use Rattle.js_values.specs.declared.value.Labelled.{Labelled}
use Rattle.js_values.specs.Readings.{IsReading, HasValue, read_value}
use Rattle.js_values.proofs.ReadingLaws.{IsReading-earlier}
use Rattle.es_meaning.specs.Operators.{Given}
use Rattle.flow_meaning.specs.Scopes.{State, Val, L, LabelledLine}
use Rattle.flow_meaning.specs.Tracked.{given}
use Rattle.run_state.specs.declared.outcome.Outcome.{Outcome}
use Rattle.run_state.specs.declared.outcome.Outcome.TheVariants as outcome
use Rattle.run_state.specs.declared.world.World.{World}
use Rattle.run_state.specs.Acts.{Says, Acts, Computes, HasAnswer}
use Rattle.run_state.specs.Worlds.{state_of}
use Rattle.step_values.specs.declared.refusal.Refusal.{Refusal}
use Rattle.step_values.specs.declared.refusal.Refusal.TheVariants as refusal
use Rattle.step_values.specs.Answers.{Answers, came_of}

-- it is what the labelled meaning makes of what is given
answer_says : {T : Type 0} (reading : T → Label) (label : T) (means : Label) (answer : Result Primitive Refusal) (gives : Given) (s : State)
    → reading label ≡ means → Answers answer gives → Says (read_value reading) reading (given means gives s) s (came_of label answer)
unfolding given
answer_says reading label means (Ok v) gives s m is = rw is (rw (← m) refl)
answer_says reading label means (Err (refusal.Leaves why)) gives s m is = rw is refl
answer_says reading label means (Err refusal.OutOfMemory) gives s m is = tt

-- no label is handed on but this one
pub came_made : {T : Type 0} (made : T → Type 0) (label : T) (answer : Result Primitive Refusal) → made label → HasAnswer (HasValue made) made (came_of label answer)
came_made made label (Ok v) m = m
came_made made label (Err (refusal.Leaves why)) m = tt
came_made made label (Err refusal.OutOfMemory) m = tt

-- ---- a call that comes to this does an act that gives it

pub came_computes : {T : Type 0} (act : (T → Label) → L Val) (world : World T) (label : T) (answer : Result Primitive Refusal) (gives : Given) (result : Result (Outcome (Labelled T) T) (FlowFault T))
    → ((reading : T → Label) (told : List LabelledLine) (turns : ℕ) → act reading (state_of reading world told turns) ≡ given (reading label) gives (state_of reading world told turns))
    → Answers answer gives → result ≡ came_of label answer → Computes (λ reading. read_value reading) act world result
came_computes act world label answer gives result does is e =
    rw e record { says = λ reading told turns. rw (does reading told turns) (answer_says reading label (reading label) answer gives (state_of reading world told turns) refl is) }

module _ {S T : Type 0} (made : S → T → Type 0) (meaning : S → T → Label) (room : S → ℕ) (firm : S → Bool) where
  -- the union of two labels, in each reading
  joined_means : (old new : S) (a b label : T) → IsKept made meaning room firm old new → made old a → made old b → made new label → meaning new label ≡ union (meaning old a) (meaning old b)
      → (reading : T → Label) → IsReading made meaning new reading → reading label ≡ union (reading a) (reading b)
  joined_means old new a b label kept has_a has_b has is reading read =
      let earlier = IsReading-earlier made meaning room firm old new reading kept read in
      read.agrees label has ∙ is ∙ sym (ap₂ union (earlier.agrees a has_a) (earlier.agrees b has_b))

  pub came_acts : (old new : S) (act : (T → Label) → L Val) (world : World T) (a b label : T) (answer : Result Primitive Refusal) (gives : Given) (result : Result (Outcome (Labelled T) T) (FlowFault T))
      → ((reading : T → Label) (s : State) → act reading s ≡ given (union (reading a) (reading b)) gives s)
      → IsKept made meaning room firm old new → made old a → made old b → made new label → meaning new label ≡ union (meaning old a) (meaning old b)
      → Answers answer gives → result ≡ came_of label answer → Acts made meaning new (λ reading. read_value reading) act world world result
  came_acts old new act world a b label answer gives result does kept has_a has_b has means is e =
      rw e record {
        says = λ reading read told turns.
            let s = state_of reading world told turns in
            rw (does reading s) (answer_says reading label (union (reading a) (reading b)) answer gives s (joined_means old new a b label kept has_a has_b has means reading read) is);
      }

-- an answer that hands on no label but one has what holds of that one
pub label_belongs : {T : Type 0} (made : T → Type 0) (label : T) (result : Result (Outcome (Labelled T) T) (FlowFault T)) → made label → HasAnswer (λ v. v.label ≡ label) (λ l. l ≡ label) result → HasAnswer (HasValue made) made result
label_belongs made label (Ok (outcome.Goes v)) m is = subst made (sym is) m
label_belongs made label (Ok (outcome.Throws v)) m is = subst made (sym is) m
label_belongs made label (Ok (outcome.Leaves why)) m is = tt
label_belongs made label (Err (fault.Stop stop)) m is = (subst made (sym is.0) m, subst made (sym is.1) m)
label_belongs made label (Err fault.OutOfMemory) m is = tt
