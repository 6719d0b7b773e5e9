-- What is found in a heap, in a reading of the labels.
use Rattle.std.specs.Prelude.{◌≡◌, List, ℕ, Option, Some, None, Result, Ok, Err}
use Rattle.origin_labels.specs.Label.{Label}
use Rattle.flow_frames.specs.declared.faults.FlowFault.{FlowFault}
use Rattle.flow_frames.specs.declared.faults.FlowFault.TheVariants as fault
use Rattle.js_values.specs.declared.property.Slot.{Slot}
use Rattle.js_values.specs.declared.value.Labelled.{Labelled}
use Rattle.js_values.specs.Objects.{Object, own}
use Rattle.js_values.specs.Readings.{IsReading, read_value}
use Rattle.es_meaning.specs.Outcomes.{Goes}
use Rattle.es_meaning.specs.Plain.{undefined}
use Rattle.flow_meaning.specs.Scopes.{Val, L, State}
use Rattle.run_state.specs.declared.outcome.Outcome.{Outcome}
use Rattle.run_state.specs.declared.outcome.Outcome.TheVariants as outcome

-- undefined, with a label
abbrev pub nothing : {T : Type 0} → T → Labelled T
nothing label = record { value = undefined; label = label }

-- on what it depends whether the object itself has the key
abbrev pub tested : {T : Type 0} → Option (Slot T) → T → T
tested None structure = structure
tested (Some s) structure = s.existence

abbrev pub IsTest : {T : Type 0} → List ℕ → Option (Object T) → T → Type 0
IsTest key None label = ⊥
IsTest key (Some p) label = label ≡ tested (own key p.rows) p.structure

-- an act goes on with a value from each state, and changes none
pub record Finds {S T : Type 0} (made : S → T → Type 0) (meaning : S → T → Label) (store : S) (act : (T → Label) → L Val) (v : Labelled T) : Type 0 where
  pub says : (reading : T → Label) → IsReading made meaning store reading → (s : State) → act reading s ≡ Goes (read_value reading v) s

-- a fact for what a call goes on with, if it does
abbrev pub IfGoes : {X T : Type 0} → (X → Type 0) → Outcome X T → Type 0
IfGoes P (outcome.Goes x) = P x
IfGoes P (outcome.Throws v) = Unit {0}
IfGoes P (outcome.Leaves why) = Unit {0}

-- what a call comes to that never throws
abbrev pub went : {X T : Type 0} → Result X (FlowFault T) → Result (Outcome X T) (FlowFault T)
went (Ok x) = Ok (outcome.Goes x)
went (Err fault) = Err fault

-- and what one that makes a value comes to, where want of memory is its only fault
abbrev pub valued : {X T E : Type 0} → Result X E → Result (Outcome X T) (FlowFault T)
valued (Ok x) = Ok (outcome.Goes x)
valued (Err e) = Err fault.OutOfMemory
