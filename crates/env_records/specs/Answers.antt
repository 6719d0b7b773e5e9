-- What an assignment answers, in the labels of a store.
use Rattle.std.specs.Prelude.{◌≡◌, true, false, List, Result, IfErr, OnOk, OnErr}
use Rattle.origin_labels.specs.Label.{Label, within}
use Rattle.flow_frames.specs.declared.faults.Rule.TheVariants.{W1}
use Rattle.flow_frames.specs.declared.faults.FlowStop.{FlowStop}
use Rattle.js_values.specs.declared.value.Labelled.{Labelled}
use Rattle.js_values.specs.Records.{Binding, Record}
use Rattle.js_values.specs.Readings.{IsReading, read_records}
use Rattle.env_records.specs.declared.faults.AssignFault.{AssignFault}
use Rattle.env_records.specs.declared.faults.AssignFault.TheVariants.{Immutable, Stop, OutOfMemory}
use Rattle.env_records.specs.Acts.{Assigned, Variables, done, immutable, stopped}

-- a stop with what its labels mean
abbrev pub read_stop : {T : Type 0} → (T → Label) → FlowStop T → FlowStop Label
read_stop reading stop = record { rule = stop.rule; need = reading stop.need; have = reading stop.have }

-- the assignment comes to this in each reading that agrees with the store
abbrev pub Comes : {S T : Type 0} → (S → T → Type 0) → (S → T → Label) → S → ((T → Label) → Variables → Assigned) → List (Record (Labelled T)) → ((T → Label) → Assigned) → Type 0
Comes made meaning store act old outcome = (reading : _) → IsReading made meaning store reading → act reading (read_records reading old) ≡ outcome reading

-- what a refusal tells
abbrev pub Refuses : {S T : Type 0} → (S → T → Type 0) → (S → T → Label) → S → ((T → Label) → Variables → Assigned) → List (Record (Labelled T)) → AssignFault T → Type 0
Refuses made meaning store act old Immutable = Comes made meaning store act old (λ reading. immutable)
Refuses made meaning store act old (Stop stop) = made store stop.need × made store stop.have × Comes made meaning store act old (λ reading. stopped (read_stop reading stop))
Refuses made meaning store act old OutOfMemory = Unit {0}

-- a call does what the assignment does, or wants memory; a refusal changes nothing
pub record Assigns {S T : Type 0} (made : S → T → Type 0) (meaning : S → T → Label) (store : S) (act : (T → Label) → Variables → Assigned) (old new : List (Record (Labelled T))) (result : Result (Unit {0}) (AssignFault T)) : Type 0 where
  pub does : OnOk result (Comes made meaning store act old (λ reading. done (read_records reading new)))
  pub refused : IfErr result (Refuses made meaning store act old)
  pub unchanged : OnErr result (new ≡ old)

-- the fault is no want of memory
abbrev pub IsCause : {T : Type 0} → AssignFault T → Type 0
IsCause Immutable = Unit {0}
IsCause (Stop stop) = Unit {0}
IsCause OutOfMemory = ⊥

-- why a binding can't be assigned in the context: it can't be changed, or else its label doesn't include the context
abbrev pub Forbids : {T : Type 0} → (T → Label) → Binding (Labelled T) → T → AssignFault T → Type 0
Forbids meaning b context Immutable = b.mutable ≡ false
Forbids meaning b context (Stop stop) = (b.mutable ≡ true) × (within (meaning context) (meaning b.value.label) ≡ false) × (stop ≡ record { rule = W1; need = context; have = b.value.label })
Forbids meaning b context OutOfMemory = ⊥

pub record Checks {T : Type 0} (meaning : T → Label) (b : Binding (Labelled T)) (context : T) (result : Result (Unit {0}) (AssignFault T)) : Type 0 where
  pub allows : OnOk result ((b.mutable ≡ true) × (within (meaning context) (meaning b.value.label) ≡ true))
  pub forbids : IfErr result (Forbids meaning b context)
