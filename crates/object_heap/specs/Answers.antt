-- What a call on objects answers, in the labels of a store.
use Rattle.std.specs.Prelude.{◌≡◌, ℕ, true, false, List, Option, Some, None, Result, Ok, Err, IfErr, OnOk, OnErr}
use Rattle.origin_labels.specs.Label.{Label, union, within}
use Rattle.flow_frames.specs.declared.faults.Rule.{Rule}
use Rattle.flow_frames.specs.declared.faults.FlowStop.{FlowStop}
use Rattle.flow_frames.specs.declared.faults.FlowFault.{FlowFault}
use Rattle.flow_frames.specs.Stops.{IfStop}
use Rattle.js_values.specs.declared.property.Slot.{Slot}
use Rattle.js_values.specs.Readings.{IsReading}
use Rattle.object_heap.specs.Acts.{Acted}

-- a stop with what its labels mean
abbrev pub read_stop : {T : Type 0} → (T → Label) → FlowStop T → FlowStop Label
read_stop reading stop = record { rule = stop.rule; need = reading stop.need; have = reading stop.have }

-- a call does what an act does, in each reading that agrees with the store, or it is stopped as the act is, or it wants memory. `read` is what an object, or
-- a heap, is in a reading. A refusal changes nothing
pub record Acts {S T V W : Type 0} (made : S → T → Type 0) (meaning : S → T → Label) (store : S) (read : (T → Label) → V → W) (act : (T → Label) → W → Acted W) (old new : V) (result : Result (Unit {0}) (FlowFault T)) : Type 0 where
  pub does : OnOk result ((reading : T → Label) → IsReading made meaning store reading → act reading (read reading old) ≡ Ok (read reading new))
  pub stops : IfErr result (IfStop (λ stop. made store stop.need × made store stop.have × ((reading : T → Label) → IsReading made meaning store reading → act reading (read reading old) ≡ Err (read_stop reading stop))))
  pub unchanged : OnErr result (new ≡ old)

-- whether need is included in have, or the rule's stop
pub record Checks {T : Type 0} (meaning : T → Label) (rule : Rule) (need have : T) (result : Result (Unit {0}) (FlowStop T)) : Type 0 where
  pub allows : OnOk result (within (meaning need) (meaning have) ≡ true)
  pub stops : IfErr result (λ stop. (stop ≡ record { rule = rule; need = need; have = have }) × (within (meaning need) (meaning have) ≡ false))

-- the label is the union of the value label and the existence label of the property
abbrev pub MeansValue : {T : Type 0} → (T → Label) → Option (List ℕ × Slot T) → Label → Type 0
MeansValue meaning None label = Unit {0}
MeansValue meaning (Some r) label = label ≡ union (meaning r.1.label) (meaning r.1.existence)
