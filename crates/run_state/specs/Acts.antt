-- What it means that a call does an act of the labelled meaning.
use Rattle.std.specs.Prelude.{◌≡◌, ℕ, List, Result, Ok, Err}
use Rattle.origin_labels.specs.Label.{Label}
use Rattle.flow_frames.specs.declared.faults.FlowFault.{FlowFault}
use Rattle.flow_frames.specs.declared.faults.FlowFault.TheVariants as fault
use Rattle.js_values.specs.declared.value.Labelled.{Labelled}
use Rattle.js_values.specs.Readings.{IsReading, read_value}
use Rattle.es_meaning.specs.Outcomes.{throws, left, Outcome, Goes, Jumps, Ends}
use Rattle.flow_meaning.specs.Scopes.{Halt, as_plain, stopped, State, Jump, L, LabelledLine}
use Rattle.run_state.specs.declared.outcome.Outcome as acts
use Rattle.run_state.specs.declared.outcome.Outcome.TheVariants as outcomes
use Rattle.run_state.specs.declared.world.World.{World}
use Rattle.run_state.specs.Names.{leaving_name}
use Rattle.run_state.specs.Worlds.{state_of}

-- a throw goes to the Root, if no frame catches it before
abbrev pub thrown : {T : Type 0} → (T → Label) → Labelled T → Jump
thrown reading v = record { exit = throws; to = 0; value = read_value reading v }

-- what an answer says of an outcome. `read` is what a result is in the reading. Want of memory says nothing
abbrev pub Says : {X Y T : Type 0} → (X → Y) → (T → Label) → Outcome Halt Jump Y State → State → Result (acts.Outcome X T) (FlowFault T) → Type 0
Says read reading outcome s (Ok (outcomes.Goes x)) = outcome ≡ Goes (read x) s
Says read reading outcome s (Ok (outcomes.Throws v)) = outcome ≡ Jumps (thrown reading v) s
Says read reading outcome s (Ok (outcomes.Leaves why)) = outcome ≡ Ends (as_plain (left (leaving_name why))) s
Says read reading outcome s (Err (fault.Stop stop)) = outcome ≡ Ends (stopped stop.rule (reading stop.need) (reading stop.have)) s
Says read reading outcome s (Err fault.OutOfMemory) = Unit {0}

-- a call does an act, in each reading that agrees with the store, whatever was printed before and however many turns are left
pub record Acts {S X Y T : Type 0} (made : S → T → Type 0) (meaning : S → T → Label) (store : S) (read : (T → Label) → X → Y) (act : (T → Label) → L Y) (old new : World T) (result : Result (acts.Outcome X T) (FlowFault T)) : Type 0 where
  pub says : (reading : T → Label) → IsReading made meaning store reading → (told : List LabelledLine) (turns : ℕ) → Says (read reading) reading (act reading (state_of reading old told turns)) (state_of reading new told turns) result

-- what an answer hands on has labels of the store
abbrev pub HasAnswer : {X T : Type 0} → (X → Type 0) → (T → Type 0) → Result (acts.Outcome X T) (FlowFault T) → Type 0
HasAnswer has made (Ok (outcomes.Goes x)) = has x
HasAnswer has made (Ok (outcomes.Throws v)) = made v.label
HasAnswer has made (Ok (outcomes.Leaves why)) = Unit {0}
HasAnswer has made (Err (fault.Stop stop)) = made stop.need × made stop.have
HasAnswer has made (Err fault.OutOfMemory) = Unit {0}

-- a call that changes nothing and makes no label computes an act, in each reading
pub record Computes {X Y T : Type 0} (read : (T → Label) → X → Y) (act : (T → Label) → L Y) (w : World T) (result : Result (acts.Outcome X T) (FlowFault T)) : Type 0 where
  pub says : (reading : T → Label) (told : List LabelledLine) (turns : ℕ) → Says (read reading) reading (act reading (state_of reading w told turns)) (state_of reading w told turns) result
