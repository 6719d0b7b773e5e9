-- What it means that a name has a value, as it is read in one step.
use Rattle.std.specs.Prelude.{◌≡◌, ℕ, List, IsSome}
use Rattle.origin_labels.specs.Label.{Label}
use Rattle.js_values.specs.declared.value.Labelled.{Labelled}
use Rattle.js_values.specs.Objects.{Object}
use Rattle.object_heap.specs.Formed.{own_in}
use Rattle.js_values.specs.Readings.{HasValue, IsReading, read_heap, read_records, read_value}
use Rattle.es_meaning.specs.Outcomes.{Goes}
use Rattle.es_meaning.specs.Plain.{on_global}
use Rattle.flow_meaning.specs.Scopes.{State, LabelledLine}
use Rattle.flow_meaning.specs.Tracked.{accessed, global_walk, has_value, named, resolved}
use Rattle.run_state.specs.declared.world.World.{World}
use Rattle.run_state.specs.Worlds.{state_of}
use Rattle.step_numbers.specs.Evaluated.{global_in}

-- the name, looked for from this record on, has the value, and its reading changes nothing: in each reading that agrees with the store
pub record IsNamed {S T : Type 0} (made : S → T → Type 0) (meaning_of : S → T → Label) (store : S) (at : ℕ) (name : List ℕ) (w : World T) (v : Labelled T) : Type 0 where
  pub comes : (reading : T → Label) (told : List LabelledLine) (turns : ℕ) → IsReading made meaning_of store reading
      → accessed (resolved (read_records reading w.records) (read_heap reading w.heap) at name) (state_of reading w told turns) ≡ Goes (has_value (read_value reading v)) (state_of reading w told turns)
  pub labelled : HasValue (made store) v

-- the global object itself has the name as a property with the value
pub record IsHeld {S T : Type 0} (made : S → T → Type 0) (meaning_of : S → T → Label) (store : S) (name : List ℕ) (heap : List (Object T)) (v : Labelled T) : Type 0 where
  pub there : IsSome (own_in name (global_in heap))
  pub comes : (reading : T → Label) (s : State) → IsReading made meaning_of store reading → s.heap ≡ read_heap reading heap
      → named on_global (global_walk s.heap name).walk name s ≡ Goes (has_value (read_value reading v)) s
  pub labelled : HasValue (made store) v
