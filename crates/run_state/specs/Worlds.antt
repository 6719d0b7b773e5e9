-- What a run holds, as the state of the labelled meaning.
use Rattle.std.specs.Prelude.{◌≡◌, ◌≤◌, ℕ, List, map, length}
use Rattle.origin_labels.specs.Label.{Label}
use Rattle.flow_frames.specs.Held.{Belong, CatchByTry, seen_frame}
use Rattle.js_values.specs.Readings.{HasHeap, HasRecords, read_heap, read_records}
use Rattle.es_meaning.specs.Start.{start_heap}
use Rattle.flow_meaning.specs.Scopes.{LabelledLine, State}
use Rattle.run_state.specs.declared.world.World.{World}

-- the state that it is in a reading of its labels, with the lines that were printed and the turns that are left
abbrev pub state_of : {T : Type 0} → (T → Label) → World T → List LabelledLine → ℕ → State
state_of reading w told turns = record {
  frames = map (seen_frame reading) w.frames.frames;
  heap = read_heap reading w.heap;
  records = read_records reading w.records;
  positions = w.positions.items;
  lines = told;
  turns = turns;
}

-- its labels are those of a store, and the objects are there that a run starts with
pub record Belongs {S T : Type 0} (made : S → T → Type 0) (meaning : S → T → Label) (store : S) (w : World T) : Type 0 where
  pub frames : Belong made meaning store w.frames.frames
  pub catch : CatchByTry w.frames.frames
  pub heap : HasHeap (made store) w.heap
  pub records : HasRecords (made store) w.records
  pub started : length start_heap ≤ length w.heap

-- nothing that was there is gone
pub record Grows {T : Type 0} (old new : World T) : Type 0 where
  pub heap : length old.heap ≤ length new.heap
  pub records : length old.records ≤ length new.records
  pub positions : length new.positions.items ≡ length old.positions.items
