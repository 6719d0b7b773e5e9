-- What a world keeps where labels are made.
use Rattle.std.proofs.Common.{ℕ, Bool}
use Rattle.origin_labels.specs.Label.{Label, IsLabel}
use Rattle.origin_labels.specs.Stores.{IsKept}
use Rattle.flow_frames.proofs.StandingLaws.{Belong-kept}
use Rattle.js_values.proofs.ReadingLaws.{HasHeap-kept, HasRecords-kept}
use Rattle.run_state.specs.declared.world.World.{World}
use Rattle.run_state.specs.Worlds.{Belongs}

-- what belongs to a store belongs to each later one
pub belongs_later : {S T : Type 0} (made : S → T → Type 0) (meaning : S → T → Label) → ((store : S) (label : T) → made store label → IsLabel (meaning store label)) → (room : S → ℕ) (firm : S → Bool) (old new : S) (w : World T)
    → IsKept made meaning room firm old new → Belongs made meaning old w → Belongs made meaning new w
belongs_later made meaning rising room firm old new w kept b = record {
  frames = Belong-kept made meaning rising room firm old new w.frames.frames kept b.frames;
  catch = b.catch;
  heap = HasHeap-kept made meaning room firm old new kept w.heap b.heap;
  records = HasRecords-kept made meaning room firm old new kept w.records b.records;
  started = b.started;
}
