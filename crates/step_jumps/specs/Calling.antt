-- What the end of a call leaves.
use Rattle.std.specs.Prelude.{◌≡◌, ℕ, ◌+◌, [], ◌∷◌, map, take, length}
use Rattle.origin_labels.specs.Label.{Label, union}
use Rattle.flow_frames.specs.Held.{Belong, CatchByTry, meant_at, seen_frame}
use Rattle.js_values.specs.declared.value.Labelled.{Labelled}
use Rattle.js_values.specs.Readings.{IsReading}
use Rattle.run_state.specs.declared.world.World.{World}
use Rattle.continuations.specs.declared.continuation.Control.{Control}
use Rattle.continuations.specs.declared.continuation.Control.TheVariants as control
use Rattle.continuations.specs.Kept.{Kept}

-- the frame at a depth is left, and a value lies alone that has the frame's label besides
pub record Answers {S T : Type 0} (made : S → T → Type 0) (meaning : S → T → Label) (store : S) (depth : ℕ) (value : Labelled T) (old new : Kept T) (before after : World T) (move : Control) : Type 0 where
  pub gives : move ≡ control.Value
  pub label : T
  pub made_there : made store label
  pub means : (reading : T → Label) → IsReading made meaning store reading → reading label ≡ union (reading value.label) (meant_at (map (seen_frame reading) before.frames.frames) depth)
  pub outside : (reading : T → Label) → map (seen_frame reading) after.frames.frames ≡ take depth (map (seen_frame reading) before.frames.frames)
  pub rest : after ≡ record before { frames = after.frames }
  pub tasks : new.tasks ≡ old.tasks
  pub alone : new.loose ≡ record { value = value.value; label = label } ∷ []
  pub shallower : length after.frames.frames + 1 ≡ length before.frames.frames
  pub belong : Belong made meaning store after.frames.frames
  pub catch : CatchByTry after.frames.frames
