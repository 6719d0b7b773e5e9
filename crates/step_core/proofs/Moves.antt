-- What a machine leaves behind calls that say in one what they leave.
use Rattle.std.proofs.Common.{◌≤◌, ◌<◌, ℕ, Result, Ok, Err, IfOk, arith}
use Rattle.origin_labels.specs.Label.{Label}
use Rattle.origin_labels.specs.Stores.{IsKept}
use Rattle.std.proofs.Common.{Bool}
use Rattle.flow_frames.specs.declared.faults.FlowFault.{FlowFault}
use Rattle.run_state.specs.declared.world.World.{World}
use Rattle.run_state.specs.Worlds.{Belongs, Grows}
use Rattle.continuations.specs.declared.continuation.Control.{Control}
use Rattle.continuations.specs.declared.continuation.Control.TheVariants as control
use Rattle.continuations.specs.Going.{Lowers}
use Rattle.continuations.specs.Kept.{Kept, scopes_of}
use Rattle.continuations.specs.Loads.{Adds, lift}
use Rattle.continuations.specs.Moving.{Rests, Stands}
use Rattle.continuations.specs.Invariant.{Invariant}
use Rattle.step_references.specs.Moving.{Moved}
use Rattle.step_core.specs.Going.{StandsStill}
use Rattle.step_core.proofs.Stood.{standing_rests}

module _ {T : Type 0} (has : T → Type 0) (n : ℕ) (old new : Kept T) (world_old world_new : World T) where
  pub adds_moved : (m : ℕ) (result : Result Control (FlowFault T)) → n ≤ m → IfOk result (Moved has n old new world_old world_new) → IfOk result (Adds m old new)
  adds_moved m (Ok move) most moved = let adds = moved.adds in omega (arith, most, adds)
  adds_moved m (Err f) most moved = tt

  pub lowers_moved : (move : Control) (result : Result Control (FlowFault T)) → n < lift move → IfOk result (Moved has n old new world_old world_new) → IfOk result (Lowers old move new)
  lowers_moved move (Ok behind) less moved = let adds = moved.adds in omega (arith, less, adds)
  lowers_moved move (Err f) less moved = tt

pub standing_moved : {S T : Type 0} (made : S → T → Type 0) (meaning : S → T → Label) (room : S → ℕ) (firm : S → Bool) (earlier later : S) (kept : IsKept made meaning room firm earlier later) (n : ℕ) {count natives : ℕ} (old new : Kept T) (world_old world_new : World T) (result : Result Control (FlowFault T))
    → Invariant made meaning earlier old world_old count (scopes_of old.tasks) natives control.Done → IfOk result (Moved (made later) n old new world_old world_new)
    → Belongs made meaning later world_new → Grows world_old world_new → IfOk result (StandsStill made meaning later natives new world_new)
standing_moved made meaning room firm earlier later kept n old new world_old world_new (Ok move) stands moved belongs grows = standing_rests made meaning room firm earlier later kept old new world_old world_new move stands moved.rests moved.stands belongs grows
standing_moved made meaning room firm earlier later kept n old new world_old world_new (Err f) stands moved belongs grows = tt

-- what such a call leaves, one by one
module _ {T : Type 0} (has : T → Type 0) (n : ℕ) (old new : Kept T) (world_old world_new : World T) where
  pub rests_of : (result : Result Control (FlowFault T)) → IfOk result (Moved has n old new world_old world_new) → IfOk result (Rests has old new)
  rests_of (Ok move) moved = moved.rests
  rests_of (Err f) moved = tt

  pub stands_of : (result : Result Control (FlowFault T)) → IfOk result (Moved has n old new world_old world_new) → IfOk result (Stands world_old world_new)
  stands_of (Ok move) moved = moved.stands
  stands_of (Err f) moved = tt
