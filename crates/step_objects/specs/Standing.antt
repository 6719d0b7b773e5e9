-- What an act does with the frames.
use Rattle.std.specs.Prelude.{◌≡◌, ◌≤◌, length, Result, Ok, Err}
use Rattle.flow_frames.specs.declared.faults.FlowFault.{FlowFault}
use Rattle.es_meaning.specs.Outcomes.{Outcome, Goes, Jumps, Ends}
use Rattle.flow_meaning.specs.Scopes.{Halt, State, Jump}
use Rattle.run_state.specs.declared.outcome.Outcome as acts
use Rattle.run_state.specs.declared.outcome.Outcome.TheVariants as outcome
use Rattle.run_state.specs.declared.world.World.{World}

-- an outcome from a state: the frames are those that were, but where it jumps there may be fewer
abbrev pub FramesStand : {X : Type 0} → Outcome Halt Jump X State → State → Type 0
FramesStand (Goes x t) s = t.frames ≡ s.frames
FramesStand (Jumps j t) s = length t.frames ≤ length s.frames
FramesStand (Ends halt t) s = t.frames ≡ s.frames

-- and of a call that does it: as many frames, or fewer where it threw
abbrev pub StandsBy : {X T : Type 0} → World T → World T → Result (acts.Outcome X T) (FlowFault T) → Type 0
StandsBy old new (Ok (outcome.Goes x)) = length new.frames.frames ≡ length old.frames.frames
StandsBy old new (Ok (outcome.Throws v)) = length new.frames.frames ≤ length old.frames.frames
StandsBy old new (Ok (outcome.Leaves why)) = length new.frames.frames ≡ length old.frames.frames
StandsBy old new (Err f) = Unit {0}
