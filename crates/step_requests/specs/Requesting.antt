-- What it means that the next request of the built-in that runs is done, and what that leaves.
use Rattle.std.specs.Prelude.{◌≡◌, ◌+◌, ℕ, List, [], ◌∷◌, ◌++◌, length, map, Option, Some, None, Result, Ok, Err}
use Rattle.std.specs.List.{All}
use Rattle.origin_labels.specs.Label.{Label}
use Rattle.flow_policy.specs.Policies.{Tables}
use Rattle.flow_policy.specs.Inputs.{Given}
use Rattle.flow_frames.specs.declared.faults.FlowFault.{FlowFault}
use Rattle.flow_frames.specs.declared.faults.FlowFault.TheVariants as fault
use Rattle.js_ast.specs.Functions.{FunctionCode}
use Rattle.js_values.specs.Readings.{IsReading, HasValue, read_value}
use Rattle.native_protocol.specs.declared.request.Answer.{Answer}
use Rattle.native_protocol.specs.declared.request.Answer.TheVariants as answer
use Rattle.native_protocol.specs.declared.request.Request.{Request}
use Rattle.native_protocol.specs.Steps.{Steps}
use Rattle.es_meaning.specs.BuiltIns.{BuiltIns, steps_behind}
use Rattle.es_meaning.specs.Environments.{Env}
use Rattle.flow_meaning.specs.Planned.{Plan, End, a_request, plan}
use Rattle.flow_meaning.specs.Scopes.{LabelledLine, stopped}
use Rattle.channel_requests.specs.Answers.{line_of}
use Rattle.channel_requests.specs.declared.printing.Printed.{Printed}
use Rattle.run_state.specs.declared.world.World.{World}
use Rattle.run_state.specs.Worlds.{state_of}
use Rattle.step_natives.specs.States.{States, waiting_steps, running_steps}
use Rattle.continuations.specs.declared.continuation.Control.{Control}
use Rattle.continuations.specs.declared.continuation.Control.TheVariants as control
use Rattle.continuations.specs.Kept.{Kept, kept_operands, operands_of, scopes_of, waiting}
use Rattle.continuations.specs.Pending.{behind, values_of}
use Rattle.continuations.specs.Resuming.{coming}
use Rattle.continuations.specs.Settings.{setting_of}
use Rattle.continuations.specs.Invariant.{running}
use Rattle.step_requests.specs.declared.moved.Moved.{Moved}
use Rattle.step_requests.specs.declared.moved.Moved.TheVariants as moved

-- the steps of the built-ins by the next move: one runs where that is a request, and else all wait
abbrev pub steps_now : {S : Type 0} → (S → Answer → S) → (S → Request) → States S → Control → List Steps
steps_now after asks natives (control.Request count) = running_steps after asks natives
steps_now after asks natives _ = waiting_steps after asks natives

module _ {T : Type 0} where
  -- the steps behind a request of the innermost one
  abbrev pub steps_left : Moved T → Steps → List Steps → List Steps
  steps_left (moved.Asks count answer) steps front = front ++ steps_behind steps answer ∷ []
  steps_left (moved.Prints count line) steps front = front ++ steps_behind steps answer.Done ∷ []
  steps_left (moved.Waits move) steps front = front ++ steps ∷ []
  steps_left (moved.Ends move) steps front = front

  abbrev pub ends_one : Moved T → ℕ
  ends_one (moved.Asks count answer) = 0
  ends_one (moved.Prints count line) = 0
  ends_one (moved.Waits move) = 0
  ends_one (moved.Ends move) = 1

  -- the line that it printed, if it did
  abbrev pub printed_by : Moved T → Option (Printed T)
  printed_by (moved.Asks count answer) = None
  printed_by (moved.Prints count line) = Some line
  printed_by (moved.Waits move) = None
  printed_by (moved.Ends move) = None

  -- the lines behind a call that may have printed one, where these were printed before
  abbrev pub told_behind : Tables → (T → Label) → List LabelledLine → Option (Printed T) → List LabelledLine
  told_behind tables reading told None = told
  told_behind tables reading told (Some p) = told ++ line_of tables reading p ∷ []

  -- what is done next, and behind it the pending work, with these steps of built-ins left, is a plan, or the run is stopped as it is by the plan. Want of memory
  -- says nothing
  abbrev pub Moves : Tables → Given → BuiltIns → List FunctionCode → (T → Label) → Kept T → (Control → List Steps) → Env ℕ → World T → List LabelledLine → ℕ → Plan → Result (Control × Option (Printed T)) (FlowFault T) → Type 0
  Moves tables inputs set functions reading stack natives e w told turns p (Ok m) = coming tables inputs set functions reading stack m.0 (setting_of (natives m.0) e) (state_of reading w (told_behind tables reading told m.1) turns) ≡ p
  Moves tables inputs set functions reading stack natives e w told turns p (Err (fault.Stop stop)) = End (stopped stop.rule (reading stop.need) (reading stop.have)) (state_of reading w told turns) ≡ p
  Moves tables inputs set functions reading stack natives e w told turns p (Err fault.OutOfMemory) = Unit {0}

  -- what a call leaves of the pending work, its operands, the values that lie loose and the states of built-ins
  pub record Rests (made : T → Type 0) (old new : Kept T) (natives : ℕ) (move : Control) : Type 0 where
    pub values : length new.loose ≡ values_of move
    pub scopes : scopes_of new.tasks ≡ scopes_of old.tasks
    pub running : natives ≡ waiting new.tasks + running move
    pub operands : All (HasValue made) (kept_operands old.tasks) → All (HasValue made) (operands_of new)

module _ {S T X : Type 0} (made : S → T → Type 0) (meaning : S → T → Label) (store : S) (tables : Tables) (inputs : Given) (after : X → Answer → X) (asks : X → Request) where
  -- the next request of the built-in that runs, with these steps left, is done, by each reading that agrees with the store, whatever was printed before and
  -- however many turns are left: its turn is spent by whoever calls
  pub record Requests (states_old states_new : States X) (old new : Kept T) (world_old world_new : World T) (result : Result (Control × Option (Printed T)) (FlowFault T)) : Type 0 where
    pub says : (set : BuiltIns) (functions : List FunctionCode) (reading : T → Label) (e : Env ℕ) (front : List Steps) (steps : Steps) (told : List LabelledLine) (turns : ℕ) → IsReading made meaning store reading
        → running_steps after asks states_old ≡ front ++ steps ∷ [] → length front ≡ waiting old.tasks
        → Moves tables inputs set functions reading new (steps_now after asks states_new) e world_new told turns (behind tables inputs set functions reading old.tasks (setting_of (front ++ steps ∷ []) e) (plan tables inputs set functions (a_request steps (map (read_value reading) old.loose)) (state_of reading world_old told turns))) result
