-- What a step comes to, by what its parts come to.
use Rattle.std.specs.Prelude.{◌≡◌, ◌<◌, ℕ, Bool, true, false, List, map, take, drop, length, Option, Some, None, Result, Ok, Err}
use Rattle.origin_labels.specs.Label.{Label}
use Rattle.flow_text.specs.declared.memory.OutOfMemory.{OutOfMemory}
use Rattle.flow_policy.specs.Policies.{Tables}
use Rattle.flow_policy.specs.Inputs.{Given}
use Rattle.js_ast.specs.Functions.{FunctionCode}
use Rattle.flow_frames.specs.declared.faults.FlowFault.{FlowFault}
use Rattle.flow_frames.specs.declared.faults.FlowFault.TheVariants as fault
use Rattle.js_values.specs.Readings.{IsReading, read_value}
use Rattle.native_protocol.specs.declared.request.Answer.{Answer}
use Rattle.native_protocol.specs.declared.request.Request.{Request}
use Rattle.es_meaning.specs.BuiltIns.{BuiltIns}
use Rattle.flow_meaning.specs.Scopes.{LabelledLine}
use Rattle.flow_meaning.specs.Planned.{Completion, Ran, gave, perform, meaning}
use Rattle.run_state.specs.Worlds.{state_of}
use Rattle.channel_requests.specs.declared.printing.Printed.{Printed}
use Rattle.step_requests.specs.Doing.{IsPrinted}
use Rattle.step_natives.specs.States.{waiting_steps}
use Rattle.continuations.specs.Stops.{HasStop}
use Rattle.continuations.specs.declared.continuation.Continuation.{Continuation}
use Rattle.continuations.specs.declared.continuation.Control.{Control}
use Rattle.continuations.specs.declared.continuation.Control.TheVariants as control
use Rattle.continuations.specs.Kept.{scopes_of}
use Rattle.continuations.specs.Pending.{owns, setting_above, after, behind, first_or_undefined, values_of}
use Rattle.continuations.specs.Going.{here}
use Rattle.continuations.specs.Settings.{setting_of}
use Rattle.continuations.specs.Invariant.{Invariant}
use Rattle.step_core.specs.declared.progress.Progress.{Progress}
use Rattle.step_core.specs.declared.steps.Advance.{Advance}
use Rattle.step_core.specs.declared.steps.Advance.TheVariants as advance
use Rattle.step_core.specs.declared.steps.Ending.TheVariants as ending
use Rattle.step_core.specs.RemainingRun.{Comes, IfGoes, IfLine, IfStopped, ahead}

-- a run stands whose next move is this
abbrev pub StandsBefore : {S T X : Type 0} → (S → T → Type 0) → (S → T → Label) → S → Progress T X → Control → Type 0
StandsBefore made meaning store m move = Invariant made meaning store m.stack m.world (values_of move) (scopes_of m.stack.tasks) (length m.natives.states) move

module _ {S T X : Type 0} (made : S → T → Type 0) (meaning_of : S → T → Label) (store : S) (tables : Tables) (inputs : Given) (set : BuiltIns) (functions : List FunctionCode) (tells : X → Answer → X) (asks : X → Request) where
  -- a step comes to what a run comes to, leaves a machine that stands, and less is to be done than so much
  pub record Stepped (ran : (T → Label) → List LabelledLine → Ran) (most : ℕ) (new : Progress T X) (s : Advance T) : Type 0 where
    pub comes : (reading : T → Label) (told : List LabelledLine) → IsReading made meaning_of store reading → Comes tables inputs set functions tells asks reading new told (ran reading told) s
    pub standing : IfGoes (StandsBefore made meaning_of store new) s
    pub lowers : IfGoes (λ n. ahead new n < most) s
    pub printed : IfLine (IsPrinted (made store) (length tables.outputs)) s
    pub stopped : IfStopped (HasStop (made store)) s

-- the step that a move, or its fault, is
abbrev pub step_of : {T : Type 0} → Result Control (FlowFault T) → Result (Advance T) OutOfMemory
step_of (Ok next) = Ok (advance.Goes next)
step_of (Err (fault.Stop stop)) = Ok (advance.Ends (ending.Stopped stop))
step_of (Err fault.OutOfMemory) = Err (record {})

-- the same of a move behind which no built-in runs
abbrev pub still_step : {T : Type 0} → Result Control (FlowFault T) → Result (Advance T) OutOfMemory
still_step (Ok (control.Request count)) = Err (record {})
still_step moved = step_of moved

-- a built-in is to run next
abbrev pub runs_one : Control → Bool
runs_one (control.Request count) = true
runs_one _ = false

-- the step is that this line was printed and the run goes on with this
abbrev pub Prints : {T : Type 0} → Printed T → Control → Advance T → Type 0
Prints line move (advance.Line p next) = (p.value ≡ line) × (next ≡ move)
Prints line move _ = ⊥

-- the step that a request is, with the line that it printed, or the rule that stopped it
abbrev pub IsAsked : {T : Type 0} → Result (Control × Option (Printed T)) (FlowFault T) → Advance T → Type 0
IsAsked (Ok (move, None)) s = s ≡ advance.Goes move
IsAsked (Ok (move, Some line)) s = Prints line move s
IsAsked (Err (fault.Stop stop)) s = s ≡ advance.Ends (ending.Stopped stop)
IsAsked (Err fault.OutOfMemory) s = ⊥

module _ {T X : Type 0} (tables : Tables) (inputs : Given) (set : BuiltIns) (functions : List FunctionCode) (tells : X → Answer → X) (asks : X → Request) (reading : T → Label) where
  -- what a run comes to whose next work was taken and goes on with a completion, while all built-ins wait
  abbrev pub remaining_run_after : Progress T X → Continuation → Completion → List LabelledLine → Ran
  remaining_run_after m w c told = perform (meaning tables inputs set functions) (behind tables inputs set functions reading m.stack.tasks (setting_of (waiting_steps tells asks m.natives) here) (after tables inputs set functions w (map (read_value reading) (take (owns w) m.stack.loose)) (setting_above m.stack.tasks (setting_of (waiting_steps tells asks m.natives) here)) c (state_of reading m.world told m.turns)))

  -- with what lies above its operands
  abbrev pub completion_above : Progress T X → Continuation → Completion
  completion_above m w = gave (first_or_undefined (map (read_value reading) (drop (owns w) m.stack.loose)))

-- the move behind a part that gave a value, or came to its end
abbrev pub handed : Bool → Control
handed true = control.Value
handed false = control.Done

-- the moves behind a part that gave a value, or came to its end, and which of the two it is
abbrev pub hands_on : Control → Bool
hands_on control.Value = true
hands_on control.Done = true
hands_on _ = false

abbrev pub gives_value : Control → Bool
gives_value control.Value = true
gives_value _ = false

-- the moves that enter a part of the script
abbrev pub enters_part : Control → Bool
enters_part (control.Expr x) = true
enters_part (control.Use how x) = true
enters_part (control.Stmt x) = true
enters_part (control.Block x) = true
enters_part (control.Named x n) = true
enters_part (control.Turn r) = true
enters_part (control.Visit x count) = true
enters_part _ = false

-- the moves that neither enter a part nor hand a completion on to work, call nothing and leave nothing
abbrev pub begins_work : Control → Bool
begins_work control.Null = true
begins_work (control.Bool b) = true
begins_work (control.Number n) = true
begins_work (control.Text t) = true
begins_work (control.Name t) = true
begins_work control.This = true
begins_work (control.GiveVariable x) = true
begins_work (control.Keys x) = true
begins_work (control.Visits x count) = true
begins_work (control.Variables ds) = true
begins_work (control.Loop r) = true
begins_work (control.DoLoop r) = true
begins_work (control.Break turn label) = true
begins_work control.Return = true
begins_work (control.Labelled text x) = true
begins_work (control.Try x) = true
begins_work _ = false

-- the moves that make a value of a function, or of a literal with functions
abbrev pub makes_value : Control → Bool
makes_value (control.Function f) = true
makes_value (control.Object ps count) = true
makes_value (control.Array is count) = true
makes_value _ = false

-- the moves that may begin a built-in
abbrev pub calls_function : Control → Bool
calls_function (control.Call count) = true
calls_function (control.Construct count) = true
calls_function (control.Convert h) = true
calls_function control.ConvertBeside = true
calls_function control.Compare = true
calls_function _ = false
