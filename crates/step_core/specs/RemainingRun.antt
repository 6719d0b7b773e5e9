-- What a run comes to that stands so, and what a step makes of it.
use Rattle.std.specs.Prelude.{◌≡◌, ◌+◌, ◌*◌, ℕ, List, [], ◌∷◌, ◌++◌}
use Rattle.origin_labels.specs.Label.{Label}
use Rattle.flow_policy.specs.Policies.{Tables}
use Rattle.flow_policy.specs.Inputs.{Given}
use Rattle.js_ast.specs.Functions.{FunctionCode}
use Rattle.flow_frames.specs.declared.faults.FlowStop.{FlowStop}
use Rattle.js_values.specs.Readings.{read_heap}
use Rattle.native_protocol.specs.declared.request.Answer.{Answer}
use Rattle.native_protocol.specs.declared.request.Request.{Request}
use Rattle.es_meaning.specs.BuiltIns.{BuiltIns}
use Rattle.es_meaning.specs.Outcomes.{Ending, done, threw, halted, left, out_of_turns}
use Rattle.es_meaning.specs.Start.{shown}
use Rattle.flow_meaning.specs.Erased.{erased_heap}
use Rattle.flow_meaning.specs.Scopes.{Halt, as_plain, stopped, LabelledLine}
use Rattle.flow_meaning.specs.Planned.{Plan, Ran, perform, meaning}
use Rattle.flow_meaning.specs.Laws.{performed_run}
use Rattle.run_state.specs.Names.{leaving_name}
use Rattle.run_state.specs.Worlds.{state_of}
use Rattle.channel_requests.specs.declared.printing.Printed.{Printed}
use Rattle.channel_requests.specs.Answers.{line_of}
use Rattle.step_natives.specs.Framed.{steps_at}
use Rattle.continuations.specs.declared.continuation.Control.{Control}
use Rattle.continuations.specs.Loads.{load, lift}
use Rattle.continuations.specs.Going.{here}
use Rattle.continuations.specs.Resuming.{coming}
use Rattle.continuations.specs.Settings.{setting_of}
use Rattle.step_core.specs.declared.progress.Progress.{Progress}
use Rattle.step_core.specs.declared.steps.Advance.{Advance}
use Rattle.step_core.specs.declared.steps.Advance.TheVariants as advance
use Rattle.step_core.specs.declared.steps.Ending as code
use Rattle.step_core.specs.declared.steps.Ending.TheVariants as ending

-- how much a machine does before its run ends: each part that it enters costs a turn, and the work of less than eighteen steps
abbrev pub ahead : {T X : Type 0} → Progress T X → Control → ℕ
ahead m next = 18 * m.turns + load m.stack.tasks + lift next

module _ {T X : Type 0} (reading : T → Label) where
  -- how a run ended
  abbrev pub ending_of : Progress T X → code.Ending T → Ending Halt
  ending_of m ending.Done = done
  ending_of m (ending.Threw v) = threw (shown (erased_heap (read_heap reading m.world.heap)) v.value)
  ending_of m (ending.Stopped stop) = halted (stopped stop.rule (reading stop.need) (reading stop.have))
  ending_of m (ending.Left why) = halted (as_plain (left (leaving_name why)))
  ending_of m ending.OutOfTurns = halted (as_plain out_of_turns)

module _ {T X : Type 0} (tables : Tables) (inputs : Given) (set : BuiltIns) (functions : List FunctionCode) (tells : X → Answer → X) (asks : X → Request) (reading : T → Label) where
  -- the plan of what is done next and of the work that waits, where these lines were printed
  abbrev pub plan_of : Progress T X → Control → List LabelledLine → Plan
  plan_of m next told = coming tables inputs set functions reading m.stack next (setting_of (steps_at tells asks m.natives next) here) (state_of reading m.world told m.turns)

  -- what it comes to
  abbrev pub remaining_run : Progress T X → Control → List LabelledLine → Ran
  remaining_run m next told = perform (meaning tables inputs set functions) (plan_of m next told)

  -- a step comes to the same: it goes on, it goes on behind a line that it printed, or the run ended so
  abbrev pub Comes : Progress T X → List LabelledLine → Ran → Advance T → Type 0
  Comes m told ran (advance.Goes next) = ran ≡ remaining_run m next told
  Comes m told ran (advance.Line p next) = ran ≡ remaining_run m next (told ++ line_of tables reading p.value ∷ [])
  Comes m told ran (advance.Ends e) = performed_run ran ≡ record { lines = told; ending = ending_of reading m e }

-- facts for a step that goes on, for one that prints, and for one at which a rule stops the run
abbrev pub IfGoes : {T : Type 0} → (Control → Type 0) → Advance T → Type 0
IfGoes P (advance.Goes next) = P next
IfGoes P (advance.Line p next) = P next
IfGoes P (advance.Ends e) = Unit {0}

abbrev pub IfLine : {T : Type 0} → (Printed T → Type 0) → Advance T → Type 0
IfLine P (advance.Line p next) = P p.value
IfLine P _ = Unit {0}

abbrev pub IfStopped : {T : Type 0} → (FlowStop T → Type 0) → Advance T → Type 0
IfStopped P (advance.Ends (ending.Stopped stop)) = P stop
IfStopped P _ = Unit {0}
