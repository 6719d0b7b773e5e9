-- What a machine comes to, what holds of one that runs, and what a step makes of it.
use Rattle.std.specs.Prelude.{◌≡◌, ◌≤◌, ℕ, List, [], ◌∷◌, ◌++◌, length}
use Rattle.origin_labels.specs.Label.{Label}
use Rattle.flow_policy.specs.Inputs.{IsGivenTo}
use Rattle.flow_frames.specs.declared.faults.FlowStop.{FlowStop}
use Rattle.native_protocol.specs.declared.request.Answer.{Answer}
use Rattle.native_protocol.specs.declared.request.Request.{Request}
use Rattle.es_meaning.specs.BuiltIns.{BuiltIns}
use Rattle.es_meaning.specs.Outcomes.{Ending}
use Rattle.flow_meaning.specs.Laws.{performed_run}
use Rattle.flow_meaning.specs.Planned.{Ran}
use Rattle.flow_meaning.specs.Scopes.{Halt, LabelledLine}
use Rattle.function_table.specs.Tables.{table}
use Rattle.channel_requests.specs.Answers.{line_of}
use Rattle.channel_requests.specs.declared.printing.Printed.{Printed}
use Rattle.step_core.specs.declared.machine.Machine.{Machine}
use Rattle.step_core.specs.declared.steps.Step.{Step}
use Rattle.step_core.specs.declared.steps.Step.TheVariants as step
use Rattle.step_core.specs.declared.steps.Ending as code
use Rattle.step_core.specs.declared.steps.Ending.TheVariants as ending
use Rattle.step_core.specs.RemainingRun as remaining_run
use Rattle.step_core.specs.Stepping.{StandsBefore}

-- how much a machine does before its run ends
abbrev pub ahead : {T X : Type 0} → Machine T X → ℕ
ahead m = remaining_run.ahead m.progress m.next

module _ {T X : Type 0} (set : BuiltIns) (tells : X → Answer → X) (asks : X → Request) (reading : T → Label) where
  -- what the run of a machine comes to with a set of built-ins, in a reading, where these lines were printed
  abbrev pub comes_to : Machine T X → List LabelledLine → Ran
  comes_to m told = remaining_run.remaining_run m.policy.now m.inputs.now set (table m.functions) tells asks reading m.progress m.next told

  -- how a run ended
  abbrev pub ending_of : Machine T X → code.Ending T → Ending Halt
  ending_of m e = remaining_run.ending_of reading m.progress e

  -- a step comes to the same: it goes on, it goes on behind a line that it printed, or the run ended so
  abbrev pub Comes : Machine T X → List LabelledLine → Ran → Step T → Type 0
  Comes m told ran step.Goes = ran ≡ comes_to m told
  Comes m told ran (step.Line p) = ran ≡ comes_to m (told ++ line_of m.policy.now reading p.value ∷ [])
  Comes m told ran (step.Ends e) = performed_run ran ≡ record { lines = told; ending = ending_of m e }

-- no step ended the run: the machine stands, its labels are those of a store with room for the policy's origins, and its input is of the policy
pub record Runs {S T X : Type 0} (made : S → T → Type 0) (meaning : S → T → Label) (room : S → ℕ) (store : S) (m : Machine T X) : Type 0 where
  pub standing : StandsBefore made meaning store m.progress m.next
  pub origins : length m.policy.now.origins ≤ room store
  pub given : IsGivenTo m.policy.now m.inputs.now
  pub positions : length m.progress.world.positions.items ≡ length m.policy.now.inputs

-- what a machine borrows, and its functions, stay
pub record IsMoved {T X : Type 0} (old new : Machine T X) : Type 0 where
  pub policy : new.policy ≡ old.policy
  pub inputs : new.inputs ≡ old.inputs
  pub functions : new.functions ≡ old.functions

-- all stays but how many frames there is room for
pub record IsReserved {T X : Type 0} (old new : Machine T X) : Type 0 where
  pub frames : new.progress.world.frames.frames ≡ old.progress.world.frames.frames
  pub others : new ≡ record old { progress = record (old.progress) { world = record (old.progress.world) { frames = new.progress.world.frames } } }

-- a fact where a step goes on, by printing a line or not; facts on the line that it prints, and on the stop at which the run ended
abbrev pub IfOn : {T : Type 0} → Type 0 → Step T → Type 0
IfOn P step.Goes = P
IfOn P (step.Line p) = P
IfOn P (step.Ends e) = Unit {0}

abbrev pub IfPrinted : {T : Type 0} → (Printed T → Type 0) → Step T → Type 0
IfPrinted P (step.Line p) = P p.value
IfPrinted P _ = Unit {0}

abbrev pub IfStopped : {T : Type 0} → (FlowStop T → Type 0) → Step T → Type 0
IfStopped P (step.Ends (ending.Stopped stop)) = P stop
IfStopped P _ = Unit {0}
