-- When each status comes.
use Rattle.std.specs.Prelude.{◌≡◌, ℕ, ◌⊎◌, true, false, List, Some, None, Err}
use Rattle.origin_labels.specs.Label.{Label, within}
use Rattle.flow_io.specs.Files.{Files}
use Rattle.flow_io.specs.Sinks.{IsFrontOf}
use Rattle.flow_policy.specs.Inputs.{Given}
use Rattle.flow_policy.specs.Observed.{first_disagreement}
use Rattle.flow_frames.specs.declared.faults.Rule.{Rule}
use Rattle.js_ast.specs.Trees.{Statements}
use Rattle.es_meaning.specs.Outcomes.{done, threw, halted, left, out_of_turns}
use Rattle.flow_meaning.specs.Scopes.{as_plain, stopped}
use Rattle.command_line.specs.Commands.{check, make, command_of}
use Rattle.pair_runs.specs.Pairs.{are_finished}
use Rattle.run_files.specs.Sources.{SourceFault}
use Rattle.run_files.specs.Tasks.{Task, Fault, script_fault, HasScript, HasNoProgram, IsJudged, read_fault_report}
use Rattle.js_shell.specs.declared.status.Status.{Status}
use Rattle.js_shell.specs.declared.status.Status.TheVariants as status
use Rattle.js_shell.specs.Replies.{Work, runs, pairs, tries, Plan, planned, files_for, plain_run, tracked_with, tracked_run, fault_status, Reply, IsReply, ReadsAbsent}
use Rattle.js_shell.specs.Promises.{UnlessEarly, IsPlanned}

-- the status comes exactly where there is its cause, but for calls that a fault or want of memory ended early
abbrev pub Exactly : Status → Status → Type 0 → Type 0
Exactly result expected Cause = (result ≡ expected → Cause) × (Cause → UnlessEarly result (result ≡ expected))

-- ---- runs of a command: of `run` and `trial` the one run, and of `pair` two

abbrev pub IsOneRun : Work → Type 0
IsOneRun runs = Unit {0}
IsOneRun pairs = ⊥
IsOneRun (tries n) = Unit {0}

-- a command with one run, of this task with so many turns
pub record IsRun (words : List (List ℕ)) (files : Files) (turns : ℕ) (task : Task) : Type 0 where
  pub plan : Plan
  pub planned : IsPlanned words files plan task
  pub one : IsOneRun plan.work
  pub has_turns : plan.turns ≡ turns

-- a command with two runs, for an observer, with these inputs
pub record IsPair (words : List (List ℕ)) (files : Files) (turns : ℕ) (task : Task) (observer : Label) (second : Given) : Type 0 where
  pub plan : Plan
  pub planned : IsPlanned words files plan task
  pub two : plan.work ≡ pairs
  pub has_turns : plan.turns ≡ turns
  pub has_observer : task.observer ≡ Some observer
  pub has_second : task.second ≡ Some second

-- ---- causes

-- the words are no command
abbrev pub IsUsage : List (List ℕ) → Type 0
IsUsage words = command_of words ≡ None

-- a file of the command is refused so
abbrev pub IsRefused : List (List ℕ) → Files → Fault → Type 0
IsRefused words files fault = (plan : Plan) × (planned words ≡ Some plan) × IsJudged plan.request (files_for plan.work files) (Err fault)

-- the script is there and is refused
abbrev pub IsSource : List (List ℕ) → Files → Type 0
IsSource words files = (fault : SourceFault) × (((path : List ℕ) × (command_of words ≡ Some (check path)) × HasNoProgram files path fault) ⊎ IsRefused words files (script_fault fault))

-- the script is accepted, and policy, observer or an input break their rules, or the two inputs differ for the observer
abbrev pub IsBadPolicy : List (List ℕ) → Files → Type 0
IsBadPolicy words files = ((fault : Fault) × (fault_status fault ≡ status.Policy) × IsRefused words files fault)
    ⊎ ((turns : ℕ) × (task : Task) × (observer : Label) × (second : Given) × (channel : ℕ) × IsPair words files turns task observer second
    × (first_disagreement observer task.tables task.given second ≡ Some channel))

-- the inputs of a pair agree, and so both runs are done
abbrev pub AreTwoRuns : List (List ℕ) → Files → ℕ → Task → Given → Type 0
AreTwoRuns words files turns task second = (observer : Label) × IsPair words files turns task observer second × (first_disagreement observer task.tables task.given second ≡ None)

-- the labelled run reaches its end; or a script that is checked is accepted; or both runs of a pair are finished; or a script is made
abbrev pub IsDone : List (List ℕ) → Files → Type 0
IsDone words files = ((turns : ℕ) × (task : Task) × IsRun words files turns task × ((tracked_run turns task).ending ≡ done))
    ⊎ (((path : List ℕ) × (program : Statements) × (command_of words ≡ Some (check path)) × HasScript files path program)
    ⊎ (((turns : ℕ) × (task : Task) × (second : Given) × AreTwoRuns words files turns task second × (are_finished (tracked_run turns task) (tracked_with turns task second) ≡ true))
    ⊎ ((n : ℕ) × (command_of words ≡ Some (make n)))))

-- an exception leaves the script, with one thing shown of its value, in both meanings
abbrev pub IsThrew : List (List ℕ) → Files → Type 0
IsThrew words files = (turns : ℕ) × (task : Task) × (shown : List ℕ) × IsRun words files turns task × ((tracked_run turns task).ending ≡ threw shown) × ((plain_run turns task).ending ≡ threw shown)

-- a rule that is broken stops the labelled run
abbrev pub IsStopped : List (List ℕ) → Files → Type 0
IsStopped words files = (turns : ℕ) × (task : Task) × (rule : Rule) × (need : Label) × (have : Label) × IsRun words files turns task
    × ((tracked_run turns task).ending ≡ halted (stopped rule need have)) × (within need have ≡ false)

-- both meanings leave by one name
abbrev pub IsLeft : List (List ℕ) → Files → Type 0
IsLeft words files = (turns : ℕ) × (task : Task) × (name : List ℕ) × IsRun words files turns task × ((tracked_run turns task).ending ≡ halted (as_plain (left name))) × ((plain_run turns task).ending ≡ halted (left name))

-- both meanings want more turns
abbrev pub IsOutOfTurns : List (List ℕ) → Files → Type 0
IsOutOfTurns words files = (turns : ℕ) × (task : Task) × IsRun words files turns task × ((tracked_run turns task).ending ≡ halted (as_plain out_of_turns)) × ((plain_run turns task).ending ≡ halted out_of_turns)

-- a run of a pair isn't finished
abbrev pub IsUnfinished : List (List ℕ) → Files → Type 0
IsUnfinished words files = (turns : ℕ) × (task : Task) × (second : Given) × AreTwoRuns words files turns task second × (are_finished (tracked_run turns task) (tracked_with turns task second) ≡ false)

-- what stands after a call that ended early: a front of the reply, or a front of the report of a read fault where the store's
-- count rose or an absent file is reached
abbrev pub IsEarlyFront : List (List ℕ) → Type 0 → Files → List ℕ → Type 0
IsEarlyFront words StoreFailed files out = ((reply : Reply) × IsReply words files reply × IsFrontOf out reply.bytes)
    ⊎ ((StoreFailed ⊎ ReadsAbsent words files) × IsFrontOf out read_fault_report)
