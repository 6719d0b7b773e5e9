-- The promises of the program, and the laws of the two meanings that they rest on.
use Rattle.std.specs.Prelude.{◌≡◌, ℕ, ◌⊎◌, ◌<◌, false, List, [], ◌++◌, length, Option, Some, None, Ok, codes}
use Rattle.origin_labels.specs.Label.{Label, within}
use Rattle.flow_io.specs.Files.{Files}
use Rattle.flow_policy.specs.Policies.{Tables, IsPolicy}
use Rattle.flow_policy.specs.Inputs.{Given}
use Rattle.flow_policy.specs.Observed.{Agree, view_of}
use Rattle.flow_frames.specs.declared.faults.Rule.{Rule}
use Rattle.js_ast.specs.Trees.{Statements}
use Rattle.es_meaning.specs.BuiltIns.{BuiltIns}
use Rattle.es_meaning.specs.Outcomes.{Ending, halted}
use Rattle.es_meaning.specs.Plain.{Line}
use Rattle.flow_meaning.specs.Scopes.{Halt, stopped}
use Rattle.flow_meaning.specs.Tracked as tracked
use Rattle.flow_meaning.specs.Written.{lines_bytes, written, report}
use Rattle.low_equal.specs.Erasure.{monitored}
use Rattle.low_equal.specs.Laws.{IsFinishedBy}
use Rattle.run_files.specs.Tasks.{Task, IsJudged}
use Rattle.js_shell.specs.declared.status.Status.{Status}
use Rattle.js_shell.specs.declared.status.Status.TheVariants as status
use Rattle.js_shell.specs.Replies.{runs, pairs, Plan, planned, files_for, plain_run, tracked_with, tracked_run, written_lines, shown_to, cut, status_of, Reply, IsReply}

-- ---- laws of the meanings

-- isolation: with each set of built-ins, of two runs on inputs that agree for an observer, where both finish within their turns, the views are equal
abbrev pub IsIsolating : Type 0
IsIsolating = (set : BuiltIns) (program : Statements) (tables : Tables) (observer : Label) (first second : Given) (turns others : ℕ) → IsPolicy tables → Agree observer tables first second
    → IsFinishedBy (tracked.tracked_run set tables first program turns).ending → IsFinishedBy (tracked.tracked_run set tables second program others).ending
    → view_of observer tables (written tables (tracked.tracked_run set tables first program turns)) ≡ view_of observer tables (written tables (tracked.tracked_run set tables second program others))

-- a run under a policy that declares no origin is never stopped
abbrev pub IsNeverStopped : Type 0
IsNeverStopped = (set : BuiltIns) (program : Statements) (tables : Tables) (given : Given) (turns : ℕ) (rule : Rule) (need have : Label) → IsPolicy tables → tables.origins ≡ []
    → (tracked.tracked_run set tables given program turns).ending ≡ halted (stopped rule need have) → ⊥

-- one reply: words over files have one reply at most
abbrev pub RepliesOnce : Type 0
RepliesOnce = (words : List (List ℕ)) (files : Files) (first second : Reply) → IsReply words files first → IsReply words files second → first ≡ second

-- ---- promises of a call

-- over a store that tells its files and a sink that tells its bytes as the call returns: what is said of the files and of the bytes that the call put
abbrev pub Told : Option Files → Option (List ℕ) → Option (List ℕ) → (Files → List ℕ → Type 0) → Type 0
Told contents old new Says = (files : Files) (after : List ℕ) → contents ≡ Some files → new ≡ Some after
    → (before : List ℕ) × (out : List ℕ) × (old ≡ Some before) × (after ≡ before ++ out) × Says files out

-- a claim, but for the calls that a fault or want of memory ended early
abbrev pub UnlessEarly : Status → Type 0 → Type 0
UnlessEarly status.ReadFault P = Unit {0}
UnlessEarly status.WriteFault P = Unit {0}
UnlessEarly status.OutOfMemory P = Unit {0}
UnlessEarly _ P = P

-- a claim for those alone
abbrev pub IfEarly : Status → Type 0 → Type 0
IfEarly status.ReadFault P = P
IfEarly status.WriteFault P = P
IfEarly status.OutOfMemory P = P
IfEarly _ P = Unit {0}

-- the statuses of finished runs
abbrev pub IsFinished : Status → Type 0
IsFinished status.Done = Unit {0}
IsFinished status.Threw = Unit {0}
IsFinished _ = ⊥

-- the words ask for a plan of this work, whose files are there and accepted: this is what it runs
pub record IsPlanned (words : List (List ℕ)) (files : Files) (plan : Plan) (task : Task) : Type 0 where
  pub stated : planned words ≡ Some plan
  pub accepted : IsJudged plan.request (files_for plan.work files) (Ok task)

-- the command `run` with these turns for this task
pub record IsAsked (words : List (List ℕ)) (files : Files) (turns : ℕ) (task : Task) : Type 0 where
  pub plan : Plan
  pub planned : IsPlanned words files plan task
  pub is_run : plan.work ≡ runs
  pub has_turns : plan.turns ≡ turns

-- The views of every observer depend on what it may read alone: for every other input that agrees with this one for the observer, and any number
-- of turns, if the monitored run on it finishes too, it writes the same view of what is shown.
abbrev pub Isolates : List (List ℕ) → Status → Files → List ℕ → Type 0
Isolates words result files out = IsFinished result → (turns : ℕ) (task : Task) → IsAsked words files turns task → (observer : Label) (other : Given) (others : ℕ)
    → Agree observer task.tables task.given other → IsFinishedBy (tracked_with others task other).ending
    → view_of observer task.tables out ≡ view_of observer task.tables (shown_to task.observer task.tables (tracked_with others task other))

-- what is shown of lines and an ending: all, or what an observer sees of the lines
abbrev pub lines_shown_to : Option Label → Tables → List Line → Ending Halt → List ℕ
lines_shown_to None tables lines ending = lines_bytes lines ++ report tables ending
lines_shown_to (Some observer) tables lines ending = cut observer tables (lines_bytes lines)

-- a finished run wrote exactly what unlabelled ECMAScript writes
abbrev pub IsPlain : List (List ℕ) → Status → Files → List ℕ → Type 0
IsPlain words result files out = IsFinished result → (turns : ℕ) (task : Task) → IsAsked words files turns task
    → IsFinishedBy (monitored (plain_run turns task).ending) × (out ≡ lines_shown_to task.observer task.tables (plain_run turns task).lines (monitored (plain_run turns task).ending))

-- a stopped run: the rule that it names is broken, and its lines are a front of those of unlabelled ECMAScript
pub record IsStop (turns : ℕ) (task : Task) (out : List ℕ) : Type 0 where
  pub rule : Rule
  pub need : Label
  pub have : Label
  pub lines : List Line
  pub rest : List Line
  pub ends : (tracked_run turns task).ending ≡ halted (stopped rule need have)
  pub broken : within need have ≡ false
  pub told : out ≡ lines_shown_to task.observer task.tables lines (halted (stopped rule need have))
  pub front : (plain_run turns task).lines ≡ lines ++ rest

abbrev pub Stops : List (List ℕ) → Status → Files → List ℕ → Type 0
Stops words result files out = result ≡ status.Stopped → (turns : ℕ) (task : Task) → IsAsked words files turns task → IsStop turns task out

-- a pair that is equal: what was put is what the observer sees of the first run, and what it sees of the second, and then the report
abbrev pub IsCommonView : List (List ℕ) → Status → Files → List ℕ → Type 0
IsCommonView words result files out = result ≡ status.Done → (plan : Plan) (task : Task) (observer : Label) (second : Given) → IsPlanned words files plan task → plan.work ≡ pairs
    → task.observer ≡ Some observer → task.second ≡ Some second
    → (out ≡ cut observer task.tables (written_lines (tracked_run plan.turns task)) ++ codes "! equal\n")
    × (out ≡ cut observer task.tables (written_lines (tracked_with plan.turns task second)) ++ codes "! equal\n")

-- completeness: where unlabelled ECMAScript finishes within the turns, the run ends so too, or a broken rule of a policy with origins stops it
abbrev pub IsComplete : List (List ℕ) → Status → Files → Type 0
IsComplete words result files = (turns : ℕ) (task : Task) → IsAsked words files turns task → IsFinishedBy (monitored (plain_run turns task).ending)
    → (result ≡ status_of (monitored (plain_run turns task).ending)) ⊎ ((result ≡ status.Stopped) × (0 < length task.tables.origins))
