-- What the program writes and answers, without faults and want of memory.
use Rattle.std.specs.Prelude.{◌≡◌, ℕ, List, [], ◌∷◌, ◌++◌, length, map, slice_get, Option, Some, None, Ok, Err, codes, if◌then◌else◌}
use Rattle.std.specs.List.{flat_map}
use Rattle.std.specs.Fmt.{decimal}
use Rattle.origin_labels.specs.Label.{Label}
use Rattle.flow_text.specs.Utf8.{utf8_of}
use Rattle.flow_io.specs.Files.{Files, file_at}
use Rattle.js_ast.specs.Trees.{Statements}
use Rattle.flow_policy.specs.declared.policy.Channel.{Channel}
use Rattle.flow_policy.specs.Policies.{Tables}
use Rattle.flow_policy.specs.Inputs.{Given}
use Rattle.flow_policy.specs.Observed.{view_of, first_disagreement}
use Rattle.es_meaning.specs.BuiltIns.{BuiltIns, built_ins_of}
use Rattle.es_meaning.specs.Outcomes.{Ending, done, threw, halted, left, out_of_turns}
use Rattle.es_meaning.specs.Plain as plain
use Rattle.flow_meaning.specs.Scopes.{Halt, as_plain, stopped}
use Rattle.flow_meaning.specs.Tracked as tracked
use Rattle.flow_meaning.specs.Written.{written, lines_bytes, ending_bytes}
use Rattle.all_natives.specs.Together.{all_entries, all_begin, all_after, all_asks}
use Rattle.command_line.specs.Commands.{Command, run, check, pair, make, trial, RunWords, PairWords, default_turns, command_of}
use Rattle.script_maker.specs.Made.{made}
use Rattle.pair_runs.specs.Pairs.{are_finished}
use Rattle.run_files.specs.Sources.{SourceFault}
use Rattle.run_files.specs.Tasks.{Request, Task, Fault, script_fault, policy_fault, unknown_observer, input_fault, IsJudged, HasScript, HasNoProgram, Reaches, fault_report}
use Rattle.js_shell.specs.declared.status.Status.{Status}
use Rattle.js_shell.specs.declared.status.Status.TheVariants as status

-- ---- what a command asks for

-- what is done with the files of a run: it is run; it is run with two inputs, and what an observer sees of both is compared; or the files are
-- those of a trial, which the program makes
pub data Work : Type 0 where
  runs : Work
  pairs : Work
  tries : ℕ → Work

-- the files of a run, what is done with them, and how many parts of the script each run may enter
pub record Plan : Type 0 where
  pub work : Work
  pub request : Request
  pub turns : ℕ

abbrev pub run_plan : RunWords → Plan
run_plan w = record { work = runs; request = record { script = w.script; policy = w.policy; observer = w.observer; input = w.input; second = None }; turns = w.turns }

abbrev pub pair_plan : PairWords → Plan
pair_plan w = record { work = pairs; request = record { script = w.script; policy = w.policy; observer = Some w.observer; input = w.first; second = Some w.second }; turns = w.turns }

abbrev pub trial_plan : ℕ → Plan
trial_plan n = record { work = tries n; request = record { script = codes "script"; policy = codes "policy"; observer = None; input = codes "input"; second = None }; turns = default_turns }

-- the plan of a command that runs a script
abbrev pub plan_of : Command → Option Plan
plan_of (run w) = Some (run_plan w)
plan_of (check path) = None
plan_of (pair w) = Some (pair_plan w)
plan_of (make n) = None
plan_of (trial n) = Some (trial_plan n)

abbrev pub plan_of_command : Option Command → Option Plan
plan_of_command (Some command) = plan_of command
plan_of_command None = None

unfoldable pub planned : List (List ℕ) → Option Plan
planned words = plan_of_command (command_of words)

-- the files of a trial: a script, and a policy and an input that it reads
abbrev pub trial_files_of : List ℕ → Files
trial_files_of script = record { path = codes "script"; bytes = script }
    ∷ record { path = codes "policy"; bytes = codes "origin A\norigin B\nin pin A\nin note -\nout all A,B\nout pub -\n" }
    ∷ record { path = codes "input"; bytes = codes "pin 5\n" } ∷ []

-- with the script that the generator makes of a number
abbrev pub trial_files : ℕ → Files
trial_files n = trial_files_of (made n)

abbrev pub files_for : Work → Files → Files
files_for runs files = files
files_for pairs files = files
files_for (tries n) files = trial_files n

-- ---- the meanings of a task

-- the built-ins that a script has under a policy, whose origins those of the product name
abbrev pub built_ins : Tables → BuiltIns
built_ins tables = built_ins_of all_entries all_begin (all_after tables.origins) all_asks

abbrev pub plain_run : ℕ → Task → plain.Run
plain_run turns task = plain.plain_run (built_ins task.tables) task.tables task.given task.program turns

-- the labelled run with an input of the task's policy, and with its own
abbrev pub tracked_with : ℕ → Task → Given → tracked.Run
tracked_with turns task given = tracked.tracked_run (built_ins task.tables) task.tables given task.program turns

abbrev pub tracked_run : ℕ → Task → tracked.Run
tracked_run turns task = tracked_with turns task task.given

-- ---- replies

pub record Reply : Type 0 where
  pub bytes : List ℕ
  pub status : Status

abbrev pub status_of : Ending Halt → Status
status_of done = status.Done
status_of (threw shown) = status.Threw
status_of (halted (stopped rule need have)) = status.Stopped
status_of (halted (as_plain (left name))) = status.Left
status_of (halted (as_plain out_of_turns)) = status.OutOfTurns

-- bytes cut to what an observer sees of them: the lines on the channels that it sees, each with its LF
unfoldable pub cut : Label → Tables → List ℕ → List ℕ
cut observer tables bytes = flat_map (λ line. line ++ 10 ∷ []) (view_of observer tables bytes)

-- the lines of a run
abbrev pub written_lines : tracked.Run → List ℕ
written_lines ran = lines_bytes (map (λ l. l.line) ran.lines)

-- what is written of a run: its lines and the report of its ending; or for an observer the lines that it sees, and no report
abbrev pub shown_to : Option Label → Tables → tracked.Run → List ℕ
shown_to None tables ran = written tables ran
shown_to (Some observer) tables ran = cut observer tables (written_lines ran)

-- a run writes what the labelled meaning says
abbrev pub run_reply : ℕ → Task → Reply
run_reply turns task = record { bytes = shown_to task.observer task.tables (tracked_run turns task); status = status_of (tracked_run turns task).ending }

-- how two runs end of which one isn't finished
abbrev pub unfinished_report : Tables → Ending Halt → Ending Halt → List ℕ
unfinished_report tables first second = codes "! unfinished " ++ (ending_bytes tables first ++ (codes " / " ++ (ending_bytes tables second ++ codes "\n")))

-- two finished runs: what the observer sees of the first, which it sees of the second too. Of two runs that aren't finished, how they end
abbrev pub both_reply : Tables → Label → tracked.Run → tracked.Run → Reply
both_reply tables observer first second = if are_finished first second
    then record { bytes = cut observer tables (written_lines first) ++ codes "! equal\n"; status = status.Done }
    else record { bytes = unfinished_report tables first.ending second.ending; status = status.Unfinished }

-- the name of an input channel
abbrev pub name_of : Option Channel → List ℕ
name_of (Some channel) = utf8_of channel.name
name_of None = []

abbrev pub channel_name : Tables → ℕ → List ℕ
channel_name tables i = name_of (slice_get tables.inputs i)

abbrev pub differ_report : Tables → ℕ → List ℕ
differ_report tables i = codes "! inputs differ on " ++ (channel_name tables i ++ codes "\n")

abbrev pub compared : ℕ → Task → Label → Given → Option ℕ → Reply
compared turns task observer second (Some channel) = record { bytes = differ_report task.tables channel; status = status.Policy }
compared turns task observer second None = both_reply task.tables observer (tracked_run turns task) (tracked_with turns task second)

-- the files of a pair give an observer and a second input
abbrev pub pair_reply : ℕ → Task → Option Label → Option Given → Reply
pair_reply turns task (Some observer) (Some second) = compared turns task observer second (first_disagreement observer task.tables task.given second)
pair_reply turns task _ _ = run_reply turns task

abbrev pub trial_report : Tables → ℕ → ℕ → Ending Halt → List ℕ
trial_report tables made lines ending = codes "! made " ++ (decimal made ++ (codes " bytes, " ++ (decimal lines ++ (codes " lines, " ++ (ending_bytes tables ending ++ codes "\n")))))

-- a trial shows how long its script is, how many lines its run writes, and how it ends
abbrev pub trial_of : ℕ → ℕ → Task → Reply
trial_of size turns task = record { bytes = trial_report task.tables size (length (tracked_run turns task).lines) (tracked_run turns task).ending; status = status_of (tracked_run turns task).ending }

abbrev pub trial_reply : ℕ → ℕ → Task → Reply
trial_reply n turns task = trial_of (length (made n)) turns task

abbrev pub work_reply : Work → ℕ → Task → Reply
work_reply runs turns task = run_reply turns task
work_reply pairs turns task = pair_reply turns task task.observer task.second
work_reply (tries n) turns task = trial_reply n turns task

abbrev pub usage_reply : Reply
usage_reply = record { bytes = codes "! usage\n"; status = status.Usage }

abbrev pub accepted_report : List ℕ
accepted_report = codes "! accepted\n"

-- an accepted script
abbrev pub accepted_reply : Reply
accepted_reply = record { bytes = accepted_report; status = status.Done }

-- a script that was asked for
abbrev pub made_reply : ℕ → Reply
made_reply n = record { bytes = made n; status = status.Done }

abbrev pub fault_status : Fault → Status
fault_status (script_fault fault) = status.Source
fault_status (policy_fault fault) = status.Policy
fault_status (unknown_observer name) = status.Policy
fault_status (input_fault number fault) = status.Policy

abbrev pub fault_reply : Fault → Reply
fault_reply fault = record { bytes = fault_report fault; status = fault_status fault }

-- the reply to a script that is checked alone
pub data IsProgramReply (path : List ℕ) (files : Files) (reply : Reply) : Type 0 where
  refuses_program : (fault : SourceFault) → HasNoProgram files path fault → reply ≡ fault_reply (script_fault fault) → IsProgramReply path files reply
  accepts_program : (program : Statements) → HasScript files path program → reply ≡ accepted_reply → IsProgramReply path files reply

-- the reply to a plan: its files are refused, or what is asked of them is done
pub data IsPlanReply (plan : Plan) (files : Files) (reply : Reply) : Type 0 where
  refuses_files : (fault : Fault) → IsJudged plan.request (files_for plan.work files) (Err fault) → reply ≡ fault_reply fault → IsPlanReply plan files reply
  does : (task : Task) → IsJudged plan.request (files_for plan.work files) (Ok task) → reply ≡ work_reply plan.work plan.turns task → IsPlanReply plan files reply

-- This is the reply to the words over the files. Where the order of work reaches an absent file there is none.
pub data IsReply (words : List (List ℕ)) (files : Files) (reply : Reply) : Type 0 where
  refuses_words : command_of words ≡ None → reply ≡ usage_reply → IsReply words files reply
  makes : (n : ℕ) → command_of words ≡ Some (make n) → reply ≡ made_reply n → IsReply words files reply
  checks : (path : List ℕ) → command_of words ≡ Some (check path) → IsProgramReply path files reply → IsReply words files reply
  plans : (plan : Plan) → planned words ≡ Some plan → IsPlanReply plan files reply → IsReply words files reply

-- ---- files that are read

-- the files of a trial are in memory
abbrev pub IsOutside : Work → Type 0
IsOutside runs = Unit {0}
IsOutside pairs = Unit {0}
IsOutside (tries n) = ⊥

-- The order of work reaches this file. Over a store that doesn't tell its files it may reach each that the words name.
pub data Reads (contents : Option Files) (words : List (List ℕ)) (path : List ℕ) : Type 0 where
  reads_program : command_of words ≡ Some (check path) → Reads contents words path
  reads_files : (plan : Plan) → planned words ≡ Some plan → IsOutside plan.work → Reaches contents plan.request path → Reads contents words path

-- it reaches a file that is absent
abbrev pub ReadsAbsent : List (List ℕ) → Files → Type 0
ReadsAbsent words files = (path : List ℕ) × Reads (Some files) words path × (file_at files path ≡ None)
