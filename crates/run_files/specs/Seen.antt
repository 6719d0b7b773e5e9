-- The code's requests, tasks and refusals without where they are in memory, and the report of a refusal.
use Rattle.std.specs.Prelude.{ℕ, List, Option, Some, None, Result, Ok, Err, option_map, option_copied}
use Rattle.js_ast.specs.declared.trees.Program.{Program}
use Rattle.js_ast.specs.Trees.{Statements}
use Rattle.js_ast.specs.Views.{view_program}
use Rattle.run_files.specs.declared.accepting.Request as requests
use Rattle.run_files.specs.declared.accepting.Task as tasks
use Rattle.run_files.specs.declared.refusals.Refusal.{Refusal}
use Rattle.run_files.specs.declared.refusals.Refusal.TheVariants as refusal
use Rattle.run_files.specs.Sources.{long_source, source_utf8, bad_source}
use Rattle.run_files.specs.Tasks.{Request, Task, Fault, script_fault, policy_fault, unknown_observer, input_fault, too_long, bad_line, read_fault_report, fault_report}

abbrev pub seen_request : requests.Request → Request
seen_request request = record {
  script = request.script.now;
  policy = request.policy.now;
  observer = option_copied request.observer;
  input = request.input.now;
  second = option_copied request.second;
}

abbrev pub seen_script : Result Program Refusal → Result Statements Refusal
seen_script (Ok program) = Ok (view_program program)
seen_script (Err r) = Err r

abbrev pub seen_task : tasks.Task → Task
seen_task task = record { program = view_program task.script; tables = task.policy; observer = task.observer; given = task.inputs; second = task.second }

abbrev pub seen_accepted : Result tasks.Task Refusal → Result Task Refusal
seen_accepted (Ok task) = Ok (seen_task task)
seen_accepted (Err r) = Err r

-- the fault of the files for which they are refused; a read fault and out of memory aren't of the files
abbrev pub seen_refusal : Refusal → Option Fault
seen_refusal refusal.LongSource = Some (script_fault long_source)
seen_refusal (refusal.SourceUtf8 at) = Some (script_fault (source_utf8 at))
seen_refusal (refusal.BadSource kind place) = Some (script_fault (bad_source kind place))
seen_refusal refusal.LongPolicy = Some (policy_fault too_long)
seen_refusal (refusal.BadPolicy line kind) = Some (policy_fault (bad_line (record { line = line; kind = kind })))
seen_refusal (refusal.UnknownObserver name) = Some (unknown_observer name.now)
seen_refusal (refusal.LongInput input) = Some (input_fault input too_long)
seen_refusal (refusal.BadInput input line kind) = Some (input_fault input (bad_line (record { line = line; kind = kind })))
seen_refusal refusal.ReadFault = None
seen_refusal refusal.OutOfMemory = None

-- the report of a refusal; out of memory has none
abbrev pub refusal_report : Refusal → Option (List ℕ)
refusal_report refusal.ReadFault = Some read_fault_report
refusal_report r = option_map fault_report (seen_refusal r)
