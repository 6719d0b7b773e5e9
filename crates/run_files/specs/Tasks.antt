-- What the files of a run state, or the first reason why they are refused, in the order of work: script, policy, observer, input, second input.
use Rattle.std.specs.Prelude.{◌≡◌, ℕ, List, [], ◌++◌, length, nat_lt, Option, Some, None, Result, Ok, Err, IfSome, codes, if◌then◌else◌}
use Rattle.std.specs.Fmt.{decimal}
use Rattle.std.specs.List.{slice_index_or}
use Rattle.origin_labels.specs.Label.{Label}
use Rattle.js_ast.specs.Trees.{Statements}
use Rattle.flow_io.specs.Files.{Files, file_at}
use Rattle.flow_lists.specs.Lists.{names_in}
use Rattle.flow_policy.specs.declared.fault.ListFault.{ListFault}
use Rattle.flow_policy.specs.declared.fault.ListFault.TheVariants as list_fault
use Rattle.flow_policy.specs.declared.fault.PolicyKind.{PolicyKind}
use Rattle.flow_policy.specs.declared.fault.PolicyKind.TheVariants as policy_kind
use Rattle.flow_policy.specs.declared.fault.InputKind.{InputKind}
use Rattle.flow_policy.specs.declared.fault.InputKind.TheVariants as input_kind
use Rattle.flow_policy.specs.Policies.{Tables, BadLine, policy_of}
use Rattle.flow_policy.specs.Inputs.{Given, inputs_of}
use Rattle.flow_policy.specs.Listed.{list_of}
use Rattle.run_files.specs.declared.refusals.WhichInput.{WhichInput}
use Rattle.run_files.specs.declared.refusals.WhichInput.TheVariants as which
use Rattle.run_files.specs.declared.refusals.SourceKind.{SourceKind}
use Rattle.run_files.specs.declared.refusals.SourceKind.TheVariants as source_kind
use Rattle.run_files.specs.Sources.{SourceFault, long_source, source_utf8, bad_source, HasProgram, RefusesProgram}

-- the files of a run, or of two runs with two inputs, and the list of origins of the observer for whom they are, if they are for one
pub record Request : Type 0 where
  pub script : List ℕ
  pub policy : List ℕ
  pub observer : Option (List ℕ)
  pub input : List ℕ
  pub second : Option (List ℕ)

-- what they state: a script under a policy with its input
pub record Task : Type 0 where
  pub program : Statements
  pub tables : Tables
  pub observer : Option Label
  pub given : Given
  pub second : Option Given

-- ---- why they are refused

-- why a file isn't of its format: it is longer than the format allows, or its first bad line
pub data FileFault (Kind : Type 0) : Type 0 where
  too_long : FileFault Kind
  bad_line : BadLine Kind → FileFault Kind

-- the script is no program; the policy or an input isn't of its format; or the observer's list has a name that is no declared origin
pub data Fault : Type 0 where
  script_fault : SourceFault → Fault
  policy_fault : FileFault PolicyKind → Fault
  unknown_observer : List ℕ → Fault
  input_fault : WhichInput → FileFault InputKind → Fault

-- ---- the order of work after the script

-- the result of a step of the work: nothing where its file is absent, a refusal, or what is wanted
abbrev pub Judged : Type 0 → Type 0
Judged X = Option (Result X Fault)

abbrev pub and_then : {X Y : Type 0} → Judged X → (X → Judged Y) → Judged Y
and_then None next = None
and_then (Some (Err fault)) next = Some (Err fault)
and_then (Some (Ok x)) next = next x

-- the most bytes of a policy and of an input
abbrev pub policy_limit : ℕ
policy_limit = 65536

abbrev pub input_limit : ℕ
input_limit = 1048576

-- what a file gives that a format reads so
abbrev pub read_file : {X Kind : Type 0} → (FileFault Kind → Fault) → Result X (BadLine Kind) → Result X Fault
read_file fault (Ok x) = Ok x
read_file fault (Err bad) = Err (fault (bad_line bad))

-- what the bytes of a policy file state, and what those of an input file give to a policy's channels
unfoldable pub policy_in : List ℕ → Result Tables Fault
policy_in bytes = if nat_lt policy_limit (length bytes) then Err (policy_fault too_long) else read_file policy_fault (policy_of bytes)

unfoldable pub input_in : WhichInput → Tables → List ℕ → Result Given Fault
input_in number tables bytes = if nat_lt input_limit (length bytes) then Err (input_fault number too_long) else read_file (input_fault number) (inputs_of tables.inputs bytes)

-- the bytes of a file, read so
abbrev pub read_at : {X : Type 0} → (List ℕ → Result X Fault) → Option (List ℕ) → Judged X
read_at read None = None
read_at read (Some bytes) = Some (read bytes)

-- the observer of a list: where the list has a name that is no declared origin, the first such name refuses it. (The form of the list is asked
-- with the words; what is no list names nothing.)
abbrev pub observed : List ℕ → Result Label ListFault → Result (Option Label) Fault
observed list (Ok label) = Ok (Some label)
observed list (Err (list_fault.Unknown number)) = Err (unknown_observer (slice_index_or (names_in list) number []))
observed list (Err _) = Err (unknown_observer list)

abbrev pub observer_in : Tables → Option (List ℕ) → Judged (Option Label)
observer_in tables None = Some (Ok None)
observer_in tables (Some list) = Some (observed list (list_of tables.origins list))

abbrev pub some_given : Result Given Fault → Result (Option Given) Fault
some_given (Ok given) = Ok (Some given)
some_given (Err fault) = Err fault

abbrev pub second_at : Tables → Files → Option (List ℕ) → Judged (Option Given)
second_at tables files None = Some (Ok None)
second_at tables files (Some path) = read_at (λ bytes. some_given (input_in which.Second tables bytes)) (file_at files path)

abbrev pub policy_at : Files → List ℕ → Judged Tables
policy_at files path = read_at policy_in (file_at files path)

abbrev pub input_at : Tables → Files → List ℕ → Judged Given
input_at tables files path = read_at (input_in which.First tables) (file_at files path)

-- what the files state with an accepted script
unfoldable pub task_with : Request → Files → Statements → Judged Task
task_with request files program = and_then (policy_at files request.policy) (λ tables.
    and_then (observer_in tables request.observer) (λ observer.
    and_then (input_at tables files request.input) (λ given.
    and_then (second_at tables files request.second) (λ second.
    Some (Ok (record { program = program; tables = tables; observer = observer; given = given; second = second }))))))

-- ---- the whole order of work

-- a file is there at a path, and is a program
pub record HasScript (files : Files) (path : List ℕ) (program : Statements) : Type 0 where
  pub bytes : List ℕ
  pub there : file_at files path ≡ Some bytes
  pub spelled : HasProgram bytes program

-- a file is there, and is no program for this fault
pub record HasNoProgram (files : Files) (path : List ℕ) (fault : SourceFault) : Type 0 where
  pub bytes : List ℕ
  pub there : file_at files path ≡ Some bytes
  pub refused : RefusesProgram bytes fault

-- the files of a request are there as far as they are reached, and state this task or are refused for this fault
pub data IsJudged (request : Request) (files : Files) (judged : Result Task Fault) : Type 0 where
  by_script : (fault : SourceFault) → HasNoProgram files request.script fault → judged ≡ Err (script_fault fault) → IsJudged request files judged
  by_others : (program : Statements) → HasScript files request.script program → task_with request files program ≡ Some judged → IsJudged request files judged

-- The order of work reaches this file. Over a store that doesn't tell its files it may reach each that the request names.
pub data Reaches (contents : Option Files) (request : Request) (path : List ℕ) : Type 0 where
  reaches_script : path ≡ request.script → Reaches contents request path
  reaches_policy : path ≡ request.policy → IfSome contents (λ files. (program : Statements) × HasScript files request.script program) → Reaches contents request path
  reaches_input : path ≡ request.input → IfSome contents (λ files. (program : Statements) × (tables : Tables) × (observer : Option Label) × HasScript files request.script program
      × (policy_at files request.policy ≡ Some (Ok tables)) × (observer_in tables request.observer ≡ Some (Ok observer))) → Reaches contents request path
  reaches_second : request.second ≡ Some path → IfSome contents (λ files. (program : Statements) × (tables : Tables) × (observer : Option Label) × (given : Given) × HasScript files request.script program
      × (policy_at files request.policy ≡ Some (Ok tables)) × (observer_in tables request.observer ≡ Some (Ok observer)) × (input_at tables files request.input ≡ Some (Ok given))) → Reaches contents request path

-- it reaches a file that is absent
abbrev pub ReachesAbsent : Request → Files → Type 0
ReachesAbsent request files = (path : List ℕ) × Reaches (Some files) request path × (file_at files path ≡ None)

-- ---- reports

abbrev pub source_kind_name : SourceKind → List ℕ
source_kind_name source_kind.BadToken = codes "BadToken"
source_kind_name source_kind.Unterminated = codes "Unterminated"
source_kind_name source_kind.RegExpLiteral = codes "RegExpLiteral"
source_kind_name source_kind.NumberLiteral = codes "NumberLiteral"
source_kind_name source_kind.Syntax = codes "Syntax"
source_kind_name source_kind.With = codes "With"
source_kind_name source_kind.Nesting = codes "Nesting"
source_kind_name source_kind.Directive = codes "Directive"
source_kind_name source_kind.EvalArguments = codes "EvalArguments"
source_kind_name source_kind.RepeatedParameter = codes "RepeatedParameter"
source_kind_name source_kind.RepeatedProperty = codes "RepeatedProperty"
source_kind_name source_kind.DeleteName = codes "DeleteName"
source_kind_name source_kind.Jump = codes "Jump"
source_kind_name source_kind.RepeatedLabel = codes "RepeatedLabel"
source_kind_name source_kind.StrictWord = codes "StrictWord"

abbrev pub source_report : SourceFault → List ℕ
source_report long_source = codes "! source TooLong\n"
source_report (source_utf8 at) = codes "! source Utf8 at byte " ++ (decimal at ++ codes "\n")
source_report (bad_source kind place) = codes "! source " ++ (source_kind_name kind ++ (codes " at " ++ (decimal place.line ++ (codes ":" ++ (decimal place.column ++ codes "\n")))))

abbrev pub policy_kind_name : PolicyKind → List ℕ
policy_kind_name policy_kind.Keyword = codes "Keyword"
policy_kind_name policy_kind.Words = codes "Words"
policy_kind_name policy_kind.Name = codes "Name"
policy_kind_name policy_kind.Unknown = codes "Unknown"
policy_kind_name policy_kind.Repeat = codes "Repeat"
policy_kind_name policy_kind.Many = codes "Many"

abbrev pub input_kind_name : InputKind → List ℕ
input_kind_name input_kind.Utf8 = codes "Utf8"
input_kind_name input_kind.Channel = codes "Channel"

-- a bad line's kind and number
abbrev pub at_line : List ℕ → ℕ → List ℕ
at_line name line = name ++ (codes " at line " ++ (decimal line ++ codes "\n"))

abbrev pub policy_report : FileFault PolicyKind → List ℕ
policy_report too_long = codes "! policy TooLong\n"
policy_report (bad_line bad) = codes "! policy " ++ at_line (policy_kind_name bad.kind) bad.line

-- how reports begin that are of an input
abbrev pub input_front : WhichInput → List ℕ
input_front which.First = codes "! input "
input_front which.Second = codes "! input2 "

abbrev pub input_report : WhichInput → FileFault InputKind → List ℕ
input_report number too_long = input_front number ++ codes "TooLong\n"
input_report number (bad_line bad) = input_front number ++ at_line (input_kind_name bad.kind) bad.line

abbrev pub fault_report : Fault → List ℕ
fault_report (script_fault fault) = source_report fault
fault_report (policy_fault fault) = policy_report fault
fault_report (unknown_observer name) = codes "! observer Unknown " ++ (name ++ codes "\n")
fault_report (input_fault number fault) = input_report number fault

-- the bytes where a file could not be read, which is no fault of the files
abbrev pub read_fault_report : List ℕ
read_fault_report = codes "! read fault\n"
