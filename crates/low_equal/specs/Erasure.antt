-- A labelled run without its labels is the unlabelled run, up to a stop by a broken rule.
use Rattle.std.specs.Prelude.{◌≡◌, ℕ, false, List, ◌++◌, map}
use Rattle.origin_labels.specs.Label.{Label, within}
use Rattle.flow_frames.specs.declared.faults.Rule.{Rule}
use Rattle.flow_policy.specs.Policies.{Tables}
use Rattle.flow_policy.specs.Inputs.{Given}
use Rattle.js_ast.specs.Trees.{Statements}
use Rattle.es_meaning.specs.BuiltIns.{BuiltIns}
use Rattle.es_meaning.specs.Outcomes as es
use Rattle.es_meaning.specs.Outcomes.{Ending, done, threw, halted}
use Rattle.es_meaning.specs.Plain as plain
use Rattle.es_meaning.specs.Plain.{Line, plain_run}
use Rattle.flow_meaning.specs.Scopes.{LabelledLine, Halt, as_plain, stopped}
use Rattle.flow_meaning.specs.Tracked as tracked
use Rattle.flow_meaning.specs.Tracked.{tracked_run}

-- a line without its label
abbrev pub erased_line : LabelledLine → Line
erased_line l = l.line

abbrev pub erased_lines : List LabelledLine → List Line
erased_lines lines = map erased_line lines

-- the ending of an unlabelled run, as that of a labelled one
abbrev pub monitored : Ending es.Halt → Ending Halt
monitored done = done
monitored (threw shown) = threw shown
monitored (halted halt) = halted (as_plain halt)

-- the same lines and ending, or a stop by a rule that is broken, with a front of the lines
pub data Erases (labelled : tracked.Run) (unlabelled : plain.Run) : Type 0 where
  goes_on : labelled.ending ≡ monitored unlabelled.ending → unlabelled.lines ≡ erased_lines labelled.lines → Erases labelled unlabelled
  stops : (rule : Rule) (need have : Label) (rest : List Line) → labelled.ending ≡ halted (stopped rule need have) → within need have ≡ false
      → unlabelled.lines ≡ erased_lines labelled.lines ++ rest → Erases labelled unlabelled

-- erasure, with each set of built-ins
abbrev pub IsErasing : Type 0
IsErasing = (set : BuiltIns) (tables : Tables) (inputs : Given) (program : Statements) (turns : ℕ) → Erases (tracked_run set tables inputs program turns) (plain_run set tables inputs program turns)
