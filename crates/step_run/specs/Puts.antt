-- What the parts of a run put, and how they tell its ending.
use Rattle.std.specs.Prelude.{◌≡◌, ℕ, Bool, true, false, List, [], ◌∷◌, Option, Some, Result, Ok, Err}
use Rattle.origin_labels.specs.Label.{Label}
use Rattle.flow_io.specs.Sinks.{Appends, AppendsFront}
use Rattle.flow_frames.specs.declared.faults.FlowStop.{FlowStop}
use Rattle.flow_policy.specs.Policies.{Tables}
use Rattle.es_meaning.specs.Outcomes as es
use Rattle.flow_meaning.specs.Scopes.{Halt, LabelledLine}
use Rattle.flow_meaning.specs.Tracked.{Run}
use Rattle.low_equal.specs.Declared.{IsDeclared}
use Rattle.step_core.specs.declared.steps.Ending as core
use Rattle.step_run.specs.declared.ending.Show.{Show}
use Rattle.step_run.specs.declared.ending.Ending as code
use Rattle.step_run.specs.declared.ending.Ending.TheVariants as ending
use Rattle.step_run.specs.declared.putting.Cut.{Cut}
use Rattle.step_run.specs.declared.putting.Cut.TheVariants as cut
use Rattle.step_run.specs.Lines.{shown_bytes}
use Rattle.step_run.specs.Ran.{told_by}

abbrev pub is_cut_by_write : {X : Type 0} → Result X Cut → Bool
is_cut_by_write (Err cut.WriteFault) = true
is_cut_by_write _ = false

-- the line is appended if it is shown, or a front of it
abbrev pub PutsLine : Show → Tables → LabelledLine → Option (List ℕ) → Option (List ℕ) → Result (Unit {0}) Cut → Type 0
PutsLine show tables line old new (Ok _) = Appends old new (shown_bytes show tables (line ∷ []))
PutsLine show tables line old new (Err _) = AppendsFront old new (shown_bytes show tables (line ∷ []))

-- the shown lines of a run are appended, and so it ends; or a front of their bytes
abbrev pub PutsRun : {T : Type 0} → Show → Tables → Run → (core.Ending T → es.Ending Halt) → Option (List ℕ) → Option (List ℕ) → Result (core.Ending T) Cut → Type 0
PutsRun show tables run ends old new (Ok e) = (run.ending ≡ ends e) × Appends old new (shown_bytes show tables run.lines)
PutsRun show tables run ends old new (Err _) = AppendsFront old new (shown_bytes show tables run.lines)

-- the origins of what a stop needs and of what it has are declared
abbrev pub NeedsDeclared : {T : Type 0} → (T → Label) → ℕ → FlowStop T → Type 0
NeedsDeclared reading count stop = IsDeclared count (reading stop.need) × IsDeclared count (reading stop.have)

-- the ending is told, or memory was wanted
abbrev pub Tells : es.Ending Halt → code.Ending → Type 0
Tells wanted ending.OutOfMemory = Unit {0}
Tells wanted result = told_by result ≡ Some wanted
