-- How the code's endings tell those of the meaning, and what a run puts.
use Rattle.std.specs.Prelude.{◌≡◌, ℕ, ◌++◌, Bool, true, false, List, Option, Some, None, IfSome, IsSomeAnd}
use Rattle.origin_labels.specs.Label.{Label, within}
use Rattle.flow_io.specs.Sinks.{IsFrontOf, Appends, AppendsFront}
use Rattle.flow_policy.specs.Policies.{Tables}
use Rattle.flow_policy.specs.Inputs.{Given}
use Rattle.flow_policy.specs.Observed as policy
use Rattle.js_ast.specs.Trees.{Statements}
use Rattle.es_meaning.specs.BuiltIns.{BuiltIns}
use Rattle.es_meaning.specs.Outcomes.{Ending, done, threw, halted, left, out_of_turns}
use Rattle.flow_meaning.specs.Scopes.{Halt, as_plain, stopped}
use Rattle.flow_meaning.specs.Tracked.{Run, tracked_run}
use Rattle.low_equal.specs.Declared.{IsDeclared}
use Rattle.low_equal.specs.Laws.{IsFinishedBy, OneIsFront}
use Rattle.low_equal.specs.Observed.{seen_lines, labelled_lines}
use Rattle.run_state.specs.Names.{leaving_name}
use Rattle.step_run.specs.declared.ending.Show.{Show}
use Rattle.step_run.specs.declared.ending.Ending as code
use Rattle.step_run.specs.declared.ending.Ending.TheVariants as ending
use Rattle.step_run.specs.Lines.{shown_bytes}

-- what the ending tells of the meaning's, but for those of a fault and of want of memory
abbrev pub told_by : code.Ending → Option (Ending Halt)
told_by ending.Done = Some done
told_by (ending.Threw shown) = Some (threw shown)
told_by (ending.Stopped rule need have) = Some (halted (stopped rule need have))
told_by (ending.Left why) = Some (halted (as_plain (left (leaving_name why))))
told_by ending.OutOfTurns = Some (halted (as_plain out_of_turns))
told_by ending.WriteFault = None
told_by ending.OutOfMemory = None

abbrev pub is_write_fault : code.Ending → Bool
is_write_fault ending.WriteFault = true
is_write_fault _ = false

-- The shown lines of a run are appended, and this is how it ends; or, where a fault or want of memory ended it early, a front of their bytes is.
abbrev pub Ran : Tables → Show → Run → Option (List ℕ) → Option (List ℕ) → code.Ending → Type 0
Ran tables show run old new ending.WriteFault = AppendsFront old new (shown_bytes show tables run.lines)
Ran tables show run old new ending.OutOfMemory = AppendsFront old new (shown_bytes show tables run.lines)
Ran tables show run old new result = (told_by result ≡ Some run.ending) × Appends old new (shown_bytes show tables run.lines)

-- a finished run
abbrev pub IsFinished : code.Ending → Type 0
IsFinished ending.Done = Unit {0}
IsFinished (ending.Threw shown) = Unit {0}
IsFinished _ = ⊥

-- isolation: with every input that agrees with this one for an observer, and any number of turns, if that run finishes too, it writes the same lines on the channels that the observer sees
abbrev pub Isolates : BuiltIns → Tables → Given → Statements → ℕ → code.Ending → Type 0
Isolates set tables inputs program turns result = IsFinished result → (observer : Label) (other : Given) (others : ℕ) → policy.Agree observer tables inputs other → IsFinishedBy (tracked_run set tables other program others).ending
    → seen_lines observer tables (tracked_run set tables inputs program turns).lines ≡ seen_lines observer tables (tracked_run set tables other program others).lines

-- the same by the labels of lines: under the same conditions the runs have the same lines whose recorded label the observer sees, whatever the labels of their channels are
abbrev pub IsolatesLabels : BuiltIns → Tables → Given → Statements → ℕ → code.Ending → Type 0
IsolatesLabels set tables inputs program turns result = IsFinished result → (observer : Label) (other : Given) (others : ℕ) → policy.Agree observer tables inputs other → IsFinishedBy (tracked_run set tables other program others).ending
    → labelled_lines observer (tracked_run set tables inputs program turns).lines ≡ labelled_lines observer (tracked_run set tables other program others).lines

-- a fact of the bytes that came behind those taken before, where the bytes taken are told afterwards
abbrev pub Put : Option (List ℕ) → Option (List ℕ) → (List ℕ → Type 0) → Type 0
Put old new Says = IfSome new (λ after. IsSomeAnd old (λ before. (out : List ℕ) × (after ≡ before ++ out) × Says out))

-- isolation of what the call put: under the same conditions the observer's view of these bytes is that of the bytes that the other run's shown lines are
abbrev pub IsolatesView : BuiltIns → Tables → Show → Given → Statements → Option (List ℕ) → Option (List ℕ) → code.Ending → Type 0
IsolatesView set tables show inputs program old new result = IsFinished result → (observer : Label) (other : Given) (others : ℕ) → policy.Agree observer tables inputs other → IsFinishedBy (tracked_run set tables other program others).ending
    → Put old new (λ out. policy.view_of observer tables out ≡ policy.view_of observer tables (shown_bytes show tables (tracked_run set tables other program others).lines))

-- However the call ended, and wherever the other run is cut off: for every input that agrees with this one for an observer, any number of turns, and any front of the bytes
-- that the other run's shown lines are, also one that ends within a line, what the observer sees of one is how what it sees of the other begins.
abbrev pub HasFronts : BuiltIns → Tables → Show → Given → Statements → Option (List ℕ) → Option (List ℕ) → Type 0
HasFronts set tables show inputs program old new = (observer : Label) (other : Given) (others : ℕ) (front : List ℕ) → policy.Agree observer tables inputs other
    → IsFrontOf front (shown_bytes show tables (tracked_run set tables other program others).lines)
    → Put old new (λ out. OneIsFront (policy.view_of observer tables out) (policy.view_of observer tables front))

-- what a stop needs and what it has are declared origins, and the first isn't within the second
abbrev pub HasDeclared : ℕ → code.Ending → Type 0
HasDeclared count (ending.Stopped rule need have) = IsDeclared count need × IsDeclared count have
HasDeclared count _ = Unit {0}

abbrev pub IsBroken : code.Ending → Type 0
IsBroken (ending.Stopped rule need have) = within need have ≡ false
IsBroken _ = Unit {0}
