-- What the calls say and leave that go on with each kind of work.
use Rattle.std.specs.Prelude.{◌≡◌, Bool, true, false, List, [], map, take, drop, length, Result}
use Rattle.std.specs.List.{All}
use Rattle.origin_labels.specs.Label.{Label}
use Rattle.flow_policy.specs.Policies.{Tables}
use Rattle.flow_policy.specs.Inputs.{Given}
use Rattle.js_ast.specs.Functions.{FunctionCode}
use Rattle.flow_frames.specs.declared.faults.FlowFault.{FlowFault}
use Rattle.flow_frames.specs.Held.{Held}
use Rattle.js_values.specs.declared.value.Labelled.{Labelled}
use Rattle.js_values.specs.Readings.{HasValue, read_value}
use Rattle.es_meaning.specs.BuiltIns.{BuiltIns}
use Rattle.flow_meaning.specs.Scopes.{State}
use Rattle.flow_meaning.specs.Planned.{gave, Plan}
use Rattle.run_state.specs.declared.world.World.{World}
use Rattle.continuations.specs.declared.continuation.Continuation.{Continuation}
use Rattle.continuations.specs.declared.continuation.Continuation.TheVariants as continuation
use Rattle.continuations.specs.declared.continuation.Control.{Control}
use Rattle.continuations.specs.Kept.{Kept, without_top}
use Rattle.continuations.specs.Pending.{owns, env_above, after, first_or_undefined}
use Rattle.continuations.specs.Going.{here}
use Rattle.continuations.specs.Resuming.{Resumes, ResumesBeside, ResumesDone, ResumesBehind, ResumesDoneBehind, ResumesIn, ResumesDoneIn, Keeps, Opened, Closed}
use Rattle.continuations.specs.Settings.{Setting}
use Rattle.step_references.specs.Moving.{Resumed, ResumedAt}

-- the work that acts on the run's state
abbrev pub acts : Continuation → Bool
acts (continuation.Unary o) = true
acts (continuation.BinaryDone o) = true
acts (continuation.AssignTo n) = true
acts (continuation.CompoundDone o n) = true
acts (continuation.Variable n ds) = true
acts (continuation.MemberBase how text) = true
acts (continuation.IndexKey how) = true
acts continuation.InstanceDone = true
acts (continuation.ConvertedLeft o) = true
acts (continuation.Operate o) = true
acts (continuation.UnaryConverted o) = true
acts continuation.KeyHas = true
acts (continuation.KeyOf how) = true
acts (continuation.Counted how o n) = true
acts (continuation.CountedNumber how o n) = true
acts continuation.InstanceTest = true
acts (continuation.LengthOnce how) = true
acts (continuation.LengthTwice how) = true
acts (continuation.VariablesBehind ds) = true
acts _ = false

-- that of an operator
abbrev pub operates : Continuation → Bool
operates (continuation.Unary o) = true
operates (continuation.BinaryDone o) = true
operates (continuation.CompoundDone o n) = true
operates continuation.InstanceDone = true
operates (continuation.ConvertedLeft o) = true
operates (continuation.Operate o) = true
operates (continuation.UnaryConverted o) = true
operates continuation.KeyHas = true
operates (continuation.Counted how o n) = true
operates (continuation.CountedNumber how o n) = true
operates continuation.InstanceTest = true
operates (continuation.LengthOnce how) = true
operates (continuation.LengthTwice how) = true
operates _ = false

-- the work that enters, raises or leaves a frame
abbrev pub scoped : Continuation → Bool
scoped (continuation.AndRight r) = true
scoped (continuation.OrRight r) = true
scoped (continuation.Choose a b) = true
scoped (continuation.ChooseStmt s) = true
scoped (continuation.ChooseStmts s t) = true
scoped (continuation.Tested r) = true
scoped (continuation.Enumerated x) = true
scoped (continuation.EndBranch gives depth) = true
scoped (continuation.EndRound turn depth of) = true
scoped (continuation.EndLabel depth text) = true
scoped (continuation.EndTry depth) = true
scoped _ = false

-- the work of jumps, calls, `switch` and `try`
abbrev pub leads : Continuation → Bool
leads continuation.Throw = true
leads continuation.Return = true
leads (continuation.Callee es) = true
leads (continuation.Constructor es) = true
leads (continuation.Switched of cs) = true
leads (continuation.Compared cs i) = true
leads (continuation.Falls cs i) = true
leads (continuation.EndCall own depth) = true
leads (continuation.EndNew own depth) = true
leads (continuation.EndBlock s depth) = true
leads (continuation.EndHandler s own depth) = true
leads (continuation.EndLast waiting) = true
leads _ = false

-- a directive, which asks the policy
abbrev pub raises : Continuation → Bool
raises (continuation.Raise e) = true
raises _ = false

-- work of a built-in, which is told what came of its request
abbrev pub answers : Continuation → Bool
answers (continuation.Answered count to) = true
answers _ = false

module _ {T : Type 0} where
  -- what work does with what lies loose: its operands undermost, and above them a value, or none at the end of a part
  abbrev pub continued : Tables → Given → BuiltIns → List FunctionCode → (T → Label) → Continuation → List (Labelled T) → Setting → State → Plan
  continued tables inputs set functions reading w loose e s = after tables inputs set functions w (map (read_value reading) (take (owns w) loose)) e (gave (first_or_undefined (map (read_value reading) (drop (owns w) loose)))) s

  -- ---- work that needs the stack alone

  abbrev pub GoesAlone : Continuation → Kept T → Kept T → Control → Type 0
  GoesAlone (continuation.Argument f count rest) = ResumesBehind (continuation.Argument f count rest)
  GoesAlone (continuation.Property ps count) = ResumesBehind (continuation.Property ps count)
  GoesAlone (continuation.Item is place count) = ResumesBehind (continuation.Item is place count)
  GoesAlone (continuation.IndexBase how x) = ResumesBehind (continuation.IndexBase how x)
  GoesAlone (continuation.CompoundRight o x t) = ResumesBehind (continuation.CompoundRight o x t)
  GoesAlone (continuation.CalledBy es) = ResumesBeside (continuation.CalledBy es)
  GoesAlone continuation.GiveBehind = ResumesBeside continuation.GiveBehind
  GoesAlone (continuation.Visited x count) = ResumesDoneBehind (continuation.Visited x count)
  GoesAlone (continuation.Statements ss) = ResumesDone (continuation.Statements ss)
  GoesAlone (continuation.Declared r) = ResumesDone (continuation.Declared r)
  GoesAlone (continuation.Turned r) = ResumesDone (continuation.Turned r)
  GoesAlone w = Resumes w

  -- the stack without a value of which the work makes no use
  abbrev pub used_of : Continuation → Kept T → Kept T
  used_of (continuation.BinaryRight o r) stack = stack
  used_of (continuation.Argument f count rest) stack = stack
  used_of (continuation.Property ps count) stack = stack
  used_of (continuation.Item is place count) stack = stack
  used_of (continuation.IndexBase how x) stack = stack
  used_of (continuation.CompoundRight o x t) stack = stack
  used_of (continuation.CalledBy es) stack = stack
  used_of (continuation.InstanceRight r) stack = stack
  used_of (continuation.Visited x count) stack = stack
  used_of (continuation.Statements ss) stack = stack
  used_of (continuation.Declared r) stack = stack
  used_of (continuation.Turned r) stack = stack
  used_of _ stack = without_top stack

  -- ---- work in frames

  abbrev pub GoesIn : {S : Type 0} → (S → T → Type 0) → (S → T → Label) → S → Continuation → Kept T → Kept T → List (Held T) → List (Held T) → Control → Type 0
  GoesIn made meaning store (continuation.EndBranch false depth) = ResumesDoneIn made meaning store (continuation.EndBranch false depth)
  GoesIn made meaning store (continuation.EndRound turn depth of) = ResumesDoneIn made meaning store (continuation.EndRound turn depth of)
  GoesIn made meaning store (continuation.EndLabel depth text) = ResumesDoneIn made meaning store (continuation.EndLabel depth text)
  GoesIn made meaning store (continuation.EndTry depth) = ResumesDoneIn made meaning store (continuation.EndTry depth)
  GoesIn made meaning store w = ResumesIn made meaning store w

  -- a frame is opened or closed, or the last one is raised
  abbrev pub LeavesIn : Continuation → Kept T → Kept T → List (Held T) → List (Held T) → Control → Type 0
  LeavesIn (continuation.Tested r) old new frames_old frames_new = Keeps (without_top old) new
  LeavesIn (continuation.EndBranch gives depth) old new frames_old frames_new = Closed old new frames_old frames_new
  LeavesIn (continuation.EndRound turn depth of) old new frames_old frames_new = Closed old new frames_old frames_new
  LeavesIn (continuation.EndLabel depth text) old new frames_old frames_new = Closed old new frames_old frames_new
  LeavesIn (continuation.EndTry depth) old new frames_old frames_new = Closed old new frames_old frames_new
  LeavesIn _ old new frames_old frames_new = Opened old new frames_old frames_new

  abbrev pub StillIn : Continuation → List (Held T) → List (Held T) → Type 0
  StillIn (continuation.Tested r) frames_old frames_new = length frames_new ≡ length frames_old
  StillIn _ frames_old frames_new = Unit {0}

  -- at the end of a frame what is given on has labels of a store
  abbrev pub MadeIn : (T → Type 0) → Continuation → List (Labelled T) → Type 0
  MadeIn made (continuation.EndBranch true depth) loose = All (HasValue made) loose
  MadeIn made (continuation.EndBranch false depth) loose = loose ≡ []
  MadeIn made (continuation.EndRound turn depth of) loose = loose ≡ []
  MadeIn made (continuation.EndLabel depth text) loose = loose ≡ []
  MadeIn made (continuation.EndTry depth) loose = loose ≡ []
  MadeIn made _ loose = Unit {0}

  -- ---- work that acts on the run's state, at this place

  abbrev pub GoesActing : {S : Type 0} → (S → T → Type 0) → (S → T → Label) → S → Continuation → Kept T → Kept T → World T → World T → Result Control (FlowFault T) → Type 0
  GoesActing made meaning store (continuation.Variable n ds) old new = ResumedAt made meaning store (env_above old.tasks here).place (continuation.Variable n ds) old new
  GoesActing made meaning store (continuation.VariablesBehind ds) old new = ResumedAt made meaning store (env_above old.tasks here).place (continuation.VariablesBehind ds) old new
  GoesActing made meaning store w old new = Resumed made meaning store w old new
