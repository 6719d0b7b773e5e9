-- What it means that what follows an act is done, or what it came to is handed on, and what a call leaves.
use Rattle.std.specs.Prelude.{◌≡◌, ℕ, List, [], ◌∷◌, Option, Some, None, Result, Ok, Err}
use Rattle.origin_labels.specs.Label.{Label}
use Rattle.flow_policy.specs.Policies.{Tables}
use Rattle.flow_policy.specs.Inputs.{Given}
use Rattle.js_ast.specs.Functions.{FunctionCode}
use Rattle.flow_frames.specs.declared.faults.FlowFault.{FlowFault}
use Rattle.flow_frames.specs.declared.faults.FlowFault.TheVariants as fault
use Rattle.js_values.specs.declared.value.Labelled.{Labelled}
use Rattle.js_values.specs.Readings.{read_value}
use Rattle.es_meaning.specs.BuiltIns.{BuiltIns}
use Rattle.es_meaning.specs.Evaluation.{give}
use Rattle.es_meaning.specs.Operations.{One}
use Rattle.es_meaning.specs.Outcomes.{left, Outcome}
use Rattle.flow_meaning.specs.Planned.{gave, Plan, Give, End, and_plan, enter_access, enter_putting, planned, with_result}
use Rattle.flow_meaning.specs.Scopes.{as_plain, Halt, State, Jump, Val}
use Rattle.flow_meaning.specs.Tracked.{Access, Putting}
use Rattle.run_state.specs.declared.outcome.Outcome as acts
use Rattle.run_state.specs.declared.outcome.Outcome.TheVariants as outcomes
use Rattle.run_state.specs.declared.outcome.Leaving.{Leaving}
use Rattle.run_state.specs.declared.world.World.{World}
use Rattle.run_state.specs.Acts.{Says}
use Rattle.run_state.specs.Names.{leaving_name}
use Rattle.continuations.specs.declared.continuation.Jump.TheVariants as jump
use Rattle.continuations.specs.declared.continuation.Control.{Control}
use Rattle.continuations.specs.declared.continuation.Control.TheVariants as control
use Rattle.continuations.specs.Kept.{Kept}
use Rattle.continuations.specs.Loads.{Adds}
use Rattle.continuations.specs.declared.continuation.Continuation.{Continuation}
use Rattle.continuations.specs.Moving.{BeginsAt, BeginsWith, Moves, Planning, Rests, Resumes, ResumesAt, Stands, following}
use Rattle.continuations.specs.Pending.{behind}
use Rattle.continuations.specs.Resuming.{Begins, coming}
use Rattle.continuations.specs.Settings.{Setting, entrance}
use Rattle.step_references.specs.declared.handing_on.Went.{Went}
use Rattle.step_references.specs.declared.handing_on.Went.TheVariants as went

-- what is done with what an act came to, in a reading
abbrev pub Doing : Type 0 → Type 0 → Type 0
Doing T Y = Tables → Given → BuiltIns → List FunctionCode → (T → Label) → Y → State → Plan

abbrev pub DoingAt : Type 0 → Type 0 → Type 0
DoingAt T Y = Tables → Given → BuiltIns → List FunctionCode → (T → Label) → Setting → Y → State → Plan

module _ {T : Type 0} where
  abbrev pub cleared : Kept T → Kept T
  cleared stack = record { tasks = stack.tasks; loose = [] }

  -- the run leaves the language, and where it has a name for that, this alone lies there
  pub record Left (made : T → Type 0) (why : Leaving) (old new : Kept T) (move : Control) : Type 0 where
    pub goes_on : Begins (λ tables inputs set functions e s. End (as_plain (left (leaving_name why))) s) (cleared old) new move
    pub rests : Rests made (cleared old) new move
    pub adds : Adds 0 (cleared old) new move

  -- an act went on with what it gave, and the stack is as it was; or it threw, and what it threw lies there alone; or it left
  abbrev pub Parts : {X : Type 0} → (T → Type 0) → Kept T → Kept T → Result (acts.Outcome X T) (FlowFault T) → Result (Went X) (FlowFault T) → Type 0
  Parts made old new (Ok (outcomes.Goes x)) (Ok (went.On y)) = (x ≡ y) × (new ≡ old)
  Parts made old new (Ok (outcomes.Throws v)) (Ok (went.Off move)) = (move ≡ control.Jumps jump.Throws) × (new ≡ record { tasks = old.tasks; loose = v ∷ [] })
  Parts made old new (Ok (outcomes.Leaves why)) (Ok (went.Off move)) = Left made why old new move
  Parts made old new (Ok answer) (Ok other) = ⊥
  Parts made old new (Ok answer) (Err f) = f ≡ fault.OutOfMemory
  Parts made old new (Err f) (Ok other) = ⊥
  Parts made old new (Err f) (Err g) = g ≡ f

  -- an act's answer is handed on, behind what is done with it
  pub record Handed {X Y : Type 0} (read : (T → Label) → X → Y) (k : Doing T Y) (old new : Kept T) (answer : Result (acts.Outcome X T) (FlowFault T)) (result : Result Control (FlowFault T)) : Type 0 where
    pub hands : (tables : Tables) (inputs : Given) (set : BuiltIns) (functions : List FunctionCode) (reading : T → Label) (e : Setting) (s : State) (outcome : Outcome Halt Jump Y State) → Says (read reading) reading outcome s answer
        → Moves tables inputs set functions reading new e s (behind tables inputs set functions reading old.tasks e (following outcome (k tables inputs set functions reading))) result

  -- a call without the run's state comes to a plan, in each reading
  abbrev pub Comes : (Tables → Given → BuiltIns → List FunctionCode → (T → Label) → State → Plan) → Kept T → Kept T → Control → Type 0
  Comes plan old new move = (tables : Tables) (inputs : Given) (set : BuiltIns) (functions : List FunctionCode) (reading : T → Label) (e : Setting) (s : State)
      → coming tables inputs set functions reading new move e s ≡ behind tables inputs set functions reading old.tasks e (plan tables inputs set functions reading s)

  -- what a call leaves: values and pending work, no more than so much to do, and the frames
  pub record Moved (made : T → Type 0) (most : ℕ) (old new : Kept T) (world_old world_new : World T) (move : Control) : Type 0 where
    pub rests : Rests made old new move
    pub adds : Adds most old new move
    pub stands : Stands world_old world_new move

  -- the value that a setter is given: what the assignment gives, or another
  abbrev pub given_or : Option (Labelled T) → Labelled T → Labelled T
  given_or None gives = gives
  given_or (Some v) gives = v

  abbrev pub IfGiven : (T → Type 0) → Option (Labelled T) → Type 0
  IfGiven made None = Unit {0}
  IfGiven made (Some v) = made v.label

  -- a value is given
  abbrev pub giving : Doing T Val
  giving tables inputs set functions reading v s = Give (gave v) s

  -- a read that comes to a getter calls it
  abbrev pub entering_access : Doing T Access
  entering_access tables inputs set functions reading = enter_access functions (entrance tables inputs set functions)

  -- a put that comes to a setter calls it, and then the assignment gives its value
  abbrev pub entering_putting : Option (Labelled T) → Labelled T → Doing T Putting
  entering_putting value gives tables inputs set functions reading p s =
      and_plan (enter_putting functions (entrance tables inputs set functions) (read_value reading (given_or value gives)) p s) (with_result One (give (planned tables inputs set functions) (read_value reading gives)))

module _ {S T : Type 0} (made : S → T → Type 0) (meaning : S → T → Label) (store : S) where
  -- a call comes to what a plan says
  pub record Begun (plan : Planning T) (old new : Kept T) (world_old world_new : World T) (result : Result Control (FlowFault T)) : Type 0 where
    pub begins : BeginsWith made meaning store plan old new world_old world_new result

  -- in this record
  pub record BegunAt (place : ℕ) (plan : Planning T) (old new : Kept T) (world_old world_new : World T) (result : Result Control (FlowFault T)) : Type 0 where
    pub begins : BeginsAt made meaning store place plan old new world_old world_new result

  -- or to what work says of the value that it waited for
  pub record Resumed (w : Continuation) (old new : Kept T) (world_old world_new : World T) (result : Result Control (FlowFault T)) : Type 0 where
    pub resumes : Resumes made meaning store w old new world_old world_new result

  pub record ResumedAt (place : ℕ) (w : Continuation) (old new : Kept T) (world_old world_new : World T) (result : Result Control (FlowFault T)) : Type 0 where
    pub resumes : ResumesAt made meaning store place w old new world_old world_new result
