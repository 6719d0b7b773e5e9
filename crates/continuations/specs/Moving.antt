-- What it means that a call on the run's state comes to what pending work says.
use Rattle.std.specs.Prelude.{◌≡◌, ◌≤◌, ℕ, List, [], ◌∷◌, ◌++◌, length, map, Result, Ok, Err}
use Rattle.std.specs.List.{All}
use Rattle.origin_labels.specs.Label.{Label}
use Rattle.flow_policy.specs.Policies.{Tables}
use Rattle.flow_policy.specs.Inputs.{Given}
use Rattle.js_ast.specs.Functions.{FunctionCode}
use Rattle.es_meaning.specs.BuiltIns.{BuiltIns}
use Rattle.flow_frames.specs.declared.faults.FlowFault.{FlowFault}
use Rattle.flow_frames.specs.declared.faults.FlowFault.TheVariants as fault
use Rattle.js_values.specs.declared.value.Labelled.{Labelled}
use Rattle.js_values.specs.Readings.{IsReading, HasValue, read_value}
use Rattle.continuations.specs.Settings.{Setting}
use Rattle.es_meaning.specs.Outcomes.{Outcome, Goes, Jumps, Ends}
use Rattle.es_meaning.specs.Operations.{Value}
use Rattle.flow_meaning.specs.Scopes.{Val, State, Halt, Jump, stopped, LabelledLine}
use Rattle.flow_meaning.specs.Planned.{gave, jumped, Plan, Give, End, as_plan}
use Rattle.run_state.specs.declared.outcome.Outcome as acts
use Rattle.run_state.specs.declared.world.World.{World}
use Rattle.run_state.specs.Acts.{Says}
use Rattle.run_state.specs.Worlds.{state_of}
use Rattle.continuations.specs.declared.continuation.Continuation.{Continuation}
use Rattle.continuations.specs.declared.continuation.Control.{Control}
use Rattle.continuations.specs.declared.continuation.Control.TheVariants as control
use Rattle.continuations.specs.Kept.{Kept, scopes_of, waiting, kept_operands, operands_of}
use Rattle.continuations.specs.Pending.{setting_above, after, behind, values_of}
use Rattle.continuations.specs.Resuming.{coming}

-- a plan behind an outcome: a jump passes what would follow
abbrev pub following : {X : Type 0} → Outcome Halt Jump X State → (X → State → Plan) → Plan
following (Goes x s) next = next x s
following (Jumps j s) next = Give (jumped j) s
following (Ends halt s) next = End halt s

-- a plan, by a reading of labels
abbrev pub Planning : Type 0 → Type 0
Planning T = Tables → Given → BuiltIns → List FunctionCode → (T → Label) → Setting → State → Plan

module _ {T : Type 0} where
  -- what is done next, and behind it the pending work, is a plan, or the run is stopped as it is by the plan. Want of memory says nothing
  abbrev pub Moves : Tables → Given → BuiltIns → List FunctionCode → (T → Label) → Kept T → Setting → State → Plan → Result Control (FlowFault T) → Type 0
  Moves tables inputs set functions reading stack e s plan (Ok next) = coming tables inputs set functions reading stack next e s ≡ plan
  Moves tables inputs set functions reading stack e s plan (Err (fault.Stop stop)) = End (stopped stop.rule (reading stop.need) (reading stop.have)) s ≡ plan
  Moves tables inputs set functions reading stack e s plan (Err fault.OutOfMemory) = Unit {0}

  -- an act's answer is handed on to the pending work
  abbrev pub Settles : Kept T → Kept T → Result (acts.Outcome (Labelled T) T) (FlowFault T) → Result Control (FlowFault T) → Type 0
  Settles old new answer result = (tables : Tables) (inputs : Given) (set : BuiltIns) (functions : List FunctionCode) (reading : T → Label) (e : Setting) (s : State) (outcome : Outcome Halt Jump Val State) → Says (read_value reading) reading outcome s answer
      → Moves tables inputs set functions reading new e s (behind tables inputs set functions reading old.tasks e (as_plan Value outcome)) result

  -- a call comes to what work says of the value that it waited for, with the operands that it keeps, which lie below, in each reading that agrees with the store
  abbrev pub Resumes : {S : Type 0} → (S → T → Type 0) → (S → T → Label) → S → Continuation → Kept T → Kept T → World T → World T → Result Control (FlowFault T) → Type 0
  Resumes made meaning store w old new world_old world_new result = (tables : Tables) (inputs : Given) (set : BuiltIns) (functions : List FunctionCode) (reading : T → Label) (e : Setting) (told : List LabelledLine) (turns : ℕ) (kept : List (Labelled T)) (value : Labelled T) → IsReading made meaning store reading → old.loose ≡ kept ++ value ∷ []
      → Moves tables inputs set functions reading new e (state_of reading world_new told turns) (behind tables inputs set functions reading old.tasks e (after tables inputs set functions w (map (read_value reading) kept) (setting_above old.tasks e) (gave (read_value reading value)) (state_of reading world_old told turns))) result

  -- the same in this record
  abbrev pub ResumesAt : {S : Type 0} → (S → T → Type 0) → (S → T → Label) → S → ℕ → Continuation → Kept T → Kept T → World T → World T → Result Control (FlowFault T) → Type 0
  ResumesAt made meaning store place w old new world_old world_new result = (tables : Tables) (inputs : Given) (set : BuiltIns) (functions : List FunctionCode) (reading : T → Label) (e : Setting) (told : List LabelledLine) (turns : ℕ) (kept : List (Labelled T)) (value : Labelled T) → IsReading made meaning store reading → (setting_above old.tasks e).env.place ≡ place → old.loose ≡ kept ++ value ∷ []
      → Moves tables inputs set functions reading new e (state_of reading world_new told turns) (behind tables inputs set functions reading old.tasks e (after tables inputs set functions w (map (read_value reading) kept) (setting_above old.tasks e) (gave (read_value reading value)) (state_of reading world_old told turns))) result

  -- a call comes to what a plan says, in each reading that agrees with the store
  abbrev pub BeginsWith : {S : Type 0} → (S → T → Type 0) → (S → T → Label) → S → Planning T → Kept T → Kept T → World T → World T → Result Control (FlowFault T) → Type 0
  BeginsWith made meaning store plan old new world_old world_new result = (tables : Tables) (inputs : Given) (set : BuiltIns) (functions : List FunctionCode) (reading : T → Label) (e : Setting) (told : List LabelledLine) (turns : ℕ) → IsReading made meaning store reading
      → Moves tables inputs set functions reading new e (state_of reading world_new told turns) (behind tables inputs set functions reading old.tasks e (plan tables inputs set functions reading (setting_above old.tasks e) (state_of reading world_old told turns))) result

  -- the same in this record
  abbrev pub BeginsAt : {S : Type 0} → (S → T → Type 0) → (S → T → Label) → S → ℕ → Planning T → Kept T → Kept T → World T → World T → Result Control (FlowFault T) → Type 0
  BeginsAt made meaning store place plan old new world_old world_new result = (tables : Tables) (inputs : Given) (set : BuiltIns) (functions : List FunctionCode) (reading : T → Label) (e : Setting) (told : List LabelledLine) (turns : ℕ) → IsReading made meaning store reading → (setting_above old.tasks e).env.place ≡ place
      → Moves tables inputs set functions reading new e (state_of reading world_new told turns) (behind tables inputs set functions reading old.tasks e (plan tables inputs set functions reading (setting_above old.tasks e) (state_of reading world_old told turns))) result

  -- a call without the run's state comes to what a plan says, in each reading that agrees with the store
  abbrev pub BeginsAnywhere : {S : Type 0} → (S → T → Type 0) → (S → T → Label) → S → (Tables → Given → BuiltIns → List FunctionCode → Setting → State → Plan) → Kept T → Kept T → Control → Type 0
  BeginsAnywhere made meaning store plan old new next = (tables : Tables) (inputs : Given) (set : BuiltIns) (functions : List FunctionCode) (reading : T → Label) (e : Setting) (s : State) → IsReading made meaning store reading
      → coming tables inputs set functions reading new next e s ≡ behind tables inputs set functions reading old.tasks e (plan tables inputs set functions (setting_above old.tasks e) s)

  -- the frames stay, but a jump may leave some
  abbrev pub Stands : World T → World T → Control → Type 0
  Stands old new (control.Jumps j) = length new.frames.frames ≤ length old.frames.frames
  Stands old new _ = length new.frames.frames ≡ length old.frames.frames

  -- what a call leaves: the values that its next move has, the scopes that were pending, and operands with labels of a store, if those that were kept have such
  pub record Rests (made : T → Type 0) (old new : Kept T) (next : Control) : Type 0 where
    pub values : length new.loose ≡ values_of next
    pub scopes : scopes_of new.tasks ≡ scopes_of old.tasks
    pub natives : waiting new.tasks ≡ waiting old.tasks
    pub operands : All (HasValue made) (kept_operands old.tasks) → All (HasValue made) (operands_of new)
