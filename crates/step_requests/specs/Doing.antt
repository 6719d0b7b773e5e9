-- What it means that what a built-in asked for is done, and what a call leaves.
use Rattle.std.specs.Prelude.{◌≡◌, ◌+◌, ◌<◌, ℕ, List, [], ◌∷◌, ◌++◌, length, map, Option, None, Result, Ok, Err}
use Rattle.std.specs.List.{All}
use Rattle.std.specs.Option.{is_some}
use Rattle.origin_labels.specs.Label.{Label}
use Rattle.flow_policy.specs.Policies.{Tables}
use Rattle.flow_policy.specs.Inputs.{Given}
use Rattle.flow_frames.specs.declared.faults.FlowFault.{FlowFault}
use Rattle.flow_frames.specs.declared.faults.FlowFault.TheVariants as fault
use Rattle.js_ast.specs.Functions.{FunctionCode}
use Rattle.js_values.specs.declared.value.Labelled.{Labelled}
use Rattle.js_values.specs.Readings.{IsReading, HasValue, read_value}
use Rattle.native_protocol.specs.declared.registers.Reg.{Reg}
use Rattle.native_protocol.specs.declared.request.Answer.TheVariants as answer
use Rattle.native_protocol.specs.Steps.{Steps}
use Rattle.es_meaning.specs.BuiltIns.{BuiltIns, steps_behind}
use Rattle.es_meaning.specs.Outcomes.{left, Outcome}
use Rattle.flow_meaning.specs.Planned.{Plan, End}
use Rattle.flow_meaning.specs.Scopes.{Halt, Jump, LabelledLine, State, Val, as_plain, stopped}
use Rattle.channel_requests.specs.Answers.{HasPrinted, line_of, lines_behind, read_printed}
use Rattle.property_requests.specs.Defining.{HasGiven, given_in}
use Rattle.property_requests.specs.declared.owning.OwnProperty.{OwnProperty}
use Rattle.channel_requests.specs.declared.printing.Printed.{Printed}
use Rattle.run_state.specs.declared.outcome.Outcome as acts
use Rattle.run_state.specs.declared.outcome.Outcome.TheVariants as outcomes
use Rattle.run_state.specs.declared.outcome.Leaving.{Leaving}
use Rattle.run_state.specs.Names.{leaving_name}
use Rattle.run_state.specs.declared.world.World.{World}
use Rattle.run_state.specs.Acts.{Says}
use Rattle.run_state.specs.Worlds.{state_of}
use Rattle.continuations.specs.declared.continuation.Jump.TheVariants as jump
use Rattle.continuations.specs.declared.continuation.Control.{Control}
use Rattle.continuations.specs.declared.continuation.Control.TheVariants as control
use Rattle.continuations.specs.Answering.{with_steps}
use Rattle.continuations.specs.Kept.{Kept, kept_operands, operands_of, scopes_of, waiting}
use Rattle.continuations.specs.Loads.{Adds}
use Rattle.continuations.specs.Moving as Moving
use Rattle.continuations.specs.Moving.{Stands, following}
use Rattle.continuations.specs.Pending.{behind, values_of}
use Rattle.continuations.specs.Resuming.{Begins, coming}
use Rattle.continuations.specs.Settings.{Setting}
use Rattle.continuations.specs.Invariant.{running}
use Rattle.step_requests.specs.declared.asked.Asked.{Asked}
use Rattle.step_requests.specs.declared.moved.Moved.{Moved}
use Rattle.step_requests.specs.declared.moved.Moved.TheVariants as moved
use Rattle.step_requests.specs.declared.handing_on.Went.{Went}
use Rattle.step_requests.specs.declared.handing_on.Went.TheVariants as went
use Rattle.step_requests.specs.Asked.{OwnParts, answered_to, asked_plan, held_all, held_if}

-- a plan, by a reading of labels, the steps of the built-in and its registers
abbrev pub Doing : Type 0 → Type 0
Doing T = Tables → Given → BuiltIns → List FunctionCode → (T → Label) → Steps → List Val → State → Plan

-- what is done with what an act came to
abbrev pub DoingWith : Type 0 → Type 0 → Type 0
DoingWith T Y = Tables → Given → BuiltIns → List FunctionCode → (T → Label) → Steps → List Val → Y → State → Plan

module _ {T : Type 0} where
  -- the next move
  abbrev pub next_of : Moved T → Control
  next_of (moved.Asks count answer) = control.Request count
  next_of (moved.Prints count line) = control.Request count
  next_of (moved.Waits move) = move
  next_of (moved.Ends move) = move

  -- the setting behind a request of the built-in with these steps, which is the innermost one
  abbrev pub setting_behind : Moved T → Steps → Setting → Setting
  setting_behind (moved.Asks count answer) steps e = with_steps (steps_behind steps answer) e
  setting_behind (moved.Prints count line) steps e = with_steps (steps_behind steps answer.Done) e
  setting_behind (moved.Waits move) steps e = with_steps steps e
  setting_behind (moved.Ends move) steps e = e

  -- the lines, where these were printed before
  abbrev pub lines_of : Tables → (T → Label) → Moved T → List LabelledLine → List LabelledLine
  lines_of tables reading (moved.Prints count line) told = told ++ line_of tables reading line ∷ []
  lines_of tables reading (moved.Asks count answer) told = told
  lines_of tables reading (moved.Waits move) told = told
  lines_of tables reading (moved.Ends move) told = told

  -- what is done next, and behind it the pending work, is a plan, or the run is stopped as it is by the plan. Want of memory says nothing
  abbrev pub Goes : Tables → Given → BuiltIns → List FunctionCode → (T → Label) → Kept T → Steps → Setting → World T → List LabelledLine → ℕ → Plan → Result (Moved T) (FlowFault T) → Type 0
  Goes tables inputs set functions reading stack steps e w told turns plan (Ok m) = coming tables inputs set functions reading stack (next_of m) (setting_behind m steps e) (state_of reading w (lines_of tables reading m told) turns) ≡ plan
  Goes tables inputs set functions reading stack steps e w told turns plan (Err (fault.Stop stop)) = End (stopped stop.rule (reading stop.need) (reading stop.have)) (state_of reading w told turns) ≡ plan
  Goes tables inputs set functions reading stack steps e w told turns plan (Err fault.OutOfMemory) = Unit {0}

  -- what is known of an own property, in a reading
  abbrev pub read_parts : (T → Label) → OwnProperty T → OwnParts
  read_parts reading p = record { marks = read_value reading p.marks; value = read_value reading p.value; get = read_value reading p.get; set = read_value reading p.set }

  -- only a built-in that asks next is a request
  abbrev pub IsIdle : Moved T → Type 0
  IsIdle (moved.Asks count answer) = Unit {0}
  IsIdle (moved.Prints count line) = Unit {0}
  IsIdle (moved.Waits move) = running move ≡ 0
  IsIdle (moved.Ends move) = running move ≡ 0

  -- how many built-ins wait that didn't before
  abbrev pub waits_more : Moved T → ℕ
  waits_more (moved.Waits move) = 1
  waits_more (moved.Asks count answer) = 0
  waits_more (moved.Prints count line) = 0
  waits_more (moved.Ends move) = 0

  -- what a call leaves of the pending work, its operands and the values that lie loose
  pub record Rests (made : T → Type 0) (old new : Kept T) (m : Moved T) : Type 0 where
    pub values : length new.loose ≡ values_of (next_of m)
    pub scopes : scopes_of new.tasks ≡ scopes_of old.tasks
    pub natives : waiting new.tasks ≡ waiting old.tasks + waits_more m
    pub operands : All (HasValue made) (kept_operands old.tasks) → All (HasValue made) (operands_of new)
    pub adds : Adds 11 old new (next_of m)
    pub idle : IsIdle m

  -- and of the frames
  pub record Leaves (made : T → Type 0) (old new : Kept T) (world_old world_new : World T) (m : Moved T) : Type 0 where
    pub rests : Rests made old new m
    pub stands : Stands world_old world_new (next_of m)

  -- the run leaves the language, and where it has a name for that, this alone lies there
  abbrev pub cleared : Kept T → Kept T
  cleared stack = record { tasks = stack.tasks; loose = [] }

  pub record Left (made : T → Type 0) (why : Leaving) (old new : Kept T) (move : Control) : Type 0 where
    pub goes_on : Begins (λ tables inputs set functions e s. End (as_plain (left (leaving_name why))) s) (cleared old) new move
    pub rests : Moving.Rests made (cleared old) new move
    pub adds : Adds 0 (cleared old) new move

  -- an act went on with what it gave, and the stack is as it was; or it threw, and what it threw lies there alone; or it left
  abbrev pub Parts : {X : Type 0} → (T → Type 0) → Kept T → Kept T → Result (acts.Outcome X T) (FlowFault T) → Result (Went X) (FlowFault T) → Type 0
  Parts made old new (Ok (outcomes.Goes x)) (Ok (went.On y)) = (x ≡ y) × (new ≡ old)
  Parts made old new (Ok (outcomes.Throws v)) (Ok (went.Off move)) = (move ≡ control.Jumps jump.Throws) × (new ≡ record { tasks = old.tasks; loose = v ∷ [] })
  Parts made old new (Ok (outcomes.Leaves why)) (Ok (went.Off move)) = Left made why old new move
  Parts made old new (Ok answer) (Ok other) = ⊥
  Parts made old new (Ok answer) (Err f) = f ≡ fault.OutOfMemory
  Parts made old new (Err f) (Ok other) = ⊥
  Parts made old new (Err f) (Err g) = g ≡ f

  -- a printed line has labels of a store, and stands on one of so many channels
  pub record IsPrinted (made : T → Type 0) (channels : ℕ) (p : Printed T) : Type 0 where
    pub labels : HasPrinted made p
    pub channel : p.channel < channels

  abbrev pub Prints : (T → Type 0) → ℕ → Moved T → Type 0
  Prints made channels (moved.Prints count line) = IsPrinted made channels line
  Prints made channels (moved.Asks count answer) = Unit {0}
  Prints made channels (moved.Waits move) = Unit {0}
  Prints made channels (moved.Ends move) = Unit {0}

  -- no line is printed
  abbrev pub IsQuiet : Moved T → Type 0
  IsQuiet (moved.Prints count line) = ⊥
  IsQuiet (moved.Asks count answer) = Unit {0}
  IsQuiet (moved.Waits move) = Unit {0}
  IsQuiet (moved.Ends move) = Unit {0}

module _ {S T : Type 0} (made : S → T → Type 0) (meaning : S → T → Label) (store : S) where
  -- a call does what a plan says of the registers, which lie loose, in each reading that agrees with the store, whatever was printed before and however many
  -- turns are left
  pub record DoesBy (plan : Doing T) (old new : Kept T) (world_old world_new : World T) (tables : Tables) (inputs : Given) (result : Result (Moved T) (FlowFault T)) : Type 0 where
    pub says : (set : BuiltIns) (functions : List FunctionCode) (reading : T → Label) (e : Setting) (steps : Steps) (told : List LabelledLine) (turns : ℕ) → IsReading made meaning store reading → length e.natives ≡ waiting old.tasks
        → Goes tables inputs set functions reading new steps e world_new told turns (behind tables inputs set functions reading old.tasks (with_steps steps e) (plan tables inputs set functions reading steps (map (read_value reading) old.loose) (state_of reading world_old told turns))) result

  -- it does what is asked for
  abbrev pub Does : Asked → Kept T → Kept T → World T → World T → Tables → Given → Result (Moved T) (FlowFault T) → Type 0
  Does what = DoesBy (λ tables inputs set functions reading. asked_plan tables inputs set functions what)

  -- a call without the run's state comes to what a plan says of the registers
  pub record Gives (plan : Doing T) (old new : Kept T) (m : Moved T) : Type 0 where
    pub quiet : IsQuiet m
    pub says : (tables : Tables) (inputs : Given) (set : BuiltIns) (functions : List FunctionCode) (reading : T → Label) (e : Setting) (steps : Steps) (s : State) → IsReading made meaning store reading → length e.natives ≡ waiting old.tasks
        → coming tables inputs set functions reading new (next_of m) (setting_behind m steps e) s ≡ behind tables inputs set functions reading old.tasks (with_steps steps e) (plan tables inputs set functions reading steps (map (read_value reading) old.loose) s)

  -- what an act came to is handed on, behind what is done with it
  pub record Settles {X Y : Type 0} (read : (T → Label) → X → Y) (k : DoingWith T Y) (old new : Kept T) (came : Result (acts.Outcome X T) (FlowFault T)) (result : Result (Moved T) (FlowFault T)) : Type 0 where
    pub says : (tables : Tables) (inputs : Given) (set : BuiltIns) (functions : List FunctionCode) (reading : T → Label) (e : Setting) (steps : Steps) (w : World T) (told : List LabelledLine) (turns : ℕ) (outcome : Outcome Halt Jump Y State) → IsReading made meaning store reading → length e.natives ≡ waiting old.tasks
        → Says (read reading) reading outcome (state_of reading w told turns) came
        → Goes tables inputs set functions reading new steps e w told turns (behind tables inputs set functions reading old.tasks (with_steps steps e) (following outcome (k tables inputs set functions reading steps (map (read_value reading) old.loose)))) result

  -- and of an act that prints
  pub record SettlesPrinted (old new : Kept T) (came : Result (acts.Outcome (Printed T) T) (FlowFault T)) (result : Result (Moved T) (FlowFault T)) : Type 0 where
    pub says : (tables : Tables) (inputs : Given) (set : BuiltIns) (functions : List FunctionCode) (reading : T → Label) (e : Setting) (steps : Steps) (w : World T) (told : List LabelledLine) (turns : ℕ) (outcome : Outcome Halt Jump Val State) → IsReading made meaning store reading → length e.natives ≡ waiting old.tasks
        → Says (read_printed reading) reading outcome (state_of reading w (lines_behind tables reading told came) turns) came
        → Goes tables inputs set functions reading new steps e w told turns (behind tables inputs set functions reading old.tasks (with_steps steps e) (following outcome (answered_to None steps (map (read_value reading) old.loose)))) result

  -- a label and a value of a store that mean this
  pub record Holds (u : Val) (v : Labelled T) : Type 0 where
    pub has : HasValue (made store) v
    pub is : (reading : T → Label) → IsReading made meaning store reading → read_value reading v ≡ u

  -- what registers hold, and what one does, if one is named
  abbrev pub HeldIn : List Reg → List (Labelled T) → List (Labelled T) → Type 0
  HeldIn from registers values = (reading : T → Label) → IsReading made meaning store reading → map (read_value reading) values ≡ held_all from (map (read_value reading) registers)

  pub record ReadsIf (from : Option Reg) (registers : List (Labelled T)) (value : Option (Labelled T)) : Type 0 where
    pub given : is_some value ≡ is_some from
    pub has : HasGiven (made store) value
    pub is : (reading : T → Label) → IsReading made meaning store reading → given_in reading value ≡ held_if (map (read_value reading) registers) from
