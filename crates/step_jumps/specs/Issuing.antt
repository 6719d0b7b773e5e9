-- What it means that a call jumps.
use Rattle.std.specs.Prelude.{◌≡◌, List, [], ◌∷◌, map, Result, Ok, Err}
use Rattle.origin_labels.specs.Label.{Label, bottom}
use Rattle.flow_policy.specs.Policies.{Tables}
use Rattle.flow_policy.specs.Inputs.{Given}
use Rattle.flow_frames.specs.Held.{Held}
use Rattle.flow_frames.specs.declared.faults.FlowFault.{FlowFault}
use Rattle.flow_frames.specs.declared.faults.FlowFault.TheVariants as fault
use Rattle.js_ast.specs.Functions.{FunctionCode}
use Rattle.js_number.specs.declared.primitive.Primitive.TheVariants.{Undefined}
use Rattle.js_values.specs.declared.value.Labelled.{Labelled}
use Rattle.js_values.specs.declared.value.Value.TheVariants.{Primitive}
use Rattle.js_values.specs.Readings.{IsReading, read_value}
use Rattle.es_meaning.specs.Operations.{One}
use Rattle.es_meaning.specs.Outcomes.{Outcome, Jumps, Ends}
use Rattle.es_meaning.specs.BuiltIns.{BuiltIns}
use Rattle.flow_meaning.specs.Planned.{as_plan}
use Rattle.flow_meaning.specs.Scopes.{Val, State, Halt, Jump, stopped, jump}
use Rattle.run_state.specs.declared.world.World.{World}
use Rattle.run_state.specs.Worlds.{state_of}
use Rattle.continuations.specs.declared.continuation.Jump as work
use Rattle.continuations.specs.declared.continuation.Control.{Control}
use Rattle.continuations.specs.Going.{ComesTo, here}
use Rattle.continuations.specs.Kept.{Kept}
use Rattle.continuations.specs.Pending.{behind, first_or_undefined}
use Rattle.continuations.specs.Resuming.{with_frames}
use Rattle.continuations.specs.Shapes.{jump_of}
use Rattle.continuations.specs.Settings.{setting_of}
use Rattle.native_protocol.specs.Steps.{Steps}

-- what an answer says of an outcome: the jump goes on, or a rule stops the run. Want of memory says nothing
abbrev pub SaysJump : {X T : Type 0} → (T → Label) → Outcome Halt Jump (Unit {0}) State → Jump → State → Result X (FlowFault T) → Type 0
SaysJump reading outcome j s (Ok x) = outcome ≡ Jumps j s
SaysJump reading outcome j s (Err (fault.Stop stop)) = outcome ≡ Ends (stopped stop.rule (reading stop.need) (reading stop.have)) s
SaysJump reading outcome j s (Err fault.OutOfMemory) = Unit {0}

module _ {S T : Type 0} (made : S → T → Type 0) (meaning : S → T → Label) (store : S) where
  -- a call does with frames what a jump with any value does that has no cause, in each reading that agrees with the store
  abbrev pub Issues : {X : Type 0} → (Val → Jump) → List (Held T) → List (Held T) → Result X (FlowFault T) → Type 0
  Issues j old new result = (reading : T → Label) (v : Val) (s : State) → IsReading made meaning store reading → SaysJump reading (jump bottom (j v) (with_frames reading old s)) (j v) (with_frames reading new s) result

  -- a call comes to what pending work says of a jump whose value lies loose
  abbrev pub IssuesAt : Tables → Given → BuiltIns → List FunctionCode → List Steps → work.Jump → Kept T → World T → World T → Result Control (FlowFault T) → Type 0
  IssuesAt tables inputs set functions natives j stack old new = ComesTo made meaning store tables inputs set functions natives (λ reading told turns. behind tables inputs set functions reading stack.tasks (setting_of natives here) (as_plan One (jump bottom (jump_of j (first_or_undefined (map (read_value reading) stack.loose))) (state_of reading old told turns)))) stack new

  -- undefined lies alone, and depends on nothing
  pub record IsNothing (values : List (Labelled T)) : Type 0 where
    pub label : T
    pub alone : values ≡ record { value = Primitive Undefined; label = label } ∷ []
    pub made_there : made store label
    pub empty : meaning store label ≡ bottom
