-- What it means that a call goes on as a machine's plan says.
use Rattle.std.specs.Prelude.{ℕ, List, map, take, drop, Result, ◌<◌, ◌+◌}
use Rattle.origin_labels.specs.Label.{Label}
use Rattle.flow_policy.specs.Policies.{Tables}
use Rattle.flow_policy.specs.Inputs.{Given}
use Rattle.flow_frames.specs.declared.faults.FlowFault.{FlowFault}
use Rattle.js_ast.specs.Functions.{FunctionCode}
use Rattle.es_meaning.specs.BuiltIns.{BuiltIns}
use Rattle.js_values.specs.declared.value.Labelled.{Labelled}
use Rattle.js_values.specs.Readings.{IsReading, read_value}
use Rattle.native_protocol.specs.Steps.{Steps}
use Rattle.es_meaning.specs.Environments.{Env}
use Rattle.es_meaning.specs.Plain.{outermost_env}
use Rattle.flow_meaning.specs.Scopes.{LabelledLine}
use Rattle.flow_meaning.specs.Planned.{Plan, Completion, gave, jumped}
use Rattle.run_state.specs.declared.world.World.{World}
use Rattle.run_state.specs.Worlds.{state_of}
use Rattle.continuations.specs.declared.continuation.Continuation.{Continuation}
use Rattle.continuations.specs.declared.continuation.Jump.{Jump}
use Rattle.continuations.specs.declared.continuation.Control.{Control}
use Rattle.continuations.specs.Kept.{Kept}
use Rattle.continuations.specs.Loads.{load, lift}
use Rattle.continuations.specs.Moving.{Moves}
use Rattle.continuations.specs.Pending.{owns, setting_above, after, behind, first_or_undefined}
use Rattle.continuations.specs.Resuming.{coming}
use Rattle.continuations.specs.Settings.{setting_of}
use Rattle.continuations.specs.Shapes.{jump_of}

-- the outermost code, in which no jump reaches anything round it
abbrev pub here : Env ℕ
here = outermost_env 0

module _ {S T : Type 0} (made : S → T → Type 0) (meaning : S → T → Label) (store : S) (tables : Tables) (inputs : Given) (set : BuiltIns) (functions : List FunctionCode) where
  -- a call comes to a plan that is made of the state before it, with these steps of built-ins left, in each reading that agrees with the store, whatever was
  -- printed and however many turns are left
  abbrev pub ComesTo : List Steps → ((T → Label) → List LabelledLine → ℕ → Plan) → Kept T → World T → Result Control (FlowFault T) → Type 0
  ComesTo natives p stack world result = (reading : T → Label) (told : List LabelledLine) (turns : ℕ) → IsReading made meaning store reading
      → Moves tables inputs set functions reading stack (setting_of natives here) (state_of reading world told turns) (p reading told turns) result

  -- it goes on as the next move says
  abbrev pub Begins : List Steps → List Steps → Kept T → Kept T → World T → World T → Control → Result Control (FlowFault T) → Type 0
  Begins natives_old natives_new old new world_old world_new move =
      ComesTo natives_new (λ reading told turns. coming tables inputs set functions reading old move (setting_of natives_old here) (state_of reading world_old told turns)) new world_new

  -- what work does with a completion that was taken from the others, with the operands that lie undermost
  abbrev pub Continues : ((T → Label) → Completion) → Continuation → List Steps → List Steps → Kept T → Kept T → World T → World T → Result Control (FlowFault T) → Type 0
  Continues completion w natives_old natives_new old new world_old world_new =
      ComesTo natives_new (λ reading told turns. behind tables inputs set functions reading old.tasks (setting_of natives_old here)
      (after tables inputs set functions w (map (read_value reading) (take (owns w) old.loose)) (setting_above old.tasks (setting_of natives_old here)) (completion reading) (state_of reading world_old told turns))) new world_new

  -- with what lies above the operands: a value, or the end of a part
  abbrev pub Resumes : Continuation → List Steps → List Steps → Kept T → Kept T → World T → World T → Result Control (FlowFault T) → Type 0
  Resumes w natives_old natives_new old = Continues (λ reading. gave (first_or_undefined (map (read_value reading) (drop (owns w) old.loose)))) w natives_old natives_new old

  -- with a jump, whose value lies there
  abbrev pub Passes : Jump → Continuation → Labelled T → List Steps → List Steps → Kept T → Kept T → World T → World T → Result Control (FlowFault T) → Type 0
  Passes j w value = Continues (λ reading. jumped (jump_of j (read_value reading value))) w

-- less is to be done before a further part is entered
abbrev pub Lowers : {T : Type 0} → Kept T → Control → Kept T → Control → Type 0
Lowers old move new next = load new.tasks + lift next < load old.tasks + lift move
