-- What it means that a call, or a construction, goes on.
use Rattle.std.specs.Prelude.{ℕ, List, map, drop, Option, Some, None, Result}
use Rattle.origin_labels.specs.Label.{Label}
use Rattle.flow_policy.specs.Policies.{Tables}
use Rattle.flow_policy.specs.Inputs.{Given}
use Rattle.flow_frames.specs.declared.faults.FlowFault.{FlowFault}
use Rattle.js_ast.specs.Functions.{FunctionCode}
use Rattle.js_ast.specs.Trees.{Statements}
use Rattle.js_values.specs.declared.ids.ObjId.{ObjId}
use Rattle.js_values.specs.declared.value.Value.{Value}
use Rattle.js_values.specs.declared.value.Value.TheVariants as value
use Rattle.js_values.specs.Readings.{read_value}
use Rattle.native_protocol.specs.declared.request.ErrorKind.TheVariants as kinds
use Rattle.native_protocol.specs.Steps.{Steps}
use Rattle.es_meaning.specs.BuiltIns.{BuiltIns}
use Rattle.es_meaning.specs.Evaluation.{statements}
use Rattle.es_meaning.specs.Functions.{Callee, of_built_in}
use Rattle.es_meaning.specs.Operations.{One}
use Rattle.flow_meaning.specs.Planned.{Plan, and_plan, as_plan, asking, call_by, call_value, construct_by, construct_value, end_call, end_construction, enter_call, enter_construction, planned}
use Rattle.flow_meaning.specs.Scopes.{State, Val}
use Rattle.flow_meaning.specs.Tracked.{throw_error}
use Rattle.run_state.specs.declared.outcome.Outcome.{Outcome}
use Rattle.run_state.specs.declared.outcome.Outcome.TheVariants as outcome
use Rattle.run_state.specs.declared.world.World.{World}
use Rattle.run_state.specs.Worlds.{state_of}
use Rattle.continuations.specs.declared.continuation.Control.{Control}
use Rattle.continuations.specs.Going.{ComesTo, here}
use Rattle.continuations.specs.Kept.{Kept}
use Rattle.continuations.specs.Pending.{behind}
use Rattle.continuations.specs.Resuming as resuming
use Rattle.continuations.specs.Settings.{entrance, setting_of}
use Rattle.continuations.specs.Shapes.{nth}

-- the values that lie loose, in a reading of the labels
abbrev pub lying : {T : Type 0} → (T → Label) → Kept T → List Val
lying reading stack = map (read_value reading) stack.loose

module _ {S T : Type 0} (made : S → T → Type 0) (meaning : S → T → Label) (store : S) (tables : Tables) (inputs : Given) (set : BuiltIns) (functions : List FunctionCode) where
  module _ (natives_old natives_new : List Steps) where
    -- a call comes to a plan behind the pending work
    abbrev pub Comes : ((T → Label) → State → Plan) → Kept T → Kept T → World T → World T → Result Control (FlowFault T) → Type 0
    Comes plan old new world_old world_new =
        ComesTo made meaning store tables inputs set functions natives_new (λ reading told turns. behind tables inputs set functions reading old.tasks (setting_of natives_old here) (plan reading (state_of reading world_old told turns))) new world_new

    -- an object is called, whose label this is, with what lies loose: `this`, what is called, and the arguments
    abbrev pub CallsObject : ObjId → T → Kept T → Kept T → World T → World T → Result Control (FlowFault T) → Type 0
    CallsObject f label old = Comes (λ reading s. call_value functions (reading label) (value.Object f) (nth 0 (lying reading old)) (drop 2 (lying reading old)) (entrance tables inputs set functions) s) old

    -- what was reached is called: this, by the label and the number of its object
    abbrev pub CallsBy : Callee → T → ℕ → Kept T → Kept T → World T → World T → Result Control (FlowFault T) → Type 0
    CallsBy what label o old = Comes (λ reading s. call_by functions what (reading label) o (nth 0 (lying reading old)) (drop 2 (lying reading old)) (entrance tables inputs set functions) s) old

    -- the same of a construction, which has no `this`
    abbrev pub ConstructsObject : ObjId → T → Kept T → Kept T → World T → World T → Result Control (FlowFault T) → Type 0
    ConstructsObject f label old = Comes (λ reading s. construct_value set functions (reading label) (value.Object f) (drop 1 (lying reading old)) (entrance tables inputs set functions) s) old

    abbrev pub ConstructsBy : Callee → T → ℕ → Kept T → Kept T → World T → World T → Result Control (FlowFault T) → Type 0
    ConstructsBy what label o old = Comes (λ reading s. construct_by set functions what (reading label) o (drop 1 (lying reading old)) (entrance tables inputs set functions) s) old

  module _ (natives : List Steps) where
    -- what happens inside the frame of a call at a depth, and behind it
    abbrev pub InCall : Callee → T → ℕ → Kept T → Kept T → World T → World T → Result Control (FlowFault T) → Type 0
    InCall what label depth old =
        Comes natives natives (λ reading s. and_plan (enter_call functions what (reading label) (nth 0 (lying reading old)) (drop 2 (lying reading old)) (entrance tables inputs set functions) depth s) (end_call depth)) old

    -- and in that of a construction, which makes an object with this number
    abbrev pub InConstruction : Callee → T → ℕ → ℕ → ℕ → Kept T → Kept T → World T → World T → Result Control (FlowFault T) → Type 0
    InConstruction what label o fresh depth old =
        Comes natives natives (λ reading s. and_plan (enter_construction functions what (reading label) o (drop 1 (lying reading old)) (entrance tables inputs set functions) depth s) (end_construction fresh depth)) old

    -- a type error is thrown with this cause
    abbrev pub Refuses : T → Kept T → Kept T → World T → World T → Result Control (FlowFault T) → Type 0
    Refuses cause = Comes natives natives (λ reading s. as_plan One (throw_error kinds.TypeError (reading cause) s))

-- the statements of a function were begun
abbrev pub StartsBody : {T : Type 0} → Statements → Kept T → Kept T → Control → Type 0
StartsBody ss = resuming.Begins (λ tables inputs set functions e. statements (planned tables inputs set functions) (asking tables inputs set functions) ss e.env)

-- the built-in that is called
abbrev pub native_in : Callee → Option ℕ
native_in (of_built_in which) = Some which
native_in _ = None

-- the object that a value is
abbrev pub object_in : Value → Option ObjId
object_in (value.Primitive p) = None
object_in (value.Object o) = Some o

-- an act throws
abbrev pub IsThrow : {X T : Type 0} → Outcome X T → Type 0
IsThrow (outcome.Throws v) = Unit {0}
IsThrow (outcome.Goes x) = ⊥
IsThrow (outcome.Leaves why) = ⊥
