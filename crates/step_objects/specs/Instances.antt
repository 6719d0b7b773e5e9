-- Whether a value is an instance of a function: what stands before the read of its `prototype`, and the walk behind it.
use Rattle.std.specs.Prelude.{◌≡◌, ℕ, Bool, true, false, List, Option, Some, None, slice_get}
use Rattle.origin_labels.specs.Label.{Label, union}
use Rattle.flow_policy.specs.Policies.{Tables}
use Rattle.flow_policy.specs.Inputs.{Given}
use Rattle.js_ast.specs.Functions.{FunctionCode}
use Rattle.js_values.specs.declared.ids.ObjId.{ObjId}
use Rattle.js_values.specs.declared.inner.Inner.{Inner}
use Rattle.js_values.specs.declared.inner.Inner.TheVariants.{Plain, Script, Native, Bound}
use Rattle.js_values.specs.declared.value.Value.{Value}
use Rattle.js_values.specs.declared.value.Value.TheVariants as value
use Rattle.js_values.specs.Objects.{Object}
use Rattle.js_values.specs.Readings.{IsReading, HasValue, read_value, read_heap}
use Rattle.js_values.specs.Walks.{find, object_chain}
use Rattle.native_protocol.specs.declared.request.ErrorKind.TheVariants as kinds
use Rattle.es_meaning.specs.BuiltIns.{BuiltIns}
use Rattle.es_meaning.specs.Outcomes.{Goes}
use Rattle.es_meaning.specs.Plain.{prototype_name}
use Rattle.flow_meaning.specs.Planned.{gave, Enters, Plan, Give, and_plan, enter_access, end_instance, planned, with_outcome}
use Rattle.flow_meaning.specs.Requested.{aim_of, is_function_in}
use Rattle.flow_meaning.specs.Scopes.{Val, State, L}
use Rattle.flow_meaning.specs.Tracked as tracked
use Rattle.flow_meaning.specs.Tracked.{called_value, found_by, throw_error, truth_of}
use Rattle.run_state.specs.Accesses.{HasAccess, read_access}
use Rattle.step_objects.specs.declared.instances.Aimed.{Aimed}
use Rattle.step_objects.specs.declared.instances.InstanceTest.{InstanceTest}
use Rattle.step_objects.specs.declared.instances.InstanceTest.TheVariants as test
use Rattle.step_objects.specs.declared.instances.Linked.{Linked}

-- ---- up to the read

-- it has its answer; or the `prototype` comes to this, and the object with a number is looked at behind it, where both operands have this label
pub data Test : Type 0 where
  is_answered : Val → Test
  is_read : ℕ → Label → tracked.Access → Test

-- the `prototype` is that of the function that a bound one comes to
abbrev pub test_by : List (Object Label) → Val → ObjId → Label → ℕ → Test
test_by heap v o label f = is_read o.0 (union v.label label) (found_by (union v.label label) (called_value label f) (find prototype_name (object_chain heap f)))

-- no primitive value is an instance, and of one nothing is read
abbrev pub test_value : List (Object Label) → Val → Value → Label → ℕ → Test
test_value heap v (value.Primitive p) label f = is_answered (truth_of false (union v.label label))
test_value heap v (value.Object o) label f = let aim = aim_of heap f in test_by heap v o (union label aim.label) aim.target.function

abbrev pub test_of : List (Object Label) → Val → Label → ℕ → Test
test_of heap v label f = test_value heap v v.value label f

unfoldable pub tested_if : Bool → Val → Label → ℕ → L Test
tested_if true v label f s = Goes (test_of s.heap v label f) s
tested_if false v label f s = throw_error kinds.TypeError label s

unfoldable pub tested : Val → Label → Value → L Test
tested v label (value.Primitive p) s = throw_error kinds.TypeError label s
tested v label (value.Object f) s = tested_if (is_function_in (slice_get s.heap f.0)) v label f.0 s

-- what follows is the rest of the plan of `instanceof`
abbrev pub tests_on : List FunctionCode → Enters → Test → State → Plan
tests_on functions E (is_answered v) s = Give (gave v) s
tests_on functions E (is_read o label a) s = and_plan (enter_access functions E a s) (end_instance label o)

abbrev pub AreTested : Type 0
AreTested = (tables : Tables) (inputs : Given) (set : BuiltIns) (functions : List FunctionCode) (E : Enters) (v f : Val) (s : State) → (planned tables inputs set functions).instance v f E s ≡ with_outcome (tested v f.label f.value s) (tests_on functions E)

-- in a reading of the labels
abbrev pub read_test : {T : Type 0} → (T → Label) → InstanceTest T → Test
read_test reading (test.Answered v) = is_answered (read_value reading v)
read_test reading (test.Reads o label a) = is_read o.0 (reading label) (read_access reading a)

abbrev pub HasTest : {T : Type 0} → (T → Type 0) → InstanceTest T → Type 0
HasTest made (test.Answered v) = HasValue made v
HasTest made (test.Reads o label a) = made label × HasAccess made a

pub record IsTest {S T : Type 0} (made : S → T → Type 0) (meaning : S → T → Label) (store : S) (means : (T → Label) → Test) (t : InstanceTest T) : Type 0 where
  pub belongs : HasTest (made store) t
  pub is : (reading : T → Label) → IsReading made meaning store reading → read_test reading t ≡ means reading

-- ---- the function that a bound one comes to

-- what a bound function calls, with the label of that
abbrev pub bound_in : {T : Type 0} → Inner T → Option (Aimed T)
bound_in (Bound target label this args) = Some (record { function = target; label = label })
bound_in Plain = None
bound_in (Script function env) = None
bound_in (Native which) = None

abbrev pub bound_at : {T : Type 0} → Option (Object T) → Option (Aimed T)
bound_at None = None
bound_at (Some p) = bound_in p.inner

pub record IsAimed {S T : Type 0} (made : S → T → Type 0) (meaning : S → T → Label) (store : S) (heap : List (Object T)) (o : ℕ) (a : Aimed T) : Type 0 where
  pub belongs : made store a.label
  pub function : (reading : T → Label) → IsReading made meaning store reading → a.function.0 ≡ (aim_of (read_heap reading heap) o).target.function
  pub label : (reading : T → Label) → IsReading made meaning store reading → reading a.label ≡ (aim_of (read_heap reading heap) o).label

-- ---- the walk along prototypes to another object

abbrev pub read_linked : {T : Type 0} → (T → Label) → Linked T → tracked.Linked
read_linked reading l = record { is = l.is; links = reading l.links }

pub record IsLinked {S T : Type 0} (made : S → T → Type 0) (meaning : S → T → Label) (store : S) (heap : List (Object T)) (o proto : ℕ) (l : Linked T) : Type 0 where
  pub belongs : made store l.links
  pub is : (reading : T → Label) → IsReading made meaning store reading → read_linked reading l ≡ tracked.linked proto (object_chain (read_heap reading heap) o)
