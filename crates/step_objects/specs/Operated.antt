-- What an operator gives of two values, of which none has to be converted.
use Rattle.std.specs.Prelude.{◌≡◌, Bool, true, false, List, [], ◌∷◌}
use Rattle.origin_labels.specs.Label.{IsLabel}
use Rattle.flow_policy.specs.Policies.{Tables}
use Rattle.flow_policy.specs.Inputs.{Given}
use Rattle.js_ast.specs.Functions.{FunctionCode}
use Rattle.js_ast.specs.declared.operators.BinaryOperator.{BinaryOperator}
use Rattle.es_meaning.specs.BuiltIns.{BuiltIns}
use Rattle.es_meaning.specs.Evaluation.{binary_values}
use Rattle.es_meaning.specs.Operations.{Value, object_needed, has_key}
use Rattle.es_meaning.specs.Outcomes.{◌>>=◌}
use Rattle.flow_meaning.specs.Planned.{Enters, as_plan, planned}
use Rattle.flow_meaning.specs.Scopes.{Val, State, L}
use Rattle.flow_meaning.specs.Tracked.{act, labelled}
use Rattle.step_values.specs.Converted.{converts, is_keyed}

-- `in` asks whether the right one, which has to be an object, has the left one as a key (ECMA-262 11.8.7)
abbrev pub contained : Tables → Given → Val → Val → L Val
contained tables inputs v u = act tables inputs object_needed (u ∷ []) >>= λ w. act tables inputs has_key (v ∷ w ∷ [])

abbrev pub operated_by : Bool → Tables → Given → BuiltIns → List FunctionCode → BinaryOperator → Val → Val → L Val
operated_by true tables inputs set functions o v u = contained tables inputs v u
operated_by false tables inputs set functions o v u = (labelled tables inputs set functions).binary o v u

abbrev pub operated : Tables → Given → BuiltIns → List FunctionCode → BinaryOperator → Val → Val → L Val
operated tables inputs set functions o v u = operated_by (is_keyed o) tables inputs set functions o v u

-- that is the plan of the conversions and the operator
abbrev pub AreOperated : Type 0
AreOperated = (tables : Tables) (inputs : Given) (set : BuiltIns) (functions : List FunctionCode) (E : Enters) (o : BinaryOperator) (v u : Val) (s : State) → IsLabel v.label → IsLabel u.label → converts o v.value u.value ≡ false
    → binary_values (planned tables inputs set functions) E o v u s ≡ as_plan Value (operated tables inputs set functions o v u s)
