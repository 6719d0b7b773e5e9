-- Which operands an operator has converted first. Where it has none converted, it takes them as they are: the laws in `proofs/ConvertedLaws`.
use Rattle.std.specs.Prelude.{◌≡◌, Bool, true, false, ◌&&◌, ◌||◌, List, slice_get}
use Rattle.origin_labels.specs.Label.{IsLabel}
use Rattle.flow_policy.specs.Policies.{Tables}
use Rattle.flow_policy.specs.Inputs.{Given}
use Rattle.js_ast.specs.Functions.{FunctionCode}
use Rattle.js_ast.specs.declared.operators.UnaryOperator.{UnaryOperator}
use Rattle.js_ast.specs.declared.operators.BinaryOperator.{BinaryOperator}
use Rattle.js_values.specs.declared.value.Value.{Value}
use Rattle.js_values.specs.declared.value.Value.TheVariants as value
use Rattle.js_values.specs.Objects.{Object}
use Rattle.native_protocol.specs.declared.request.Seen.{Seen}
use Rattle.native_protocol.specs.declared.request.Seen.TheVariants as seen
use Rattle.es_meaning.specs.BuiltIns.{BuiltIns}
use Rattle.es_meaning.specs.Evaluation as es
use Rattle.es_meaning.specs.Evaluation.{takes_number, unary_value, binary_values}
use Rattle.es_meaning.specs.Operations as operations
use Rattle.es_meaning.specs.Operators.{is_object, converts_beside}
use Rattle.es_meaning.specs.Plain.{seen_of}
use Rattle.flow_meaning.specs.Scopes.{Val, State}
use Rattle.flow_meaning.specs.Tracked.{labelled}
use Rattle.flow_meaning.specs.Planned.{Enters, as_plan, planned}
use Rattle.step_values.specs.declared.conversions.Conversion.{Conversion}
use Rattle.step_values.specs.declared.conversions.Conversion.TheVariants as conversion

-- what can be asked of a value
abbrev pub value_seen : {T : Type 0} → List (Object T) → Value → Seen
value_seen heap (value.Primitive v) = seen.Prim v
value_seen heap (value.Object i) = seen_of (λ p. seen.Object p.class) (slice_get heap i.0)

-- how an operator between two values converts them
abbrev pub conversion_in : Conversion → es.Conversion
conversion_in conversion.Unconverted = es.unconverted
conversion_in conversion.Compared = es.compared
conversion_in (conversion.Primitives h) = es.primitives h
conversion_in conversion.Numbers = es.numbers
conversion_in conversion.Keyed = es.keyed

-- ---- whether an operand is an object that is converted first

abbrev pub converts_operand : UnaryOperator → Value → Bool
converts_operand o v = takes_number o && is_object v

-- of two operands the left one of `in` alone
abbrev pub converts_by : es.Conversion → Value → Value → Bool
converts_by es.unconverted v u = false
converts_by es.compared v u = converts_beside v u || converts_beside u v
converts_by (es.primitives h) v u = is_object v || is_object u
converts_by es.numbers v u = is_object v || is_object u
converts_by es.keyed v u = is_object v

abbrev pub converts : BinaryOperator → Value → Value → Bool
converts o v u = converts_by (es.conversion_of o) v u

-- `in` is no matter of two values alone
abbrev pub takes_key : es.Conversion → Bool
takes_key es.keyed = true
takes_key _ = false

abbrev pub is_keyed : BinaryOperator → Bool
is_keyed o = takes_key (es.conversion_of o)

-- ---- where none is, the plan of the conversions and the operator is the operator alone

abbrev pub OperandAsItIs : Type 0
OperandAsItIs = (tables : Tables) (inputs : Given) (set : BuiltIns) (functions : List FunctionCode) (E : Enters) (o : UnaryOperator) (v : Val) (s : State) → IsLabel v.label → converts_operand o v.value ≡ false
    → unary_value (planned tables inputs set functions) E o v s ≡ as_plan operations.Value ((labelled tables inputs set functions).unary o v s)

abbrev pub OperandsAsTheyAre : Type 0
OperandsAsTheyAre = (tables : Tables) (inputs : Given) (set : BuiltIns) (functions : List FunctionCode) (E : Enters) (o : BinaryOperator) (v u : Val) (s : State) → IsLabel v.label → IsLabel u.label → is_keyed o ≡ false → converts o v.value u.value ≡ false
    → binary_values (planned tables inputs set functions) E o v u s ≡ as_plan operations.Value ((labelled tables inputs set functions).binary o v u s)
