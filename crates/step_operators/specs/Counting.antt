-- `++` and `--` behind the old value as a number.
use Rattle.std.specs.Prelude.{List}
use Rattle.flow_policy.specs.Policies.{Tables}
use Rattle.flow_policy.specs.Inputs.{Given}
use Rattle.js_ast.specs.Functions.{FunctionCode}
use Rattle.js_ast.specs.declared.operators.BinaryOperator.{BinaryOperator}
use Rattle.es_meaning.specs.BuiltIns.{BuiltIns}
use Rattle.es_meaning.specs.Evaluation.{assign_giving, assign_to, postfix_by, postfix_number, prefix_by, prefix_number}
use Rattle.flow_meaning.specs.Planned.{Plan, planned}
use Rattle.flow_meaning.specs.Scopes.{Val, State}
use Rattle.flow_meaning.specs.Tracked.{Reference}
use Rattle.continuations.specs.declared.continuation.Counting.{Counting}
use Rattle.continuations.specs.declared.continuation.Counting.TheVariants.{Prefix, Postfix}
use Rattle.continuations.specs.Settings.{entrance}

-- the old value as a number, and then that
abbrev pub numbered_by : Counting → Tables → Given → BuiltIns → List FunctionCode → BinaryOperator → Reference → Val → State → Plan
numbered_by Prefix tables inputs set functions o n v = prefix_number (planned tables inputs set functions) (entrance tables inputs set functions) o n v
numbered_by Postfix tables inputs set functions o n v = postfix_number (planned tables inputs set functions) (entrance tables inputs set functions) o n v

-- one more or less, and then the reference is given that
abbrev pub changed_by : Counting → Tables → Given → BuiltIns → List FunctionCode → BinaryOperator → Reference → Val → State → Plan
changed_by Prefix tables inputs set functions o n old = prefix_by (planned tables inputs set functions) (entrance tables inputs set functions) o n old
changed_by Postfix tables inputs set functions o n old = postfix_by (planned tables inputs set functions) (entrance tables inputs set functions) o n old

-- the new number is given, and it or the old one is the value
abbrev pub given_by : Counting → Tables → Given → BuiltIns → List FunctionCode → Reference → Val → Val → State → Plan
given_by Prefix tables inputs set functions n old v = assign_to (planned tables inputs set functions) (entrance tables inputs set functions) n v
given_by Postfix tables inputs set functions n old v = assign_giving (planned tables inputs set functions) (entrance tables inputs set functions) n old v
