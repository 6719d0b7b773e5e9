-- Variables with first values.
use Rattle.std.specs.Prelude.{ℕ, List, [], ◌∷◌, Option, Some, None}
use Rattle.flow_policy.specs.Policies.{Tables}
use Rattle.flow_policy.specs.Inputs.{Given}
use Rattle.js_ast.specs.Functions.{FunctionCode}
use Rattle.js_ast.specs.Trees.{Ident, Expr, MaybeExpr, absent, present}
use Rattle.es_meaning.specs.BuiltIns.{BuiltIns}
use Rattle.es_meaning.specs.Operations.{One, Value}
use Rattle.es_meaning.specs.Evaluation.{more_variables, variables}
use Rattle.flow_meaning.specs.Scopes.{State, Val}
use Rattle.flow_meaning.specs.Planned.{Plan, and_plan, enter_putting, planned, asking, with_result}
use Rattle.flow_meaning.specs.Tracked.{Putting}
use Rattle.continuations.specs.Settings.{entrance}

-- a variable's name, its initialiser, and the variables behind it
abbrev pub Variable : Type 0
Variable = List ℕ × Expr × List (Ident × MaybeExpr)

-- the first variable that has an initialiser
abbrev pub first_given : List (Ident × MaybeExpr) → Option Variable
first_given [] = None
first_given ((ident, absent) ∷ ds) = first_given ds
first_given ((ident, present e) ∷ ds) = Some (ident.text, e, ds)

-- a variable is given its value, and those behind it follow
abbrev pub initialised : Tables → Given → BuiltIns → List FunctionCode → Variable → ℕ → State → Plan
initialised tables inputs set functions v i = (planned tables inputs set functions).resolve One i v.0 (λ n. (planned tables inputs set functions).bind Value One ((asking tables inputs set functions).expr v.1 i) (more_variables (planned tables inputs set functions) (entrance tables inputs set functions) (asking tables inputs set functions) n v.2 i))

-- behind a put of a variable's value those that follow
abbrev pub behind_putting : Tables → Given → BuiltIns → List FunctionCode → List (Ident × MaybeExpr) → ℕ → Val → Putting → State → Plan
behind_putting tables inputs set functions ds i v p s =
    and_plan (enter_putting functions (entrance tables inputs set functions) v p s) (with_result One (λ u. variables (planned tables inputs set functions) (entrance tables inputs set functions) (asking tables inputs set functions) ds i))
