-- At what pending work is evaluated: an environment, and the built-ins that wait inside it.
use Rattle.std.specs.Prelude.{ℕ, List, [], ◌∷◌}
use Rattle.flow_policy.specs.Policies.{Tables}
use Rattle.flow_policy.specs.Inputs.{Given}
use Rattle.js_ast.specs.Functions.{FunctionCode}
use Rattle.native_protocol.specs.Steps.{Steps, throws_type_error}
use Rattle.es_meaning.specs.BuiltIns.{BuiltIns}
use Rattle.es_meaning.specs.Environments.{Env}
use Rattle.es_meaning.specs.Evaluation.{entering}
use Rattle.flow_meaning.specs.Planned.{Enters, planned, asking}

-- the environment of a part, and what is left of the steps of the built-ins that wait in it or run, the outermost first
pub record Setting : Type 0 where
  pub env : Env ℕ
  pub natives : List Steps

abbrev pub setting_of : List Steps → Env ℕ → Setting
setting_of natives e = record { env = e; natives = natives }

-- the steps of the outermost of them. Where none is there they are never asked for
abbrev pub outermost_steps : List Steps → Steps
outermost_steps [] = throws_type_error
outermost_steps (steps ∷ natives) = steps

-- how what is called is entered in plans
abbrev pub entrance : Tables → Given → BuiltIns → List FunctionCode → Enters
entrance tables inputs set functions = entering (planned tables inputs set functions) (asking tables inputs set functions) set
