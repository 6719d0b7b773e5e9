use Rattle.std.proofs.Common.{◌≡◌, ℕ, List, length}
use Rattle.flow_policy.specs.Policies.{Tables}
use Rattle.flow_policy.specs.Inputs.{Given}
use Rattle.js_ast.specs.Functions.{FunctionCode}
use Rattle.es_meaning.specs.Environments.{Env}
use Rattle.es_meaning.specs.BuiltIns.{BuiltIns}
use Rattle.flow_meaning.specs.Scopes.{State}
use Rattle.step_statements.specs.Clauses.{by_default}
use Rattle.step_statements.proofs.clauses.default_clause.Given as goal

abbrev pub invariant-loop-clause : goal.invariant-loop-clause
invariant-loop-clause l = (tables : Tables) (inputs : Given) (set : BuiltIns) (functions : List FunctionCode) (e : Env ℕ) (s : State) → by_default tables inputs set functions l.left e s ≡ by_default tables inputs set functions l.fn.clauses e s

abbrev pub decreases-loop-clause : goal.decreases-loop-clause
decreases-loop-clause l = length l.left
