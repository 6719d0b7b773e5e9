use Rattle.std.proofs.Common.{◌≡◌, ◌-◌, ℕ, List, length}
use Rattle.flow_policy.specs.Policies.{Tables}
use Rattle.flow_policy.specs.Inputs.{Given}
use Rattle.js_ast.specs.Functions.{FunctionCode}
use Rattle.es_meaning.specs.Environments.{Env}
use Rattle.es_meaning.specs.BuiltIns.{BuiltIns}
use Rattle.flow_meaning.specs.Scopes.{State, Val}
use Rattle.step_statements.specs.Clauses.{testing}
use Rattle.step_statements.proofs.clauses.next_test.Given as goal

abbrev pub invariant-loop-clause : goal.invariant-loop-clause
invariant-loop-clause l = (tables : Tables) (inputs : Given) (set : BuiltIns) (functions : List FunctionCode) (v : Val) (e : Env ℕ) (s : State) → testing tables inputs set functions l.clauses l.number v e s ≡ testing tables inputs set functions l.clauses l.fn.from v e s

abbrev pub decreases-loop-clause : goal.decreases-loop-clause
decreases-loop-clause l = length l.clauses - l.number
