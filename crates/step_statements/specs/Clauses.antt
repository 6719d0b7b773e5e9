-- What the machine does with the clauses of a `switch`.
use Rattle.std.specs.Prelude.{ℕ, ◌+◌, Bool, List, drop, Option, Some, None}
use Rattle.std.specs.Borrow.{Bor}
use Rattle.flow_policy.specs.Policies.{Tables}
use Rattle.flow_policy.specs.Inputs.{Given}
use Rattle.js_ast.specs.Functions.{FunctionCode}
use Rattle.js_ast.specs.declared.trees.Clause.{Clause}
use Rattle.js_ast.specs.Views.{view_clauses, view_expr, view_stmt}
use Rattle.es_meaning.specs.Environments.{Env}
use Rattle.es_meaning.specs.Evaluation.{cases, from_default}
use Rattle.es_meaning.specs.Operations.{Value}
use Rattle.es_meaning.specs.Plain.{choose, undefined}
use Rattle.es_meaning.specs.BuiltIns.{BuiltIns}
use Rattle.flow_meaning.specs.Erased.{unlabelled}
use Rattle.flow_meaning.specs.Scopes.{State, Val}
use Rattle.flow_meaning.specs.Planned.{a_stmt, an_expr, gave, Plan, Give, Ask, with_result, planned, asking}
use Rattle.continuations.specs.Pending.{tests_of, fallen}
use Rattle.continuations.specs.Settings.{entrance}
use Rattle.step_statements.specs.declared.clauses.Found.{Found}
use Rattle.step_statements.specs.declared.clauses.Test.{Test}

module _ (tables : Tables) (inputs : Given) (set : BuiltIns) (functions : List FunctionCode) where
  -- the statements of the first of some clauses from a number on, and those of the others
  abbrev pub falling : ℕ → List Clause → Env ℕ → State → Plan
  falling i cs e = fallen tables inputs set functions i (view_clauses cs) e (gave (unlabelled undefined))

  -- a statement is asked for, and those behind it are what `Falls` says. Or there is none
  abbrev pub found_falls : Option Found → Env ℕ → State → Plan
  found_falls None e s = Give (gave (unlabelled undefined)) s
  found_falls (Some f) e s = Ask (a_stmt (view_stmt f.statement.now) e) s (fallen tables inputs set functions (f.number + 1) (view_clauses f.clauses.now) e)

  -- the clauses that are left of all, behind a value of the `switch`
  abbrev pub testing : List Clause → ℕ → Val → Env ℕ → State → Plan
  testing all i v e = cases (planned tables inputs set functions) (entrance tables inputs set functions) (asking tables inputs set functions) v (view_clauses all) (view_clauses (drop i all)) e

  -- what is done where no case is equal
  abbrev pub by_default : List Clause → Env ℕ → State → Plan
  by_default cs e = from_default (planned tables inputs set functions) (entrance tables inputs set functions) (asking tables inputs set functions) (view_clauses cs) e

  -- a test is evaluated next, or none is left
  abbrev pub found_test : List Clause → Option Test → Val → Env ℕ → State → Plan
  found_test all None v e s = by_default all e s
  found_test all (Some t) v e s = Ask (an_expr (view_expr t.test.now) e.place) s (with_result Value (tests_of tables inputs set functions v (view_clauses all) (view_clauses (drop t.number all)) e))

  -- the default clause and those behind it, or none
  abbrev pub found_default : Option (Bor (List Clause)) → Env ℕ → State → Plan
  found_default None e s = Give (gave (unlabelled undefined)) s
  found_default (Some cs) e s = falling 0 cs.now e s

  -- a case's statements and those behind it where it is equal, or else the clauses behind it
  abbrev pub chosen : List Clause → ℕ → List Clause → Bool → Val → Env ℕ → State → Plan
  chosen all i left equal v e = choose equal (falling 0 left e) (testing all (i + 1) v e)
