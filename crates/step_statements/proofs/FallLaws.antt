-- The statements of clauses.
use Rattle.std.proofs.Common.{refl, sym, ap, ap₂, ◌∙◌, ◌≡◌, ◌<◌, ◌≤◌, ◌+◌, ℕ, zero, suc, List, [], ◌∷◌, length, get_or, arith}
use Rattle.flow_policy.specs.Policies.{Tables}
use Rattle.flow_policy.specs.Inputs.{Given}
use Rattle.js_ast.specs.Functions.{FunctionCode}
use Rattle.js_ast.specs.declared.trees.Clause.{Clause, out-Clause}
use Rattle.js_ast.specs.declared.trees.Stmt.{Stmt}
use Rattle.js_ast.specs.Nodes.{nodes_of}
use Rattle.js_ast.specs.Trees as trees
use Rattle.js_ast.specs.Trees.{Statements, no_statements, more_statements, Clauses, MaybeExpr, absent, present}
use Rattle.js_ast.specs.Views.{clause_by, view_clauses, view_maybe_expr, view_stmt, view_stmts}
use Rattle.js_ast.proofs.ViewLaws.{parts_clause}
use Rattle.es_meaning.specs.Environments.{Env}
use Rattle.es_meaning.specs.Evaluation.{falls, falls_on, statements, more_statements_behind}
use Rattle.es_meaning.specs.Operations.{One}
use Rattle.es_meaning.specs.Plain.{undefined}
use Rattle.es_meaning.specs.BuiltIns.{BuiltIns}
use Rattle.flow_meaning.specs.Erased.{unlabelled}
use Rattle.flow_meaning.specs.Scopes.{State}
use Rattle.flow_meaning.specs.Planned.{a_stmt, gave, Plan, Give, Ask, and_plan, with_result, planned, asking}
use Rattle.continuations.specs.Pending.{fallen}
use Rattle.continuations.specs.Shapes.{statements_from}
use Rattle.continuations.specs.Settings.{entrance}
use Rattle.step_statements.specs.Clauses.{falling}

-- ---- statements from a number on

from_past : (ss : List Stmt) (i : ℕ) → length ss ≤ i → statements_from i (view_stmts ss) ≡ no_statements
from_past [] zero past = refl
from_past [] (suc i) past = refl
from_past (s ∷ ss) zero past = absurd (omega (arith, past))
from_past (s ∷ ss) (suc i) past = from_past ss i (omega (arith, past))

from_there : (ss : List Stmt) (i : ℕ) (d : Stmt) → i < length ss → statements_from i (view_stmts ss) ≡ more_statements (view_stmt (get_or ss i d)) (statements_from (i + 1) (view_stmts ss))
from_there [] i d lt = absurd (omega (arith, lt))
from_there (s ∷ ss) zero d lt = refl
from_there (s ∷ ss) (suc i) d lt =
    let more : suc (i + 1) ≡ suc i + 1 = omega arith in
    from_there ss i d (omega (arith, lt)) ∙ ap (λ n. more_statements (view_stmt (get_or ss i d)) (statements_from n (view_stmts (s ∷ ss)))) more

module _ (tables : Tables) (inputs : Given) (set : BuiltIns) (functions : List FunctionCode) (e : Env ℕ) where
  -- what the statements of a clause do, in front of others
  abbrev of_clause : ℕ → Statements → Clauses → State → Plan
  of_clause i ss cs s = and_plan (statements (planned tables inputs set functions) (asking tables inputs set functions) (statements_from i ss) e s) (with_result One (falls_on (planned tables inputs set functions) (entrance tables inputs set functions) (asking tables inputs set functions) cs e))

  clause_falls : (i : ℕ) (test : MaybeExpr) (ss : Statements) (cs : Clauses) (s : State) → fallen tables inputs set functions i (clause_by test ss cs) e (gave (unlabelled undefined)) s ≡ of_clause i ss cs s
  unfolding more_statements_behind
  clause_falls i absent ss cs s = refl
  clause_falls i (present c) ss cs s = refl

  fallen_parts : (i : ℕ) (c : Clause) (cs : List Clause) (s : State) → falling tables inputs set functions i (c ∷ cs) e s ≡ of_clause i (view_stmts (nodes_of (out-Clause c).body)) (view_clauses cs) s
  fallen_parts i c cs s = ap (λ k. fallen tables inputs set functions i k e (gave (unlabelled undefined)) s) (parts_clause c (view_clauses cs))
      ∙ clause_falls i (view_maybe_expr (out-Clause c).test) (view_stmts (nodes_of (out-Clause c).body)) (view_clauses cs) s

  pub falls_first : (cs : Clauses) (s : State) → fallen tables inputs set functions 0 cs e (gave (unlabelled undefined)) s ≡ falls (planned tables inputs set functions) (entrance tables inputs set functions) (asking tables inputs set functions) cs e s
  unfolding falls falls_on more_statements_behind
  falls_first trees.no_clauses s = refl
  falls_first (trees.case c ss cs) s = refl
  falls_first (trees.default ss cs) s = refl

  found_here : (i : ℕ) (test : MaybeExpr) (st : trees.Statement) (ss : Statements) (cs : Clauses) (s : State) → statements_from i ss ≡ more_statements st (statements_from (i + 1) ss)
      → Ask (a_stmt st e) s (fallen tables inputs set functions (i + 1) (clause_by test ss cs) e) ≡ of_clause i ss cs s
  unfolding statements more_statements_behind
  found_here i absent st ss cs s there = sym (ap (λ r. and_plan (statements (planned tables inputs set functions) (asking tables inputs set functions) r e s) (with_result One (falls_on (planned tables inputs set functions) (entrance tables inputs set functions) (asking tables inputs set functions) cs e))) there)
  found_here i (present c) st ss cs s there = sym (ap (λ r. and_plan (statements (planned tables inputs set functions) (asking tables inputs set functions) r e s) (with_result One (falls_on (planned tables inputs set functions) (entrance tables inputs set functions) (asking tables inputs set functions) cs e))) there)

  none_here : (i : ℕ) (ss : Statements) (cs : Clauses) (s : State) → statements_from i ss ≡ no_statements → of_clause i ss cs s ≡ falls (planned tables inputs set functions) (entrance tables inputs set functions) (asking tables inputs set functions) cs e s
  unfolding statements falls_on
  none_here i ss cs s none = ap (λ r. and_plan (statements (planned tables inputs set functions) (asking tables inputs set functions) r e s) (with_result One (falls_on (planned tables inputs set functions) (entrance tables inputs set functions) (asking tables inputs set functions) cs e))) none

  -- a statement of the first clause
  pub falls_at : (i : ℕ) (c : Clause) (cs left : List Clause) (items : List Stmt) (st : Stmt) (s : State) → left ≡ c ∷ cs → items ≡ nodes_of (out-Clause c).body → i < length items → st ≡ get_or items i st
      → Ask (a_stmt (view_stmt st) e) s (fallen tables inputs set functions (i + 1) (view_clauses left) e) ≡ falling tables inputs set functions i left e s
  falls_at i c cs left items st s is held lt here =
      let ss = view_stmts (nodes_of (out-Clause c).body) in
      let there : statements_from i ss ≡ more_statements (view_stmt st) (statements_from (i + 1) ss) = ap (λ xs. statements_from i (view_stmts xs)) (sym held) ∙ from_there items i st lt ∙ ap₂ (λ x xs. more_statements (view_stmt x) (statements_from (i + 1) (view_stmts xs))) (sym here) held in
      ap (λ k. Ask (a_stmt (view_stmt st) e) s (fallen tables inputs set functions (i + 1) k e)) (ap view_clauses is ∙ parts_clause c (view_clauses cs))
      ∙ found_here i (view_maybe_expr (out-Clause c).test) (view_stmt st) ss (view_clauses cs) s there
      ∙ sym (fallen_parts i c cs s) ∙ ap (λ ks. falling tables inputs set functions i ks e s) (sym is)

  -- none is left there
  pub falls_behind : (i : ℕ) (c : Clause) (cs left : List Clause) (items : List Stmt) (s : State) → left ≡ c ∷ cs → items ≡ nodes_of (out-Clause c).body → length items ≤ i
      → falling tables inputs set functions 0 cs e s ≡ falling tables inputs set functions i left e s
  falls_behind i c cs left items s is held past =
      let ss = view_stmts (nodes_of (out-Clause c).body) in
      let none : statements_from i ss ≡ no_statements = ap (λ xs. statements_from i (view_stmts xs)) (sym held) ∙ from_past items i past in
      falls_first (view_clauses cs) s ∙ sym (none_here i ss (view_clauses cs) s none) ∙ sym (fallen_parts i c cs s) ∙ ap (λ ks. falling tables inputs set functions i ks e s) (sym is)

  pub falls_none : (i : ℕ) (left : List Clause) (s : State) → left ≡ [] → Give (gave (unlabelled undefined)) s ≡ falling tables inputs set functions i left e s
  unfolding falls falls_on
  falls_none i left s none = ap (λ ks. falling tables inputs set functions i ks e s) (sym none)
