-- The tests of clauses, and the default clause.
use Rattle.std.proofs.Common.{refl, sym, ap, subst, ◌∙◌, ◌≡◌, ◌<◌, ◌≤◌, ◌+◌, ℕ, Bool, true, false, List, ◌∷◌, length, get_or, drop, Option, Some, None, is_some, Ok}
use Rattle.std.proofs.lemmas.Bool.{false≢true}
use Rattle.std.proofs.lemmas.List.{drop_all, drop_more}
use Rattle.origin_labels.specs.Label.{union}
use Rattle.flow_policy.specs.Policies.{Tables}
use Rattle.flow_policy.specs.Inputs.{Given}
use Rattle.js_ast.specs.Functions.{FunctionCode}
use Rattle.js_ast.specs.declared.trees.Clause.{Clause, out-Clause}
use Rattle.js_ast.specs.declared.trees.Expr.{Expr}
use Rattle.js_ast.specs.declared.operators.BinaryOperator.TheVariants as operator
use Rattle.js_number.specs.declared.primitive.Primitive.TheVariants as prims
use Rattle.js_ast.specs.Nodes.{nodes_of}
use Rattle.js_ast.specs.Trees as trees
use Rattle.js_ast.specs.Trees.{Statements, Clauses, MaybeExpr, absent, present}
use Rattle.js_ast.specs.Views.{clause_by, view_clause, view_clauses, view_expr, view_maybe_expr, view_stmts}
use Rattle.js_ast.proofs.ViewLaws.{parts_clause}
use Rattle.es_meaning.specs.Environments.{Env}
use Rattle.es_meaning.specs.Evaluation.{case_chosen, case_compared, cases, falls, falls_on, from_default, statements}
use Rattle.es_meaning.specs.Operations.{One, Value}
use Rattle.es_meaning.specs.Operators.{binary_of}
use Rattle.es_meaning.specs.Plain.{choose, undefined}
use Rattle.es_meaning.specs.BuiltIns.{BuiltIns}
use Rattle.flow_meaning.specs.Erased.{unlabelled}
use Rattle.flow_meaning.specs.Scopes.{State, Val, raise, raised_in}
use Rattle.flow_meaning.specs.Tracked.{given}
use Rattle.flow_meaning.specs.Planned.{an_expr, gave, Plan, Ask, and_plan, as_plan, with_result, planned, asking}
use Rattle.continuations.specs.Pending.{tests_of, fallen}
use Rattle.continuations.specs.Settings.{entrance}
use Rattle.step_statements.specs.Clauses.{by_default, chosen, falling, testing}
use Rattle.step_statements.proofs.FallLaws.{falls_first}

-- clauses from a place on
here : (all : List Clause) (i : ℕ) (c : Clause) → i < length all → c ≡ get_or all i c → view_clauses (drop i all) ≡ clause_by (view_maybe_expr (out-Clause c).test) (view_stmts (nodes_of (out-Clause c).body)) (view_clauses (drop (i + 1) all))
here all i c lt there = ap view_clauses (drop_more all i c lt) ∙ ap (λ d. view_clause d (view_clauses (drop (i + 1) all))) (sym there) ∙ parts_clause c (view_clauses (drop (i + 1) all))

module _ (tables : Tables) (inputs : Given) (set : BuiltIns) (functions : List FunctionCode) (e : Env ℕ) where
  case_here : (v : Val) (all left : Clauses) (x : trees.Expr) (ss : Statements) (cs : Clauses) (s : State) → left ≡ trees.case x ss cs
      → Ask (an_expr x e.place) s (with_result Value (tests_of tables inputs set functions v all left e)) ≡ cases (planned tables inputs set functions) (entrance tables inputs set functions) (asking tables inputs set functions) v all left e s
  unfolding cases
  case_here v all left x ss cs s is = subst (λ l. Ask (an_expr x e.place) s (with_result Value (tests_of tables inputs set functions v all l e)) ≡ cases (planned tables inputs set functions) (entrance tables inputs set functions) (asking tables inputs set functions) v all l e s) (sym is) refl

  default_here : (v : Val) (all left : Clauses) (ss : Statements) (cs : Clauses) (s : State) → left ≡ trees.default ss cs → cases (planned tables inputs set functions) (entrance tables inputs set functions) (asking tables inputs set functions) v all cs e s ≡ cases (planned tables inputs set functions) (entrance tables inputs set functions) (asking tables inputs set functions) v all left e s
  unfolding cases
  default_here v all left ss cs s is = sym (ap (λ l. cases (planned tables inputs set functions) (entrance tables inputs set functions) (asking tables inputs set functions) v all l e s) is)

  none_left : (v : Val) (all left : Clauses) (s : State) → left ≡ trees.no_clauses → from_default (planned tables inputs set functions) (entrance tables inputs set functions) (asking tables inputs set functions) all e s ≡ cases (planned tables inputs set functions) (entrance tables inputs set functions) (asking tables inputs set functions) v all left e s
  unfolding cases
  none_left v all left s is = sym (ap (λ l. cases (planned tables inputs set functions) (entrance tables inputs set functions) (asking tables inputs set functions) v all l e s) is)

  -- the test of a case
  pub test_found : (all : List Clause) (i : ℕ) (c : Clause) (t : Expr) (v : Val) (s : State) → i < length all → c ≡ get_or all i c → (out-Clause c).test ≡ Some t
      → Ask (an_expr (view_expr t) e.place) s (with_result Value (tests_of tables inputs set functions v (view_clauses all) (view_clauses (drop i all)) e)) ≡ testing tables inputs set functions all i v e s
  test_found all i c t v s lt there is =
      case_here v (view_clauses all) (view_clauses (drop i all)) (view_expr t) (view_stmts (nodes_of (out-Clause c).body)) (view_clauses (drop (i + 1) all)) s
      (here all i c lt there ∙ ap (λ o. clause_by (view_maybe_expr o) (view_stmts (nodes_of (out-Clause c).body)) (view_clauses (drop (i + 1) all))) is)

  -- the default clause is passed
  pub default_passed : (all : List Clause) (i next : ℕ) (c : Clause) (v : Val) (s : State) → i < length all → c ≡ get_or all i c → (out-Clause c).test ≡ None → next ≡ i + 1
      → testing tables inputs set functions all next v e s ≡ testing tables inputs set functions all i v e s
  default_passed all i next c v s lt there is more =
      ap (λ n. testing tables inputs set functions all n v e s) more
      ∙ default_here v (view_clauses all) (view_clauses (drop i all)) (view_stmts (nodes_of (out-Clause c).body)) (view_clauses (drop (i + 1) all)) s
      (here all i c lt there ∙ ap (λ o. clause_by (view_maybe_expr o) (view_stmts (nodes_of (out-Clause c).body)) (view_clauses (drop (i + 1) all))) is)

  -- no clause is left
  pub tests_end : (all : List Clause) (i : ℕ) (v : Val) (s : State) → length all ≤ i → by_default tables inputs set functions all e s ≡ testing tables inputs set functions all i v e s
  tests_end all i v s past = none_left v (view_clauses all) (view_clauses (drop i all)) s (ap view_clauses (drop_all i all past))

  -- ---- the default clause

  begins_there : (o : Option Expr) (ss : Statements) (cs : Clauses) (s : State) → is_some o ≡ false → fallen tables inputs set functions 0 (clause_by (view_maybe_expr o) ss cs) e (gave (unlabelled undefined)) s ≡ from_default (planned tables inputs set functions) (entrance tables inputs set functions) (asking tables inputs set functions) (clause_by (view_maybe_expr o) ss cs) e s
  begins_there None ss cs s none = falls_first tables inputs set functions e (trees.default ss cs) s
  begins_there (Some t) ss cs s none = absurd (false≢true (sym none))

  pub default_found : (c : Clause) (cs left : List Clause) (s : State) → left ≡ c ∷ cs → is_some (out-Clause c).test ≡ false → falling tables inputs set functions 0 left e s ≡ by_default tables inputs set functions left e s
  default_found c cs left s is none =
      let seen = ap view_clauses is ∙ parts_clause c (view_clauses cs) in
      ap (λ k. fallen tables inputs set functions 0 k e (gave (unlabelled undefined)) s) seen
      ∙ begins_there (out-Clause c).test (view_stmts (nodes_of (out-Clause c).body)) (view_clauses cs) s none
      ∙ sym (ap (λ k. from_default (planned tables inputs set functions) (entrance tables inputs set functions) (asking tables inputs set functions) k e s) seen)

  -- ---- a case that is compared

  chosen_equal : (b : Bool) (x : trees.Expr) (ss : Statements) (cs : Clauses) (others : State → Plan) (s : State)
      → choose b (fallen tables inputs set functions 0 (trees.case x ss cs) e (gave (unlabelled undefined))) others s ≡ choose b ((planned tables inputs set functions).bind One One (statements (planned tables inputs set functions) (asking tables inputs set functions) ss e) (falls_on (planned tables inputs set functions) (entrance tables inputs set functions) (asking tables inputs set functions) cs e)) others s
  unfolding falls falls_on
  chosen_equal true x ss cs others s = falls_first tables inputs set functions e (trees.case x ss cs) s
  chosen_equal false x ss cs others s = refl

  case_equal : (v u : Val) (b : Bool) (x : trees.Expr) (ss : Statements) (cs : Clauses) (others : State → Plan) (s : State) → binary_of operator.StrictEqual v.value u.value ≡ Ok (prims.Bool b)
      → choose b (fallen tables inputs set functions 0 (trees.case x ss cs) e (gave (unlabelled undefined))) others (raised_in (union v.label u.label) s) ≡ case_compared (planned tables inputs set functions) (entrance tables inputs set functions) (asking tables inputs set functions) v ss cs e others u s
  unfolding case_compared case_chosen raise given
  case_equal v u b x ss cs others s is =
      chosen_equal b x ss cs others (raised_in (union v.label u.label) s)
      ∙ sym (ap (λ r. and_plan (as_plan Value (given (union v.label u.label) r s)) (with_result Value (case_chosen (planned tables inputs set functions) (entrance tables inputs set functions) (asking tables inputs set functions) ss cs e others))) is)

  case_by : (v u : Val) (b : Bool) (all : Clauses) (o : Option Expr) (ss : Statements) (cs : Clauses) (s : State) → binary_of operator.StrictEqual v.value u.value ≡ Ok (prims.Bool b) → is_some o ≡ true
      → choose b (fallen tables inputs set functions 0 (clause_by (view_maybe_expr o) ss cs) e (gave (unlabelled undefined))) (cases (planned tables inputs set functions) (entrance tables inputs set functions) (asking tables inputs set functions) v all cs e) (raised_in (union v.label u.label) s) ≡ tests_of tables inputs set functions v all (clause_by (view_maybe_expr o) ss cs) e u s
  case_by v u b all None ss cs s is some = absurd (false≢true some)
  case_by v u b all (Some t) ss cs s is some = case_equal v u b (view_expr t) ss cs (cases (planned tables inputs set functions) (entrance tables inputs set functions) (asking tables inputs set functions) v all cs e) s is

  default_by : (v u : Val) (all : Clauses) (o : Option Expr) (ss : Statements) (cs : Clauses) (s : State) → is_some o ≡ false
      → cases (planned tables inputs set functions) (entrance tables inputs set functions) (asking tables inputs set functions) v all (clause_by (view_maybe_expr o) ss cs) e s ≡ tests_of tables inputs set functions v all (clause_by (view_maybe_expr o) ss cs) e u s
  unfolding cases
  default_by v u all None ss cs s none = refl
  default_by v u all (Some t) ss cs s none = absurd (false≢true (sym none))

  -- the case with a number, and the clauses from it on
  pub case_found : (all left : List Clause) (i : ℕ) (c : Clause) (v u : Val) (b : Bool) (s : State) → i < length all → c ≡ get_or all i c → is_some (out-Clause c).test ≡ true → left ≡ drop i all → binary_of operator.StrictEqual v.value u.value ≡ Ok (prims.Bool b)
      → chosen tables inputs set functions all i left b v e (raised_in (union v.label u.label) s) ≡ tests_of tables inputs set functions v (view_clauses all) (view_clauses (drop i all)) e u s
  case_found all left i c v u b s lt there some cut is =
      let seen = here all i c lt there in
      ap (λ k. choose b (fallen tables inputs set functions 0 k e (gave (unlabelled undefined))) (testing tables inputs set functions all (i + 1) v e) (raised_in (union v.label u.label) s)) (ap view_clauses cut ∙ seen)
      ∙ case_by v u b (view_clauses all) (out-Clause c).test (view_stmts (nodes_of (out-Clause c).body)) (view_clauses (drop (i + 1) all)) s is some
      ∙ sym (ap (λ k. tests_of tables inputs set functions v (view_clauses all) k e u s) seen)

  -- the default clause has that number
  pub default_compared : (all : List Clause) (i : ℕ) (c : Clause) (v u : Val) (s : State) → i < length all → c ≡ get_or all i c → is_some (out-Clause c).test ≡ false
      → testing tables inputs set functions all i v e s ≡ tests_of tables inputs set functions v (view_clauses all) (view_clauses (drop i all)) e u s
  default_compared all i c v u s lt there none =
      let seen = here all i c lt there in
      ap (λ k. cases (planned tables inputs set functions) (entrance tables inputs set functions) (asking tables inputs set functions) v (view_clauses all) k e s) seen
      ∙ default_by v u (view_clauses all) (out-Clause c).test (view_stmts (nodes_of (out-Clause c).body)) (view_clauses (drop (i + 1) all)) s none
      ∙ sym (ap (λ k. tests_of tables inputs set functions v (view_clauses all) k e u s) seen)

  -- no clause has it
  pub none_compared : (all : List Clause) (i : ℕ) (v u : Val) (s : State) → length all ≤ i → testing tables inputs set functions all i v e s ≡ tests_of tables inputs set functions v (view_clauses all) (view_clauses (drop i all)) e u s
  none_compared all i v u s past = sym (tests_end all i v s past) ∙ sym (ap (λ k. tests_of tables inputs set functions v (view_clauses all) k e u s) (ap view_clauses (drop_all i all past)))
