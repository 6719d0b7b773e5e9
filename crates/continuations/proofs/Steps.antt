-- The first steps of operators and of lists of statements.
use Rattle.std.proofs.Common.{refl, ◌≡◌, ◌<◌, ℕ, true, false, List, [], ◌∷◌, ◌++◌, map, length, Option, None, IsSome, subst, arith}
use Rattle.std.proofs.lemmas.List.{map-append}
use Rattle.origin_labels.specs.Label.{Label, bottom}
use Rattle.flow_frames.specs.declared.kind.Kind.TheVariants as kind
use Rattle.flow_policy.specs.Policies.{Tables}
use Rattle.flow_policy.specs.Inputs.{Given}
use Rattle.js_ast.specs.Functions.{FunctionCode}
use Rattle.es_meaning.specs.BuiltIns.{BuiltIns}
use Rattle.js_values.specs.declared.value.Labelled.{Labelled}
use Rattle.js_values.specs.Readings.{read_value}
use Rattle.js_ast.specs.declared.operators.BinaryOperator.{BinaryOperator}
use Rattle.js_ast.specs.declared.operators.BinaryOperator.TheVariants as binary_operator
use Rattle.js_ast.specs.Trees.{Expr, Exprs, no_exprs, more_exprs, Statement, Statements, no_statements, more_statements}
use Rattle.js_ast.specs.declared.trees.Expr as code
use Rattle.js_ast.specs.declared.trees.Stmt.{Stmt}
use Rattle.js_ast.specs.Views.{view_exprs, view_stmts}
use Rattle.es_meaning.specs.Environments.{Env, with_around}
use Rattle.es_meaning.specs.Operations.{One, Value, Calling, Round}
use Rattle.es_meaning.specs.Plain.{undefined}
use Rattle.es_meaning.specs.Evaluation.{binary_step, binary_right, call_with, arguments, more_arguments, statements, more_statements_behind, loop, tested, turn_step, turned_round}
use Rattle.continuations.specs.Shapes.{evaluates_both}
use Rattle.flow_meaning.specs.Erased.{unlabelled}
use Rattle.flow_meaning.specs.Scopes.{Val, State, pushed_on}
use Rattle.flow_meaning.specs.Planned.{an_expr, a_stmt, gave, Give, Ask, and_plan, end_round, with_result, planned, asking}
use Rattle.continuations.specs.Settings.{entrance}

pub statements_none : (tables : Tables) (inputs : Given) (set : BuiltIns) (functions : List FunctionCode) (e : Env ℕ) (s : State) → statements (planned tables inputs set functions) (asking tables inputs set functions) no_statements e s ≡ Give (gave (unlabelled undefined)) s
unfolding statements
statements_none tables inputs set functions e s = refl

pub statements_more : (tables : Tables) (inputs : Given) (set : BuiltIns) (functions : List FunctionCode) (t : Statement) (ts : Statements) (e : Env ℕ) (s : State)
    → statements (planned tables inputs set functions) (asking tables inputs set functions) (more_statements t ts) e s ≡ Ask (a_stmt t e) s (with_result One (more_statements_behind (planned tables inputs set functions) (asking tables inputs set functions) ts e))
unfolding statements more_statements_behind
statements_more tables inputs set functions t ts e s = refl

pub both_operands : (tables : Tables) (inputs : Given) (set : BuiltIns) (functions : List FunctionCode) (o : BinaryOperator) (l r : Expr) (i : ℕ) (s : State) → evaluates_both o ≡ true
    → binary_step (planned tables inputs set functions) (entrance tables inputs set functions) (asking tables inputs set functions) l o r i s ≡ Ask (an_expr l i) s (with_result Value (binary_right (planned tables inputs set functions) (entrance tables inputs set functions) (asking tables inputs set functions) o r i))
unfolding binary_step
both_operands tables inputs set functions binary_operator.And l r i s e = cc e
both_operands tables inputs set functions binary_operator.Or l r i s e = cc e
both_operands tables inputs set functions binary_operator.Instanceof l r i s e = cc e
both_operands tables inputs set functions o l r i s e = refl

-- a slice without a first statement is empty
pub nothing_first : {A : Type 0} → (list : List Stmt) (first : Option A) → (0 < length list → IsSome first) → first ≡ None → view_stmts list ≡ no_statements
nothing_first [] first has none = refl
nothing_first (s ∷ ss) first has none = let no : false ≡ true = subst (λ f. IsSome f) none (has (omega arith)) in cc no

pub no_first_argument : {A : Type 0} → (list : List code.Expr) (first : Option A) → (0 < length list → IsSome first) → first ≡ None → view_exprs list ≡ no_exprs
no_first_argument [] first has none = refl
no_first_argument (s ∷ ss) first has none = let no : false ≡ true = subst (λ f. IsSome f) none (has (omega arith)) in cc no

pub arguments_none : (tables : Tables) (inputs : Given) (set : BuiltIns) (functions : List FunctionCode) (f : Calling Val) (vs : List Val) (i : ℕ) (s : State) → arguments (planned tables inputs set functions) (entrance tables inputs set functions) (asking tables inputs set functions) f vs no_exprs i s ≡ call_with (planned tables inputs set functions) (entrance tables inputs set functions) (asking tables inputs set functions) f vs s
unfolding arguments
arguments_none tables inputs set functions f vs i s = refl

pub arguments_more : (tables : Tables) (inputs : Given) (set : BuiltIns) (functions : List FunctionCode) (f : Calling Val) (vs : List Val) (e : Expr) (es : Exprs) (i : ℕ) (s : State)
    → arguments (planned tables inputs set functions) (entrance tables inputs set functions) (asking tables inputs set functions) f vs (more_exprs e es) i s ≡ Ask (an_expr e i) s (with_result Value (more_arguments (planned tables inputs set functions) (entrance tables inputs set functions) (asking tables inputs set functions) f vs es i))
unfolding arguments more_arguments
arguments_more tables inputs set functions f vs e es i s = refl

-- what the labels of values mean, one more behind them
pub values_more : {T : Type 0} → (reading : T → Label) (vs : List (Labelled T)) (v : Labelled T) → map (read_value reading) (vs ++ v ∷ []) ≡ map (read_value reading) vs ++ read_value reading v ∷ []
values_more reading vs v = map-append (read_value reading) vs (v ∷ [])

-- a loop opens its frame
pub loop_step : (tables : Tables) (inputs : Given) (set : BuiltIns) (functions : List FunctionCode) (round : Round) (e : Env ℕ) (s : State)
    → loop (planned tables inputs set functions) (entrance tables inputs set functions) (asking tables inputs set functions) round e s ≡ and_plan (tested (planned tables inputs set functions) (entrance tables inputs set functions) (asking tables inputs set functions) round (with_around false round.labels (length s.frames) e) (pushed_on kind.Loop bottom s)) (end_round (length s.frames))
unfolding loop
loop_step tables inputs set functions round e s = refl

-- a turn: the body in its frame, and what stands behind it
pub turn_parts : (tables : Tables) (inputs : Given) (set : BuiltIns) (functions : List FunctionCode) (round : Round) (e : Env ℕ) (s : State)
    → turn_step (planned tables inputs set functions) (entrance tables inputs set functions) (asking tables inputs set functions) round e s ≡ and_plan ((planned tables inputs set functions).round true round.labels e ((asking tables inputs set functions).stmt round.body) s) (with_result One (turned_round (planned tables inputs set functions) (entrance tables inputs set functions) (asking tables inputs set functions) round e))
unfolding turn_step
turn_parts tables inputs set functions round e s = refl
