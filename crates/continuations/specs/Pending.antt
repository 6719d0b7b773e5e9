-- What pending work does with a completion, and what a machine's next move is, as plans of the labelled meaning.
use Rattle.std.specs.Prelude.{ℕ, ◌+◌, Bool, List, [], ◌∷◌, map, Option, Some, None, take, drop, reverse, codes}
use Rattle.origin_labels.specs.Label.{Label, union}
use Rattle.flow_policy.specs.Policies.{Tables}
use Rattle.flow_policy.specs.Inputs.{Given}
use Rattle.js_ast.specs.Functions.{FunctionCode}
use Rattle.es_meaning.specs.BuiltIns.{BuiltIns}
use Rattle.js_values.specs.declared.value.Labelled.{Labelled}
use Rattle.js_values.specs.Readings.{read_value}
use Rattle.js_number.specs.declared.num.Num.TheVariants as nums
use Rattle.js_number.specs.declared.primitive.Primitive.TheVariants as prims
use Rattle.js_ast.specs.Nodes.{nodes_of}
use Rattle.js_ast.specs.Views.{view_block, view_expr, view_exprs, view_items, view_properties, view_target, view_stmt, view_stmts, view_declarations, view_other_declarations, view_clauses, view_name, view_function}
use Rattle.es_meaning.specs.Outcomes.{left}
use Rattle.es_meaning.specs.Directives.{upgrade_of}
use Rattle.es_meaning.specs.Environments.{Env, with_around, with_place, called_env, thrown, returned, left_by}
use Rattle.js_ast.specs.declared.operators.BinaryOperator.{BinaryOperator}
use Rattle.js_ast.specs.Trees.{Exprs, Items, Statement, block, try_catch, try_finally, try_both, Clauses, no_clauses, case, default}
use Rattle.native_protocol.specs.Steps.{Steps}
use Rattle.es_meaning.specs.Operations.{One, Value, Ty, Visit, Ops, Rec, Act, object_of, array_of, calls}
use Rattle.es_meaning.specs.Plain.{undefined, argument_or, key_text, object_or_default, is_count, count_of as length_count}
use Rattle.es_meaning.specs.Evaluation as evaluation
use Rattle.es_meaning.specs.Evaluation.{Conversion, unconverted, compared, numbers, keyed, primitives, conversion_of, discard, give, unary_done, binary_done, has_left, compared_left, primitive_left, number_left, prefix_value, postfix_value, prefix_number, postfix_number, compound_right, with_key, arguments, properties, variables, answered_in, put_behind, unary_value, binary_values, binary_right, and_right, or_right, choose_expr, comma_right, assign_to, compound_done, more_arguments, choose_stmt, choose_stmts, more_statements_behind, more_variables, looped_value, turn_test, updated, turned_round, used, member_base, index_base, index_key, parts_of, more_values, more_items, places_of, count_of, enumerated, visit_body, visited, with_keys, visits, declarations, loop, looped, call_with, call_value, construct_value, instance_right, instance_done, jump_with, behind_expression, switched, cases, case_compared, from_default, falls_on, handled, unhandled, text_of_label}
use Rattle.flow_meaning.specs.Erased.{unlabelled}
use Rattle.flow_meaning.specs.Scopes.{Val, State, as_plain}
use Rattle.flow_meaning.specs.Planned.{Enters, an_expr, a_use, a_stmt, a_named, a_turn, a_visit, a_request, gave, jumped, Plan, Give, Ask, End, Then, and_plan, with_result, end_branch, end_round, end_call, end_construction, end_block, end_handler, end_last, end_putting, end_first, end_instance, nothing_done, planned, asking, Counted, convert_for_length, given_count, with_outcome, as_plan}
use Rattle.flow_meaning.specs.Tracked.{numbered, set_length}
use Rattle.run_state.specs.declared.outcome.SetLength.{SetLength}
use Rattle.run_state.specs.Accesses.{defines, marks_given}
use Rattle.continuations.specs.declared.continuation.Continuation.{Continuation}
use Rattle.continuations.specs.declared.continuation.Continuation.TheVariants as continuation
use Rattle.continuations.specs.declared.continuation.Control.{Control}
use Rattle.continuations.specs.declared.continuation.Control.TheVariants as control
use Rattle.run_state.specs.declared.outcome.Place.TheVariants as place
use Rattle.continuations.specs.declared.continuation.Use.{Use}
use Rattle.continuations.specs.declared.continuation.Use.TheVariants as use_as
use Rattle.continuations.specs.declared.continuation.Calling.{Calling}
use Rattle.continuations.specs.declared.continuation.Calling.TheVariants as calling
use Rattle.continuations.specs.declared.continuation.Jump.{Jump}
use Rattle.continuations.specs.declared.continuation.Target.{Target}
use Rattle.continuations.specs.declared.continuation.Target.TheVariants as target
use Rattle.continuations.specs.declared.continuation.Enumeration.{Enumeration}
use Rattle.continuations.specs.Shapes.{nth, use_of, target_of, round_of, calling_of, name_of, jump_of, waiting_of, labels_at, behind_labels, passed_labels, all_labels, statements_from, handles, finishes}
use Rattle.continuations.specs.declared.continuation.Counting.TheVariants as counting
use Rattle.continuations.specs.declared.continuation.Reason.TheVariants as reason
use Rattle.continuations.specs.Settings.{Setting, setting_of, outermost_steps, entrance}

-- how many operands a use and a reference keep
abbrev pub owns_use : Use → ℕ
owns_use use_as.GivenText = 1
owns_use _ = 0

abbrev pub owns_target : Target → ℕ
owns_target (target.Name x place.Nowhere) = 1
owns_target (target.Name x _) = 0
owns_target target.Property = 2

-- how many values lie below arguments
abbrev pub owns_calling : Calling → ℕ
owns_calling calling.Calls = 2
owns_calling calling.Constructs = 1

-- a jump that waits keeps its value
abbrev pub owns_waiting : Option Jump → ℕ
owns_waiting None = 0
owns_waiting (Some j) = 1

-- how many operands work keeps
abbrev pub owns : Continuation → ℕ
owns (continuation.BinaryDone o) = 1
owns (continuation.AssignTo t) = owns_target t
owns (continuation.CompoundDone o t) = owns_target t + 1
owns (continuation.Variable t ds) = owns_target t
owns (continuation.Argument f count rest) = owns_calling f + count
owns continuation.InstanceDone = 1
owns (continuation.Compared cs i) = 1
owns (continuation.EndNew own depth) = 1
owns (continuation.EndLast waiting) = owns_waiting waiting
owns (continuation.MemberBase how text) = owns_use how
owns (continuation.IndexBase how x) = owns_use how
owns (continuation.IndexKey how) = owns_use how + 1
owns (continuation.Property ps count) = count
owns (continuation.Item is place count) = count
owns (continuation.LengthOnce how) = 2
owns (continuation.LengthTwice how) = 2
owns (continuation.Visited e count) = count + 1
owns (continuation.ConvertedLeft o) = 1
owns (continuation.Operate o) = 1
owns continuation.KeyHas = 1
owns (continuation.KeyOf how) = owns_use how + 1
owns (continuation.Counted how o t) = owns_target t
owns (continuation.CountedNumber how o t) = owns_target t
owns (continuation.CompoundRight o x t) = owns_target t
owns (continuation.CalledBy es) = 1
owns continuation.InstanceTest = 1
owns continuation.GiveBehind = 1
owns (continuation.Answered count to) = count
owns _ = 0

-- work with the operands that it keeps
abbrev pub Task : Type 0 → Type 0
Task T = Continuation × List (Labelled T)

-- the environment of a part, from that of the work that waits for it
abbrev pub inside : Continuation → Env ℕ → Env ℕ
inside (continuation.EndRound turn depth of) e = with_around turn (labels_at (view_stmt of.now)) depth e
inside (continuation.EndLabel depth text) e = with_around Bool.false (Some text.now ∷ []) depth e
inside (continuation.EndCall own depth) e = called_env own.0 depth
inside (continuation.EndNew own depth) e = called_env own.0 depth
inside (continuation.EndHandler s own depth) e = with_place own.0 e
inside _ e = e

-- the environment of the part that is evaluated, above pending work of which the last is done first
unfoldable pub env_above : {T : Type 0} → List (Task T) → Env ℕ → Env ℕ
env_above [] e = e
env_above (w ∷ tasks) e = env_above tasks (inside w.0 e)

-- a built-in that waits has the steps that come first. What is left are those of the built-ins that wait or run inside it
abbrev pub natives_inside : Continuation → List Steps → List Steps
natives_inside (continuation.Answered count to) natives = drop 1 natives
natives_inside _ natives = natives

-- the setting of a part, and above pending work
abbrev pub setting_inside : Continuation → Setting → Setting
setting_inside w e = setting_of (natives_inside w e.natives) (inside w e.env)

unfoldable pub setting_above : {T : Type 0} → List (Task T) → Setting → Setting
setting_above [] e = e
setting_above (w ∷ tasks) e = setting_above tasks (setting_inside w.0 e)

-- the first of values, or undefined where there is none
abbrev pub first_or_undefined : List Val → Val
first_or_undefined vs = argument_or (unlabelled undefined) 0 vs

-- a branch gives a value or nothing
abbrev pub result_type : Bool → Ty
result_type Bool.true = Value
result_type Bool.false = One

-- how many values the next move has, which no work keeps. Those of a call are its arguments, of any number
abbrev pub values_of : Control → ℕ
values_of control.Value = 1
values_of (control.Jumps j) = 1
values_of (control.Call count) = count + 2
values_of (control.Construct count) = count + 1
values_of (control.Request count) = count
values_of (control.Convert h) = 1
values_of control.Compare = 2
values_of control.ConvertBeside = 2
values_of (control.Array is count) = count
values_of (control.Object ps count) = count
values_of (control.Use how x) = owns_use how
values_of (control.GiveVariable x) = 1
values_of (control.Keys e) = 1
values_of (control.Visits e count) = count + 1
values_of (control.Visit e count) = count + 2
values_of (control.Leave reason.Named) = 1
values_of _ = 0

-- the texts that values are
abbrev pub texts_of : List Val → List (List ℕ)
texts_of vs = map (λ v. key_text v.value) vs

-- the keys that a `for in` has left: the last is next
abbrev pub keys_left : List Val → List (List ℕ)
keys_left vs = reverse (texts_of (drop 1 vs))

-- a turn of a `for in`, by the object, the keys behind it and its own key, which is uppermost; and what is left of it when it is over
abbrev pub visit_of : Enumeration → ℕ → List Val → Visit Val
visit_of x count vs = record { labels = labels_at (view_stmt x.of.now); target = view_target x.target.now; body = view_stmt x.body.now; object = nth 0 vs; key = key_text (nth (count + 1) vs).value; others = keys_left (take (count + 1) vs) }

abbrev pub visit_behind : Enumeration → List Val → Visit Val
visit_behind x vs = record { labels = labels_at (view_stmt x.of.now); target = view_target x.target.now; body = view_stmt x.body.now; object = nth 0 vs; key = []; others = keys_left vs }

module _ (tables : Tables) (inputs : Given) (set : BuiltIns) (functions : List FunctionCode) where
  -- the planned reading, how what is called is entered in it, and the parts that it asks for
  abbrev O : Ops
  O = planned tables inputs set functions

  abbrev E : Enters
  E = entrance tables inputs set functions

  abbrev R : Rec O
  R = asking tables inputs set functions

  -- a `switch` with the value of the test of its first clause that is left, of all
  abbrev pub tests_of : Val → Clauses → Clauses → Env ℕ → Val → State → Plan
  tests_of v all no_clauses e u = from_default O E R all e
  tests_of v all (case c ss cs) e u = case_compared O E R v ss cs e (cases O E R v all cs e) u
  tests_of v all (default ss cs) e u = cases O E R v all cs e

  -- the statements of the first clause that are left from one on, and then the other clauses
  abbrev pub fallen : ℕ → Clauses → Env ℕ → Then
  fallen i no_clauses e came s = with_result One (falls_on O E R no_clauses e) came s
  fallen i (case c ss cs) e came s = and_plan (with_result One (more_statements_behind O R (statements_from i ss) e) came s) (with_result One (falls_on O E R cs e))
  fallen i (default ss cs) e came s = and_plan (with_result One (more_statements_behind O R (statements_from i ss) e) came s) (with_result One (falls_on O E R cs e))

  -- the handler of a `try` statement, and what it does last
  abbrev pub handler_of : Statement → Env ℕ → Val → State → Plan
  handler_of (try_catch at b ident handler) e = handled O E R ident handler e
  handler_of (try_both at b ident handler last) e = handled O E R ident handler e
  handler_of _ e = unhandled O E R

  abbrev pub last_of : Statement → Env ℕ → State → Plan
  last_of (try_finally at b last) e = R.stmt (block last) e
  last_of (try_both at b ident handler last) e = R.stmt (block last) e
  last_of _ e = nothing_done

  -- an operator with its left operand converted, beside the right one
  abbrev pub converted_left : Conversion → BinaryOperator → Val → Val → State → Plan
  converted_left compared o u v = compared_left O E o u v
  converted_left (primitives h) o u v = primitive_left O E h o u v
  converted_left numbers o u v = number_left O E o u v
  converted_left keyed o u v = has_left O u v
  converted_left unconverted o u v = binary_done O o v u

  -- what a getter gave is called with this `this` and arguments
  abbrev pub called_on : Val → Exprs → Env ℕ → Val → State → Plan
  called_on own es e f = arguments O E R (calls f own) [] es e.place

  -- the array that a literal makes of the values of its items
  abbrev pub array_act : Items → Act
  array_act items = array_of (places_of 0 items) (count_of items)

  -- the `length` of an array is given a number, by a put or by a definition
  abbrev pub sets_length : SetLength → Val → Counted
  sets_length how array n given s = as_plan Value (set_length (defines how) array.label (object_or_default array.value).0 (marks_given how) n given s)

  -- behind the second conversion of a value for it, with what the first came to
  abbrev pub end_both : Label → Counted → Val → Then
  end_both label next first =
      with_result Value (λ second s. with_outcome (numbered first s) (λ m t. with_outcome (numbered second t) (λ n. given_count (is_count m n) (length_count m) (union first.label second.label) label next)))

  -- what a setter gives is of no use
  abbrev pub behind_setter : (Unit {0} → State → Plan) → Then
  behind_setter next came s = and_plan (end_putting came s) (with_result One next)

  -- what work does with a completion, with the operands that it keeps, in its setting
  abbrev pub after : Continuation → List Val → Setting → Then
  after (continuation.Unary o) vs e = with_result Value (unary_value O E o)
  after (continuation.BinaryRight o r) vs e = with_result Value (binary_right O E R o (view_expr r.now) e.env.place)
  after (continuation.BinaryDone o) vs e = with_result Value (binary_values O E o (first_or_undefined vs))
  after (continuation.AndRight r) vs e = with_result Value (and_right O E R (view_expr r.now) e.env.place)
  after (continuation.OrRight r) vs e = with_result Value (or_right O E R (view_expr r.now) e.env.place)
  after (continuation.Choose a b) vs e = with_result Value (choose_expr O E R (view_expr a.now) (view_expr b.now) e.env.place)
  after (continuation.CommaRight r) vs e = with_result Value (comma_right O E R (view_expr r.now) e.env.place)
  after (continuation.AssignTo t) vs e = with_result Value (assign_to O E (target_of t vs))
  after (continuation.CompoundDone o t) vs e = with_result Value (compound_done O E R o (target_of t vs) (nth (owns_target t) vs))
  after (continuation.MemberBase how text) vs e = with_result Value (member_base O E R (use_of how vs) text.now e.env.place)
  after (continuation.IndexBase how x) vs e = with_result Value (index_base O E R (use_of how vs) (view_expr x.now) e.env.place)
  after (continuation.IndexKey how) vs e = with_result Value (index_key O E R (use_of how vs) e.env.place (nth (owns_use how) vs))
  after (continuation.Property ps count) vs e = with_result Value (more_values O E R (object_of (parts_of (view_properties (nodes_of ps.now)))) vs (view_properties (drop (count + 1) (nodes_of ps.now))) e.env.place)
  after (continuation.Item is place count) vs e = with_result Value (more_items O E R (array_act (view_items (nodes_of is.now))) vs (view_items (drop (place + 1) (nodes_of is.now))) e.env.place)
  after (continuation.LengthOnce how) vs e = end_first E (nth 0 vs).label (nth 1 vs) (sets_length how (nth 0 vs))
  after (continuation.LengthTwice how) vs e = end_both (nth 0 vs).label (sets_length how (nth 0 vs)) (nth 1 vs)
  after (continuation.Argument f count rest) vs e = with_result Value (more_arguments O E R (calling_of f vs) (drop (owns_calling f) vs) (view_exprs rest.now) e.env.place)
  after (continuation.Callee es) vs e = with_result Value (call_value O E R (view_exprs es.now) e.env.place)
  after (continuation.Constructor es) vs e = with_result Value (construct_value O E R (view_exprs es.now) e.env.place)
  after (continuation.InstanceRight r) vs e = with_result Value (instance_right O E R (view_expr r.now) e.env.place)
  after continuation.InstanceDone vs e = with_result Value (instance_done O E R (first_or_undefined vs))
  after (continuation.Raise x) vs e = with_result Value (behind_expression O E R (upgrade_of (view_expr x.now)) e.env)
  after continuation.Throw vs e = with_result Value (jump_with O E R thrown e.env)
  after continuation.Return vs e = with_result Value (jump_with O E R returned e.env)
  after (continuation.Switched of cs) vs e = with_result Value (switched O E R (all_labels [] (view_stmt of.now)) (view_clauses (nodes_of cs.now)) e.env)
  after (continuation.Compared cs i) vs e = with_result Value (tests_of (first_or_undefined vs) (view_clauses (nodes_of cs.now)) (view_clauses (drop i (nodes_of cs.now))) e.env)
  after (continuation.Falls cs i) vs e = fallen i (view_clauses cs.now) e.env
  after continuation.Discard vs e = with_result Value (discard O)
  after (continuation.ChooseStmt s) vs e = with_result Value (choose_stmt O E R (view_stmt s.now) e.env)
  after (continuation.ChooseStmts s t) vs e = with_result Value (choose_stmts O E R (view_stmt s.now) (view_stmt t.now) e.env)
  after (continuation.Statements ss) vs e = with_result One (more_statements_behind O R (view_stmts ss.now) e.env)
  after (continuation.Variable t ds) vs e = with_result Value (more_variables O E R (target_of t vs) (view_other_declarations ds.now) e.env.place)
  after (continuation.Looped r) vs e = with_result Value (looped_value O E R (round_of r) e.env)
  after (continuation.Declared r) vs e = with_result One (looped O E R (round_of r) e.env)
  after (continuation.Tested r) vs e = with_result Value (turn_test O E R (round_of r) e.env)
  after (continuation.Updated r) vs e = with_result Value (updated O E R (round_of r) e.env)
  after (continuation.Turned r) vs e = with_result One (turned_round O E R (round_of r) e.env)
  after (continuation.Enumerated x) vs e = with_result Value (enumerated O E R (labels_at (view_stmt x.of.now)) (view_target x.target.now) (view_stmt x.body.now) e.env)
  after (continuation.VisitBody s) vs e = with_result Value (visit_body O E R (view_stmt s.now) e.env)
  after (continuation.Visited x count) vs e = with_result One (visited O E R (visit_behind x vs) e.env)
  after (continuation.EndBranch gives depth) vs e = end_branch (result_type gives) depth
  after (continuation.EndRound turn depth of) vs e = end_round depth
  after (continuation.EndLabel depth text) vs e = end_round depth
  after (continuation.EndCall own depth) vs e = end_call depth
  after (continuation.EndNew own depth) vs e = end_construction (object_or_default (nth 0 vs).value).0 depth
  after (continuation.EndBlock s depth) vs e = end_block (handles (view_stmt s.now)) (finishes (view_stmt s.now)) (handler_of (view_stmt s.now) e.env) (last_of (view_stmt s.now) e.env) depth
  after (continuation.EndHandler s own depth) vs e = end_handler (finishes (view_stmt s.now)) (last_of (view_stmt s.now) e.env) depth
  after (continuation.EndLast waiting) vs e = end_last (waiting_of waiting vs)
  after (continuation.EndTry depth) vs e = end_round depth
  after (continuation.ConvertedLeft o) vs e = with_result Value (converted_left (conversion_of o) o (first_or_undefined vs))
  after (continuation.Operate o) vs e = with_result Value (binary_done O o (first_or_undefined vs))
  after (continuation.UnaryConverted o) vs e = with_result Value (unary_done O o)
  after continuation.KeyHas vs e = with_result Value (has_left O (first_or_undefined vs))
  after (continuation.KeyOf how) vs e = with_result Value (with_key O E R (use_of how vs) e.env.place (nth (owns_use how) vs))
  after (continuation.Counted counting.Prefix o t) vs e = with_result Value (prefix_value O E o (target_of t vs))
  after (continuation.Counted counting.Postfix o t) vs e = with_result Value (postfix_value O E o (target_of t vs))
  after (continuation.CountedNumber counting.Prefix o t) vs e = with_result Value (prefix_number O E o (target_of t vs))
  after (continuation.CountedNumber counting.Postfix o t) vs e = with_result Value (postfix_number O E o (target_of t vs))
  after (continuation.CompoundRight o x t) vs e = with_result Value (compound_right O E R o (view_expr x.now) e.env.place (target_of t vs))
  after (continuation.CalledBy es) vs e = with_result Value (called_on (first_or_undefined vs) (view_exprs es.now) e.env)
  after continuation.InstanceTest vs e = end_instance (first_or_undefined vs).label (object_or_default (first_or_undefined vs).value).0
  after continuation.GiveBehind vs e = behind_setter (give O (first_or_undefined vs))
  after (continuation.VariablesBehind ds) vs e = behind_setter (λ u. variables O E R (view_other_declarations ds.now) e.env.place)
  after (continuation.Answered count (Some to)) vs e = with_result Value (answered_in O E R (outermost_steps e.natives) vs to)
  after (continuation.Answered count None) vs e = behind_setter (put_behind O E R (outermost_steps e.natives) vs)

  -- what a machine does next, with the values that no work keeps
  abbrev pub next_plan : Control → List Val → Setting → State → Plan
  next_plan control.Value vs e s = Give (gave (first_or_undefined vs)) s
  next_plan (control.Jumps j) vs e s = Give (jumped (jump_of j (first_or_undefined vs))) s
  next_plan control.Done vs e s = Give (gave (unlabelled undefined)) s
  next_plan control.Null vs e s = Give (gave (O.literal prims.Null)) s
  next_plan (control.Bool b) vs e s = Give (gave (O.literal (prims.Bool b))) s
  next_plan (control.Number n) vs e s = Give (gave (O.literal (prims.Num (nums.Int n.now)))) s
  next_plan (control.Text text) vs e s = Give (gave (O.literal (prims.Str text.now))) s
  next_plan (control.Name text) vs e s = O.resolve Value e.env.place text.now (evaluation.read_value O E R) s
  next_plan control.This vs e s = O.resolve Value e.env.place (codes "this") (evaluation.read_value O E R) s
  next_plan (control.Object ps count) vs e s = properties O E R (object_of (parts_of (view_properties (nodes_of ps.now)))) vs (view_properties (drop count (nodes_of ps.now))) e.env.place s
  next_plan (control.Array is count) vs e s = O.act (array_act (view_items (nodes_of is.now))) vs s
  next_plan (control.GiveVariable x) vs e s = O.resolve Value e.env.place x.now.text (used O E R (use_of use_as.GivenText vs) e.env.place) s
  next_plan (control.Keys x) vs e s = with_keys O E R (labels_at (view_stmt x.of.now)) (view_target x.target.now) (view_stmt x.body.now) (nth 0 vs) e.env s
  next_plan (control.Visits x count) vs e s = visits O E R (labels_at (view_stmt x.of.now)) (view_target x.target.now) (view_stmt x.body.now) (nth 0 vs) (keys_left vs) e.env s
  next_plan (control.Visit x count) vs e s = Ask (a_visit (visit_of x count vs) e.env) s Give
  next_plan (control.Request count) vs e s = Ask (a_request (outermost_steps e.natives) vs) s Give
  next_plan (control.Call count) vs e s = call_with O E R (calling_of calling.Calls vs) (drop 2 vs) s
  next_plan (control.Construct count) vs e s = call_with O E R (calling_of calling.Constructs vs) (drop 1 vs) s
  next_plan (control.Convert h) vs e s = O.primitive h (first_or_undefined vs) E s
  next_plan control.Compare vs e s = O.comparable (nth 0 vs) (nth 1 vs) E s
  next_plan control.ConvertBeside vs e s = convert_for_length E (nth 0 vs).label (nth 1 vs) s
  next_plan (control.Function f) vs e s = O.function (view_function f.now) e.env.place s
  next_plan (control.Break turn label) vs e s = O.jump (left_by turn (text_of_label (view_name label.now))) e.env (O.literal prims.Undefined) s
  next_plan control.Return vs e s = O.jump returned e.env (O.literal prims.Undefined) s
  next_plan (control.Labelled text x) vs e s = O.round Bool.false (Some text.now ∷ []) e.env (R.stmt (view_stmt x.now)) s
  next_plan (control.Try x) vs e s = evaluation.stmt_step O E R (view_stmt x.now) e.env s
  next_plan (control.Named x n) vs e s = Ask (a_named (passed_labels n [] (view_stmt x.now)) (behind_labels n (view_stmt x.now)) e.env) s Give
  next_plan (control.Expr x) vs e s = Ask (an_expr (view_expr x.now) e.env.place) s Give
  next_plan (control.Use how x) vs e s = Ask (a_use (use_of how vs) (view_expr x.now) e.env.place) s Give
  next_plan (control.Stmt x) vs e s = Ask (a_stmt (view_stmt x.now) e.env) s Give
  next_plan (control.Block x) vs e s = Ask (a_stmt (block (view_block x.now)) e.env) s Give
  next_plan (control.Variables ds) vs e s = declarations O E R (view_declarations ds.now) e.env.place s
  next_plan (control.Turn r) vs e s = Ask (a_turn (round_of r) e.env) s Give
  next_plan (control.Loop r) vs e s = loop O E R (round_of r) e.env s
  next_plan (control.DoLoop r) vs e s = O.round Bool.false (round_of r).labels e.env (R.turn (round_of r)) s
  next_plan (control.Leave why) vs e s = End (as_plain (left (name_of why vs))) s

  module _ {T : Type 0} (reading : T → Label) where
    abbrev pub after_task : Task T → Setting → Then
    after_task w e = after w.0 (map (read_value reading) w.1) e

    -- a plan, and behind it pending work
    unfoldable pub behind : List (Task T) → Setting → Plan → Plan
    behind [] e p = p
    behind (w ∷ tasks) e p = and_plan (behind tasks (setting_inside w.0 e) p) (after_task w e)
