-- Whatever a machine's pending work is: performing its plan only adds lines, behind those that the state has.
use Rattle.std.proofs.Common.{ℕ, ◌+◌, List, [], ◌∷◌, Option, Some, None, false, map, drop, codes, subst}
use Rattle.origin_labels.specs.Label.{Label}
use Rattle.flow_policy.specs.Policies.{Tables}
use Rattle.flow_policy.specs.Inputs.{Given}
use Rattle.js_ast.specs.Functions.{FunctionCode}
use Rattle.js_values.specs.Readings as readings
use Rattle.js_ast.specs.Nodes.{nodes_of}
use Rattle.js_ast.specs.declared.operators.BinaryOperator.{BinaryOperator}
use Rattle.js_ast.specs.Trees.{block, Clauses, no_clauses, case, default, getter, Ident, MaybeExpr, absent, present, Properties, no_properties, more_properties, setter, Statement, Target, value, try_catch, try_finally, try_both}
use Rattle.js_ast.specs.Views.{view_expr, view_exprs, view_items, view_properties, view_target, view_stmt, view_stmts, view_clauses, view_declarations, view_other_declarations, view_name, view_function}
use Rattle.es_meaning.specs.BuiltIns.{BuiltIns}
use Rattle.es_meaning.specs.Plain.{object_or_default}
use Rattle.es_meaning.specs.Environments.{Env, thrown, returned, left_by}
use Rattle.es_meaning.specs.Directives.{upgrade_of}
use Rattle.js_number.specs.declared.primitive.Primitive.TheVariants as prims
use Rattle.es_meaning.specs.Operations as meaning
use Rattle.es_meaning.specs.Operations.{One, Value, Act, object_of, Ops, Rec, Visit}
use Rattle.es_meaning.specs.Evaluation as evaluation
use Rattle.es_meaning.specs.Evaluation.{call_with, cases, Conversion, compared, conversion_of, give, keyed, more_values, more_variables, numbers, parts_of, primitives, properties, put_behind, read_value, text_of_label, unconverted, unhandled, used, variable_list, variables, visited, visits, with_keys}
use Rattle.es_meaning.proofs.Link as link
use Rattle.es_meaning.proofs.Link.{Rels, nils, conses, visits_of, Callings, both_call, both_construct, EnteringLinked, Link, Linked}
use Rattle.es_meaning.proofs.RequestLinks as requests
use Rattle.flow_meaning.specs.Scopes.{Val, State}
use Rattle.flow_meaning.specs.Laws.{performed_run}
use Rattle.flow_meaning.specs.Tracked.{Reference, resolved}
use Rattle.flow_meaning.specs.Planned.{Ask, Completion, Enters, Give, Plan, an_expr, end_putting, planned, asking, perform, with_result}
use Rattle.flow_meaning.specs.Planned as plans
use Rattle.low_equal.specs.Observed.{Front}
use Rattle.low_equal.proofs.Adding.{Continued, front_continued, lines_run, Adds, Adding, adding, asking_adding, ask_adds, give_adds, end_adds, and_adds, result_adds, branch_adds, round_adds, call_adds, construction_adds, handler_adds, block_adds, instance_end_adds, putting_end_adds, first_end_adds, both_end_adds, length_adding, convert_length_adding, entered, EntersAdding, waiting_adds}
use Rattle.continuations.specs.declared.continuation.Continuation.{Continuation}
use Rattle.continuations.specs.declared.continuation.Continuation.TheVariants as continuation
use Rattle.continuations.specs.declared.continuation.Control.{Control}
use Rattle.continuations.specs.declared.continuation.Control.TheVariants as control
use Rattle.continuations.specs.declared.continuation.Use.TheVariants as use_as
use Rattle.run_state.specs.declared.outcome.SetLength.{SetLength}
use Rattle.run_state.specs.Accesses.{defines, marks_given}
use Rattle.continuations.specs.Settings.{Setting, entrance, outermost_steps}
use Rattle.continuations.specs.declared.continuation.Counting.TheVariants as counting
use Rattle.continuations.specs.Shapes.{all_labels, calling_of, finishes, handles, labels_at, nth, use_of, target_of, round_of, statements_from, waiting_of}
use Rattle.continuations.specs.declared.continuation.Calling.{Calling}
use Rattle.continuations.specs.declared.continuation.Calling.TheVariants as calling
use Rattle.continuations.specs.Pending.{Task, array_act, behind_setter, end_both, sets_length, converted_left, fallen, handler_of, last_of, owns_calling, owns_use, owns_target, setting_inside, first_or_undefined, keys_left, tests_of, visit_behind, result_type, after, next_plan, after_task, behind}

module _ (tables : Tables) (inputs : Given) (set : BuiltIns) (functions : List FunctionCode) where
  -- the plans
  abbrev A : Ops
  A = planned tables inputs set functions

  -- what they ask for
  abbrev R : Rec A
  R = asking tables inputs set functions

  -- that they only add lines
  abbrev K : Link A A
  K = adding tables inputs set functions

  -- and so do those that are asked for
  abbrev h : Linked A A K R R
  h = asking_adding tables inputs set functions

  -- what is called is entered alike
  abbrev E : Enters
  E = entrance tables inputs set functions

  abbrev H : EnteringLinked K.W K.RV K.RE K.Lift E E
  H = link.entering_linked A A K R R h set

  -- what is called only adds lines
  enters_adding : EntersAdding tables inputs set functions E
  unfolding adding
  enters_adding = entered tables inputs set functions {E = E} {D = E} H

  -- values of which nothing is asked
  any_values : (vs : List Val) → Rels (λ (v u : Val). Unit {0}) vs vs
  any_values [] = nils
  any_values (v ∷ vs) = conses tt (any_values vs)

  -- a calling of any values
  any_calling : (f : Calling) (vs : List Val) → Callings (λ (v u : Val). Unit {0}) (calling_of f vs) (calling_of f vs)
  any_calling calling.Calls vs = both_call tt tt
  any_calling calling.Constructs vs = both_construct tt

  -- the first case that is left is compared
  compared_adds : (v : Val) (all cs : Clauses) (e : Env ℕ) (u : Val) → Adding tables inputs set functions (tests_of tables inputs set functions v all cs e u)
  unfolding adding cases
  compared_adds v all no_clauses e u = link.cases_linked A A K E E H R R h all no_clauses {w = tt} {e = e} {d = e} {v = v} {v' = v} tt tt
  compared_adds v all (case c ss cs) e u = link.case_compared_linked A A K E E H R R h ss cs {w = tt} {e = e} {d = e} {m = evaluation.cases A E R v all cs e} {n = evaluation.cases A E R v all cs e} {v = v} {u = u} {v' = v} {u' = u} tt (λ w1 l1. link.cases_linked A A K E E H R R h all cs {w = tt} {e = e} {d = e} {v = v} {v' = v} tt tt) tt tt
  compared_adds v all (default ss cs) e u = link.cases_linked A A K E E H R R h all cs {w = tt} {e = e} {d = e} {v = v} {v' = v} tt tt

  -- the statements of the first clause that are left, and those of the others
  fallen_adds : (i : ℕ) (cs : Clauses) (e : Env ℕ) (c : Completion) (s : State) → Adds tables inputs set functions s (fallen tables inputs set functions i cs e c s)
  unfolding adding
  fallen_adds i no_clauses e came s = result_adds tables inputs set functions One _ (λ a. link.falls_on_linked A A K E E H R R h no_clauses {w = tt} {e = e} {d = e} tt) came s
  fallen_adds i (case c ss cs) e came s = and_adds tables inputs set functions s _ _ (result_adds tables inputs set functions One _ (λ a. link.behind_linked A A K R R h (statements_from i ss) {w = tt} {e = e} {d = e} tt) came s) (result_adds tables inputs set functions One _ (λ a. link.falls_on_linked A A K E E H R R h cs {w = tt} {e = e} {d = e} tt))
  fallen_adds i (default ss cs) e came s = and_adds tables inputs set functions s _ _ (result_adds tables inputs set functions One _ (λ a. link.behind_linked A A K R R h (statements_from i ss) {w = tt} {e = e} {d = e} tt) came s) (result_adds tables inputs set functions One _ (λ a. link.falls_on_linked A A K E E H R R h cs {w = tt} {e = e} {d = e} tt))

  -- the parts of a `try` statement
  handled_adds : (x : Statement) (e : Env ℕ) (v : Val) → Adding tables inputs set functions (handler_of tables inputs set functions x e v)
  unfolding adding unhandled
  handled_adds (try_catch at b ident handler) e v = link.handled_linked A A K E E H R R h ident handler {w = tt} {e = e} {d = e} {v = v} {v' = v} tt tt
  handled_adds (try_both at b ident handler last) e v = link.handled_linked A A K E E H R R h ident handler {w = tt} {e = e} {d = e} {v = v} {v' = v} tt tt
  handled_adds _ e v = K.ret_one tt

  last_adds : (x : Statement) (e : Env ℕ) → Adding tables inputs set functions (last_of tables inputs set functions x e)
  unfolding adding
  last_adds (try_finally at b last) e = h.stmt (block last) tt e e tt
  last_adds (try_both at b ident handler last) e = h.stmt (block last) tt e e tt
  last_adds _ e = record { adds = λ s. give_adds tables inputs set functions _ s }

  -- an operator with its left operand converted
  converted_adds : (c : Conversion) (o : BinaryOperator) (u v : Val) → Adding tables inputs set functions (converted_left tables inputs set functions c o u v)
  unfolding adding
  converted_adds compared o u v = link.compared_left_linked A A K E E H o {w = tt} {u = u} {v = v} {u' = u} {v' = v} tt tt
  converted_adds (primitives kind) o u v = link.primitive_left_linked A A K E E H kind o {w = tt} {u = u} {v = v} {u' = u} {v' = v} tt tt
  converted_adds numbers o u v = link.number_left_linked A A K E E H o {w = tt} {u = u} {v = v} {u' = u} {v' = v} tt tt
  converted_adds keyed o u v = link.has_left_linked A A K {w = tt} {u = u} {v = v} {u' = u} {v' = v} tt tt
  converted_adds unconverted o u v = link.binary_done_linked A A K o {w = tt} {v = v} {u = u} {v' = v} {u' = u} tt tt

  -- what comes behind a setter
  behind_adding : (next : Unit {0} → State → Plan) → ((u : Unit {0}) → Adding tables inputs set functions (next u)) → (c : Completion) (s : State) → Adds tables inputs set functions s (behind_setter tables inputs set functions next c s)
  behind_adding next adds c s = and_adds tables inputs set functions s (end_putting c s) (with_result One next) (putting_end_adds tables inputs set functions c s) (result_adds tables inputs set functions One next adds)

  -- variables with their first values
  variables_adds : (ds : List (Ident × MaybeExpr)) (i : ℕ) (s : State) → Adds tables inputs set functions s (variables A E R ds i s)
  unfolding adding variables more_variables
  variables_adds [] i s = give_adds tables inputs set functions _ s
  variables_adds ((ident, absent) ∷ ds) i s = variables_adds ds i s
  variables_adds ((ident, present x) ∷ ds) i s =
      let n = resolved s.records s.heap i ident.text in
      and_adds tables inputs set functions s (Ask (an_expr x i) s Give) (with_result Value (more_variables A E R n ds i)) (ask_adds tables inputs set functions (an_expr x i) s)
      (result_adds tables inputs set functions Value (more_variables A E R n ds i) (λ v. link.more_variables_linked A A K E E H R R h ds {w = tt} {i = i} {j = i} {n = n} {n' = n} {v = v} {v' = v} tt tt tt))

  -- the other properties
  more_adds : (act : Act) (vs : List Val) (ps : Properties) (i : ℕ) (c : Completion) (s : State) → Adds tables inputs set functions s (with_result Value (more_values A E R act vs ps i) c s)
  unfolding adding
  more_adds act vs ps i = result_adds tables inputs set functions Value (more_values A E R act vs ps i) (λ v. link.more_values_linked A A K E E H R R h act ps {w = tt} {i = i} {j = i} {vs = vs} {us = vs} {v = v} {v' = v} tt (any_values vs) tt)

  -- an object of the values of its properties, its getters and its setters
  properties_adds : (act : Act) (vs : List Val) (ps : Properties) (i : ℕ) (s : State) → Adds tables inputs set functions s (properties A E R act vs ps i s)
  unfolding adding properties more_values
  properties_adds act vs no_properties i s = (K.act {w = tt} act {vs = vs} {us = vs} (any_values vs)).adds s
  properties_adds act vs (more_properties (value at key x) ps) i s =
      and_adds tables inputs set functions s (Ask (an_expr x i) s Give) (with_result Value (more_values A E R act vs ps i)) (ask_adds tables inputs set functions (an_expr x i) s) (more_adds act vs ps i)
  properties_adds act vs (more_properties (getter at key f) ps) i s = and_adds tables inputs set functions s (A.function f i s) (with_result Value (more_values A E R act vs ps i)) ((K.function {w = tt} f {i = i} {j = i} tt).adds s) (more_adds act vs ps i)
  properties_adds act vs (more_properties (setter at key f) ps) i s = and_adds tables inputs set functions s (A.function f i s) (with_result Value (more_values A E R act vs ps i)) ((K.function {w = tt} f {i = i} {j = i} tt).adds s) (more_adds act vs ps i)

  -- the `length` of an array is given a number
  sets_adding : (how : SetLength) (array : Val) (n : ℕ) (given : Label) → Adding tables inputs set functions (sets_length tables inputs set functions how array n given)
  sets_adding how array n given = length_adding tables inputs set functions (defines how) array.label (object_or_default array.value).0 (marks_given how) n given

  -- what work does with a completion
  after_adds : (w : Continuation) (vs : List Val) (e : Setting) (c : Completion) (s : State) → Adds tables inputs set functions s (after tables inputs set functions w vs e c s)
  unfolding adding
  after_adds (continuation.Unary o) vs e = result_adds tables inputs set functions Value _ (λ v. link.unary_value_linked A A K E E H o {w = tt} {v = v} {v' = v} tt)
  after_adds (continuation.BinaryRight o r) vs e = result_adds tables inputs set functions Value _ (λ v. link.binary_right_linked A A K E E H R R h o (view_expr r.now) {w = tt} {i = e.env.place} {j = e.env.place} {v = v} {v' = v} tt tt)
  after_adds (continuation.BinaryDone o) vs e = result_adds tables inputs set functions Value _ (λ v. link.binary_values_linked A A K E E H o {w = tt} {v = first_or_undefined vs} {u = v} {v' = first_or_undefined vs} {u' = v} tt tt)
  after_adds (continuation.AndRight r) vs e = result_adds tables inputs set functions Value _ (λ v. link.and_right_linked A A K E E H R R h (view_expr r.now) {w = tt} {i = e.env.place} {j = e.env.place} {v = v} {v' = v} tt tt)
  after_adds (continuation.OrRight r) vs e = result_adds tables inputs set functions Value _ (λ v. link.or_right_linked A A K E E H R R h (view_expr r.now) {w = tt} {i = e.env.place} {j = e.env.place} {v = v} {v' = v} tt tt)
  after_adds (continuation.Choose a b) vs e = result_adds tables inputs set functions Value _ (λ v. link.choose_expr_linked A A K E E H R R h (view_expr a.now) (view_expr b.now) {w = tt} {i = e.env.place} {j = e.env.place} {v = v} {v' = v} tt tt)
  after_adds (continuation.CommaRight r) vs e = result_adds tables inputs set functions Value _ (λ v. link.comma_right_linked A A K E E H R R h (view_expr r.now) {w = tt} {i = e.env.place} {j = e.env.place} {v = v} {v' = v} tt tt)
  after_adds (continuation.AssignTo n) vs e = result_adds tables inputs set functions Value _ (λ v. link.assign_to_linked A A K E E H {w = tt} {n = target_of n vs} {n' = target_of n vs} {v = v} {v' = v} tt tt)
  after_adds (continuation.CompoundDone o n) vs e = result_adds tables inputs set functions Value _
      (λ v. link.compound_done_linked A A K E E H R R h o {w = tt} {n = target_of n vs} {n' = target_of n vs} {a = nth (owns_target n) vs} {v = v} {a' = nth (owns_target n) vs} {v' = v} tt tt tt)
  after_adds (continuation.Argument f count rest) vs e = result_adds tables inputs set functions Value _
      (λ v. link.more_arguments_linked A A K E E H R R h (view_exprs rest.now) {f = calling_of f vs} {g = calling_of f vs} {w = tt} {i = e.env.place} {j = e.env.place} {vs = drop (owns_calling f) vs} {us = drop (owns_calling f) vs} {v = v} {v' = v} (any_calling f vs) tt (any_values (drop (owns_calling f) vs)) tt)
  after_adds (continuation.Callee es) vs e = result_adds tables inputs set functions Value _ (λ v. link.call_value_linked A A K E E H R R h (view_exprs es.now) {w = tt} {i = e.env.place} {j = e.env.place} {f = v} {f' = v} tt tt)
  after_adds (continuation.Constructor es) vs e = result_adds tables inputs set functions Value _ (λ v. link.construct_value_linked A A K E E H R R h (view_exprs es.now) {w = tt} {i = e.env.place} {j = e.env.place} {f = v} {f' = v} tt tt)
  after_adds (continuation.InstanceRight r) vs e = result_adds tables inputs set functions Value _ (λ v. link.instance_right_linked A A K E E H R R h (view_expr r.now) {w = tt} {i = e.env.place} {j = e.env.place} {v = v} {v' = v} tt tt)
  after_adds continuation.InstanceDone vs e = result_adds tables inputs set functions Value _ (λ v. link.instance_done_linked A A K E E H R R h {w = tt} {v = first_or_undefined vs} {f = v} {v' = first_or_undefined vs} {f' = v} tt tt)
  after_adds (continuation.Raise x) vs e = result_adds tables inputs set functions Value _ (λ v. link.behind_expression_linked A A K E E H R R h (upgrade_of (view_expr x.now)) {w = tt} {e = e.env} {d = e.env} tt v v)
  after_adds continuation.Throw vs e = result_adds tables inputs set functions Value _ (λ v. link.jump_with_linked A A K E E H R R h thrown {w = tt} {e = e.env} {d = e.env} {v = v} {v' = v} tt tt)
  after_adds continuation.Return vs e = result_adds tables inputs set functions Value _ (λ v. link.jump_with_linked A A K E E H R R h returned {w = tt} {e = e.env} {d = e.env} {v = v} {v' = v} tt tt)
  after_adds (continuation.Switched of cs) vs e = result_adds tables inputs set functions Value _ (λ v. link.switched_linked A A K E E H R R h (all_labels [] (view_stmt of.now)) (view_clauses (nodes_of cs.now)) {w = tt} {e = e.env} {d = e.env} {v = v} {v' = v} tt tt)
  after_adds (continuation.Compared cs i) vs e = result_adds tables inputs set functions Value _ (λ v. compared_adds (first_or_undefined vs) (view_clauses (nodes_of cs.now)) (view_clauses (drop i (nodes_of cs.now))) e.env v)
  after_adds (continuation.Falls cs i) vs e = fallen_adds i (view_clauses cs.now) e.env
  after_adds (continuation.MemberBase how text) vs e = result_adds tables inputs set functions Value _ (λ v. link.member_base_linked A A K E E H R R h (use_of how vs) text.now {w = tt} {i = e.env.place} {j = e.env.place} {b = v} {b' = v} tt tt)
  after_adds (continuation.IndexBase how x) vs e = result_adds tables inputs set functions Value _ (λ v. link.index_base_linked A A K E E H R R h (use_of how vs) (view_expr x.now) {w = tt} {i = e.env.place} {j = e.env.place} {b = v} {b' = v} tt tt)
  after_adds (continuation.IndexKey how) vs e = result_adds tables inputs set functions Value _
      (λ v. link.index_key_linked A A K E E H R R h (use_of how vs) {w = tt} {i = e.env.place} {j = e.env.place} {b = nth (owns_use how) vs} {k = v} {b' = nth (owns_use how) vs} {k' = v} tt tt tt)
  after_adds (continuation.Property ps count) vs e = result_adds tables inputs set functions Value _
      (λ v. link.more_values_linked A A K E E H R R h (object_of (parts_of (view_properties (nodes_of ps.now)))) (view_properties (drop (count + 1) (nodes_of ps.now))) {w = tt} {i = e.env.place} {j = e.env.place} {vs = vs} {us = vs} {v = v} {v' = v} tt (any_values vs) tt)
  after_adds (continuation.Item is place count) vs e = result_adds tables inputs set functions Value _
      (λ v. link.more_items_linked A A K E E H R R h (array_act tables inputs set functions (view_items (nodes_of is.now))) (view_items (drop (place + 1) (nodes_of is.now))) {w = tt} {i = e.env.place} {j = e.env.place} {vs = vs} {us = vs} {v = v} {v' = v} tt (any_values vs) tt)
  after_adds (continuation.LengthOnce how) vs e = first_end_adds tables inputs set functions {E = E} enters_adding (nth 0 vs).label (nth 1 vs) (sets_length tables inputs set functions how (nth 0 vs)) (λ n given. sets_adding how (nth 0 vs) n given)
  after_adds (continuation.LengthTwice how) vs e = both_end_adds tables inputs set functions (nth 0 vs).label (sets_length tables inputs set functions how (nth 0 vs)) (nth 1 vs) (λ n given. sets_adding how (nth 0 vs) n given)
  after_adds continuation.Discard vs e = result_adds tables inputs set functions Value _ (λ v. link.discard_linked A A K {w = tt} {v = v} {v' = v} tt)
  after_adds (continuation.ChooseStmt s) vs e = result_adds tables inputs set functions Value _ (λ v. link.choose_stmt_linked A A K E E H R R h (view_stmt s.now) {w = tt} {e = e.env} {d = e.env} {v = v} {v' = v} tt tt)
  after_adds (continuation.ChooseStmts s t) vs e = result_adds tables inputs set functions Value _ (λ v. link.choose_stmts_linked A A K E E H R R h (view_stmt s.now) (view_stmt t.now) {w = tt} {e = e.env} {d = e.env} {v = v} {v' = v} tt tt)
  after_adds (continuation.Statements ss) vs e = result_adds tables inputs set functions One _ (λ a. link.behind_linked A A K R R h (view_stmts ss.now) {w = tt} {e = e.env} {d = e.env} tt)
  after_adds (continuation.Variable n ds) vs e = result_adds tables inputs set functions Value _
      (λ v. link.more_variables_linked A A K E E H R R h (view_other_declarations ds.now) {w = tt} {i = e.env.place} {j = e.env.place} {n = target_of n vs} {n' = target_of n vs} {v = v} {v' = v} tt tt tt)
  after_adds (continuation.Looped r) vs e = result_adds tables inputs set functions Value _ (λ v. link.looped_value_linked A A K E E H R R h (round_of r) {w = tt} {e = e.env} {d = e.env} v v tt)
  after_adds (continuation.Declared r) vs e = result_adds tables inputs set functions One _ (λ a. link.looped_linked A A K E E H R R h (round_of r) {w = tt} {e = e.env} {d = e.env} tt)
  after_adds (continuation.Tested r) vs e = result_adds tables inputs set functions Value _ (λ v. link.turn_test_linked A A K E E H R R h (round_of r) {w = tt} {e = e.env} {d = e.env} {v = v} {v' = v} tt tt)
  after_adds (continuation.Updated r) vs e = result_adds tables inputs set functions Value _ (λ v. link.updated_linked A A K E E H R R h (round_of r) {w = tt} {e = e.env} {d = e.env} v v tt)
  after_adds (continuation.Turned r) vs e = result_adds tables inputs set functions One _ (λ a. link.turned_round_linked A A K E E H R R h (round_of r) {w = tt} {e = e.env} {d = e.env} tt)
  after_adds (continuation.Enumerated x) vs e = result_adds tables inputs set functions Value _ (λ v. link.enumerated_linked A A K E E H R R h (labels_at (view_stmt x.of.now)) (view_target x.target.now) (view_stmt x.body.now) {w = tt} {e = e.env} {d = e.env} {o = v} {o' = v} tt tt)
  after_adds (continuation.VisitBody s) vs e = result_adds tables inputs set functions Value _ (λ v. link.visit_body_linked A A K E E H R R h (view_stmt s.now) {w = tt} {e = e.env} {d = e.env} v v tt)
  after_adds (continuation.Visited x count) vs e = result_adds tables inputs set functions One _ (λ a. link.visited_linked A A K E E H R R h {w = tt} {v = visit_behind x vs} {v' = visit_behind x vs} {e = e.env} {d = e.env} (visits_of tt) tt)
  after_adds (continuation.EndBranch gives depth) vs e = branch_adds tables inputs set functions (result_type gives) depth
  after_adds (continuation.EndRound turn depth of) vs e = round_adds tables inputs set functions depth
  after_adds (continuation.EndLabel depth text) vs e = round_adds tables inputs set functions depth
  after_adds (continuation.EndTry depth) vs e = round_adds tables inputs set functions depth
  after_adds (continuation.EndCall own depth) vs e = call_adds tables inputs set functions depth
  after_adds (continuation.EndNew own depth) vs e = construction_adds tables inputs set functions _ depth
  after_adds (continuation.EndBlock x depth) vs e = block_adds tables inputs set functions (handles (view_stmt x.now)) (finishes (view_stmt x.now)) (handler_of tables inputs set functions (view_stmt x.now) e.env) depth (handled_adds (view_stmt x.now) e.env) (last_adds (view_stmt x.now) e.env)
  after_adds (continuation.EndHandler x own depth) vs e = handler_adds tables inputs set functions (finishes (view_stmt x.now)) depth (last_adds (view_stmt x.now) e.env)
  after_adds (continuation.EndLast waiting) vs e = waiting_adds tables inputs set functions (waiting_of waiting vs)
  after_adds (continuation.ConvertedLeft o) vs e = result_adds tables inputs set functions Value _ (λ v. converted_adds (conversion_of o) o (first_or_undefined vs) v)
  after_adds (continuation.Operate o) vs e = result_adds tables inputs set functions Value _ (λ v. link.binary_done_linked A A K o {w = tt} {v = first_or_undefined vs} {u = v} {v' = first_or_undefined vs} {u' = v} tt tt)
  after_adds (continuation.UnaryConverted o) vs e = result_adds tables inputs set functions Value _ (λ v. link.unary_done_linked A A K o {w = tt} {v = v} {v' = v} tt)
  after_adds continuation.KeyHas vs e = result_adds tables inputs set functions Value _ (λ v. link.has_left_linked A A K {w = tt} {u = first_or_undefined vs} {v = v} {u' = first_or_undefined vs} {v' = v} tt tt)
  after_adds (continuation.KeyOf how) vs e = result_adds tables inputs set functions Value _
      (λ v. link.with_key_linked A A K E E H R R h (use_of how vs) {w = tt} {i = e.env.place} {j = e.env.place} {b = nth (owns_use how) vs} {k = v} {b' = nth (owns_use how) vs} {k' = v} tt tt tt)
  after_adds (continuation.Counted counting.Prefix o n) vs e = result_adds tables inputs set functions Value _ (λ v. link.prefix_value_linked A A K E E H o {w = tt} {n = target_of n vs} {n' = target_of n vs} {v = v} {v' = v} tt tt)
  after_adds (continuation.Counted counting.Postfix o n) vs e = result_adds tables inputs set functions Value _ (λ v. link.postfix_value_linked A A K E E H o {w = tt} {n = target_of n vs} {n' = target_of n vs} {v = v} {v' = v} tt tt)
  after_adds (continuation.CountedNumber counting.Prefix o n) vs e = result_adds tables inputs set functions Value _ (λ v. link.prefix_number_linked A A K E E H o {w = tt} {n = target_of n vs} {n' = target_of n vs} {v = v} {v' = v} tt tt)
  after_adds (continuation.CountedNumber counting.Postfix o n) vs e = result_adds tables inputs set functions Value _ (λ v. link.postfix_number_linked A A K E E H o {w = tt} {n = target_of n vs} {n' = target_of n vs} {v = v} {v' = v} tt tt)
  after_adds (continuation.CompoundRight o x n) vs e = result_adds tables inputs set functions Value _
      (λ v. link.compound_right_linked A A K E E H R R h o (view_expr x.now) {w = tt} {i = e.env.place} {j = e.env.place} {n = target_of n vs} {n' = target_of n vs} {a = v} {a' = v} tt tt tt)
  after_adds (continuation.CalledBy es) vs e = result_adds tables inputs set functions Value _
      (λ v. link.arguments_linked A A K E E H R R h (view_exprs es.now) {f = meaning.calls v (first_or_undefined vs)} {g = meaning.calls v (first_or_undefined vs)} {w = tt} {i = e.env.place} {j = e.env.place} {vs = []} {us = []} (both_call tt tt) tt nils)
  after_adds continuation.InstanceTest vs e = instance_end_adds tables inputs set functions (first_or_undefined vs).label (object_or_default (first_or_undefined vs).value).0
  after_adds continuation.GiveBehind vs e = behind_adding (give A (first_or_undefined vs)) (λ u. link.give_linked A A K {w = tt} {v = first_or_undefined vs} {v' = first_or_undefined vs} tt)
  after_adds (continuation.VariablesBehind ds) vs e = behind_adding (λ u. variables A E R (view_other_declarations ds.now) e.env.place) (λ u. record { adds = variables_adds (view_other_declarations ds.now) e.env.place })
  after_adds (continuation.Answered count (Some to)) vs e = result_adds tables inputs set functions Value _
      (λ v. requests.answered_in_linked A A K E E H R R h (outermost_steps e.natives) to {w = tt} {vs = vs} {us = vs} {v = v} {v' = v} (any_values vs) tt)
  after_adds (continuation.Answered count None) vs e = behind_adding (put_behind A E R (outermost_steps e.natives) vs) (λ u. requests.put_behind_linked A A K E E H R R h (outermost_steps e.natives) {w = tt} {vs = vs} {us = vs} (any_values vs))

  -- the keys that a `for in` has left
  visits_adds : (labels : List (Option (List ℕ))) (target : Target) (body : Statement) (o : Val) (keys : List (List ℕ)) (e : Env ℕ) → Adding tables inputs set functions (visits A E R labels target body o keys e)
  unfolding adding visited
  visits_adds labels target body o keys e =
      let visit : Visit Val = record { labels = labels; target = target; body = body; object = o; key = []; others = keys } in
      link.visited_linked A A K E E H R R h {w = tt} {v = visit} {v' = visit} {e = e} {d = e} (visits_of tt) tt

  keys_adds : (labels : List (Option (List ℕ))) (target : Target) (body : Statement) (o : Val) (e : Env ℕ) (s : State) → Adds tables inputs set functions s (with_keys A E R labels target body o e s)
  unfolding adding with_keys
  keys_adds labels target body o e s = (K.keys {w = tt} {v = o} {v' = o} (λ keys. visits A E R labels target body o keys e) (λ keys. visits A E R labels target body o keys e) tt (λ w1 l1 keys. visits_adds labels target body o keys e)).adds s

  -- a name, and what is done with the reference
  name_adds : (i : ℕ) (text : List ℕ) (k : Reference → State → Plan) (s : State) → ((n : Reference) → Adding tables inputs set functions (k n)) → Adds tables inputs set functions s (A.resolve Value i text k s)
  unfolding adding
  name_adds i text k s adds = (K.resolve Value {w = tt} {i = i} {j = i} text k k tt (λ w1 l1 n n' rn. adds n)).adds s

  read_adds : (n : Reference) → Adding tables inputs set functions (read_value A E R n)
  unfolding adding
  read_adds n = link.read_value_linked A A K E E H R R h {w = tt} {n = n} {n' = n} tt

  given_adds : (vs : List Val) (i : ℕ) (n : Reference) → Adding tables inputs set functions (used A E R (use_of use_as.GivenText vs) i n)
  unfolding adding
  given_adds vs i n = link.used_linked A A K E E H R R h (use_of use_as.GivenText vs) {w = tt} {i = i} {j = i} {n = n} {n' = n} tt tt

  -- a call
  call_adding : (f : meaning.Calling Val) (vs : List Val) → Adding tables inputs set functions (call_with A E R f vs)
  unfolding adding call_with
  call_adding (meaning.calls f this) vs = K.call {w = tt} {f = f} {this = this} {f' = f} {this' = this} {vs = vs} {us = vs} {E = E} {D = E} tt tt (any_values vs) H
  call_adding (meaning.constructs f) vs = K.construct {w = tt} {f = f} {f' = f} {vs = vs} {us = vs} {E = E} {D = E} tt (any_values vs) H

  -- what a machine does next
  next_adds : (move : Control) (vs : List Val) (e : Setting) (s : State) → Adds tables inputs set functions s (next_plan tables inputs set functions move vs e s)
  unfolding adding
  next_adds control.Value vs e s = give_adds tables inputs set functions _ s
  next_adds (control.Jumps j) vs e s = give_adds tables inputs set functions _ s
  next_adds control.Done vs e s = give_adds tables inputs set functions _ s
  next_adds control.Null vs e s = give_adds tables inputs set functions _ s
  next_adds (control.Bool b) vs e s = give_adds tables inputs set functions _ s
  next_adds (control.Number n) vs e s = give_adds tables inputs set functions _ s
  next_adds (control.Text text) vs e s = give_adds tables inputs set functions _ s
  next_adds (control.Name text) vs e s = name_adds e.env.place text.now (read_value A E R) s read_adds
  next_adds control.This vs e s = name_adds e.env.place (codes "this") (read_value A E R) s read_adds
  next_adds (control.Object ps count) vs e s = properties_adds (object_of (parts_of (view_properties (nodes_of ps.now)))) vs (view_properties (drop count (nodes_of ps.now))) e.env.place s
  next_adds (control.GiveVariable x) vs e s = name_adds e.env.place x.now.text (used A E R (use_of use_as.GivenText vs) e.env.place) s (given_adds vs e.env.place)
  next_adds (control.Keys x) vs e s = keys_adds (labels_at (view_stmt x.of.now)) (view_target x.target.now) (view_stmt x.body.now) (nth 0 vs) e.env s
  next_adds (control.Visits x count) vs e s = (visits_adds (labels_at (view_stmt x.of.now)) (view_target x.target.now) (view_stmt x.body.now) (nth 0 vs) (keys_left vs) e.env).adds s
  next_adds (control.Expr x) vs e s = ask_adds tables inputs set functions _ s
  next_adds (control.Use how x) vs e s = ask_adds tables inputs set functions _ s
  next_adds (control.Stmt x) vs e s = ask_adds tables inputs set functions _ s
  next_adds (control.Block x) vs e s = ask_adds tables inputs set functions _ s
  next_adds (control.Named x n) vs e s = ask_adds tables inputs set functions _ s
  next_adds (control.Variables ds) vs e s = variables_adds (variable_list (view_declarations ds.now)) e.env.place s
  next_adds (control.Turn r) vs e s = ask_adds tables inputs set functions _ s
  next_adds (control.Visit x count) vs e s = ask_adds tables inputs set functions _ s
  next_adds (control.Loop r) vs e s = (link.loop_linked A A K E E H R R h (round_of r) {w = tt} {e = e.env} {d = e.env} tt).adds s
  next_adds (control.DoLoop r) vs e s = (K.round {w = tt} false (round_of r).labels {e = e.env} {d = e.env} (R.turn (round_of r)) (R.turn (round_of r)) tt (λ w l d d' q. h.turn (round_of r) w d d' q)).adds s
  next_adds (control.Call count) vs e s = (call_adding (calling_of calling.Calls vs) (drop 2 vs)).adds s
  next_adds (control.Construct count) vs e s = (call_adding (calling_of calling.Constructs vs) (drop 1 vs)).adds s
  next_adds (control.Request count) vs e s = ask_adds tables inputs set functions _ s
  next_adds (control.Convert kind) vs e s = (K.primitive {w = tt} kind {v = first_or_undefined vs} {v' = first_or_undefined vs} {E = E} {D = E} tt H).adds s
  next_adds control.ConvertBeside vs e s = (convert_length_adding tables inputs set functions {E = E} enters_adding (nth 0 vs).label (nth 1 vs)).adds s
  next_adds (control.Array is count) vs e s = (K.act {w = tt} (array_act tables inputs set functions (view_items (nodes_of is.now))) {vs = vs} {us = vs} (any_values vs)).adds s
  next_adds control.Compare vs e s = (K.comparable {w = tt} {v = nth 0 vs} {u = nth 1 vs} {v' = nth 0 vs} {u' = nth 1 vs} {E = E} {D = E} tt tt H).adds s
  next_adds (control.Function f) vs e s = (K.function {w = tt} (view_function f.now) {i = e.env.place} {j = e.env.place} tt).adds s
  next_adds (control.Break turn label) vs e s = (K.jump {w = tt} (left_by turn (text_of_label (view_name label.now))) {e = e.env} {d = e.env} {v = A.literal prims.Undefined} {v' = A.literal prims.Undefined} tt tt).adds s
  next_adds control.Return vs e s = (K.jump {w = tt} returned {e = e.env} {d = e.env} {v = A.literal prims.Undefined} {v' = A.literal prims.Undefined} tt tt).adds s
  next_adds (control.Labelled text x) vs e s = (K.round {w = tt} false (Some text.now ∷ []) {e = e.env} {d = e.env} (R.stmt (view_stmt x.now)) (R.stmt (view_stmt x.now)) tt (λ w l d d' q. h.stmt (view_stmt x.now) w d d' q)).adds s
  next_adds (control.Try x) vs e s = (link.stmt_linked A A K E E H R R h (view_stmt x.now) tt e.env e.env tt).adds s
  next_adds (control.Leave why) vs e s = end_adds tables inputs set functions _ s

  module _ {T : Type 0} (reading : T → Label) where
    -- a plan, and behind it pending work
    behind_adds : (tasks : List (Task T)) (e : Setting) (p : Plan) (s : State) → Adds tables inputs set functions s p → Adds tables inputs set functions s (behind tables inputs set functions reading tasks e p)
    unfolding behind
    behind_adds [] e p s a = a
    behind_adds (w ∷ tasks) e p s a = and_adds tables inputs set functions s (behind tables inputs set functions reading tasks (setting_inside w.0 e) p) (after_task tables inputs set functions reading w e) (behind_adds tasks (setting_inside w.0 e) p s a) (after_adds w.0 (map (readings.read_value reading) w.1) e)

    -- the next move with all that is pending: the lines of the state are how those of the run begin
    pub adds_lines : (tasks : List (Task T)) (e f : Setting) (move : Control) (vs : List Val) (s : State)
        → Front s.lines (performed_run (perform (plans.meaning tables inputs set functions) (behind tables inputs set functions reading tasks e (next_plan tables inputs set functions move vs f s)))).lines
    adds_lines tasks e f move vs s =
        subst (Front s.lines) (lines_run (perform (plans.meaning tables inputs set functions) (behind tables inputs set functions reading tasks e (next_plan tables inputs set functions move vs f s)))) (behind_adds tasks e (next_plan tables inputs set functions move vs f s) s (next_adds move vs f s))

    -- and others stand behind them
    pub continued_lines : (tasks : List (Task T)) (e f : Setting) (move : Control) (vs : List Val) (s : State)
        → Continued s.lines (performed_run (perform (plans.meaning tables inputs set functions) (behind tables inputs set functions reading tasks e (next_plan tables inputs set functions move vs f s)))).lines
    continued_lines tasks e f move vs s = front_continued (adds_lines tasks e f move vs s)
