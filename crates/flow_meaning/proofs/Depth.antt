-- The meaning of a part is its plan, performed with the meaning of the parts that it asks for: the turns bound the depth.
use Rattle.std.proofs.Common.{◌≡◌, ℕ, zero, suc, ◌≤◌, List, refl, sym, ap, ◌∙◌, subst, arith}
use Rattle.flow_policy.specs.Policies.{Tables}
use Rattle.flow_policy.specs.Inputs.{Given}
use Rattle.js_ast.specs.Trees.{Statements}
use Rattle.js_ast.specs.Functions.{FunctionCode, functions_of}
use Rattle.es_meaning.specs.BuiltIns.{BuiltIns}
use Rattle.es_meaning.specs.Outcomes.{out_of_turns, Outcome, Goes, Jumps, Ends}
use Rattle.es_meaning.specs.Operations.{One, Res}
use Rattle.es_meaning.specs.Evaluation.{begun, eval, program_step}
use Rattle.es_meaning.specs.Plain.{may_declare, outermost_env}
use Rattle.flow_meaning.specs.Laws.{IsPerformed, performed_run}
use Rattle.flow_meaning.specs.Scopes.{Val, Halt, as_plain, State, Jump}
use Rattle.flow_meaning.specs.Tracked.{spend, labelled, timed, start, run_of, tracked_run}
use Rattle.flow_meaning.specs.Planned.{Part, an_expr, a_use, a_stmt, a_named, a_turn, a_visit, a_request, Completion, gave, jumped, Plan, Give, Ask, End, plan, program_plan, Ran, Evaluator, untyped, of_rec, and_go, completed, perform, meaning, program_meaning}
use Rattle.flow_meaning.proofs.Steady.{with_turns}
use Rattle.flow_meaning.proofs.Performing.{Keeps, perform_step, plan_keeps, perform_program, program_keeps}

-- no more than so many turns are left
abbrev IsWithin : ℕ → Ran → Type 0
IsWithin n (Goes v s) = s.turns ≤ n
IsWithin n (Jumps j s) = s.turns ≤ n
IsWithin n (Ends halt s) = Unit {0}

-- no part adds turns
abbrev Spends : Evaluator → Type 0
Spends e = (part : Part) (s : State) → IsWithin s.turns (e part s)

-- within more
within_more : (n m : ℕ) (o : Ran) → n ≤ m → IsWithin n o → IsWithin m o
within_more n m (Goes v s) le h = omega arith
within_more n m (Jumps j s) le h = omega arith
within_more n m (Ends halt s) le h = tt

-- what follows
go_within : (n : ℕ) (o : Ran) (next : Completion → State → Ran) → IsWithin n o → ((c : Completion) (s : State) → s.turns ≤ n → IsWithin n (next c s)) → IsWithin n (and_go o next)
unfolding and_go
go_within n (Goes v s) next h f = f (gave v) s h
go_within n (Jumps j s) next h f = f (jumped j) s h
go_within n (Ends halt s) next h f = tt

-- a plan
perform_within : (e : Evaluator) → Spends e → (n : ℕ) (p : Plan) → Keeps n p → IsWithin n (perform e p)
unfolding perform completed
perform_within e h n (Give (gave v) s) k = omega arith
perform_within e h n (Give (jumped j) s) k = omega arith
perform_within e h n (Ask part s go_on) k =
    go_within n (e part s) _ (subst (λ m. IsWithin m (e part s)) k.0 (h part s)) (λ c t le. within_more t.turns n _ le (perform_within e h t.turns (go_on c t) (k.1 c t)))
perform_within e h n (End halt s) k = tt

-- two evaluators that agree as long as no more than n turns are left
abbrev Agree : ℕ → Evaluator → Evaluator → Type 0
Agree n e f = (part : Part) (s : State) → s.turns ≤ n → e part s ≡ f part s

-- what follows
go_same : (n : ℕ) (o : Ran) (f g : Completion → State → Ran) → IsWithin n o → ((c : Completion) (s : State) → s.turns ≤ n → f c s ≡ g c s) → and_go o f ≡ and_go o g
unfolding and_go
go_same n (Goes v s) f g h same = same (gave v) s h
go_same n (Jumps j s) f g h same = same (jumped j) s h
go_same n (Ends halt s) f g h same = refl

-- a plan
perform_same : (n : ℕ) (e f : Evaluator) → Spends e → Agree n e f → (m : ℕ) (p : Plan) → m ≤ n → Keeps m p → perform e p ≡ perform f p
unfolding perform
perform_same n e f h agree m (Give c s) le k = refl
perform_same n e f h agree m (Ask part s go_on) le k =
    let at_most : s.turns ≤ n = let q = k.0 in omega arith in
    go_same n (e part s) _ (λ c t. perform f (go_on c t)) (within_more s.turns n (e part s) at_most (h part s)) (λ c t less. perform_same n e f h agree t.turns (go_on c t) less (k.1 c t))
    ∙ ap (λ o. and_go o (λ c t. perform f (go_on c t))) (agree part s at_most)
perform_same n e f h agree m (End halt s) le k = refl

module _ (tables : Tables) (inputs : Given) (set : BuiltIns) (functions : List FunctionCode) where
  -- the meaning of a part, up to a depth
  abbrev depth : ℕ → Evaluator
  depth n = of_rec tables inputs set functions (eval (timed tables inputs set functions) set n)

  -- with no turn left the run ends, to any depth
  none_left : (n : ℕ) (part : Part) (s : State) → depth n part (with_turns 0 s) ≡ Ends (as_plain out_of_turns) (with_turns 0 s)
  unfolding eval spend
  none_left zero (an_expr e i) s = refl
  none_left zero (a_use use_as e i) s = refl
  none_left zero (a_stmt stmt e) s = refl
  none_left zero (a_named labels stmt e) s = refl
  none_left zero (a_turn round e) s = refl
  none_left zero (a_visit visit e) s = refl
  none_left zero (a_request steps vs) s = refl
  none_left (suc n) (an_expr e i) s = refl
  none_left (suc n) (a_use use_as e i) s = refl
  none_left (suc n) (a_stmt stmt e) s = refl
  none_left (suc n) (a_named labels stmt e) s = refl
  none_left (suc n) (a_turn round e) s = refl
  none_left (suc n) (a_visit visit e) s = refl
  none_left (suc n) (a_request steps vs) s = refl

  -- and so it does out of depth
  no_depth : (part : Part) (s : State) → depth zero part s ≡ Ends (as_plain out_of_turns) s
  unfolding eval
  no_depth (an_expr e i) s = refl
  no_depth (a_use use_as e i) s = refl
  no_depth (a_stmt stmt e) s = refl
  no_depth (a_named labels stmt e) s = refl
  no_depth (a_turn round e) s = refl
  no_depth (a_visit visit e) s = refl
  no_depth (a_request steps vs) s = refl

  -- with a turn left it is the plan, performed with one level less
  turn_left : (n : ℕ) (part : Part) (s : State) (t : ℕ) → depth (suc n) part (with_turns (suc t) s) ≡ perform (depth n) (plan tables inputs set functions part (with_turns t s))
  unfolding eval spend
  turn_left n (an_expr e i) s t = sym (perform_step tables inputs set functions (eval (timed tables inputs set functions) set n) (an_expr e i) (with_turns t s))
  turn_left n (a_use use_as e i) s t = sym (perform_step tables inputs set functions (eval (timed tables inputs set functions) set n) (a_use use_as e i) (with_turns t s))
  turn_left n (a_stmt stmt e) s t = sym (perform_step tables inputs set functions (eval (timed tables inputs set functions) set n) (a_stmt stmt e) (with_turns t s))
  turn_left n (a_named labels stmt e) s t = sym (perform_step tables inputs set functions (eval (timed tables inputs set functions) set n) (a_named labels stmt e) (with_turns t s))
  turn_left n (a_turn round e) s t = sym (perform_step tables inputs set functions (eval (timed tables inputs set functions) set n) (a_turn round e) (with_turns t s))
  turn_left n (a_visit visit e) s t = sym (perform_step tables inputs set functions (eval (timed tables inputs set functions) set n) (a_visit visit e) (with_turns t s))
  turn_left n (a_request steps vs) s t = sym (perform_step tables inputs set functions (eval (timed tables inputs set functions) set n) (a_request steps vs) (with_turns t s))

  -- the plan itself changes no turns, whatever its parts mean
  keeps : (part : Part) (s : State) → Keeps s.turns (plan tables inputs set functions part s)
  keeps part s = plan_keeps tables inputs set functions (eval (timed tables inputs set functions) set 0) part s

  -- up to a depth no part adds turns
  within_at : (n t : ℕ) (part : Part) (s : State) → IsWithin t (depth n part (with_turns t s))
  within_at n zero part s = subst (IsWithin zero) (sym (none_left n part s)) tt
  within_at zero (suc t) part s = subst (IsWithin (suc t)) (sym (no_depth part (with_turns (suc t) s))) tt
  within_at (suc n) (suc t) part s = subst (IsWithin (suc t)) (sym (turn_left n part s t))
      (within_more t (suc t) _ (omega arith) (perform_within (depth n) (λ part s. within_at n s.turns part s) t (plan tables inputs set functions part (with_turns t s)) (keeps part (with_turns t s))))

  -- whatever turns are left
  depth_within : (n : ℕ) → Spends (depth n)
  depth_within n part s = within_at n s.turns part s

  -- two depths that are no less than the turns
  depths_same : (d g t : ℕ) (part : Part) (s : State) → t ≤ d → t ≤ g → depth d part (with_turns t s) ≡ depth g part (with_turns t s)
  depths_same d g zero part s h k = none_left d part s ∙ sym (none_left g part s)
  depths_same zero g (suc t) part s h k = absurd (omega arith)
  depths_same (suc d) zero (suc t) part s h k = absurd (omega arith)
  depths_same (suc d) (suc g) (suc t) part s h k =
      turn_left d part s t
      ∙ perform_same t (depth d) (depth g) (depth_within d) (λ part s le. depths_same d g s.turns part s (omega arith) (omega arith)) t (plan tables inputs set functions part (with_turns t s)) (omega arith) (keeps part (with_turns t s))
      ∙ sym (turn_left g part s t)

  -- with depth to spare the evaluator gives the meaning
  pub deep_enough : (n : ℕ) (part : Part) (s : State) → s.turns ≤ n → depth n part s ≡ meaning tables inputs set functions part s
  unfolding meaning
  deep_enough n part s h = depths_same n s.turns s.turns part s h (omega arith)

  -- a plan, performed with depth to spare
  perform_deep : (n : ℕ) (p : Plan) → Keeps n p → perform (depth n) p ≡ perform (meaning tables inputs set functions) p
  perform_deep n p k = perform_same n (depth n) (meaning tables inputs set functions) (depth_within n) (deep_enough n) n p (omega arith) k

  -- with no turn left
  pub meaning_zero : (part : Part) (s : State) → meaning tables inputs set functions part (record s { turns = 0 }) ≡ Ends (as_plain out_of_turns) (record s { turns = 0 })
  unfolding meaning
  meaning_zero part s = none_left 0 part s

  -- with a turn left
  pub meaning_suc : (part : Part) (s : State) (t : ℕ) → meaning tables inputs set functions part (record s { turns = suc t }) ≡ perform (meaning tables inputs set functions) (plan tables inputs set functions part (record s { turns = t }))
  unfolding meaning
  meaning_suc part s t = turn_left t part s t ∙ perform_deep t (plan tables inputs set functions part (with_turns t s)) (keeps part (with_turns t s))

-- the lines of a run and how it ends
run_same : (o : Outcome Halt Jump (Res Val One) State) → performed_run (untyped One o) ≡ run_of o
run_same (Goes a s) = refl
run_same (Jumps j s) = refl
run_same (Ends halt s) = refl

-- a program's plan, performed
program_same : (set : BuiltIns) (tables : Tables) (inputs : Given) (program : Statements) (turns : ℕ) → performed_run (program_meaning set tables inputs program turns) ≡ tracked_run set tables inputs program turns
unfolding program_meaning tracked_run program_step
program_same set tables inputs program turns =
    let s = start tables inputs set program turns in
    let functions = functions_of program in
    let parts = eval (timed tables inputs set functions) set turns in
    let deep = perform_deep tables inputs set functions turns (program_plan tables inputs set functions program s) (program_keeps tables inputs set functions parts program s) in
    ap performed_run (sym deep ∙ perform_program tables inputs set functions parts program s) ∙ run_same (begun (labelled tables inputs set functions) parts (may_declare set program) program (outermost_env 0) s)

-- what a part does, and a program, is its plan, performed
pub is_performed : IsPerformed
is_performed = record { none_left = meaning_zero; some_left = meaning_suc; programs = program_same }
