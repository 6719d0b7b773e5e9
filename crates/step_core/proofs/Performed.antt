-- What plans come to behind pending work.
use Rattle.std.proofs.Common.{sym, ap, ◌∙◌, ◌≡◌, ℕ, suc, List, [], ◌∷◌}
use Rattle.origin_labels.specs.Label.{Label}
use Rattle.flow_policy.specs.Policies.{Tables}
use Rattle.flow_policy.specs.Inputs.{Given}
use Rattle.js_ast.specs.Functions.{FunctionCode}
use Rattle.es_meaning.specs.BuiltIns.{BuiltIns}
use Rattle.es_meaning.specs.Outcomes.{out_of_turns, Ends}
use Rattle.flow_meaning.specs.Scopes.{as_plain, Halt, State}
use Rattle.flow_meaning.specs.Planned.{Part, Completion, Plan, Give, Ask, End, Ran, Evaluator, plan, and_go, perform, meaning}
use Rattle.flow_meaning.proofs.Performing.{and_go_twice, perform_and, and_give, perform_asked}
use Rattle.flow_meaning.proofs.Depth.{is_performed}
use Rattle.continuations.specs.Settings.{Setting}
use Rattle.continuations.specs.Pending.{Task, setting_inside, after_task, behind}

module _ {T : Type 0} (tables : Tables) (inputs : Given) (set : BuiltIns) (functions : List FunctionCode) (reading : T → Label) where
  -- a plan is performed first, and then what waits
  pub perform_behind : (evaluator : Evaluator) (tasks : List (Task T)) (e : Setting) (p : Plan) → perform evaluator (behind tables inputs set functions reading tasks e p) ≡ and_go (perform evaluator p) (λ c t. perform evaluator (behind tables inputs set functions reading tasks e (Give c t)))
  unfolding behind
  perform_behind evaluator [] e p = sym (and_give evaluator (perform evaluator p))
  perform_behind evaluator (w ∷ tasks) e p =
      let within = λ (q : Plan). behind tables inputs set functions reading tasks (setting_inside w.0 e) q in
      let next = after_task tables inputs set functions reading w e in
      perform_and evaluator (within p) next
      ∙ ap (λ o. and_go o (λ c t. perform evaluator (next c t))) (perform_behind evaluator tasks (setting_inside w.0 e) p)
      ∙ sym (and_go_twice (perform evaluator p) (λ c t. perform evaluator (behind tables inputs set functions reading (w ∷ tasks) e (Give c t))) (λ c t. perform evaluator (within (Give c t))) (λ c t. perform evaluator (next c t)) (λ c t. perform_and evaluator (within (Give c t)) next))

  -- with a turn left a part is entered
  pub entered : (tasks : List (Task T)) (e : Setting) (part : Part) (s : State) (turns : ℕ)
      → perform (meaning tables inputs set functions) (behind tables inputs set functions reading tasks e (Ask part (record s { turns = suc turns }) Give)) ≡ perform (meaning tables inputs set functions) (behind tables inputs set functions reading tasks e (plan tables inputs set functions part (record s { turns = turns })))
  entered tasks e part s turns =
      let next : Completion → State → Ran = λ c t. perform (meaning tables inputs set functions) (behind tables inputs set functions reading tasks e (Give c t)) in
      perform_behind (meaning tables inputs set functions) tasks e (Ask part (record s { turns = suc turns }) Give)
      ∙ ap (λ o. and_go o next) (perform_asked (meaning tables inputs set functions) part (record s { turns = suc turns }) ∙ is_performed.some_left tables inputs set functions part s turns)
      ∙ sym (perform_behind (meaning tables inputs set functions) tasks e (plan tables inputs set functions part (record s { turns = turns })))

  -- with none the run ends
  pub spent : (tasks : List (Task T)) (e : Setting) (part : Part) (s : State)
      → perform (meaning tables inputs set functions) (behind tables inputs set functions reading tasks e (Ask part (record s { turns = 0 }) Give)) ≡ Ends (as_plain out_of_turns) (record s { turns = 0 })
  unfolding and_go
  spent tasks e part s =
      let next : Completion → State → Ran = λ c t. perform (meaning tables inputs set functions) (behind tables inputs set functions reading tasks e (Give c t)) in
      perform_behind (meaning tables inputs set functions) tasks e (Ask part (record s { turns = 0 }) Give)
      ∙ ap (λ o. and_go o next) (perform_asked (meaning tables inputs set functions) part (record s { turns = 0 }) ∙ is_performed.none_left tables inputs set functions part s)

  -- the end of a run passes all that waits
  pub ended : (tasks : List (Task T)) (e : Setting) (halt : Halt) (s : State) → perform (meaning tables inputs set functions) (behind tables inputs set functions reading tasks e (End halt s)) ≡ Ends halt s
  unfolding perform and_go
  ended tasks e halt s = perform_behind (meaning tables inputs set functions) tasks e (End halt s)
