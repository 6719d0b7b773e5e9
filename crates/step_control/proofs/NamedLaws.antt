-- Loops and `switch` behind labels: what the machine begins with the labels that it reads from the outermost statement is what the meaning says
-- with those that it has passed.
use Rattle.std.proofs.Common.{sym, ap, ap₂, ◌∙◌, ◌≡◌, ◌+◌, ℕ, suc, Bool, true, false, List, [], map, arith, Result, Ok, Err, IfOk}
use Rattle.flow_policy.specs.Policies.{Tables}
use Rattle.flow_policy.specs.Inputs.{Given}
use Rattle.js_ast.specs.Functions.{FunctionCode}
use Rattle.es_meaning.specs.BuiltIns.{BuiltIns}
use Rattle.js_ast.specs.Trees.{Expr, MaybeExpr, First, Target, Clauses, Semi, Statement, do_while, while, for, for_in, switch, labelled}
use Rattle.es_meaning.specs.Environments.{Env}
use Rattle.continuations.specs.Settings.{Setting, entrance}
use Rattle.es_meaning.specs.Operations.{One, Value}
use Rattle.es_meaning.specs.Evaluation.{named_step, loop, first_step, enumerated, switched, label_step, carries_labels}
use Rattle.flow_text.specs.declared.memory.OutOfMemory.{OutOfMemory}
use Rattle.js_values.specs.Readings.{read_value}
use Rattle.flow_meaning.specs.Scopes.{State, Val}
use Rattle.flow_meaning.specs.Planned.{Ask, Give, a_named, planned, asking}
use Rattle.continuations.specs.Shapes.{turn_of, inner_of, all_labels, labels_at, behind_labels, passed_labels}
use Rattle.continuations.specs.declared.continuation.Control.{Control}
use Rattle.continuations.specs.Kept.{Kept}
use Rattle.continuations.specs.Pending.{behind, setting_above, next_plan}
use Rattle.continuations.specs.Resuming.{Begins}
use Rattle.continuations.proofs.LabelLaws.{is_bare, inner_behind, labels_behind, labels_more, behind_one}

module _ (tables : Tables) (inputs : Given) (set : BuiltIns) (functions : List FunctionCode) (n : ℕ) (of : Statement) (e : Env ℕ) (s : State) where
  pub while_named : (at : ℕ) (c : Expr) (t : Statement) → behind_labels n of ≡ while at c t
      → loop (planned tables inputs set functions) (entrance tables inputs set functions) (asking tables inputs set functions) (turn_of (all_labels [] of) (inner_of of)) e s ≡ named_step (planned tables inputs set functions) (entrance tables inputs set functions) (asking tables inputs set functions) (passed_labels n [] of) (behind_labels n of) e s
  unfolding named_step
  while_named at c t there = ap₂ (λ ls x. loop (planned tables inputs set functions) (entrance tables inputs set functions) (asking tables inputs set functions) (turn_of ls x) e s) (labels_behind n [] of (ap is_bare there)) (inner_behind n of (ap is_bare there) ∙ there)
      ∙ sym (ap (λ x. named_step (planned tables inputs set functions) (entrance tables inputs set functions) (asking tables inputs set functions) (passed_labels n [] of) x e s) there)

  pub do_while_named : (at : ℕ) (t : Statement) (c : Expr) (semi : Semi) → behind_labels n of ≡ do_while at t c semi
      → (planned tables inputs set functions).round false (turn_of (all_labels [] of) (inner_of of)).labels e ((asking tables inputs set functions).turn (turn_of (all_labels [] of) (inner_of of))) s ≡ named_step (planned tables inputs set functions) (entrance tables inputs set functions) (asking tables inputs set functions) (passed_labels n [] of) (behind_labels n of) e s
  unfolding named_step
  do_while_named at t c semi there = ap₂ (λ ls x. (planned tables inputs set functions).round false (turn_of ls x).labels e ((asking tables inputs set functions).turn (turn_of ls x)) s) (labels_behind n [] of (ap is_bare there)) (inner_behind n of (ap is_bare there) ∙ there)
      ∙ sym (ap (λ x. named_step (planned tables inputs set functions) (entrance tables inputs set functions) (asking tables inputs set functions) (passed_labels n [] of) x e s) there)

  pub for_named : (at : ℕ) (first : First) (test update : MaybeExpr) (t : Statement) → behind_labels n of ≡ for at first test update t
      → first_step (planned tables inputs set functions) (entrance tables inputs set functions) (asking tables inputs set functions) first (turn_of (all_labels [] of) (inner_of of)) e s ≡ named_step (planned tables inputs set functions) (entrance tables inputs set functions) (asking tables inputs set functions) (passed_labels n [] of) (behind_labels n of) e s
  unfolding named_step
  for_named at first test update t there = ap₂ (λ ls x. first_step (planned tables inputs set functions) (entrance tables inputs set functions) (asking tables inputs set functions) first (turn_of ls x) e s) (labels_behind n [] of (ap is_bare there)) (inner_behind n of (ap is_bare there) ∙ there)
      ∙ sym (ap (λ x. named_step (planned tables inputs set functions) (entrance tables inputs set functions) (asking tables inputs set functions) (passed_labels n [] of) x e s) there)

  pub for_in_named : (at : ℕ) (target : Target) (c : Expr) (t : Statement) → behind_labels n of ≡ for_in at target c t
      → (planned tables inputs set functions).bind Value One ((asking tables inputs set functions).expr c e.place) (enumerated (planned tables inputs set functions) (entrance tables inputs set functions) (asking tables inputs set functions) (labels_at of) target t e) s ≡ named_step (planned tables inputs set functions) (entrance tables inputs set functions) (asking tables inputs set functions) (passed_labels n [] of) (behind_labels n of) e s
  unfolding named_step
  for_in_named at target c t there = ap (λ ls. named_step (planned tables inputs set functions) (entrance tables inputs set functions) (asking tables inputs set functions) ls (for_in at target c t) e s) (labels_behind n [] of (ap is_bare there))
      ∙ sym (ap (λ x. named_step (planned tables inputs set functions) (entrance tables inputs set functions) (asking tables inputs set functions) (passed_labels n [] of) x e s) there)

  pub switch_named : (at : ℕ) (c : Expr) (cs : Clauses) → behind_labels n of ≡ switch at c cs
      → (planned tables inputs set functions).bind Value One ((asking tables inputs set functions).expr c e.place) (switched (planned tables inputs set functions) (entrance tables inputs set functions) (asking tables inputs set functions) (all_labels [] of) cs e) s ≡ named_step (planned tables inputs set functions) (entrance tables inputs set functions) (asking tables inputs set functions) (passed_labels n [] of) (behind_labels n of) e s
  unfolding named_step
  switch_named at c cs there = ap (λ ls. named_step (planned tables inputs set functions) (entrance tables inputs set functions) (asking tables inputs set functions) ls (switch at c cs) e s) (labels_behind n [] of (ap is_bare there))
      ∙ sym (ap (λ x. named_step (planned tables inputs set functions) (entrance tables inputs set functions) (asking tables inputs set functions) (passed_labels n [] of) x e s) there)

  pub labelled_named : (at : ℕ) (text : List ℕ) (t : Statement) → behind_labels n of ≡ labelled at text t
      → label_step (planned tables inputs set functions) (entrance tables inputs set functions) (asking tables inputs set functions) (carries_labels t) (passed_labels n [] of) text t e s ≡ named_step (planned tables inputs set functions) (entrance tables inputs set functions) (asking tables inputs set functions) (passed_labels n [] of) (behind_labels n of) e s
  unfolding named_step
  labelled_named at text t there = sym (ap (λ x. named_step (planned tables inputs set functions) (entrance tables inputs set functions) (asking tables inputs set functions) (passed_labels n [] of) x e s) there)

  -- where a label is passed over, one more of them is
  pub passed_one : (m : ℕ) (carries : Bool) (at : ℕ) (text : List ℕ) (t : Statement) → m ≡ n + 1 → carries ≡ true → behind_labels n of ≡ labelled at text t
      → Ask (a_named (passed_labels m [] of) (behind_labels m of) e) s Give ≡ label_step (planned tables inputs set functions) (entrance tables inputs set functions) (asking tables inputs set functions) carries (passed_labels n [] of) text t e s
  passed_one m carries at text t more chosen there = let next : m ≡ suc n = omega (arith, more) in
      ap₂ (λ ls x. Ask (a_named ls x e) s Give) (ap (λ k. passed_labels k [] of) next ∙ labels_more n [] of at text t there) (ap (λ k. behind_labels k of) next ∙ behind_one n of at text t there)
      ∙ sym (ap (λ b. label_step (planned tables inputs set functions) (entrance tables inputs set functions) (asking tables inputs set functions) b (passed_labels n [] of) text t e s) chosen)

-- a labelled statement begins so where no value lies loose
pub labelled_begins : {T : Type 0} → (old : Kept T) (of body : Statement) (text : List ℕ) (n at : ℕ) (result : Result Control OutOfMemory) → behind_labels n of ≡ labelled at text body
    → IfOk result (λ next. (tables : Tables) (inputs : Given) (set : BuiltIns) (functions : List FunctionCode) (vs : List Val) (e : Setting) (s : State) (at : ℕ) → behind_labels n of ≡ labelled at text body
    → next_plan tables inputs set functions next vs e s ≡ label_step (planned tables inputs set functions) (entrance tables inputs set functions) (asking tables inputs set functions) (carries_labels body) (passed_labels n [] of) text body e.env s)
    → IfOk result (Begins (λ tables inputs set functions e. named_step (planned tables inputs set functions) (entrance tables inputs set functions) (asking tables inputs set functions) (passed_labels n [] of) (behind_labels n of) e.env) old old)
labelled_begins old of body text n at (Err fault) there plan = tt
labelled_begins old of body text n at (Ok next) there plan = λ tables inputs set functions reading e s loose.
    ap (behind tables inputs set functions reading old.tasks e) (plan tables inputs set functions (map (read_value reading) old.loose) (setting_above old.tasks e) s at there ∙ labelled_named tables inputs set functions n of (setting_above old.tasks e).env s at text body there)
