-- A continuation that was pushed, and the plan of what is done next.
use Rattle.std.proofs.Common.{ap, ◌∙◌, ◌≡◌, ℕ, List, [], ◌∷◌, ◌++◌, map}
use Rattle.std.specs.Borrow.{Bor}
use Rattle.origin_labels.specs.Label.{Label}
use Rattle.flow_policy.specs.Policies.{Tables}
use Rattle.flow_policy.specs.Inputs.{Given}
use Rattle.js_ast.specs.declared.trees.Clause.{Clause}
use Rattle.js_ast.specs.declared.trees.Stmt.{Stmt}
use Rattle.js_ast.specs.Functions.{FunctionCode}
use Rattle.js_values.specs.Readings.{read_value}
use Rattle.es_meaning.specs.BuiltIns.{BuiltIns}
use Rattle.flow_meaning.specs.Scopes.{State}
use Rattle.flow_meaning.specs.Planned.{and_plan}
use Rattle.continuations.specs.declared.continuation.Continuation.{Continuation}
use Rattle.continuations.specs.declared.continuation.Continuation.TheVariants as continuation
use Rattle.continuations.specs.declared.continuation.Control.{Control}
use Rattle.continuations.specs.declared.continuation.Control.TheVariants as control
use Rattle.continuations.specs.Kept.{Kept}
use Rattle.continuations.specs.Pending.{setting_inside, setting_above, after, behind, next_plan}
use Rattle.continuations.specs.Resuming.{coming}
use Rattle.continuations.proofs.Behind.{behind_more, setting_more}
use Rattle.continuations.specs.Settings.{Setting}

module _ (tables : Tables) (inputs : Given) (set : BuiltIns) (functions : List FunctionCode) {T : Type 0} (reading : T → Label) where
  pub pushed_plan : (w : Continuation) (move : Control) (old new : Kept T) (e : Setting) (s : State) → new ≡ record { tasks = old.tasks ++ (w, old.loose) ∷ []; loose = [] }
      → coming tables inputs set functions reading new move e s ≡ behind tables inputs set functions reading old.tasks e (and_plan (next_plan tables inputs set functions move [] (setting_inside w (setting_above old.tasks e)) s) (after tables inputs set functions w (map (read_value reading) old.loose) (setting_above old.tasks e)))
  pushed_plan w move old new e s is =
      ap (λ (k : Kept T). coming tables inputs set functions reading k move e s) is
      ∙ ap (λ f. behind tables inputs set functions reading (old.tasks ++ (w, old.loose) ∷ []) e (next_plan tables inputs set functions move [] f s)) (setting_more old.tasks (w, old.loose) e)
      ∙ behind_more tables inputs set functions reading old.tasks (w, old.loose) e (next_plan tables inputs set functions move [] (setting_inside w (setting_above old.tasks e)) s)

  -- a statement of a clause, in front of those behind it
  pub pushed_falls : (clauses : Bor (List Clause)) (n : ℕ) (st : Bor Stmt) (old new : Kept T) (e : Setting) (s : State) → old.loose ≡ [] → new ≡ record { tasks = old.tasks ++ (continuation.Falls clauses n, old.loose) ∷ []; loose = [] }
      → coming tables inputs set functions reading new (control.Stmt st) e s ≡ behind tables inputs set functions reading old.tasks e (and_plan (next_plan tables inputs set functions (control.Stmt st) [] (setting_above old.tasks e) s) (after tables inputs set functions (continuation.Falls clauses n) [] (setting_above old.tasks e)))
  pushed_falls clauses n st old new e s none is =
      pushed_plan (continuation.Falls clauses n) (control.Stmt st) old new e s is
      ∙ ap (λ vs. behind tables inputs set functions reading old.tasks e (and_plan (next_plan tables inputs set functions (control.Stmt st) [] (setting_above old.tasks e) s) (after tables inputs set functions (continuation.Falls clauses n) (map (read_value reading) vs) (setting_above old.tasks e)))) none
