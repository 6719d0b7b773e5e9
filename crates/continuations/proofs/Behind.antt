-- Plans behind pending work.
use Rattle.std.proofs.Common.{refl, ap, ◌∙◌, ◌≡◌, List, [], ◌∷◌, ◌++◌, map, Result, Ok, Err, IfOk}
use Rattle.js_values.specs.Readings.{read_value}
use Rattle.origin_labels.specs.Label.{Label}
use Rattle.flow_policy.specs.Policies.{Tables}
use Rattle.flow_policy.specs.Inputs.{Given}
use Rattle.js_ast.specs.Functions.{FunctionCode}
use Rattle.es_meaning.specs.BuiltIns.{BuiltIns}
use Rattle.continuations.specs.Settings.{Setting}
use Rattle.flow_text.specs.declared.memory.OutOfMemory.{OutOfMemory}
use Rattle.flow_meaning.specs.Scopes.{Val, State}
use Rattle.flow_meaning.specs.Planned.{Plan, and_plan}
use Rattle.continuations.specs.declared.continuation.Control.{Control}
use Rattle.continuations.specs.Kept.{Kept}
use Rattle.continuations.specs.Resuming.{Begins, BeginsBehind}
use Rattle.continuations.specs.Pending.{Task, setting_inside, setting_above, after_task, behind}

pub setting_more : {T : Type 0} → (tasks : List (Task T)) (w : Task T) (e : Setting) → setting_above (tasks ++ w ∷ []) e ≡ setting_inside w.0 (setting_above tasks e)
unfolding setting_above
setting_more [] w e = refl
setting_more (v ∷ tasks) w e = setting_more tasks w (setting_inside v.0 e)

pub behind_more : {T : Type 0} → (tables : Tables) (inputs : Given) (set : BuiltIns) (functions : List FunctionCode) (reading : T → Label) (tasks : List (Task T)) (w : Task T) (e : Setting) (p : Plan)
    → behind tables inputs set functions reading (tasks ++ w ∷ []) e p ≡ behind tables inputs set functions reading tasks e (and_plan p (after_task tables inputs set functions reading w (setting_above tasks e)))
unfolding behind setting_above
behind_more tables inputs set functions reading [] w e p = refl
behind_more tables inputs set functions reading (v ∷ tasks) w e p = ap (λ q. and_plan q (after_task tables inputs set functions reading v e)) (behind_more tables inputs set functions reading tasks w (setting_inside v.0 e) p)

-- a call that begins with one plan begins with an equal one
pub begins_as : {T : Type 0} → (plan same : Tables → Given → BuiltIns → List FunctionCode → Setting → State → Plan) (old new : Kept T) (result : Result Control OutOfMemory) → ((tables : Tables) (inputs : Given) (set : BuiltIns) (functions : List FunctionCode) (e : Setting) (s : State) → plan tables inputs set functions e s ≡ same tables inputs set functions e s)
    → IfOk result (Begins plan old new) → IfOk result (Begins same old new)
begins_as plan same old new (Ok next) equal begins = λ tables inputs set functions reading e s loose. begins tables inputs set functions reading e s loose ∙ ap (behind tables inputs set functions reading old.tasks e) (equal tables inputs set functions (setting_above old.tasks e) s)
begins_as plan same old new (Err fault) equal begins = tt

-- a call that begins a plan of the values that lie loose begins it of none where none lie so
pub begins_alone : {T : Type 0} → (plan : Tables → Given → BuiltIns → List FunctionCode → List Val → Setting → State → Plan) (old new : Kept T) (result : Result Control OutOfMemory)
    → IfOk result (BeginsBehind plan old new) → IfOk result (Begins (λ tables inputs set functions e s. plan tables inputs set functions [] e s) old new)
begins_alone plan old new (Ok next) begins = λ tables inputs set functions reading e s loose. begins tables inputs set functions reading e s ∙ ap (λ vs. behind tables inputs set functions reading old.tasks e (plan tables inputs set functions (map (read_value reading) vs) (setting_above old.tasks e) s)) loose
begins_alone plan old new (Err fault) begins = tt
