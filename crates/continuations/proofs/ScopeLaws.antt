-- A part in a scope of its own.
use Rattle.std.proofs.Common.{sym, ap, ap₂, ◌∙◌, ◌≡◌, ℕ, List, [], ◌∷◌, ◌++◌, map, length, Result, Ok, Err, IfOk}
use Rattle.std.proofs.lemmas.List.{length-map}
use Rattle.origin_labels.specs.Label.{Label}
use Rattle.flow_policy.specs.Policies.{Tables}
use Rattle.flow_policy.specs.Inputs.{Given}
use Rattle.js_ast.specs.Functions.{FunctionCode}
use Rattle.es_meaning.specs.BuiltIns.{BuiltIns}
use Rattle.flow_text.specs.declared.memory.OutOfMemory.{OutOfMemory}
use Rattle.flow_frames.specs.declared.kind.Kind.{Kind}
use Rattle.flow_frames.specs.Changes.{pushed}
use Rattle.flow_frames.specs.Held.{Held, seen_frame}
use Rattle.js_values.specs.Readings.{IsReading}
use Rattle.continuations.specs.Settings.{Setting}
use Rattle.flow_meaning.specs.Scopes.{State, pushed_on}
use Rattle.flow_meaning.specs.Planned.{Plan, and_plan}
use Rattle.continuations.specs.declared.continuation.Continuation.{Continuation}
use Rattle.continuations.specs.declared.continuation.Control.{Control}
use Rattle.continuations.specs.Kept.{Kept}
use Rattle.continuations.specs.Pending.{Task, setting_inside, setting_above, after, after_task, behind}
use Rattle.continuations.specs.Resuming.{Begins, BeginsIn, with_frames}
use Rattle.continuations.proofs.Behind.{behind_more, setting_more}

module _ {S T : Type 0} (made : S → T → Type 0) (meaning : S → T → Label) (store : S) where
  -- the plan of a part behind work that was pushed
  pub in_scope : (tables : Tables) (inputs : Given) (set : BuiltIns) (functions : List FunctionCode) (reading : T → Label) (tasks : List (Task T)) (w : Task T) (e : Setting) (plan : Setting → Plan)
      → behind tables inputs set functions reading (tasks ++ w ∷ []) e (plan (setting_above (tasks ++ w ∷ []) e)) ≡ behind tables inputs set functions reading tasks e (and_plan (plan (setting_inside w.0 (setting_above tasks e))) (after_task tables inputs set functions reading w (setting_above tasks e)))
  in_scope tables inputs set functions reading tasks w e plan = ap (λ f. behind tables inputs set functions reading (tasks ++ w ∷ []) e (plan f)) (setting_more tasks w e) ∙ behind_more tables inputs set functions reading tasks w e (plan (setting_inside w.0 (setting_above tasks e)))

  -- a part that is done in a frame of its own, with the work that ends its scope
  pub scope_begins : (inner outer : Tables → Given → BuiltIns → List FunctionCode → Setting → State → Plan) (scope : ℕ → Continuation) (kind : Kind) (means : Label)
      (old middle new : Kept T) (frames_old frames_new : List (Held T)) (depth : ℕ) (label : T) (result : Result Control OutOfMemory)
      → ((tables : Tables) (inputs : Given) (set : BuiltIns) (functions : List FunctionCode) (f : Setting) (s : State) → outer tables inputs set functions f s ≡ and_plan (inner tables inputs set functions (setting_inside (scope (length s.frames)) f) (pushed_on kind means s)) (after tables inputs set functions (scope (length s.frames)) [] f))
      → old.loose ≡ [] → middle ≡ record { tasks = old.tasks ++ (scope depth, old.loose) ∷ []; loose = [] } → depth ≡ length frames_old
      → ((reading : T → Label) → IsReading made meaning store reading → map (seen_frame reading) frames_new ≡ map (seen_frame reading) frames_old ++ pushed kind (reading label) ∷ [])
      → ((reading : T → Label) → IsReading made meaning store reading → reading label ≡ means)
      → IfOk result (Begins inner middle new)
      → IfOk result (BeginsIn made meaning store outer old new frames_old frames_new)
  scope_begins inner outer scope kind means old middle new frames_old frames_new depth label (Err fault) opens none is deep entered reads begins = tt
  scope_begins inner outer scope kind means old middle new frames_old frames_new depth label (Ok next) opens none is deep entered reads begins = λ tables inputs set functions reading e s read loose.
      let t = with_frames reading frames_new s in
      let f = setting_above old.tasks e in
      let size = deep ∙ sym (length-map frames_old (seen_frame reading)) in
      begins tables inputs set functions reading e t (ap (λ k. k.loose) is)
      ∙ ap (λ k. behind tables inputs set functions reading k.tasks e (inner tables inputs set functions (setting_above k.tasks e) t)) is
      ∙ in_scope tables inputs set functions reading old.tasks (scope depth, old.loose) e (λ g. inner tables inputs set functions g t)
      ∙ ap (λ vs. behind tables inputs set functions reading old.tasks e (and_plan (inner tables inputs set functions (setting_inside (scope depth) f) t) (after_task tables inputs set functions reading (scope depth, vs) f))) none
      ∙ ap₂ (λ d u. behind tables inputs set functions reading old.tasks e (and_plan (inner tables inputs set functions (setting_inside (scope d) f) u) (after tables inputs set functions (scope d) [] f))) size (ap (λ fs. record s { frames = fs }) (entered reading read ∙ ap (λ l. map (seen_frame reading) frames_old ++ pushed kind l ∷ []) (reads reading read)))
      ∙ sym (ap (behind tables inputs set functions reading old.tasks e) (opens tables inputs set functions f (with_frames reading frames_old s)))

  -- a part in a frame of its own, behind work that was pushed before
  pub work_begins : (inner outer : Tables → Given → BuiltIns → List FunctionCode → Setting → State → Plan) (w : Continuation) (old middle new : Kept T) (frames_old frames_new : List (Held T)) (result : Result Control OutOfMemory)
      → ((tables : Tables) (inputs : Given) (set : BuiltIns) (functions : List FunctionCode) (f : Setting) (s : State) → outer tables inputs set functions f s ≡ and_plan (inner tables inputs set functions (setting_inside w f) s) (after tables inputs set functions w [] f))
      → old.loose ≡ [] → middle ≡ record { tasks = old.tasks ++ (w, old.loose) ∷ []; loose = [] }
      → IfOk result (BeginsIn made meaning store inner middle new frames_old frames_new)
      → IfOk result (BeginsIn made meaning store outer old new frames_old frames_new)
  work_begins inner outer w old middle new frames_old frames_new (Err fault) opens none is begins = tt
  work_begins inner outer w old middle new frames_old frames_new (Ok next) opens none is begins = λ tables inputs set functions reading e s read loose.
      let t = with_frames reading frames_old s in
      let f = setting_above old.tasks e in
      begins tables inputs set functions reading e s read (ap (λ k. k.loose) is)
      ∙ ap (λ k. behind tables inputs set functions reading k.tasks e (inner tables inputs set functions (setting_above k.tasks e) t)) is
      ∙ in_scope tables inputs set functions reading old.tasks (w, old.loose) e (λ g. inner tables inputs set functions g t)
      ∙ ap (λ vs. behind tables inputs set functions reading old.tasks e (and_plan (inner tables inputs set functions (setting_inside w f) t) (after_task tables inputs set functions reading (w, vs) f))) none
      ∙ sym (ap (behind tables inputs set functions reading old.tasks e) (opens tables inputs set functions f t))
