-- What is handed on to the pending work: a value that lies alone, given or thrown, the end of a run, a stop's labels.
use Rattle.std.proofs.Common.{refl, sym, ap, subst, ◌∙◌, ◌≡◌, List, [], ◌∷◌, ◌++◌, map, length, Result, Ok, Err, IfErr}
use Rattle.std.specs.Result.{IsErrAnd}
use Rattle.std.proofs.lemmas.List.{nil_from_length}
use Rattle.origin_labels.specs.Label.{Label}
use Rattle.flow_policy.specs.Policies.{Tables}
use Rattle.flow_policy.specs.Inputs.{Given}
use Rattle.js_ast.specs.Functions.{FunctionCode}
use Rattle.es_meaning.specs.BuiltIns.{BuiltIns}
use Rattle.flow_frames.specs.declared.faults.FlowFault.{FlowFault}
use Rattle.flow_frames.specs.declared.faults.FlowFault.TheVariants as fault
use Rattle.flow_frames.specs.Stops.{IfStop}
use Rattle.js_values.specs.declared.value.Labelled.{Labelled}
use Rattle.js_values.specs.Readings.{read_value}
use Rattle.continuations.specs.Settings.{Setting}
use Rattle.flow_meaning.specs.Scopes.{State, Halt}
use Rattle.flow_meaning.specs.Planned.{Give, End, gave, jumped, and_plan}
use Rattle.run_state.specs.Acts.{HasAnswer, thrown}
use Rattle.continuations.specs.declared.continuation.Control.TheVariants as control
use Rattle.continuations.specs.Kept.{Kept}
use Rattle.continuations.specs.declared.continuation.Jump.{Jump}
use Rattle.continuations.specs.declared.continuation.Jump.TheVariants as jump
use Rattle.continuations.specs.Shapes.{jump_of}
use Rattle.continuations.specs.Pending.{Task, setting_inside, after_task, behind, setting_above, first_or_undefined, next_plan}
use Rattle.continuations.specs.Resuming.{coming}
use Rattle.continuations.specs.Stops.{HasStop}

module _ {T : Type 0} where
  -- the end of a run passes all that is pending
  pub behind_end : (tables : Tables) (inputs : Given) (set : BuiltIns) (functions : List FunctionCode) (reading : T → Label) (tasks : List (Task T)) (e : Setting) (halt : Halt) (s : State) → behind tables inputs set functions reading tasks e (End halt s) ≡ End halt s
  unfolding behind
  behind_end tables inputs set functions reading [] e halt s = refl
  behind_end tables inputs set functions reading (w ∷ tasks) e halt s = ap (λ p. and_plan p (after_task tables inputs set functions reading w e)) (behind_end tables inputs set functions reading tasks (setting_inside w.0 e) halt s)

  -- a value that lies alone is given, or thrown
  pub gives_alone : (tables : Tables) (inputs : Given) (set : BuiltIns) (functions : List FunctionCode) (reading : T → Label) (old new : Kept T) (v : Labelled T) (e : Setting) (s : State) → new.tasks ≡ old.tasks → new.loose ≡ v ∷ []
      → coming tables inputs set functions reading new control.Value e s ≡ behind tables inputs set functions reading old.tasks e (Give (gave (read_value reading v)) s)
  gives_alone tables inputs set functions reading old new v e s tasks lies =
      ap (λ ts. behind tables inputs set functions reading ts e (next_plan tables inputs set functions control.Value (map (read_value reading) new.loose) (setting_above ts e) s)) tasks
      ∙ ap (λ vs. behind tables inputs set functions reading old.tasks e (Give (gave (first_or_undefined (map (read_value reading) vs))) s)) lies

  pub jumps_alone : (tables : Tables) (inputs : Given) (set : BuiltIns) (functions : List FunctionCode) (reading : T → Label) (j : Jump) (old new : Kept T) (v : Labelled T) (e : Setting) (s : State) → new.tasks ≡ old.tasks → new.loose ≡ v ∷ []
      → coming tables inputs set functions reading new (control.Jumps j) e s ≡ behind tables inputs set functions reading old.tasks e (Give (jumped (jump_of j (read_value reading v))) s)
  jumps_alone tables inputs set functions reading j old new v e s tasks lies =
      ap (λ ts. behind tables inputs set functions reading ts e (next_plan tables inputs set functions (control.Jumps j) (map (read_value reading) new.loose) (setting_above ts e) s)) tasks
      ∙ ap (λ vs. behind tables inputs set functions reading old.tasks e (next_plan tables inputs set functions (control.Jumps j) (map (read_value reading) vs) (setting_above old.tasks e) s)) lies

  -- and so is one that was laid where no value lay
  pub lies_alone : (old new : Kept T) (v : Labelled T) → length old.loose ≡ 0 → new.loose ≡ old.loose ++ v ∷ [] → new.loose ≡ v ∷ []
  lies_alone old new v none laid = laid ∙ ap (λ vs. vs ++ v ∷ []) (nil_from_length old.loose none)

  pub laid_value : (old new : Kept T) (v : Labelled T) → length old.loose ≡ 0 → new.tasks ≡ old.tasks → new.loose ≡ old.loose ++ v ∷ [] → (tables : Tables) (inputs : Given) (set : BuiltIns) (functions : List FunctionCode) (reading : T → Label) (e : Setting) (s : State)
      → coming tables inputs set functions reading new control.Value e s ≡ behind tables inputs set functions reading old.tasks e (Give (gave (read_value reading v)) s)
  laid_value old new v none tasks laid tables inputs set functions reading e s = gives_alone tables inputs set functions reading old new v e s tasks (lies_alone old new v none laid)

  -- the labels of a stop
  stop_has : {X : Type 0} (has : X → Type 0) (made : T → Type 0) (f : FlowFault T) → HasAnswer has made (Err f) → IfStop (HasStop made) f
  stop_has has made (fault.Stop stop) answer = record { need = answer.0; have = answer.1 }
  stop_has has made fault.OutOfMemory answer = tt

  -- a `?` hands them on
  pub stop_passes : {X R : Type 0} (has : X → Type 0) (made : T → Type 0) (f : FlowFault T) (result : Result R (FlowFault T)) → HasAnswer has made (Err f) → IsErrAnd result (λ e. e ≡ f) → IfErr result (IfStop (HasStop made))
  stop_passes has made f (Ok x) answer is = absurd is
  stop_passes has made f (Err e) answer is = subst (IfStop (HasStop made)) (sym is) (stop_has has made f answer)
