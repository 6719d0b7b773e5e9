-- What a call leaves of a stack.
use Rattle.std.specs.Prelude.{◌≡◌, List, [], ◌∷◌, length, take}
use Rattle.origin_labels.specs.Label.{Label}
use Rattle.flow_policy.specs.Policies.{Tables}
use Rattle.flow_policy.specs.Inputs.{Given}
use Rattle.flow_frames.specs.Held.{Held}
use Rattle.js_ast.specs.Functions.{FunctionCode}
use Rattle.js_values.specs.declared.value.Labelled.{Labelled}
use Rattle.js_values.specs.Readings.{IsReading, read_value}
use Rattle.es_meaning.specs.BuiltIns.{BuiltIns}
use Rattle.flow_meaning.specs.Planned.{gave}
use Rattle.flow_meaning.specs.Scopes.{State}
use Rattle.continuations.specs.declared.continuation.Continuation.{Continuation}
use Rattle.continuations.specs.declared.continuation.Control.{Control}
use Rattle.continuations.specs.Kept.{Kept, scopes_of, operands_of, waiting}
use Rattle.continuations.specs.Pending.{after, behind, setting_above, values_of}
use Rattle.continuations.specs.Resuming.{coming, with_frames}
use Rattle.continuations.specs.Invariant.{running}
use Rattle.continuations.specs.Settings.{Setting}

-- the values that its next move has, the scopes that were pending, the built-ins that wait, of which none is to run, and a front of the operands and values
pub record Fronts {T : Type 0} (old new : Kept T) (next : Control) : Type 0 where
  pub values : length new.loose ≡ values_of next
  pub scopes : scopes_of new.tasks ≡ scopes_of old.tasks
  pub natives : waiting new.tasks ≡ waiting old.tasks
  pub still : running next ≡ 0
  pub operands : operands_of new ≡ take (length (operands_of new)) (operands_of old)

module _ {S T : Type 0} where
  -- a call that changes frames comes to what work says that keeps one operand, which lies below, under each reading that agrees with the store
  abbrev pub ResumesBesideIn : (S → T → Type 0) → (S → T → Label) → S → Continuation → Kept T → Kept T → List (Held T) → List (Held T) → Control → Type 0
  ResumesBesideIn made meaning store w old new frames_old frames_new next = (tables : Tables) (inputs : Given) (set : BuiltIns) (functions : List FunctionCode) (reading : T → Label) (e : Setting) (s : State) (operand value : Labelled T) → IsReading made meaning store reading → old.loose ≡ operand ∷ (value ∷ [])
      → coming tables inputs set functions reading new next e (with_frames reading frames_new s) ≡ behind tables inputs set functions reading old.tasks e (after tables inputs set functions w (read_value reading operand ∷ []) (setting_above old.tasks e) (gave (read_value reading value)) (with_frames reading frames_old s))
