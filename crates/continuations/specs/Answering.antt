-- What it means that a register is written, and that a built-in that waited goes on.
use Rattle.std.specs.Prelude.{◌≡◌, ℕ, List, [], ◌∷◌, ◌++◌, length, map, Option}
use Rattle.origin_labels.specs.Label.{Label}
use Rattle.flow_policy.specs.Policies.{Tables}
use Rattle.flow_policy.specs.Inputs.{Given}
use Rattle.flow_frames.specs.declared.kind.Kind.TheVariants as kind
use Rattle.flow_frames.specs.Held.{Held}
use Rattle.js_ast.specs.Functions.{FunctionCode}
use Rattle.js_values.specs.declared.value.Labelled.{Labelled}
use Rattle.js_values.specs.Readings.{IsReading, read_value}
use Rattle.native_protocol.specs.declared.registers.Reg.{Reg}
use Rattle.native_protocol.specs.declared.request.Answer.TheVariants as answer
use Rattle.native_protocol.specs.Steps.{Steps}
use Rattle.es_meaning.specs.BuiltIns.{BuiltIns, steps_behind}
use Rattle.es_meaning.specs.Evaluation.{element_or, with_element}
use Rattle.es_meaning.specs.Plain.{undefined}
use Rattle.flow_meaning.specs.Erased.{unlabelled}
use Rattle.flow_meaning.specs.Planned.{Give, asking, gave, in_frame}
use Rattle.flow_meaning.specs.Scopes.{Val, State}
use Rattle.continuations.specs.declared.continuation.Control.{Control}
use Rattle.continuations.specs.declared.continuation.Continuation.TheVariants as continuation
use Rattle.continuations.specs.Kept.{Kept, waiting}
use Rattle.continuations.specs.Pending.{after, behind, setting_above}
use Rattle.continuations.specs.Resuming.{coming, with_frames}
use Rattle.continuations.specs.Settings.{Setting}

-- a setting with one more built-in, inside the others
abbrev pub with_steps : Steps → Setting → Setting
with_steps steps e = record e { natives = e.natives ++ steps ∷ [] }

-- registers of which one is written
abbrev pub written_in : Reg → Val → List Val → List Val
written_in to v vs = with_element (unlabelled undefined) to.0 v vs

-- what a register holds: undefined where nothing was written
abbrev pub held_in : Reg → List Val → Val
held_in from vs = element_or (unlabelled undefined) from.0 vs

module _ {S T : Type 0} (made : S → T → Type 0) (meaning : S → T → Label) (store : S) where
  -- the values that lie loose are registers, of which one is written
  abbrev pub Writes : Reg → Labelled T → List (Labelled T) → List (Labelled T) → Type 0
  Writes to value old new = (reading : T → Label) → IsReading made meaning store reading → map (read_value reading) new ≡ written_in to (read_value reading value) (map (read_value reading) old)

  -- what a register holds
  abbrev pub Reads : Reg → List (Labelled T) → Labelled T → Type 0
  Reads from registers value = (reading : T → Label) → IsReading made meaning store reading → read_value reading value ≡ held_in from (map (read_value reading) registers)

  -- a built-in was entered in a frame of its own: the values that lie loose are its registers, and its steps come behind those of the built-ins that wait
  abbrev pub EntersNative : T → Kept T → Kept T → List (Held T) → List (Held T) → Control → Type 0
  EntersNative label old new frames_old frames_new next = (tables : Tables) (inputs : Given) (set : BuiltIns) (functions : List FunctionCode) (reading : T → Label) (e : Setting) (steps : Steps) (s : State)
      → IsReading made meaning store reading → length e.natives ≡ waiting old.tasks
      → coming tables inputs set functions reading new next (with_steps steps e) (with_frames reading frames_new s)
      ≡ behind tables inputs set functions reading old.tasks e (in_frame kind.Native (reading label) ((asking tables inputs set functions).native steps (map (read_value reading) old.loose)) (with_frames reading frames_old s))

  -- the built-in that ran is over, and gives what a register holds
  abbrev pub IsReturned : Reg → Kept T → Kept T → Control → Type 0
  IsReturned from old new next = (tables : Tables) (inputs : Given) (set : BuiltIns) (functions : List FunctionCode) (reading : T → Label) (e : Setting) (steps : Steps) (s : State)
      → IsReading made meaning store reading → length e.natives ≡ waiting old.tasks
      → coming tables inputs set functions reading new next e s ≡ behind tables inputs set functions reading old.tasks (with_steps steps e) (Give (gave (held_in from (map (read_value reading) old.loose))) s)

  -- the built-in that waited innermost is told that what it asked for is done
  abbrev pub IsAnswered : ℕ → Option Reg → Kept T → Kept T → Control → Type 0
  IsAnswered count to old new next = (tables : Tables) (inputs : Given) (set : BuiltIns) (functions : List FunctionCode) (reading : T → Label) (e : Setting) (steps : Steps) (s : State) (kept : List (Labelled T)) (value : Labelled T)
      → IsReading made meaning store reading → length e.natives ≡ waiting old.tasks → old.loose ≡ kept ++ value ∷ []
      → coming tables inputs set functions reading new next (with_steps (steps_behind steps answer.Done) e) s
      ≡ behind tables inputs set functions reading old.tasks (with_steps steps e) (after tables inputs set functions (continuation.Answered count to) (map (read_value reading) kept) (setting_above old.tasks (with_steps steps e)) (gave (read_value reading value)) s)
