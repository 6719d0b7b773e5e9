-- What holds in the frame of a call, and what it means that a built-in runs in its own.
use Rattle.std.specs.Prelude.{◌≡◌, ◌<◌, ◌+◌, ℕ, suc, List, [], ◌∷◌, ◌++◌, length, map, take, drop, Result, Ok, Err}
use Rattle.std.specs.List.{All}
use Rattle.origin_labels.specs.Label.{Label}
use Rattle.flow_policy.specs.Policies.{Tables}
use Rattle.flow_policy.specs.Inputs.{Given}
use Rattle.flow_frames.specs.declared.faults.FlowFault.{FlowFault}
use Rattle.flow_frames.specs.declared.kind.Kind.{Kind}
use Rattle.flow_frames.specs.declared.kind.Kind.TheVariants as kind
use Rattle.flow_frames.specs.Changes.{pushed}
use Rattle.flow_frames.specs.Held.{seen_frame}
use Rattle.js_ast.specs.Functions.{FunctionCode}
use Rattle.js_values.specs.declared.value.Labelled.{Labelled}
use Rattle.js_values.specs.Readings.{HasValue, IsReading, read_value}
use Rattle.native_protocol.specs.declared.request.Answer.{Answer}
use Rattle.native_protocol.specs.declared.request.Request.{Request}
use Rattle.native_protocol.specs.Steps.{Steps}
use Rattle.es_meaning.specs.BuiltIns.{BuiltIns}
use Rattle.flow_meaning.specs.Planned.{asking, in_frame}
use Rattle.flow_meaning.specs.Scopes.{LabelledLine}
use Rattle.step_natives.specs.States.{States, running_steps, waiting_steps}
use Rattle.run_state.specs.declared.world.World.{World}
use Rattle.run_state.specs.Worlds.{Belongs, state_of}
use Rattle.continuations.specs.declared.continuation.Control.{Control}
use Rattle.continuations.specs.declared.continuation.Control.TheVariants as control
use Rattle.continuations.specs.Answering.{with_steps}
use Rattle.continuations.specs.Kept.{Kept, operands_of, scopes_of, waiting}
use Rattle.continuations.specs.Pending.{behind}
use Rattle.continuations.specs.Resuming.{coming}
use Rattle.continuations.specs.Settings.{Setting}
use Rattle.continuations.specs.Invariant.{depths}

-- a value stands in front
abbrev pub Leads : {T : Type 0} → List (Labelled T) → Labelled T → Type 0
Leads values v = values ≡ v ∷ drop 1 values

-- what is left of the steps of the built-ins that wait, and of the one that runs where it is next
abbrev pub steps_at : {X : Type 0} → (X → Answer → X) → (X → Request) → States X → Control → List Steps
steps_at tells asks natives (control.Request count) = running_steps tells asks natives
steps_at tells asks natives _ = waiting_steps tells asks natives

abbrev pub steps_behind : {X T : Type 0} → (X → Answer → X) → (X → Request) → States X → Result Control (FlowFault T) → List Steps
steps_behind tells asks natives (Ok move) = steps_at tells asks natives move
steps_behind tells asks natives (Err fault) = waiting_steps tells asks natives

module _ {S T : Type 0} (made : S → T → Type 0) (meaning : S → T → Label) (store : S) where
  -- so many values lie loose, and the innermost frame, at this depth, is of a kind and depends on a label. The work that ends it is still to be pushed
  pub record Begun (of : Kind) (stack : Kept T) (world : World T) (count depth : ℕ) (label : T) : Type 0 where
    pub belongs : Belongs made meaning store world
    pub operands : All (HasValue (made store)) (operands_of stack)
    pub values : length stack.loose ≡ count
    pub scopes : scopes_of stack.tasks ≡ depths (length (scopes_of stack.tasks))
    pub deep : depth ≡ suc (length (scopes_of stack.tasks))
    pub frames : length world.frames.frames ≡ depth + 1
    pub innermost : (reading : T → Label) → IsReading made meaning store reading → map (seen_frame reading) world.frames.frames ≡ take depth (map (seen_frame reading) world.frames.frames) ++ pushed of (reading label) ∷ []
    pub label_made : made store label
    pub records : 0 < length world.records

  -- a built-in runs in a frame of its own, inside those that wait: the values that lay loose are its registers
  abbrev pub RunsNative : T → Kept T → Kept T → World T → World T → Control → Type 0
  RunsNative label old new world_old world_new move = (tables : Tables) (inputs : Given) (set : BuiltIns) (functions : List FunctionCode) (reading : T → Label) (e : Setting) (steps : Steps) (told : List LabelledLine) (turns : ℕ)
      → IsReading made meaning store reading → length e.natives ≡ waiting old.tasks
      → coming tables inputs set functions reading new move (with_steps steps e) (state_of reading world_new told turns)
      ≡ behind tables inputs set functions reading old.tasks e (in_frame kind.Native (reading label) ((asking tables inputs set functions).native steps (map (read_value reading) old.loose)) (state_of reading world_old told turns))
