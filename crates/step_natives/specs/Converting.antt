-- What it means that an object is converted.
use Rattle.std.specs.Prelude.{List, map, Ok}
use Rattle.origin_labels.specs.Label.{Label}
use Rattle.flow_policy.specs.Policies.{Tables}
use Rattle.flow_policy.specs.Inputs.{Given}
use Rattle.flow_frames.specs.declared.kind.Kind.TheVariants as kind
use Rattle.js_ast.specs.Functions.{FunctionCode}
use Rattle.js_values.specs.Readings.{read_value}
use Rattle.native_protocol.specs.declared.hint.Hint.{Hint}
use Rattle.native_protocol.specs.Steps.{Steps}
use Rattle.es_meaning.specs.BuiltIns.{BuiltIns}
use Rattle.flow_meaning.specs.Planned.{in_frame}
use Rattle.run_state.specs.declared.world.World.{World}
use Rattle.run_state.specs.Worlds.{state_of}
use Rattle.continuations.specs.declared.continuation.Control.{Control}
use Rattle.continuations.specs.Going.{ComesTo, here}
use Rattle.continuations.specs.Kept.{Kept}
use Rattle.continuations.specs.Pending.{behind, first_or_undefined}
use Rattle.continuations.specs.Settings.{entrance, setting_of}

module _ {S T : Type 0} (made : S → T → Type 0) (meaning : S → T → Label) (store : S) (tables : Tables) (inputs : Given) (set : BuiltIns) (functions : List FunctionCode) where
  -- the value that lay loose is converted in a frame with a label
  abbrev pub Converts : List Steps → (Control → List Steps) → Hint → T → Kept T → Kept T → World T → World T → Control → Type 0
  Converts natives_old natives_new hint label old new world_old world_new move =
      ComesTo made meaning store tables inputs set functions (natives_new move)
      (λ reading told turns. behind tables inputs set functions reading old.tasks (setting_of natives_old here)
      (in_frame kind.Native (reading label) ((entrance tables inputs set functions).conversion hint (first_or_undefined (map (read_value reading) old.loose))) (state_of reading world_old told turns))) new world_new (Ok move)
