-- The work that is done first, taken from the others, goes on with a completion.
use Rattle.std.proofs.Common.{ap, ◌∙◌, ◌≡◌, List, map, take}
use Rattle.origin_labels.specs.Label.{Label}
use Rattle.flow_policy.specs.Policies.{Tables}
use Rattle.flow_policy.specs.Inputs.{Given}
use Rattle.js_ast.specs.Functions.{FunctionCode}
use Rattle.js_values.specs.Readings.{read_value}
use Rattle.es_meaning.specs.BuiltIns.{BuiltIns}
use Rattle.flow_meaning.specs.Scopes.{State}
use Rattle.flow_meaning.specs.Planned.{Completion, Give}
use Rattle.continuations.specs.declared.continuation.Continuation.{Continuation}
use Rattle.continuations.specs.Kept.{Kept, Taken}
use Rattle.continuations.specs.Settings.{Setting}
use Rattle.continuations.specs.Pending.{owns, setting_above, after, behind}
use Rattle.continuations.proofs.Behind.{behind_more}

module _ {T : Type 0} where
  pub taken_goes_on : (tables : Tables) (inputs : Given) (set : BuiltIns) (functions : List FunctionCode) (reading : T → Label) (e : Setting) (old new : Kept T) (w : Continuation) (c : Completion) (s : State) → Taken old new w
      → behind tables inputs set functions reading old.tasks e (Give c s) ≡ behind tables inputs set functions reading new.tasks e (after tables inputs set functions w (map (read_value reading) (take (owns w) new.loose)) (setting_above new.tasks e) c s)
  taken_goes_on tables inputs set functions reading e old new w c s taken =
      ap (λ ts. behind tables inputs set functions reading ts e (Give c s)) taken.tasks
      ∙ behind_more tables inputs set functions reading new.tasks (w, take (owns w) new.loose) e (Give c s)
