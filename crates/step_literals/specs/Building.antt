-- What it means that a call builds the object of a literal, with the functions of one table.
use Rattle.std.specs.Prelude.{◌≡◌, ◌⊎◌, ◌≤◌, ℕ, List, [], ◌∷◌, ◌++◌, length, map, take, drop, Result}
use Rattle.origin_labels.specs.Label.{Label}
use Rattle.flow_policy.specs.Policies.{Tables}
use Rattle.flow_policy.specs.Inputs.{Given}
use Rattle.flow_frames.specs.declared.faults.FlowFault.{FlowFault}
use Rattle.js_ast.specs.declared.trees.Property as node
use Rattle.js_ast.specs.declared.node_list.NodeList.{NodeList}
use Rattle.js_ast.specs.Functions.{FunctionCode}
use Rattle.js_ast.specs.Nodes.{nodes_of}
use Rattle.js_ast.specs.Keys.{key_text}
use Rattle.js_ast.specs.Views.{view_key, view_properties}
use Rattle.js_ast.specs.Trees.{Function}
use Rattle.js_ast.specs.declared.trees.PropertyKind.{PropertyKind}
use Rattle.js_ast.specs.declared.trees.PropertyKind as kinds
use Rattle.js_values.specs.declared.value.Labelled.{Labelled}
use Rattle.js_values.specs.Readings.{IsReading, read_value}
use Rattle.es_meaning.specs.BuiltIns.{BuiltIns}
use Rattle.es_meaning.specs.Evaluation.{properties}
use Rattle.es_meaning.specs.Operations.{Act, Part, as_value, as_getter, as_setter}
use Rattle.es_meaning.specs.Outcomes.{Goes}
use Rattle.flow_meaning.specs.Tracked.{make_function}
use Rattle.step_objects.specs.declared.literals.LiteralPart.{LiteralPart}
use Rattle.step_objects.specs.Literals.{keys_in}
use Rattle.flow_meaning.specs.Planned.{Plan, asking, planned}
use Rattle.flow_meaning.specs.Scopes.{State, LabelledLine}
use Rattle.run_state.specs.declared.world.World.{World}
use Rattle.run_state.specs.Worlds.{state_of}
use Rattle.continuations.specs.declared.continuation.Control.{Control}
use Rattle.continuations.specs.Kept.{Kept}
use Rattle.continuations.specs.Moving.{Moves}
use Rattle.continuations.specs.Pending.{behind, setting_above}
use Rattle.continuations.specs.Settings.{Setting, entrance}

-- a plan with the functions of one table
abbrev pub Building : Type 0 → Type 0
Building T = Tables → Given → BuiltIns → (T → Label) → Setting → State → Plan

module _ {S T : Type 0} (made : S → T → Type 0) (meaning : S → T → Label) (store : S) (functions : List FunctionCode) (place : ℕ) where
  -- a call comes to what a plan says, in this record
  pub record Builds (plan : Building T) (old new : Kept T) (world_old world_new : World T) (result : Result Control (FlowFault T)) : Type 0 where
    pub builds : (tables : Tables) (inputs : Given) (set : BuiltIns) (reading : T → Label) (e : Setting) (told : List LabelledLine) (turns : ℕ) → IsReading made meaning store reading → (setting_above old.tasks e).env.place ≡ place
        → Moves tables inputs set functions reading new e (state_of reading world_new told turns) (behind tables inputs set functions reading old.tasks e (plan tables inputs set reading (setting_above old.tasks e) (state_of reading world_old told turns))) result

  -- the parts of a literal from one on, behind the values of those before it
  abbrev pub parts_from : NodeList node.Property → ℕ → List (Labelled T) → Act → Building T
  parts_from list count vs act tables inputs set reading e =
      properties (planned tables inputs set functions) (entrance tables inputs set functions) (asking tables inputs set functions) act (map (read_value reading) vs) (view_properties (drop count (nodes_of list))) place

  -- what is to do from one part on, with these values and this world, is what was to do from another
  pub record Made (list : NodeList node.Property) (count now : ℕ) (old new : List (Labelled T)) (world_old world_new : World T) : Type 0 where
    pub makes : (tables : Tables) (inputs : Given) (set : BuiltIns) (act : Act) (reading : T → Label) (e : Setting) (told : List LabelledLine) (turns : ℕ) → IsReading made meaning store reading
        → parts_from list now new act tables inputs set reading e (state_of reading world_new told turns) ≡ parts_from list count old act tables inputs set reading e (state_of reading world_old told turns)

  -- a function was made, and lies uppermost
  pub record Laid (code : Function) (old new : Kept T) (world_old world_new : World T) : Type 0 where
    pub value : Labelled T
    pub tasks : new.tasks ≡ old.tasks
    pub loose : new.loose ≡ old.loose ++ value ∷ []
    pub has : made store value.label
    pub frames : length world_new.frames.frames ≡ length world_old.frames.frames
    pub act : (reading : T → Label) → IsReading made meaning store reading → (told : List LabelledLine) (turns : ℕ) → make_function functions code place (state_of reading world_old told turns) ≡ Goes (read_value reading value) (state_of reading world_new told turns)

-- what a part of a literal is
abbrev pub kind_in : PropertyKind → Part
kind_in (kinds.Value' a q e) = as_value
kind_in (kinds.Getter f) = as_getter
kind_in (kinds.Setter f) = as_setter

abbrev pub part_in : node.Property → Part × List ℕ
part_in p = (kind_in p.kind, key_text (view_key p.key))

-- these parts are those of a literal, and these its values, as far as both go
pub record AreParts {T : Type 0} (ps : List node.Property) (vs : List (Labelled T)) (parts : List (LiteralPart T)) : Type 0 where
  pub keys : keys_in parts ≡ take (length parts) (map part_in ps)
  pub values : map (λ p. p.value) parts ≡ take (length parts) vs
  pub all : (length ps ≤ length parts) ⊎ (length vs ≤ length parts)
