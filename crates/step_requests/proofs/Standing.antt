-- What is asked for leaves the frames as they are, but for throws.
use Rattle.std.proofs.Common.{refl, ℕ, List, [], ◌∷◌, Some, None}
use Rattle.origin_labels.specs.Label.{bottom}
use Rattle.flow_policy.specs.Policies.{Tables}
use Rattle.flow_policy.specs.Inputs.{Given}
use Rattle.js_ast.specs.declared.operators.BinaryOperator.TheVariants.{StrictEqual}
use Rattle.es_meaning.specs.Operations as operations
use Rattle.flow_meaning.specs.Scopes.{L, State, Val}
use Rattle.flow_meaning.specs.Tracked.{act, accessed, of_property, put_value, remove}
use Rattle.continuations.specs.Answering.{held_in}
use Rattle.step_objects.specs.Standing.{FramesStand}
use Rattle.step_objects.proofs.Frames.{accessed_stands, act_stands, binary_stands, put_stands, remove_stands, then_stands}
use Rattle.step_requests.specs.declared.asked.Effect.{Effect}
use Rattle.step_requests.specs.declared.asked.Effect.TheVariants as effect
use Rattle.step_requests.specs.Asked.{effect_on, got, key_value, putting, with_base}
use Rattle.step_requests.proofs.Going.{any_set}

module _ (tables : Tables) (inputs : Given) where
  based_stands : {X : Type 0} (base : Val) (next : Val → L X) (s : State) → ((b : Val) (t : State) → FramesStand (next b t) t) → FramesStand (with_base tables inputs base next s) s
  based_stands base next s stands = then_stands (act tables inputs operations.base_needed (base ∷ []) s) next s (act_stands tables inputs operations.base_needed (base ∷ []) s) stands

  pub effect_stands : (e : Effect) (vs : List Val) (s : State) → FramesStand (effect_on tables inputs e vs s) s
  effect_stands (effect.Make v) vs s = refl
  effect_stands (effect.Copy from) vs s = refl
  effect_stands (effect.Same a b) vs s = binary_stands tables inputs any_set [] StrictEqual (held_in a vs) (held_in b vs) s
  effect_stands (effect.Has base key) vs s = based_stands (held_in base vs) (λ b. act tables inputs operations.has_key (key_value key ∷ b ∷ [])) s (λ b t. act_stands tables inputs operations.has_key (key_value key ∷ b ∷ []) t)
  effect_stands (effect.Delete base key) vs s = based_stands (held_in base vs) (λ b. remove (of_property b key bottom)) s (λ b t. remove_stands (of_property b key bottom) t)
  effect_stands (effect.Keys base all) vs s = act_stands tables inputs _ _ s
  effect_stands (effect.Proto base) vs s = act_stands tables inputs _ _ s
  effect_stands (effect.Extensible base) vs s = act_stands tables inputs _ _ s
  effect_stands (effect.Prevent base) vs s = act_stands tables inputs _ _ s
  effect_stands (effect.New class None) vs s = act_stands tables inputs _ _ s
  effect_stands (effect.New class (Some r)) vs s = act_stands tables inputs _ _ s
  effect_stands (effect.Bind target own args) vs s = act_stands tables inputs _ _ s
  effect_stands (effect.ReadLine channel) vs s = act_stands tables inputs _ _ s
  effect_stands (effect.Label from origins) vs s = act_stands tables inputs _ _ s
  effect_stands (effect.RaiseStructure base origins) vs s = act_stands tables inputs _ _ s
  effect_stands (effect.RaiseExistence base key origins) vs s = act_stands tables inputs _ _ s

  pub got_stands : (base : Val) (key : List ℕ) (s : State) → FramesStand (got tables inputs base key s) s
  got_stands base key s = based_stands base (λ b. accessed (of_property b key bottom)) s (λ b t. accessed_stands (of_property b key bottom) t)

  pub putting_stands : (base : Val) (key : List ℕ) (v : Val) (s : State) → FramesStand (putting tables inputs base key v s) s
  putting_stands base key v s = based_stands base (λ b. put_value (of_property b key bottom) v) s (λ b t. put_stands (of_property b key bottom) v t)
