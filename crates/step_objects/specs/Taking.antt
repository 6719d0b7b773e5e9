-- The keys that `for in` takes of a value, as an act of its own.
use Rattle.std.specs.Prelude.{◌≡◌, ℕ, Bool, List, [], ◌∷◌, Option, Some, None, IfSome}
use Rattle.std.specs.Option.{option_map}
use Rattle.origin_labels.specs.Label.{Label, union}
use Rattle.flow_policy.specs.Policies.{Tables}
use Rattle.flow_policy.specs.Inputs.{Given}
use Rattle.js_ast.specs.Functions.{FunctionCode}
use Rattle.js_number.specs.declared.primitive.Primitive.TheVariants.{Str}
use Rattle.js_values.specs.declared.value.Value.{Value}
use Rattle.js_values.specs.declared.value.Value.TheVariants as value
use Rattle.js_values.specs.Objects.{Object}
use Rattle.js_values.specs.Readings.{IsReading, read_heap}
use Rattle.prototype_walk.specs.declared.key_list.KeyList.{KeyList}
use Rattle.prototype_walk.specs.Answers.{read_keys}
use Rattle.prototype_walk.specs.KeyLists.{Keys}
use Rattle.es_meaning.specs.BuiltIns.{BuiltIns}
use Rattle.es_meaning.specs.Outcomes.{left, Goes, ret, ◌>>=◌}
use Rattle.es_meaning.specs.Operations.{has_key}
use Rattle.es_meaning.specs.Operators.{truth}
use Rattle.es_meaning.specs.Plain.{leaves_wrappers}
use Rattle.flow_meaning.specs.Erased.{unlabelled}
use Rattle.flow_meaning.specs.Scopes.{Val, State, L, LabelledLine, raise}
use Rattle.run_state.specs.declared.world.World.{World}
use Rattle.run_state.specs.Worlds.{state_of}
use Rattle.flow_meaning.specs.Tracked.{labelled, act, ends, key_list}

-- they raise the innermost frame by the label of the value and by that of the walk
unfoldable pub given_keys : Option Keys → Label → L (List (List ℕ))
given_keys None label s = ends (left leaves_wrappers) s
given_keys (Some list) label s = (raise (union label list.walk) >>= λ u. ret list.keys) s

unfoldable pub taken : Val → L (List (List ℕ))
taken v s = given_keys (key_list s.heap v.value) v.label s

-- the keys of a value, in each reading that agrees with the store
pub record IsListed {S T : Type 0} (made : S → T → Type 0) (meaning : S → T → Label) (store : S) (heap : List (Object T)) (v : Value) (list : Option (KeyList T)) : Type 0 where
  pub belongs : IfSome list (λ l. made store l.walk)
  pub is : (reading : T → Label) → IsReading made meaning store reading → option_map (read_keys reading) list ≡ key_list (read_heap reading heap) v

-- what `for in` does with the keys of a value is done with those that are taken
abbrev pub AreHandedOn : Type 0
AreHandedOn = (tables : Tables) (inputs : Given) (set : BuiltIns) (functions : List FunctionCode) (v : Val) (next : List (List ℕ) → L (Unit {0})) (s : State) → (labelled tables inputs set functions).keys v next s ≡ (taken v >>= next) s

-- whether an object still has a key: what is told raises the innermost frame, which is the loop's
unfoldable pub still : Tables → Given → Val → List ℕ → L Bool
still tables inputs o key = act tables inputs has_key (unlabelled (value.Primitive (Str key)) ∷ o ∷ []) >>= λ v. raise v.label >>= λ u. ret (truth v.value)

-- the innermost frame was raised by a label, in each reading that agrees with the store
pub record Raises {S T : Type 0} (made : S → T → Type 0) (meaning : S → T → Label) (store : S) (label : T) (old new : World T) : Type 0 where
  pub is : (reading : T → Label) (told : List LabelledLine) (turns : ℕ) → IsReading made meaning store reading → raise (reading label) (state_of reading old told turns) ≡ Goes tt (state_of reading new told turns)
