-- Whether a value has a key, and on which walk that depends.
use Rattle.std.specs.Prelude.{◌≡◌, ℕ, true, List, Option, Some, None}
use Rattle.origin_labels.specs.Label.{Label, bottom}
use Rattle.js_number.specs.declared.primitive.Primitive.{Primitive}
use Rattle.js_values.specs.declared.value.Value.{Value}
use Rattle.js_values.specs.declared.value.Value.TheVariants as value
use Rattle.js_values.specs.Objects.{Object}
use Rattle.js_values.specs.Readings.{IsReading}
use Rattle.js_values.specs.Walks.{Found, find, object_chain}
use Rattle.es_meaning.specs.Plain.{is_found}
use Rattle.es_meaning.specs.Primitives.{own_value_of}
use Rattle.flow_meaning.specs.Tracked.{primitive_chain}
use Rattle.step_objects.specs.declared.asking.Asked.{Asked}

abbrev pub asked_in : Found → Asked Label
asked_in found = record { has = is_found found.at; walk = found.walk }

-- an own property of a primitive value has an empty walk
abbrev pub asked_of_primitive : Option Primitive → Found → Asked Label
asked_of_primitive None found = asked_in found
asked_of_primitive (Some v) found = record { has = true; walk = bottom }

abbrev pub asked_of : List (Object Label) → List ℕ → Value → Asked Label
asked_of heap key (value.Object o) = asked_in (find key (object_chain heap o.0))
asked_of heap key (value.Primitive p) = asked_of_primitive (own_value_of p key) (find key (primitive_chain heap p))

pub record IsAsked {S T : Type 0} (made : S → T → Type 0) (meaning : S → T → Label) (store : S) (means : (T → Label) → Asked Label) (asked : Asked T) : Type 0 where
  pub belongs : made store asked.walk
  pub is : (reading : T → Label) → IsReading made meaning store reading → (record { has = asked.has; walk = reading asked.walk }) ≡ means reading
