-- What a call begins with: references to the functions that it declares, and its `arguments` object.
use Rattle.std.specs.Prelude.{◌≡◌, ℕ, Bool, List, [], ◌∷◌, ◌++◌, map}
use Rattle.origin_labels.specs.Label.{Label}
use Rattle.js_values.specs.declared.value.Labelled.{Labelled}
use Rattle.js_values.specs.declared.value.Value.{Value}
use Rattle.js_values.specs.Objects.{Object}
use Rattle.js_values.specs.Readings.{IsReading, read_value, read_heap}
use Rattle.es_meaning.specs.Functions.{made_if}
use Rattle.flow_meaning.specs.Requested.{arguments_object}

-- values with one label
abbrev pub labelled_with : {T : Type 0} → T → List Value → List (Labelled T)
labelled_with label [] = []
labelled_with label (v ∷ vs) = record { value = v; label = label } ∷ labelled_with label vs

module _ {S T : Type 0} (made : S → T → Type 0) (meaning : S → T → Label) (store : S) where
  -- the `arguments` object of a call of the function with this number, in its record, is made in a context where its code names it
  pub record MakesNamed (here : T) (names : Bool) (function place : ℕ) (args : List (Labelled T)) (old new : List (Object T)) : Type 0 where
    pub says : (reading : T → Label) → IsReading made meaning store reading → read_heap reading new ≡ read_heap reading old ++ made_if names (arguments_object function place (map (read_value reading) args) (reading here))
