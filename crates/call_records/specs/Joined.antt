-- Arguments, each of which depends on the context of the call besides.
use Rattle.std.specs.Prelude.{◌≡◌, List, [], ◌∷◌, Option, Some, None, map}
use Rattle.std.specs.List.{All}
use Rattle.origin_labels.specs.Label.{Label, union}
use Rattle.js_values.specs.declared.value.Labelled.{Labelled}
use Rattle.js_values.specs.Readings.{IsReading, HasValue, read_value}

-- a value that depends on the context besides
abbrev pub in_context : Label → Labelled Label → Labelled Label
in_context context v = record { value = v.value; label = union v.label context }

module _ {S T : Type 0} (made : S → T → Type 0) (meaning : S → T → Label) (store : S) where
  -- values that depend on the context besides
  pub record Joins (here : T) (old new : List (Labelled T)) : Type 0 where
    pub says : (reading : T → Label) → IsReading made meaning store reading → map (read_value reading) new ≡ map (in_context (reading here)) (map (read_value reading) old)

  -- such a value of an argument, and `missing` where there is none
  abbrev pub IsNext : T → Labelled T → Option (Labelled T) → Labelled T → Type 0
  IsNext here missing None v = v ≡ missing
  IsNext here missing (Some x) v = Joins here (x ∷ []) (v ∷ []) × made store v.label

  -- with some such values for the arguments this holds
  pub record ForJoined (here : T) (args : List (Labelled T)) (Holds : List (Labelled T) → Type 0) : Type 0 where
    pub values : List (Labelled T)
    pub joins : Joins here args values
    pub has : All (HasValue (made store)) values
    pub holds : Holds values
