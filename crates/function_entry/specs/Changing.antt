-- What it means that a call changes the state of the labelled meaning.
use Rattle.std.specs.Prelude.{◌≡◌, ℕ, List}
use Rattle.origin_labels.specs.Label.{Label}
use Rattle.js_values.specs.Readings.{IsReading}
use Rattle.es_meaning.specs.Outcomes.{Goes}
use Rattle.flow_meaning.specs.Scopes.{Val, State, LabelledLine, L}
use Rattle.run_state.specs.declared.world.World.{World}
use Rattle.run_state.specs.Worlds.{state_of}

module _ {S T : Type 0} (made : S → T → Type 0) (meaning : S → T → Label) (store : S) where
  -- a call changes the state so, in each reading that agrees with the store, whatever was printed before and however many turns are left
  pub record Changes (change : (T → Label) → State → State) (old new : World T) : Type 0 where
    pub says : (reading : T → Label) → IsReading made meaning store reading → (told : List LabelledLine) (turns : ℕ) → state_of reading new told turns ≡ change reading (state_of reading old told turns)

  -- and an act gives a value so
  pub record Gives (act : (T → Label) → L Val) (v : Val) (old new : World T) : Type 0 where
    pub says : (reading : T → Label) → IsReading made meaning store reading → (told : List LabelledLine) (turns : ℕ) → act reading (state_of reading old told turns) ≡ Goes v (state_of reading new told turns)
