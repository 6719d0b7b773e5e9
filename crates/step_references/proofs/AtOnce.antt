-- What was read or put at once is what an act comes to.
use Rattle.std.proofs.Common.{ℕ, List, Ok}
use Rattle.origin_labels.specs.Label.{Label}
use Rattle.js_values.specs.declared.value.Labelled.{Labelled}
use Rattle.js_values.specs.Readings.{read_heap, read_records, read_value}
use Rattle.flow_meaning.specs.Tracked.{accessed, put_value, resolved}
use Rattle.run_state.specs.declared.outcome.Access.TheVariants as access
use Rattle.run_state.specs.declared.outcome.Named.{Named}
use Rattle.run_state.specs.declared.outcome.Outcome.TheVariants as outcomes
use Rattle.run_state.specs.declared.outcome.Putting.TheVariants as putting
use Rattle.run_state.specs.declared.world.World.{World}
use Rattle.run_state.specs.Accesses.{read_access, read_putting}
use Rattle.run_state.specs.Acts.{Acts}
use Rattle.run_state.specs.Names.{place_of, reference_of}
use Rattle.step_numbers.specs.Assigned.{PutsAt}
use Rattle.step_numbers.specs.Named.{IsNamed}

module _ {S T : Type 0} {made : S → T → Type 0} {meaning : S → T → Label} {store : S} where
  pub named_acts : {at : ℕ} {name : List ℕ} {w : World T} {v : Labelled T} → IsNamed made meaning store at name w v
      → Acts made meaning store (λ reading. read_access reading) (λ reading. accessed (resolved (read_records reading w.records) (read_heap reading w.heap) at name)) w w (Ok (outcomes.Goes (access.Value v)))
  named_acts is = record { says = λ reading read told turns. is.comes reading told turns read }

  pub put_acts : (named : Named T) {v : Labelled T} {old new : World T} → PutsAt made meaning store (place_of named.place) named.name.now v old new
      → Acts made meaning store (λ reading. read_putting reading) (λ reading. put_value (reference_of reading named) (read_value reading v)) old new (Ok (outcomes.Goes putting.Put))
  unfolding put_value
  put_acts named puts = record { says = λ reading read told turns. puts.goes reading told turns (reading named.walk) read }
