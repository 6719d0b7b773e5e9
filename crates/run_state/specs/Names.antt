-- The machine's words for references and for why a run leaves, as the meaning has them.
use Rattle.std.specs.Prelude.{ℕ, List}
use Rattle.origin_labels.specs.Label.{Label}
use Rattle.es_meaning.specs.Plain as plain
use Rattle.es_meaning.specs.Operators.{leaves_numbers, leaves_strings}
use Rattle.flow_meaning.specs.Scopes.{Val}
use Rattle.flow_meaning.specs.Tracked.{Reference, of_name, of_property}
use Rattle.run_state.specs.declared.outcome.Place.{Place}
use Rattle.run_state.specs.declared.outcome.Place.TheVariants as place
use Rattle.run_state.specs.declared.outcome.Named.{Named}
use Rattle.run_state.specs.declared.outcome.Leaving.{Leaving}
use Rattle.run_state.specs.declared.outcome.Leaving.TheVariants as leaving

abbrev pub place_of : Place → plain.Place
place_of (place.Record e) = plain.in_record e.0
place_of place.Global = plain.on_global
place_of place.Nowhere = plain.nowhere

-- a resolved name, in a reading of its label
abbrev pub reference_of : {T : Type 0} → (T → Label) → Named T → Reference
reference_of reading r = of_name r.name.now (place_of r.place) (reading r.walk)

-- a property of a base, by a key that is a primitive value
abbrev pub property_of : Val → Val → Reference
property_of base key = of_property base (plain.key_text key.value) key.label

-- the names by which a run leaves
abbrev pub leaving_name : Leaving → List ℕ
leaving_name leaving.Number = leaves_numbers
leaving_name leaving.String = leaves_strings
leaving_name leaving.Channel = plain.leaves_channels
leaving_name leaving.Origin = plain.leaves_origins
leaving_name leaving.Wrapper = plain.leaves_wrappers
leaving_name (leaving.Named name) = name
