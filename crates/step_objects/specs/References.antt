-- References, as the meaning has them, and what their labels are made of.
use Rattle.origin_labels.specs.Label.{Label}
use Rattle.js_values.specs.Readings.{read_value}
use Rattle.flow_meaning.specs.Tracked as tracked
use Rattle.run_state.specs.Names.{reference_of, property_of}
use Rattle.step_objects.specs.declared.references.Reference.{Reference}
use Rattle.step_objects.specs.declared.references.Reference.TheVariants.{Name, Property}

abbrev pub refers : {T : Type 0} → (T → Label) → Reference T → tracked.Reference
refers reading (Name named) = reference_of reading named
refers reading (Property base key) = property_of (read_value reading base) (read_value reading key)

-- its labels are those of a store
abbrev pub HasReference : {T : Type 0} → (T → Type 0) → Reference T → Type 0
HasReference made (Name named) = made named.walk
HasReference made (Property base key) = made base.label × made key.label
