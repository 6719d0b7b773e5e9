-- What an accessor comes to.
use Rattle.std.specs.Prelude.{ℕ, List, Option, Some, None, slice_get, if◌then◌else◌}
use Rattle.js_number.specs.declared.primitive.Primitive.TheVariants.{Undefined}
use Rattle.js_values.specs.declared.ids.ObjId.{ObjId}
use Rattle.js_values.specs.declared.property.Slot.{Slot}
use Rattle.js_values.specs.declared.value.Labelled.{Labelled}
use Rattle.js_values.specs.declared.value.Value.TheVariants as value
use Rattle.es_meaning.specs.Definitions.{is_accessor, setter_in}
use Rattle.property_access.specs.declared.putting.FoundSetter.{FoundSetter}
use Rattle.run_state.specs.declared.outcome.Access.{Access}
use Rattle.run_state.specs.declared.outcome.Access.TheVariants as access

abbrev pub undefined_with : {T : Type 0} → T → Labelled T
undefined_with label = record { value = value.Primitive Undefined; label = label }

abbrev pub object_with : {T : Type 0} → ObjId → T → Labelled T
object_with o label = record { value = value.Object o; label = label }

-- a read, by the getter
abbrev pub getter_of : {T : Type 0} → T → Option ObjId → Labelled T → Access T
getter_of label None this = access.Value (undefined_with label)
getter_of label (Some f) this = access.Getter label f this

-- the setter of a property, with the property's value label
abbrev pub setter_with : {T : Type 0} → Slot T → FoundSetter T
setter_with p = record { label = p.label; set = setter_in p.body }

-- the same, if the property is an accessor
abbrev pub accessor_in : {T : Type 0} → Option (Slot T) → Option (FoundSetter T)
accessor_in None = None
accessor_in (Some p) = if is_accessor p.body then Some (setter_with p) else None

-- the unit of a text that a key names by its number
abbrev pub unit_in : List ℕ → Option ℕ → Option ℕ
unit_in text None = None
unit_in text (Some i) = slice_get text i
