-- What is known of an own property, part by part.
use Rattle.js_values.specs.declared.value.Labelled.{Labelled}
use Rattle.js_values.specs.Readings.{HasValue}
use Rattle.es_meaning.specs.Operations.{OwnPart, own_marks, own_value, own_getter, own_setter}
use Rattle.property_requests.specs.declared.owning.OwnProperty.{OwnProperty}

abbrev pub part_in : {T : Type 0} → OwnPart → OwnProperty T → Labelled T
part_in own_marks p = p.marks
part_in own_value p = p.value
part_in own_getter p = p.get
part_in own_setter p = p.set

-- its labels have a property, as to be made by a store
pub record HasParts {T : Type 0} (made : T → Type 0) (p : OwnProperty T) : Type 0 where
  pub marks : HasValue made p.marks
  pub value : HasValue made p.value
  pub get : HasValue made p.get
  pub set : HasValue made p.set

-- the marks depend on the property's place, and all else on its value label besides
abbrev pub own_label : {T : Type 0} → OwnPart → T → T → T
own_label own_marks place depends = place
own_label own_value place depends = depends
own_label own_getter place depends = depends
own_label own_setter place depends = depends
