-- The record of the outermost code.
use Rattle.js_values.specs.declared.value.Labelled.{Labelled}
use Rattle.js_values.specs.declared.value.Value.TheVariants as value
use Rattle.es_meaning.specs.Start.{global_object}

-- the global object, with a label
abbrev pub global_with : {T : Type 0} → T → Labelled T
global_with label = record { value = value.Object global_object; label = label }
