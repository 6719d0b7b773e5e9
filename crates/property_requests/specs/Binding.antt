-- Bound functions.
use Rattle.std.specs.Prelude.{ℕ, ◌∷◌, Some}
use Rattle.origin_labels.specs.Label.{Label}
use Rattle.js_values.specs.declared.inner.Class.TheVariants as class
use Rattle.js_values.specs.declared.inner.Inner.{Inner}
use Rattle.js_values.specs.Objects.{Object, fresh_object}
use Rattle.es_meaning.specs.Start.{function_prototype, function_rows}
use Rattle.flow_meaning.specs.Erased.{made_rows}
use Rattle.flow_meaning.specs.Requested.{count_slot, length_name}

-- a bound function with this inner part, made in a context. On what its `length` depends besides is said
abbrev pub function_with : Inner Label → Label → ℕ → Label → Object Label
function_with inner depends count here = record (fresh_object class.Function inner (Some function_prototype) here here) { rows = (length_name, count_slot here depends count) ∷ made_rows here function_rows }
