-- How labels of objects are raised.
use Rattle.std.specs.Prelude.{ℕ, List, slice_get}
use Rattle.origin_labels.specs.Label.{Label, union}
use Rattle.flow_frames.specs.Frames.{context}
use Rattle.js_values.specs.declared.value.Labelled.{Labelled}
use Rattle.object_heap.specs.Acts as heap_acts
use Rattle.es_meaning.specs.Plain.{undefined}
use Rattle.flow_meaning.specs.Scopes.{Val, L}
use Rattle.flow_meaning.specs.Requested.{own_walk}
use Rattle.flow_meaning.specs.Tracked.{acted}

-- undefined, with a label
abbrev pub nothing : {T : Type 0} → T → Labelled T
nothing label = record { value = undefined; label = label }

-- origins are joined to the structure label of an object, by rule W7
abbrev pub raises_structure : ℕ → Label → Label → L Val
raises_structure o label origins s = acted (nothing label) (heap_acts.raise_structure o (union (context s.frames) label) origins s.heap) s

-- and to the existence label of a property, by rule W8
abbrev pub raises_existence : ℕ → List ℕ → Label → Label → L Val
raises_existence o key label origins s = acted (nothing label) (heap_acts.raise_existence o key (union (context s.frames) (union label (own_walk key (slice_get s.heap o)))) origins s.heap) s
