-- What is given to what makes objects.
use Rattle.std.specs.Prelude.{◌≡◌, List, [], ◌∷◌, ◌++◌, Option, Some, None, slice_get}
use Rattle.origin_labels.specs.Label.{Label}
use Rattle.js_values.specs.declared.ids.ObjId.{ObjId}
use Rattle.js_values.specs.declared.value.Labelled.{Labelled}
use Rattle.js_values.specs.declared.inner.Class.{Class}
use Rattle.js_values.specs.declared.inner.Class.TheVariants as class
use Rattle.js_values.specs.declared.inner.Inner.TheVariants.{Plain}
use Rattle.js_values.specs.Objects.{Object, fresh_object}
use Rattle.js_values.specs.Readings.{IsReading, read_heap, read_value}
use Rattle.es_meaning.specs.Start.{object_prototype}
use Rattle.flow_meaning.specs.Scopes.{Val}
use Rattle.property_requests.specs.Arrays.{empty_array}

-- a value, if it is given
abbrev pub arguments_of : {T : Type 0} → (T → Label) → Option (Labelled T) → List Val
arguments_of reading None = []
arguments_of reading (Some v) = read_value reading v ∷ []

-- an object that stands in a heap, and else Object.prototype
abbrev pub standing_over : {T : Type 0} → ObjId → Option (Object T) → ObjId
standing_over o None = object_prototype
standing_over o (Some p) = o

abbrev pub standing_in : {T : Type 0} → List (Object T) → ObjId → ObjId
standing_in heap o = standing_over o (slice_get heap o.0)

-- a new object of a class, with this prototype, link and structure
abbrev pub new_of : Class → Option ObjId → Label → Label → Object Label
new_of class.Array proto link structure = empty_array 0 proto link structure
new_of c proto link structure = fresh_object c Plain proto link structure

pub record MakesOf {S T : Type 0} (made : S → T → Type 0) (meaning : S → T → Label) (store : S) (context link : T) (class : Class) (proto : Option ObjId) (old new : List (Object T)) : Type 0 where
  pub is : (reading : T → Label) → IsReading made meaning store reading → read_heap reading new ≡ read_heap reading old ++ new_of class proto (reading link) (reading context) ∷ []
