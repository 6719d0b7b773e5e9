-- Objects that are made in a context.
use Rattle.std.specs.Prelude.{◌≡◌, ℕ, pos, List, ◌++◌, Option, Some, None, slice_get}
use Rattle.origin_labels.specs.Label.{Label}
use Rattle.js_number.specs.declared.num.Num.TheVariants.{Int}
use Rattle.js_number.specs.declared.primitive.Primitive.TheVariants.{Num}
use Rattle.js_values.specs.declared.ids.ObjId.{ObjId}
use Rattle.js_values.specs.declared.property.Body.{Body}
use Rattle.js_values.specs.declared.property.Body.TheVariants.{Data}
use Rattle.js_values.specs.declared.value.Value.TheVariants as value
use Rattle.js_values.specs.Objects.{PlainObject, Object}
use Rattle.js_values.specs.Readings.{IsReading, read_heap}
use Rattle.js_values.specs.Arrays.{element_of}
use Rattle.es_meaning.specs.Start.{object_prototype}
use Rattle.flow_meaning.specs.Erased.{made_objects}

-- a number
abbrev pub count_body : ℕ → Body
count_body n = Data (value.Primitive (Num (Int (pos n))))

-- an object that is no array, and that has its structure by this label: no rule stops a property that is added in the context of the label
abbrev pub Opens : Label → Option (Object Label) → Type 0
Opens c None = ⊥
Opens c (Some p) = (p.structure ≡ c) × ((key : List ℕ) → element_of p.class key ≡ None)

module _ {S T : Type 0} (made : S → T → Type 0) (meaning : S → T → Label) (store : S) where
  pub record IsOpen (heap : List (Object T)) (o : ℕ) (here : T) : Type 0 where
    pub says : (reading : T → Label) → IsReading made meaning store reading → Opens (reading here) (slice_get (read_heap reading heap) o)

  -- further objects that are made in a context, in each reading that agrees with the store
  pub record Makes (here : T) (more : List PlainObject) (old new : List (Object T)) : Type 0 where
    pub says : (reading : T → Label) → IsReading made meaning store reading → read_heap reading new ≡ read_heap reading old ++ made_objects (reading here) more

-- an object that stands in the heap, and else the prototype of all objects
abbrev pub standing_if : {T : Type 0} → ObjId → Option (Object T) → ObjId
standing_if o None = object_prototype
standing_if o (Some p) = o

abbrev pub standing_in : {T : Type 0} → List (Object T) → ObjId → ObjId
standing_in heap o = standing_if o (slice_get heap o.0)
