-- The `arguments` object of a call: its elements are added from the last one down.
use Rattle.std.specs.Prelude.{◌≡◌, ℕ, pos, List, [], ◌∷◌, ◌++◌, map, Some, Ok, codes, slice_get, set}
use Rattle.origin_labels.specs.Label.{Label}
use Rattle.js_number.specs.declared.num.Num.TheVariants.{Int}
use Rattle.js_number.specs.declared.primitive.Primitive.TheVariants.{Num}
use Rattle.js_values.specs.declared.inner.Class.TheVariants as class
use Rattle.js_values.specs.declared.property.Body.TheVariants.{Data}
use Rattle.js_values.specs.declared.value.Labelled.{Labelled}
use Rattle.js_values.specs.declared.value.Value.TheVariants as value
use Rattle.js_values.specs.Objects.{PlainObject, script, fresh_plain, Object}
use Rattle.js_values.specs.Readings.{IsReading, read_value, read_heap}
use Rattle.object_heap.specs.Acts.{with_rows, add}
use Rattle.es_meaning.specs.Functions.{env_id, property_with, elements_down}
use Rattle.es_meaning.specs.Objects.{made_by_script}
use Rattle.es_meaning.specs.Start.{built_in, object_prototype}
use Rattle.flow_meaning.specs.Requested.{data_slot, arguments_object}

-- the `arguments` object with its `length` alone
abbrev pub counted_object : ℕ → ℕ → ℕ → PlainObject
counted_object function place n = record (fresh_plain class.Arguments (script function (env_id place)) (Some object_prototype)) { rows = (codes "length", property_with (value.Primitive (Num (Int (pos n)))) built_in) ∷ [] }

module _ {S T : Type 0} (made : S → T → Type 0) (meaning : S → T → Label) (store : S) where
  -- a property with a value is added in a context: it depends on that, and on what the value does
  pub record AddsValue (here : T) (o : ℕ) (key : List ℕ) (v : Labelled T) (old new : List (Object T)) : Type 0 where
    pub says : (reading : T → Label) → IsReading made meaning store reading → add o key (reading here) (Data v.value) (reading v.label) made_by_script (read_heap reading old) ≡ Ok (read_heap reading new)

  -- an object gets these values as elements from a place on, the last one first
  pub record Gets (here : T) (o i : ℕ) (vs : List (Labelled T)) (old new : List (Object T)) : Type 0 where
    pub says : (reading : T → Label) → IsReading made meaning store reading → (p : Object Label) → slice_get (read_heap reading old) o ≡ Some p
        → read_heap reading new ≡ set (read_heap reading old) o (with_rows p (elements_down p.rows i (map (data_slot (reading here)) (map (read_value reading) vs))))

  -- the `arguments` object of a call of the function with this number, in its record, is made in a context
  pub record MakesArguments (here : T) (function place : ℕ) (args : List (Labelled T)) (old new : List (Object T)) : Type 0 where
    pub says : (reading : T → Label) → IsReading made meaning store reading → read_heap reading new ≡ read_heap reading old ++ arguments_object function place (map (read_value reading) args) (reading here) ∷ []
