-- New arrays, as they are made: the `length` first, and then elements below it, one after another.
use Rattle.std.specs.Prelude.{◌≡◌, ◌<◌, ◌≤◌, ℕ, suc, List, [], ◌∷◌, ◌++◌, map, Option}
use Rattle.origin_labels.specs.Label.{Label, bottom}
use Rattle.js_number.specs.declared.primitive.Primitive.TheVariants.{Str}
use Rattle.js_values.specs.declared.ids.ObjId.{ObjId}
use Rattle.js_values.specs.declared.value.Labelled.{Labelled}
use Rattle.js_values.specs.declared.value.Value.TheVariants as value
use Rattle.js_values.specs.Objects.{Object}
use Rattle.js_values.specs.Readings.{IsReading, HasValue, read_heap, read_value}
use Rattle.flow_meaning.specs.Requested.{array_object}
use Rattle.property_requests.specs.declared.arrays.Element.{Element}

abbrev pub places_in : {T : Type 0} → List (Element T) → List ℕ
places_in elements = map (λ e. e.place) elements

abbrev pub values_in : {T : Type 0} → List (Element T) → List (Labelled T)
values_in elements = map (λ e. e.value) elements

-- the elements stand in the order of their numbers, from one on and below a `length`, and the labels of their values were made by a store
abbrev pub ElementsFrom : {T : Type 0} → (T → Type 0) → ℕ → ℕ → List (Element T) → Type 0
ElementsFrom made n count [] = Unit {0}
ElementsFrom made n count (e ∷ elements) = (n ≤ e.place) × (e.place < count) × HasValue made e.value × ElementsFrom made (suc e.place) count elements

abbrev pub HasElements : {T : Type 0} → (T → Type 0) → ℕ → List (Element T) → Type 0
HasElements made count elements = ElementsFrom made 0 count elements

-- an array without elements, with this prototype and link
abbrev pub empty_array : ℕ → Option ObjId → Label → Label → Object Label
empty_array count proto link context = record (array_object count [] [] context) { proto = proto; link = link }

pub record MakesEmpty {S T : Type 0} (made : S → T → Type 0) (meaning : S → T → Label) (store : S) (context link : T) (proto : Option ObjId) (count : ℕ) (old new : List (Object T)) : Type 0 where
  pub is : (reading : T → Label) → IsReading made meaning store reading → read_heap reading new ≡ read_heap reading old ++ empty_array count proto (reading link) (reading context) ∷ []

-- an array with elements, which has its prototype by its class
pub record MakesArray {S T : Type 0} (made : S → T → Type 0) (meaning : S → T → Label) (store : S) (context : T) (count : ℕ) (elements : List (Element T)) (old new : List (Object T)) : Type 0 where
  pub is : (reading : T → Label) → IsReading made meaning store reading → read_heap reading new ≡ read_heap reading old ++ array_object count (places_in elements) (map (read_value reading) (values_in elements)) (reading context) ∷ []

-- elements that are the texts of keys, from a number on, which depend on nothing
abbrev pub KeysFrom : {S T : Type 0} → (S → T → Type 0) → (S → T → Label) → S → ℕ → List (List ℕ) → List (Element T) → Type 0
KeysFrom made meaning store n [] [] = Unit {0}
KeysFrom made meaning store n [] (e ∷ elements) = ⊥
KeysFrom made meaning store n (key ∷ keys) [] = ⊥
KeysFrom made meaning store n (key ∷ keys) (e ∷ elements) =
    (e.place ≡ n) × (e.value.value ≡ value.Primitive (Str key)) × made store e.value.label × (meaning store e.value.label ≡ bottom) × KeysFrom made meaning store (suc n) keys elements

abbrev pub AreKeys : {S T : Type 0} → (S → T → Type 0) → (S → T → Label) → S → List (List ℕ) → List (Element T) → Type 0
AreKeys made meaning store keys elements = KeysFrom made meaning store 0 keys elements
