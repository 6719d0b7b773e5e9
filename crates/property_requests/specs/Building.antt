-- Objects that are made with properties.
use Rattle.std.specs.Prelude.{◌≡◌, ℕ, List, [], ◌∷◌, ◌++◌, Option, Some, None, Ok, slice_get}
use Rattle.origin_labels.specs.Label.{Label, bottom}
use Rattle.js_values.specs.declared.property.Body.{Body}
use Rattle.js_values.specs.declared.property.Marks.{Marks}
use Rattle.js_values.specs.Objects.{Object, own}
use Rattle.js_values.specs.Readings.{IsReading, read_heap}
use Rattle.object_heap.specs.Acts.{add}
use Rattle.object_heap.specs.Lengths.{IsBelow}
use Rattle.js_values.specs.Arrays.{element_of, length_key}

-- an object that has its structure by this label, where the key names no element at or above the `length` of an array: no rule stops a property of this key that is
-- added in the context of the label
abbrev pub OpensFor : Label → List ℕ → Option (Object Label) → Type 0
OpensFor c key None = ⊥
OpensFor c key (Some p) = (p.structure ≡ c) × IsBelow (element_of p.class key) (own length_key p.rows)

module _ {S T : Type 0} (made : S → T → Type 0) (meaning : S → T → Label) (store : S) where
  pub record IsOpenFor (heap : List (Object T)) (o : ℕ) (key : List ℕ) (here : T) : Type 0 where
    pub says : (reading : T → Label) → IsReading made meaning store reading → OpensFor (reading here) key (slice_get (read_heap reading heap) o)

  -- a property that is added in a context, with a label besides
  pub record Adds (here : T) (o : ℕ) (key : List ℕ) (body : Body) (label : T) (marks : Marks) (old new : List (Object T)) : Type 0 where
    pub says : (reading : T → Label) → IsReading made meaning store reading → add o key (reading here) body (reading label) marks (read_heap reading old) ≡ Ok (read_heap reading new)

  -- one that depends on the context alone
  pub record AddsAlone (here : T) (o : ℕ) (key : List ℕ) (body : Body) (marks : Marks) (old new : List (Object T)) : Type 0 where
    pub says : (reading : T → Label) → IsReading made meaning store reading → add o key (reading here) body bottom marks (read_heap reading old) ≡ Ok (read_heap reading new)

  -- behind the objects that there were stands this one
  pub record IsLast (before heap : List (Object T)) (last : (T → Label) → Object Label) : Type 0 where
    pub says : (reading : T → Label) → IsReading made meaning store reading → read_heap reading heap ≡ read_heap reading before ++ last reading ∷ []
