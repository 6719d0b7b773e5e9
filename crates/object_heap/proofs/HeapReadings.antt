-- Heaps with a further object, and heaps in a reading of their labels.
use Rattle.std.proofs.Common.{◌≡◌, ℕ, List, [], ◌∷◌, length, Option, Some, None, refl, sym, ap, ◌∙◌, arith}
use Rattle.std.specs.List.{slice_get}
use Rattle.std.specs.Option.{option_map}
use Rattle.std.proofs.lemmas.List.{map-append, length-map}
use Rattle.std.proofs.lemmas.List.Elements.{All-push}
use Rattle.std.proofs.lemmas.Option.{slice_get-map}
use Rattle.origin_labels.specs.Label.{Label}
use Rattle.js_values.specs.declared.ids.ObjId.{ObjId}
use Rattle.js_values.specs.declared.inner.Class.{Class}
use Rattle.js_values.specs.declared.inner.Inner.{Inner}
use Rattle.js_values.specs.Objects.{Object, fresh_object}
use Rattle.js_values.specs.Readings.{HasInner, HasObject, HasHeap, read_slot, read_inner, read_object, read_heap}
use Rattle.object_heap.specs.Acts.{new_object}
use Rattle.object_heap.specs.Formed.{own_in, row_in}
use Rattle.object_heap.proofs.ReadLaws.{read_own}

pub HasHeap-new : {T : Type 0} (made : T → Type 0) (class : Class) (proto : Option ObjId) (link structure : T) (inner : Inner T) (heap : List (Object T)) → made link → made structure → HasInner made inner → HasHeap made heap → HasHeap made (new_object class proto link structure inner heap)
HasHeap-new made class proto link structure inner heap ml ms mi has = All-push (HasObject made) heap (fresh_object class inner proto link structure) has (record { inner = mi; link = ml; structure = ms; rows = λ k d lt. absurd (omega arith) })

module _ {T : Type 0} (reading : T → Label) where
  pub read_length : (heap : List (Object T)) → length (read_heap reading heap) ≡ length heap
  read_length heap = length-map heap (read_object reading)

  own_there : (key : List ℕ) (p : Option (Object T)) → own_in key (option_map (read_object reading) p) ≡ option_map (read_slot reading) (own_in key p)
  own_there key None = refl
  own_there key (Some p) = read_own reading key p.rows

  pub read_own_in : (key : List ℕ) (heap : List (Object T)) (o : ℕ) → own_in key (slice_get (read_heap reading heap) o) ≡ option_map (read_slot reading) (own_in key (slice_get heap o))
  read_own_in key heap o = ap (own_in key) (slice_get-map (read_object reading) heap o) ∙ own_there key (slice_get heap o)

  row_there : (n : ℕ) (p : Option (Object T)) → row_in n (option_map (read_object reading) p) ≡ option_map (λ r. (r.0, read_slot reading r.1)) (row_in n p)
  row_there n None = refl
  row_there n (Some p) = slice_get-map (λ r. (r.0, read_slot reading r.1)) p.rows n

  pub read_row_in : (n : ℕ) (heap : List (Object T)) (o : ℕ) → row_in n (slice_get (read_heap reading heap) o) ≡ option_map (λ r. (r.0, read_slot reading r.1)) (row_in n (slice_get heap o))
  read_row_in n heap o = ap (row_in n) (slice_get-map (read_object reading) heap o) ∙ row_there n (slice_get heap o)

  pub read_new : (class : Class) (proto : Option ObjId) (link structure : T) (inner : Inner T) (heap : List (Object T)) → new_object class proto (reading link) (reading structure) (read_inner reading inner) (read_heap reading heap) ≡ read_heap reading (new_object class proto link structure inner heap)
  read_new class proto link structure inner heap = sym (map-append (read_object reading) heap (fresh_object class inner proto link structure ∷ []))
