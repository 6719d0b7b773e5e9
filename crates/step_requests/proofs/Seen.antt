-- What is seen of values.
use Rattle.std.proofs.Common.{sym, ap, ◌∙◌, ◌≡◌, ◌≤◌, ℕ, List, length, slice_get, Option, Some, None, arith}
use Rattle.std.specs.Option.{option_map}
use Rattle.std.proofs.lemmas.Option.{slice_get-map, slice_get_past}
use Rattle.origin_labels.specs.Label.{Label}
use Rattle.js_number.specs.declared.primitive.Primitive.{Primitive}
use Rattle.js_number.specs.declared.primitive.Primitive.TheVariants.{Undefined}
use Rattle.js_values.specs.declared.ids.ObjId.{ObjId}
use Rattle.js_values.specs.declared.value.Value.{Value}
use Rattle.js_values.specs.declared.value.Value.TheVariants as value
use Rattle.js_values.specs.Objects.{Object}
use Rattle.js_values.specs.Readings.{read_heap, read_object}
use Rattle.native_protocol.specs.declared.request.Seen.{Seen}
use Rattle.native_protocol.specs.declared.request.Seen.TheVariants as saw
use Rattle.object_heap.specs.Formed.{IsShape}
use Rattle.object_heap.specs.declared.shape.Shape.{Shape}
use Rattle.es_meaning.specs.Plain.{seen_of}
use Rattle.flow_meaning.specs.Tracked.{seen}

module _ {T : Type 0} (reading : T → Label) where
  of_object : Option (Object Label) → Seen
  of_object p = seen_of (λ q. saw.Object q.class) p

  shape_seen : (p : Option (Object T)) (shape : Shape T) → IsShape p shape → saw.Object shape.class ≡ of_object (option_map (read_object reading) p)
  unfolding of_object
  shape_seen None shape is = absurd is
  shape_seen (Some p) shape is = ap (λ (q : Shape T). saw.Object q.class) is

  pub class_seen : (heap : List (Object T)) (o : ObjId) (shape : Shape T) → IsShape (slice_get heap o.0) shape → saw.Object shape.class ≡ seen (read_heap reading heap) (value.Object o)
  unfolding seen of_object
  class_seen heap o shape is = shape_seen (slice_get heap o.0) shape is ∙ ap of_object (sym (slice_get-map (read_object reading) heap o.0))

  pub none_seen : (heap : List (Object T)) (o : ObjId) (n : ℕ) → n ≡ length heap → n ≤ o.0 → saw.Prim Undefined ≡ seen (read_heap reading heap) (value.Object o)
  unfolding seen of_object
  none_seen heap o n size past = ap (λ p. of_object (option_map (read_object reading) p)) (sym (slice_get_past heap o.0 (omega (arith, size, past)))) ∙ ap of_object (sym (slice_get-map (read_object reading) heap o.0))

  pub primitive_seen : (heap : List (Object T)) (v : Value) (p q : Primitive) → v ≡ value.Primitive p → q ≡ p → saw.Prim q ≡ seen (read_heap reading heap) v
  unfolding seen
  primitive_seen heap v p q is same = ap saw.Prim same ∙ ap (seen (read_heap reading heap)) (sym is)
