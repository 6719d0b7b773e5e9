-- What stands in a heap without its labels.
use Rattle.std.proofs.Common.{◌≡◌, ◌≤◌, ℕ, zero, suc, false, List, [], ◌∷◌, length, map, refl, sym, ap, ap₂, ◌∙◌}
use Rattle.std.specs.List.{slice_get}
use Rattle.std.specs.Option.{option_map}
use Rattle.std.proofs.lemmas.Option.{slice_get_past}
use Rattle.origin_labels.specs.Label.{Label}
use Rattle.js_values.specs.declared.inner.Inner.{Inner}
use Rattle.js_values.specs.declared.inner.Inner.TheVariants.{Plain, Script, Native, Bound}
use Rattle.js_values.specs.declared.property.Slot.{Slot}
use Rattle.js_values.specs.declared.value.Labelled.{Labelled}
use Rattle.js_values.specs.Objects.{Rows, Object, bound}
use Rattle.js_values.specs.Readings.{read_heap, read_inner, read_object, read_rows, read_value}
use Rattle.object_heap.specs.declared.shape.Shape.{Shape}
use Rattle.object_heap.specs.Formed.{IsShape}
use Rattle.es_meaning.specs.Functions.{is_function}
use Rattle.es_meaning.specs.Requested.{is_function_in}
use Rattle.flow_meaning.specs.Erased.{erased_heap, erased_inner, erased_object, erased_rows, erased_values}
use Rattle.property_requests.proofs.HeldLaws.{shape_there}

module _ {T : Type 0} where
  pub erased_at : (heap : List (Object T)) (o : ℕ) → slice_get (erased_heap heap) o ≡ option_map erased_object (slice_get heap o)
  erased_at [] o = refl
  erased_at (p ∷ heap) zero = refl
  erased_at (p ∷ heap) (suc o) = erased_at heap o

  -- whether an object that isn't there, or one of this shape, can be called
  pub function_nowhere : (heap : List (Object T)) (o : ℕ) → length heap ≤ o → false ≡ is_function_in (slice_get (erased_heap heap) o)
  function_nowhere heap o past = sym (ap is_function_in (erased_at heap o ∙ ap (option_map erased_object) (slice_get_past heap o past)))

  pub function_shaped : (heap : List (Object T)) (o : ℕ) (shape : Shape T) → IsShape (slice_get heap o) shape → is_function shape.class ≡ is_function_in (slice_get (erased_heap heap) o)
  function_shaped heap o shape is =
      let there = shape_there heap o shape is in
      ap (λ (q : Shape T). is_function q.class) there.is ∙ sym (ap is_function_in (erased_at heap o ∙ ap (option_map erased_object) there.here))

  -- labels are left out in whatever reading
  module _ (reading : T → Label) where
    values_erased : (vs : List (Labelled T)) → erased_values (map (read_value reading) vs) ≡ erased_values vs
    values_erased [] = refl
    values_erased (v ∷ vs) = ap (◌∷◌ v.value) (values_erased vs)

    inner_erased : (inner : Inner T) → erased_inner (read_inner reading inner) ≡ erased_inner inner
    inner_erased Plain = refl
    inner_erased (Script function env) = refl
    inner_erased (Native which) = refl
    inner_erased (Bound target label this args) = ap (λ vs. bound target this.value vs) (values_erased args)

    rows_erased : (rows : Rows (Slot T)) → erased_rows (read_rows reading rows) ≡ erased_rows rows
    rows_erased [] = refl
    rows_erased (r ∷ rows) = ap (λ rs. (r.0, record { body = r.1.body; marks = r.1.marks }) ∷ rs) (rows_erased rows)

    pub object_erased : (p : Object T) → erased_object (read_object reading p) ≡ erased_object p
    object_erased p = ap₂ (λ inner rows. record { class = p.class; inner = inner; proto = p.proto; extensible = p.extensible; rows = rows }) (inner_erased p.inner) (rows_erased p.rows)

    pub heap_erased : (heap : List (Object T)) → erased_heap (read_heap reading heap) ≡ erased_heap heap
    heap_erased [] = refl
    heap_erased (p ∷ heap) = ap₂ (λ q ps. q ∷ ps) (object_erased p) (heap_erased heap)
