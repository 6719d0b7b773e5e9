-- The prototypes of a heap's objects, as its calls tell them.
use Rattle.std.proofs.Common.{◌≡◌, ℕ, ◌<◌, List, ◌∷◌, length, get_or, Option, Some, None, refl, sym, ap, subst, ◌∙◌, arith}
use Rattle.std.specs.List.{slice_get}
use Rattle.std.specs.Option.{option_map}
use Rattle.std.proofs.lemmas.Option.{none-some, same_Some, slice_get-get_or, slice_get-map, slice_get_within}
use Rattle.origin_labels.specs.Label.{Label}
use Rattle.js_values.specs.declared.ids.ObjId.{ObjId}
use Rattle.js_values.specs.Chains.{onwards, LeadBack}
use Rattle.js_values.specs.Objects.{Object, number_of}
use Rattle.js_values.specs.Readings.{HasObject, HasHeap, read_heap, read_object}
use Rattle.js_values.specs.Walks.{object_chain}
use Rattle.js_values.proofs.ChainLaws.{chain_step}
use Rattle.object_heap.specs.declared.shape.Shape.{Shape}
use Rattle.object_heap.specs.Formed.{IsFormed, IsShape}

module _ {T : Type 0} where
  -- an object that stands there, with its shape
  pub record HasShape (heap : List (Object T)) (i : ℕ) (shape : Shape T) : Type 0 where
    pub object : Object T
    pub here : slice_get heap i ≡ Some object
    pub is : shape ≡ record { class = object.class; proto = object.proto; link = object.link; structure = object.structure; extensible = object.extensible }

  pub shape_there : (heap : List (Object T)) (i : ℕ) (shape : Shape T) → IsShape (slice_get heap i) shape → HasShape heap i shape
  shape_there heap i shape is = at (slice_get heap i) refl is
    where
      at : (o : Option (Object T)) → slice_get heap i ≡ o → IsShape o shape → HasShape heap i shape
      at None here is = absurd is
      at (Some p) here is = record { object = p; here = here; is = is }

  -- its prototype stands before it
  pub proto_below : (heap : List (Object T)) → IsFormed heap → (i : ℕ) (shape : Shape T) → IsShape (slice_get heap i) shape → (proto : ObjId) → shape.proto ≡ Some proto → (proto.0 < i) × (proto.0 < length heap)
  proto_below heap formed i shape is proto leads =
      let there = shape_there heap i shape is in
      let lt = formed.protos i proto.0 there.object there.here (ap number_of (sym (ap (λ (q : Shape T). q.proto) there.is) ∙ leads)) in
      let within = slice_get_within heap i there.object there.here in
      (lt, omega (arith, lt, within))

  module _ (made : T → Type 0) where
    pub object_has : (heap : List (Object T)) (i : ℕ) (p : Object T) → HasHeap made heap → slice_get heap i ≡ Some p → HasObject made p
    object_has heap i p has here =
        let lt = slice_get_within heap i p here in
        subst (HasObject made) (same_Some (get_or heap i p) p (sym (slice_get-get_or heap i p lt) ∙ here)) (has i p lt)

    pub link_has : (heap : List (Object T)) (i : ℕ) (shape : Shape T) → HasHeap made heap → IsShape (slice_get heap i) shape → made shape.link
    link_has heap i shape has is =
        let there = shape_there heap i shape is in
        subst made (sym (ap (λ (q : Shape T). q.link) there.is)) (object_has heap i there.object has there.here).link

-- ---- one object of a chain

module _ {T : Type 0} (reading : T → Label) (heap : List (Object T)) (formed : IsFormed heap) where
  leads_back : LeadBack (λ p. number_of p.proto) (read_heap reading heap)
  leads_back i j q here leads = one (slice_get heap i) refl (sym (slice_get-map (read_object reading) heap i) ∙ here)
    where
      one : (o : Option (Object T)) → slice_get heap i ≡ o → option_map (read_object reading) o ≡ Some q → j < i
      one None there is = absurd (none-some q is)
      one (Some p) there is = formed.protos i j p there (ap (λ (x : Object Label). number_of x.proto) (same_Some (read_object reading p) q is) ∙ leads)

  pub chain_at : (i : ℕ) (p : Object T) → slice_get heap i ≡ Some p → object_chain (read_heap reading heap) i ≡ (i, read_object reading p) ∷ onwards (number_of p.proto) (object_chain (read_heap reading heap))
  chain_at i p here = chain_step (λ (x : Object Label). number_of x.proto) (read_heap reading heap) leads_back i (read_object reading p) (slice_get-map (read_object reading) heap i ∙ ap (option_map (read_object reading)) here)
