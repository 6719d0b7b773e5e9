-- What a heap has at a number, as its calls tell it.
use Rattle.std.proofs.Common.{◌≡◌, ℕ, suc, Bool, true, false, List, [], ◌∷◌, get_or, Option, Some, None, sym, ap, subst, ◌∙◌, arith, refl, if◌then◌else◌}
use Rattle.std.specs.List.{slice_get, All}
use Rattle.std.proofs.lemmas.Option.{none-some, same_Some, slice_get-get_or, slice_get_within}
use Rattle.origin_labels.specs.Names.{same_name}
use Rattle.js_values.specs.declared.property.Slot.{Slot}
use Rattle.js_values.specs.Objects.{Rows, Object, own}
use Rattle.js_values.specs.Readings.{HasSlot, HasObject, HasHeap}
use Rattle.object_heap.specs.declared.shape.Shape.{Shape}
use Rattle.object_heap.specs.Formed.{own_in, IsShape}

module _ {T : Type 0} (heap : List (Object T)) (i : ℕ) where
  -- an object that stands there, and has the property
  pub record HasOwn (key : List ℕ) (s : Slot T) : Type 0 where
    pub object : Object T
    pub here : slice_get heap i ≡ Some object
    pub has : own key object.rows ≡ Some s

  pub own_there : (key : List ℕ) (s : Slot T) → own_in key (slice_get heap i) ≡ Some s → HasOwn key s
  own_there key s is = at (slice_get heap i) refl is
    where
      at : (o : Option (Object T)) → slice_get heap i ≡ o → own_in key o ≡ Some s → HasOwn key s
      at None here is = absurd (none-some s is)
      at (Some p) here is = record { object = p; here = here; has = is }

  -- an object that stands there, with its structure
  pub record HasStructure (structure : T) : Type 0 where
    pub object : Object T
    pub here : slice_get heap i ≡ Some object
    pub is : structure ≡ object.structure

  pub structure_there : (shape : Shape T) → IsShape (slice_get heap i) shape → HasStructure shape.structure
  structure_there shape is = at (slice_get heap i) refl is
    where
      at : (o : Option (Object T)) → slice_get heap i ≡ o → IsShape o shape → HasStructure shape.structure
      at None here is = absurd is
      at (Some p) here is = record { object = p; here = here; is = ap (λ (q : Shape T). q.structure) is }

  -- its labels were made
  module _ (made : T → Type 0) where
    object_has : (p : Object T) → HasHeap made heap → slice_get heap i ≡ Some p → HasObject made p
    object_has p has here =
        let lt = slice_get_within heap i p here in
        subst (HasObject made) (same_Some (get_or heap i p) p (sym (slice_get-get_or heap i p lt) ∙ here)) (has i p lt)

    slot_at : (r : List ℕ × Slot T) (s : Slot T) (rest : Option (Slot T)) (test : Bool) → HasSlot made r.1 → (rest ≡ Some s → HasSlot made s) → (if test then Some r.1 else rest) ≡ Some s → HasSlot made s
    slot_at r s rest true first behind is = subst (HasSlot made) (same_Some r.1 s is) first
    slot_at r s rest false first behind is = behind is

    slot_has : (key : List ℕ) (rows : Rows (Slot T)) (s : Slot T) → All (λ r. HasSlot made r.1) rows → own key rows ≡ Some s → HasSlot made s
    slot_has key [] s has is = absurd (none-some s is)
    slot_has key (r ∷ rows) s has is = slot_at r s (own key rows) (same_name r.0 key) (has 0 r (omega arith)) (λ there. slot_has key rows s (λ k d lt. has (suc k) d (omega arith)) there) is

    pub own_has : (key : List ℕ) (s : Slot T) → HasHeap made heap → own_in key (slice_get heap i) ≡ Some s → HasSlot made s
    own_has key s has is =
        let there = own_there key s is in
        slot_has key there.object.rows s (object_has there.object has there.here).rows there.has

    pub structure_has : (shape : Shape T) → HasHeap made heap → IsShape (slice_get heap i) shape → made shape.structure
    structure_has shape has is =
        let there = structure_there shape is in
        subst made (sym there.is) (object_has there.object has there.here).structure
