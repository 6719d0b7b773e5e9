-- What a heap has at a number, as its calls tell it, and labels of it.
use Rattle.std.proofs.Common.{◌≡◌, ℕ, zero, suc, ◌<◌, Bool, true, false, List, [], ◌∷◌, length, get_or, Option, Some, None, refl, sym, ap, subst, ◌∙◌, arith, if◌then◌else◌}
use Rattle.std.specs.List.{slice_get, All}
use Rattle.std.proofs.lemmas.List.Elements.{All-append}
use Rattle.std.proofs.lemmas.Option.{none-some, same_Some, slice_get-get_or, slice_get_within}
use Rattle.origin_labels.specs.Label.{Label, IsLabel}
use Rattle.origin_labels.specs.Names.{same_name}
use Rattle.js_values.specs.declared.ids.ObjId.{ObjId}
use Rattle.js_values.specs.declared.property.Slot.{Slot}
use Rattle.js_values.specs.Objects.{Rows, Object, number_of, own, fresh_object}
use Rattle.js_values.specs.Readings.{IsReading, HasSlot, HasObject, HasHeap}
use Rattle.js_values.specs.declared.inner.Class.{Class}
use Rattle.js_values.specs.declared.inner.Inner.TheVariants.{Plain}
use Rattle.object_heap.specs.Acts.{new_object}
use Rattle.object_heap.specs.declared.shape.Shape.{Shape}
use Rattle.object_heap.specs.Formed.{IsFormed, own_in, row_in, IsShape}

module _ {T : Type 0} where
  -- an object that stands there, and has the property
  pub record HasOwn (heap : List (Object T)) (i : ℕ) (key : List ℕ) (s : Slot T) : Type 0 where
    pub object : Object T
    pub here : slice_get heap i ≡ Some object
    pub has : own key object.rows ≡ Some s

  pub own_there : (heap : List (Object T)) (i : ℕ) (key : List ℕ) (s : Slot T) → own_in key (slice_get heap i) ≡ Some s → HasOwn heap i key s
  own_there heap i key s is = at (slice_get heap i) refl is
    where
      at : (o : Option (Object T)) → slice_get heap i ≡ o → own_in key o ≡ Some s → HasOwn heap i key s
      at None here is = absurd (none-some s is)
      at (Some p) here is = record { object = p; here = here; has = is }

  -- an object that stands there, with its shape
  pub record HasShape (heap : List (Object T)) (i : ℕ) (shape : Shape T) : Type 0 where
    pub object : Object T
    pub here : slice_get heap i ≡ Some object
    pub is : shape ≡ record { class = object.class; proto = object.proto; link = object.link; structure = object.structure; extensible = object.extensible }

  pub shape_there : (heap : List (Object T)) (i : ℕ) (shape : Shape T) → IsShape (slice_get heap i) shape → HasShape heap i shape
  shape_there heap i shape is = at (slice_get heap i) refl is
    where
      at : (o : Option (Object T)) → slice_get heap i ≡ o → IsShape o shape → HasShape heap i shape
      at None here is = absurd is
      at (Some p) here is = record { object = p; here = here; is = is }

  -- its prototype stands before it
  pub proto_below : (heap : List (Object T)) → IsFormed heap → (i : ℕ) (shape : Shape T) → IsShape (slice_get heap i) shape → (proto : ObjId) → shape.proto ≡ Some proto → (proto.0 < i) × (proto.0 < length heap)
  proto_below heap formed i shape is proto leads =
      let there = shape_there heap i shape is in
      let lt = formed.protos i proto.0 there.object there.here (ap number_of (sym (ap (λ (q : Shape T). q.proto) there.is) ∙ leads)) in
      let within = slice_get_within heap i there.object there.here in
      (lt, omega (arith, lt, within))

  module _ (made : T → Type 0) where
    pub object_has : (heap : List (Object T)) (i : ℕ) (p : Object T) → HasHeap made heap → slice_get heap i ≡ Some p → HasObject made p
    object_has heap i p has here =
        let lt = slice_get_within heap i p here in
        subst (HasObject made) (same_Some (get_or heap i p) p (sym (slice_get-get_or heap i p lt) ∙ here)) (has i p lt)

    slot_at : (r : List ℕ × Slot T) (s : Slot T) (rest : Option (Slot T)) (test : Bool) → HasSlot made r.1 → (rest ≡ Some s → HasSlot made s) → (if test then Some r.1 else rest) ≡ Some s → HasSlot made s
    slot_at r s rest true first behind is = subst (HasSlot made) (same_Some r.1 s is) first
    slot_at r s rest false first behind is = behind is

    pub slot_has : (key : List ℕ) (rows : Rows (Slot T)) (s : Slot T) → All (λ r. HasSlot made r.1) rows → own key rows ≡ Some s → HasSlot made s
    slot_has key [] s has is = absurd (none-some s is)
    slot_has key (r ∷ rows) s has is = slot_at r s (own key rows) (same_name r.0 key) (has 0 r (omega arith)) (λ there. slot_has key rows s (λ k d lt. has (suc k) d (omega arith)) there) is

    pub own_has : (heap : List (Object T)) (i : ℕ) (key : List ℕ) (s : Slot T) → HasHeap made heap → own_in key (slice_get heap i) ≡ Some s → HasSlot made s
    own_has heap i key s has is =
        let there = own_there heap i key s is in
        slot_has key there.object.rows s (object_has heap i there.object has there.here).rows there.has

    pub row_has : (heap : List (Object T)) (i n : ℕ) (r : List ℕ × Slot T) → HasHeap made heap → Some r ≡ row_in n (slice_get heap i) → HasSlot made r.1
    row_has heap i n r has is = at (slice_get heap i) refl is
      where
        at : (o : Option (Object T)) → slice_get heap i ≡ o → Some r ≡ row_in n o → HasSlot made r.1
        at None here is = absurd (none-some r (sym is))
        at (Some p) here is =
            let lt = slice_get_within p.rows n r (sym is) in
            subst (λ x. HasSlot made x.1) (same_Some (get_or p.rows n r) r (sym (slice_get-get_or p.rows n r lt) ∙ sym is)) ((object_has heap i p has here).rows n r lt)

    pub shape_has : (heap : List (Object T)) (i : ℕ) (shape : Shape T) → HasHeap made heap → IsShape (slice_get heap i) shape → made shape.structure × made shape.link
    shape_has heap i shape has is =
        let there = shape_there heap i shape is in
        let object = object_has heap i there.object has there.here in
        (subst made (sym (ap (λ (q : Shape T). q.structure) there.is)) object.structure, subst made (sym (ap (λ (q : Shape T). q.link) there.is)) object.link)

-- a label that a store made is read as a label
pub IsLabel-read : {S T : Type 0} (made : S → T → Type 0) (meaning : S → T → Label) (store : S) (reading : T → Label) (label : T) → ((store : S) (label : T) → made store label → IsLabel (meaning store label)) → IsReading made meaning store reading → made store label → IsLabel (reading label)
IsLabel-read made meaning store reading label rising read m = subst IsLabel (sym (read.agrees label m)) (rising store label m)

all_one : {X : Type 0} (P : X → Type 0) (x : X) → P x → All P (x ∷ [])
all_one P x holds zero d lt = holds
all_one P x holds (suc k) d lt = absurd (omega (arith, lt))

-- a further object without properties and without an inner part, whose labels the store made
pub HasHeap-more : {T : Type 0} (made : T → Type 0) (class : Class) (proto : Option ObjId) (link structure : T) (heap : List (Object T)) → made link → made structure → HasHeap made heap → HasHeap made (new_object class proto link structure Plain heap)
HasHeap-more made class proto link structure heap l s has = All-append (HasObject made) heap (fresh_object class Plain proto link structure ∷ []) has (all_one (HasObject made) (fresh_object class Plain proto link structure) (record { inner = tt; link = l; structure = s; rows = λ k d lt. absurd (omega (arith, lt)) }))

pub HasHeap-none : {T : Type 0} (made : T → Type 0) → HasHeap made []
HasHeap-none made k d lt = absurd (omega (arith, lt))
