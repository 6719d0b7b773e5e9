-- Objects without their labels, and the walk along their prototypes.
use Rattle.std.proofs.Common.{◌≡◌, ℕ, zero, suc, ◌<◌, ◌≤◌, Bool, true, false, List, [], ◌∷◌, ◌++◌, length, map, codes, Option, Some, None, refl, sym, ap, ap₂, ◌∙◌, append_assoc, if◌then◌else◌}
use Rattle.std.specs.List.{slice_get}
use Rattle.std.specs.Option.{option_map}
use Rattle.std.proofs.lemmas.Option.{none-some, same_Some, slice_get_past}
use Rattle.origin_labels.specs.Names.{same_name}
use Rattle.js_values.specs.declared.ids.ObjId.{ObjId}
use Rattle.js_values.specs.declared.property.Slot.{Slot}
use Rattle.js_values.specs.declared.value.Value.TheVariants as value
use Rattle.js_values.specs.Chains.{onwards, LeadBack}
use Rattle.js_values.specs.declared.value.Labelled.{Labelled}
use Rattle.js_values.specs.declared.inner.Inner.{Inner}
use Rattle.js_values.specs.declared.inner.Inner.TheVariants.{Plain, Script, Native, Bound}
use Rattle.js_values.specs.Objects.{Rows, Object, PlainInner, PlainObject, Property, bound, number_of, own}
use Rattle.js_values.specs.Readings.{read_value, read_inner, read_rows, read_heap}
use Rattle.js_values.specs.Walks.{plain_chain, plain_find, plain_found_at}
use Rattle.js_values.proofs.ChainLaws.{chain_step}
use Rattle.object_heap.specs.declared.shape.Shape.{Shape}
use Rattle.object_heap.specs.Formed.{IsFormed, own_in, IsShape}
use Rattle.es_meaning.specs.Start.{class_name, shown, shown_class, shown_found}
use Rattle.flow_meaning.specs.Erased.{erased_values, erased_inner, erased_slot, erased_rows, erased_object, erased_heap}

module _ {T : Type 0} where
  -- the object with this number
  pub object_erased : (heap : List (Object T)) (i : ℕ) → slice_get (erased_heap heap) i ≡ option_map erased_object (slice_get heap i)
  object_erased [] i = refl
  object_erased (p ∷ heap) zero = refl
  object_erased (p ∷ heap) (suc i) = object_erased heap i

  -- what the key names
  own_erased_at : (s : Slot T) (rest : Option (Slot T)) (others : Option Property) (test : Bool) → others ≡ option_map erased_slot rest
      → (if test then Some (erased_slot s) else others) ≡ option_map erased_slot (if test then Some s else rest)
  own_erased_at s rest others true same = refl
  own_erased_at s rest others false same = same

  own_erased : (key : List ℕ) (rows : Rows (Slot T)) → own key (erased_rows rows) ≡ option_map erased_slot (own key rows)
  own_erased key [] = refl
  own_erased key (r ∷ rows) = own_erased_at r.1 (own key rows) (own key (erased_rows rows)) (same_name r.0 key) (own_erased key rows)

  -- the objects lead to those before them
  leads_back : (heap : List (Object T)) → IsFormed heap → LeadBack (λ p. number_of p.proto) (erased_heap heap)
  leads_back heap formed i j q here leads = one (slice_get heap i) refl (sym (object_erased heap i) ∙ here)
    where
      one : (o : Option (Object T)) → slice_get heap i ≡ o → option_map erased_object o ≡ Some q → j < i
      one None there is = absurd (none-some q is)
      one (Some p) there is = formed.protos i j p there (ap (λ (x : PlainObject). number_of x.proto) (same_Some (erased_object p) q is) ∙ leads)

  module _ (heap : List (Object T)) (formed : IsFormed heap) (key : List ℕ) (i : ℕ) (p : Object T) (here : slice_get heap i ≡ Some p) where
    find_step : plain_find key (plain_chain (erased_heap heap) i) ≡ plain_found_at i (option_map erased_slot (own key p.rows)) (plain_find key (onwards (number_of p.proto) (plain_chain (erased_heap heap))))
    find_step =
        ap (plain_find key) (chain_step (λ (x : PlainObject). number_of x.proto) (erased_heap heap) (leads_back heap formed) i (erased_object p) (object_erased heap i ∙ ap (option_map erased_object) here))
        ∙ ap (λ o. plain_found_at i o (plain_find key (onwards (number_of p.proto) (plain_chain (erased_heap heap))))) (own_erased key p.rows)

    -- the key is found here
    pub find_here : (s : Slot T) → own key p.rows ≡ Some s → plain_find key (plain_chain (erased_heap heap) i) ≡ Some (i, erased_slot s)
    find_here s has = find_step ∙ ap (λ o. plain_found_at i (option_map erased_slot o) (plain_find key (onwards (number_of p.proto) (plain_chain (erased_heap heap))))) has

    -- or behind
    pub find_behind : (next : Option ObjId) → own key p.rows ≡ None → p.proto ≡ next → plain_find key (plain_chain (erased_heap heap) i) ≡ plain_find key (onwards (number_of next) (plain_chain (erased_heap heap)))
    find_behind next none leads =
        find_step ∙ ap (λ o. plain_found_at i (option_map erased_slot o) (plain_find key (onwards (number_of p.proto) (plain_chain (erased_heap heap))))) none
        ∙ ap (λ o. plain_find key (onwards (number_of o) (plain_chain (erased_heap heap)))) leads

  -- ---- what is found, as the heap's calls tell it

  pub found_here : (heap : List (Object T)) → IsFormed heap → (key : List ℕ) (i : ℕ) (s : Slot T) → own_in key (slice_get heap i) ≡ Some s → plain_find key (plain_chain (erased_heap heap) i) ≡ Some (i, erased_slot s)
  found_here heap formed key i s is = at (slice_get heap i) refl is
    where
      at : (o : Option (Object T)) → slice_get heap i ≡ o → own_in key o ≡ Some s → plain_find key (plain_chain (erased_heap heap) i) ≡ Some (i, erased_slot s)
      at None here is = absurd (none-some s is)
      at (Some p) here is = find_here heap formed key i p here s is

  pub found_behind : (heap : List (Object T)) → IsFormed heap → (key : List ℕ) (i : ℕ) (shape : Shape T) (next : Option ObjId) → own_in key (slice_get heap i) ≡ None → IsShape (slice_get heap i) shape → shape.proto ≡ next
      → plain_find key (plain_chain (erased_heap heap) i) ≡ plain_find key (onwards (number_of next) (plain_chain (erased_heap heap)))
  found_behind heap formed key i shape next none is leads = at (slice_get heap i) refl none is
    where
      at : (o : Option (Object T)) → slice_get heap i ≡ o → own_in key o ≡ None → IsShape o shape → plain_find key (plain_chain (erased_heap heap) i) ≡ plain_find key (onwards (number_of next) (plain_chain (erased_heap heap)))
      at None here none is = absurd is
      at (Some p) here none is = find_behind heap formed key i p here next none (sym (ap (λ (q : Shape T). q.proto) is) ∙ leads)

  -- the prototype stands before the object
  pub proto_below : (heap : List (Object T)) → IsFormed heap → (i : ℕ) (shape : Shape T) → IsShape (slice_get heap i) shape → (proto : ObjId) → shape.proto ≡ Some proto → proto.0 < i
  proto_below heap formed i shape is proto leads = at (slice_get heap i) refl is
    where
      at : (o : Option (Object T)) → slice_get heap i ≡ o → IsShape o shape → proto.0 < i
      at None here is = absurd is
      at (Some p) here is = formed.protos i proto.0 p here (ap number_of (sym (ap (λ (q : Shape T). q.proto) is) ∙ leads))

-- ---- a heap in a reading of its labels is the same without them

module _ {T U : Type 0} (reading : T → U) where
  values_read : (vs : List (Labelled T)) → erased_values (map (read_value reading) vs) ≡ erased_values vs
  values_read [] = refl
  values_read (v ∷ vs) = ap (λ us. v.value ∷ us) (values_read vs)

  inner_read : (inner : Inner T) → erased_inner (read_inner reading inner) ≡ erased_inner inner
  inner_read Plain = refl
  inner_read (Script function env) = refl
  inner_read (Native which) = refl
  inner_read (Bound target label this args) = ap (λ vs. bound target this.value vs) (values_read args)

  rows_read : (rows : Rows (Slot T)) → erased_rows (read_rows reading rows) ≡ erased_rows rows
  rows_read [] = refl
  rows_read (r ∷ rows) = ap (λ rs. (r.0, erased_slot r.1) ∷ rs) (rows_read rows)

  pub heap_read : (heap : List (Object T)) → erased_heap (read_heap reading heap) ≡ erased_heap heap
  heap_read [] = refl
  heap_read (p ∷ heap) =
      ap₂ (λ (q : PlainObject) (others : List PlainObject). q ∷ others)
      (ap₂ (λ (inner : PlainInner) (rows : Rows Property). record { class = p.class; inner = inner; proto = p.proto; extensible = p.extensible; rows = rows }) (inner_read p.inner) (rows_read p.rows))
      (heap_read heap)

-- ---- what is shown of an object

-- it stands in the heap
pub shown_there : {T : Type 0} (heap : List (Object T)) (o : ObjId) (shape : Shape T) (class name : List ℕ) → IsShape (slice_get heap o.0) shape → class ≡ class_name shape.class
    → name ≡ shown_found (plain_find (codes "name") (plain_chain (erased_heap heap) o.0)) → (codes "object " ++ class) ++ name ≡ shown (erased_heap heap) (value.Object o)
unfolding shown
shown_there heap o shape class name is named found = at (slice_get heap o.0) refl is
  where
    at : (p : Option (Object _)) → slice_get heap o.0 ≡ p → IsShape p shape → (codes "object " ++ class) ++ name ≡ codes "object " ++ (shown_class (slice_get (erased_heap heap) o.0) ++ shown_found (plain_find (codes "name") (plain_chain (erased_heap heap) o.0)))
    at None here is = absurd is
    at (Some p) here is =
        append_assoc (codes "object ") class name
        ∙ ap₂ (λ (a b : List ℕ). codes "object " ++ (a ++ b)) (named ∙ ap (λ (q : Shape _). class_name q.class) is ∙ sym (ap shown_class (object_erased heap o.0 ∙ ap (option_map erased_object) here))) found

-- it stands nowhere
pub shown_nowhere : {T : Type 0} (heap : List (Object T)) (o : ObjId) → length heap ≤ o.0 → codes "object " ≡ shown (erased_heap heap) (value.Object o)
unfolding shown
shown_nowhere heap o past =
    let none : slice_get (erased_heap heap) o.0 ≡ None = object_erased heap o.0 ∙ ap (option_map erased_object) (slice_get_past heap o.0 past) in
    rw none refl
