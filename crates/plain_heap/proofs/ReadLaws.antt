-- Objects with one label, in a reading of it.
use Rattle.std.proofs.Common.{refl, ap, ap₂, ◌≡◌, ℕ, suc, List, [], ◌∷◌, length, map}
use Rattle.std.specs.List.{All}
use Rattle.std.proofs.lemmas.List.Elements.{All-cons, All-nil}
use Rattle.js_values.specs.declared.value.Labelled.{Labelled}
use Rattle.js_values.specs.declared.value.Value.{Value}
use Rattle.js_values.specs.declared.property.Slot.{Slot}
use Rattle.js_values.specs.declared.inner.Inner.{Inner}
use Rattle.js_values.specs.declared.inner.Inner.TheVariants.{Bound}
use Rattle.js_values.specs.Objects.{Rows, Property, PlainInner, plain, script, native, bound, Object, PlainObject}
use Rattle.js_values.specs.Readings.{HasValue, HasSlot, HasInner, HasObject, HasHeap, read_value, read_inner, read_rows, read_heap}
use Rattle.plain_heap.specs.PlainObjects.{value_with, values_with, inner_with, slot_with, rows_with, object_with, objects_with}

module _ {T U : Type 0} (reading : T → U) (label : T) where
  read_values_with : (vs : List Value) → map (read_value reading) (values_with label vs) ≡ values_with (reading label) vs
  read_values_with [] = refl
  read_values_with (v ∷ vs) = ap (λ us. value_with (reading label) v ∷ us) (read_values_with vs)

  read_inner_with : (inner : PlainInner) → read_inner reading (inner_with label inner) ≡ inner_with (reading label) inner
  read_inner_with plain = refl
  read_inner_with (script function env) = refl
  read_inner_with (native which) = refl
  read_inner_with (bound target this args) = ap (Bound target (reading label) (value_with (reading label) this)) (read_values_with args)

  read_rows_with : (rows : Rows Property) → read_rows reading (rows_with label rows) ≡ rows_with (reading label) rows
  read_rows_with [] = refl
  read_rows_with (r ∷ rows) = ap (λ more. (r.0, slot_with (reading label) r.1) ∷ more) (read_rows_with rows)

  pub read_with : (objects : List PlainObject) → read_heap reading (objects_with label objects) ≡ objects_with (reading label) objects
  read_with [] = refl
  read_with (p ∷ objects) =
      ap₂ (λ (q : Object U) (more : List (Object U)). q ∷ more)
      (ap₂ (λ (i : Inner U) (rows : Rows (Slot U)). record (object_with (reading label) p) { inner = i; rows = rows }) (read_inner_with p.inner) (read_rows_with p.rows))
      (read_with objects)

module _ {T : Type 0} (made : T → Type 0) (label : T) (m : made label) where
  has_values : (vs : List Value) → All (HasValue made) (values_with label vs)
  has_values [] = All-nil (HasValue made)
  has_values (v ∷ vs) = All-cons (HasValue made) (value_with label v) (values_with label vs) m (has_values vs)

  has_inner : (inner : PlainInner) → HasInner made (inner_with label inner)
  has_inner plain = tt
  has_inner (script function env) = tt
  has_inner (native which) = tt
  has_inner (bound target this args) = (m, m, has_values args)

  has_rows : (rows : Rows Property) → All (λ r. HasSlot made r.1) (rows_with label rows)
  has_rows [] = All-nil (λ (r : List ℕ × Slot T). HasSlot made r.1)
  has_rows (r ∷ rows) = All-cons (λ (q : List ℕ × Slot T). HasSlot made q.1) (r.0, slot_with label r.1) (rows_with label rows) (m, m) (has_rows rows)

  -- its label belongs to a store, and so do they
  pub has_objects : (objects : List PlainObject) → HasHeap made (objects_with label objects)
  has_objects [] = All-nil (HasObject made)
  has_objects (p ∷ objects) = All-cons (HasObject made) (object_with label p) (objects_with label objects) (record { inner = has_inner p.inner; link = m; structure = m; rows = has_rows p.rows }) (has_objects objects)

pub length_with : {T : Type 0} (label : T) (objects : List PlainObject) → length (objects_with label objects) ≡ length objects
length_with label [] = refl
length_with label (p ∷ objects) = ap (λ n. suc n) (length_with label objects)
