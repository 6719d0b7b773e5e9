-- Objects all of whose labels are one: they are seen without labels.
use Rattle.std.specs.Prelude.{List, [], ◌∷◌, ◌++◌}
use Rattle.js_values.specs.declared.value.Value.{Value}
use Rattle.js_values.specs.declared.value.Labelled.{Labelled}
use Rattle.js_values.specs.declared.property.Slot.{Slot}
use Rattle.js_values.specs.declared.inner.Inner.{Inner}
use Rattle.js_values.specs.declared.inner.Inner.TheVariants.{Plain, Script, Native, Bound}
use Rattle.js_values.specs.Objects.{Rows, Property, PlainInner, plain, script, native, bound, PlainObject, Object}

pub record PlainObjects (T : Type 0) : Type 0 where
  pub label : T
  pub objects : List PlainObject

-- other objects with the same label
abbrev pub changed : {T : Type 0} → (List PlainObject → List PlainObject) → PlainObjects T → PlainObjects T
changed change h = record { label = h.label; objects = change h.objects }

-- further objects
abbrev pub with_more : {T : Type 0} → List PlainObject → PlainObjects T → PlainObjects T
with_more more h = changed (λ objects. objects ++ more) h

-- ---- what has labels, without them

module _ {T : Type 0} where
  abbrev pub seen_values : List (Labelled T) → List Value
  seen_values [] = []
  seen_values (v ∷ vs) = v.value ∷ seen_values vs

  abbrev pub seen_inner : Inner T → PlainInner
  seen_inner Plain = plain
  seen_inner (Script function env) = script function env
  seen_inner (Native which) = native which
  seen_inner (Bound target label this args) = bound target this.value (seen_values args)

  abbrev pub seen_slot : Slot T → Property
  seen_slot s = record { body = s.body; marks = s.marks }

  abbrev pub seen_rows : Rows (Slot T) → Rows Property
  seen_rows [] = []
  seen_rows (r ∷ rows) = (r.0, seen_slot r.1) ∷ seen_rows rows

  abbrev pub seen_object : Object T → PlainObject
  seen_object p = record { class = p.class; inner = seen_inner p.inner; proto = p.proto; extensible = p.extensible; rows = seen_rows p.rows }

  abbrev pub seen_objects : List (Object T) → List PlainObject
  seen_objects [] = []
  seen_objects (p ∷ heap) = seen_object p ∷ seen_objects heap

-- ---- a label wherever one stands

module _ {T : Type 0} (label : T) where
  abbrev pub value_with : Value → Labelled T
  value_with v = record { value = v; label = label }

  abbrev pub values_with : List Value → List (Labelled T)
  values_with [] = []
  values_with (v ∷ vs) = value_with v ∷ values_with vs

  abbrev pub inner_with : PlainInner → Inner T
  inner_with plain = Plain
  inner_with (script function env) = Script function env
  inner_with (native which) = Native which
  inner_with (bound target this args) = Bound target label (value_with this) (values_with args)

  abbrev pub slot_with : Property → Slot T
  slot_with p = record { body = p.body; label = label; existence = label; marks = p.marks }

  abbrev pub rows_with : Rows Property → Rows (Slot T)
  rows_with [] = []
  rows_with (r ∷ rows) = (r.0, slot_with r.1) ∷ rows_with rows

  abbrev pub object_with : PlainObject → Object T
  object_with p = record { class = p.class; inner = inner_with p.inner; proto = p.proto; link = label; structure = label; extensible = p.extensible; rows = rows_with p.rows }

  abbrev pub objects_with : List PlainObject → List (Object T)
  objects_with [] = []
  objects_with (p ∷ objects) = object_with p ∷ objects_with objects
