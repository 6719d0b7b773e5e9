-- What the labels of a store mean in values, objects and records. A clause on a call speaks of each reading that agrees with the store on the labels
-- that it made: a reading that agrees with a later store agrees with the earlier one, so that the clauses of several calls compose.
use Rattle.std.specs.Prelude.{◌≡◌, List, map}
use Rattle.std.specs.List.{All}
use Rattle.origin_labels.specs.Label.{Label}
use Rattle.js_values.specs.declared.value.Labelled.{Labelled}
use Rattle.js_values.specs.declared.property.Slot.{Slot}
use Rattle.js_values.specs.declared.inner.Inner.{Inner}
use Rattle.js_values.specs.declared.inner.Inner.TheVariants.{Plain, Script, Native, Bound}
use Rattle.js_values.specs.Objects.{Rows, Object}
use Rattle.js_values.specs.Records.{Binding, Record}

-- the reading agrees with the store on the labels that it made
pub record IsReading {S T : Type 0} (made : S → T → Type 0) (meaning : S → T → Label) (store : S) (reading : T → Label) : Type 0 where
  pub agrees : (label : T) → made store label → reading label ≡ meaning store label

-- ---- with other labels in the place of each

abbrev pub read_value : {T U : Type 0} → (T → U) → Labelled T → Labelled U
read_value reading v = record { value = v.value; label = reading v.label }

abbrev pub read_slot : {T U : Type 0} → (T → U) → Slot T → Slot U
read_slot reading s = record { body = s.body; label = reading s.label; existence = reading s.existence; marks = s.marks }

abbrev pub read_rows : {T U : Type 0} → (T → U) → Rows (Slot T) → Rows (Slot U)
read_rows reading rows = map (λ r. (r.0, read_slot reading r.1)) rows

abbrev pub read_inner : {T U : Type 0} → (T → U) → Inner T → Inner U
read_inner reading Plain = Plain
read_inner reading (Script function env) = Script function env
read_inner reading (Native which) = Native which
read_inner reading (Bound target label this args) = Bound target (reading label) (read_value reading this) (map (read_value reading) args)

abbrev pub read_object : {T U : Type 0} → (T → U) → Object T → Object U
read_object reading p = record { class = p.class; inner = read_inner reading p.inner; proto = p.proto; link = reading p.link; structure = reading p.structure; extensible = p.extensible; rows = read_rows reading p.rows }

abbrev pub read_heap : {T U : Type 0} → (T → U) → List (Object T) → List (Object U)
read_heap reading heap = map (read_object reading) heap

abbrev pub read_binding : {T U : Type 0} → (T → U) → Binding (Labelled T) → Binding (Labelled U)
read_binding reading b = record { name = b.name; mutable = b.mutable; value = read_value reading b.value }

abbrev pub read_record : {T U : Type 0} → (T → U) → Record (Labelled T) → Record (Labelled U)
read_record reading r = record { outer = r.outer; bindings = map (read_binding reading) r.bindings }

abbrev pub read_records : {T U : Type 0} → (T → U) → List (Record (Labelled T)) → List (Record (Labelled U))
read_records reading records = map (read_record reading) records

-- ---- each label has a property, as to be made by a store

abbrev pub HasValue : {T : Type 0} → (T → Type 0) → Labelled T → Type 0
HasValue made v = made v.label

abbrev pub HasSlot : {T : Type 0} → (T → Type 0) → Slot T → Type 0
HasSlot made s = made s.label × made s.existence

abbrev pub HasInner : {T : Type 0} → (T → Type 0) → Inner T → Type 0
HasInner made (Bound target label this args) = made label × HasValue made this × All (HasValue made) args
HasInner made Plain = Unit {0}
HasInner made (Script function env) = Unit {0}
HasInner made (Native which) = Unit {0}

pub record HasObject {T : Type 0} (made : T → Type 0) (p : Object T) : Type 0 where
  pub inner : HasInner made p.inner
  pub link : made p.link
  pub structure : made p.structure
  pub rows : All (λ r. HasSlot made r.1) p.rows

abbrev pub HasHeap : {T : Type 0} → (T → Type 0) → List (Object T) → Type 0
HasHeap made heap = All (HasObject made) heap

abbrev pub HasRecord : {T : Type 0} → (T → Type 0) → Record (Labelled T) → Type 0
HasRecord made r = All (λ b. HasValue made b.value) r.bindings

abbrev pub HasRecords : {T : Type 0} → (T → Type 0) → List (Record (Labelled T)) → Type 0
HasRecords made records = All (HasRecord made) records
