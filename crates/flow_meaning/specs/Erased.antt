-- What is labelled, without its labels.
use Rattle.std.specs.Prelude.{List, [], ◌∷◌}
use Rattle.origin_labels.specs.Label.{Label, bottom}
use Rattle.js_values.specs.declared.value.Value.{Value}
use Rattle.js_values.specs.declared.value.Labelled.{Labelled}
use Rattle.js_values.specs.declared.property.Slot.{Slot}
use Rattle.js_values.specs.declared.inner.Inner.{Inner}
use Rattle.js_values.specs.declared.inner.Inner.TheVariants.{Plain, Script, Native, Bound}
use Rattle.js_values.specs.Objects.{Rows, Property, PlainInner, plain, script, native, bound, PlainObject, Object}
use Rattle.js_values.specs.Records.{Bindings, Record}

module _ {T : Type 0} where
  abbrev pub erased_values : List (Labelled T) → List Value
  erased_values [] = []
  erased_values (v ∷ vs) = v.value ∷ erased_values vs

  abbrev pub erased_inner : Inner T → PlainInner
  erased_inner Plain = plain
  erased_inner (Script function env) = script function env
  erased_inner (Native which) = native which
  erased_inner (Bound target label this args) = bound target this.value (erased_values args)

  abbrev pub erased_slot : Slot T → Property
  erased_slot s = record { body = s.body; marks = s.marks }

  abbrev pub erased_rows : Rows (Slot T) → Rows Property
  erased_rows [] = []
  erased_rows (r ∷ rows) = (r.0, erased_slot r.1) ∷ erased_rows rows

  abbrev pub erased_object : Object T → PlainObject
  erased_object p = record { class = p.class; inner = erased_inner p.inner; proto = p.proto; extensible = p.extensible; rows = erased_rows p.rows }

  abbrev pub erased_heap : List (Object T) → List PlainObject
  erased_heap [] = []
  erased_heap (p ∷ heap) = erased_object p ∷ erased_heap heap

  abbrev pub erased_bindings : Bindings (Labelled T) → Bindings Value
  erased_bindings [] = []
  erased_bindings (b ∷ bindings) = record { name = b.name; mutable = b.mutable; value = b.value.value } ∷ erased_bindings bindings

  abbrev pub erased_record : Record (Labelled T) → Record Value
  erased_record r = record { outer = r.outer; bindings = erased_bindings r.bindings }

  abbrev pub erased_records : List (Record (Labelled T)) → List (Record Value)
  erased_records [] = []
  erased_records (r ∷ records) = erased_record r ∷ erased_records records

-- ---- what is unlabelled, with a label wherever one stands: so it is made in a context

abbrev pub labelled_by : Label → Value → Labelled Label
labelled_by label v = record { value = v; label = label }

abbrev pub labelled_values : Label → List Value → List (Labelled Label)
labelled_values label [] = []
labelled_values label (v ∷ vs) = labelled_by label v ∷ labelled_values label vs

abbrev pub made_rows : Label → Rows Property → Rows (Slot Label)
made_rows label [] = []
made_rows label (r ∷ rows) = (r.0, record { body = r.1.body; label = label; existence = label; marks = r.1.marks }) ∷ made_rows label rows

abbrev pub made_inner : Label → PlainInner → Inner Label
made_inner label plain = Plain
made_inner label (script function env) = Script function env
made_inner label (native which) = Native which
made_inner label (bound target this args) = Bound target label (labelled_by label this) (labelled_values label args)

abbrev pub made_object : Label → PlainObject → Object Label
made_object label p = record { class = p.class; inner = made_inner label p.inner; proto = p.proto; link = label; structure = label; extensible = p.extensible; rows = made_rows label p.rows }

abbrev pub made_objects : Label → List PlainObject → List (Object Label)
made_objects label [] = []
made_objects label (p ∷ objects) = made_object label p ∷ made_objects label objects

-- ---- with empty labels

abbrev pub unlabelled : Value → Labelled Label
unlabelled v = labelled_by bottom v

abbrev pub unlabelled_rows : Rows Property → Rows (Slot Label)
unlabelled_rows rows = made_rows bottom rows

abbrev pub unlabelled_inner : PlainInner → Inner Label
unlabelled_inner inner = made_inner bottom inner

abbrev pub unlabelled_object : PlainObject → Object Label
unlabelled_object p = made_object bottom p

abbrev pub unlabelled_heap : List PlainObject → List (Object Label)
unlabelled_heap heap = made_objects bottom heap
