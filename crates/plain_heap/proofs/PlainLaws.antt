-- Objects with one label, as they are without labels.
use Rattle.std.proofs.Common.{refl, sym, ap, ap₂, ◌∙◌, ◌≡◌, ◌≤◌, ℕ, zero, suc, Bool, true, false, List, [], ◌∷◌, ◌++◌, length, set, Option, Some, None, codes, if◌then◌else◌}
use Rattle.std.specs.List.{slice_get, insert}
use Rattle.std.specs.Option.{option_map}
use Rattle.std.proofs.lemmas.Option.{none-some, slice_get_past}
use Rattle.origin_labels.specs.Names.{same_name}
use Rattle.js_values.specs.declared.ids.ObjId.{ObjId}
use Rattle.js_values.specs.declared.value.Value.{Value}
use Rattle.js_values.specs.declared.property.Slot.{Slot}
use Rattle.js_values.specs.declared.inner.Class.{Class}
use Rattle.js_values.specs.declared.inner.Inner.{Inner}
use Rattle.js_values.specs.declared.inner.Inner.TheVariants.{Plain, Script, Native, Bound}
use Rattle.js_values.specs.Objects.{Rows, Property, PlainInner, plain, script, native, bound, PlainObject, Object, own, changed, with_row, fresh_plain, fresh_object}
use Rattle.object_heap.specs.Acts.{given_over, given, given_to, give, first_place, given_first_over, given_first, given_first_to, give_first}
use Rattle.object_heap.specs.Acts as heap
use Rattle.object_heap.specs.Formed as labelled
use Rattle.object_heap.specs.Formed.{target_of}
use Rattle.object_heap.specs.declared.shape.Shape.{Shape}
use Rattle.es_meaning.specs.Functions.{is_function}
use Rattle.es_meaning.specs.Requested.{is_function_in}
use Rattle.es_meaning.specs.Objects.{defined_over, defined, own_in, replaced, with_rows}
use Rattle.es_meaning.specs.Holders.{in_front, with_first, with_first_of, with_property_of}
use Rattle.plain_heap.specs.PlainObjects.{PlainObjects, seen_values, seen_inner, seen_slot, seen_rows, seen_object, seen_objects, values_with, inner_with, slot_with, rows_with, object_with, objects_with}

module _ {T : Type 0} (label : T) where
  -- ---- without the label again

  values_seen : (vs : List Value) → seen_values (values_with label vs) ≡ vs
  values_seen [] = refl
  values_seen (v ∷ vs) = ap (λ us. v ∷ us) (values_seen vs)

  inner_seen : (inner : PlainInner) → seen_inner (inner_with label inner) ≡ inner
  inner_seen plain = refl
  inner_seen (script function env) = refl
  inner_seen (native which) = refl
  inner_seen (bound target this args) = ap (bound target this) (values_seen args)

  rows_seen : (rows : Rows Property) → seen_rows (rows_with label rows) ≡ rows
  rows_seen [] = refl
  rows_seen (r ∷ rows) = ap (λ more. r ∷ more) (rows_seen rows)

  object_seen : (p : PlainObject) → seen_object (object_with label p) ≡ p
  object_seen p = ap₂ (λ inner rows. record { class = p.class; inner = inner; proto = p.proto; extensible = p.extensible; rows = rows }) (inner_seen p.inner) (rows_seen p.rows)

  objects_seen : (objects : List PlainObject) → seen_objects (objects_with label objects) ≡ objects
  objects_seen [] = refl
  objects_seen (p ∷ objects) = ap₂ (λ q more. q ∷ more) (object_seen p) (objects_seen objects)

  -- objects that are these with the label are seen as these
  pub seen_as : (heap : List (Object T)) (objects : List PlainObject) → heap ≡ objects_with label objects → seen_objects heap ≡ objects
  seen_as heap objects is = ap seen_objects is ∙ objects_seen objects

  pub all_with : (heap : List (Object T)) (objects : List PlainObject) → heap ≡ objects_with label objects → heap ≡ objects_with label (seen_objects heap)
  all_with heap objects is = is ∙ ap (objects_with label) (sym (seen_as heap objects is))

  abbrev pub labelled_so : List PlainObject → PlainObjects T
  labelled_so objects = record { label = label; objects = objects }

  pub view_with : (heap : List (Object T)) (objects : List PlainObject) → heap ≡ objects_with label objects → labelled_so (seen_objects heap) ≡ labelled_so objects
  view_with heap objects is = ap labelled_so (seen_as heap objects is)

  -- ---- a further object

  free_with : (inner : Inner T) → target_of inner ≡ None → inner ≡ inner_with label (seen_inner inner)
  free_with Plain free = refl
  free_with (Script function env) free = refl
  free_with (Native which) free = refl
  free_with (Bound target bound_label this args) free = absurd (none-some target.0 (sym free))

  append_with : (objects more : List PlainObject) → objects_with label (objects ++ more) ≡ objects_with label objects ++ objects_with label more
  append_with [] more = refl
  append_with (p ∷ objects) more = ap (λ all. object_with label p ∷ all) (append_with objects more)

  pub further : (heap : List (Object T)) (class : Class) (inner : Inner T) (proto : Option ObjId) → target_of inner ≡ None → heap ≡ objects_with label (seen_objects heap)
      → heap ++ fresh_object class inner proto label label ∷ [] ≡ objects_with label (seen_objects heap ++ fresh_plain class (seen_inner inner) proto ∷ [])
  further heap class inner proto free is =
      ap₂ (λ (h : List (Object T)) (i : Inner T). h ++ fresh_object class i proto label label ∷ []) is (free_with inner free)
      ∙ sym (append_with (seen_objects heap) (fresh_plain class (seen_inner inner) proto ∷ []))

  -- ---- what an object has, and a property that it is given

  own_at : (test : Bool) (r : List ℕ × Property) (rest : Option (Slot T)) (more : Option Property) → rest ≡ option_map (slot_with label) more → (if test then Some (slot_with label r.1) else rest) ≡ option_map (slot_with label) (if test then Some r.1 else more)
  own_at true r rest more same = refl
  own_at false r rest more same = same

  own_with : (key : List ℕ) (rows : Rows Property) → own key (rows_with label rows) ≡ option_map (slot_with label) (own key rows)
  own_with key [] = refl
  own_with key (r ∷ rows) = own_at (same_name r.0 key) r (own key (rows_with label rows)) (own key rows) (own_with key rows)

  get_with : (objects : List PlainObject) (o : ℕ) → slice_get (objects_with label objects) o ≡ option_map (object_with label) (slice_get objects o)
  get_with [] o = refl
  get_with (p ∷ objects) zero = refl
  get_with (p ∷ objects) (suc o) = get_with objects o

  slots_seen : (p : Option Property) → option_map seen_slot (option_map (slot_with label) p) ≡ p
  slots_seen None = refl
  slots_seen (Some p) = refl

  own_in_with : (key : List ℕ) (p : Option PlainObject) → option_map seen_slot (labelled.own_in key (option_map (object_with label) p)) ≡ own_in key p
  own_in_with key None = refl
  own_in_with key (Some p) = ap (option_map seen_slot) (own_with key p.rows) ∙ slots_seen (own key p.rows)

  pub own_seen : (key : List ℕ) (heap : List (Object T)) (o : ℕ) → heap ≡ objects_with label (seen_objects heap) → option_map seen_slot (labelled.own_in key (slice_get heap o)) ≡ own_in key (slice_get (seen_objects heap) o)
  own_seen key heap o is =
      ap (λ (h : List (Object T)). option_map seen_slot (labelled.own_in key (slice_get h o))) is
      ∙ ap (λ (p : Option (Object T)). option_map seen_slot (labelled.own_in key p)) (get_with (seen_objects heap) o)
      ∙ own_in_with key (slice_get (seen_objects heap) o)

  module _ (key : List ℕ) (p : Property) where
    row_with : (rows : Rows Property) → rows_with label (with_row key p rows) ≡ with_row key (slot_with label p) (rows_with label rows)
    row_with [] = refl
    row_with (r ∷ rows) = ap (λ more. (r.0, slot_with label r.1) ∷ more) (row_with rows)

    changed_at : (test : Bool) (r : List ℕ × Property) (rows : Rows Property) (more : Rows (Slot T)) → rows_with label (changed key (λ u. p) rows) ≡ more
        → rows_with label (if test then (r.0, p) ∷ rows else r ∷ changed key (λ u. p) rows) ≡ (if test then (r.0, slot_with label p) ∷ rows_with label rows else (r.0, slot_with label r.1) ∷ more)
    changed_at true r rows more same = refl
    changed_at false r rows more same = ap (λ rest. (r.0, slot_with label r.1) ∷ rest) same

    changed_with : (rows : Rows Property) → rows_with label (changed key (λ u. p) rows) ≡ changed key (λ u. slot_with label p) (rows_with label rows)
    changed_with [] = refl
    changed_with (r ∷ rows) = changed_at (same_name r.0 key) r rows (changed key (λ u. slot_with label p) (rows_with label rows)) (changed_with rows)

    given_by : (q : Option Property) (rows : Rows Property) → rows_with label (defined_over q key p rows) ≡ given_over (option_map (slot_with label) q) key (slot_with label p) (rows_with label rows)
    given_by None rows = row_with rows
    given_by (Some q) rows = changed_with rows

    given_with : (rows : Rows Property) → rows_with label (defined key p rows) ≡ given key (slot_with label p) (rows_with label rows)
    given_with rows = given_by (own key rows) rows ∙ ap (λ (s : Option (Slot T)). given_over s key (slot_with label p) (rows_with label rows)) (sym (own_with key rows))

    set_with : (objects : List PlainObject) (o : ℕ) (q : PlainObject) → objects_with label (set objects o q) ≡ set (objects_with label objects) o (object_with label q)
    set_with [] o q = refl
    set_with (r ∷ objects) zero q = refl
    set_with (r ∷ objects) (suc o) q = ap (λ more. object_with label r ∷ more) (set_with objects o q)

    given_to_with : (q : Option PlainObject) (o : ℕ) (objects : List PlainObject)
        → given_to (option_map (object_with label) q) o key (slot_with label p) (objects_with label objects) ≡ objects_with label (replaced q o (λ x. with_rows x (defined key p x.rows)) objects)
    given_to_with None o objects = refl
    given_to_with (Some q) o objects =
        ap (λ (rows : Rows (Slot T)). set (objects_with label objects) o (heap.with_rows (object_with label q) rows)) (sym (given_with q.rows))
        ∙ sym (set_with objects o (with_rows q (defined key p q.rows)))

    pub give_with : (h : List (Object T)) (o : ℕ) → h ≡ objects_with label (seen_objects h) → give o key (slot_with label p) h ≡ objects_with label (with_property_of o key p (seen_objects h))
    give_with h o is =
        ap (λ (g : List (Object T)). give o key (slot_with label p) g) is
        ∙ ap (λ (q : Option (Object T)). given_to q o key (slot_with label p) (objects_with label (seen_objects h))) (get_with (seen_objects h) o)
        ∙ given_to_with (slice_get (seen_objects h) o) o (seen_objects h)

    -- ---- the same in front of the others

    front_with : (rows : Rows Property) → rows_with label (in_front key p rows) ≡ insert (rows_with label rows) (first_place (rows_with label rows)) (key, slot_with label p)
    front_with [] = refl
    front_with (r ∷ rows) = at (same_name r.0 (codes "length"))
      where
        at : (test : Bool) → rows_with label (if test then r ∷ (key, p) ∷ rows else (key, p) ∷ r ∷ rows) ≡ insert ((r.0, slot_with label r.1) ∷ rows_with label rows) (if test then 1 else 0) (key, slot_with label p)
        at true = refl
        at false = refl

    first_by : (q : Option Property) (rows : Rows Property) → rows_with label (with_first q key p rows) ≡ given_first_over (option_map (slot_with label) q) key (slot_with label p) (rows_with label rows)
    first_by None rows = front_with rows
    first_by (Some q) rows = changed_with rows

    first_with : (rows : Rows Property) → rows_with label (with_first (own key rows) key p rows) ≡ given_first key (slot_with label p) (rows_with label rows)
    first_with rows = first_by (own key rows) rows ∙ ap (λ (s : Option (Slot T)). given_first_over s key (slot_with label p) (rows_with label rows)) (sym (own_with key rows))

    first_to_with : (q : Option PlainObject) (o : ℕ) (objects : List PlainObject)
        → given_first_to (option_map (object_with label) q) o key (slot_with label p) (objects_with label objects) ≡ objects_with label (replaced q o (λ x. with_rows x (with_first (own key x.rows) key p x.rows)) objects)
    first_to_with None o objects = refl
    first_to_with (Some q) o objects =
        ap (λ (rows : Rows (Slot T)). set (objects_with label objects) o (heap.with_rows (object_with label q) rows)) (sym (first_with q.rows))
        ∙ sym (set_with objects o (with_rows q (with_first (own key q.rows) key p q.rows)))

    pub give_first_with : (h : List (Object T)) (o : ℕ) → h ≡ objects_with label (seen_objects h) → give_first o key (slot_with label p) h ≡ objects_with label (with_first_of o key p (seen_objects h))
    give_first_with h o is =
        ap (λ (g : List (Object T)). give_first o key (slot_with label p) g) is
        ∙ ap (λ (q : Option (Object T)). given_first_to q o key (slot_with label p) (objects_with label (seen_objects h))) (get_with (seen_objects h) o)
        ∙ first_to_with (slice_get (seen_objects h) o) o (seen_objects h)

-- an object that isn't there is given nothing
pub none_given_first : (objects : List PlainObject) (o : ℕ) (key : List ℕ) (p : Property) → length objects ≤ o → with_first_of o key p objects ≡ objects
none_given_first objects o key p past = ap (λ (q : Option PlainObject). replaced q o (λ x. with_rows x (with_first (own key x.rows) key p x.rows)) objects) (slice_get_past objects o past)

pub none_given : (objects : List PlainObject) (o : ℕ) (key : List ℕ) (p : Property) → length objects ≤ o → with_property_of o key p objects ≡ objects
none_given objects o key p past = ap (λ (q : Option PlainObject). replaced q o (λ x. with_rows x (defined key p x.rows)) objects) (slice_get_past objects o past)

-- an object is a function where its class says so
seen_get : {T : Type 0} (h : List (Object T)) (o : ℕ) → slice_get (seen_objects h) o ≡ option_map seen_object (slice_get h o)
seen_get [] o = refl
seen_get (p ∷ h) zero = refl
seen_get (p ∷ h) (suc o) = seen_get h o

pub function_seen : {T : Type 0} (h : List (Object T)) (o : ℕ) (shape : Shape T) → labelled.IsShape (slice_get h o) shape → is_function shape.class ≡ is_function_in (slice_get (seen_objects h) o)
function_seen h o shape is = at (slice_get h o) is ∙ ap is_function_in (sym (seen_get h o))
  where
    at : (p : Option (Object _)) → labelled.IsShape p shape → is_function shape.class ≡ is_function_in (option_map seen_object p)
    at None is = absurd is
    at (Some p) is = ap (λ (q : Shape _). is_function q.class) is

pub length_seen : {T : Type 0} (h : List (Object T)) → length (seen_objects h) ≡ length h
length_seen [] = refl
length_seen (p ∷ h) = ap (λ n. suc n) (length_seen h)

pub length_is : {T : Type 0} (label : T) (heap : List (Object T)) (h : PlainObjects T) → record { label = label; objects = seen_objects heap } ≡ h → length h.objects ≡ length heap
length_is label heap h is = ap (λ (x : PlainObjects _). length x.objects) (sym is) ∙ length_seen heap

pub map_twice : {A B C : Type 0} (f : B → C) (g : A → B) (x : Option A) → option_map (λ a. f (g a)) x ≡ option_map f (option_map g x)
map_twice f g None = refl
map_twice f g (Some a) = refl
