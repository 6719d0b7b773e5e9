-- Objects without their labels: an act on a labelled heap is the act on the heap without labels, up to a broken rule, and what is found along prototypes
-- is the same.
use Rattle.std.proofs.Common.{◌≡◌, ℕ, zero, suc, Bool, true, false, cond, ◌&&◌, not, List, [], ◌∷◌, ◌++◌, map, length, nat_le, nat_lt, set, Option, Some, None, Ok, Err, slice_get, codes, refl, sym, ◌∙◌, ap, ap₂, subst}
use Rattle.std.specs.Option.{option_map}
use Rattle.std.proofs.lemmas.List.{set-get_or}
use Rattle.std.proofs.lemmas.Option.{none-some, same_Some, get_or_from_slice_get}
use Rattle.origin_labels.specs.Label.{Label, bottom, within}
use Rattle.origin_labels.specs.Names.{same_name, has_name}
use Rattle.flow_frames.specs.declared.faults.Rule.{Rule}
use Rattle.flow_frames.specs.declared.faults.Rule.TheVariants.{W2, W3, W4, W5, W7, W8}
use Rattle.flow_frames.specs.declared.faults.FlowStop.{FlowStop}
use Rattle.js_values.specs.declared.value.Labelled.{Labelled}
use Rattle.js_values.specs.declared.property.Body.{Body}
use Rattle.js_values.specs.declared.property.Body.TheVariants.{Data, Accessor}
use Rattle.js_values.specs.declared.property.Marks.{Marks}
use Rattle.js_values.specs.declared.property.Slot.{Slot}
use Rattle.js_values.specs.declared.ids.ObjId.{ObjId}
use Rattle.js_values.specs.declared.value.Value.{Value}
use Rattle.js_values.specs.declared.inner.Inner.{Inner}
use Rattle.js_values.specs.declared.inner.Inner.TheVariants.{Plain, Script, Native, Bound}
use Rattle.js_values.specs.Objects.{Rows, Property, PlainInner, plain as plain_inner, script, native, bound, PlainObject, Object, number_of, own, row_or_none, altered, changed, with_row, keys_of}
use Rattle.js_values.specs.Chains.{beginning, onwards, chain_within}
use Rattle.js_values.specs.Walks.{plain_chain, object_chain, plain_found_at, plain_find, Found, found_at, find}
use Rattle.js_ast.specs.Trees.{Statements}
use Rattle.js_values.specs.Numerals.{index_of}
use Rattle.js_values.specs.Arrays.{length_key, element_of, is_past, element_key, highest, higher_if}
use Rattle.object_heap.specs.Acts as acts
use Rattle.object_heap.specs.Acts.{Acted, under, Act, on_slot, change, value_have, existence_have, with_body, with_existence, added, lengthened, stretched, add_absent, put_back, on_object, act_on}
use Rattle.prototype_walk.specs.declared.plan.PutPlan.{PutPlan}
use Rattle.prototype_walk.specs.declared.plan.PutPlan.TheVariants.{Write, Add, Setter, Refused}
use Rattle.prototype_walk.specs.Plans as walks
use Rattle.prototype_walk.specs.KeyLists as lists
use Rattle.es_meaning.specs.BuiltIns.{BuiltIns}
use Rattle.es_meaning.specs.Definitions.{setter_in}
use Rattle.es_meaning.specs.Functions.{Target, this_or, bound_behind}
use Rattle.es_meaning.specs.Operations.{Part}
use Rattle.es_meaning.specs.Primitives.{chain_from}
use Rattle.es_meaning.specs.Objects as plain
use Rattle.es_meaning.specs.Objects.{defined, defined_over, elements_onto, Plan, writes, adds, refuses, calls, replaced, with_object, with_value, with_length, with_added, made_by_script}
use Rattle.es_meaning.specs.Functions.{property_with}
use Rattle.es_meaning.specs.Start.{count_property, length_property, function_rows}
use Rattle.es_meaning.specs.Plain.{first_heap}
use Rattle.es_meaning.specs.Requested as requested
use Rattle.es_meaning.specs.Requested.{part_body, part_marks}
use Rattle.flow_meaning.specs.Erased.{erased_values, erased_inner, erased_slot, erased_rows, erased_object, erased_heap, labelled_values, made_inner, made_rows, made_object, made_objects, unlabelled_heap}
use Rattle.flow_meaning.specs.Scopes.{Val}
use Rattle.flow_meaning.specs.Requested as labelled
use Rattle.flow_meaning.specs.Requested.{property_in, part_slot, Aim}
use Rattle.flow_meaning.specs.Tracked as tracked

-- ---- lists of objects

-- as many objects
pub length_erased : (heap : List (Object Label)) → length (erased_heap heap) ≡ length heap
length_erased [] = refl
length_erased (p ∷ heap) = ap suc (length_erased heap)

-- a further object
pub pushed_erased : (heap : List (Object Label)) (p : Object Label) → erased_heap (heap ++ p ∷ []) ≡ erased_heap heap ++ erased_object p ∷ []
pushed_erased [] p = refl
pushed_erased (q ∷ heap) p = ap (λ ps. erased_object q ∷ ps) (pushed_erased heap p)

-- the object with this number
pub object_erased : (heap : List (Object Label)) (i : ℕ) → slice_get (erased_heap heap) i ≡ option_map erased_object (slice_get heap i)
object_erased [] i = refl
object_erased (p ∷ heap) zero = refl
object_erased (p ∷ heap) (suc i) = object_erased heap i

-- another object in a place
put_erased : (heap : List (Object Label)) (i : ℕ) (p : Object Label) → erased_heap (set heap i p) ≡ set (erased_heap heap) i (erased_object p)
put_erased [] i p = refl
put_erased (q ∷ heap) zero p = refl
put_erased (q ∷ heap) (suc i) p = ap (λ ps. erased_object q ∷ ps) (put_erased heap i p)

-- an object is put where it stands
put_there : (heap : List PlainObject) (i : ℕ) (p : PlainObject) → slice_get heap i ≡ Some p → set heap i p ≡ heap
put_there heap i p e = ap (λ x. set heap i x) (sym (get_or_from_slice_get heap i p p e)) ∙ set-get_or heap i p

-- an object that stays as it is
pub stays : (o : ℕ) (heap : List PlainObject) → with_object o (λ p. p) heap ≡ heap
stays o heap = there (slice_get heap o) refl
  where
    there : (x : Option PlainObject) → slice_get heap o ≡ x → replaced x o (λ p. p) heap ≡ heap
    there None e = refl
    there (Some p) e = put_there heap o p e

-- ---- rows

-- what a key names
pub own_erased : (key : List ℕ) (rows : Rows (Slot Label)) → own key (erased_rows rows) ≡ option_map erased_slot (own key rows)
own_erased key [] = refl
own_erased key (r ∷ rows) = by_case (same_name r.0 key) (own_erased key rows)
  where
    by_case : (b : Bool) → own key (erased_rows rows) ≡ option_map erased_slot (own key rows) → cond b (Some (erased_slot r.1)) (own key (erased_rows rows)) ≡ option_map erased_slot (cond b (Some r.1) (own key rows))
    by_case true h = refl
    by_case false h = h

-- a row that there may be
row_erased : (key : List ℕ) (s : Option (Slot Label)) (rows : Rows (Slot Label)) → erased_rows (row_or_none key s rows) ≡ row_or_none key (option_map erased_slot s) (erased_rows rows)
row_erased key None rows = refl
row_erased key (Some s) rows = refl

-- what a key names is replaced or removed
altered_erased : (key : List ℕ) (from : Slot Label → Option (Slot Label)) (to : Property → Option Property) → ((s : Slot Label) → option_map erased_slot (from s) ≡ to (erased_slot s)) → (rows : Rows (Slot Label))
    → erased_rows (altered key from rows) ≡ altered key to (erased_rows rows)
altered_erased key from to h [] = refl
altered_erased key from to h (r ∷ rows) = by_case (same_name r.0 key) (altered_erased key from to h rows)
  where
    by_case : (b : Bool) → erased_rows (altered key from rows) ≡ altered key to (erased_rows rows)
        → erased_rows (cond b (row_or_none r.0 (from r.1) rows) (r ∷ altered key from rows)) ≡ cond b (row_or_none r.0 (to (erased_slot r.1)) (erased_rows rows)) ((r.0, erased_slot r.1) ∷ altered key to (erased_rows rows))
    by_case true ih = row_erased r.0 (from r.1) rows ∙ ap (λ s. row_or_none r.0 s (erased_rows rows)) (h r.1)
    by_case false ih = ap (λ (rs : Rows Property). (r.0, erased_slot r.1) ∷ rs) ih

-- a further row
with_row_erased : (key : List ℕ) (s : Slot Label) (rows : Rows (Slot Label)) → erased_rows (with_row key s rows) ≡ with_row key (erased_slot s) (erased_rows rows)
with_row_erased key s [] = refl
with_row_erased key s (r ∷ rows) = ap (λ (rs : Rows Property). (r.0, erased_slot r.1) ∷ rs) (with_row_erased key s rows)

-- the keys
keys_erased : (rows : Rows (Slot Label)) → keys_of (erased_rows rows) ≡ keys_of rows
keys_erased [] = refl
keys_erased (r ∷ rows) = ap (λ (keys : List (List ℕ)). r.0 ∷ keys) (keys_erased rows)

-- what an absent key names can't be altered
absent_altered : (key : List ℕ) (to : Property → Option Property) (rows : Rows Property) → own key rows ≡ None → altered key to rows ≡ rows
absent_altered key to [] e = refl
absent_altered key to (r ∷ rows) e = by_case (same_name r.0 key) e (absent_altered key to rows)
  where
    by_case : (b : Bool) → cond b (Some r.1) (own key rows) ≡ None → (own key rows ≡ None → altered key to rows ≡ rows) → cond b (row_or_none r.0 (to r.1) rows) (r ∷ altered key to rows) ≡ r ∷ rows
    by_case true e h = absurd (none-some r.1 (sym e))
    by_case false e h = ap (λ (rs : Rows Property). r ∷ rs) (h e)

-- a property that stays as it is
pub unchanged : (key : List ℕ) (rows : Rows Property) → changed key (λ p. p) rows ≡ rows
unchanged key [] = refl
unchanged key (r ∷ rows) = by_case (same_name r.0 key) (unchanged key rows)
  where
    by_case : (b : Bool) → changed key (λ p. p) rows ≡ rows → cond b (row_or_none r.0 (Some r.1) rows) (r ∷ changed key (λ p. p) rows) ≡ r ∷ rows
    by_case true h = refl
    by_case false h = ap (λ (rs : Rows Property). r ∷ rs) h

-- ---- acts

-- what is done comes to this without labels, or is stopped by a broken rule
pub data Does {X Y : Type 0} (erase : X → Y) (y : Y) : Acted X → Type 0 where
  does : {x : X} → erase x ≡ y → Does erase y (Ok x)
  breaks : {stop : FlowStop Label} → within stop.need stop.have ≡ false → Does erase y (Err stop)

-- a rule goes on as what it guards, or stops
does_under : {X Y : Type 0} {erase : X → Y} {y : Y} (rule : Rule) (need have : Label) {go_on : Acted X} → Does erase y go_on → Does erase y (under rule need have go_on)
does_under {X} {Y} {erase} {y} rule need have {go_on} d = by_case (within need have) refl
  where
    by_case : (b : Bool) → within need have ≡ b → Does erase y (cond b go_on (Err (record { rule = rule; need = need; have = have })))
    by_case true e = d
    by_case false e = breaks e

-- an act on an object of the heap
pub act_on_does : (act : Act) (to : PlainObject → PlainObject) (o : ℕ) (heap : List (Object Label)) → ((p : Object Label) → slice_get heap o ≡ Some p → Does erased_object (to (erased_object p)) (act p))
    → Does erased_heap (with_object o to (erased_heap heap)) (act_on o act heap)
act_on_does act to o heap h = subst (λ x. Does erased_heap (replaced x o to (erased_heap heap)) (act_on o act heap)) (sym (object_erased heap o)) (there (slice_get heap o) refl)
  where
    put : {q : PlainObject} {a : Acted (Object Label)} → Does erased_object q a → Does erased_heap (set (erased_heap heap) o q) (put_back heap o a)
    put (does {x = p} e) = does (put_erased heap o p ∙ ap (set (erased_heap heap) o) e)
    put (breaks e) = breaks e

    there : (x : Option (Object Label)) → slice_get heap o ≡ x → Does erased_heap (replaced (option_map erased_object x) o to (erased_heap heap)) (on_object x heap o act)
    there None e = does refl
    there (Some p) e = put (h p e)

-- with other rows
rows_does : (p : Object Label) (rows : Rows (Slot Label)) (others : Rows Property) → erased_rows rows ≡ others → Does erased_object (plain.with_rows (erased_object p) others) (Ok (acts.with_rows p rows))
rows_does p rows others e = does (ap (plain.with_rows (erased_object p)) e)

-- what is done with a property that there may be
on_slot_does : (key : List ℕ) (to : Property → Option Property) (p : Object Label) (act : Slot Label → Acted (Object Label)) → ((s : Slot Label) → Does erased_object (plain.with_rows (erased_object p) (altered key to (erased_rows p.rows))) (act s))
    → Does erased_object (plain.with_rows (erased_object p) (altered key to (erased_rows p.rows))) (on_slot (own key p.rows) p act)
on_slot_does key to p act h = there (own key p.rows) refl
  where
    there : (x : Option (Slot Label)) → own key p.rows ≡ x → Does erased_object (plain.with_rows (erased_object p) (altered key to (erased_rows p.rows))) (on_slot x p act)
    there None e = does (ap (plain.with_rows (erased_object p)) (sym (absent_altered key to (erased_rows p.rows) (own_erased key p.rows ∙ ap (option_map erased_slot) e))))
    there (Some s) e = h s

-- a property is changed
pub change_does : (rule : Rule) (have : Slot Label → Label) (from : Slot Label → Slot Label) (to : Property → Property) (key : List ℕ) (need : Label) (p : Object Label) → ((s : Slot Label) → erased_slot (from s) ≡ to (erased_slot s))
    → Does erased_object (plain.with_rows (erased_object p) (changed key to (erased_rows p.rows))) (change rule have from key need p)
change_does rule have from to key need p h =
    on_slot_does key (λ q. Some (to q)) p _ (λ s. does_under rule need (have s) (rows_does p _ _ (altered_erased key (λ x. Some (from x)) (λ q. Some (to q)) (λ x. ap (λ (q : Property). Some q) (h x)) p.rows)))

-- it gets another value
pub write_does : (rule : Rule) (o : ℕ) (key : List ℕ) (need : Label) (v : Labelled Label) (heap : List (Object Label)) → Does erased_heap (plain.write o key v.value (erased_heap heap)) (acts.write rule o key need v heap)
write_does rule o key need v heap = act_on_does _ _ o heap (λ p e. change_does rule value_have (with_body need (Data v.value) v.label) (with_value v.value) key need p (λ s. refl))

-- the object with this number hasn't the key
abbrev pub HasNot : List (Object Label) → ℕ → List ℕ → Type 0
HasNot heap o key = (p : Object Label) → slice_get heap o ≡ Some p → own key p.rows ≡ None

-- an element at or above the `length` of an array raises that
stretched_does : (n : Option ℕ) (x : Option (Slot Label)) (need : Label) (p : Object Label) (rows : Rows (Slot Label)) (others : Rows Property) → erased_rows rows ≡ others
    → Does erased_object (plain.with_rows (erased_object p) (plain.stretched n (option_map erased_slot x) others)) (stretched n x need p rows)
stretched_does None x need p rows others e = rows_does p rows others e
stretched_does (Some i) None need p rows others e = rows_does p rows others e
stretched_does (Some i) (Some s) need p rows others e = by_case (is_past i s.body)
  where
    by_case : (b : Bool) → Does erased_object (plain.with_rows (erased_object p) (cond b (changed length_key (with_length (suc i)) others) others)) (cond b (under W2 need (value_have s) (Ok (acts.with_rows p (changed length_key (lengthened i need) rows)))) (Ok (acts.with_rows p rows)))
    by_case true = does_under W2 need (value_have s)
        (rows_does p _ _ (altered_erased length_key (λ x. Some (lengthened i need x)) (λ q. Some (with_length (suc i) q)) (λ x. refl) rows ∙ ap (changed length_key (with_length (suc i))) e))
    by_case false = rows_does p rows others e

-- a property is added that the object hasn't
pub add_does : (o : ℕ) (key : List ℕ) (need : Label) (body : Body) (label : Label) (marks : Marks) (heap : List (Object Label)) → HasNot heap o key
    → Does erased_heap (with_object o (with_added key (record { body = body; marks = marks })) (erased_heap heap)) (acts.add o key need body label marks heap)
add_does o key need body label marks heap absent = act_on_does _ _ o heap (λ p e. there p (absent p e))
  where
    there : (p : Object Label) → own key p.rows ≡ None → Does erased_object (with_added key (record { body = body; marks = marks }) (erased_object p)) (acts.add_own key need body label marks p)
    there p e =
        subst (λ x. Does erased_object (with_added key (record { body = body; marks = marks }) (erased_object p)) (add_absent x key need body label marks p)) (sym e)
        (does_under W3 need p.structure
        (subst (λ x. Does erased_object (plain.with_rows (erased_object p) (plain.stretched (element_of p.class key) x (with_row key (record { body = body; marks = marks }) (erased_rows p.rows))))
        (stretched (element_of p.class key) (own length_key p.rows) need p (with_row key (added need body label marks p.structure) p.rows))) (sym (own_erased length_key p.rows))
        (stretched_does (element_of p.class key) (own length_key p.rows) need p _ _ (with_row_erased key (added need body label marks p.structure) p.rows))))

-- an object can't be extended any more
pub prevent_does : (o : ℕ) (need : Label) (heap : List (Object Label)) → Does erased_heap (with_object o (λ p. record p { extensible = false }) (erased_heap heap)) (acts.prevent_extensions o need heap)
prevent_does o need heap = act_on_does _ (λ p. record p { extensible = false }) o heap (λ p e. does_under W7 need p.structure (does refl))

-- a property is removed
pub remove_does : (o : ℕ) (key : List ℕ) (need : Label) (heap : List (Object Label)) → Does erased_heap (plain.remove o key (erased_heap heap)) (acts.remove o key need heap)
remove_does o key need heap = act_on_does _ _ o heap (λ p e. on_slot_does key (λ q. None) p _ (λ s. does_under W4 need s.existence (does_under W5 need p.structure (rows_does p _ _ (altered_erased key (λ x. None) (λ q. None) (λ x. refl) p.rows)))))

-- labels are raised, which is nothing without them
pub raise_structure_does : (o : ℕ) (need label : Label) (heap : List (Object Label)) → Does erased_heap (erased_heap heap) (acts.raise_structure o need label heap)
raise_structure_does o need label heap =
    subst (λ h. Does erased_heap h (acts.raise_structure o need label heap)) (stays o (erased_heap heap)) (act_on_does _ (λ p. p) o heap (λ p e. does_under W7 need p.structure (does refl)))

pub raise_existence_does : (o : ℕ) (key : List ℕ) (need label : Label) (heap : List (Object Label)) → Does erased_heap (erased_heap heap) (acts.raise_existence o key need label heap)
raise_existence_does o key need label heap =
    subst (λ h. Does erased_heap h (acts.raise_existence o key need label heap)) (stays o (erased_heap heap)) (act_on_does _ (λ p. p) o heap (λ p e. there p))
  where
    there : (p : Object Label) → Does erased_object (erased_object p) (acts.raise_own_existence key need label p)
    there p =
        subst (λ rows. Does erased_object (plain.with_rows (erased_object p) rows) (acts.raise_own_existence key need label p)) (unchanged key (erased_rows p.rows))
        (change_does W8 existence_have (with_existence label) (λ q. q) key need p (λ s. refl))

-- ---- walks

abbrev pub erased_chain : List (ℕ × Object Label) → List (ℕ × PlainObject)
erased_chain [] = []
erased_chain (e ∷ objects) = (e.0, erased_object e.1) ∷ erased_chain objects

abbrev pub erased_found : Option (ℕ × Slot Label) → Option (ℕ × Property)
erased_found None = None
erased_found (Some f) = Some (f.0, erased_slot f.1)

-- the number of an object's prototype
abbrev proto_of : Object Label → Option ℕ
proto_of p = number_of p.proto

abbrev plain_proto_of : PlainObject → Option ℕ
plain_proto_of p = number_of p.proto

-- what begins at an object that there may be
onwards_erased : (o : Option ℕ) (f : ℕ → List (ℕ × Object Label)) (g : ℕ → List (ℕ × PlainObject)) → ((i : ℕ) → g i ≡ erased_chain (f i)) → onwards o g ≡ erased_chain (onwards o f)
onwards_erased None f g h = refl
onwards_erased (Some i) f g h = h i

beginning_erased : (i : ℕ) (o : Option (Object Label)) (f : ℕ → List (ℕ × Object Label)) (g : ℕ → List (ℕ × PlainObject)) → ((i : ℕ) → g i ≡ erased_chain (f i))
    → beginning i (option_map erased_object o) (λ p. onwards (plain_proto_of p) g) ≡ erased_chain (beginning i o (λ p. onwards (proto_of p) f))
beginning_erased i None f g h = refl
beginning_erased i (Some p) f g h = ap (λ (objects : List (ℕ × PlainObject)). (i, erased_object p) ∷ objects) (onwards_erased (proto_of p) f g h)

-- an object and so many of its prototypes
within_erased : (heap : List (Object Label)) (n i : ℕ) → chain_within plain_proto_of (erased_heap heap) n i ≡ erased_chain (chain_within proto_of heap n i)
within_erased heap zero i = refl
within_erased heap (suc n) i =
    ap (λ o. beginning i o (λ p. onwards (plain_proto_of p) (chain_within plain_proto_of (erased_heap heap) n))) (object_erased heap i)
    ∙ beginning_erased i (slice_get heap i) (chain_within proto_of heap n) (chain_within plain_proto_of (erased_heap heap) n) (within_erased heap n)

-- all of them
pub chain_erased : (heap : List (Object Label)) (o : ℕ) → plain_chain (erased_heap heap) o ≡ erased_chain (object_chain heap o)
chain_erased heap o = within_erased heap (suc o) o

-- what is found at an object, or behind it
found_here : (o : ℕ) (p : Object Label) (s : Option (Slot Label)) (rest : Found) → plain_found_at o (option_map erased_slot s) (erased_found rest.at) ≡ erased_found (found_at o p s rest).at
found_here o p None rest = refl
found_here o p (Some s) rest = refl

along_erased : (key : List ℕ) (objects : List (ℕ × Object Label)) → plain_find key (erased_chain objects) ≡ erased_found (find key objects).at
along_erased key [] = refl
along_erased key (e ∷ objects) = ap₂ (plain_found_at e.0) (own_erased key e.1.rows) (along_erased key objects) ∙ found_here e.0 e.1 (own key e.1.rows) (find key objects)

-- what a key names along an object and its prototypes
pub find_erased : (key : List ℕ) (heap : List (Object Label)) (o : ℕ) → plain_find key (plain_chain (erased_heap heap) o) ≡ erased_found (find key (object_chain heap o)).at
find_erased key heap o = ap (plain_find key) (chain_erased heap o) ∙ along_erased key (object_chain heap o)

-- along a prototype of a primitive value
from_erased : (heap : List (Object Label)) (o : Option ObjId) → chain_from (plain_chain (erased_heap heap)) o ≡ erased_chain (chain_from (object_chain heap) o)
from_erased heap None = refl
from_erased heap (Some o) = chain_erased heap o.0

pub found_along_erased : (key : List ℕ) (heap : List (Object Label)) (o : Option ObjId) → plain_find key (chain_from (plain_chain (erased_heap heap)) o) ≡ erased_found (find key (chain_from (object_chain heap) o)).at
found_along_erased key heap o = ap (plain_find key) (from_erased heap o) ∙ along_erased key (chain_from (object_chain heap) o)

-- the keys that weren't met
fresh_erased : (met : List (List ℕ)) (rows : Rows (Slot Label)) → plain.fresh_keys met (erased_rows rows) ≡ lists.fresh_keys met rows
fresh_erased met [] = refl
fresh_erased met (r ∷ rows) = ap (λ (keys : List (List ℕ)). cond (r.1.marks.enumerable && not (has_name r.0 met)) (r.0 ∷ keys) keys) (fresh_erased met rows)

keys_along : (met : List (List ℕ)) (objects : List (ℕ × Object Label)) → plain.keys_after met (erased_chain objects) ≡ (lists.keys_after met objects).keys
keys_along met [] = refl
keys_along met (e ∷ objects) =
    ap₂ (λ (keys more : List (List ℕ)). keys ++ more) (fresh_erased met e.1.rows)
    (ap (λ (keys : List (List ℕ)). plain.keys_after (met ++ keys) (erased_chain objects)) (keys_erased e.1.rows) ∙ keys_along (met ++ keys_of e.1.rows) objects)

-- those that `for in` takes
pub enumerable_erased : (heap : List (Object Label)) (o : ℕ) → plain.enumerable_keys (plain_chain (erased_heap heap) o) ≡ (lists.keys (object_chain heap o)).keys
enumerable_erased heap o = ap plain.enumerable_keys (chain_erased heap o) ∙ keys_along [] (object_chain heap o)

-- ---- what stands at a number on the way

-- the first object that has a key has that property
abbrev AtFound : List (Object Label) → List ℕ → Option (ℕ × Slot Label) → Type 0
AtFound heap key None = Unit {0}
AtFound heap key (Some f) = tracked.own_in key (slice_get heap f.0) ≡ Some f.1

-- each object of a chain stands at its number
data Stands (heap : List (Object Label)) : List (ℕ × Object Label) → Type 0 where
  none_stand : Stands heap []
  one_stands : {i : ℕ} {p : Object Label} {objects : List (ℕ × Object Label)} → slice_get heap i ≡ Some p → Stands heap objects → Stands heap ((i, p) ∷ objects)

onwards_stand : (heap : List (Object Label)) (o : Option ℕ) (f : ℕ → List (ℕ × Object Label)) → ((i : ℕ) → Stands heap (f i)) → Stands heap (onwards o f)
onwards_stand heap None f h = none_stand
onwards_stand heap (Some i) f h = h i

beginning_stands : (heap : List (Object Label)) (i : ℕ) (o : Option (Object Label)) (f : ℕ → List (ℕ × Object Label)) → slice_get heap i ≡ o → ((i : ℕ) → Stands heap (f i)) → Stands heap (beginning i o (λ p. onwards (proto_of p) f))
beginning_stands heap i None f e h = none_stand
beginning_stands heap i (Some p) f e h = one_stands e (onwards_stand heap (proto_of p) f h)

within_stands : (heap : List (Object Label)) (n i : ℕ) → Stands heap (chain_within proto_of heap n i)
within_stands heap zero i = none_stand
within_stands heap (suc n) i = beginning_stands heap i (slice_get heap i) (chain_within proto_of heap n) refl (within_stands heap n)

found_stands : (heap : List (Object Label)) (key : List ℕ) (i : ℕ) (p : Object Label) (s : Option (Slot Label)) (rest : Found) → slice_get heap i ≡ Some p → own key p.rows ≡ s → AtFound heap key rest.at → AtFound heap key (found_at i p s rest).at
found_stands heap key i p None rest e q h = h
found_stands heap key i p (Some s) rest e q h = ap (tracked.own_in key) e ∙ q

at_found : (heap : List (Object Label)) (key : List ℕ) {objects : List (ℕ × Object Label)} → Stands heap objects → AtFound heap key (find key objects).at
at_found heap key none_stand = tt
at_found heap key (one_stands {i = i} {p = p} {objects = objects} e h) = found_stands heap key i p (own key p.rows) (find key objects) e refl (at_found heap key h)

-- ---- what a put does

-- the property that the key names in the object with this number has this setter
pub record HasSetter (heap : List (Object Label)) (key : List ℕ) (at f : ObjId) : Type 0 where
  pub slot : Slot Label
  pub stands : tracked.own_in key (slice_get heap at.0) ≡ Some slot
  pub setter : setter_in slot.body ≡ Some f

-- the same without labels, where this holds of what is added, and that of a setter
pub data Plans (Absent : Type 0) (Calls : ObjId → ObjId → Type 0) : PutPlan Label → Plan → Type 0 where
  both_write : {walk : Label} → Plans Absent Calls (Write walk) writes
  both_add : {walk : Label} → Absent → Plans Absent Calls (Add walk) adds
  both_refuse : {walk : Label} → Plans Absent Calls (Refused walk) refuses
  both_call : {at f : ObjId} {walk : Label} → Calls at f → Plans Absent Calls (Setter at walk) (calls f)

module _ (heap : List (Object Label)) (key : List ℕ) where
  -- a setter that there may be
  setter_plans : {A : Type 0} (at : ℕ) (set : Option ObjId) (s : Slot Label) (label walk : Label) → tracked.own_in key (slice_get heap at) ≡ Some s → setter_in s.body ≡ set → Plans A (HasSetter heap key) (walks.setter_plan at set label walk) (plain.setter_plan set)
  setter_plans at None s label walk e q = both_refuse
  setter_plans at (Some f) s label walk e q = both_call (record { slot = s; stands = e; setter = q })

  -- what a property of the object allows
  own_plans : {A : Type 0} (o : ℕ) (s : Slot Label) (body : Body) (walk : Label) → tracked.own_in key (slice_get heap o) ≡ Some s → s.body ≡ body → Plans A (HasSetter heap key) (walks.own_plan o s body walk) (plain.own_plan (erased_slot s) body)
  own_plans {A} o s (Data v) walk e q = by_case s.marks.writable
    where
      by_case : (b : Bool) → Plans A (HasSetter heap key) (walks.if_allowed b (Write walk) walk) (plain.if_allowed b writes)
      by_case true = both_write
      by_case false = both_refuse
  own_plans o s (Accessor get set) walk e q = setter_plans o set s s.label walk e (ap setter_in q)

  -- a property may be added
  adding_plans : {A : Type 0} → A → (b : Bool) (walk : Label) → Plans A (HasSetter heap key) (walks.if_allowed b (Add walk) walk) (plain.if_allowed b adds)
  adding_plans a true walk = both_add a
  adding_plans a false walk = both_refuse

  -- what the prototypes allow
  inherited_plans : {A : Type 0} → A → (extensible : Bool) (at : ℕ) (s : Slot Label) (body : Body) (walk : Label) → tracked.own_in key (slice_get heap at) ≡ Some s → s.body ≡ body
      → Plans A (HasSetter heap key) (walks.inherited_plan extensible at s body walk) (plain.inherited_plan extensible (erased_slot s) body)
  inherited_plans a extensible at s (Data v) walk e q = adding_plans a (extensible && s.marks.writable) walk
  inherited_plans a extensible at s (Accessor get set) walk e q = setter_plans at set s s.label walk e (ap setter_in q)

  beyond_plans : {A : Type 0} → A → (extensible : Bool) (f : Option (ℕ × Slot Label)) (walk : Label) → AtFound heap key f → Plans A (HasSetter heap key) (walks.beyond_plan extensible f walk) (plain.beyond_plan extensible (erased_found f))
  beyond_plans a extensible None walk h = adding_plans a extensible walk
  beyond_plans a extensible (Some f) walk h = inherited_plans a extensible f.0 f.1 f.1.body walk h refl

  -- whether it may get a property of the key
  gets_erased : (n : Option ℕ) (x : Option (Slot Label)) → plain.gets_element n (option_map erased_slot x) ≡ walks.gets_element n x
  gets_erased None x = refl
  gets_erased (Some i) None = refl
  gets_erased (Some i) (Some s) = refl

  pub may_add_erased : (p : Object Label) → plain.may_add key (erased_object p) ≡ walks.may_add key p
  may_add_erased p = ap (λ b. p.extensible && b) (ap (plain.gets_element (element_of p.class key)) (own_erased length_key p.rows) ∙ gets_erased (element_of p.class key) (own length_key p.rows))

  -- the object, or its prototypes
  plans_at : {A : Type 0} (o : ℕ) (p : Object Label) (s : Option (Slot Label)) (rest : Found) → slice_get heap o ≡ Some p → own key p.rows ≡ s → AtFound heap key rest.at → (s ≡ None → A)
      → Plans A (HasSetter heap key) (walks.plan_at key o p s rest) (plain.plan_at key (erased_object p) (option_map erased_slot s) (erased_found rest.at))
  plans_at o p (Some s) rest e q f h = own_plans o s s.body s.existence (ap (tracked.own_in key) e ∙ q) refl
  plans_at {A} o p None rest e q f h =
      subst (λ b. Plans A (HasSetter heap key) (walks.plan_at key o p None rest) (plain.beyond_plan b (erased_found rest.at))) (sym (may_add_erased p)) (beyond_plans (h refl) (walks.may_add key p) rest.at _ f)

-- what a put on an object does: nothing is added that is there
pub can_put_erased : (key : List ℕ) (heap : List (Object Label)) (o : ℕ) → Plans (HasNot heap o key) (HasSetter heap key) (walks.can_put key (object_chain heap o)) (plain.can_put key (plain_chain (erased_heap heap) o))
can_put_erased key heap o =
    subst (λ c. Plans (HasNot heap o key) (HasSetter heap key) (walks.can_put key (object_chain heap o)) (plain.can_put key c)) (sym (chain_erased heap o)) (there (slice_get heap o) refl)
  where
    behind : Object Label → List (ℕ × Object Label)
    behind p = onwards (proto_of p) (chain_within proto_of heap o)

    there : (x : Option (Object Label)) → slice_get heap o ≡ x → Plans (HasNot heap o key) (HasSetter heap key) (walks.can_put key (beginning o x behind)) (plain.can_put key (erased_chain (beginning o x behind)))
    there None e = both_refuse
    there (Some p) e =
        subst (λ f. Plans (HasNot heap o key) (HasSetter heap key) (walks.can_put key ((o, p) ∷ behind p)) (plain.plan_at key (erased_object p) (own key (erased_rows p.rows)) f)) (sym (along_erased key (behind p)))
        (subst (λ s. Plans (HasNot heap o key) (HasSetter heap key) (walks.can_put key ((o, p) ∷ behind p)) (plain.plan_at key (erased_object p) s (erased_found (find key (behind p)).at))) (sym (own_erased key p.rows))
        (plans_at heap key o p (own key p.rows) (find key (behind p)) e refl (at_found heap key (onwards_stand heap (proto_of p) (chain_within proto_of heap o) (within_stands heap o)))
        (λ none q d. ap (λ (x : Object Label). own key x.rows) (same_Some q p (sym d ∙ e)) ∙ none)))

-- ---- the object of a literal

-- a key is given a property
defined_here : (x : Option (Slot Label)) (key : List ℕ) (s : Slot Label) (rows : Rows (Slot Label)) → erased_rows (defined_over x key s rows) ≡ defined_over (option_map erased_slot x) key (erased_slot s) (erased_rows rows)
defined_here None key s rows = with_row_erased key s rows
defined_here (Some t) key s rows = altered_erased key (λ x. Some s) (λ q. Some (erased_slot s)) (λ x. refl) rows

pub defined_erased : (key : List ℕ) (s : Slot Label) (rows : Rows (Slot Label)) → erased_rows (plain.defined key s rows) ≡ plain.defined key (erased_slot s) (erased_rows rows)
defined_erased key s rows = defined_here (own key rows) key s rows ∙ ap (λ x. defined_over x key (erased_slot s) (erased_rows rows)) (sym (own_erased key rows))

-- a part, which joins the other half of its property
pub property_is : (s : Option (Slot Label)) → property_in s ≡ option_map erased_slot s
property_is None = refl
property_is (Some s) = refl

part_erased : (label : Label) (part : Part) (key : List ℕ) (v : Val) (rows : Rows (Slot Label)) → erased_rows (labelled.with_part label part key v rows) ≡ requested.with_part part key v.value (erased_rows rows)
part_erased label part key v rows =
    defined_erased key (part_slot label part (own key rows) v) rows
    ∙ ap (λ old. defined key (record { body = part_body part old v.value; marks = part_marks part }) (erased_rows rows)) (property_is (own key rows) ∙ sym (own_erased key rows))

-- parts in turn
parts_erased : (label : Label) (parts : List (Part × List ℕ)) (vs : List Val) (rows : Rows (Slot Label))
    → erased_rows (labelled.with_parts label parts vs rows) ≡ requested.with_parts parts (map (λ v. v.value) vs) (erased_rows rows)
parts_erased label [] vs rows = refl
parts_erased label (part ∷ parts) [] rows = refl
parts_erased label (part ∷ parts) (v ∷ vs) rows =
    parts_erased label parts vs (labelled.with_part label part.0 part.1 v rows) ∙ ap (requested.with_parts parts (map (λ v. v.value) vs)) (part_erased label part.0 part.1 v rows)

-- the object
pub literal_erased : (parts : List (Part × List ℕ)) (vs : List Val) (label : Label) → erased_object (labelled.literal_object parts vs label) ≡ requested.literal_object parts (map (λ v. v.value) vs)
literal_erased parts vs label = ap (plain.with_rows (requested.literal_object [] [])) (parts_erased label parts vs [])

-- ---- arrays

-- their elements
elements_erased : (rows : Rows (Slot Label)) (ns : List ℕ) (ss : List (Slot Label)) → erased_rows (elements_onto rows ns ss) ≡ elements_onto (erased_rows rows) ns (map erased_slot ss)
elements_erased rows [] ss = refl
elements_erased rows (n ∷ ns) [] = refl
elements_erased rows (n ∷ ns) (s ∷ ss) = elements_erased (defined (element_key n) s rows) ns ss ∙ ap (λ (rs : Rows Property). elements_onto rs ns (map erased_slot ss)) (defined_erased (element_key n) s rows)

slots_erased : (label : Label) (vs : List Val) → map erased_slot (map (labelled.data_slot label) vs) ≡ map (λ v. property_with v made_by_script) (map (λ v. v.value) vs)
slots_erased label [] = refl
slots_erased label (v ∷ vs) = ap (λ (ps : List Property). property_with v.value made_by_script ∷ ps) (slots_erased label vs)

pub array_erased : (n : ℕ) (places : List ℕ) (vs : List Val) (label : Label) → erased_object (labelled.array_object n places vs label) ≡ requested.array_object n places (map (λ v. v.value) vs)
array_erased n places vs label =
    ap (λ (rs : Rows Property). plain.with_rows (requested.array_object 0 [] []) rs) (elements_erased ((length_key, labelled.made_slot label (length_property n)) ∷ []) places (map (labelled.data_slot label) vs) ∙ ap (λ (ss : List Property). elements_onto ((length_key, length_property n) ∷ []) places ss) (slots_erased label vs))

-- the highest element
abbrev pub erased_element : Option (ℕ × Slot Label) → Option (ℕ × Property)
erased_element None = None
erased_element (Some e) = Some (e.0, erased_slot e.1)

higher_erased : (n : ℕ) (i : Option ℕ) (s : Slot Label) (rest : Option (ℕ × Slot Label)) → higher_if n i (erased_slot s) (erased_element rest) ≡ erased_element (higher_if n i s rest)
higher_erased n None s rest = refl
higher_erased n (Some i) s None = by_test (nat_le n i)
  where
    by_test : (b : Bool) → cond b (Some (i, erased_slot s)) None ≡ erased_element (cond b (Some (i, s)) None)
    by_test true = refl
    by_test false = refl
higher_erased n (Some i) s (Some e) = by_test (nat_le n i) (nat_lt e.0 i)
  where
    by_test : (b c : Bool) → cond b (cond c (Some (i, erased_slot s)) (Some (e.0, erased_slot e.1))) (Some (e.0, erased_slot e.1)) ≡ erased_element (cond b (cond c (Some (i, s)) (Some e)) (Some e))
    by_test true true = refl
    by_test true false = refl
    by_test false c = refl

pub highest_erased : (n : ℕ) (rows : Rows (Slot Label)) → highest n (erased_rows rows) ≡ erased_element (highest n rows)
highest_erased n [] = refl
highest_erased n (r ∷ rows) = ap (higher_if n (index_of r.0) (erased_slot r.1)) (highest_erased n rows) ∙ higher_erased n (index_of r.0) r.1 (highest n rows)

pub rows_length : (rows : Rows (Slot Label)) → length (erased_rows rows) ≡ length rows
rows_length [] = refl
rows_length (r ∷ rows) = ap suc (rows_length rows)

-- ---- bound functions

abbrev pub values_of : List Val → List Value
values_of vs = map (λ v. v.value) vs

values_erased : (vs : List Val) → erased_values vs ≡ values_of vs
values_erased [] = refl
values_erased (v ∷ vs) = ap (λ us. v.value ∷ us) (values_erased vs)

pub values_length : (vs : List Val) → length (values_of vs) ≡ length vs
values_length [] = refl
values_length (v ∷ vs) = ap suc (values_length vs)

pub values_appended : (vs us : List Val) → values_of (vs ++ us) ≡ values_of vs ++ values_of us
values_appended [] us = refl
values_appended (v ∷ vs) us = ap (λ xs. v.value ∷ xs) (values_appended vs us)

-- what they come to
abbrev pub erased_target : Target Val → Target Value
erased_target target = record { function = target.function; this = option_map (λ v. v.value) target.this; args = values_of target.args }

pub this_erased : (kept : Option Val) (this : Val) → this_or (option_map (λ v. v.value) kept) this.value ≡ (this_or kept this).value
this_erased None this = refl
this_erased (Some kept) this = refl

behind_target : (this : Val) (args : List Val) (rest : Target Val) → bound_behind this.value (values_of args) (erased_target rest) ≡ erased_target (bound_behind this args rest)
behind_target this args rest = ap₂ (λ base us. record { function = rest.function; this = Some base; args = us }) (this_erased rest.this this) (sym (values_appended rest.args args))

aim_behind_erased : (f : ℕ → Aim) (g : ℕ → Target Value) → ((o : ℕ) → g o ≡ erased_target (f o).target) → (o : ℕ) (inner : Inner Label) → requested.target_behind g o (erased_inner inner) ≡ erased_target (labelled.aim_behind f o inner).target
aim_behind_erased f g h o Plain = refl
aim_behind_erased f g h o (Script function place) = refl
aim_behind_erased f g h o (Native which) = refl
aim_behind_erased f g h o (Bound target label this args) = ap₂ (λ us rest. bound_behind this.value us rest) (values_erased args) (h target.0) ∙ behind_target this args (f target.0).target

aim_in_erased : (f : ℕ → Aim) (g : ℕ → Target Value) → ((o : ℕ) → g o ≡ erased_target (f o).target) → (o : ℕ) (p : Option (Object Label)) → requested.target_in g o (option_map erased_object p) ≡ erased_target (labelled.aim_in f o p).target
aim_in_erased f g h o None = refl
aim_in_erased f g h o (Some p) = aim_behind_erased f g h o p.inner

aim_within_erased : (heap : List (Object Label)) (n o : ℕ) → requested.target_within (erased_heap heap) n o ≡ erased_target (labelled.aim_within heap n o).target
aim_within_erased heap zero o = refl
aim_within_erased heap (suc n) o =
    ap (requested.target_in (requested.target_within (erased_heap heap) n) o) (object_erased heap o) ∙ aim_in_erased (labelled.aim_within heap n) (requested.target_within (erased_heap heap) n) (aim_within_erased heap n) o (slice_get heap o)

pub aim_erased : (heap : List (Object Label)) (o : ℕ) → requested.target_of (erased_heap heap) o ≡ erased_target (labelled.aim_of heap o).target
aim_erased heap o = aim_within_erased heap (suc o) o

-- ---- the start

-- what is made in a context has no label of its own without labels
values_made : (label : Label) (vs : List Value) → erased_values (labelled_values label vs) ≡ vs
values_made label [] = refl
values_made label (v ∷ vs) = ap (λ xs. v ∷ xs) (values_made label vs)

inner_made : (label : Label) (inner : PlainInner) → erased_inner (made_inner label inner) ≡ inner
inner_made label plain_inner = refl
inner_made label (script number place) = refl
inner_made label (native which) = refl
inner_made label (bound target this args) = ap (bound target this) (values_made label args)

pub rows_made : (label : Label) (rows : Rows Property) → erased_rows (made_rows label rows) ≡ rows
rows_made label [] = refl
rows_made label (r ∷ rows) = ap (λ (rs : Rows Property). r ∷ rs) (rows_made label rows)

pub object_made : (label : Label) (p : PlainObject) → erased_object (made_object label p) ≡ p
object_made label p = ap₂ (λ inner rows. record p { inner = inner; rows = rows }) (inner_made label p.inner) (rows_made label p.rows)

pub objects_made : (label : Label) (objects : List PlainObject) → erased_heap (made_objects label objects) ≡ objects
objects_made label [] = refl
objects_made label (p ∷ objects) = ap₂ (λ q ps. q ∷ ps) (object_made label p) (objects_made label objects)

-- a bound function that is made
pub bound_erased : (target : ObjId) (given : Label) (this : Val) (args : List Val) (known : Label) (count : ℕ) (label : Label) → erased_object (labelled.bound_object target given this args known count label) ≡ requested.bound_object target this.value (values_of args) count
bound_erased target given this args known count label =
    ap₂ (λ us (rows : Rows Property). record (requested.bound_object target this.value us count) { rows = (codes "length", count_property count) ∷ rows }) (values_erased args) (rows_made label function_rows)

-- further properties
pub rows_appended : (rows more : Rows (Slot Label)) → erased_rows (rows ++ more) ≡ erased_rows rows ++ erased_rows more
rows_appended [] more = refl
rows_appended (r ∷ rows) more = ap (λ (rs : Rows Property). (r.0, erased_slot r.1) ∷ rs) (rows_appended rows more)

-- further objects
pub appended_erased : (heap objects : List (Object Label)) → erased_heap (heap ++ objects) ≡ erased_heap heap ++ erased_heap objects
appended_erased [] objects = refl
appended_erased (p ∷ heap) objects = ap (λ ps. erased_object p ∷ ps) (appended_erased heap objects)

-- the objects that a run starts with
-- with their labels, and without
pub first_heap_erased : (set : BuiltIns) (program : Statements) → erased_heap (unlabelled_heap (first_heap set program)) ≡ first_heap set program
first_heap_erased set program = objects_made bottom (first_heap set program)
