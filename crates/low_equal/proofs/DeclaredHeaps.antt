-- Heaps of which each label speaks of declared origins alone, and what acts and walks make of them.
use Rattle.std.proofs.Common.{ℕ, zero, suc, Bool, true, false, ◌&&◌, cond, nat_eq, nat_le, nat_lt, List, [], ◌∷◌, map, Option, Some, None, Ok, Err, slice_get, set}
use Rattle.origin_labels.specs.Label.{Label, union, within}
use Rattle.origin_labels.specs.Names.{same_name}
use Rattle.flow_frames.specs.declared.faults.Rule.{Rule}
use Rattle.flow_frames.specs.declared.faults.Rule.TheVariants.{W2, W3, W4, W5, W7}
use Rattle.js_values.specs.declared.value.Labelled.{Labelled}
use Rattle.js_values.specs.declared.ids.ObjId.{ObjId}
use Rattle.js_values.specs.declared.property.Body.{Body}
use Rattle.js_values.specs.declared.property.Body.TheVariants.{Data, Accessor}
use Rattle.js_values.specs.declared.property.Marks.{Marks}
use Rattle.js_values.specs.declared.property.Slot.{Slot}
use Rattle.js_values.specs.Chains.{chain_within, beginning, onwards}
use Rattle.js_values.specs.declared.inner.Inner.{Inner}
use Rattle.js_values.specs.declared.inner.Inner.TheVariants.{Plain, Script, Native, Bound}
use Rattle.js_values.specs.Objects.{Rows, Property, PlainInner, plain, script, native, bound, PlainObject, Object, own, row_or_none, altered, number_of}
use Rattle.js_values.specs.Walks.{Found, found_at, find, object_chain}
use Rattle.js_values.specs.Arrays.{element_of, element_label, element_key, highest, higher_if, length_key, is_past}
use Rattle.js_values.specs.Numerals.{index_of}
use Rattle.prototype_walk.specs.KeyLists.{rows_in}
use Rattle.object_heap.specs.Acts.{Acted, under, on_slot, change, with_rows, lengthened, stretched, add_absent, put_back, on_object, act_on, write, set_body, set_attributes, raise_existence, add, remove, raise_structure, prevent_extensions}
use Rattle.prototype_walk.specs.declared.plan.PutPlan.{PutPlan}
use Rattle.prototype_walk.specs.declared.plan.PutPlan.TheVariants.{Write, Add}
use Rattle.prototype_walk.specs.Answers.{walk_of}
use Rattle.prototype_walk.specs.Plans.{if_allowed, setter_plan, own_plan, inherited_plan, beyond_plan, may_add, absence_label, plan_at, can_put}
use Rattle.prototype_walk.specs.KeyLists.{existences, keys_after, keys}
use Rattle.es_meaning.specs.Operations.{Part, as_value, as_getter, as_setter, OwnPart, own_marks, own_value, own_getter, own_setter}
use Rattle.es_meaning.specs.Objects.{defined, defined_over, elements_onto}
use Rattle.es_meaning.specs.Functions.{this_or, elements_down, accessor_rows, made_if}
use Rattle.es_meaning.specs.Start.{function_rows}
use Rattle.flow_meaning.specs.Erased.{made_inner, made_rows, made_object, made_objects}
use Rattle.flow_meaning.specs.Scopes.{Val}
use Rattle.flow_meaning.specs.Requested.{data_slot, half_label, with_part, with_parts, arguments_object, array_object, definition_test, own_test, own_walk, part_label, known_of, value_label, body_label, length_name, own_label, length_label, bound_object, Aim, aim_behind, aim_in, aim_within, aim_of}
use Rattle.flow_meaning.specs.Tracked.{linked_from, linked_beyond, linked}
use Rattle.low_equal.proofs.DeclaredLabels.{Each, IfThere, each_push, each_append, each_at, Own, own_bottom, own_union}
use Rattle.low_equal.proofs.DeclaredRecords.{own_labelled}

module _ (count : ℕ) where
  -- ---- properties and objects

  -- the value label and the existence label
  abbrev pub OwnSlot : Slot Label → Type 0
  OwnSlot s = Own count s.label × Own count s.existence

  abbrev pub OwnRows : Rows (Slot Label) → Type 0
  OwnRows rows = Each (λ r. OwnSlot r.1) rows

  abbrev pub OwnVal : Val → Type 0
  OwnVal v = Own count v.label

  -- the labels with which a bound function knows its target, its `this` and its arguments
  abbrev pub OwnInner : Inner Label → Type 0
  OwnInner Plain = Unit {0}
  OwnInner (Script function place) = Unit {0}
  OwnInner (Native which) = Unit {0}
  OwnInner (Bound target label this args) = Own count label × OwnVal this × Each OwnVal args

  pub record OwnObject (p : Object Label) : Type 0 where
    pub link : Own count p.link
    pub structure : Own count p.structure
    pub inner : OwnInner p.inner
    pub rows : OwnRows p.rows

  abbrev pub OwnHeap : List (Object Label) → Type 0
  OwnHeap heap = Each OwnObject heap

  -- what a key names
  pub own_own : (key : List ℕ) (rows : Rows (Slot Label)) → OwnRows rows → IfThere OwnSlot (own key rows)
  own_own key [] h = tt
  own_own key (r ∷ rows) h = by_case (same_name r.0 key) (own_own key rows h.1)
    where
      by_case : (c : Bool) → IfThere OwnSlot (own key rows) → IfThere OwnSlot (cond c (Some r.1) (own key rows))
      by_case true q = h.0
      by_case false q = q

  -- a property is changed or taken away
  own_or_none : (key : List ℕ) (o : Option (Slot Label)) (rows : Rows (Slot Label)) → IfThere OwnSlot o → OwnRows rows → OwnRows (row_or_none key o rows)
  own_or_none key None rows q h = h
  own_or_none key (Some s) rows q h = (q, h)

  own_altered : (key : List ℕ) (new : Slot Label → Option (Slot Label)) → ((s : Slot Label) → OwnSlot s → IfThere OwnSlot (new s)) → (rows : Rows (Slot Label)) → OwnRows rows → OwnRows (altered key new rows)
  own_altered key new f [] h = tt
  own_altered key new f (r ∷ rows) h = by_case (same_name r.0 key) (own_altered key new f rows h.1)
    where
      by_case : (c : Bool) → OwnRows (altered key new rows) → OwnRows (cond c (row_or_none r.0 (new r.1) rows) (r ∷ altered key new rows))
      by_case true q = own_or_none r.0 (new r.1) rows (f r.1 h.0) h.1
      by_case false q = (h.0, q)

  -- keys are given properties
  own_defined_over : (o : Option (Slot Label)) (key : List ℕ) (s : Slot Label) (rows : Rows (Slot Label)) → OwnSlot s → OwnRows rows → OwnRows (defined_over o key s rows)
  own_defined_over None key s rows q h = each_push (λ r. OwnSlot r.1) rows (key, s) h q
  own_defined_over (Some t) key s rows q h = own_altered key (λ t. Some s) (λ t p. q) rows h

  -- a part of a literal, which joins the other half of its property
  own_half : (part : Part) (old : Option (Slot Label)) → IfThere OwnSlot old → Own count (half_label part old)
  own_half as_value old h = own_bottom count
  own_half as_getter None h = own_bottom count
  own_half as_getter (Some s) h = h.0
  own_half as_setter None h = own_bottom count
  own_half as_setter (Some s) h = h.0

  own_part : (label : Label) (part : Part) (key : List ℕ) (v : Val) (rows : Rows (Slot Label)) → Own count label → OwnVal v → OwnRows rows → OwnRows (with_part label part key v rows)
  own_part label part key v rows q k h =
      let old = own_own key rows h in
      own_defined_over (own key rows) key _ rows (own_union count _ _ (own_union count v.label label k q) (own_half part (own key rows) old), q) h

  -- the properties of a literal
  pub own_parts : (label : Label) (parts : List (Part × List ℕ)) (vs : List Val) (rows : Rows (Slot Label)) → Own count label → Each OwnVal vs → OwnRows rows → OwnRows (with_parts label parts vs rows)
  own_parts label [] vs rows q k h = h
  own_parts label (part ∷ parts) [] rows q k h = h
  own_parts label (part ∷ parts) (v ∷ vs) rows q k h = own_parts label parts vs (with_part label part.0 part.1 v rows) q k.1 (own_part label part.0 part.1 v rows q k.0 h)

  -- ---- what is made in a context

  -- properties
  pub own_made_rows : (label : Label) (rows : Rows Property) → Own count label → OwnRows (made_rows label rows)
  own_made_rows label [] q = tt
  own_made_rows label (r ∷ rows) q = ((q, q), own_made_rows label rows q)

  -- bound functions
  own_made_inner : (label : Label) (inner : PlainInner) → Own count label → OwnInner (made_inner label inner)
  own_made_inner label plain q = tt
  own_made_inner label (script function place) q = tt
  own_made_inner label (native which) q = tt
  own_made_inner label (bound target this args) q = (q, q, own_labelled count label args q)

  -- objects
  pub own_made_object : (label : Label) (p : PlainObject) → Own count label → OwnObject (made_object label p)
  own_made_object label p q = record { link = q; structure = q; inner = own_made_inner label p.inner q; rows = own_made_rows label p.rows q }

  pub own_made : (label : Label) (objects : List PlainObject) → Own count label → OwnHeap (made_objects label objects)
  own_made label [] q = tt
  own_made label (p ∷ objects) q = (own_made_object label p q, own_made label objects q)

  -- properties with values
  pub own_slots : (label : Label) (vs : List Val) → Own count label → Each (λ v. Own count v.label) vs → Each OwnSlot (map (data_slot label) vs)
  own_slots label [] q h = tt
  own_slots label (v ∷ vs) q h = ((own_union count v.label label h.0 q, q), own_slots label vs q h.1)

  -- the properties of an `arguments` object
  own_elements : (rows : Rows (Slot Label)) (n : ℕ) (slots : List (Slot Label)) → OwnRows rows → Each OwnSlot slots → OwnRows (elements_down rows n slots)
  own_elements rows n [] r h = r
  own_elements rows n (s ∷ slots) r h = own_defined_over _ _ s (elements_down rows (suc n) slots) h.0 (own_elements rows (suc n) slots r h.1)

  -- an array of a literal
  own_element_rows : (ns : List ℕ) (slots : List (Slot Label)) (rows : Rows (Slot Label)) → OwnRows rows → Each OwnSlot slots → OwnRows (elements_onto rows ns slots)
  own_element_rows [] slots rows r h = r
  own_element_rows (n ∷ ns) [] rows r h = r
  own_element_rows (n ∷ ns) (s ∷ slots) rows r h = own_element_rows ns slots (defined (element_key n) s rows) (own_defined_over (own (element_key n) rows) (element_key n) s rows h.0 r) h.1

  pub own_array_object : (n : ℕ) (places : List ℕ) (vs : List Val) (label : Label) → Own count label → Each (λ v. Own count v.label) vs → OwnObject (array_object n places vs label)
  own_array_object n places vs label q h = record { link = q; structure = q; inner = tt; rows = own_element_rows places _ _ ((q, q), tt) (own_slots label vs q h) }

  -- that object
  pub own_arguments_object : (number place : ℕ) (args : List Val) (label : Label) → Own count label → Each (λ v. Own count v.label) args → OwnObject (arguments_object number place args label)
  own_arguments_object number place args label q h = record { link = q; structure = q; inner = tt; rows = each_append (λ r. OwnSlot r.1) _ _ (own_elements _ 0 _ ((q, q), tt) (own_slots label args q h)) (own_made_rows label accessor_rows q) }

  -- one that is made where something is so
  pub own_made_if : (b : Bool) (p : Object Label) → OwnObject p → OwnHeap (made_if b p)
  own_made_if true p h = (h, tt)
  own_made_if false p h = tt

  -- ---- acts

  -- what an act comes to
  abbrev pub OwnActed : {X : Type 0} → (X → Type 0) → Acted X → Type 0
  OwnActed Q (Ok x) = Q x
  OwnActed Q (Err stop) = Own count stop.need × Own count stop.have

  own_under : {X : Type 0} (Q : X → Type 0) (rule : Rule) (need have : Label) (a : Acted X) → Own count need → Own count have → OwnActed Q a → OwnActed Q (under rule need have a)
  own_under Q rule need have a p q h = by_case (within need have)
    where
      by_case : (b : Bool) → OwnActed Q (cond b a (Err (record { rule = rule; need = need; have = have })))
      by_case true = h
      by_case false = (p, q)

  own_on_slot : (o : Option (Slot Label)) (p : Object Label) (act : Slot Label → Acted (Object Label)) → IfThere OwnSlot o → OwnObject p → ((s : Slot Label) → OwnSlot s → OwnActed OwnObject (act s)) → OwnActed OwnObject (on_slot o p act)
  own_on_slot None p act q h f = h
  own_on_slot (Some s) p act q h f = f s q

  own_change : (rule : Rule) (have : Slot Label → Label) (new : Slot Label → Slot Label) (key : List ℕ) (need : Label) (p : Object Label) → Own count need → ((s : Slot Label) → OwnSlot s → Own count (have s)) → ((s : Slot Label) → OwnSlot s → OwnSlot (new s))
      → OwnObject p → OwnActed OwnObject (change rule have new key need p)
  own_change rule have new key need p q f g h = own_on_slot (own key p.rows) p _ (own_own key p.rows h.rows) h
      (λ s k. own_under OwnObject rule need (have s) _ q (f s k) (record { link = h.link; structure = h.structure; inner = h.inner; rows = own_altered key (λ t. Some (new t)) g p.rows h.rows }))

  -- an object in a heap
  each_put : (heap : List (Object Label)) (o : ℕ) (p : Object Label) → OwnHeap heap → OwnObject p → OwnHeap (set heap o p)
  each_put [] o p h q = tt
  each_put (x ∷ heap) zero p h q = (q, h.1)
  each_put (x ∷ heap) (suc o) p h q = (h.0, each_put heap o p h.1 q)

  own_put_back : (heap : List (Object Label)) (o : ℕ) (a : Acted (Object Label)) → OwnHeap heap → OwnActed OwnObject a → OwnActed OwnHeap (put_back heap o a)
  own_put_back heap o (Ok p) h q = each_put heap o p h q
  own_put_back heap o (Err stop) h q = q

  own_on_object : (found : Option (Object Label)) (heap : List (Object Label)) (o : ℕ) (act : Object Label → Acted (Object Label)) → IfThere OwnObject found → OwnHeap heap → ((p : Object Label) → OwnObject p → OwnActed OwnObject (act p))
      → OwnActed OwnHeap (on_object found heap o act)
  own_on_object None heap o act q h f = h
  own_on_object (Some p) heap o act q h f = own_put_back heap o (act p) h (f p q)

  own_act : (o : ℕ) (act : Object Label → Acted (Object Label)) (heap : List (Object Label)) → OwnHeap heap → ((p : Object Label) → OwnObject p → OwnActed OwnObject (act p)) → OwnActed OwnHeap (act_on o act heap)
  own_act o act heap h f = own_on_object (slice_get heap o) heap o act (each_at OwnObject heap o h) h f

  pub own_write : (rule : Rule) (o : ℕ) (key : List ℕ) (need : Label) (v : Labelled Label) (heap : List (Object Label)) → Own count need → Own count v.label → OwnHeap heap → OwnActed OwnHeap (write rule o key need v heap)
  own_write rule o key need v heap q k h = own_act o _ heap h (λ p r. own_change rule _ _ key need p q (λ s t. own_union count s.label s.existence t.0 t.1) (λ s t. (own_union count v.label need k q, t.1)) r)

  pub own_set_body : (o : ℕ) (key : List ℕ) (need : Label) (body : Body) (label : Label) (heap : List (Object Label)) → Own count need → Own count label → OwnHeap heap → OwnActed OwnHeap (set_body o key need body label heap)
  own_set_body o key need body label heap q k h = own_act o _ heap h (λ p r. own_change _ _ _ key need p q (λ s t. own_union count s.label s.existence t.0 t.1) (λ s t. (own_union count label need k q, t.1)) r)

  pub own_set_attributes : (o : ℕ) (key : List ℕ) (need : Label) (marks : Marks) (heap : List (Object Label)) → Own count need → OwnHeap heap → OwnActed OwnHeap (set_attributes o key need marks heap)
  own_set_attributes o key need marks heap q h = own_act o _ heap h (λ p r. own_change _ _ _ key need p q (λ s t. t.1) (λ s t. t) r)

  pub own_prevent : (o : ℕ) (need : Label) (heap : List (Object Label)) → Own count need → OwnHeap heap → OwnActed OwnHeap (prevent_extensions o need heap)
  own_prevent o need heap q h = own_act o _ heap h (λ p r. own_under OwnObject W7 need p.structure _ q r.structure (record { link = r.link; structure = r.structure; inner = r.inner; rows = r.rows }))

  pub own_raise_existence : (o : ℕ) (key : List ℕ) (need label : Label) (heap : List (Object Label)) → Own count need → Own count label → OwnHeap heap → OwnActed OwnHeap (raise_existence o key need label heap)
  own_raise_existence o key need label heap q k h = own_act o _ heap h (λ p r. own_change _ _ _ key need p q (λ s t. t.1) (λ s t. (t.0, own_union count s.existence label t.1 k)) r)

  pub own_raise_structure : (o : ℕ) (need label : Label) (heap : List (Object Label)) → Own count need → Own count label → OwnHeap heap → OwnActed OwnHeap (raise_structure o need label heap)
  own_raise_structure o need label heap q k h = own_act o _ heap h (λ p r. own_under OwnObject W7 need p.structure _ q r.structure (record { link = r.link; structure = own_union count p.structure label r.structure k; inner = r.inner; rows = r.rows }))

  pub own_remove : (o : ℕ) (key : List ℕ) (need : Label) (heap : List (Object Label)) → Own count need → OwnHeap heap → OwnActed OwnHeap (remove o key need heap)
  own_remove o key need heap q h = own_act o _ heap h (λ p r. own_on_slot (own key p.rows) p _ (own_own key p.rows r.rows) r
      (λ s t. own_under OwnObject W4 need s.existence _ q t.1 (own_under OwnObject W5 need p.structure _ q r.structure (record { link = r.link; structure = r.structure; inner = r.inner; rows = own_altered key (λ t. None) (λ t u. tt) p.rows r.rows }))))

  -- an added property, and the `length` of an array
  own_stretched : (i : Option ℕ) (length : Option (Slot Label)) (need : Label) (p : Object Label) (rows : Rows (Slot Label)) → Own count need → IfThere OwnSlot length → OwnObject p → OwnRows rows → OwnActed OwnObject (stretched i length need p rows)
  own_stretched None length need p rows q k h r = record { link = h.link; structure = h.structure; inner = h.inner; rows = r }
  own_stretched (Some i) None need p rows q k h r = record { link = h.link; structure = h.structure; inner = h.inner; rows = r }
  own_stretched (Some i) (Some s) need p rows q k h r = by_case (is_past i s.body)
    where
      longer : OwnObject (with_rows p (altered length_key (λ t. Some (lengthened i need t)) rows))
      longer = record { link = h.link; structure = h.structure; inner = h.inner; rows = own_altered length_key (λ t. Some (lengthened i need t)) (λ t u. (own_union count t.label need u.0 q, u.1)) rows r }

      by_case : (b : Bool) → OwnActed OwnObject (cond b (under W2 need (union s.label s.existence) (Ok (with_rows p (altered length_key (λ t. Some (lengthened i need t)) rows)))) (Ok (with_rows p rows)))
      by_case true = own_under OwnObject W2 need _ _ q (own_union count s.label s.existence k.0 k.1) longer
      by_case false = record { link = h.link; structure = h.structure; inner = h.inner; rows = r }

  own_add_absent : (o : Option (Slot Label)) (key : List ℕ) (need : Label) (body : Body) (label : Label) (marks : Marks) (p : Object Label) → Own count need → Own count label → OwnObject p → OwnActed OwnObject (add_absent o key need body label marks p)
  own_add_absent (Some s) key need body label marks p q k h = h
  own_add_absent None key need body label marks p q k h = own_under OwnObject W3 need p.structure _ q h.structure
      (own_stretched (element_of p.class key) (own length_key p.rows) need p _ q (own_own length_key p.rows h.rows) h (each_push (λ r. OwnSlot r.1) p.rows _ h.rows (own_union count label need k q, h.structure)))

  pub own_add : (o : ℕ) (key : List ℕ) (need : Label) (body : Body) (label : Label) (marks : Marks) (heap : List (Object Label)) → Own count need → Own count label → OwnHeap heap → OwnActed OwnHeap (add o key need body label marks heap)
  own_add o key need body label marks heap q k h = own_act o _ heap h (λ p r. own_add_absent (own key p.rows) key need body label marks p q k r)

  -- ---- walks

  abbrev pub OwnChain : List (ℕ × Object Label) → Type 0
  OwnChain objects = Each (λ e. OwnObject e.1) objects

  own_onwards : (i : Option ℕ) (behind : ℕ → List (ℕ × Object Label)) → ((j : ℕ) → OwnChain (behind j)) → OwnChain (onwards i behind)
  own_onwards None behind h = tt
  own_onwards (Some i) behind h = h i

  own_beginning : (o : ℕ) (p : Option (Object Label)) (behind : ℕ → List (ℕ × Object Label)) → IfThere OwnObject p → ((j : ℕ) → OwnChain (behind j)) → OwnChain (beginning o p (λ p. onwards (number_of p.proto) behind))
  own_beginning o None behind q h = tt
  own_beginning o (Some p) behind q h = (q, own_onwards (number_of p.proto) behind h)

  own_chain_within : (heap : List (Object Label)) (n o : ℕ) → OwnHeap heap → OwnChain (chain_within (λ p. number_of p.proto) heap n o)
  own_chain_within heap zero o h = tt
  own_chain_within heap (suc n) o h = own_beginning o (slice_get heap o) _ (each_at OwnObject heap o h) (λ j. own_chain_within heap n j h)

  pub own_chain : (heap : List (Object Label)) (o : ℕ) → OwnHeap heap → OwnChain (object_chain heap o)
  own_chain heap o h = own_chain_within heap (suc o) o h

  -- the links of an object and its prototypes
  own_linked_from : (proto : ℕ) (link : Label) (chain : List (ℕ × Object Label)) → Own count link → OwnChain chain → Own count (linked_from proto link chain).links
  own_linked_from proto link [] q h = q
  own_linked_from proto link (e ∷ chain) q h = by_case (nat_eq e.0 proto) (own_linked_from proto e.1.link chain h.0.link h.1)
    where
      by_case : (b : Bool) → Own count (linked_from proto e.1.link chain).links → Own count (cond b (record { is = true; links = link }) (linked_beyond link (linked_from proto e.1.link chain))).links
      by_case true p = q
      by_case false p = own_union count link _ q p

  -- from the object on
  pub own_linked : (proto : ℕ) (chain : List (ℕ × Object Label)) → OwnChain chain → Own count (linked proto chain).links
  own_linked proto [] h = own_bottom count
  own_linked proto (e ∷ chain) h = own_linked_from proto e.1.link chain h.0.link h.1

  -- what is found, and the walk to it
  pub record OwnFound (f : Found) : Type 0 where
    pub walk : Own count f.walk
    pub at : IfThere (λ x. OwnSlot x.1) f.at

  own_found_at : (o : ℕ) (p : Object Label) (s : Option (Slot Label)) (rest : Found) → OwnObject p → IfThere OwnSlot s → OwnFound rest → OwnFound (found_at o p s rest)
  own_found_at o p None rest h q r = record { walk = own_union count p.structure _ h.structure (own_union count p.link rest.walk h.link r.walk); at = r.at }
  own_found_at o p (Some s) rest h q r = record { walk = q.1; at = q }

  pub own_find : (key : List ℕ) (objects : List (ℕ × Object Label)) → OwnChain objects → OwnFound (find key objects)
  own_find key [] h = record { walk = own_bottom count; at = tt }
  own_find key (e ∷ objects) h = own_found_at e.0 e.1 (own key e.1.rows) (find key objects) h.0 (own_own key e.1.rows h.0.rows) (own_find key objects h.1)

  -- what a put does
  own_allowed : (b : Bool) (plan : PutPlan Label) (walk : Label) → Own count (walk_of plan) → Own count walk → Own count (walk_of (if_allowed b plan walk))
  own_allowed true plan walk q k = q
  own_allowed false plan walk q k = k

  own_setter_plan : (at : ℕ) (f : Option ObjId) (label walk : Label) → Own count label → Own count walk → Own count (walk_of (setter_plan at f label walk))
  own_setter_plan at None label walk q k = own_union count walk label k q
  own_setter_plan at (Some f) label walk q k = k

  own_own_plan : (o : ℕ) (s : Slot Label) (body : Body) (walk : Label) → OwnSlot s → Own count walk → Own count (walk_of (own_plan o s body walk))
  own_own_plan o s (Data v) walk q k = own_allowed s.marks.writable (Write walk) walk k k
  own_own_plan o s (Accessor get set) walk q k = own_setter_plan o set s.label walk q.0 k

  own_inherited : (b : Bool) (at : ℕ) (s : Slot Label) (body : Body) (walk : Label) → OwnSlot s → Own count walk → Own count (walk_of (inherited_plan b at s body walk))
  own_inherited b at s (Data v) walk q k = own_allowed (b && s.marks.writable) (Add walk) walk k k
  own_inherited b at s (Accessor get set) walk q k = own_setter_plan at set s.label walk q.0 k

  own_beyond : (b : Bool) (f : Option (ℕ × Slot Label)) (walk : Label) → IfThere (λ x. OwnSlot x.1) f → Own count walk → Own count (walk_of (beyond_plan b f walk))
  own_beyond b None walk q k = own_allowed b (Add walk) walk k k
  own_beyond b (Some f) walk q k = own_inherited b f.0 f.1 f.1.body walk q k

  -- an element that isn't there depends on the `length` too
  own_marked : (b : Bool) (s : Slot Label) → OwnSlot s → Own count (cond b s.existence (union s.existence s.label))
  own_marked true s h = h.1
  own_marked false s h = own_union count s.existence s.label h.1 h.0

  own_element_label : (i : Option ℕ) (s : Option (Slot Label)) → IfThere OwnSlot s → Own count (element_label i s)
  own_element_label None s h = own_bottom count
  own_element_label (Some i) None h = own_bottom count
  own_element_label (Some i) (Some s) h = own_marked s.marks.writable s h

  own_absence : (key : List ℕ) (p : Object Label) → OwnObject p → Own count (absence_label key p)
  own_absence key p h = own_union count p.structure _ h.structure (own_element_label (element_of p.class key) (own length_key p.rows) (own_own length_key p.rows h.rows))

  own_plan_at : (key : List ℕ) (o : ℕ) (p : Object Label) (s : Option (Slot Label)) (rest : Found) → OwnObject p → IfThere OwnSlot s → OwnFound rest → Own count (walk_of (plan_at key o p s rest))
  own_plan_at key o p (Some s) rest h q r = own_own_plan o s s.body s.existence q q.1
  own_plan_at key o p None rest h q r = own_beyond (may_add key p) rest.at _ r.at (own_union count (absence_label key p) _ (own_absence key p h) (own_union count p.link rest.walk h.link r.walk))

  pub own_can_put : (key : List ℕ) (objects : List (ℕ × Object Label)) → OwnChain objects → Own count (walk_of (can_put key objects))
  own_can_put key [] h = own_bottom count
  own_can_put key (e ∷ objects) h = own_plan_at key e.0 e.1 (own key e.1.rows) (find key objects) h.0 (own_own key e.1.rows h.0.rows) (own_find key objects h.1)

  -- keys
  pub own_existences : (rows : Rows (Slot Label)) → OwnRows rows → Own count (existences rows)
  own_existences [] h = own_bottom count
  own_existences (r ∷ rows) h = own_union count r.1.existence _ h.0.1 (own_existences rows h.1)

  own_keys_after : (met : List (List ℕ)) (objects : List (ℕ × Object Label)) → OwnChain objects → Own count (keys_after met objects).walk
  own_keys_after met [] h = own_bottom count
  own_keys_after met (e ∷ objects) h = own_union count e.1.structure _ h.0.structure (own_union count e.1.link _ h.0.link (own_union count _ _ (own_existences e.1.rows h.0.rows) (own_keys_after _ objects h.1)))

  pub own_keys : (objects : List (ℕ × Object Label)) → OwnChain objects → Own count (keys objects).walk
  own_keys objects h = own_keys_after [] objects h

  -- ---- own properties

  -- the own test of a key
  pub own_own_test : (o : Option (Slot Label)) (structure : Label) → IfThere OwnSlot o → Own count structure → Own count (own_test o structure)
  own_own_test None structure q h = h
  own_own_test (Some s) structure q h = q.1

  pub own_definition_test : (key : List ℕ) (o : Option (Slot Label)) (p : Object Label) → IfThere OwnSlot o → OwnObject p → Own count (definition_test key o p)
  own_definition_test key None p q h = own_absence key p h
  own_definition_test key (Some s) p q h = q.1

  pub own_own_walk : (key : List ℕ) (p : Option (Object Label)) → IfThere OwnObject p → Own count (own_walk key p)
  own_own_walk key None h = own_bottom count
  own_own_walk key (Some p) h = own_own_test (own key p.rows) p.structure (own_own key p.rows h.rows) h.structure

  -- the highest element
  own_higher : (n : ℕ) (i : Option ℕ) (s : Slot Label) (rest : Option (ℕ × Slot Label)) → OwnSlot s → IfThere (λ e. OwnSlot e.1) rest → IfThere (λ e. OwnSlot e.1) (higher_if n i s rest)
  own_higher n None s rest q h = h
  own_higher n (Some i) s None q h = by_test (nat_le n i)
    where
      by_test : (b : Bool) → IfThere (λ (e : ℕ × Slot Label). OwnSlot e.1) (cond b (Some (i, s)) None)
      by_test true = q
      by_test false = tt
  own_higher n (Some i) s (Some e) q h = by_test (nat_le n i) (nat_lt e.0 i)
    where
      by_test : (b c : Bool) → IfThere (λ (x : ℕ × Slot Label). OwnSlot x.1) (cond b (cond c (Some (i, s)) (Some e)) (Some e))
      by_test true true = q
      by_test true false = h
      by_test false c = h

  own_highest : (n : ℕ) (rows : Rows (Slot Label)) → OwnRows rows → IfThere (λ e. OwnSlot e.1) (highest n rows)
  own_highest n [] h = tt
  own_highest n (r ∷ rows) h = own_higher n (index_of r.0) r.1 (highest n rows) h.0 (own_highest n rows h.1)

  pub own_highest_in : (n : ℕ) (p : Option (Object Label)) → IfThere OwnObject p → IfThere (λ e. OwnSlot e.1) (highest n (rows_in p))
  own_highest_in n None h = tt
  own_highest_in n (Some p) h = own_highest n p.rows h.rows

  -- what is known of one
  own_part_label : (part : OwnPart) (label : Label) → Own count label → Own count (part_label part label)
  own_part_label own_marks label q = own_bottom count
  own_part_label own_value label q = q
  own_part_label own_getter label q = q
  own_part_label own_setter label q = q

  pub own_known : (part : OwnPart) (label structure : Label) (s : Option (Slot Label)) → Own count label → Own count structure → IfThere OwnSlot s → OwnVal (known_of part label structure s)
  own_known part label structure None q k h = own_union count label structure q k
  own_known part label structure (Some s) q k h = own_union count _ _ (own_union count label s.existence q h.1) (own_part_label part s.label h.0)

  -- its value label, where it is there
  pub own_value_label : (s : Option (Slot Label)) → IfThere OwnSlot s → Own count (value_label s)
  own_value_label None h = own_bottom count
  own_value_label (Some s) h = h.0

  pub own_body_label : (b : Bool) (given old : Label) → Own count given → Own count old → Own count (body_label b given old)
  own_body_label true given old q k = own_union count given old q k
  own_body_label false given old q k = q

  -- ---- bound functions

  own_own_label : (s : Option (Slot Label)) (structure : Label) → IfThere OwnSlot s → Own count structure → Own count (own_label s structure)
  own_own_label None structure h q = q
  own_own_label (Some s) structure h q = own_union count s.existence s.label h.1 h.0

  -- the `length` of the target
  pub own_length_label : (p : Option (Object Label)) → IfThere OwnObject p → Own count (length_label p)
  own_length_label None h = own_bottom count
  own_length_label (Some p) h = own_own_label (own length_name p.rows) p.structure (own_own length_name p.rows h.rows) h.structure

  pub own_bound_object : (target : ObjId) (given : Label) (this : Val) (args : List Val) (known : Label) (n : ℕ) (label : Label) → Own count given → OwnVal this → Each OwnVal args → Own count known → Own count label
      → OwnObject (bound_object target given this args known n label)
  own_bound_object target given this args known n label g t a k q =
      record { link = q; structure = q; inner = (g, t, a); rows = ((own_union count _ label (own_union count given known g k) q, q), own_made_rows label function_rows q) }

  -- what a bound function comes to
  pub record OwnAim (aim : Aim) : Type 0 where
    pub this : IfThere OwnVal aim.target.this
    pub args : Each OwnVal aim.target.args
    pub label : Own count aim.label

  pub own_this_or : (kept : Option Val) (this : Val) → IfThere OwnVal kept → OwnVal this → OwnVal (this_or kept this)
  own_this_or None this k q = q
  own_this_or (Some kept) this k q = k

  own_aim_behind : (next : ℕ → Aim) → ((o : ℕ) → OwnAim (next o)) → (o : ℕ) (inner : Inner Label) → OwnInner inner → OwnAim (aim_behind next o inner)
  own_aim_behind next h o Plain q = record { this = tt; args = tt; label = own_bottom count }
  own_aim_behind next h o (Script function place) q = record { this = tt; args = tt; label = own_bottom count }
  own_aim_behind next h o (Native which) q = record { this = tt; args = tt; label = own_bottom count }
  own_aim_behind next h o (Bound target label this args) q = let r = h target.0 in
      record { this = own_this_or (next target.0).target.this this r.this q.1; args = each_append OwnVal (next target.0).target.args args r.args q.2; label = own_union count label _ q.0 r.label }

  own_aim_in : (next : ℕ → Aim) → ((o : ℕ) → OwnAim (next o)) → (o : ℕ) (p : Option (Object Label)) → IfThere OwnObject p → OwnAim (aim_in next o p)
  own_aim_in next h o None q = record { this = tt; args = tt; label = own_bottom count }
  own_aim_in next h o (Some p) q = own_aim_behind next h o p.inner q.inner

  own_aim_within : (heap : List (Object Label)) (n o : ℕ) → OwnHeap heap → OwnAim (aim_within heap n o)
  own_aim_within heap zero o h = record { this = tt; args = tt; label = own_bottom count }
  own_aim_within heap (suc n) o h = own_aim_in (aim_within heap n) (λ j. own_aim_within heap n j h) o (slice_get heap o) (each_at OwnObject heap o h)

  pub own_aim_of : (heap : List (Object Label)) (o : ℕ) → OwnHeap heap → OwnAim (aim_of heap o)
  own_aim_of heap o h = own_aim_within heap (suc o) o h
