-- What a labelled run does with references, and its turns, keeps a state of declared origins.
use Rattle.std.proofs.Common.{ℕ, zero, suc, Bool, true, false, List, Option, Some, None, Result, Ok, Err, slice_get}
use Rattle.origin_labels.specs.Label.{Label, bottom, union}
use Rattle.flow_frames.specs.declared.faults.Rule.{Rule}
use Rattle.flow_frames.specs.declared.faults.Rule.TheVariants.{W1}
use Rattle.flow_frames.specs.Frames.{context}
use Rattle.js_number.specs.declared.primitive.Primitive.{Primitive}
use Rattle.js_number.specs.declared.primitive.Primitive.TheVariants as prims
use Rattle.js_values.specs.declared.ids.ObjId.{ObjId}
use Rattle.js_values.specs.declared.value.Value.{Value}
use Rattle.js_values.specs.declared.value.Value.TheVariants as value
use Rattle.js_values.specs.declared.property.Body.{Body}
use Rattle.js_values.specs.declared.property.Body.TheVariants.{Data, Accessor}
use Rattle.js_values.specs.declared.property.Slot.{Slot}
use Rattle.js_values.specs.Objects.{Object, own}
use Rattle.js_values.specs.Records.{Binding}
use Rattle.js_values.specs.Walks.{Found, find, object_chain}
use Rattle.object_heap.specs.Acts.{Acted}
use Rattle.prototype_walk.specs.declared.plan.PutPlan.{PutPlan}
use Rattle.prototype_walk.specs.declared.plan.PutPlan.TheVariants.{Write, Add, Setter, Refused}
use Rattle.prototype_walk.specs.Answers.{walk_of}
use Rattle.prototype_walk.specs.Plans.{can_put}
use Rattle.prototype_walk.specs.KeyLists.{Keys}
use Rattle.es_meaning.specs.Definitions.{is_accessor}
use Rattle.es_meaning.specs.Primitives.{own_value_of, prototype_of_primitive, chain_from}
use Rattle.es_meaning.specs.Outcomes.{Outcome, ret}
use Rattle.es_meaning.specs.Operations.{Ty, One, Res}
use Rattle.es_meaning.specs.Start.{global_object}
use Rattle.es_meaning.specs.Plain.{Place, in_record, on_global, nowhere, binding_at}
use Rattle.flow_meaning.specs.Scopes.{Val, joined, Halt, State, Jump, L}
use Rattle.flow_meaning.specs.Tracked.{given, Reference, of_name, of_property, walk_from, bound, Access, has_value, has_getter, getter_or_none, held, global_value, found_globally, found, property_of, named, accessed, accessed_for_typeof, assigned, assigned_to, acted, own_in, Putting, is_put, has_setter, has_length, setter_found, setter_at, overwritten, is_length_in, put_by, put, setter_if, put_beyond, put_on_primitive, primitive_chain, primitive_access, put_property, put_named, put_value, removed_if, removed_own, removed_in, removed_of_primitive, remove_property, remove, key_list, with_list, spend, base_of}
use Rattle.low_equal.proofs.DeclaredLabels as labels
use Rattle.low_equal.proofs.DeclaredLabels.{Each, IfThere, each_at, own_bottom, own_union, own_context}
use Rattle.low_equal.proofs.DeclaredHeaps as heaps
use Rattle.low_equal.proofs.DeclaredHeaps.{own_own, own_write, own_remove, own_add, own_chain, own_find, own_can_put, own_keys}
use Rattle.low_equal.proofs.DeclaredRecords.{own_binding, own_assigned}
use Rattle.low_equal.proofs.DeclaredStates as states
use Rattle.low_equal.proofs.DeclaredStates.{bind_keeping, keeps_then, ret_keeping, under_keeps, throw_keeps, raise_keeping, goes, ends_in}

module _ (count : ℕ) where
  abbrev Own : Label → Type 0
  Own label = labels.Own count label

  abbrev OwnSlot : Slot Label → Type 0
  OwnSlot s = heaps.OwnSlot count s

  abbrev OwnObject : Object Label → Type 0
  OwnObject p = heaps.OwnObject count p

  abbrev OwnHeap : List (Object Label) → Type 0
  OwnHeap heap = heaps.OwnHeap count heap

  abbrev OwnFound : Found → Type 0
  OwnFound f = heaps.OwnFound count f

  abbrev OwnActed : {X : Type 0} → (X → Type 0) → Acted X → Type 0
  OwnActed Q a = heaps.OwnActed count Q a

  abbrev OwnState : State → Type 0
  OwnState s = states.OwnState count s

  abbrev Keeps : {X : Type 0} → (X → Type 0) → Outcome Halt Jump X State → Type 0
  Keeps Q o = states.Keeps count Q o

  abbrev Keeping : {X : Type 0} → (X → Type 0) → L X → Type 0
  Keeping Q m = states.Keeping count Q m

  abbrev OwnVal : Val → Type 0
  OwnVal v = labels.Own count v.label

  abbrev OwnResult : (t : Ty) → Res Val t → Type 0
  OwnResult t a = states.OwnResult count t a

  -- ---- acts

  -- an operator's value
  pub given_keeping : (label : Label) (r : Result Primitive (List ℕ)) → Own label → Keeping OwnVal (given label r)
  unfolding given
  given_keeping label (Ok v) q = record { keeps = λ s h. goes q h }
  given_keeping label (Err name) q = record { keeps = λ s h. ends_in tt h }

  -- the value of a binding
  bound_keeps : (o : Option (Binding Val)) (s : State) → IfThere (λ b. Own b.value.label) o → OwnState s → Keeps OwnVal (bound o s)
  unfolding bound
  bound_keeps (Some b) s q h = goes q h
  bound_keeps None s q h = throw_keeps count OwnVal _ _ s (own_bottom count) h

  -- what a read comes to
  abbrev pub OwnAccess : Access → Type 0
  OwnAccess (has_value v) = OwnVal v
  OwnAccess (has_getter label f base) = Own label × OwnVal base

  -- what a property holds
  own_getter_or_none : (label : Label) (get : Option ObjId) (base : Val) → Own label → OwnVal base → OwnAccess (getter_or_none label get base)
  own_getter_or_none label None base q b = q
  own_getter_or_none label (Some f) base q b = (q, b)

  own_held : (label : Label) (base : Val) (body : Body) → Own label → OwnVal base → OwnAccess (held label base body)
  own_held label base (Data v) q b = q
  own_held label base (Accessor get set) q b = own_getter_or_none label get base q b

  globally_keeps : (walk : Label) (f : Option (ℕ × Slot Label)) (s : State) → Own walk → IfThere (λ x. OwnSlot x.1) f → OwnState s → Keeps OwnAccess (found_globally walk f s)
  unfolding found_globally
  globally_keeps walk (Some f) s p q h = goes (own_held _ global_value f.1.body (own_union count walk f.1.label p q.0) (own_bottom count)) h
  globally_keeps walk None s p q h = throw_keeps count OwnAccess _ _ s p h

  own_access_found : (place : Label) (base : Val) (f : Option (ℕ × Slot Label)) → Own place → OwnVal base → IfThere (λ x. OwnSlot x.1) f → OwnAccess (found place base f)
  own_access_found place base (Some f) p b q = own_held _ base f.1.body (own_union count place f.1.label p q.0) b
  own_access_found place base None p b q = p

  -- the walk along an object
  pub own_walk_to : (key : List ℕ) (o : ℕ) (s : State) → OwnState s → OwnFound (find key (object_chain s.heap o))
  own_walk_to key o s h = own_find count key (object_chain s.heap o) (own_chain count s.heap o h.heap)

  -- and along the prototype of a primitive value
  own_chain_from : (o : Option ObjId) (s : State) → OwnState s → heaps.OwnChain count (chain_from (object_chain s.heap) o)
  own_chain_from None s h = tt
  own_chain_from (Some o) s h = own_chain count s.heap o.0 h.heap

  pub own_walk_along : (key : List ℕ) (p : Primitive) (s : State) → OwnState s → OwnFound (find key (primitive_chain s.heap p))
  own_walk_along key p s h = own_find count key (primitive_chain s.heap p) (own_chain_from (prototype_of_primitive p) s h)

  own_primitive_access : (label : Label) (known : Option Primitive) (beyond : Access) → Own label → OwnAccess beyond → OwnAccess (primitive_access label known beyond)
  own_primitive_access label None beyond q k = k
  own_primitive_access label (Some v) beyond q k = q

  pub property_keeps : (label : Label) (base : Val) (v : Value) (key : List ℕ) (s : State) → Own label → OwnVal base → OwnState s → Keeps OwnAccess (property_of label base v key s)
  unfolding property_of
  property_keeps label base (value.Primitive p) key s q b h = let w = own_walk_along key p s h in goes (own_primitive_access label (own_value_of p key) _ q (own_access_found _ base _ (own_union count label _ q w.walk) b w.at)) h
  property_keeps label base (value.Object o) key s q b h = let w = own_walk_to key o.0 s h in goes (own_access_found _ base _ (own_union count label _ q w.walk) b w.at) h

  named_keeps : (place : Place) (walk : Label) (x : List ℕ) (s : State) → Own walk → OwnState s → Keeps OwnAccess (named place walk x s)
  unfolding named
  named_keeps (in_record i) walk x s q h = keeps_then count OwnVal OwnAccess (λ v. ret (has_value v)) (bound_keeps (binding_at s.records i x) s (own_binding count s.records i x h.records) h) (λ v p. ret_keeping count OwnAccess (has_value v) p)
  named_keeps on_global walk x s q h = let w = own_walk_to x global_object.0 s h in globally_keeps _ _ s (own_union count walk _ q w.walk) w.at h
  named_keeps nowhere walk x s q h = throw_keeps count OwnAccess _ _ s q h

  -- ---- references

  -- the labels on which a reference depends
  abbrev pub OwnReference : Reference → Type 0
  OwnReference (of_name x place walk) = Own walk
  OwnReference (of_property base key label) = OwnVal base × Own label

  -- what a call has as `this`
  pub own_base : (n : Reference) → OwnReference n → OwnVal (base_of n)
  own_base (of_name x place walk) q = own_bottom count
  own_base (of_property v key label) q = q.0

  -- a name that is resolved
  pub own_walk_from : (i : Option ℕ) (walk : Label) → Own walk → Own (walk_from i walk)
  own_walk_from (Some i) walk q = own_bottom count
  own_walk_from None walk q = q

  pub access_keeps : (n : Reference) (s : State) → OwnReference n → OwnState s → Keeps OwnAccess (accessed n s)
  unfolding accessed
  access_keeps (of_name x place walk) s q h = named_keeps place walk x s q h
  access_keeps (of_property v key label) s q h = property_keeps _ v v.value key s (own_union count v.label label q.0 q.1) q.0 h

  pub typeof_keeps : (n : Reference) (s : State) → OwnReference n → OwnState s → Keeps OwnAccess (accessed_for_typeof n s)
  unfolding accessed_for_typeof
  typeof_keeps (of_name x (in_record i) walk) s q h = access_keeps (of_name x (in_record i) walk) s q h
  typeof_keeps (of_name x on_global walk) s q h = access_keeps (of_name x on_global walk) s q h
  typeof_keeps (of_name x nowhere walk) s q h = goes q h
  typeof_keeps (of_property v key label) s q h = access_keeps (of_property v key label) s q h

  -- a value for a binding
  assigned_keeps : (mutable : Bool) (have : Label) (name : List ℕ) (i : ℕ) (v : Val) (s : State) → Own have → OwnVal v → OwnState s → Keeps (OwnResult One) (assigned mutable have name i v s)
  unfolding assigned
  assigned_keeps true have name i v s p q h =
      let here = own_context count s.frames h.frames in
      under_keeps count (OwnResult One) W1 _ have _ s here p h
      (goes tt (record { frames = h.frames; heap = h.heap; records = own_assigned count name (joined (context s.frames) v) s.records i (own_union count v.label (context s.frames) q here) h.records; lines = h.lines }))
  assigned_keeps false have name i v s p q h = throw_keeps count (OwnResult One) _ _ s (own_bottom count) h

  -- or for what may be one
  assigned_to_keeps : (o : Option (Binding Val)) (name : List ℕ) (i : ℕ) (v : Val) (s : State) → IfThere (λ b. Own b.value.label) o → OwnVal v → OwnState s → Keeps (OwnResult One) (assigned_to o name i v s)
  unfolding assigned_to
  assigned_to_keeps (Some b) name i v s p q h = assigned_keeps b.mutable b.value.label name i v s p q h
  assigned_to_keeps None name i v s p q h = throw_keeps count (OwnResult One) _ _ s (own_bottom count) h

  -- what an act on the heap comes to
  pub acted_keeps : {X : Type 0} (Q : X → Type 0) (x : X) (a : Acted (List (Object Label))) (s : State) → Q x → OwnActed OwnHeap a → OwnState s → Keeps Q (acted x a s)
  unfolding acted
  acted_keeps Q x (Ok heap) s q k h = goes q (record { frames = h.frames; heap = k; records = h.records; lines = h.lines })
  acted_keeps Q x (Err stop) s q k h = ends_in k h

  -- the context, and what is needed besides
  pub own_need : (label : Label) (s : State) → Own label → OwnState s → Own (union (context s.frames) label)
  own_need label s q h = own_union count (context s.frames) label (own_context count s.frames h.frames) q

  -- what a put comes to
  abbrev pub OwnPutting : Putting → Type 0
  OwnPutting is_put = Unit {0}
  OwnPutting (has_setter label f base) = Own label × OwnVal base
  OwnPutting (has_length label o) = Own label

  -- a setter that is found
  setter_keeps : (label : Label) (base : Val) (f : Option ObjId) (s : State) → Own label → OwnVal base → OwnState s → Keeps OwnPutting (setter_found label base f s)
  unfolding setter_found
  setter_keeps label base None s q b h = throw_keeps count OwnPutting _ _ s q h
  setter_keeps label base (Some f) s q b h = goes (q, b) h

  setter_at_keeps : (label : Label) (base : Val) (slot : Option (Slot Label)) (s : State) → Own label → OwnVal base → IfThere OwnSlot slot → OwnState s → Keeps OwnPutting (setter_at label base slot s)
  unfolding setter_at
  setter_at_keeps label base None s q b k h = throw_keeps count OwnPutting _ _ s q h
  setter_at_keeps label base (Some p) s q b k h = setter_keeps _ base _ s (own_union count label p.label q k.0) b h

  -- what the key names in an object that there may be
  own_named_in : (key : List ℕ) (p : Option (Object Label)) → IfThere OwnObject p → IfThere OwnSlot (own_in key p)
  own_named_in key None h = tt
  own_named_in key (Some p) h = own_own count key p.rows h.rows

  -- a put
  overwritten_keeps : (b : Bool) (rule : Rule) (o : ℕ) (key : List ℕ) (label : Label) (v : Val) (s : State) → Own label → OwnVal v → OwnState s → Keeps OwnPutting (overwritten b rule o key label v s)
  unfolding overwritten
  overwritten_keeps true rule o key label v s p q h = goes p h
  overwritten_keeps false rule o key label v s p q h = acted_keeps OwnPutting is_put _ s tt (own_write count rule o key _ v s.heap (own_need label s p h) q h.heap) h

  put_by_keeps : (plan : PutPlan Label) (rule : Rule) (o : ℕ) (key : List ℕ) (label : Label) (base v : Val) (s : State) → Own (walk_of plan) → Own label → OwnVal base → OwnVal v → OwnState s → Keeps OwnPutting (put_by plan rule o key label base v s)
  unfolding put_by
  put_by_keeps (Write walk) rule o key label base v s w p b q h = overwritten_keeps (is_length_in key (slice_get s.heap o)) rule o key _ v s (own_union count label walk p w) q h
  put_by_keeps (Add walk) rule o key label base v s w p b q h = acted_keeps OwnPutting is_put _ s tt (own_add count o key _ (Data v.value) v.label _ s.heap (own_need _ s (own_union count label walk p w) h) q h.heap) h
  put_by_keeps (Refused walk) rule o key label base v s w p b q h = throw_keeps count OwnPutting _ _ s (own_union count label walk p w) h
  put_by_keeps (Setter at walk) rule o key label base v s w p b q h = setter_at_keeps _ base (own_in key (slice_get s.heap at.0)) s (own_union count label walk p w) b (own_named_in key (slice_get s.heap at.0) (each_at OwnObject s.heap at.0 h.heap)) h

  put_object_keeps : (rule : Rule) (o : ℕ) (key : List ℕ) (label : Label) (base v : Val) (s : State) → Own label → OwnVal base → OwnVal v → OwnState s → Keeps OwnPutting (put rule o key label base v s)
  unfolding put
  put_object_keeps rule o key label base v s p b q h = put_by_keeps (can_put key (object_chain s.heap o)) rule o key label base v s (own_can_put count key (object_chain s.heap o) (own_chain count s.heap o h.heap)) p b q h

  -- on a primitive value
  setter_if_keeps : (b : Bool) (label : Label) (base : Val) (p : Slot Label) (s : State) → Own label → OwnVal base → OwnSlot p → OwnState s → Keeps OwnPutting (setter_if b label base p s)
  unfolding setter_if
  setter_if_keeps true label base p s q b k h = setter_keeps _ base _ s (own_union count label p.label q k.0) b h
  setter_if_keeps false label base p s q b k h = throw_keeps count OwnPutting _ _ s q h

  beyond_keeps : (label : Label) (base : Val) (f : Option (ℕ × Slot Label)) (s : State) → Own label → OwnVal base → IfThere (λ x. OwnSlot x.1) f → OwnState s → Keeps OwnPutting (put_beyond label base f s)
  unfolding put_beyond
  beyond_keeps label base None s q b k h = throw_keeps count OwnPutting _ _ s q h
  beyond_keeps label base (Some f) s q b k h = setter_if_keeps (is_accessor f.1.body) label base f.1 s q b k h

  on_primitive_keeps : (known : Option Primitive) (label : Label) (base : Val) (p : Primitive) (key : List ℕ) (s : State) → Own label → OwnVal base → OwnState s → Keeps OwnPutting (put_on_primitive known label base p key s)
  unfolding put_on_primitive
  on_primitive_keeps (Some v) label base p key s q b h = throw_keeps count OwnPutting _ _ s q h
  on_primitive_keeps None label base p key s q b h = let w = own_walk_along key p s h in beyond_keeps _ base (find key (primitive_chain s.heap p)).at s (own_union count label _ q w.walk) b w.at h

  put_property_keeps : (label : Label) (base : Val) (b : Value) (key : List ℕ) (v : Val) (s : State) → Own label → OwnVal base → OwnVal v → OwnState s → Keeps OwnPutting (put_property label base b key v s)
  unfolding put_property
  put_property_keeps label base (value.Primitive b) key v s p k q h = on_primitive_keeps (own_value_of b key) label base b key s p k h
  put_property_keeps label base (value.Object o) key v s p k q h = put_object_keeps _ o.0 key label base v s p k q h

  put_named_keeps : (place : Place) (walk : Label) (x : List ℕ) (v : Val) (s : State) → Own walk → OwnVal v → OwnState s → Keeps OwnPutting (put_named place walk x v s)
  unfolding put_named
  put_named_keeps (in_record i) walk x v s p q h = keeps_then count (OwnResult One) OwnPutting (λ u. ret is_put) (assigned_to_keeps (binding_at s.records i x) x i v s (own_binding count s.records i x h.records) q h) (λ u p. ret_keeping count OwnPutting is_put tt)
  put_named_keeps on_global walk x v s p q h = put_object_keeps _ _ x bottom global_value v s (own_bottom count) (own_bottom count) q h
  put_named_keeps nowhere walk x v s p q h = throw_keeps count OwnPutting _ _ s p h

  pub put_keeps : (n : Reference) (v : Val) (s : State) → OwnReference n → OwnVal v → OwnState s → Keeps OwnPutting (put_value n v s)
  unfolding put_value
  put_keeps (of_name x place walk) v s p q h = put_named_keeps place walk x v s p q h
  put_keeps (of_property base key label) v s p q h = put_property_keeps _ base base.value key v s (own_union count base.label label p.0 p.1) p.0 q h

  -- a deletion
  removed_if_keeps : (b : Bool) (place : Label) (o : ℕ) (key : List ℕ) (s : State) → Own place → OwnState s → Keeps OwnVal (removed_if b place o key s)
  unfolding removed_if
  removed_if_keeps true place o key s q h = acted_keeps OwnVal _ _ s q (own_remove count o key _ s.heap (own_need place s q h) h.heap) h
  removed_if_keeps false place o key s q h = throw_keeps count OwnVal _ _ s q h

  removed_own_keeps : (p : Option (Slot Label)) (label structure : Label) (o : ℕ) (key : List ℕ) (s : State) → IfThere OwnSlot p → Own label → Own structure → OwnState s → Keeps OwnVal (removed_own p label structure o key s)
  unfolding removed_own
  removed_own_keeps None label structure o key s k p q h = goes (own_union count label structure p q) h
  removed_own_keeps (Some x) label structure o key s k p q h = removed_if_keeps x.marks.configurable _ o key s (own_union count label x.existence p k.1) h

  removed_in_keeps : (p : Option (Object Label)) (label : Label) (o : ℕ) (key : List ℕ) (s : State) → IfThere OwnObject p → Own label → OwnState s → Keeps OwnVal (removed_in p label o key s)
  unfolding removed_in
  removed_in_keeps None label o key s k q h = goes q h
  removed_in_keeps (Some p) label o key s k q h = removed_own_keeps (own key p.rows) label p.structure o key s (own_own count key p.rows k.rows) q k.structure h

  removed_of_primitive_keeps : (known : Option Primitive) (label : Label) (s : State) → Own label → OwnState s → Keeps OwnVal (removed_of_primitive known label s)
  unfolding removed_of_primitive
  removed_of_primitive_keeps None label s q h = goes q h
  removed_of_primitive_keeps (Some v) label s q h = throw_keeps count OwnVal _ _ s q h

  remove_property_keeps : (label : Label) (base : Value) (key : List ℕ) (s : State) → Own label → OwnState s → Keeps OwnVal (remove_property label base key s)
  unfolding remove_property
  remove_property_keeps label (value.Primitive p) key s q h = removed_of_primitive_keeps (own_value_of p key) label s q h
  remove_property_keeps label (value.Object o) key s q h = removed_in_keeps (slice_get s.heap o.0) label o.0 key s (each_at OwnObject s.heap o.0 h.heap) q h

  pub remove_keeps : (n : Reference) (s : State) → OwnReference n → OwnState s → Keeps OwnVal (remove n s)
  unfolding remove
  remove_keeps (of_name x place walk) s q h = throw_keeps count OwnVal _ _ s (own_bottom count) h
  remove_keeps (of_property base key label) s q h = remove_property_keeps _ base.value key s (own_union count base.label label q.0 q.1) h

  -- the keys of a value
  pub own_list : (heap : List (Object Label)) (v : Value) → OwnHeap heap → IfThere (λ k. Own k.walk) (key_list heap v)
  own_list heap (value.Object o) h = own_keys count (object_chain heap o.0) (own_chain count heap o.0 h)
  own_list heap (value.Primitive prims.Undefined) h = own_bottom count
  own_list heap (value.Primitive prims.Null) h = own_bottom count
  own_list heap (value.Primitive (prims.Bool b)) h = tt
  own_list heap (value.Primitive (prims.Num n)) h = tt
  own_list heap (value.Primitive (prims.Str t)) h = tt

  pub list_keeps : (list : Option Keys) (label : Label) (next : List (List ℕ) → L (Unit {0})) (s : State) → IfThere (λ k. Own k.walk) list → Own label → ((keys : List (List ℕ)) → Keeping (OwnResult One) (next keys)) → OwnState s
      → Keeps (OwnResult One) (with_list list label next s)
  unfolding with_list
  list_keeps None label next s p q k h = ends_in tt h
  list_keeps (Some list) label next s p q k h = (bind_keeping count (OwnResult One) (OwnResult One) _ (raise_keeping count _ (own_union count label list.walk q p)) (λ u r. k list.keys)).keeps s h

  -- a turn is spent
  pub spend_keeps : (n : ℕ) (s : State) → OwnState s → Keeps (OwnResult One) (spend n s)
  unfolding spend
  spend_keeps zero s h = ends_in tt h
  spend_keeps (suc n) s h = goes tt (record { frames = h.frames; heap = h.heap; records = h.records; lines = h.lines })
