-- Acts of a labelled run, those that built-ins ask for among them, keep a state of declared origins.
use Rattle.std.proofs.Common.{◌≡◌, ℕ, zero, suc, ◌<◌, Bool, true, false, ◌&&◌, List, [], ◌∷◌, length, Option, Some, None, slice_get, refl, subst}
use Rattle.origin_labels.specs.Label.{Label, bottom, union, label_of}
use Rattle.flow_policy.specs.declared.policy.Channel.{Channel}
use Rattle.flow_policy.specs.Policies.{Tables}
use Rattle.flow_policy.specs.Inputs.{Given}
use Rattle.flow_frames.specs.declared.faults.Rule.TheVariants.{W11, W12}
use Rattle.flow_frames.specs.Frames.{context}
use Rattle.js_number.specs.declared.primitive.Primitive.{Primitive}
use Rattle.js_number.specs.declared.primitive.Primitive.TheVariants as prims
use Rattle.js_values.specs.declared.ids.ObjId.{ObjId}
use Rattle.js_values.specs.declared.value.Value.{Value}
use Rattle.js_values.specs.declared.value.Value.TheVariants as value
use Rattle.js_values.specs.declared.property.Body.{Body}
use Rattle.js_values.specs.declared.property.Marks.{Marks}
use Rattle.js_values.specs.declared.property.Slot.{Slot}
use Rattle.js_values.specs.declared.inner.Class.{Class}
use Rattle.js_values.specs.Arrays.{length_key, is_length, highest}
use Rattle.js_values.specs.Objects.{Property, Object, own}
use Rattle.js_values.specs.Walks.{Found, find}
use Rattle.prototype_walk.specs.KeyLists.{rows_in}
use Rattle.native_protocol.specs.declared.request.GivenMarks.{GivenMarks}
use Rattle.es_meaning.specs.Outcomes.{Outcome}
use Rattle.es_meaning.specs.Operations.{Ty, One, Res, Part, OwnPart, Shape, Act, object_of, array_of, base_needed, object_needed, has_key, throws_error, own_property, own_keys, prototype_of_object, is_extensible, prevent_extensions, new_object, bind, read_line, print_line, join_label, raise_structure as raise_structure_by, raise_existence as raise_existence_by}
use Rattle.es_meaning.specs.Primitives.{own_value_of}
use Rattle.es_meaning.specs.Definitions.{GivenBody, Definition, changes_body, keeps_a_half}
use Rattle.es_meaning.specs.Plain.{others}
use Rattle.es_meaning.specs.Requested.{array_of_texts, given_body, made_of, are_origins}
use Rattle.flow_meaning.specs.Erased.{erased_slot, erased_heap}
use Rattle.flow_meaning.specs.Scopes.{Val, Halt, State, Jump, L}
use Rattle.flow_meaning.specs.Requested.{value_label, is_function_at}
use Rattle.flow_meaning.specs.Tracked.{make_object, make_array, needed, has_of_primitive, primitive_chain, has, on_object_in, own_property_in, set_marks, set_body_if, redefine, Defining, is_defined, has_length_given, define_over, define_by, define_given, define_in, defining, Cut, delete_element, deleted_if, deleted_at, deleted_within, ended_at, cut_length, set_marks_if, set_length_to, set_length_in, set_length, prototype_in, extensible_in, prevent, with_link, make_new, make_new_by, keys_label, keys_in, list_keys, bind_object, bind_value, bind_to, if_origins, raise_structure, raise_existence, argument, label_at, channel_label, read_channel, print_text, print_channel, with_origins, act}
use Rattle.low_equal.proofs.DeclaredLabels as labels
use Rattle.low_equal.proofs.DeclaredLabels.{Each, IfThere, each_push, each_at, own_bottom, own_union, own_label_of, own_origins, own_context}
use Rattle.low_equal.proofs.DeclaredHeaps as heaps
use Rattle.low_equal.proofs.DeclaredHeaps.{own_own, own_parts, own_array_object, own_made_object, own_existences, own_definition_test, own_highest_in, own_remove, own_add, own_set_body, own_set_attributes, own_prevent, own_raise_existence, own_raise_structure, own_own_walk, own_known, own_value_label, own_body_label, own_length_label, own_bound_object}
use Rattle.low_equal.proofs.DeclaredStates as states
use Rattle.low_equal.proofs.DeclaredStates.{bind_keeping, ret_keeping, under_keeps, throw_keeps, goes, ends_in}
use Rattle.low_equal.proofs.DeclaredActs.{own_walk_to, own_walk_along, acted_keeps, own_need}

module _ (count : ℕ) where
  abbrev Own : Label → Type 0
  Own label = labels.Own count label

  abbrev OwnSlot : Slot Label → Type 0
  OwnSlot s = heaps.OwnSlot count s

  abbrev OwnObject : Object Label → Type 0
  OwnObject p = heaps.OwnObject count p

  abbrev OwnState : State → Type 0
  OwnState s = states.OwnState count s

  abbrev Keeps : {X : Type 0} → (X → Type 0) → Outcome Halt Jump X State → Type 0
  Keeps Q o = states.Keeps count Q o

  abbrev Keeping : {X : Type 0} → (X → Type 0) → L X → Type 0
  Keeping Q m = states.Keeping count Q m

  abbrev OwnVal : Val → Type 0
  OwnVal v = labels.Own count v.label

  abbrev OwnResult : (t : Ty) → Res Val t → Type 0
  OwnResult t a = states.OwnResult count t a

  -- ---- acts of the language

  needed_keeps : (b : Bool) (v : Val) (s : State) → OwnVal v → OwnState s → Keeps OwnVal (needed b v s)
  unfolding needed
  needed_keeps true v s q h = goes q h
  needed_keeps false v s q h = throw_keeps count OwnVal _ _ s q h

  has_primitive_keeps : (known : Option Primitive) (label : Label) (walk : Found) (s : State) → Own label → Own walk.walk → OwnState s → Keeps OwnVal (has_of_primitive known label walk s)
  unfolding has_of_primitive
  has_primitive_keeps None label walk s q k h = goes (own_union count label walk.walk q k) h
  has_primitive_keeps (Some v) label walk s q k h = goes q h

  has_keeps : (label : Label) (key : List ℕ) (v : Value) (s : State) → Own label → OwnState s → Keeps OwnVal (has label key v s)
  unfolding has
  has_keeps label key (value.Primitive p) s q h = has_primitive_keeps (own_value_of p key) label (find key (primitive_chain s.heap p)) s q (own_walk_along count key p s h).walk h
  has_keeps label key (value.Object o) s q h = goes (own_union count label _ q (own_walk_to count key o.0 s h).walk) h

  make_keeps : (parts : List (Part × List ℕ)) (vs : List Val) (s : State) → Each OwnVal vs → OwnState s → Keeps OwnVal (make_object parts vs s)
  unfolding make_object
  make_keeps parts vs s q h =
      let here = own_context count s.frames h.frames in
      goes (own_bottom count) (record {
        frames = h.frames;
        heap = each_push OwnObject s.heap _ h.heap (record { link = here; structure = here; inner = tt; rows = own_parts count (context s.frames) parts vs [] here q tt });
        records = h.records;
        lines = h.lines;
      })

  array_keeps : (places : List ℕ) (n : ℕ) (vs : List Val) (s : State) → Each OwnVal vs → OwnState s → Keeps OwnVal (make_array places n vs s)
  unfolding make_array
  array_keeps places n vs s q h =
      let here = own_context count s.frames h.frames in
      goes (own_bottom count) (record { frames = h.frames; heap = each_push OwnObject s.heap _ h.heap (own_array_object count n places vs (context s.frames) here q); records = h.records; lines = h.lines })

  -- ---- acts on an object that a value is

  on_object_by : {X : Type 0} (Q : X → Type 0) (label : Label) (v : Value) (next : ℕ → L X) → Own label → ((o : ℕ) → Keeping Q (next o)) → Keeping Q (on_object_in label v next)
  unfolding on_object_in
  on_object_by Q label (value.Primitive p) next q k = record { keeps = λ s h. throw_keeps count Q _ _ s q h }
  on_object_by Q label (value.Object o) next q k = record { keeps = (k o.0).keeps }

  on_object_keeping : (label : Label) (v : Value) (next : ℕ → L Val) → Own label → ((o : ℕ) → Keeping OwnVal (next o)) → Keeping OwnVal (on_object_in label v next)
  on_object_keeping label v next q k = on_object_by OwnVal label v next q k

  -- a part of an own property
  part_keeps : (part : OwnPart) (key : List ℕ) (label : Label) (p : Option (Object Label)) (s : State) → Own label → IfThere OwnObject p → OwnState s → Keeps OwnVal (own_property_in part key label p s)
  unfolding own_property_in
  part_keeps part key label None s q k h = goes q h
  part_keeps part key label (Some p) s q k h = goes (own_known count part label p.structure (own key p.rows) q k.structure (own_own count key p.rows k.rows)) h

  -- ---- definitions

  marks_keeping : (label : Label) (marks : Marks) (o : ℕ) (key : List ℕ) → Own label → Keeping (OwnResult One) (set_marks label marks o key)
  unfolding set_marks
  marks_keeping label marks o key q = record { keeps = λ s h. acted_keeps count (OwnResult One) tt _ s tt (own_set_attributes count o key _ marks s.heap (own_need count label s q h) h.heap) h }

  body_keeping : (b : Bool) (place : Label) (body : Body) (label : Label) (o : ℕ) (key : List ℕ) → Own place → Own label → Keeping (OwnResult One) (set_body_if b place body label o key)
  unfolding set_body_if
  body_keeping true place body label o key p q = record { keeps = λ s h. acted_keeps count (OwnResult One) tt _ s tt (own_set_body count o key _ body label s.heap (own_need count place s p h) q h.heap) h }
  body_keeping false place body label o key p q = record { keeps = λ s h. goes tt h }

  -- what a definition comes to
  abbrev pub OwnDefining : Defining → Type 0
  OwnDefining (is_defined label) = Own label
  OwnDefining (has_length_given label o marks) = Own label

  redefine_keeping : (p : Slot Label) (q : Property) (d : Definition) (place given : Label) (o : ℕ) (key : List ℕ) → OwnSlot p → Own place → Own given → Keeping OwnDefining (redefine p q d place given o key)
  unfolding redefine
  redefine_keeping p q d place given o key k x y = bind_keeping count (OwnResult One) OwnDefining _ (marks_keeping _ q.marks o key (own_union count place given x y)) (λ u r.
      bind_keeping count (OwnResult One) OwnDefining _ (body_keeping (changes_body (erased_slot p) d) place q.body _ o key x (own_body_label count (keeps_a_half (erased_slot p) d) given p.label y k.0)) (λ v t. ret_keeping count OwnDefining (is_defined place) x))

  -- what is refused depends on all of it
  own_refusal : (old : Option (Slot Label)) (place given : Label) → IfThere OwnSlot old → Own place → Own given → Own (union (union place given) (value_label old))
  own_refusal old place given k x y = own_union count _ _ (own_union count place given x y) (own_value_label count old k)

  over_keeps : (old : Option (Slot Label)) (d : Definition) (place given : Label) (o : ℕ) (key : List ℕ) (q : Option Property) (s : State) → IfThere OwnSlot old → Own place → Own given → OwnState s → Keeps OwnDefining (define_over old d place given o key q s)
  unfolding define_over
  over_keeps None d place given o key None s k x y h = throw_keeps count OwnDefining _ _ s (own_refusal None place given k x y) h
  over_keeps (Some p) d place given o key None s k x y h = throw_keeps count OwnDefining _ _ s (own_refusal (Some p) place given k x y) h
  over_keeps None d place given o key (Some q) s k x y h = acted_keeps count OwnDefining _ _ s x (own_add count o key _ q.body given q.marks s.heap (own_need count _ s (own_union count place given x y) h) y h.heap) h
  over_keeps (Some p) d place given o key (Some q) s k x y h = (redefine_keeping p q d place given o key k x y).keeps s h

  by_keeps : (b : Bool) (p : Object Label) (marks : GivenMarks) (body : GivenBody) (place given : Label) (o : ℕ) (key : List ℕ) (s : State) → OwnObject p → Own place → Own given → OwnState s → Keeps OwnDefining (define_by b p marks body place given o key s)
  unfolding define_by
  by_keeps true p marks body place given o key s k x y h = goes x h
  by_keeps false p marks body place given o key s k x y h = over_keeps (own key p.rows) (record { marks = marks; body = body }) place given o key _ s (own_own count key p.rows k.rows) x y h

  given_keeps : (valued : Bool) (p : Object Label) (marks : GivenMarks) (body : Option GivenBody) (place given : Label) (o : ℕ) (key : List ℕ) (s : State) → OwnObject p → Own place → Own given → OwnState s
      → Keeps OwnDefining (define_given valued p marks body place given o key s)
  unfolding define_given
  given_keeps valued p marks None place given o key s k x y h = throw_keeps count OwnDefining _ _ s (own_refusal (own key p.rows) place given (own_own count key p.rows k.rows) x y) h
  given_keeps valued p marks (Some body) place given o key s k x y h = by_keeps (is_length p.class key && valued) p marks body place given o key s k x y h

  define_keeps : (p : Option (Object Label)) (label : Label) (o : ℕ) (key : List ℕ) (marks : GivenMarks) (shape : Shape) (v g set : Val) (s : State) → IfThere OwnObject p → Own label → OwnVal v → OwnVal g → OwnVal set → OwnState s
      → Keeps OwnDefining (define_in p label o key marks shape v g set s)
  unfolding define_in
  define_keeps None label o key marks shape v g set s k q a b c h = throw_keeps count OwnDefining _ _ s q h
  define_keeps (Some p) label o key marks shape v g set s k q a b c h = given_keeps shape.has_value p marks (given_body (erased_heap s.heap) marks shape v.value g.value set.value) _ _ o key s k
      (own_union count label _ q (own_definition_test count key (own key p.rows) p (own_own count key p.rows k.rows) k)) (own_union count v.label _ a (own_union count g.label set.label b c)) h

  pub defining_keeping : (key : List ℕ) (marks : GivenMarks) (shape : Shape) (base v g set : Val) → OwnVal base → OwnVal v → OwnVal g → OwnVal set → Keeping OwnDefining (defining key marks shape base v g set)
  unfolding defining
  defining_keeping key marks shape base v g set q a b c = on_object_by OwnDefining base.label base.value _ q (λ o. record { keeps = λ s h. define_keeps (slice_get s.heap o) base.label o key marks shape v g set s (each_at OwnObject s.heap o h.heap) q a b c h })

  -- ---- the `length` of an array

  abbrev OwnCut : Cut → Type 0
  OwnCut cut = Own cut.tested

  delete_keeping : (label : Label) (o i : ℕ) → Own label → Keeping (OwnResult One) (delete_element label o i)
  unfolding delete_element
  delete_keeping label o i q = record { keeps = λ s h. acted_keeps count (OwnResult One) tt _ s tt (own_remove count o _ _ s.heap (own_need count label s q h) h.heap) h }

  cut_if_keeps : (b : Bool) (next : Label → L Cut) (label : Label) (o i : ℕ) (tested : Label) (s : State) → Own label → Own tested → ((t : Label) → Own t → Keeping OwnCut (next t)) → OwnState s → Keeps OwnCut (deleted_if b next label o i tested s)
  unfolding deleted_if
  cut_if_keeps true next label o i tested s q k f h = (bind_keeping count (OwnResult One) OwnCut (λ u. next tested) (delete_keeping _ o i (own_union count label tested q k)) (λ u r. f tested k)).keeps s h
  cut_if_keeps false next label o i tested s q k f h = goes k h

  cut_at_keeps : (e : Option (ℕ × Slot Label)) (next : Label → L Cut) (label : Label) (o : ℕ) (tested : Label) (s : State) → IfThere (λ x. OwnSlot x.1) e → Own label → Own tested → ((t : Label) → Own t → Keeping OwnCut (next t)) → OwnState s
      → Keeps OwnCut (deleted_at e next label o tested s)
  unfolding deleted_at
  cut_at_keeps None next label o tested s w q k f h = goes k h
  cut_at_keeps (Some e) next label o tested s w q k f h = cut_if_keeps e.1.marks.configurable next label o e.0 _ s q (own_union count tested e.1.existence k w.1) f h

  cut_keeping : (most : ℕ) (label : Label) (o n : ℕ) (tested : Label) → Own label → Own tested → Keeping OwnCut (deleted_within most label o n tested)
  unfolding deleted_within
  cut_keeping zero label o n tested q k = record { keeps = λ s h. goes k h }
  cut_keeping (suc more) label o n tested q k = record {
    keeps = λ s h. cut_at_keeps (highest n (rows_in (slice_get s.heap o))) (deleted_within more label o n) label o tested s (own_highest_in count n (slice_get s.heap o) (each_at OwnObject s.heap o h.heap)) q k (λ t r. cut_keeping more label o n t q r) h;
  }

  ended_keeps : (stays : Option ℕ) (place label : Label) (s : State) → Own place → Own label → OwnState s → Keeps OwnVal (ended_at stays place label s)
  unfolding ended_at
  ended_keeps None place label s p q h = goes p h
  ended_keeps (Some i) place label s p q h = throw_keeps count OwnVal _ _ s q h

  cut_length_keeping : (place label : Label) (o n : ℕ) (cut : Cut) → Own place → Own label → OwnCut cut → Keeping OwnVal (cut_length place label o n cut)
  unfolding cut_length
  cut_length_keeping place label o n cut p q k =
      let both = own_union count label cut.tested q k in
      bind_keeping count (OwnResult One) OwnVal _ (body_keeping true place _ _ o length_key p both) (λ u r. record { keeps = λ s h. ended_keeps cut.stays place _ s p (own_union count place _ p both) h })

  marks_if_keeping : (b : Bool) (label : Label) (marks : Marks) (o : ℕ) (key : List ℕ) → Own label → Keeping (OwnResult One) (set_marks_if b label marks o key)
  marks_if_keeping true label marks o key q = marks_keeping label marks o key q
  marks_if_keeping false label marks o key q = ret_keeping count (OwnResult One) tt tt

  length_to_keeping : (b : Bool) (p : Object Label) (place given : Label) (o n : ℕ) (q : Option Property) → OwnObject p → Own place → Own given → Keeping OwnVal (set_length_to b p place given o n q)
  unfolding set_length_to
  length_to_keeping b p place given o n None k x y = record { keeps = λ s h. throw_keeps count OwnVal _ _ s (own_refusal (own length_key p.rows) place given (own_own count length_key p.rows k.rows) x y) h }
  length_to_keeping b p place given o n (Some q) k x y =
      let inside = own_union count given p.structure y k.structure in
      bind_keeping count (OwnResult One) OwnVal _ (marks_if_keeping b _ q.marks o length_key (own_union count place given x y))
      (λ u r. bind_keeping count OwnCut OwnVal _ (cut_keeping _ _ o n bottom (own_union count place _ x inside) (own_bottom count)) (λ cut w. cut_length_keeping place _ o n cut x inside w))

  length_in_keeping : (b : Bool) (p : Option (Object Label)) (place given : Label) (o : ℕ) (marks : GivenMarks) (n : ℕ) → IfThere OwnObject p → Own place → Own given → Keeping OwnVal (set_length_in b p place given o marks n)
  unfolding set_length_in
  length_in_keeping b None place given o marks n k x y = record { keeps = λ s h. throw_keeps count OwnVal _ _ s (own_union count place given x y) h }
  length_in_keeping b (Some p) place given o marks n k x y =
      length_to_keeping b p _ given o n _ k (own_union count place _ x (own_definition_test count length_key (own length_key p.rows) p (own_own count length_key p.rows k.rows) k)) y

  pub length_keeping : (b : Bool) (place : Label) (o : ℕ) (marks : GivenMarks) (n : ℕ) (given : Label) → Own place → Own given → Keeping OwnVal (set_length b place o marks n given)
  unfolding set_length
  length_keeping b place o marks n given x y = record { keeps = λ s h. (length_in_keeping b (slice_get s.heap o) place given o marks n (each_at OwnObject s.heap o h.heap) x y).keeps s h }

  -- ---- prototypes and extensions

  prototype_keeps : (label : Label) (p : Option (Object Label)) (s : State) → Own label → IfThere OwnObject p → OwnState s → Keeps OwnVal (prototype_in label p s)
  unfolding prototype_in
  prototype_keeps label None s q k h = goes q h
  prototype_keeps label (Some p) s q k h = goes (own_union count label p.link q k.link) h

  extensible_keeps : (label : Label) (p : Option (Object Label)) (s : State) → Own label → IfThere OwnObject p → OwnState s → Keeps OwnVal (extensible_in label p s)
  unfolding extensible_in
  extensible_keeps label None s q k h = goes q h
  extensible_keeps label (Some p) s q k h = goes (own_union count label p.structure q k.structure) h

  prevent_keeps : (label : Label) (o : ℕ) (s : State) → Own label → OwnState s → Keeps OwnVal (prevent label o s)
  unfolding prevent
  prevent_keeps label o s q h = acted_keeps count OwnVal _ _ s q (own_prevent count o _ s.heap (own_need count label s q h) h.heap) h

  -- ---- labels are raised

  structure_keeps : (origins : List ℕ) (label : Label) (o : ℕ) (s : State) → Each (λ k. k < count) origins → Own label → OwnState s → Keeps OwnVal (raise_structure origins label o s)
  unfolding raise_structure
  structure_keeps origins label o s p q h = acted_keeps count OwnVal _ _ s q (own_raise_structure count o _ _ s.heap (own_need count label s q h) (own_label_of count origins p) h.heap) h

  existence_keeps : (origins : List ℕ) (label : Label) (key : List ℕ) (o : ℕ) (s : State) → Each (λ k. k < count) origins → Own label → OwnState s → Keeps OwnVal (raise_existence origins label key o s)
  unfolding raise_existence
  existence_keeps origins label key o s p q h = acted_keeps count OwnVal _ _ s q
      (own_raise_existence count o key _ _ s.heap (own_need count _ s (own_union count label _ q (own_own_walk count key (slice_get s.heap o) (each_at OwnObject s.heap o h.heap))) h) (own_label_of count origins p) h.heap) h

  -- ---- new objects and bound functions

  linked_own : (label : Label) (p : Object Label) → Own label → OwnObject p → OwnObject (with_link label p)
  linked_own label p q h = record { link = own_union count p.link label h.link q; structure = h.structure; inner = h.inner; rows = h.rows }

  new_keeping : (c : Class) (proto : Option ObjId) (label : Label) → Own label → Keeping OwnVal (make_new c proto label)
  unfolding make_new
  new_keeping c proto label q = record {
    keeps = λ s h.
        let here = own_context count s.frames h.frames in
        goes (own_bottom count) (record { frames = h.frames; heap = each_push OwnObject s.heap _ h.heap (linked_own label _ q (own_made_object count (context s.frames) (made_of c proto) here)); records = h.records; lines = h.lines });
  }

  new_by_keeping : (c : Class) (v : Val) → OwnVal v → Keeping OwnVal (make_new_by c v)
  unfolding make_new_by
  new_by_keeping c v q = record { keeps = λ s h. (new_keeping c _ v.label q).keeps s h }

  -- the own keys of an object
  own_keys_label : (p : Option (Object Label)) → IfThere OwnObject p → Own (keys_label p)
  own_keys_label None h = own_bottom count
  own_keys_label (Some p) h = own_union count p.structure _ h.structure (own_existences count p.rows h.rows)

  list_keeps : (all : Bool) (label : Label) (o : ℕ) (s : State) → Own label → OwnState s → Keeps OwnVal (list_keys all label o s)
  unfolding list_keys
  list_keeps all label o s q h =
      let here = own_context count s.frames h.frames in
      goes (own_union count label _ q (own_keys_label (slice_get s.heap o) (each_at OwnObject s.heap o h.heap)))
      (record { frames = h.frames; heap = each_push OwnObject s.heap _ h.heap (own_made_object count (context s.frames) (array_of_texts (keys_in all (slice_get s.heap o))) here); records = h.records; lines = h.lines })

  bind_value_keeps : (v : Value) (target this : Val) (args : List Val) (s : State) → OwnVal target → OwnVal this → Each OwnVal args → OwnState s → Keeps OwnVal (bind_value v target this args s)
  unfolding bind_value bind_object
  bind_value_keeps (value.Primitive p) target this args s q k r h = throw_keeps count OwnVal _ _ s q h
  bind_value_keeps (value.Object o) target this args s q k r h =
      let here = own_context count s.frames h.frames in
      goes (own_bottom count) (record {
        frames = h.frames;
        heap = each_push OwnObject s.heap _ h.heap (own_bound_object count o target.label this args _ _ (context s.frames) q k r (own_length_label count (slice_get s.heap o.0) (each_at OwnObject s.heap o.0 h.heap)) here);
        records = h.records;
        lines = h.lines;
      })

  bind_keeps : (b : Bool) (target this : Val) (args : List Val) (s : State) → OwnVal target → OwnVal this → Each OwnVal args → OwnState s → Keeps OwnVal (bind_to b target this args s)
  unfolding bind_to
  bind_keeps true target this args s q k r h = bind_value_keeps target.value target this args s q k r h
  bind_keeps false target this args s q k r h = throw_keeps count OwnVal _ _ s q h

  -- origins that are asked about first
  origins_keeping : (b : Bool) (next : L Val) → (b ≡ true → Keeping OwnVal next) → Keeping OwnVal (if_origins b next)
  unfolding if_origins
  origins_keeping true next k = record { keeps = (k refl).keeps }
  origins_keeping false next k = record { keeps = λ s h. ends_in tt h }

  -- ---- arguments

  own_argument : (n : ℕ) (vs : List Val) → Each OwnVal vs → OwnVal (argument n vs)
  own_argument n [] h = own_bottom count
  own_argument zero (v ∷ vs) h = h.0
  own_argument (suc n) (v ∷ vs) h = own_argument n vs h.1

  -- those behind the first
  own_others : (vs : List Val) → Each OwnVal vs → Each OwnVal (others vs)
  own_others [] h = tt
  own_others (v ∷ vs) h = h.1

  -- ---- with the channels and the origins of a policy

  module _ (tables : Tables) (inputs : Given) (few : length tables.origins ≡ count) (ins : Each (λ c. Own c.label) tables.inputs) (outs : Each (λ c. Own c.label) tables.outputs) where
    -- a channel's label
    own_channel : (channels : List Channel) (i : ℕ) → Each (λ c. Own c.label) channels → Own (channel_label channels i)
    own_channel channels i h = by_case (slice_get channels i) (each_at (λ c. Own c.label) channels i h)
      where
        by_case : (o : Option Channel) → IfThere (λ c. Own c.label) o → Own (label_at o)
        by_case None q = own_bottom count
        by_case (Some c) q = q

    -- a line is read
    read_keeping : (i : Option ℕ) (name : Label) → Own name → Keeping OwnVal (read_channel tables inputs i name)
    unfolding read_channel
    read_keeping None name q = record { keeps = λ s h. ends_in tt h }
    read_keeping (Some i) name q = record {
      keeps = λ s h.
          under_keeps count OwnVal W11 _ _ _ s (own_union count (context s.frames) name (own_context count s.frames h.frames) q) (own_channel tables.inputs i ins) h
          (goes (own_channel tables.inputs i ins) (record { frames = h.frames; heap = h.heap; records = h.records; lines = h.lines }));
    }

    -- a text is printed
    text_keeping : (i : ℕ) (label : Label) (v : Value) → Own label → Keeping OwnVal (print_text tables inputs i label v)
    unfolding print_text
    text_keeping i label (value.Object o) q = record { keeps = λ s h. ends_in tt h }
    text_keeping i label (value.Primitive prims.Undefined) q = record { keeps = λ s h. ends_in tt h }
    text_keeping i label (value.Primitive prims.Null) q = record { keeps = λ s h. ends_in tt h }
    text_keeping i label (value.Primitive (prims.Bool b)) q = record { keeps = λ s h. ends_in tt h }
    text_keeping i label (value.Primitive (prims.Num n)) q = record { keeps = λ s h. ends_in tt h }
    text_keeping i label (value.Primitive (prims.Str text)) q = record {
      keeps = λ s h.
          let need = own_union count (context s.frames) label (own_context count s.frames h.frames) q in
          under_keeps count OwnVal W12 _ _ _ s need (own_channel tables.outputs i outs) h
          (goes q (record { frames = h.frames; heap = h.heap; records = h.records; lines = each_push (λ l. Own l.label) s.lines _ h.lines need }));
    }

    -- on a channel that there may be
    print_keeping : (i : Option ℕ) (name : Label) (v : Val) → Own name → OwnVal v → Keeping OwnVal (print_channel tables inputs i name v)
    unfolding print_channel
    print_keeping None name v p q = record { keeps = λ s h. ends_in tt h }
    print_keeping (Some i) name v p q = record { keeps = λ s h. (text_keeping i _ v.value (own_union count name v.label p q)).keeps s h }

    -- origins, if they are declared
    with_origins_keeping : (origins : List ℕ) (next : L Val) → (Each (λ k. k < count) origins → Keeping OwnVal next) → Keeping OwnVal (with_origins tables inputs origins next)
    unfolding with_origins
    with_origins_keeping origins next k = origins_keeping (are_origins (length tables.origins) origins) next (λ e. k (own_origins count origins (subst (λ n. are_origins n origins ≡ true) few e)))

    -- the acts
    pub act_keeping : (a : Act) (vs : List Val) → Each OwnVal vs → Keeping OwnVal (act tables inputs a vs)
    unfolding act
    act_keeping (object_of parts) vs q = record { keeps = λ s h. make_keeps parts vs s q h }
    act_keeping (array_of places n) vs q = record { keeps = λ s h. array_keeps places n vs s q h }
    act_keeping base_needed vs q = record { keeps = λ s h. needed_keeps _ _ s (own_argument 0 vs q) h }
    act_keeping object_needed vs q = record { keeps = λ s h. needed_keeps _ _ s (own_argument 0 vs q) h }
    act_keeping has_key vs q = record { keeps = λ s h. has_keeps _ _ _ s (own_union count _ _ (own_argument 0 vs q) (own_argument 1 vs q)) h }
    act_keeping (throws_error kind) vs q = record { keeps = λ s h. throw_keeps count OwnVal _ _ s (own_bottom count) h }
    act_keeping (own_property part key) vs q = let k = own_argument 0 vs q in on_object_keeping _ _ _ k (λ o. record { keeps = λ s h. part_keeps part key _ (slice_get s.heap o) s k (each_at OwnObject s.heap o h.heap) h })
    act_keeping (own_keys all) vs q = let k = own_argument 0 vs q in on_object_keeping _ _ _ k (λ o. record { keeps = λ s h. list_keeps all _ o s k h })
    act_keeping prototype_of_object vs q = let k = own_argument 0 vs q in on_object_keeping _ _ _ k (λ o. record { keeps = λ s h. prototype_keeps _ (slice_get s.heap o) s k (each_at OwnObject s.heap o h.heap) h })
    act_keeping is_extensible vs q = let k = own_argument 0 vs q in on_object_keeping _ _ _ k (λ o. record { keeps = λ s h. extensible_keeps _ (slice_get s.heap o) s k (each_at OwnObject s.heap o h.heap) h })
    act_keeping prevent_extensions vs q = let k = own_argument 0 vs q in on_object_keeping _ _ _ k (λ o. record { keeps = λ s h. prevent_keeps _ o s k h })
    act_keeping (new_object c false) vs q = new_keeping c _ bottom (own_bottom count)
    act_keeping (new_object c true) vs q = new_by_keeping c (argument 0 vs) (own_argument 0 vs q)
    act_keeping bind vs q = record { keeps = λ s h. bind_keeps (is_function_at s.heap (argument 0 vs).value) (argument 0 vs) (argument 1 vs) (others (others vs)) s (own_argument 0 vs q) (own_argument 1 vs q) (own_others (others vs) (own_others vs q)) h }
    act_keeping read_line vs q = read_keeping _ _ (own_argument 0 vs q)
    act_keeping print_line vs q = print_keeping _ _ _ (own_argument 0 vs q) (own_argument 1 vs q)
    act_keeping (join_label origins) vs q = with_origins_keeping origins _ (λ k. ret_keeping count OwnVal _ (own_union count _ (label_of origins) (own_argument 0 vs q) (own_label_of count origins k)))
    act_keeping (raise_structure_by origins) vs q = let p = own_argument 0 vs q in with_origins_keeping origins _ (λ k. on_object_keeping _ _ _ p (λ o. record { keeps = λ s h. structure_keeps origins _ o s k p h }))
    act_keeping (raise_existence_by key origins) vs q = let p = own_argument 0 vs q in with_origins_keeping origins _ (λ k. on_object_keeping _ _ _ p (λ o. record { keeps = λ s h. existence_keeps origins _ key o s k p h }))
