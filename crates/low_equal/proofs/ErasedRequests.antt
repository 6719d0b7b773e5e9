-- The acts of a labelled computation, those that built-ins ask for among them, are those of the unlabelled one.
use Rattle.std.proofs.Common.{◌≡◌, ℕ, zero, suc, Bool, true, false, ◌&&◌, List, [], ◌∷◌, ◌++◌, length, Option, Some, None, slice_get, refl, sym, ◌∙◌, ap, ap₂, subst}
use Rattle.std.specs.Option.{option_map}
use Rattle.std.proofs.lemmas.List.{map_push}
use Rattle.origin_labels.specs.Label.{Label, bottom}
use Rattle.flow_frames.specs.declared.faults.Rule.TheVariants.{W11, W12}
use Rattle.flow_frames.specs.Frames.{context}
use Rattle.flow_policy.specs.Policies.{Tables}
use Rattle.flow_policy.specs.Inputs.{Given}
use Rattle.js_number.specs.declared.primitive.Primitive.{Primitive}
use Rattle.js_number.specs.declared.primitive.Primitive.TheVariants.{Undefined, Null, Num, Str}
use Rattle.js_number.specs.declared.primitive.Primitive.TheVariants as prims
use Rattle.js_values.specs.declared.ids.ObjId.{ObjId}
use Rattle.js_values.specs.declared.value.Value.{Value}
use Rattle.js_values.specs.declared.value.Value.TheVariants as value
use Rattle.js_values.specs.declared.property.Slot.{Slot}
use Rattle.js_values.specs.declared.inner.Class.{Class}
use Rattle.js_values.specs.Arrays.{is_length}
use Rattle.js_values.specs.Objects.{Property, PlainObject, Object, own}
use Rattle.js_values.specs.Walks.{Found, object_chain, find}
use Rattle.native_protocol.specs.declared.request.ErrorKind.TheVariants as kinds
use Rattle.native_protocol.specs.declared.request.GivenMarks.{GivenMarks}
use Rattle.es_meaning.specs.Outcomes.{Goes, ret}
use Rattle.es_meaning.specs.Operations.{Part, OwnPart, Shape, Act, object_of, array_of, base_needed, object_needed, has_key, throws_error, own_property, own_keys, prototype_of_object, is_extensible, prevent_extensions, new_object, bind, read_line, print_line, join_label, raise_structure, raise_existence}
use Rattle.es_meaning.specs.Operations.{Value as a_value}
use Rattle.es_meaning.specs.Operators.{is_object}
use Rattle.es_meaning.specs.Primitives.{own_value_of, prototype_of_primitive}
use Rattle.es_meaning.specs.Definitions.{GivenBody}
use Rattle.es_meaning.specs.Objects.{own_in, with_object, may_add}
use Rattle.es_meaning.specs.Start.{id}
use Rattle.es_meaning.specs.Plain as plain
use Rattle.es_meaning.specs.Plain.{State, P, argument_or, others, channel_of, undefined, choose, key_text, is_coercible, is_found, has_of_primitive, truth_value}
use Rattle.es_meaning.specs.Requested as requested
use Rattle.es_meaning.specs.Requested.{part_or_undefined, given_body, behind_definition, array_of_texts, made_of, class_prototype, prototype_given, standing_or_default, bound_count, are_origins}
use Rattle.es_meaning.proofs.Link.{Rels, nils, conses}
use Rattle.flow_meaning.specs.Erased.{erased_slot, erased_object, erased_heap}
use Rattle.flow_meaning.specs.Scopes as scopes
use Rattle.flow_meaning.specs.Scopes.{Val, L, joined}
use Rattle.flow_meaning.specs.Requested as labelled
use Rattle.flow_meaning.specs.Requested.{known_of}
use Rattle.flow_meaning.specs.Tracked as tracked
use Rattle.flow_meaning.specs.Tracked.{argument}
use Rattle.low_equal.specs.Erasure.{erased_line}
use Rattle.low_equal.proofs.Erased.{Mark, Shaped, erased, Extends, goes_extends, ends_extends, Yields, goes, ends, YieldsBy, LiftBy, Lift, goes_to, ret_lifts, under_yields}
use Rattle.low_equal.proofs.ErasedHeaps.{length_erased, pushed_erased, object_erased, own_erased, prevent_does, raise_structure_does, raise_existence_does, erased_found, find_erased, found_along_erased, object_made, literal_erased, array_erased, values_of, values_length, bound_erased}
use Rattle.low_equal.proofs.ErasedActs.{throws_yields, throws_extends, acted_yields}
use Rattle.low_equal.proofs.ErasedDefinitions.{erased_defining, given_yields}

-- ---- arguments

-- the values of labelled arguments
pub values_are : {vs : List Val} {us : List Value} → Rels (λ v r. v.value ≡ r) vs us → values_of vs ≡ us
values_are nils = refl
values_are (conses e r) = ap₂ (λ x xs. x ∷ xs) e (values_are r)

-- an argument, without its label
argument_erased : (n : ℕ) (vs : List Val) → argument_or undefined n (values_of vs) ≡ (argument n vs).value
argument_erased n [] = refl
argument_erased zero (v ∷ vs) = refl
argument_erased (suc n) (v ∷ vs) = argument_erased n vs

-- the arguments behind the first, without their labels
others_erased : (vs : List Val) → others (values_of vs) ≡ values_of (others vs)
others_erased [] = refl
others_erased (v ∷ vs) = refl

-- ---- acts of the language

-- an object of a literal
make_lifts : {w : List Mark} (parts : List (Part × List ℕ)) (vs : List Val) → Lift a_value w (tracked.make_object parts vs) (plain.make_object parts (values_of vs))
unfolding tracked.make_object plain.make_object
make_lifts parts vs = record {
  yields = λ s r. goes_to r (ap (λ n. value.Object (id n)) (sym (length_erased s.heap))) (ap (λ (h : List PlainObject). record (erased s) { heap = h }) (pushed_erased s.heap _ ∙ ap (λ p. erased_heap s.heap ++ p ∷ []) (literal_erased parts vs _)));
  extends = λ s. goes_extends _ (record s { heap = _ });
}

-- an array of a literal
make_array_lifts : {w : List Mark} (places : List ℕ) (n : ℕ) (vs : List Val) → Lift a_value w (tracked.make_array places n vs) (plain.make_array places n (values_of vs))
unfolding tracked.make_array plain.make_array
make_array_lifts places n vs = record {
  yields = λ s r. goes_to r (ap (λ n. value.Object (id n)) (sym (length_erased s.heap))) (ap (λ (h : List PlainObject). record (erased s) { heap = h }) (pushed_erased s.heap _ ∙ ap (λ p. erased_heap s.heap ++ p ∷ []) (array_erased n places vs _)));
  extends = λ s. goes_extends _ (record s { heap = _ });
}

-- a value that is needed
needed_lifts : {w : List Mark} (b : Bool) (v : Val) → Lift a_value w (tracked.needed b v) (plain.needed b v.value)
unfolding tracked.needed plain.needed
needed_lifts true v = record { yields = λ s r. goes r; extends = goes_extends _ }
needed_lifts false v = record { yields = λ s r. throws_yields _ _ s r; extends = throws_extends _ }

-- whether something is found
is_found_erased : (f : Option (ℕ × Slot Label)) → is_found (erased_found f) ≡ is_found f
is_found_erased None = refl
is_found_erased (Some f) = refl

-- whether a primitive value has a key, or its prototype
has_primitive_yields : {w : List Mark} (known : Option Primitive) (label : Label) (walk : Found) (s : scopes.State) → Shaped w s.frames
    → Yields a_value w (tracked.has_of_primitive known label walk s) (Goes (value.Primitive (prims.Bool (has_of_primitive known (erased_found walk.at)))) (erased s))
unfolding tracked.has_of_primitive
has_primitive_yields None label walk s r = goes_to r (ap (λ b. value.Primitive (prims.Bool b)) (sym (is_found_erased walk.at))) refl
has_primitive_yields (Some v) label walk s r = goes r

-- whether an object has a key
has_lifts : {w : List Mark} (label : Label) (key : List ℕ) (v : Value) → Lift a_value w (tracked.has label key v) (plain.has key v)
unfolding tracked.has plain.has
has_lifts {w} label key (value.Primitive p) = record {
  yields = λ s r. subst (λ f. Yields a_value w (tracked.has label key (value.Primitive p) s) (Goes (value.Primitive (prims.Bool (has_of_primitive (own_value_of p key) f))) (erased s))) (sym (found_along_erased key s.heap (prototype_of_primitive p)))
      (has_primitive_yields (own_value_of p key) label (find key (tracked.primitive_chain s.heap p)) s r);
  extends = λ s. goes_extends _ s;
}
has_lifts label key (value.Object o) = record {
  yields = λ s r. goes_to r (ap (λ b. value.Primitive (prims.Bool b)) (sym (ap (λ f. is_found f) (find_erased key s.heap o.0) ∙ is_found_erased (find key (object_chain s.heap o.0)).at))) refl;
  extends = λ s. goes_extends _ s;
}

-- ---- acts on an object that a value is

on_object_lifts : {X Y : Type 0} {erase : X → Y} {w : List Mark} (label : Label) (v : Value) {f : ℕ → L X} {g : ℕ → P Y} → ((o : ℕ) → LiftBy erase w (f o) (g o)) → LiftBy erase w (tracked.on_object_in label v f) (plain.on_object v g)
unfolding tracked.on_object_in plain.on_object
on_object_lifts label (value.Primitive p) h = record { yields = λ s r. throws_yields _ _ s r; extends = throws_extends _ }
on_object_lifts label (value.Object o) h = record { yields = (h o.0).yields; extends = (h o.0).extends }

-- a part of an own property
known_erased : (part : OwnPart) (label structure : Label) (s : Option (Slot Label)) → (known_of part label structure s).value ≡ part_or_undefined part (option_map erased_slot s)
known_erased part label structure None = refl
known_erased part label structure (Some s) = refl

part_yields : {w : List Mark} (part : OwnPart) (key : List ℕ) (label : Label) (p : Option (Object Label)) (s : scopes.State) → Shaped w s.frames
    → Yields a_value w (tracked.own_property_in part key label p s) (Goes (part_or_undefined part (own_in key (option_map erased_object p))) (erased s))
unfolding tracked.own_property_in
part_yields part key label None s r = goes r
part_yields part key label (Some p) s r = goes_to r (known_erased part label p.structure (own key p.rows) ∙ ap (part_or_undefined part) (sym (own_erased key p.rows))) refl

part_lifts : {w : List Mark} (part : OwnPart) (key : List ℕ) (label : Label) (o : ℕ) → Lift a_value w (λ s. tracked.own_property_in part key label (slice_get s.heap o) s) (λ s. Goes (part_or_undefined part (own_in key (slice_get s.heap o))) s)
part_lifts {w} part key label o = record {
  yields = λ s r. subst (λ x. Yields a_value w (tracked.own_property_in part key label (slice_get s.heap o) s) (Goes (part_or_undefined part (own_in key x)) (erased s))) (sym (object_erased s.heap o)) (part_yields part key label (slice_get s.heap o) s r);
  extends = λ s. goes_extends _ s;
}

-- a definition
define_yields : {w : List Mark} (p : Option (Object Label)) (label : Label) (o : ℕ) (key : List ℕ) (marks : GivenMarks) (shape : Shape) (v g set : Val) (s : scopes.State) → slice_get s.heap o ≡ p → Shaped w s.frames
    → YieldsBy erased_defining w (tracked.define_in p label o key marks shape v g set s) (plain.define_in (option_map erased_object p) o key marks shape v.value g.value set.value (erased s))
unfolding tracked.define_in plain.define_in
define_yields None label o key marks shape v g set s e r = throws_yields _ _ s r
define_yields (Some p) label o key marks shape v g set s e r = given_yields p marks shape (given_body (erased_heap s.heap) marks shape v.value g.value set.value) _ _ o key s e r

define_by_extends : (o : ℕ) (key : List ℕ) (p : Option Property) (s : State) → Extends s.lines (plain.define_by o key p s)
unfolding plain.define_by
define_by_extends o key None s = throws_extends _ s
define_by_extends o key (Some p) s = goes_extends plain.is_defined (record s { heap = _ })

given_extends : (p : PlainObject) (o : ℕ) (key : List ℕ) (marks : GivenMarks) (shape : Shape) (body : Option GivenBody) (s : State) → Extends s.lines (plain.define_given p o key marks shape body s)
unfolding plain.define_given
given_extends p o key marks shape None s = throws_extends _ s
given_extends p o key marks shape (Some body) s = by_case (is_length p.class key && shape.has_value)
  where
    by_case : (b : Bool) → Extends s.lines (choose b (ret (plain.has_length_given o marks)) (plain.define_by o key (behind_definition (may_add key p) (own key p.rows) (record { marks = marks; body = body }))) s)
    by_case true = goes_extends (plain.has_length_given o marks) s
    by_case false = define_by_extends o key _ s

define_extends : (p : Option PlainObject) (o : ℕ) (key : List ℕ) (marks : GivenMarks) (shape : Shape) (v g set : Value) (s : State) → Extends s.lines (plain.define_in p o key marks shape v g set s)
unfolding plain.define_in
define_extends None o key marks shape v g set s = throws_extends _ s
define_extends (Some p) o key marks shape v g set s = given_extends p o key marks shape (given_body s.heap marks shape v g set) s

pub defining_lifts : {w : List Mark} (key : List ℕ) (marks : GivenMarks) (shape : Shape) (base v g set : Val)
    → LiftBy erased_defining w (tracked.defining key marks shape base v g set) (plain.defining key marks shape base.value v.value g.value set.value)
unfolding tracked.defining plain.defining
defining_lifts {w} key marks shape base v g set = on_object_lifts base.label base.value (λ o. record {
  yields = λ s r. subst (λ x. YieldsBy erased_defining w (tracked.define_in (slice_get s.heap o) base.label o key marks shape v g set s) (plain.define_in x o key marks shape v.value g.value set.value (erased s))) (sym (object_erased s.heap o))
      (define_yields (slice_get s.heap o) base.label o key marks shape v g set s refl r);
  extends = λ s. define_extends (slice_get s.heap o) o key marks shape v.value g.value set.value s;
})

-- the prototype of an object
prototype_yields : {w : List Mark} (label : Label) (p : Option (Object Label)) (s : scopes.State) → Shaped w s.frames → Yields a_value w (tracked.prototype_in label p s) (Goes (requested.prototype_in (option_map erased_object p)) (erased s))
unfolding tracked.prototype_in
prototype_yields label None s r = goes r
prototype_yields label (Some p) s r = goes r

prototype_lifts : {w : List Mark} (label : Label) (o : ℕ) → Lift a_value w (λ s. tracked.prototype_in label (slice_get s.heap o) s) (λ s. Goes (requested.prototype_in (slice_get s.heap o)) s)
prototype_lifts {w} label o = record {
  yields = λ s r. subst (λ x. Yields a_value w (tracked.prototype_in label (slice_get s.heap o) s) (Goes (requested.prototype_in x) (erased s))) (sym (object_erased s.heap o)) (prototype_yields label (slice_get s.heap o) s r);
  extends = λ s. goes_extends _ s;
}

-- whether it may get further properties, and that it may not
extensible_yields : {w : List Mark} (label : Label) (p : Option (Object Label)) (s : scopes.State) → Shaped w s.frames → Yields a_value w (tracked.extensible_in label p s) (Goes (truth_value (requested.extensible_in (option_map erased_object p))) (erased s))
unfolding tracked.extensible_in
extensible_yields label None s r = goes r
extensible_yields label (Some p) s r = goes r

extensible_lifts : {w : List Mark} (label : Label) (o : ℕ) → Lift a_value w (λ s. tracked.extensible_in label (slice_get s.heap o) s) (λ s. Goes (truth_value (requested.extensible_in (slice_get s.heap o))) s)
extensible_lifts {w} label o = record {
  yields = λ s r. subst (λ x. Yields a_value w (tracked.extensible_in label (slice_get s.heap o) s) (Goes (truth_value (requested.extensible_in x)) (erased s))) (sym (object_erased s.heap o)) (extensible_yields label (slice_get s.heap o) s r);
  extends = λ s. goes_extends _ s;
}

prevent_lifts : {w : List Mark} (label : Label) (o : ℕ) → Lift a_value w (tracked.prevent label o) (λ s. Goes undefined (record s { heap = with_object o (λ p. record p { extensible = false }) s.heap }))
unfolding tracked.prevent
prevent_lifts label o = record { yields = λ s r. acted_yields a_value _ s r (prevent_does o _ s.heap); extends = λ s. goes_extends undefined (record s { heap = _ }) }

-- origins are joined to labels, which is nothing without labels
structure_lifts : {w : List Mark} (origins : List ℕ) (label : Label) (o : ℕ) → Lift a_value w (tracked.raise_structure origins label o) (ret undefined)
unfolding tracked.raise_structure
structure_lifts origins label o = record { yields = λ s r. acted_yields a_value _ s r (raise_structure_does o _ _ s.heap); extends = goes_extends _ }

existence_lifts : {w : List Mark} (origins : List ℕ) (label : Label) (key : List ℕ) (o : ℕ) → Lift a_value w (tracked.raise_existence origins label key o) (ret undefined)
unfolding tracked.raise_existence
existence_lifts origins label key o = record { yields = λ s r. acted_yields a_value _ s r (raise_existence_does o key _ _ s.heap); extends = goes_extends _ }

-- ---- new objects and bound functions

-- an object that there may be
pub erased_in_is : (p : Option (Object Label)) → labelled.erased_in p ≡ option_map erased_object p
erased_in_is None = refl
erased_in_is (Some p) = refl

make_new_lifts : {w : List Mark} (c : Class) (proto : Option ObjId) (label : Label) → Lift a_value w (tracked.make_new c proto label) (plain.make_new c proto)
unfolding tracked.make_new plain.make_new
make_new_lifts c proto label = record {
  yields = λ s r. goes_to r (ap (λ n. value.Object (id n)) (sym (length_erased s.heap)))
      (ap (λ (h : List PlainObject). record (erased s) { heap = h }) (pushed_erased s.heap _ ∙ ap (λ p. erased_heap s.heap ++ p ∷ []) (object_made (context s.frames) (made_of c proto))));
  extends = λ s. goes_extends _ (record s { heap = _ });
}

-- with a prototype that stands in the heap
pub standing_erased : (heap : List (Object Label)) (o : ObjId) → plain.standing (erased_heap heap) o ≡ tracked.standing heap o
standing_erased heap o = ap (standing_or_default o) (object_erased heap o.0 ∙ sym (erased_in_is (slice_get heap o.0)))

given_standing : (heap : List (Object Label)) (o : Option ObjId) → option_map (plain.standing (erased_heap heap)) o ≡ option_map (tracked.standing heap) o
given_standing heap None = refl
given_standing heap (Some o) = ap Some (standing_erased heap o)

make_new_by_lifts : {w : List Mark} (c : Class) (v : Val) → Lift a_value w (tracked.make_new_by c v) (plain.make_new_by c v.value)
unfolding tracked.make_new_by plain.make_new_by
make_new_by_lifts {w} c v = record {
  yields = λ s r. subst (λ x. Yields a_value w (tracked.make_new c (option_map (tracked.standing s.heap) (prototype_given v.value)) v.label s) (plain.make_new c x (erased s))) (sym (given_standing s.heap (prototype_given v.value)))
      ((make_new_lifts c (option_map (tracked.standing s.heap) (prototype_given v.value)) v.label).yields s r);
  extends = λ s. (make_new_lifts {w = []} c (option_map (plain.standing s.heap) (prototype_given v.value)) bottom).extends s;
}

-- the own keys of an object
keys_in_erased : (all : Bool) (o : Option (Object Label)) → plain.keys_in all (option_map erased_object o) ≡ tracked.keys_in all o
keys_in_erased all None = refl
keys_in_erased all (Some p) = refl

list_keys_lifts : {w : List Mark} (all : Bool) (label : Label) (o : ℕ) → Lift a_value w (tracked.list_keys all label o) (plain.list_keys all o)
unfolding tracked.list_keys plain.list_keys
list_keys_lifts all label o = record {
  yields = λ s r. goes_to r (ap (λ n. value.Object (id n)) (sym (length_erased s.heap)))
      (ap (λ (h : List PlainObject). record (erased s) { heap = h }) (pushed_erased s.heap _ ∙ ap (λ p. erased_heap s.heap ++ p ∷ [])
      (object_made (context s.frames) _ ∙ ap array_of_texts (sym (ap (plain.keys_in all) (object_erased s.heap o) ∙ keys_in_erased all (slice_get s.heap o))))));
  extends = λ s. goes_extends _ (record s { heap = _ });
}

-- whether a value is a function
pub function_in_erased : (o : Option (Object Label)) → requested.is_function_in (option_map erased_object o) ≡ labelled.is_function_in o
function_in_erased None = refl
function_in_erased (Some p) = refl

function_at_erased : (heap : List (Object Label)) (v : Value) → requested.is_function_at (erased_heap heap) v ≡ labelled.is_function_at heap v
function_at_erased heap (value.Primitive p) = refl
function_at_erased heap (value.Object o) = ap requested.is_function_in (object_erased heap o.0) ∙ function_in_erased (slice_get heap o.0)

bind_value_yields : {w : List Mark} (v : Value) (target this : Val) (args : List Val) (s : scopes.State) → Shaped w s.frames → Yields a_value w (tracked.bind_value v target this args s) (plain.bind_to true v this.value (values_of args) (erased s))
unfolding tracked.bind_value tracked.bind_object plain.bind_to
bind_value_yields (value.Primitive p) target this args s r = throws_yields _ _ s r
bind_value_yields (value.Object o) target this args s r =
    goes_to r (ap (λ n. value.Object (id n)) (sym (length_erased s.heap)))
    (ap (λ (h : List PlainObject). record (erased s) { heap = h })
    (pushed_erased s.heap _ ∙ ap (λ p. erased_heap s.heap ++ p ∷ [])
    (bound_erased o target.label this args (labelled.length_label (slice_get s.heap o.0)) (bound_count (labelled.erased_in (slice_get s.heap o.0)) (length args)) (context s.frames)
    ∙ ap₂ (λ x n. requested.bound_object o this.value (values_of args) (bound_count x n)) (erased_in_is (slice_get s.heap o.0) ∙ sym (object_erased s.heap o.0)) (sym (values_length args)))))

refused_yields : {w : List Mark} (v : Value) (target : Val) (this : Value) (args : List Value) (s : scopes.State) → Shaped w s.frames → Yields a_value w (tracked.throw_error kinds.TypeError target.label s) (plain.bind_to false v this args (erased s))
unfolding plain.bind_to
refused_yields (value.Primitive p) target this args s r = throws_yields _ _ s r
refused_yields (value.Object o) target this args s r = throws_yields _ _ s r

bind_yields : {w : List Mark} (b : Bool) (target this : Val) (args : List Val) (s : scopes.State) → Shaped w s.frames → Yields a_value w (tracked.bind_to b target this args s) (plain.bind_to b target.value this.value (values_of args) (erased s))
unfolding tracked.bind_to
bind_yields true target this args s r = bind_value_yields target.value target this args s r
bind_yields false target this args s r = refused_yields target.value target this.value (values_of args) s r

bind_extends : (b : Bool) (v this : Value) (args : List Value) (s : State) → Extends s.lines (plain.bind_to b v this args s)
unfolding plain.bind_to
bind_extends true (value.Object o) this args s = goes_extends _ (record s { heap = _ })
bind_extends true (value.Primitive p) this args s = throws_extends _ s
bind_extends false (value.Object o) this args s = throws_extends _ s
bind_extends false (value.Primitive p) this args s = throws_extends _ s

bind_lifts_to : {w : List Mark} (target this : Val) (args : List Val)
    → Lift a_value w (λ s. tracked.bind_to (labelled.is_function_at s.heap target.value) target this args s) (λ s. plain.bind_to (requested.is_function_at s.heap target.value) target.value this.value (values_of args) s)
bind_lifts_to {w} target this args = record {
  yields = λ s r. subst (λ b. Yields a_value w (tracked.bind_to (labelled.is_function_at s.heap target.value) target this args s) (plain.bind_to b target.value this.value (values_of args) (erased s))) (sym (function_at_erased s.heap target.value))
      (bind_yields (labelled.is_function_at s.heap target.value) target this args s r);
  extends = λ s. bind_extends (requested.is_function_at s.heap target.value) target.value this.value (values_of args) s;
}

-- origins that are declared
origins_lifts : {w : List Mark} (b : Bool) {m : L Val} {n : P Value} → Lift a_value w m n → Lift a_value w (tracked.if_origins b m) (plain.if_origins b n)
unfolding tracked.if_origins plain.if_origins
origins_lifts true l = record { yields = l.yields; extends = l.extends }
origins_lifts false l = record { yields = λ s r. ends; extends = ends_extends _ }

-- ---- with the channels and the origins of a policy

module _ (tables : Tables) (inputs : Given) where
  -- a read of a channel, or of none
  read_lifts : {w : List Mark} (i : Option ℕ) (name : Label) → Lift a_value w (tracked.read_channel tables inputs i name) (plain.read_channel tables inputs i)
  unfolding tracked.read_channel plain.read_channel
  read_lifts None name = record { yields = λ s r. ends; extends = ends_extends _ }
  read_lifts (Some i) name = record { yields = λ s r. under_yields W11 _ _ _ s (goes r) (goes_extends _ (record (erased s) { positions = _ })); extends = λ s. goes_extends _ (record s { positions = _ }) }

  -- a text is printed
  text_lifts : {w : List Mark} (i : ℕ) (label : Label) (v : Value) → Lift a_value w (tracked.print_text tables inputs i label v) (plain.print_text tables inputs i v)
  unfolding tracked.print_text plain.print_text
  text_lifts i label (value.Object o) = record { yields = λ s r. ends; extends = ends_extends _ }
  text_lifts i label (value.Primitive Undefined) = record { yields = λ s r. ends; extends = ends_extends _ }
  text_lifts i label (value.Primitive Null) = record { yields = λ s r. ends; extends = ends_extends _ }
  text_lifts i label (value.Primitive (prims.Bool b)) = record { yields = λ s r. ends; extends = ends_extends _ }
  text_lifts i label (value.Primitive (Num n)) = record { yields = λ s r. ends; extends = ends_extends _ }
  text_lifts i label (value.Primitive (Str text)) = record {
    yields = λ s r. under_yields W12 _ _ _ s (goes_to r refl (ap (λ (x : List plain.Line). record (erased s) { lines = x }) (map_push erased_line s.lines _))) (record { rest = _; lines_are = refl });
    extends = λ s. record { rest = _; lines_are = refl };
  }

  -- a line on a channel, or on none
  print_lifts : {w : List Mark} (i : Option ℕ) (name : Label) (v : Val) → Lift a_value w (tracked.print_channel tables inputs i name v) (plain.print_channel tables inputs i v.value)
  unfolding tracked.print_channel plain.print_channel
  print_lifts None name v = record { yields = λ s r. ends; extends = ends_extends _ }
  print_lifts (Some i) name v = let l = text_lifts i _ v.value in record { yields = l.yields; extends = l.extends }

  -- origins are asked about first
  with_origins_lifts : {w : List Mark} (origins : List ℕ) {m : L Val} {n : P Value} → Lift a_value w m n → Lift a_value w (tracked.with_origins tables inputs origins m) (plain.with_origins tables inputs origins n)
  unfolding tracked.with_origins plain.with_origins
  with_origins_lifts origins l = let k = origins_lifts (are_origins (length tables.origins) origins) l in record { yields = k.yields; extends = k.extends }

  -- an act on values
  pub act_lifts : {w : List Mark} (f : Act) (vs : List Val) → Lift a_value w (tracked.act tables inputs f vs) (plain.act tables inputs f (values_of vs))
  unfolding tracked.act plain.act
  act_lifts (object_of parts) vs = make_lifts parts vs
  act_lifts (array_of places n) vs = make_array_lifts places n vs
  act_lifts {w} base_needed vs = subst (λ x. Lift a_value w (tracked.act tables inputs base_needed vs) (plain.needed (is_coercible x) x)) (sym (argument_erased 0 vs)) (needed_lifts _ (argument 0 vs))
  act_lifts {w} object_needed vs = subst (λ x. Lift a_value w (tracked.act tables inputs object_needed vs) (plain.needed (is_object x) x)) (sym (argument_erased 0 vs)) (needed_lifts _ (argument 0 vs))
  act_lifts {w} has_key vs =
      subst (λ x. Lift a_value w (tracked.act tables inputs has_key vs) (plain.has (key_text x) (argument_or undefined 1 (values_of vs)))) (sym (argument_erased 0 vs))
      (subst (λ x. Lift a_value w (tracked.act tables inputs has_key vs) (plain.has (key_text (argument 0 vs).value) x)) (sym (argument_erased 1 vs)) (has_lifts _ _ (argument 1 vs).value))
  act_lifts (throws_error kind) vs = record { yields = λ s r. throws_yields _ _ s r; extends = throws_extends _ }
  act_lifts {w} (own_property part key) vs =
      subst (λ x. Lift a_value w (tracked.act tables inputs (own_property part key) vs) (plain.on_object x (λ o s. Goes (part_or_undefined part (own_in key (slice_get s.heap o))) s))) (sym (argument_erased 0 vs))
      (on_object_lifts _ (argument 0 vs).value (λ o. part_lifts part key _ o))
  act_lifts {w} (own_keys all) vs = subst (λ x. Lift a_value w (tracked.act tables inputs (own_keys all) vs) (plain.on_object x (plain.list_keys all))) (sym (argument_erased 0 vs)) (on_object_lifts _ (argument 0 vs).value (list_keys_lifts all _))
  act_lifts {w} prototype_of_object vs =
      subst (λ x. Lift a_value w (tracked.act tables inputs prototype_of_object vs) (plain.on_object x (λ o s. Goes (requested.prototype_in (slice_get s.heap o)) s))) (sym (argument_erased 0 vs)) (on_object_lifts _ (argument 0 vs).value (λ o. prototype_lifts _ o))
  act_lifts {w} is_extensible vs =
      subst (λ x. Lift a_value w (tracked.act tables inputs is_extensible vs) (plain.on_object x (λ o s. Goes (truth_value (requested.extensible_in (slice_get s.heap o))) s))) (sym (argument_erased 0 vs)) (on_object_lifts _ (argument 0 vs).value (λ o. extensible_lifts _ o))
  act_lifts {w} prevent_extensions vs =
      subst (λ x. Lift a_value w (tracked.act tables inputs prevent_extensions vs) (plain.on_object x (λ o s. Goes undefined (record s { heap = with_object o (λ p. record p { extensible = false }) s.heap })))) (sym (argument_erased 0 vs))
      (on_object_lifts _ (argument 0 vs).value (λ o. prevent_lifts _ o))
  act_lifts (new_object c false) vs = make_new_lifts c (Some (class_prototype c)) bottom
  act_lifts {w} (new_object c true) vs = subst (λ x. Lift a_value w (tracked.act tables inputs (new_object c true) vs) (plain.make_new_by c x)) (sym (argument_erased 0 vs)) (make_new_by_lifts c (argument 0 vs))
  act_lifts {w} bind vs =
      subst (λ x. Lift a_value w (tracked.act tables inputs bind vs) (λ s. plain.bind_to (requested.is_function_at s.heap x) x (argument_or undefined 1 (values_of vs)) (others (others (values_of vs))) s)) (sym (argument_erased 0 vs))
      (subst (λ x. Lift a_value w (tracked.act tables inputs bind vs) (λ s. plain.bind_to (requested.is_function_at s.heap (argument 0 vs).value) (argument 0 vs).value x (others (others (values_of vs))) s)) (sym (argument_erased 1 vs))
      (subst (λ xs. Lift a_value w (tracked.act tables inputs bind vs) (λ s. plain.bind_to (requested.is_function_at s.heap (argument 0 vs).value) (argument 0 vs).value (argument 1 vs).value xs s)) (sym (ap (λ xs. others xs) (others_erased vs) ∙ others_erased (others vs)))
      (bind_lifts_to (argument 0 vs) (argument 1 vs) (others (others vs)))))
  act_lifts {w} read_line vs = subst (λ x. Lift a_value w (tracked.act tables inputs read_line vs) (plain.read_channel tables inputs (channel_of tables.inputs x))) (sym (argument_erased 0 vs)) (read_lifts _ _)
  act_lifts {w} print_line vs =
      subst (λ x. Lift a_value w (tracked.act tables inputs print_line vs) (plain.print_channel tables inputs (channel_of tables.outputs x) (argument_or undefined 1 (values_of vs)))) (sym (argument_erased 0 vs))
      (subst (λ x. Lift a_value w (tracked.act tables inputs print_line vs) (plain.print_channel tables inputs (channel_of tables.outputs (argument 0 vs).value) x)) (sym (argument_erased 1 vs)) (print_lifts _ _ (argument 1 vs)))
  act_lifts {w} (join_label origins) vs =
      subst (λ x. Lift a_value w (tracked.act tables inputs (join_label origins) vs) (plain.with_origins tables inputs origins (ret x))) (sym (argument_erased 0 vs))
      (with_origins_lifts origins (ret_lifts a_value w (joined _ (argument 0 vs)) (argument 0 vs).value refl))
  act_lifts {w} (raise_structure origins) vs =
      subst (λ x. Lift a_value w (tracked.act tables inputs (raise_structure origins) vs) (plain.with_origins tables inputs origins (plain.on_object x (λ o. ret undefined)))) (sym (argument_erased 0 vs))
      (with_origins_lifts origins (on_object_lifts _ (argument 0 vs).value (λ o. structure_lifts origins _ o)))
  act_lifts {w} (raise_existence key origins) vs =
      subst (λ x. Lift a_value w (tracked.act tables inputs (raise_existence key origins) vs) (plain.with_origins tables inputs origins (plain.on_object x (λ o. ret undefined)))) (sym (argument_erased 0 vs))
      (with_origins_lifts origins (on_object_lifts _ (argument 0 vs).value (λ o. existence_lifts origins _ key o)))
