-- What a labelled computation does with references, and its turns, is what the unlabelled one does.
use Rattle.std.proofs.Common.{◌≡◌, ℕ, zero, suc, Bool, true, false, List, [], ◌∷◌, ◌++◌, length, cond, Option, Some, None, Result, Ok, Err, slice_get, slice_set, refl, sym, ◌∙◌, ap, ap₂, subst}
use Rattle.std.specs.Option.{option_map}
use Rattle.origin_labels.specs.Label.{Label, bottom, union}
use Rattle.origin_labels.specs.Names.{same_name}
use Rattle.flow_frames.specs.declared.faults.Rule.{Rule}
use Rattle.flow_frames.specs.declared.faults.Rule.TheVariants.{W1, W2}
use Rattle.js_number.specs.declared.primitive.Primitive.{Primitive}
use Rattle.js_number.specs.declared.primitive.Primitive.TheVariants.{Undefined, Null, Num, Str}
use Rattle.js_number.specs.declared.primitive.Primitive.TheVariants as prims
use Rattle.js_values.specs.declared.ids.ObjId.{ObjId}
use Rattle.js_values.specs.declared.value.Value.{Value}
use Rattle.js_values.specs.declared.value.Value.TheVariants as value
use Rattle.js_values.specs.declared.property.Body.{Body}
use Rattle.js_values.specs.declared.property.Body.TheVariants.{Data, Accessor}
use Rattle.js_values.specs.declared.property.Slot.{Slot}
use Rattle.js_values.specs.Chains.{beginning, onwards, chain_within}
use Rattle.js_values.specs.Objects.{Property, PlainObject, Object, own}
use Rattle.js_values.specs.Records.{Binding, Bindings, Record, found, rebound, if_has, first_with, lookup, bound_in}
use Rattle.js_values.specs.Walks.{plain_chain, object_chain, plain_find, find}
use Rattle.native_protocol.specs.declared.request.ErrorKind.{ErrorKind}
use Rattle.native_protocol.specs.declared.request.ErrorKind.TheVariants as kinds
use Rattle.native_protocol.specs.declared.request.Seen.TheVariants as seen_as
use Rattle.object_heap.specs.Acts.{Acted}
use Rattle.prototype_walk.specs.declared.plan.PutPlan.{PutPlan}
use Rattle.prototype_walk.specs.declared.plan.PutPlan.TheVariants.{Setter, Write}
use Rattle.prototype_walk.specs.KeyLists.{Keys}
use Rattle.js_ast.specs.declared.operators.UnaryOperator.{UnaryOperator}
use Rattle.es_meaning.specs.Outcomes as es
use Rattle.es_meaning.specs.Outcomes.{throws, Outcome, Goes, Ends, ret, and_then}
use Rattle.es_meaning.specs.Operations.{Ty, One, Res}
use Rattle.es_meaning.specs.Operations.{Value as a_value}
use Rattle.es_meaning.specs.Operators.{unary_of}
use Rattle.es_meaning.specs.Definitions.{is_accessor, setter_in}
use Rattle.es_meaning.specs.Primitives.{own_value_of, prototype_of_primitive}
use Rattle.es_meaning.specs.Objects.{Plan, writes, adds, refuses, calls, made_by_script, is_length_in, own_in}
use Rattle.es_meaning.specs.Start.{id, global_object}
use Rattle.es_meaning.specs.Start as start
use Rattle.es_meaning.specs.Plain as plain
use Rattle.es_meaning.specs.Plain.{State, P, seen_of, with_value, assigned_in, Place, in_record, on_global, nowhere, place_from, resolved, binding_at}
use Rattle.flow_meaning.specs.Erased.{erased_slot, erased_object, erased_heap, erased_bindings, erased_record, erased_records, unlabelled}
use Rattle.flow_meaning.specs.Scopes as scopes
use Rattle.flow_meaning.specs.Scopes.{Val, Halt, L, joined}
use Rattle.flow_meaning.specs.Tracked as tracked
use Rattle.flow_meaning.specs.Tracked.{error_jump, with_error}
use Rattle.low_equal.proofs.Erased.{Mark, aim_throws, Shaped, erased_result, erased, Extends, goes_extends, jumps_extends, ends_extends, extends_bind, YieldsBy, Yields, goes, ends, stops, LiftBy, Lift, goes_to, ret_by, yields_bind, jump_yields, under_yields, bind_lifts, raise_lifts}
use Rattle.low_equal.proofs.ErasedHeaps.{length_erased, pushed_erased, object_erased, own_erased, Does, does, breaks, write_does, add_does, remove_does, erased_found, find_erased, found_along_erased, enumerable_erased, Plans, both_write, both_add, both_refuse, both_call, HasNot, HasSetter, can_put_erased}

-- ---- records without labels

-- the record with this number
pub record_erased : (records : List (Record Val)) (i : ℕ) → slice_get (erased_records records) i ≡ option_map erased_record (slice_get records i)
record_erased [] i = refl
record_erased (r ∷ records) zero = refl
record_erased (r ∷ records) (suc i) = record_erased records i

-- another record in a place
set_erased : (records : List (Record Val)) (i : ℕ) (r : Record Val) → slice_set (erased_records records) i (erased_record r) ≡ erased_records (slice_set records i r)
set_erased [] i r = refl
set_erased (q ∷ records) zero r = refl
set_erased (q ∷ records) (suc i) r = ap (λ rs. erased_record q ∷ rs) (set_erased records i r)

-- ---- bindings without labels

abbrev pub erased_binding : Binding Val → Binding Value
erased_binding b = record { name = b.name; mutable = b.mutable; value = b.value.value }

-- the first binding of a name, or a later one
found_first : (b : Bool) (first : Binding Val) (o : Option (Binding Val)) → cond b (Some (erased_binding first)) (option_map erased_binding o) ≡ option_map erased_binding (cond b (Some first) o)
found_first true first o = refl
found_first false first o = refl

-- the binding of a name
pub found_erased : (name : List ℕ) (bindings : Bindings Val) → found name (erased_bindings bindings) ≡ option_map erased_binding (found name bindings)
found_erased name [] = refl
found_erased name (b ∷ bindings) = ap (λ o. cond (same_name b.name name) (Some (erased_binding b)) o) (found_erased name bindings) ∙ found_first (same_name b.name name) b (found name bindings)

-- the first binding gets the value, or a later one
rebound_first : (b : Bool) (xs ys : Bindings Val) → cond b (erased_bindings xs) (erased_bindings ys) ≡ erased_bindings (cond b xs ys)
rebound_first true xs ys = refl
rebound_first false xs ys = refl

-- bindings, of which one has another value
pub rebound_erased : (name : List ℕ) (v : Val) (bindings : Bindings Val) → rebound name v.value (erased_bindings bindings) ≡ erased_bindings (rebound name v bindings)
rebound_erased name v [] = refl
rebound_erased name v (b ∷ bindings) =
    ap (λ bs. cond (same_name b.name name) (erased_bindings (record b { value = v } ∷ bindings)) (erased_binding b ∷ bs)) (rebound_erased name v bindings)
    ∙ rebound_first (same_name b.name name) (record b { value = v } ∷ bindings) (b ∷ rebound name v bindings)

-- that of a record that there may be
bound_in_erased : (name : List ℕ) (o : Option (Record Val)) → bound_in name (option_map erased_record o) ≡ option_map erased_binding (bound_in name o)
bound_in_erased name None = refl
bound_in_erased name (Some r) = found_erased name r.bindings

-- that of a name in a record
binding_erased : (records : List (Record Val)) (i : ℕ) (name : List ℕ) → binding_at (erased_records records) i name ≡ option_map erased_binding (binding_at records i name)
binding_erased records i name = ap (bound_in name) (record_erased records i) ∙ bound_in_erased name (slice_get records i)

-- a record gets another value of the name
with_value_erased : (name : List ℕ) (v : Val) (o : Option (Record Val)) (records : List (Record Val)) (i : ℕ) → with_value name v.value (option_map erased_record o) (erased_records records) i ≡ erased_records (with_value name v o records i)
with_value_erased name v None records i = refl
with_value_erased name v (Some r) records i =
    ap (λ (bs : Bindings Value). slice_set (erased_records records) i (record { outer = r.outer; bindings = bs })) (rebound_erased name v r.bindings)
    ∙ set_erased records i (record r { bindings = rebound name v r.bindings })

-- the record with this number
assigned_erased : (name : List ℕ) (v : Val) (records : List (Record Val)) (i : ℕ) → assigned_in name v.value (erased_records records) i ≡ erased_records (assigned_in name v records i)
assigned_erased name v records i = ap (λ o. with_value name v.value o (erased_records records) i) (record_erased records i) ∙ with_value_erased name v (slice_get records i) records i

-- ---- references

-- the record round another
abbrev outer_number : {V : Type 0} → Record V → Option ℕ
outer_number r = option_map (λ e. e.0) r.outer

-- whether the bindings have the name
if_has_erased : (i : ℕ) (o : Option (Binding Val)) (rest : Option ℕ) → if_has i (option_map erased_binding o) rest ≡ if_has i o rest
if_has_erased i None rest = refl
if_has_erased i (Some b) rest = refl

-- the records from one on that there may be
onwards_erased : (name : List ℕ) (records : List (Record Val)) (n : ℕ) (o : Option ℕ)
    → ((i : ℕ) → first_with name (chain_within outer_number (erased_records records) n i) ≡ first_with name (chain_within outer_number records n i))
    → first_with name (onwards o (chain_within outer_number (erased_records records) n)) ≡ first_with name (onwards o (chain_within outer_number records n))
onwards_erased name records n None h = refl
onwards_erased name records n (Some i) h = h i

-- those that begin with a record that there may be
beginning_erased : (name : List ℕ) (records : List (Record Val)) (n i : ℕ) (o : Option (Record Val))
    → ((i : ℕ) → first_with name (chain_within outer_number (erased_records records) n i) ≡ first_with name (chain_within outer_number records n i))
    → first_with name (beginning i (option_map erased_record o) (λ a. onwards (outer_number a) (chain_within outer_number (erased_records records) n)))
    ≡ first_with name (beginning i o (λ a. onwards (outer_number a) (chain_within outer_number records n)))
beginning_erased name records n i None h = refl
beginning_erased name records n i (Some r) h =
    ap₂ (if_has i) (found_erased name r.bindings) (onwards_erased name records n (outer_number r) h)
    ∙ if_has_erased i (found name r.bindings) _

-- the first of so many that has the name
first_erased : (name : List ℕ) (records : List (Record Val)) (n i : ℕ) → first_with name (chain_within outer_number (erased_records records) n i) ≡ first_with name (chain_within outer_number records n i)
first_erased name records zero i = refl
first_erased name records (suc n) i =
    ap (λ o. first_with name (beginning i o (λ a. onwards (outer_number a) (chain_within outer_number (erased_records records) n)))) (record_erased records i)
    ∙ beginning_erased name records n i (slice_get records i) (first_erased name records n)

-- a reference, without labels
abbrev pub erased_reference : tracked.Reference → plain.Reference
erased_reference (tracked.of_name name place walk) = plain.of_name name place
erased_reference (tracked.of_property v key label) = plain.of_property v.value key

-- where a name stands that no record has
place_erased : (o : Option ℕ) (f : Option (ℕ × Slot Label)) → place_from o (erased_found f) ≡ place_from o f
place_erased (Some i) f = refl
place_erased None None = refl
place_erased None (Some f) = refl

-- a name is the same reference
pub resolved_erased : (records : List (Record Val)) (heap : List (Object Label)) (i : ℕ) (name : List ℕ) → resolved (erased_records records) (erased_heap heap) i name ≡ erased_reference (tracked.resolved records heap i name)
resolved_erased records heap i name =
    ap (λ place. plain.of_name name place) (ap₂ (λ o f. place_from o f) (first_erased name records (suc i) i) (find_erased name heap global_object.0) ∙ place_erased (lookup name records i) (find name (object_chain heap global_object.0)).at)

-- ---- exceptions

-- the engine throws
pub throws_yields : {X Y : Type 0} {erase : X → Y} {w : List Mark} (kind : ErrorKind) (cause : Label) (s : scopes.State) → Shaped w s.frames → YieldsBy erase w (tracked.throw_error kind cause s) (plain.throw_error kind (erased s))
unfolding tracked.throw_error plain.throw_error
throws_yields {erase = erase} {w = w} kind cause s r =
    subst (λ n. YieldsBy erase w (tracked.throw_error kind cause s) (es.Jumps (record { exit = throws; value = value.Object (id n) }) (record (erased s) { heap = erased_heap s.heap ++ start.engine_error kind ∷ [] }))) (sym (length_erased s.heap))
    (subst (λ ps. YieldsBy erase w (tracked.throw_error kind cause s) (es.Jumps (record { exit = throws; value = value.Object (id (length s.heap)) }) (record (erased s) { heap = ps }))) (pushed_erased s.heap _)
    (jump_yields cause (error_jump cause (length s.heap)) (with_error kind s) (sym (aim_throws w)) r))

-- which prints nothing
pub throws_extends : {X : Type 0} (kind : ErrorKind) (s : State) → Extends {X = X} s.lines (plain.throw_error kind s)
unfolding plain.throw_error
throws_extends kind s = jumps_extends _ (record s { heap = s.heap ++ start.engine_error kind ∷ [] })

-- ---- operators

-- what an operator gives
given_yields : {w : List Mark} (label : Label) (r : Result Primitive (List ℕ)) (s : scopes.State) → Shaped w s.frames → Yields a_value w (tracked.given label r s) (plain.given r (erased s))
unfolding tracked.given plain.given
given_yields label (Ok v) s r = goes r
given_yields label (Err name) s r = ends

-- which prints nothing
given_extends : (r : Result Primitive (List ℕ)) (s : State) → Extends s.lines (plain.given r s)
unfolding plain.given
given_extends (Ok v) s = goes_extends _ s
given_extends (Err name) s = ends_extends _ s

-- an operator between two values
pub given_lifts : {w : List Mark} (label : Label) (r : Result Primitive (List ℕ)) → Lift a_value w (tracked.given label r) (plain.given r)
given_lifts label r = record { yields = given_yields label r; extends = given_extends r }

-- what can be asked of an object that there may be
class_erased : (o : Option (Object Label)) → seen_of (λ p. seen_as.Object p.class) (option_map erased_object o) ≡ seen_of (λ p. seen_as.Object p.class) o
class_erased None = refl
class_erased (Some p) = refl

-- and of a value
pub seen_erased : (heap : List (Object Label)) (v : Value) → plain.seen (erased_heap heap) v ≡ tracked.seen heap v
unfolding plain.seen tracked.seen
seen_erased heap (value.Primitive p) = refl
seen_erased heap (value.Object o) = ap (seen_of (λ p. seen_as.Object p.class)) (object_erased heap o.0) ∙ class_erased (slice_get heap o.0)

-- an operator in front of a value
pub unary_lifts : {w : List Mark} (o : UnaryOperator) (v : Val) → Lift a_value w (λ s. tracked.given v.label (unary_of o (tracked.seen s.heap v.value)) s) (λ s. plain.given (unary_of o (plain.seen s.heap v.value)) s)
unary_lifts {w} o v = record {
  yields = λ s r. subst (λ x. Yields a_value w (tracked.given v.label (unary_of o (tracked.seen s.heap v.value)) s) (plain.given (unary_of o x) (erased s))) (sym (seen_erased s.heap v.value)) (given_yields v.label (unary_of o (tracked.seen s.heap v.value)) s r);
  extends = λ s. given_extends (unary_of o (plain.seen s.heap v.value)) s;
}

-- ---- the value of a reference

-- the value of a binding, or an exception
bound_yields : {w : List Mark} (o : Option (Binding Val)) (s : scopes.State) → Shaped w s.frames → Yields a_value w (tracked.bound o s) (plain.bound (option_map erased_binding o) (erased s))
unfolding tracked.bound plain.bound
bound_yields (Some b) s r = goes r
bound_yields None s r = throws_yields _ _ s r

-- which prints nothing
bound_extends : (o : Option (Binding Value)) (s : State) → Extends s.lines (plain.bound o s)
unfolding plain.bound
bound_extends (Some b) s = goes_extends _ s
bound_extends None s = throws_extends _ s

-- what a read comes to, without labels, and with the empty ones
abbrev pub erased_access : tracked.Access → plain.Access
erased_access (tracked.has_value v) = plain.has_value v.value
erased_access (tracked.has_getter label f base) = plain.has_getter f base.value

abbrev pub labelled_access : plain.Access → tracked.Access
labelled_access (plain.has_value v) = tracked.has_value (unlabelled v)
labelled_access (plain.has_getter f base) = tracked.has_getter bottom f (unlabelled base)

pub labelled_access_is : (a : plain.Access) → erased_access (labelled_access a) ≡ a
labelled_access_is (plain.has_value v) = refl
labelled_access_is (plain.has_getter f base) = refl

-- a value that is read
access_yields : {w : List Mark} {o : Outcome Halt scopes.Jump Val scopes.State} {p : Outcome es.Halt plain.Jump Value State} → Yields a_value w o p → YieldsBy erased_access w (and_then o (λ v. ret (tracked.has_value v))) (and_then p (λ v. ret (plain.has_value v)))
access_yields y = yields_bind (λ v. ret (tracked.has_value v)) (λ v. ret (plain.has_value v)) y (λ v. ret_by (tracked.has_value v) (plain.has_value v.value) refl) (λ v u. goes_extends _ u)

-- which prints nothing
access_extends : (lines : List plain.Line) (p : Outcome es.Halt plain.Jump Value State) → Extends lines p → Extends lines (and_then p (λ v. ret (plain.has_value v)))
access_extends lines p x = extends_bind lines p (λ v. ret (plain.has_value v)) x (λ v u. goes_extends _ u)

-- what a property holds: a value, or a getter, if there is one
getter_erased : (label : Label) (get : Option ObjId) (base : Val) → erased_access (tracked.getter_or_none label get base) ≡ plain.getter_or_none get base.value
getter_erased label None base = refl
getter_erased label (Some f) base = refl

held_erased : (label : Label) (base : Val) (body : Body) → erased_access (tracked.held label base body) ≡ plain.held base.value body
held_erased label base (Data v) = refl
held_erased label base (Accessor get set) = getter_erased label get base

-- a name of the global object, or an exception
globally_yields : {w : List Mark} (walk : Label) (f : Option (ℕ × Slot Label)) (s : scopes.State) → Shaped w s.frames → YieldsBy erased_access w (tracked.found_globally walk f s) (plain.found_globally (erased_found f) (erased s))
unfolding tracked.found_globally plain.found_globally
globally_yields walk (Some f) s r = goes_to r (held_erased _ tracked.global_value f.1.body) refl
globally_yields walk None s r = throws_yields _ _ s r

-- which prints nothing
globally_extends : (f : Option (ℕ × Property)) (s : State) → Extends s.lines (plain.found_globally f s)
unfolding plain.found_globally
globally_extends (Some f) s = goes_extends _ s
globally_extends None s = throws_extends _ s

-- a property, or undefined
access_found : (place : Label) (base : Val) (f : Option (ℕ × Slot Label)) → erased_access (tracked.found place base f) ≡ plain.found base.value (erased_found f)
access_found place base (Some f) = held_erased _ base f.1.body
access_found place base None = refl

-- an own property of a primitive value, or one of its prototype
primitive_found : (label : Label) (known : Option Primitive) (beyond : tracked.Access) → erased_access (tracked.primitive_access label known beyond) ≡ plain.primitive_access known (erased_access beyond)
primitive_found label None beyond = refl
primitive_found label (Some v) beyond = refl

-- a property of a value
pub property_lifts : {w : List Mark} (label : Label) (base : Val) (v : Value) (key : List ℕ) → base.value ≡ v → LiftBy erased_access w (tracked.property_of label base v key) (plain.property_of v key)
unfolding tracked.property_of plain.property_of
property_lifts label base (value.Primitive p) key e = record {
  yields = λ s r. goes_to r (primitive_found label (own_value_of p key) _ ∙ ap (plain.primitive_access (own_value_of p key)) (access_found _ base (find key (tracked.primitive_chain s.heap p)).at ∙ ap₂ (λ b f. plain.found b f) e (sym (found_along_erased key s.heap (prototype_of_primitive p))))) refl;
  extends = λ s. goes_extends _ s;
}
property_lifts label base (value.Object o) key e = record {
  yields = λ s r. goes_to r (access_found _ base (find key (object_chain s.heap o.0)).at ∙ ap₂ (λ b f. plain.found b f) e (sym (find_erased key s.heap o.0))) refl;
  extends = λ s. goes_extends _ s;
}

-- a name
named_lifts : {w : List Mark} (place : Place) (walk : Label) (name : List ℕ) → LiftBy erased_access w (tracked.named place walk name) (plain.named place name)
unfolding tracked.named plain.named
named_lifts {w} (in_record i) walk name = record {
  yields = λ s r. subst (λ o. YieldsBy erased_access w (tracked.as_access (tracked.bound (binding_at s.records i name)) s) (plain.as_access (plain.bound o) (erased s))) (sym (binding_erased s.records i name)) (access_yields (bound_yields (binding_at s.records i name) s r));
  extends = λ s. access_extends s.lines _ (bound_extends (binding_at s.records i name) s);
}
named_lifts {w} on_global walk name = record {
  yields = λ s r. subst (λ f. YieldsBy erased_access w (tracked.named on_global walk name s) (plain.found_globally f (erased s))) (sym (find_erased name s.heap global_object.0)) (globally_yields _ (find name (object_chain s.heap global_object.0)).at s r);
  extends = λ s. globally_extends (plain_find name (plain_chain s.heap global_object.0)) s;
}
named_lifts nowhere walk name = record { yields = λ s r. throws_yields _ _ s r; extends = throws_extends _ }

-- a reference
pub accessed_lifts : {w : List Mark} (n : tracked.Reference) → LiftBy erased_access w (tracked.accessed n) (plain.accessed (erased_reference n))
unfolding tracked.accessed plain.accessed
accessed_lifts (tracked.of_name name place walk) = let l = named_lifts place walk name in record { yields = l.yields; extends = l.extends }
accessed_lifts (tracked.of_property v key label) = let l = property_lifts _ v v.value key refl in record { yields = l.yields; extends = l.extends }

-- or undefined where a name stands nowhere
pub typeof_lifts : {w : List Mark} (n : tracked.Reference) → LiftBy erased_access w (tracked.accessed_for_typeof n) (plain.accessed_for_typeof (erased_reference n))
unfolding tracked.accessed_for_typeof plain.accessed_for_typeof
typeof_lifts (tracked.of_name name nowhere walk) = record { yields = λ s r. goes r; extends = goes_extends _ }
typeof_lifts (tracked.of_name name (in_record i) walk) = let l = accessed_lifts (tracked.of_name name (in_record i) walk) in record { yields = l.yields; extends = l.extends }
typeof_lifts (tracked.of_name name on_global walk) = let l = accessed_lifts (tracked.of_name name on_global walk) in record { yields = l.yields; extends = l.extends }
typeof_lifts (tracked.of_property v key label) = let l = accessed_lifts (tracked.of_property v key label) in record { yields = l.yields; extends = l.extends }

-- ---- it is given a value

-- an assignment to a binding that can be changed, or that can't
assigned_yields : {w : List Mark} (mutable : Bool) (have : Label) (name : List ℕ) (i : ℕ) (v : Val) (s : scopes.State) → Shaped w s.frames
    → Yields One w (tracked.assigned mutable have name i v s) (plain.assigned mutable name i v.value (erased s))
unfolding tracked.assigned plain.assigned
assigned_yields true have name i v s r =
    under_yields W1 _ have _ s (goes_to r refl (ap (λ (x : List (Record Value)). record (erased s) { records = x }) (sym (assigned_erased name (joined _ v) s.records i))))
    (goes_extends tt (record (erased s) { records = assigned_in name v.value (erased s).records i }))
assigned_yields false have name i v s r = throws_yields _ _ s r

-- which prints nothing
assigned_extends : (mutable : Bool) (name : List ℕ) (i : ℕ) (v : Value) (s : State) → Extends s.lines (plain.assigned mutable name i v s)
unfolding plain.assigned
assigned_extends true name i v s = goes_extends tt (record s { records = assigned_in name v s.records i })
assigned_extends false name i v s = throws_extends _ s

-- an assignment to a binding, or to none
assigned_to_yields : {w : List Mark} (o : Option (Binding Val)) (name : List ℕ) (i : ℕ) (v : Val) (s : scopes.State) → Shaped w s.frames
    → Yields One w (tracked.assigned_to o name i v s) (plain.assigned_to (option_map erased_binding o) name i v.value (erased s))
unfolding tracked.assigned_to plain.assigned_to
assigned_to_yields (Some b) name i v s r = assigned_yields b.mutable _ name i v s r
assigned_to_yields None name i v s r = throws_yields _ _ s r

-- which prints nothing
assigned_to_extends : (o : Option (Binding Value)) (name : List ℕ) (i : ℕ) (v : Value) (s : State) → Extends s.lines (plain.assigned_to o name i v s)
unfolding plain.assigned_to
assigned_to_extends (Some b) name i v s = assigned_extends b.mutable name i v s
assigned_to_extends None name i v s = throws_extends _ s

-- an act on the heap, or a stop by a rule
pub acted_by : {X Y : Type 0} {erase : X → Y} (a : X) {w : List Mark} {g : List PlainObject} {x : Acted (List (Object Label))} (s : scopes.State) → Shaped w s.frames → Does erased_heap g x
    → YieldsBy erase w (tracked.acted a x s) (Goes (erase a) (record (erased s) { heap = g }))
unfolding tracked.acted
acted_by a s r (does e) = goes_to r refl (ap (λ (h : List PlainObject). record (erased s) { heap = h }) e)
acted_by a {g = g} s r (breaks e) = stops e (goes_extends _ (record (erased s) { heap = g }))

pub acted_yields : (t : Ty) (a : Res Val t) {w : List Mark} {g : List PlainObject} {x : Acted (List (Object Label))} (s : scopes.State) → Shaped w s.frames → Does erased_heap g x
    → Yields t w (tracked.acted {X = Res Val t} a x s) (Goes (erased_result t a) (record (erased s) { heap = g }))
acted_yields t a s r d = acted_by a s r d

-- what a put comes to, without labels, and with the empty ones
abbrev pub erased_putting : tracked.Putting → plain.Putting
erased_putting tracked.is_put = plain.is_put
erased_putting (tracked.has_setter label f base) = plain.has_setter f base.value
erased_putting (tracked.has_length label o) = plain.has_length o

abbrev pub labelled_putting : plain.Putting → tracked.Putting
labelled_putting plain.is_put = tracked.is_put
labelled_putting (plain.has_setter f base) = tracked.has_setter bottom f (unlabelled base)
labelled_putting (plain.has_length o) = tracked.has_length bottom o

pub labelled_putting_is : (a : plain.Putting) → erased_putting (labelled_putting a) ≡ a
labelled_putting_is plain.is_put = refl
labelled_putting_is (plain.has_setter f base) = refl
labelled_putting_is (plain.has_length o) = refl

-- a setter that is found
setter_yields : {w : List Mark} (label : Label) (base : Val) (f : ObjId) (slot : Option (Slot Label)) (x : Slot Label) (s : scopes.State) → slot ≡ Some x → setter_in x.body ≡ Some f → Shaped w s.frames
    → YieldsBy erased_putting w (tracked.setter_at label base slot s) (Goes (plain.has_setter f base.value) (erased s))
unfolding tracked.setter_at tracked.setter_found
setter_yields {w} label base f slot x s e q r =
    subst (λ y. YieldsBy erased_putting w (tracked.setter_at label base y s) (Goes (plain.has_setter f base.value) (erased s))) (sym e)
    (subst (λ y. YieldsBy erased_putting w (tracked.setter_found (union label x.label) base y s) (Goes (plain.has_setter f base.value) (erased s))) (sym q) (goes r))

-- a property gets another value, unless it is the `length` of an array
overwritten_yields : {w : List Mark} (b : Bool) (rule : Rule) (o : ℕ) (key : List ℕ) (label : Label) (v : Val) (s : scopes.State) → Shaped w s.frames → YieldsBy erased_putting w (tracked.overwritten b rule o key label v s) (plain.overwritten b o key v.value (erased s))
unfolding tracked.overwritten plain.overwritten
overwritten_yields true rule o key label v s r = goes r
overwritten_yields false rule o key label v s r = acted_by tracked.is_put s r (write_does rule o key _ v s.heap)

-- which prints nothing
overwritten_extends : (b : Bool) (o : ℕ) (key : List ℕ) (v : Value) (s : State) → Extends s.lines (plain.overwritten b o key v s)
unfolding plain.overwritten
overwritten_extends true o key v s = goes_extends _ s
overwritten_extends false o key v s = goes_extends plain.is_put (record s { heap = _ })

-- whether it is that
length_in_erased : (key : List ℕ) (o : Option (Object Label)) → is_length_in key (option_map erased_object o) ≡ tracked.is_length_in key o
length_in_erased key None = refl
length_in_erased key (Some p) = refl

-- a put, as is planned
put_by_yields : {w : List Mark} (rule : Rule) (o : ℕ) (key : List ℕ) (label : Label) (base v : Val) (s : scopes.State) {p : PutPlan Label} {q : Plan} → base.value ≡ value.Object (id o) → Shaped w s.frames
    → Plans (HasNot s.heap o key) (HasSetter s.heap key) p q → YieldsBy erased_putting w (tracked.put_by p rule o key label base v s) (plain.put_by q o key v.value (erased s))
unfolding tracked.put_by plain.put_by
put_by_yields {w} rule o key label base v s b r (both_write {walk = walk}) =
    subst (λ x. YieldsBy erased_putting w (tracked.put_by (Write walk) rule o key label base v s) (plain.overwritten x o key v.value (erased s))) (sym (ap (is_length_in key) (object_erased s.heap o) ∙ length_in_erased key (slice_get s.heap o)))
    (overwritten_yields (tracked.is_length_in key (slice_get s.heap o)) rule o key (union label walk) v s r)
put_by_yields rule o key label base v s b r (both_add absent) = acted_by tracked.is_put s r (add_does o key _ (Data v.value) v.label made_by_script s.heap absent)
put_by_yields rule o key label base v s b r both_refuse = throws_yields _ _ s r
put_by_yields {w} rule o key label base v s b r (both_call {at = at} {f = f} {walk = walk} h) =
    subst (λ x. YieldsBy erased_putting w (tracked.put_by (Setter at walk) rule o key label base v s) (Goes (plain.has_setter f x) (erased s))) b
    (setter_yields (union label walk) base f (tracked.own_in key (slice_get s.heap at.0)) h.slot s h.stands h.setter r)

-- which prints nothing
put_by_extends : (plan : Plan) (o : ℕ) (key : List ℕ) (v : Value) (s : State) → Extends s.lines (plain.put_by plan o key v s)
unfolding plain.put_by
put_by_extends writes o key v s = overwritten_extends (is_length_in key (slice_get s.heap o)) o key v s
put_by_extends adds o key v s = goes_extends plain.is_put (record s { heap = _ })
put_by_extends refuses o key v s = throws_extends _ s
put_by_extends (calls f) o key v s = goes_extends _ s

-- a put on an object
put_lifts : {w : List Mark} (rule : Rule) (o : ℕ) (key : List ℕ) (label : Label) (base v : Val) → base.value ≡ value.Object (id o) → LiftBy erased_putting w (tracked.put rule o key label base v) (plain.put o key v.value)
unfolding tracked.put plain.put
put_lifts {w} rule o key label base v q = record {
  yields = λ s r. put_by_yields rule o key label base v s q r (can_put_erased key s.heap o);
  extends = λ s. put_by_extends _ o key v.value s;
}

-- on a primitive value: the setter of its prototype, or none
setter_if_yields : {w : List Mark} (label : Label) (base : Val) (f : Slot Label) (body : Body) (s : scopes.State) → f.body ≡ body → Shaped w s.frames
    → YieldsBy erased_putting w (tracked.setter_if (is_accessor body) label base f s) (plain.setter_or_refused (setter_in body) base.value (erased s))
unfolding tracked.setter_if tracked.setter_found plain.setter_or_refused
setter_if_yields label base f (Data v) s e r = throws_yields _ _ s r
setter_if_yields {w} label base f (Accessor get None) s e r = subst (λ b. YieldsBy erased_putting w (tracked.setter_found (union label f.label) base (setter_in b) s) (plain.throw_error kinds.TypeError (erased s))) (sym e) (throws_yields _ _ s r)
setter_if_yields {w} label base f (Accessor get (Some g)) s e r = subst (λ b. YieldsBy erased_putting w (tracked.setter_found (union label f.label) base (setter_in b) s) (Goes (plain.has_setter g base.value) (erased s))) (sym e) (goes r)

setter_or_extends : (set : Option ObjId) (base : Value) (s : State) → Extends s.lines (plain.setter_or_refused set base s)
unfolding plain.setter_or_refused
setter_or_extends None base s = throws_extends _ s
setter_or_extends (Some f) base s = goes_extends _ s

beyond_yields : {w : List Mark} (label : Label) (base : Val) (f : Option (ℕ × Slot Label)) (s : scopes.State) → Shaped w s.frames → YieldsBy erased_putting w (tracked.put_beyond label base f s) (plain.put_beyond base.value (erased_found f) (erased s))
unfolding tracked.put_beyond plain.put_beyond
beyond_yields label base None s r = throws_yields _ _ s r
beyond_yields label base (Some f) s r = setter_if_yields label base f.1 f.1.body s refl r

beyond_extends : (base : Value) (f : Option (ℕ × Property)) (s : State) → Extends s.lines (plain.put_beyond base f s)
unfolding plain.put_beyond
beyond_extends base None s = throws_extends _ s
beyond_extends base (Some f) s = setter_or_extends (setter_in f.1.body) base s

on_primitive_lifts : {w : List Mark} (known : Option Primitive) (label : Label) (base : Val) (p : Primitive) (key : List ℕ) → base.value ≡ value.Primitive p → LiftBy erased_putting w (tracked.put_on_primitive known label base p key) (plain.put_on_primitive known p key)
unfolding tracked.put_on_primitive plain.put_on_primitive
on_primitive_lifts (Some v) label base p key e = record { yields = λ s r. throws_yields _ _ s r; extends = throws_extends _ }
on_primitive_lifts {w} None label base p key e = record {
  yields = λ s r. subst (λ b. YieldsBy erased_putting w (tracked.put_on_primitive None label base p key s) (plain.put_beyond b (plain_find key (plain.primitive_chain (erased_heap s.heap) p)) (erased s))) e
      (subst (λ f. YieldsBy erased_putting w (tracked.put_on_primitive None label base p key s) (plain.put_beyond base.value f (erased s))) (sym (found_along_erased key s.heap (prototype_of_primitive p)))
      (beyond_yields _ base (find key (tracked.primitive_chain s.heap p)).at s r));
  extends = λ s. beyond_extends (value.Primitive p) (plain_find key (plain.primitive_chain s.heap p)) s;
}

-- on a value
put_property_lifts : {w : List Mark} (label : Label) (base : Val) (b : Value) (key : List ℕ) (v : Val) → base.value ≡ b → LiftBy erased_putting w (tracked.put_property label base b key v) (plain.put_property b key v.value)
unfolding tracked.put_property plain.put_property
put_property_lifts label base (value.Primitive p) key v e = let l = on_primitive_lifts (own_value_of p key) label base p key e in record { yields = l.yields; extends = l.extends }
put_property_lifts label base (value.Object o) key v e = let l = put_lifts W2 o.0 key label base v e in record { yields = l.yields; extends = l.extends }

-- a value that is put into a binding
putting_yields : {w : List Mark} {o : Outcome Halt scopes.Jump (Unit {0}) scopes.State} {p : Outcome es.Halt plain.Jump (Unit {0}) State} → Yields One w o p → YieldsBy erased_putting w (and_then o (λ u. ret tracked.is_put)) (and_then p (λ u. ret plain.is_put))
putting_yields y = yields_bind (λ u. ret tracked.is_put) (λ u. ret plain.is_put) y (λ u. ret_by tracked.is_put plain.is_put refl) (λ u t. goes_extends _ t)

-- which prints nothing
putting_extends : (lines : List plain.Line) (p : Outcome es.Halt plain.Jump (Unit {0}) State) → Extends lines p → Extends lines (and_then p (λ u. ret plain.is_put))
putting_extends lines p x = extends_bind lines p (λ u. ret plain.is_put) x (λ u t. goes_extends _ t)

-- for a name
put_named_lifts : {w : List Mark} (place : Place) (walk : Label) (name : List ℕ) (v : Val) → LiftBy erased_putting w (tracked.put_named place walk name v) (plain.put_named place name v.value)
unfolding tracked.put_named plain.put_named
put_named_lifts {w} (in_record i) walk name v = record {
  yields = λ s r. subst (λ o. YieldsBy erased_putting w (tracked.as_putting (tracked.assigned_to (binding_at s.records i name) name i v) s) (plain.as_putting (plain.assigned_to o name i v.value) (erased s))) (sym (binding_erased s.records i name)) (putting_yields (assigned_to_yields (binding_at s.records i name) name i v s r));
  extends = λ s. putting_extends s.lines _ (assigned_to_extends (binding_at s.records i name) name i v.value s);
}
put_named_lifts on_global walk name v = let l = put_lifts W1 global_object.0 name bottom tracked.global_value v refl in record { yields = l.yields; extends = l.extends }
put_named_lifts nowhere walk name v = record { yields = λ s r. throws_yields _ _ s r; extends = throws_extends _ }

-- a reference is given a value
pub put_value_lifts : {w : List Mark} (n : tracked.Reference) (v : Val) → LiftBy erased_putting w (tracked.put_value n v) (plain.put_value (erased_reference n) v.value)
unfolding tracked.put_value plain.put_value
put_value_lifts (tracked.of_name name place walk) v = let l = put_named_lifts place walk name v in record { yields = l.yields; extends = l.extends }
put_value_lifts (tracked.of_property base key label) v = let l = put_property_lifts _ base base.value key v refl in record { yields = l.yields; extends = l.extends }

-- ---- it is deleted

-- a property that may be deleted, or that may not
removed_if_yields : {w : List Mark} (b : Bool) (place : Label) (o : ℕ) (key : List ℕ) (s : scopes.State) → Shaped w s.frames → Yields a_value w (tracked.removed_if b place o key s) (plain.removed_if b o key (erased s))
unfolding tracked.removed_if plain.removed_if
removed_if_yields true place o key s r = acted_yields a_value _ s r (remove_does o key _ s.heap)
removed_if_yields false place o key s r = throws_yields _ _ s r

-- which prints nothing
removed_if_extends : (b : Bool) (o : ℕ) (key : List ℕ) (s : State) → Extends s.lines (plain.removed_if b o key s)
unfolding plain.removed_if
removed_if_extends true o key s = goes_extends _ (record s { heap = _ })
removed_if_extends false o key s = throws_extends _ s

-- one that there may be
removed_own_yields : {w : List Mark} (p : Option (Slot Label)) (label structure : Label) (o : ℕ) (key : List ℕ) (s : scopes.State) → Shaped w s.frames
    → Yields a_value w (tracked.removed_own p label structure o key s) (plain.removed_own (option_map erased_slot p) o key (erased s))
unfolding tracked.removed_own plain.removed_own
removed_own_yields None label structure o key s r = goes r
removed_own_yields (Some p) label structure o key s r = removed_if_yields p.marks.configurable _ o key s r

-- which prints nothing
removed_own_extends : (p : Option Property) (o : ℕ) (key : List ℕ) (s : State) → Extends s.lines (plain.removed_own p o key s)
unfolding plain.removed_own
removed_own_extends None o key s = goes_extends _ s
removed_own_extends (Some p) o key s = removed_if_extends p.marks.configurable o key s

-- of an object that there may be
removed_in_yields : {w : List Mark} (p : Option (Object Label)) (label : Label) (o : ℕ) (key : List ℕ) (s : scopes.State) → Shaped w s.frames
    → Yields a_value w (tracked.removed_in p label o key s) (plain.removed_own (own_in key (option_map erased_object p)) o key (erased s))
unfolding tracked.removed_in plain.removed_own
removed_in_yields None label o key s r = goes r
removed_in_yields {w} (Some p) label o key s r =
    subst (λ x. Yields a_value w (tracked.removed_own (own key p.rows) label p.structure o key s) (plain.removed_own x o key (erased s))) (sym (own_erased key p.rows)) (removed_own_yields (own key p.rows) label p.structure o key s r)

-- of a primitive value
removed_of_primitive_lifts : {w : List Mark} (known : Option Primitive) (label : Label) → Lift a_value w (tracked.removed_of_primitive known label) (plain.removed_of_primitive known)
unfolding tracked.removed_of_primitive plain.removed_of_primitive
removed_of_primitive_lifts None label = record { yields = λ s r. goes r; extends = goes_extends _ }
removed_of_primitive_lifts (Some v) label = record { yields = λ s r. throws_yields _ _ s r; extends = throws_extends _ }

-- a property of a value
remove_property_lifts : {w : List Mark} (label : Label) (base : Value) (key : List ℕ) → Lift a_value w (tracked.remove_property label base key) (plain.remove (plain.of_property base key))
unfolding tracked.remove_property plain.remove
remove_property_lifts label (value.Primitive p) key = let l = removed_of_primitive_lifts (own_value_of p key) label in record { yields = l.yields; extends = l.extends }
remove_property_lifts {w} label (value.Object o) key = record {
  yields = λ s r. subst (λ x. Yields a_value w (tracked.removed_in (slice_get s.heap o.0) label o.0 key s) (plain.removed_own (own_in key x) o.0 key (erased s))) (sym (object_erased s.heap o.0))
      (removed_in_yields (slice_get s.heap o.0) label o.0 key s r);
  extends = λ s. removed_own_extends (own_in key (slice_get s.heap o.0)) o.0 key s;
}

-- a reference
pub remove_lifts : {w : List Mark} (n : tracked.Reference) → Lift a_value w (tracked.remove n) (plain.remove (erased_reference n))
unfolding tracked.remove plain.remove
remove_lifts (tracked.of_name name place walk) = record { yields = λ s r. throws_yields _ _ s r; extends = throws_extends _ }
remove_lifts (tracked.of_property base key label) = let l = remove_property_lifts (union base.label label) base.value key in record { yields = l.yields; extends = l.extends }

-- ---- turns and ends

-- a turn is spent, or none is left
spend_yields : {w : List Mark} (n : ℕ) (s : scopes.State) → Shaped w s.frames → Yields One w (tracked.spend n s) (plain.spend n (erased s))
unfolding tracked.spend plain.spend
spend_yields zero s r = ends
spend_yields (suc n) s r = goes r

-- which prints nothing
spend_extends : (n : ℕ) (s : State) → Extends s.lines (plain.spend n s)
unfolding plain.spend
spend_extends zero s = ends_extends _ s
spend_extends (suc n) s = goes_extends tt (record s { turns = n })

-- a turn is spent
pub spend_lifts : (w : List Mark) → Lift One w (λ s. tracked.spend s.turns s) (λ s. plain.spend s.turns s)
spend_lifts w = record { yields = λ s r. spend_yields s.turns s r; extends = λ s. spend_extends s.turns s }

-- a computation that ends
pub ends_lifts : {X Y : Type 0} {erase : X → Y} {w : List Mark} (halt : es.Halt) → LiftBy erase w (tracked.ends halt) (λ s. Ends halt s)
ends_lifts halt = record { yields = λ s r. ends; extends = ends_extends halt }

-- ---- the keys of a value

-- the keys that `for in` takes
list_erased : (heap : List (Object Label)) (v : Value) → plain.key_list (erased_heap heap) v ≡ option_map (λ list. list.keys) (tracked.key_list heap v)
list_erased heap (value.Object o) = ap Some (enumerable_erased heap o.0)
list_erased heap (value.Primitive Undefined) = refl
list_erased heap (value.Primitive Null) = refl
list_erased heap (value.Primitive (prims.Bool b)) = refl
list_erased heap (value.Primitive (Num n)) = refl
list_erased heap (value.Primitive (Str text)) = refl

-- they are handed on, in a frame that is raised
with_list_lifts : {w : List Mark} (list : Option Keys) (label : Label) (f : List (List ℕ) → L (Unit {0})) (g : List (List ℕ) → P (Unit {0})) → ((keys : List (List ℕ)) → Lift One w (f keys) (g keys))
    → Lift One w (tracked.with_list list label f) (plain.with_list (option_map (λ list. list.keys) list) g)
unfolding tracked.with_list plain.with_list
with_list_lifts None label f g h = record { yields = λ s r. ends; extends = ends_extends _ }
with_list_lifts {w} (Some list) label f g h =
    let l = bind_lifts One One w (λ u. f list.keys) (λ u. g list.keys) (raise_lifts (union label list.walk)) (λ u. h list.keys) in
    record { yields = l.yields; extends = l.extends }

-- which adds the lines that are printed with them
with_list_extends : (list : Option (List (List ℕ))) (g : List (List ℕ) → P (Unit {0})) → ((keys : List (List ℕ)) (s : State) → Extends s.lines (g keys s)) → (s : State) → Extends s.lines (plain.with_list list g s)
unfolding plain.with_list
with_list_extends None g h s = ends_extends _ s
with_list_extends (Some keys) g h s = h keys s

-- the keys of a value are handed on
pub keys_lifts : {w : List Mark} (v : Val) (f : List (List ℕ) → L (Unit {0})) (g : List (List ℕ) → P (Unit {0})) → ((keys : List (List ℕ)) → Lift One w (f keys) (g keys))
    → Lift One w (λ s. tracked.with_list (tracked.key_list s.heap v.value) v.label f s) (λ s. plain.with_list (plain.key_list s.heap v.value) g s)
keys_lifts {w} v f g h = record {
  yields = λ s r. subst (λ list. Yields One w (tracked.with_list (tracked.key_list s.heap v.value) v.label f s) (plain.with_list list g (erased s))) (sym (list_erased s.heap v.value))
      ((with_list_lifts (tracked.key_list s.heap v.value) v.label f g h).yields s r);
  extends = λ s. with_list_extends (plain.key_list s.heap v.value) g (λ keys. (h keys).extends) s;
}
