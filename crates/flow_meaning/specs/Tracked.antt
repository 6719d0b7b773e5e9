-- The labelled meaning: the evaluator over values with labels, under the flow rules.
use Rattle.std.specs.Prelude.{ℕ, zero, suc, pos, ◌&&◌, nat_eq, if◌then◌else◌, List, [], ◌∷◌, ◌++◌, Bool, true, false, length, replicate, map, Option, Some, None, Result, Ok, Err, slice_get}
use Rattle.std.specs.Option.{option_map}
use Rattle.origin_labels.specs.Label.{Label, bottom, union, label_of}
use Rattle.flow_policy.specs.declared.policy.Channel.{Channel}
use Rattle.flow_policy.specs.Policies.{Tables}
use Rattle.flow_policy.specs.Inputs.{Given}
use Rattle.flow_frames.specs.declared.kind.Kind.TheVariants as kind
use Rattle.flow_frames.specs.declared.faults.Rule.{Rule}
use Rattle.flow_frames.specs.declared.faults.Rule.TheVariants.{W1, W2, W11, W12}
use Rattle.flow_frames.specs.Frames.{context}
use Rattle.flow_frames.specs.Changes.{pushed}
use Rattle.js_number.specs.declared.int.LeftNumbers.{LeftNumbers}
use Rattle.js_number.specs.declared.num.Num.{Num as Number}
use Rattle.js_number.specs.declared.num.Num.TheVariants.{Int}
use Rattle.js_number.specs.declared.primitive.Primitive.{Primitive}
use Rattle.js_number.specs.declared.primitive.Primitive.TheVariants.{Undefined, Null, Num, Str}
use Rattle.js_number.specs.declared.primitive.Primitive.TheVariants as prims
use Rattle.js_values.specs.declared.ids.ObjId.{ObjId}
use Rattle.js_values.specs.declared.value.Value.{Value}
use Rattle.js_values.specs.declared.value.Value.TheVariants as value
use Rattle.js_values.specs.declared.property.Body.{Body}
use Rattle.js_values.specs.declared.property.Body.TheVariants.{Data, Accessor}
use Rattle.js_values.specs.declared.property.Marks.{Marks}
use Rattle.js_values.specs.declared.property.Slot.{Slot}
use Rattle.js_values.specs.declared.inner.Class.{Class}
use Rattle.js_values.specs.declared.inner.Class.TheVariants as class
use Rattle.js_values.specs.declared.inner.Inner.TheVariants.{Plain}
use Rattle.js_values.specs.Arrays.{length_key, length_body, element_key, is_length, highest}
use Rattle.js_values.specs.Objects.{Property, Object, own, fresh_object}
use Rattle.js_values.specs.Records.{Binding, lookup, Record}
use Rattle.js_values.specs.Walks.{Found, find, object_chain}
use Rattle.native_protocol.specs.declared.hint.Hint.{Hint}
use Rattle.native_protocol.specs.declared.hint.Hint.TheVariants as hint
use Rattle.native_protocol.specs.declared.request.ErrorKind.{ErrorKind}
use Rattle.native_protocol.specs.declared.request.ErrorKind.TheVariants as kinds
use Rattle.native_protocol.specs.declared.request.GivenMarks.{GivenMarks}
use Rattle.native_protocol.specs.declared.request.Seen.{Seen}
use Rattle.native_protocol.specs.declared.request.Seen.TheVariants as seen_as
use Rattle.object_heap.specs.Acts as heap_acts
use Rattle.object_heap.specs.Acts.{Acted}
use Rattle.prototype_walk.specs.declared.plan.PutPlan.{PutPlan}
use Rattle.prototype_walk.specs.declared.plan.PutPlan.TheVariants.{Write, Add, Setter, Refused}
use Rattle.prototype_walk.specs.Plans.{can_put, may_add}
use Rattle.prototype_walk.specs.KeyLists.{Keys, keys, existences, rows_in}
use Rattle.js_ast.specs.Trees.{Function, name_of, body_of, Statements}
use Rattle.js_ast.specs.Functions.{FunctionCode, functions_of}
use Rattle.es_meaning.specs.BuiltIns.{BuiltIns}
use Rattle.es_meaning.specs.Definitions.{GivenBody, a_value, Definition, is_accessor, setter_in, value_in, changes_body, keeps_a_half}
use Rattle.es_meaning.specs.Holders.{constructs_in}
use Rattle.es_meaning.specs.Outcomes as es
use Rattle.es_meaning.specs.Outcomes.{Exit, throws, left, out_of_turns, Ending, done, threw, halted, Outcome, Goes, Jumps, Ends, ret, ◌>>=◌}
use Rattle.es_meaning.specs.Environments.{Env, with_place, called_env, Leaving, aimed}
use Rattle.es_meaning.specs.Operations.{Res, Part, OwnPart, Shape, Act, object_of, array_of, base_needed, object_needed, has_key, throws_error, own_property, own_keys, prototype_of_object, is_extensible, prevent_extensions, new_object, bind, read_line, print_line, join_label, raise_structure as raise_structure_by, raise_existence as raise_existence_by, Entering, Ops}
use Rattle.es_meaning.specs.Operators.{is_object, converts_beside, unary_of, binary_of, leaves_numbers}
use Rattle.es_meaning.specs.Evaluation.{Timed, program_step}
use Rattle.es_meaning.specs.Declared.{declared_functions}
use Rattle.es_meaning.specs.Naming.{names_in_statements}
use Rattle.es_meaning.specs.Functions.{env_id, function_objects, objects_of, references_of, behind_functions, closes_over, own_name, Callee, not_callable, empty_callee, of_script, of_built_in, this_or, callee_of, binds, entry_record, made_if}
use Rattle.es_meaning.specs.Objects.{made_by_script, length_behind}
use Rattle.es_meaning.specs.Primitives.{own_value_of, prototype_of_primitive, chain_from}
use Rattle.es_meaning.specs.Start.{id, global_object, error_prototype, shown}
use Rattle.es_meaning.specs.Plain.{undefined, leaves_channels, leaves_origins, leaves_wrappers, argument_or, others, channel_of, origins_of, value_read, positions_behind, line_at, channel_name, choose, seen_of, first_heap, may_declare, outermost, outermost_env, prototype_name, object_or_default, assigned_in, Place, in_record, on_global, nowhere, place_from, key_text, binding_at, is_coercible, is_found, number_in, count_of, is_count}
use Rattle.es_meaning.specs.Requested.{given_body, behind_definition, behind_length, no_marks, array_of_texts, listed, made_of, reference_or_null, class_prototype, prototype_given, standing_or_default, bound_count, are_origins}
use Rattle.flow_meaning.specs.Erased.{erased_slot, erased_rows, erased_inner, erased_heap, labelled_by, labelled_values, made_object, made_objects, unlabelled, unlabelled_heap}
use Rattle.flow_meaning.specs.Requested.{property_in, literal_object, array_object, definition_test, own_walk, known_of, value_label, body_label, length_label, bound_object, erased_in, Aim, aim_of, arguments_object, is_function_in, is_function_at}
use Rattle.flow_meaning.specs.Scopes.{Val, joined, LabelledLine, Halt, as_plain, stopped, State, Jump, L, under, raise, jump, raise_frame, frame_of, scope, settled_value, fork, round, again, answer, construction, attempt}

abbrev pub ends : {X : Type 0} → es.Halt → L X
ends halt s = Ends (as_plain halt) s

-- ---- exceptions

-- an error of the engine is made in the present context, on which its link and its structure depend
abbrev pub engine_error : ErrorKind → Label → Object Label
engine_error kind label = fresh_object class.Error Plain (Some (error_prototype kind)) label label

abbrev pub with_error : ErrorKind → State → State
with_error kind s = record s { heap = s.heap ++ engine_error kind (context s.frames) ∷ [] }

-- what it is thrown as depends on its cause
abbrev pub error_jump : Label → ℕ → Jump
error_jump cause o = record { exit = throws; to = 0; value = record { value = value.Object (id o); label = cause } }

-- the engine throws, if rule W9 allows it
unfoldable pub throw_error : {X : Type 0} → ErrorKind → Label → L X
throw_error kind cause s = jump cause (error_jump cause (length s.heap)) (with_error kind s)

-- ---- acts

unfoldable pub given : Label → Result Primitive (List ℕ) → L Val
given label (Ok v) s = Goes (record { value = value.Primitive v; label = label }) s
given label (Err name) s = ends (left name) s

-- what can be asked of a value
unfoldable pub seen : List (Object Label) → Value → Seen
seen heap (value.Primitive v) = seen_as.Prim v
seen heap (value.Object o) = seen_of (λ p. seen_as.Object p.class) (slice_get heap o.0)

-- ---- references (ECMA-262 8.7): a name, where it stands, and on what that depends; or a base, a key and the key's label

pub data Reference : Type 0 where
  of_name : List ℕ → Place → Label → Reference
  of_property : Val → List ℕ → Label → Reference

-- that a name stands in a record depends on nothing, and else it depends on the walk along the global object
abbrev pub walk_from : Option ℕ → Label → Label
walk_from (Some i) walk = bottom
walk_from None walk = walk

abbrev pub global_walk : List (Object Label) → List ℕ → Found
global_walk heap name = find name (object_chain heap global_object.0)

abbrev pub resolved : List (Record Val) → List (Object Label) → ℕ → List ℕ → Reference
resolved records heap i name = of_name name (place_from (lookup name records i) (global_walk heap name).at) (walk_from (lookup name records i) (global_walk heap name).walk)

-- ---- the value of a reference

unfoldable pub bound : Option (Binding Val) → L Val
bound (Some b) s = Goes b.value s
bound None s = throw_error kinds.ReferenceError bottom s

-- what a read comes to: a value; or a getter that is called with the base as its `this`, in a frame of which this is the label
pub data Access : Type 0 where
  has_value : Val → Access
  has_getter : Label → ObjId → Val → Access

abbrev pub getter_or_none : Label → Option ObjId → Val → Access
getter_or_none label None base = has_value (record { value = undefined; label = label })
getter_or_none label (Some f) base = has_getter label f base

abbrev pub held : Label → Val → Body → Access
held label base (Data v) = has_value (record { value = v; label = label })
held label base (Accessor get set) = getter_or_none label get base

abbrev pub global_value : Val
global_value = unlabelled (value.Object global_object)

-- the value of a name of the global object depends on the walk to it, also as the name was resolved, and has the property's value label besides
unfoldable pub found_globally : Label → Option (ℕ × Slot Label) → L Access
found_globally walk (Some f) s = Goes (held (union walk f.1.label) global_value f.1.body) s
found_globally walk None s = throw_error kinds.ReferenceError walk s

-- that of a property depends on the base, the key and the walk
abbrev pub found : Label → Val → Option (ℕ × Slot Label) → Access
found place base (Some f) = held (union place f.1.label) base f.1.body
found place base None = has_value (record { value = undefined; label = place })

abbrev pub found_by : Label → Val → Found → Access
found_by label base walk = found (union label walk.walk) base walk.at

-- an own property of a primitive value has an empty walk, and else it is one of its prototype
abbrev pub primitive_chain : List (Object Label) → Primitive → List (ℕ × Object Label)
primitive_chain heap p = chain_from (object_chain heap) (prototype_of_primitive p)

abbrev pub primitive_access : Label → Option Primitive → Access → Access
primitive_access label None beyond = beyond
primitive_access label (Some v) beyond = has_value (record { value = value.Primitive v; label = label })

-- the label is that of all that tells which property is read
unfoldable pub property_of : Label → Val → Value → List ℕ → L Access
property_of label base (value.Primitive p) key s = Goes (primitive_access label (own_value_of p key) (found_by label base (find key (primitive_chain s.heap p)))) s
property_of label base (value.Object o) key s = Goes (found_by label base (find key (object_chain s.heap o.0))) s

abbrev pub as_access : L Val → L Access
as_access m = m >>= λ v. ret (has_value v)

unfoldable pub named : Place → Label → List ℕ → L Access
named (in_record i) walk name s = as_access (bound (binding_at s.records i name)) s
named on_global walk name s = let here = global_walk s.heap name in found_globally (union walk here.walk) here.at s
named nowhere walk name s = throw_error kinds.ReferenceError walk s

unfoldable pub accessed : Reference → L Access
accessed (of_name name place walk) = named place walk name
accessed (of_property v key label) = property_of (union v.label label) v v.value key

unfoldable pub accessed_for_typeof : Reference → L Access
accessed_for_typeof (of_name name nowhere walk) s = Goes (has_value (record { value = undefined; label = walk })) s
accessed_for_typeof n s = accessed n s

-- ---- it is given a value

abbrev pub rebinds : List ℕ → ℕ → Val → L (Unit {0})
rebinds name i v s = Goes tt (record s { records = assigned_in name v s.records i })

-- an assignment to a binding that can be changed asks rule W1: the context is included in the binding's label
unfoldable pub assigned : Bool → Label → List ℕ → ℕ → Val → L (Unit {0})
assigned true have name i v s = under W1 (context s.frames) have (rebinds name i (joined (context s.frames) v)) s
assigned false have name i v s = throw_error kinds.TypeError bottom s

unfoldable pub assigned_to : Option (Binding Val) → List ℕ → ℕ → Val → L (Unit {0})
assigned_to (Some b) name i v s = assigned b.mutable b.value.label name i v s
assigned_to None name i v s = throw_error kinds.ReferenceError bottom s

-- what an act on the heap comes to
unfoldable pub acted : {X : Type 0} → X → Acted (List (Object Label)) → L X
acted x (Ok heap) s = Goes x (record s { heap = heap })
acted x (Err stop) s = Ends (stopped stop.rule stop.need stop.have) s

-- what the key names in the object itself
abbrev pub own_in : List ℕ → Option (Object Label) → Option (Slot Label)
own_in key None = None
own_in key (Some p) = own key p.rows

-- whether the key names the `length` of the object, which is an array
abbrev pub is_length_in : List ℕ → Option (Object Label) → Bool
is_length_in key None = false
is_length_in key (Some p) = is_length p.class key

-- what a put comes to: it is done; a setter is called with the base as its `this`, in a frame of which this is the label; or the `length` of an array is
-- set, by a base, a key and a walk with this label
pub data Putting : Type 0 where
  is_put : Putting
  has_setter : Label → ObjId → Val → Putting
  has_length : Label → ℕ → Putting

-- the setter depends on the value label of its property besides
unfoldable pub setter_found : Label → Val → Option ObjId → L Putting
setter_found label base None s = throw_error kinds.TypeError label s
setter_found label base (Some f) s = Goes (has_setter label f base) s

unfoldable pub setter_at : Label → Val → Option (Slot Label) → L Putting
setter_at label base None s = throw_error kinds.TypeError label s
setter_at label base (Some p) s = setter_found (union label p.label) base (setter_in p.body) s

-- a put: the property has another value by the rule, W1 for a name and W2 for a member, or is added by W3. The need is the context, the labels of base
-- and key, and the walk; a refusal is caused by the last three
unfoldable pub overwritten : Bool → Rule → ℕ → List ℕ → Label → Val → L Putting
overwritten true rule o key label v s = Goes (has_length label o) s
overwritten false rule o key label v s = acted is_put (heap_acts.write rule o key (union (context s.frames) label) v s.heap) s

unfoldable pub put_by : PutPlan Label → Rule → ℕ → List ℕ → Label → Val → Val → L Putting
put_by (Write walk) rule o key label base v s = overwritten (is_length_in key (slice_get s.heap o)) rule o key (union label walk) v s
put_by (Add walk) rule o key label base v s = acted is_put (heap_acts.add o key (union (context s.frames) (union label walk)) (Data v.value) v.label made_by_script s.heap) s
put_by (Refused walk) rule o key label base v s = throw_error kinds.TypeError (union label walk) s
put_by (Setter at walk) rule o key label base v s = setter_at (union label walk) base (own_in key (slice_get s.heap at.0)) s

unfoldable pub put : Rule → ℕ → List ℕ → Label → Val → Val → L Putting
put rule o key label base v s = put_by (can_put key (object_chain s.heap o)) rule o key label base v s

-- a primitive value gets no properties: a put on it calls the setter that its prototype has, and is refused else. Its own properties have an empty walk
unfoldable pub setter_if : Bool → Label → Val → Slot Label → L Putting
setter_if true label base p = setter_found (union label p.label) base (setter_in p.body)
setter_if false label base p = throw_error kinds.TypeError label

unfoldable pub put_beyond : Label → Val → Option (ℕ × Slot Label) → L Putting
put_beyond label base None = throw_error kinds.TypeError label
put_beyond label base (Some f) = setter_if (is_accessor f.1.body) label base f.1

unfoldable pub put_on_primitive : Option Primitive → Label → Val → Primitive → List ℕ → L Putting
put_on_primitive (Some v) label base p key s = throw_error kinds.TypeError label s
put_on_primitive None label base p key s = let walk = find key (primitive_chain s.heap p) in put_beyond (union label walk.walk) base walk.at s

unfoldable pub put_property : Label → Val → Value → List ℕ → Val → L Putting
put_property label base (value.Primitive p) key v s = put_on_primitive (own_value_of p key) label base p key s
put_property label base (value.Object o) key v s = put W2 o.0 key label base v s

abbrev pub as_putting : L (Unit {0}) → L Putting
as_putting m = m >>= λ u. ret is_put

unfoldable pub put_named : Place → Label → List ℕ → Val → L Putting
put_named (in_record i) walk name v s = as_putting (assigned_to (binding_at s.records i name) name i v) s
put_named on_global walk name v s = put W1 global_object.0 name bottom global_value v s
put_named nowhere walk name v s = throw_error kinds.ReferenceError walk s

unfoldable pub put_value : Reference → Val → L Putting
put_value (of_name name place walk) v = put_named place walk name v
put_value (of_property base key label) v = put_property (union base.label label) base base.value key v

-- ---- it is deleted, by rules W4 and W5. That the object has the property depends on its existence label, and that it hasn't on the structure label

abbrev pub truth_of : Bool → Label → Val
truth_of b label = record { value = value.Primitive (prims.Bool b); label = label }

unfoldable pub removed_if : Bool → Label → ℕ → List ℕ → L Val
removed_if true place o key s = acted (truth_of true place) (heap_acts.remove o key (union (context s.frames) place) s.heap) s
removed_if false place o key s = throw_error kinds.TypeError place s

unfoldable pub removed_own : Option (Slot Label) → Label → Label → ℕ → List ℕ → L Val
removed_own None label structure o key s = Goes (truth_of true (union label structure)) s
removed_own (Some p) label structure o key s = removed_if p.marks.configurable (union label p.existence) o key s

-- of an object that there may be
unfoldable pub removed_in : Option (Object Label) → Label → ℕ → List ℕ → L Val
removed_in None label o key s = Goes (truth_of true label) s
removed_in (Some p) label o key s = removed_own (own key p.rows) label p.structure o key s

-- of a primitive value: its own properties stay
unfoldable pub removed_of_primitive : Option Primitive → Label → L Val
removed_of_primitive None label s = Goes (truth_of true label) s
removed_of_primitive (Some v) label s = throw_error kinds.TypeError label s

unfoldable pub remove_property : Label → Value → List ℕ → L Val
remove_property label (value.Primitive p) key s = removed_of_primitive (own_value_of p key) label s
remove_property label (value.Object o) key s = removed_in (slice_get s.heap o.0) label o.0 key s

unfoldable pub remove : Reference → L Val
remove (of_name name place walk) s = throw_error kinds.SyntaxError bottom s
remove (of_property base key label) s = remove_property (union base.label label) base.value key s

-- ---- acts on values that enter no function

unfoldable pub make_object : List (Part × List ℕ) → List Val → L Val
make_object parts vs s = Goes (unlabelled (value.Object (id (length s.heap)))) (record s { heap = s.heap ++ literal_object parts vs (context s.frames) ∷ [] })

unfoldable pub make_array : List ℕ → ℕ → List Val → L Val
make_array places n vs s = Goes (unlabelled (value.Object (id (length s.heap)))) (record s { heap = s.heap ++ array_object n places vs (context s.frames) ∷ [] })

unfoldable pub needed : Bool → Val → L Val
needed true v s = Goes v s
needed false v s = throw_error kinds.TypeError v.label s

unfoldable pub has_of_primitive : Option Primitive → Label → Found → L Val
has_of_primitive None label walk s = Goes (truth_of (is_found walk.at) (union label walk.walk)) s
has_of_primitive (Some v) label walk s = Goes (truth_of true label) s

unfoldable pub has : Label → List ℕ → Value → L Val
has label key (value.Primitive p) s = has_of_primitive (own_value_of p key) label (find key (primitive_chain s.heap p)) s
has label key (value.Object o) s = let walk = find key (object_chain s.heap o.0) in Goes (truth_of (is_found walk.at) (union label walk.walk)) s

-- the keys that `for in` takes of a value, and on what they depend besides
abbrev pub key_list : List (Object Label) → Value → Option Keys
key_list heap (value.Object o) = Some (keys (object_chain heap o.0))
key_list heap (value.Primitive Undefined) = Some (record { keys = []; walk = bottom })
key_list heap (value.Primitive Null) = Some (record { keys = []; walk = bottom })
key_list heap (value.Primitive _) = None

-- they raise the loop's frame
unfoldable pub with_list : Option Keys → Label → (List (List ℕ) → L (Unit {0})) → L (Unit {0})
with_list None label next s = ends (left leaves_wrappers) s
with_list (Some list) label next s = (raise (union label list.walk) >>= λ u. next list.keys) s

unfoldable pub spend : ℕ → L (Unit {0})
spend zero s = ends out_of_turns s
spend (suc n) s = Goes tt (record s { turns = n })

-- the label of the channel with this number
abbrev pub label_at : Option Channel → Label
label_at (Some c) = c.label
label_at None = bottom

abbrev pub channel_label : List Channel → ℕ → Label
channel_label channels i = label_at (slice_get channels i)

-- an argument, or undefined
abbrev pub argument : ℕ → List Val → Val
argument n vs = argument_or (unlabelled undefined) n vs

-- ---- what built-ins ask for besides: the base is an object, or its label causes an error

unfoldable pub on_object_in : {X : Type 0} → Label → Value → (ℕ → L X) → L X
on_object_in label (value.Primitive p) next s = throw_error kinds.TypeError label s
on_object_in label (value.Object o) next s = next o.0 s

abbrev pub on_object : {X : Type 0} → Val → (ℕ → L X) → L X
on_object v next = on_object_in v.label v.value next

unfoldable pub own_property_in : OwnPart → List ℕ → Label → Option (Object Label) → L Val
own_property_in part key label None s = Goes (record { value = undefined; label = label }) s
own_property_in part key label (Some p) s = Goes (known_of part label p.structure (own key p.rows)) s

-- a definition. Its place is the context, the base and the own test; the descriptor's labels are those of what it is given. Over a present property W6 needs
-- both, and then W2, where a value, a getter or a setter is given anew or the kind changes, the place alone; an absent one is added by W3, which needs both.
-- A refusal is caused by all of it but the context, and by the value label of the present property. What a definition comes to: it is done, and depends on
-- this label; or the `length` of an array is given a value, by a base and a key with this label
pub data Defining : Type 0 where
  is_defined : Label → Defining
  has_length_given : Label → ℕ → GivenMarks → Defining

unfoldable pub set_marks : Label → Marks → ℕ → List ℕ → L (Unit {0})
set_marks label marks o key s = acted tt (heap_acts.set_attributes o key (union (context s.frames) label) marks s.heap) s

unfoldable pub set_body_if : Bool → Label → Body → Label → ℕ → List ℕ → L (Unit {0})
set_body_if true place body label o key s = acted tt (heap_acts.set_body o key (union (context s.frames) place) body label s.heap) s
set_body_if false place body label o key s = Goes tt s

unfoldable pub redefine : Slot Label → Property → Definition → Label → Label → ℕ → List ℕ → L Defining
redefine p q d place given o key =
    set_marks (union place given) q.marks o key
    >>= λ u. set_body_if (changes_body (erased_slot p) d) place q.body (body_label (keeps_a_half (erased_slot p) d) given p.label) o key
    >>= λ w. ret (is_defined place)

unfoldable pub define_over : Option (Slot Label) → Definition → Label → Label → ℕ → List ℕ → Option Property → L Defining
define_over old d place given o key None s = throw_error kinds.TypeError (union (union place given) (value_label old)) s
define_over None d place given o key (Some q) s = acted (is_defined place) (heap_acts.add o key (union (context s.frames) (union place given)) q.body given q.marks s.heap) s
define_over (Some p) d place given o key (Some q) s = redefine p q d place given o key s

-- the value of a `length` is converted first
unfoldable pub define_by : Bool → Object Label → GivenMarks → GivenBody → Label → Label → ℕ → List ℕ → L Defining
define_by true p marks body place given o key s = Goes (has_length_given place o marks) s
define_by false p marks body place given o key s =
    let d : Definition = record { marks = marks; body = body } in define_over (own key p.rows) d place given o key (behind_definition (may_add key p) (property_in (own key p.rows)) d) s

unfoldable pub define_given : Bool → Object Label → GivenMarks → Option GivenBody → Label → Label → ℕ → List ℕ → L Defining
define_given valued p marks None place given o key s = throw_error kinds.TypeError (union (union place given) (value_label (own key p.rows))) s
define_given valued p marks (Some body) place given o key s = define_by (is_length p.class key && valued) p marks body place given o key s

unfoldable pub define_in : Option (Object Label) → Label → ℕ → List ℕ → GivenMarks → Shape → Val → Val → Val → L Defining
define_in None label o key marks shape v g set s = throw_error kinds.TypeError label s
define_in (Some p) label o key marks shape v g set s =
    define_given shape.has_value p marks (given_body (erased_heap s.heap) marks shape v.value g.value set.value) (union label (definition_test key (own key p.rows) p)) (union v.label (union g.label set.label)) o key s

unfoldable pub defining : List ℕ → GivenMarks → Shape → Val → Val → Val → Val → L Defining
defining key marks shape base v g set = on_object base (λ o s. define_in (slice_get s.heap o) base.label o key marks shape v g set s)

-- ---- the `length` of an array is given a number (ECMA-262 15.4.5.1, steps 3.e to 3.n), which has this label. `place` is that of base, key and walk. In a
-- definition W6 comes first. Each deletion depends on the number, the array's structure, and the existence of the elements tested so far, its own among them;
-- so does the new value of `length`, for which W2 needs the place alone, and the throw by an element that can't be deleted

-- the number of the element that stays, if one does, and the existence labels of the elements tested
pub record Cut : Type 0 where
  pub stays : Option ℕ
  pub tested : Label

unfoldable pub delete_element : Label → ℕ → ℕ → L (Unit {0})
delete_element label o i s = acted tt (heap_acts.remove o (element_key i) (union (context s.frames) label) s.heap) s

unfoldable pub deleted_if : Bool → (Label → L Cut) → Label → ℕ → ℕ → Label → L Cut
deleted_if true next label o i tested s = (delete_element (union label tested) o i >>= λ u. next tested) s
deleted_if false next label o i tested s = Goes (record { stays = Some i; tested = tested }) s

unfoldable pub deleted_at : Option (ℕ × Slot Label) → (Label → L Cut) → Label → ℕ → Label → L Cut
deleted_at None next label o tested s = Goes (record { stays = None; tested = tested }) s
deleted_at (Some e) next label o tested s = deleted_if e.1.marks.configurable next label o e.0 (union tested e.1.existence) s

-- so many deletions at most
unfoldable pub deleted_within : ℕ → Label → ℕ → ℕ → Label → L Cut
deleted_within zero label o n tested s = Goes (record { stays = None; tested = tested }) s
deleted_within (suc more) label o n tested s = deleted_at (highest n (rows_in (slice_get s.heap o))) (deleted_within more label o n) label o tested s

-- what is done behind the deletions, of which this is the label
unfoldable pub ended_at : Option ℕ → Label → Label → L Val
ended_at None place label s = Goes (record { value = undefined; label = place }) s
ended_at (Some i) place label s = throw_error kinds.TypeError label s

unfoldable pub cut_length : Label → Label → ℕ → ℕ → Cut → L Val
cut_length place label o n cut =
    set_body_if true place (length_body (length_behind n cut.stays)) (union label cut.tested) o length_key
    >>= λ u. ended_at cut.stays place (union place (union label cut.tested))

abbrev pub set_marks_if : Bool → Label → Marks → ℕ → List ℕ → L (Unit {0})
set_marks_if true label marks o key = set_marks label marks o key
set_marks_if false label marks o key = ret tt

-- `length` is this behind the definition, if it isn't refused
unfoldable pub set_length_to : Bool → Object Label → Label → Label → ℕ → ℕ → Option Property → L Val
set_length_to defines p place given o n None = throw_error kinds.TypeError (union (union place given) (value_label (own length_key p.rows)))
set_length_to defines p place given o n (Some q) =
    set_marks_if defines (union place given) q.marks o length_key
    >>= λ u. deleted_within (length p.rows) (union place (union given p.structure)) o n bottom
    >>= cut_length place (union given p.structure) o n

unfoldable pub set_length_in : Bool → Option (Object Label) → Label → Label → ℕ → GivenMarks → ℕ → L Val
set_length_in defines None place given o marks n = throw_error kinds.TypeError (union place given)
set_length_in defines (Some p) place given o marks n =
    set_length_to defines p (union place (definition_test length_key (own length_key p.rows) p)) given o n (behind_length (property_in (own length_key p.rows)) (record { marks = marks; body = a_value (value.Primitive (Num (Int (pos n)))) }))

unfoldable pub set_length : Bool → Label → ℕ → GivenMarks → ℕ → Label → L Val
set_length defines place o marks n given s = set_length_in defines (slice_get s.heap o) place given o marks n s

-- ToNumber of a value that was converted to a primitive one, or the run leaves
unfoldable pub numbered_by : Result Number LeftNumbers → L Number
numbered_by (Ok n) s = Goes n s
numbered_by (Err e) s = ends (left leaves_numbers) s

unfoldable pub numbered : Val → L Number
numbered v = numbered_by (number_in v.value)

-- the prototype depends on the link, and whether there may be further properties on the structure
unfoldable pub prototype_in : Label → Option (Object Label) → L Val
prototype_in label None s = Goes (record { value = value.Primitive Null; label = label }) s
prototype_in label (Some p) s = Goes (record { value = reference_or_null p.proto; label = union label p.link }) s

unfoldable pub extensible_in : Label → Option (Object Label) → L Val
extensible_in label None s = Goes (truth_of false label) s
extensible_in label (Some p) s = Goes (truth_of p.extensible (union label p.structure)) s

unfoldable pub prevent : Label → ℕ → L Val
prevent label o s = acted (record { value = undefined; label = label }) (heap_acts.prevent_extensions o (union (context s.frames) label) s.heap) s

-- a new object: its link depends on the value that gave the prototype
abbrev pub with_link : Label → Object Label → Object Label
with_link label p = record p { link = union p.link label }

unfoldable pub make_new : Class → Option ObjId → Label → L Val
make_new c proto label s = Goes (unlabelled (value.Object (id (length s.heap)))) (record s { heap = s.heap ++ with_link label (made_object (context s.frames) (made_of c proto)) ∷ [] })

abbrev pub standing : List (Object Label) → ObjId → ObjId
standing heap o = standing_or_default o (erased_in (slice_get heap o.0))

unfoldable pub make_new_by : Class → Val → L Val
make_new_by c v s = make_new c (option_map (standing s.heap) (prototype_given v.value)) v.label s

-- an array of the own keys of an object: its reference depends on which there are, and on their marks
abbrev pub keys_label : Option (Object Label) → Label
keys_label None = bottom
keys_label (Some p) = union p.structure (existences p.rows)

abbrev pub keys_in : Bool → Option (Object Label) → List (List ℕ)
keys_in all found = listed all (erased_rows (rows_in found))

unfoldable pub list_keys : Bool → Label → ℕ → L Val
list_keys all label o s = let found = slice_get s.heap o in
    Goes (record { value = value.Object (id (length s.heap)); label = union label (keys_label found) }) (record s { heap = s.heap ++ made_object (context s.frames) (array_of_texts (keys_in all found)) ∷ [] })

unfoldable pub bind_object : ObjId → Val → Val → List Val → L Val
bind_object o target this args s = let found = slice_get s.heap o.0 in
    Goes (unlabelled (value.Object (id (length s.heap)))) (record s { heap = s.heap ++ bound_object o target.label this args (length_label found) (bound_count (erased_in found) (length args)) (context s.frames) ∷ [] })

unfoldable pub bind_value : Value → Val → Val → List Val → L Val
bind_value (value.Primitive p) target this args s = throw_error kinds.TypeError target.label s
bind_value (value.Object o) target this args s = bind_object o target this args s

unfoldable pub bind_to : Bool → Val → Val → List Val → L Val
bind_to true target this args = bind_value target.value target this args
bind_to false target this args = throw_error kinds.TypeError target.label

unfoldable pub if_origins : Bool → L Val → L Val
if_origins true next s = next s
if_origins false next s = ends (left leaves_origins) s

unfoldable pub raise_structure : List ℕ → Label → ℕ → L Val
raise_structure origins label o s = acted (record { value = undefined; label = label }) (heap_acts.raise_structure o (union (context s.frames) label) (label_of origins) s.heap) s

unfoldable pub raise_existence : List ℕ → Label → List ℕ → ℕ → L Val
raise_existence origins label key o s =
    acted (record { value = undefined; label = label }) (heap_acts.raise_existence o key (union (context s.frames) (union label (own_walk key (slice_get s.heap o)))) (label_of origins) s.heap) s

-- ---- functions: what is made depends on the context

-- a function, and a record for its own name
unfoldable pub make_function : List FunctionCode → Function → ℕ → L Val
make_function functions f place s =
    let v = value.Object (id (length s.heap)) in
    Goes (unlabelled v) (record s {
      heap = s.heap ++ made_objects (context s.frames) (function_objects functions (length s.heap) (closes_over (name_of f) place (length s.records)) f);
      records = s.records ++ own_name (name_of f) place (labelled_by (context s.frames) v);
    })

-- what a value is for a call
abbrev pub callee_in : List FunctionCode → Option (Object Label) → Callee
callee_in functions None = not_callable
callee_in functions (Some p) = callee_of functions p.class (erased_inner p.inner)

unfoldable pub callee_at : List FunctionCode → List (Object Label) → ℕ → Callee
callee_at functions heap o = callee_in functions (slice_get heap o)

-- a call begins. `this` and the function's number have their own labels, and all else that is bound has the context besides
unfoldable pub with_call : List FunctionCode → ℕ → Function → ℕ → Val → List Val → State → State
with_call functions number f place this args s =
    let here = context s.frames in
    let declared = declared_functions (body_of f) in
    record s {
      heap = s.heap ++ (made_objects here (objects_of functions (length s.heap) (length s.records) declared) ++ made_if (names_in_statements (body_of f)) (arguments_object number (length s.records) args here));
      records = s.records ++ entry_record f place (record {
        this = this;
        function = unlabelled (value.Primitive (Num (Int (pos number))));
        args = map (joined here) args;
        missing = labelled_by here undefined;
        functions = labelled_values here (references_of (length s.heap) declared);
        arguments = labelled_by here (value.Object (id (behind_functions (length s.heap) declared)));
      }) ∷ [];
    }

abbrev pub Enters : Type 0
Enters = Entering Val ℕ (λ t. L (Res Val t))

-- the body is evaluated in the record of the call, whose frame has this depth
abbrev pub in_call : Enters → Function → ℕ → ℕ → L (Unit {0})
in_call E f here depth = E.body (body_of f) (called_env here depth)

-- in the frame of the call. What can't be called throws, by the label of the value
unfoldable pub entered : List FunctionCode → Callee → Label → Val → List Val → Enters → ℕ → L (Unit {0})
entered functions not_callable label this args E depth s = throw_error kinds.TypeError label s
entered functions empty_callee label this args E depth s = Goes tt s
entered functions (of_built_in which) label this args E depth s = throw_error kinds.TypeError label s
entered functions (of_script number f place) label this args E depth s = in_call E f (length s.records) depth (with_call functions number f place this args s)

abbrev pub called_value : Label → ℕ → Val
called_value label o = record { value = value.Object (id o); label = label }

-- a built-in has a frame of its own kind, with the values in its registers, and gives its result itself
unfoldable pub call_by : List FunctionCode → Callee → Label → ℕ → Val → List Val → Enters → L Val
call_by functions (of_built_in which) label o this args E = scope kind.Native label (λ depth. E.built_in which false (this ∷ called_value label o ∷ args)) >>= λ c. ret (settled_value c)
call_by functions callee label o this args E = scope kind.Call label (λ depth. entered functions callee label this args E depth) >>= λ c. ret (answer c)

unfoldable pub call_aimed : List FunctionCode → Label → Aim → Val → List Val → Enters → L Val
call_aimed functions label aim this args E s =
    call_by functions (callee_at functions s.heap aim.target.function) (union label aim.label) aim.target.function (this_or aim.target.this this) (aim.target.args ++ args) E s

unfoldable pub call_value : List FunctionCode → Label → Value → Val → List Val → Enters → L Val
call_value functions label (value.Primitive p) this args E s = call_by functions not_callable label 0 this args E s
call_value functions label (value.Object o) this args E s = call_aimed functions label (aim_of s.heap o.0) this args E s

abbrev pub call : List FunctionCode → Val → Val → List Val → Enters → L Val
call functions f this args E = call_value functions f.label f.value this args E

-- the `prototype` of a function of the script, which is data: it depends on the walk to it and has its value label besides
abbrev pub value_found : Label → Option (ℕ × Slot Label) → Val
value_found walk None = labelled_by walk undefined
value_found walk (Some f) = labelled_by (union walk f.1.label) (value_in f.1.body)

abbrev pub prototype_of : List (Object Label) → ℕ → Val
prototype_of heap o = let walk = find prototype_name (object_chain heap o) in value_found walk.walk walk.at

-- what `new` makes: its link depends on the value that gave the prototype
abbrev pub with_fresh : Val → State → State
with_fresh proto s = record s { heap = s.heap ++ fresh_object class.Object Plain (Some (standing s.heap (object_or_default proto.value))) (union (context s.frames) proto.label) (context s.frames) ∷ [] }

unfoldable pub constructed : List FunctionCode → Callee → Label → ℕ → List Val → Enters → ℕ → L (Unit {0})
constructed functions not_callable label o args E depth s = throw_error kinds.TypeError label s
constructed functions empty_callee label o args E depth s = throw_error kinds.TypeError label s
constructed functions (of_built_in which) label o args E depth s = throw_error kinds.TypeError label s
constructed functions (of_script number code place) label o args E depth s =
    entered functions (of_script number code place) label (unlabelled (value.Object (id (length s.heap)))) args E depth (with_fresh (prototype_of s.heap o) s)

-- a built-in makes what it gives itself, if it constructs
unfoldable pub construct_built_in : BuiltIns → ℕ → Label → ℕ → List Val → Enters → L Val
construct_built_in set which label o args E = choose (constructs_in set which) (E.built_in which true (unlabelled undefined ∷ called_value label o ∷ args)) (throw_error kinds.TypeError label)

unfoldable pub construct_by : BuiltIns → List FunctionCode → Callee → Label → ℕ → List Val → Enters → L Val
construct_by set functions (of_built_in which) label o args E s = (scope kind.Native label (λ depth. construct_built_in set which label o args E) >>= λ c. ret (settled_value c)) s
construct_by set functions callee label o args E s = (scope kind.Call label (λ depth. constructed functions callee label o args E depth) >>= λ c. ret (construction (length s.heap) c)) s

unfoldable pub construct_aimed : BuiltIns → List FunctionCode → Label → Aim → List Val → Enters → L Val
construct_aimed set functions label aim args E s =
    construct_by set functions (callee_at functions s.heap aim.target.function) (union label aim.label) aim.target.function (aim.target.args ++ args) E s

unfoldable pub construct_value : BuiltIns → List FunctionCode → Label → Value → List Val → Enters → L Val
construct_value set functions label (value.Primitive p) args E s = construct_by set functions not_callable label 0 args E s
construct_value set functions label (value.Object o) args E s = construct_aimed set functions label (aim_of s.heap o.0) args E s

abbrev pub construct : BuiltIns → List FunctionCode → Val → List Val → Enters → L Val
construct set functions f args E = construct_value set functions f.label f.value args E

-- ---- getters, setters, and the conversion of objects

unfoldable pub entered_access : List FunctionCode → Enters → Access → L Val
entered_access functions E (has_value v) = ret v
entered_access functions E (has_getter label f this) = call_value functions label (value.Object f) this [] E

-- an object is converted in a frame that has this label
unfoldable pub convert : Enters → Hint → Label → Val → L Val
convert E h label v = scope kind.Native label (λ depth. E.conversion h v) >>= λ c. ret (settled_value c)

-- or another value is given as it is
unfoldable pub converted_by : Bool → Enters → Hint → Label → Val → Val → L Val
converted_by true E h label v given = convert E h label v
converted_by false E h label v given = ret given

abbrev pub converted : Enters → Hint → Val → L Val
converted E h v = converted_by (is_object v.value) E h v.label v v

-- a value for the `length` of an array is converted twice (ECMA-262 15.4.5.1, steps 3.c and 3.d), each time in a frame that begins with the labels of base,
-- key and walk too; and then `length` is given the number. What is no number of a `length` throws by these labels and the value's
unfoldable pub converted_for_length : Enters → Label → Val → L Val
converted_for_length E label v = converted_by (is_object v.value) E hint.Number (union label v.label) v v

unfoldable pub given_count : Bool → ℕ → Label → Label → (ℕ → Label → L Val) → L Val
given_count true n given label next = next n given
given_count false n given label next = throw_error kinds.RangeError (union label given)

unfoldable pub with_count : Enters → Label → Val → (ℕ → Label → L Val) → L Val
with_count E label v next =
    converted_for_length E label v
    >>= λ first. numbered first
    >>= λ m. converted_for_length E label v
    >>= λ second. numbered second
    >>= λ n. given_count (is_count m n) (count_of m) (union first.label second.label) label next

unfoldable pub entered_defining : Enters → Val → Defining → L Val
entered_defining E v (is_defined label) = ret (record { value = undefined; label = label })
entered_defining E v (has_length_given label o marks) = with_count E label v (set_length true label o marks)

unfoldable pub entered_putting : List FunctionCode → Enters → Val → Putting → L (Unit {0})
entered_putting functions E v is_put = ret tt
entered_putting functions E v (has_setter label f this) = call_value functions label (value.Object f) this (v ∷ []) E >>= λ u. ret tt
entered_putting functions E v (has_length label o) = with_count E label v (set_length false label o no_marks) >>= λ u. ret tt

-- an operand of `==` depends on the other one, which decides whether it is converted
abbrev pub compared : Enters → Val → Val → L Val
compared E v u = converted_by (converts_beside v.value u.value) E hint.Default (union v.label u.label) v (joined u.label v)

-- ---- `instanceof`

-- an object and its prototypes: whether a further one is this, and the links up to it
pub record Linked : Type 0 where
  pub is : Bool
  pub links : Label

abbrev pub linked_beyond : Label → Linked → Linked
linked_beyond link rest = record { is = rest.is; links = union link rest.links }

abbrev pub linked_to : ℕ → ℕ → Label → Linked → Linked
linked_to proto o link rest = if nat_eq o proto then record { is = true; links = link } else linked_beyond link rest

-- from the link of an object on
abbrev pub linked_from : ℕ → Label → List (ℕ × Object Label) → Linked
linked_from proto link [] = record { is = false; links = link }
linked_from proto link (e ∷ chain) = linked_to proto e.0 link (linked_from proto e.1.link chain)

abbrev pub linked : ℕ → List (ℕ × Object Label) → Linked
linked proto [] = record { is = false; links = bottom }
linked proto (e ∷ chain) = linked_from proto e.1.link chain

-- the label is that of both operands and of the read of `prototype`
unfoldable pub is_instance : Label → ℕ → Value → L Val
is_instance label o (value.Primitive p) s = throw_error kinds.TypeError label s
is_instance label o (value.Object proto) s = let walk = linked proto.0 (object_chain s.heap o) in Goes (truth_of walk.is (union label walk.links)) s

-- a getter of the `prototype`, which is that of the target of a bound function, has the left operand's label in its frame
unfoldable pub instance_by : List FunctionCode → Val → ObjId → Label → ℕ → Enters → L Val
instance_by functions v o label f E s =
    (property_of (union v.label label) (called_value label f) (value.Object (id f)) prototype_name >>= entered_access functions E >>= λ proto. is_instance (union (union v.label label) proto.label) o.0 proto.value) s

-- of a primitive value nothing is read
unfoldable pub instance_of : List FunctionCode → Val → Value → Label → Aim → Enters → L Val
instance_of functions v (value.Primitive p) label aim E = ret (truth_of false (union v.label label))
instance_of functions v (value.Object o) label aim E = instance_by functions v o (union label aim.label) aim.target.function E

unfoldable pub instance_if : List FunctionCode → Bool → Val → Label → ℕ → Enters → L Val
instance_if functions true v label f E s = instance_of functions v v.value label (aim_of s.heap f) E s
instance_if functions false v label f E s = throw_error kinds.TypeError label s

unfoldable pub instance_value : List FunctionCode → Val → Label → Value → Enters → L Val
instance_value functions v label (value.Primitive p) E s = throw_error kinds.TypeError label s
instance_value functions v label (value.Object f) E s = instance_if functions (is_function_in (slice_get s.heap f.0)) v label f.0 E s

abbrev pub instance : List FunctionCode → Val → Val → Enters → L Val
instance functions v f E = instance_value functions v f.label f.value E

-- ---- jumps and directives

unfoldable pub jumps_to : Option (Exit × ℕ) → Val → L (Unit {0})
jumps_to None v s = Goes tt s
jumps_to (Some to) v s = jump bottom (record { exit = to.0; to = to.1; value = v }) s

unfoldable pub raises : Leaving → Option (Exit × ℕ) → Label → L (Unit {0})
raises leaving None label s = Goes tt s
raises leaving (Some to) label s = raise_frame (frame_of leaving to.1 s.frames) label s

-- ---- what a reference's base is for a call

abbrev pub base_of : Reference → Val
base_of (of_name name place walk) = unlabelled undefined
base_of (of_property v key label) = v

-- a record with one name, which has the context besides
abbrev pub with_name : ℕ → List ℕ → Val → State → State
with_name place name v s = record s { records = s.records ++ record { outer = Some (env_id place); bindings = binds true name (joined (context s.frames) v) } ∷ [] }

abbrev pub in_own_record : List ℕ → Val → Env ℕ → (Env ℕ → L (Unit {0})) → L (Unit {0})
in_own_record name v e next s = next (with_place (length s.records) e) (with_name e.place name v s)

module _ (tables : Tables) (inputs : Given) where
  abbrev pub reads : ℕ → Label → L Val
  reads i label s = let line = line_at inputs i s.positions in Goes (record { value = value_read line; label = label }) (record s { positions = positions_behind i line s.positions })

  -- `read` asks rule W11: the context and the name's label are included in the channel's label, which the line gets
  unfoldable pub read_channel : Option ℕ → Label → L Val
  read_channel None name s = ends (left leaves_channels) s
  read_channel (Some i) name s = under W11 (union (context s.frames) name) (channel_label tables.inputs i) (reads i (channel_label tables.inputs i)) s

  abbrev pub prints : ℕ → Label → Label → List ℕ → L Val
  prints i need label text s = Goes (record { value = undefined; label = label }) (record s { lines = s.lines ++ record { line = record { channel = channel_name tables.outputs i; text = text }; label = need } ∷ [] })

  -- `print` asks rule W12: the context and the labels of the name and of the text are included in the channel's label
  unfoldable pub print_text : ℕ → Label → Value → L Val
  print_text i label (value.Primitive (Str text)) s = under W12 (union (context s.frames) label) (channel_label tables.outputs i) (prints i (union (context s.frames) label) label text) s
  print_text i label _ s = ends (left leaves_channels) s

  unfoldable pub print_channel : Option ℕ → Label → Val → L Val
  print_channel None name v s = ends (left leaves_channels) s
  print_channel (Some i) name v s = print_text i (union name v.label) v.value s

  unfoldable pub with_origins : List ℕ → L Val → L Val
  with_origins origins next = if_origins (are_origins (length tables.origins) origins) next

  -- the arguments are as many as the act takes
  unfoldable pub act : Act → List Val → L Val
  act (object_of parts) vs = make_object parts vs
  act (array_of places n) vs = make_array places n vs
  act base_needed vs = needed (is_coercible (argument 0 vs).value) (argument 0 vs)
  act object_needed vs = needed (is_object (argument 0 vs).value) (argument 0 vs)
  act has_key vs = has (union (argument 0 vs).label (argument 1 vs).label) (key_text (argument 0 vs).value) (argument 1 vs).value
  act (throws_error kind) vs = throw_error kind bottom
  act (own_property part key) vs = on_object (argument 0 vs) (λ o s. own_property_in part key (argument 0 vs).label (slice_get s.heap o) s)
  act (own_keys all) vs = on_object (argument 0 vs) (list_keys all (argument 0 vs).label)
  act prototype_of_object vs = on_object (argument 0 vs) (λ o s. prototype_in (argument 0 vs).label (slice_get s.heap o) s)
  act is_extensible vs = on_object (argument 0 vs) (λ o s. extensible_in (argument 0 vs).label (slice_get s.heap o) s)
  act prevent_extensions vs = on_object (argument 0 vs) (prevent (argument 0 vs).label)
  act (new_object c false) vs = make_new c (Some (class_prototype c)) bottom
  act (new_object c true) vs = make_new_by c (argument 0 vs)
  act bind vs = λ s. bind_to (is_function_at s.heap (argument 0 vs).value) (argument 0 vs) (argument 1 vs) (others (others vs)) s
  act read_line vs = read_channel (channel_of tables.inputs (argument 0 vs).value) (argument 0 vs).label
  act print_line vs = print_channel (channel_of tables.outputs (argument 0 vs).value) (argument 0 vs).label (argument 1 vs)
  act (join_label origins) vs = with_origins origins (ret (joined (label_of origins) (argument 0 vs)))
  act (raise_structure_by origins) vs = with_origins origins (on_object (argument 0 vs) (raise_structure origins (argument 0 vs).label))
  act (raise_existence_by key origins) vs = with_origins origins (on_object (argument 0 vs) (raise_existence origins (argument 0 vs).label key))

  -- a directive names origins
  abbrev pub named_origins : List (List ℕ) → Option (List ℕ)
  named_origins names = origins_of tables.origins (map (λ name. value.Primitive (Str name)) names)

  unfoldable pub raised_by : Leaving → Option (Exit × ℕ) → Option (List ℕ) → L (Unit {0})
  raised_by leaving to None s = ends (left leaves_origins) s
  raised_by leaving to (Some origins) s = raises leaving to (label_of origins) s

  abbrev pub start : BuiltIns → Statements → ℕ → State
  start set program turns = record {
    frames = pushed kind.Root bottom ∷ [];
    heap = unlabelled_heap (first_heap set program);
    records = outermost (unlabelled (value.Object global_object)) ∷ [];
    positions = replicate (length tables.inputs) 0;
    lines = [];
    turns = turns;
  }

  module _ (set : BuiltIns) (functions : List FunctionCode) where
    abbrev pub labelled : Ops
    labelled = record {
      V = Val;
      N = Reference;
      H = ℕ;
      M = λ t. L (Res Val t);
      ret = λ t a. ret a;
      bind = λ t u m f. m >>= f;
      literal = λ v. unlabelled (value.Primitive v);
      unary = λ o v s. given v.label (unary_of o (seen s.heap v.value)) s;
      binary = λ o v u. given (union v.label u.label) (binary_of o v.value u.value);
      act = act;
      look = λ v k. raise v.label >>= λ u s. k (seen s.heap v.value) s;
      function = make_function functions;
      jump = λ leaving e v. jumps_to (aimed 0 leaving e) v;
      raise = λ leaving e names. raised_by leaving (aimed 0 leaving e) (named_origins names);
      throw = λ v. jump bottom (record { exit = throws; to = 0; value = v });
      leave = λ t name. ends (left name);
      resolve = λ t i x k s. k (resolved s.records s.heap i x) s;
      property = λ v k. of_property v (key_text k.value) k.label;
      get_value = λ n E. accessed n >>= entered_access functions E;
      typeof_value = λ n E. accessed_for_typeof n >>= entered_access functions E;
      put_value = λ n v E. put_value n v >>= entered_putting functions E v;
      remove = remove;
      define = λ key marks shape base v g set E. defining key marks shape base v g set >>= entered_defining E v;
      this_of = base_of;
      instance = instance functions;
      fork = fork;
      round = round;
      again = again;
      keys = λ v next s. with_list (key_list s.heap v.value) v.label next s;
      declare = in_own_record;
      call = call functions;
      construct = construct set functions;
      primitive = λ h v E. converted E h v;
      comparable = λ v u E. compared E v u;
      attempt = attempt;
    }

    abbrev pub timed : Timed
    timed = record { ops = labelled; tick = λ s. spend s.turns s; ended = λ t. ends out_of_turns }

-- the labelled lines of a run and how it ends
pub record Run : Type 0 where
  pub lines : List LabelledLine
  pub ending : Ending Halt

abbrev pub run_of : Outcome Halt Jump (Unit {0}) State → Run
run_of (Goes u s) = record { lines = s.lines; ending = done }
run_of (Jumps j s) = record { lines = s.lines; ending = threw (shown (erased_heap s.heap) j.value.value) }
run_of (Ends halt s) = record { lines = s.lines; ending = halted halt }

-- what a monitored script prints and how it ends, with so many turns
unfoldable pub tracked_run : BuiltIns → Tables → Given → Statements → ℕ → Run
tracked_run set tables inputs program turns =
    run_of (program_step (timed tables inputs set (functions_of program)) set turns (may_declare set program) program (outermost_env 0) (start tables inputs set program turns))
