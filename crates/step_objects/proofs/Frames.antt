-- Acts leave the frames as they are unless they throw, and a throw never adds frames.
use Rattle.std.proofs.Common.{arith, ◌≡◌, refl, sym, ap, subst, ◌∙◌, ◌≤◌, ℕ, pos, zero, suc, ◌&&◌, Bool, true, false, List, [], ◌∷◌, map, take, length, slice_get, Option, Some, None, Result, Ok, Err}
use Rattle.std.proofs.lemmas.List.{length-map, length-take}
use Rattle.std.specs.Option.{option_map}
use Rattle.origin_labels.specs.Label.{Label, bottom, union, within, label_of}
use Rattle.flow_frames.specs.declared.faults.FlowFault.{FlowFault}
use Rattle.flow_frames.specs.declared.faults.Rule.{Rule}
use Rattle.flow_frames.specs.declared.faults.Rule.TheVariants.{W1, W2, W9, W11, W12}
use Rattle.flow_frames.specs.Frames.{context}
use Rattle.flow_frames.specs.Held.{seen_frame, meant_at}
use Rattle.flow_frames.specs.Rules.{jump_need}
use Rattle.flow_policy.specs.Policies.{Tables}
use Rattle.flow_policy.specs.Inputs.{Given}
use Rattle.js_ast.specs.Functions.{FunctionCode}
use Rattle.js_ast.specs.declared.operators.UnaryOperator.{UnaryOperator}
use Rattle.js_ast.specs.declared.operators.BinaryOperator.{BinaryOperator}
use Rattle.js_number.specs.declared.int.LeftNumbers.{LeftNumbers}
use Rattle.js_number.specs.declared.num.Num.{Num as Number}
use Rattle.js_number.specs.declared.num.Num.TheVariants.{Int}
use Rattle.js_number.specs.declared.primitive.Primitive.{Primitive}
use Rattle.js_number.specs.declared.primitive.Primitive.TheVariants.{Undefined, Null, Num, Str}
use Rattle.js_number.specs.declared.primitive.Primitive.TheVariants as prims
use Rattle.js_values.specs.declared.ids.ObjId.{ObjId}
use Rattle.js_values.specs.declared.inner.Class.{Class}
use Rattle.js_values.specs.declared.property.Body.{Body}
use Rattle.js_values.specs.declared.property.Body.TheVariants.{Data}
use Rattle.js_values.specs.declared.property.Marks.{Marks}
use Rattle.js_values.specs.declared.property.Slot.{Slot}
use Rattle.js_values.specs.declared.value.Labelled.{Labelled}
use Rattle.js_values.specs.declared.value.Value.{Value}
use Rattle.js_values.specs.declared.value.Value.TheVariants as value
use Rattle.js_values.specs.Arrays.{length_key, length_body, element_key, is_length, highest}
use Rattle.js_values.specs.Objects.{Object, Property, own}
use Rattle.js_values.specs.Readings.{IsReading}
use Rattle.js_values.specs.Records.{Binding}
use Rattle.js_values.specs.Walks.{Found, find, object_chain}
use Rattle.native_protocol.specs.declared.request.ErrorKind.{ErrorKind}
use Rattle.native_protocol.specs.declared.request.ErrorKind.TheVariants as kinds
use Rattle.native_protocol.specs.declared.request.GivenMarks.{GivenMarks}
use Rattle.object_heap.specs.Acts as heap_acts
use Rattle.object_heap.specs.Acts.{Acted}
use Rattle.prototype_walk.specs.declared.plan.PutPlan.{PutPlan}
use Rattle.prototype_walk.specs.declared.plan.PutPlan.TheVariants.{Write, Add, Setter, Refused}
use Rattle.prototype_walk.specs.KeyLists.{rows_in}
use Rattle.prototype_walk.specs.Plans.{can_put, may_add}
use Rattle.es_meaning.specs.BuiltIns.{BuiltIns}
use Rattle.es_meaning.specs.Definitions.{GivenBody, a_value, Definition, is_accessor, setter_in, changes_body, keeps_a_half}
use Rattle.es_meaning.specs.Objects.{made_by_script, length_behind}
use Rattle.es_meaning.specs.Operations.{Act, OwnPart, Shape, object_of, array_of, base_needed, object_needed, has_key, throws_error, own_property, own_keys, prototype_of_object, is_extensible, prevent_extensions, new_object, bind, read_line, print_line, join_label, raise_structure as raise_structure_by, raise_existence as raise_existence_by}
use Rattle.es_meaning.specs.Operators.{is_object, unary_of, binary_of}
use Rattle.es_meaning.specs.Outcomes.{Outcome, Goes, Jumps, Ends, and_then, ret, ◌>>=◌}
use Rattle.es_meaning.specs.Plain.{undefined, binding_at, channel_of, is_coercible, key_text, others, Place, in_record, on_global, nowhere}
use Rattle.es_meaning.specs.Primitives.{own_value_of}
use Rattle.es_meaning.specs.Requested.{given_body, behind_definition, behind_length, class_prototype, prototype_given, are_origins}
use Rattle.es_meaning.specs.Start.{global_object}
use Rattle.flow_meaning.specs.Erased.{erased_slot, erased_heap}
use Rattle.flow_meaning.specs.Requested.{property_in, definition_test, own_walk, value_label, body_label, is_function_in, is_function_at}
use Rattle.flow_meaning.specs.Scopes.{Halt, State, Jump, Val, L, guard, joined, reached, jump, jump_to, cut_to}
use Rattle.flow_meaning.specs.Tracked.{labelled, is_instance, make_object, make_array, throw_error, with_error, error_jump, given, seen, bound, rebinds, assigned, assigned_to, Reference, of_name, of_property, Access, has_value, as_access, global_value, global_walk, found_globally, property_of, named, accessed, accessed_for_typeof, acted, own_in, Putting, is_put, setter_found, setter_at, setter_if, put_beyond, put_on_primitive, primitive_chain, put_by, overwritten, is_length_in, put, put_property, put_named, put_value, truth_of, removed_if, removed_own, removed_in, removed_of_primitive, remove_property, remove, needed, has, has_of_primitive, argument, on_object, on_object_in, own_property_in, set_marks, set_body_if, Defining, is_defined, redefine, define_over, define_by, define_given, define_in, defining, Cut, delete_element, deleted_if, deleted_at, deleted_within, ended_at, cut_length, set_marks_if, set_length_to, set_length_in, set_length, numbered_by, prototype_in, extensible_in, prevent, make_new, make_new_by, standing, list_keys, bind_object, bind_value, bind_to, if_origins, raise_structure, raise_existence, channel_label, reads, read_channel, prints, print_text, print_channel, with_origins, act}
use Rattle.step_values.specs.Converted.{is_keyed}
use Rattle.run_state.specs.declared.outcome.Outcome as machine
use Rattle.run_state.specs.declared.outcome.Outcome.TheVariants as outcome
use Rattle.run_state.specs.declared.outcome.Leaving.{Leaving}
use Rattle.run_state.specs.declared.world.World.{World}
use Rattle.run_state.specs.Acts.{Acts}
use Rattle.run_state.specs.Worlds.{state_of}
use Rattle.step_objects.specs.Instances.{Test, tested, tested_if}
use Rattle.step_objects.specs.Operated.{operated, operated_by}
use Rattle.step_objects.specs.Standing.{FramesStand, StandsBy}

-- ---- one act, and then another

along : {X : Type 0} (o : Outcome Halt Jump X State) (s t : State) → t.frames ≡ s.frames → FramesStand o t → FramesStand o s
along (Goes x u) s t same stand = stand ∙ same
along (Jumps j u) s t same stand = subst (λ fs. length u.frames ≤ length fs) same stand
along (Ends halt u) s t same stand = stand ∙ same

pub then_stands : {X Y : Type 0} (o : Outcome Halt Jump X State) (next : X → L Y) (s : State) → FramesStand o s → ((x : X) (t : State) → FramesStand (next x t) t) → FramesStand (and_then o next) s
then_stands (Goes x t) next s stand rest = along (next x t) s t stand (rest x t)
then_stands (Jumps j t) next s stand rest = stand
then_stands (Ends halt t) next s stand rest = stand

-- ---- throws

no_more : {A : Type 0} (n : ℕ) (xs : List A) → length (take n xs) ≤ length xs
no_more n xs = let is = length-take n xs in omega (arith, is)

guard_jumps : (X : Type 0) (b : Bool) (rule : Rule) (need have : Label) (j : Jump) (depth : ℕ) (s : State) → FramesStand (guard {X = X} b rule need have (λ t. Jumps j (cut_to depth t)) s) s
unfolding guard
guard_jumps X true rule need have j depth s = no_more depth s.frames
guard_jumps X false rule need have j depth s = refl

jump_stands : (X : Type 0) (cause : Label) (j : Jump) (s : State) → FramesStand (jump {X = X} cause j s) s
unfolding jump jump_to
jump_stands X cause j s =
    let depth = reached j.to s.frames in
    guard_jumps X (within (jump_need s.frames depth cause) (meant_at s.frames depth)) W9 (jump_need s.frames depth cause) (meant_at s.frames depth) j (suc depth) s

pub error_stands : (X : Type 0) (kind : ErrorKind) (cause : Label) (s : State) → FramesStand (throw_error {X = X} kind cause s) s
unfolding throw_error
error_stands X kind cause s = along (throw_error {X = X} kind cause s) s (with_error kind s) refl (jump_stands X cause (error_jump cause (length s.heap)) (with_error kind s))

-- ---- acts on values

given_stands : (label : Label) (gives : Result Primitive (List ℕ)) (s : State) → FramesStand (given label gives s) s
unfolding given
given_stands label (Ok v) s = refl
given_stands label (Err name) s = refl

-- ---- names and properties

bound_stands : (b : Option (Binding Val)) (s : State) → FramesStand (bound b s) s
unfolding bound
bound_stands (Some b) s = refl
bound_stands None s = error_stands Val kinds.ReferenceError bottom s

access_stands : (m : L Val) (s : State) → FramesStand (m s) s → FramesStand (as_access m s) s
access_stands m s stand = then_stands (m s) (λ v. ret (has_value v)) s stand (λ v t. refl)

globally_stands : (walk : Label) (at : Option (ℕ × Slot Label)) (s : State) → FramesStand (found_globally walk at s) s
unfolding found_globally
globally_stands walk (Some f) s = refl
globally_stands walk None s = error_stands Access kinds.ReferenceError walk s

pub property_stands : (label : Label) (base : Val) (v : Value) (key : List ℕ) (s : State) → FramesStand (property_of label base v key s) s
unfolding property_of
property_stands label base (value.Primitive p) key s = refl
property_stands label base (value.Object o) key s = refl

named_stands : (place : Place) (walk : Label) (name : List ℕ) (s : State) → FramesStand (named place walk name s) s
unfolding named
named_stands (in_record i) walk name s = access_stands (bound (binding_at s.records i name)) s (bound_stands (binding_at s.records i name) s)
named_stands on_global walk name s = let here = global_walk s.heap name in globally_stands (union walk here.walk) here.at s
named_stands nowhere walk name s = error_stands Access kinds.ReferenceError walk s

pub accessed_stands : (n : Reference) (s : State) → FramesStand (accessed n s) s
unfolding accessed
accessed_stands (of_name name place walk) s = named_stands place walk name s
accessed_stands (of_property v key label) s = property_stands (union v.label label) v v.value key s

pub asked_stands : (n : Reference) (s : State) → FramesStand (accessed_for_typeof n s) s
unfolding accessed_for_typeof
asked_stands (of_name name (in_record i) walk) s = accessed_stands (of_name name (in_record i) walk) s
asked_stands (of_name name on_global walk) s = accessed_stands (of_name name on_global walk) s
asked_stands (of_name name nowhere walk) s = refl
asked_stands (of_property v key label) s = accessed_stands (of_property v key label) s

-- ---- they are given values

guard_stands : {X : Type 0} (b : Bool) (rule : Rule) (need have : Label) (m : L X) (s : State) → FramesStand (m s) s → FramesStand (guard b rule need have m s) s
unfolding guard
guard_stands true rule need have m s stand = stand
guard_stands false rule need have m s stand = refl

assigned_stands : (mutable : Bool) (have : Label) (name : List ℕ) (i : ℕ) (v : Val) (s : State) → FramesStand (assigned mutable have name i v s) s
unfolding assigned
assigned_stands true have name i v s = guard_stands (within (context s.frames) have) W1 (context s.frames) have (rebinds name i (joined (context s.frames) v)) s refl
assigned_stands false have name i v s = error_stands (Unit {0}) kinds.TypeError bottom s

assigned_to_stands : (b : Option (Binding Val)) (name : List ℕ) (i : ℕ) (v : Val) (s : State) → FramesStand (assigned_to b name i v s) s
unfolding assigned_to
assigned_to_stands (Some b) name i v s = assigned_stands b.mutable b.value.label name i v s
assigned_to_stands None name i v s = error_stands (Unit {0}) kinds.ReferenceError bottom s

acted_stands : {X : Type 0} (x : X) (did : Acted (List (Object Label))) (s : State) → FramesStand (acted x did s) s
unfolding acted
acted_stands x (Ok heap) s = refl
acted_stands x (Err stop) s = refl

setter_found_stands : (label : Label) (base : Val) (set : Option ObjId) (s : State) → FramesStand (setter_found label base set s) s
unfolding setter_found
setter_found_stands label base None s = error_stands Putting kinds.TypeError label s
setter_found_stands label base (Some f) s = refl

setter_stands : (label : Label) (base : Val) (p : Option (Slot Label)) (s : State) → FramesStand (setter_at label base p s) s
unfolding setter_at
setter_stands label base None s = error_stands Putting kinds.TypeError label s
setter_stands label base (Some p) s = setter_found_stands (union label p.label) base (setter_in p.body) s

overwritten_stands : (b : Bool) (rule : Rule) (o : ℕ) (key : List ℕ) (label : Label) (v : Val) (s : State) → FramesStand (overwritten b rule o key label v s) s
unfolding overwritten
overwritten_stands true rule o key label v s = refl
overwritten_stands false rule o key label v s = acted_stands is_put (heap_acts.write rule o key (union (context s.frames) label) v s.heap) s

put_by_stands : (plan : PutPlan Label) (rule : Rule) (o : ℕ) (key : List ℕ) (label : Label) (base v : Val) (s : State) → FramesStand (put_by plan rule o key label base v s) s
unfolding put_by
put_by_stands (Write walk) rule o key label base v s = overwritten_stands (is_length_in key (slice_get s.heap o)) rule o key (union label walk) v s
put_by_stands (Add walk) rule o key label base v s = acted_stands is_put (heap_acts.add o key (union (context s.frames) (union label walk)) (Data v.value) v.label made_by_script s.heap) s
put_by_stands (Refused walk) rule o key label base v s = error_stands Putting kinds.TypeError (union label walk) s
put_by_stands (Setter at walk) rule o key label base v s = setter_stands (union label walk) base (own_in key (slice_get s.heap at.0)) s

object_stands : (rule : Rule) (o : ℕ) (key : List ℕ) (label : Label) (base v : Val) (s : State) → FramesStand (put rule o key label base v s) s
unfolding put
object_stands rule o key label base v s = put_by_stands (can_put key (object_chain s.heap o)) rule o key label base v s

-- on a primitive value
setter_if_stands : (b : Bool) (label : Label) (base : Val) (p : Slot Label) (s : State) → FramesStand (setter_if b label base p s) s
unfolding setter_if
setter_if_stands true label base p s = setter_found_stands (union label p.label) base (setter_in p.body) s
setter_if_stands false label base p s = error_stands Putting kinds.TypeError label s

beyond_stands : (label : Label) (base : Val) (at : Option (ℕ × Slot Label)) (s : State) → FramesStand (put_beyond label base at s) s
unfolding put_beyond
beyond_stands label base None s = error_stands Putting kinds.TypeError label s
beyond_stands label base (Some f) s = setter_if_stands (is_accessor f.1.body) label base f.1 s

primitive_stands : (v : Option Primitive) (label : Label) (base : Val) (p : Primitive) (key : List ℕ) (s : State) → FramesStand (put_on_primitive v label base p key s) s
unfolding put_on_primitive
primitive_stands (Some v) label base p key s = error_stands Putting kinds.TypeError label s
primitive_stands None label base p key s = let walk = find key (primitive_chain s.heap p) in beyond_stands (union label walk.walk) base walk.at s

member_stands : (label : Label) (base : Val) (u : Value) (key : List ℕ) (v : Val) (s : State) → FramesStand (put_property label base u key v s) s
unfolding put_property
member_stands label base (value.Primitive p) key v s = primitive_stands (own_value_of p key) label base p key s
member_stands label base (value.Object o) key v s = object_stands W2 o.0 key label base v s

name_stands : (place : Place) (walk : Label) (name : List ℕ) (v : Val) (s : State) → FramesStand (put_named place walk name v s) s
unfolding put_named
name_stands (in_record i) walk name v s = then_stands (assigned_to (binding_at s.records i name) name i v s) (λ u. ret is_put) s (assigned_to_stands (binding_at s.records i name) name i v s) (λ u t. refl)
name_stands on_global walk name v s = object_stands W1 global_object.0 name bottom global_value v s
name_stands nowhere walk name v s = error_stands Putting kinds.ReferenceError walk s

pub put_stands : (n : Reference) (v : Val) (s : State) → FramesStand (put_value n v s) s
unfolding put_value
put_stands (of_name name place walk) v s = name_stands place walk name v s
put_stands (of_property base key label) v s = member_stands (union base.label label) base base.value key v s

-- ---- they are deleted

removed_if_stands : (b : Bool) (place : Label) (o : ℕ) (key : List ℕ) (s : State) → FramesStand (removed_if b place o key s) s
unfolding removed_if
removed_if_stands true place o key s = acted_stands (truth_of true place) (heap_acts.remove o key (union (context s.frames) place) s.heap) s
removed_if_stands false place o key s = error_stands Val kinds.TypeError place s

removed_own_stands : (p : Option (Slot Label)) (label structure : Label) (o : ℕ) (key : List ℕ) (s : State) → FramesStand (removed_own p label structure o key s) s
unfolding removed_own
removed_own_stands None label structure o key s = refl
removed_own_stands (Some p) label structure o key s = removed_if_stands p.marks.configurable (union label p.existence) o key s

removed_in_stands : (p : Option (Object Label)) (label : Label) (o : ℕ) (key : List ℕ) (s : State) → FramesStand (removed_in p label o key s) s
unfolding removed_in
removed_in_stands None label o key s = refl
removed_in_stands (Some p) label o key s = removed_own_stands (own key p.rows) label p.structure o key s

removed_of_primitive_stands : (v : Option Primitive) (label : Label) (s : State) → FramesStand (removed_of_primitive v label s) s
unfolding removed_of_primitive
removed_of_primitive_stands None label s = refl
removed_of_primitive_stands (Some v) label s = error_stands Val kinds.TypeError label s

removed_stands : (label : Label) (base : Value) (key : List ℕ) (s : State) → FramesStand (remove_property label base key s) s
unfolding remove_property
removed_stands label (value.Primitive p) key s = removed_of_primitive_stands (own_value_of p key) label s
removed_stands label (value.Object o) key s = removed_in_stands (slice_get s.heap o.0) label o.0 key s

pub remove_stands : (n : Reference) (s : State) → FramesStand (remove n s) s
unfolding remove
remove_stands (of_name name place walk) s = error_stands Val kinds.SyntaxError bottom s
remove_stands (of_property base key label) s = removed_stands (union base.label label) base.value key s

-- ---- values that are needed, and keys

needed_stands : (b : Bool) (v : Val) (s : State) → FramesStand (needed b v s) s
unfolding needed
needed_stands true v s = refl
needed_stands false v s = error_stands Val kinds.TypeError v.label s

has_of_primitive_stands : (v : Option Primitive) (label : Label) (walk : Found) (s : State) → FramesStand (has_of_primitive v label walk s) s
unfolding has_of_primitive
has_of_primitive_stands None label walk s = refl
has_of_primitive_stands (Some v) label walk s = refl

has_stands : (label : Label) (key : List ℕ) (v : Value) (s : State) → FramesStand (has label key v s) s
unfolding has
has_stands label key (value.Primitive p) s = has_of_primitive_stands (own_value_of p key) label (find key (primitive_chain s.heap p)) s
has_stands label key (value.Object o) s = refl

-- ---- what built-ins ask for besides

on_object_stands : (X : Type 0) (label : Label) (v : Value) (next : ℕ → L X) → ((o : ℕ) (s : State) → FramesStand (next o s) s) → (s : State) → FramesStand (on_object_in label v next s) s
unfolding on_object_in
on_object_stands X label (value.Primitive p) next stand s = error_stands X kinds.TypeError label s
on_object_stands X label (value.Object o) next stand s = stand o.0 s

own_stands : (part : OwnPart) (key : List ℕ) (label : Label) (p : Option (Object Label)) (s : State) → FramesStand (own_property_in part key label p s) s
unfolding own_property_in
own_stands part key label None s = refl
own_stands part key label (Some p) s = refl

marks_stands : (label : Label) (marks : Marks) (o : ℕ) (key : List ℕ) (s : State) → FramesStand (set_marks label marks o key s) s
unfolding set_marks
marks_stands label marks o key s = acted_stands tt (heap_acts.set_attributes o key (union (context s.frames) label) marks s.heap) s

body_stands : (b : Bool) (place : Label) (body : Body) (label : Label) (o : ℕ) (key : List ℕ) (s : State) → FramesStand (set_body_if b place body label o key s) s
unfolding set_body_if
body_stands true place body label o key s = acted_stands tt (heap_acts.set_body o key (union (context s.frames) place) body label s.heap) s
body_stands false place body label o key s = refl

redefine_stands : (p : Slot Label) (q : Property) (d : Definition) (place given : Label) (o : ℕ) (key : List ℕ) (s : State) → FramesStand (redefine p q d place given o key s) s
unfolding redefine
redefine_stands p q d place given o key s =
    let body = set_body_if (changes_body (erased_slot p) d) place q.body (body_label (keeps_a_half (erased_slot p) d) given p.label) o key in
    let gives : Unit {0} → L Defining = λ w. ret (is_defined place) in
    then_stands (set_marks (union place given) q.marks o key s) (λ u. body >>= gives) s (marks_stands (union place given) q.marks o key s)
    (λ u t. then_stands (body t) gives t (body_stands (changes_body (erased_slot p) d) place q.body (body_label (keeps_a_half (erased_slot p) d) given p.label) o key t) (λ w r. refl))

define_over_stands : (old : Option (Slot Label)) (d : Definition) (place given : Label) (o : ℕ) (key : List ℕ) (q : Option Property) (s : State) → FramesStand (define_over old d place given o key q s) s
unfolding define_over
define_over_stands None d place given o key None s = error_stands Defining kinds.TypeError (union (union place given) (value_label None)) s
define_over_stands (Some p) d place given o key None s = error_stands Defining kinds.TypeError (union (union place given) (value_label (Some p))) s
define_over_stands None d place given o key (Some q) s = acted_stands (is_defined place) (heap_acts.add o key (union (context s.frames) (union place given)) q.body given q.marks s.heap) s
define_over_stands (Some p) d place given o key (Some q) s = redefine_stands p q d place given o key s

define_by_stands : (b : Bool) (p : Object Label) (marks : GivenMarks) (body : GivenBody) (place given : Label) (o : ℕ) (key : List ℕ) (s : State) → FramesStand (define_by b p marks body place given o key s) s
unfolding define_by
define_by_stands true p marks body place given o key s = refl
define_by_stands false p marks body place given o key s =
    let d : Definition = record { marks = marks; body = body } in define_over_stands (own key p.rows) d place given o key (behind_definition (may_add key p) (property_in (own key p.rows)) d) s

define_given_stands : (valued : Bool) (p : Object Label) (marks : GivenMarks) (body : Option GivenBody) (place given : Label) (o : ℕ) (key : List ℕ) (s : State) → FramesStand (define_given valued p marks body place given o key s) s
unfolding define_given
define_given_stands valued p marks None place given o key s = error_stands Defining kinds.TypeError (union (union place given) (value_label (own key p.rows))) s
define_given_stands valued p marks (Some body) place given o key s = define_by_stands (is_length p.class key && valued) p marks body place given o key s

define_stands : (p : Option (Object Label)) (label : Label) (o : ℕ) (key : List ℕ) (marks : GivenMarks) (shape : Shape) (v g set : Val) (s : State) → FramesStand (define_in p label o key marks shape v g set s) s
unfolding define_in
define_stands None label o key marks shape v g set s = error_stands Defining kinds.TypeError label s
define_stands (Some p) label o key marks shape v g set s =
    define_given_stands shape.has_value p marks (given_body (erased_heap s.heap) marks shape v.value g.value set.value) (union label (definition_test key (own key p.rows) p)) (union v.label (union g.label set.label)) o key s

pub defining_stands : (key : List ℕ) (marks : GivenMarks) (shape : Shape) (base v g set : Val) (s : State) → FramesStand (defining key marks shape base v g set s) s
unfolding defining
defining_stands key marks shape base v g set s =
    on_object_stands Defining base.label base.value (λ o t. define_in (slice_get t.heap o) base.label o key marks shape v g set t) (λ o t. define_stands (slice_get t.heap o) base.label o key marks shape v g set t) s

-- ---- the `length` of an array is given a number

delete_stands : (label : Label) (o i : ℕ) (s : State) → FramesStand (delete_element label o i s) s
unfolding delete_element
delete_stands label o i s = acted_stands tt (heap_acts.remove o (element_key i) (union (context s.frames) label) s.heap) s

deleted_if_stands : (b : Bool) (next : Label → L Cut) → ((tested : Label) (s : State) → FramesStand (next tested s) s) → (label : Label) (o i : ℕ) (tested : Label) (s : State) → FramesStand (deleted_if b next label o i tested s) s
unfolding deleted_if
deleted_if_stands true next stand label o i tested s = then_stands (delete_element (union label tested) o i s) (λ u. next tested) s (delete_stands (union label tested) o i s) (λ u t. stand tested t)
deleted_if_stands false next stand label o i tested s = refl

deleted_at_stands : (e : Option (ℕ × Slot Label)) (next : Label → L Cut) → ((tested : Label) (s : State) → FramesStand (next tested s) s) → (label : Label) (o : ℕ) (tested : Label) (s : State) → FramesStand (deleted_at e next label o tested s) s
unfolding deleted_at
deleted_at_stands None next stand label o tested s = refl
deleted_at_stands (Some e) next stand label o tested s = deleted_if_stands e.1.marks.configurable next stand label o e.0 (union tested e.1.existence) s

deleted_stands : (more : ℕ) (label : Label) (o n : ℕ) (tested : Label) (s : State) → FramesStand (deleted_within more label o n tested s) s
unfolding deleted_within
deleted_stands zero label o n tested s = refl
deleted_stands (suc more) label o n tested s = deleted_at_stands (highest n (rows_in (slice_get s.heap o))) (deleted_within more label o n) (deleted_stands more label o n) label o tested s

ended_stands : (stays : Option ℕ) (place label : Label) (s : State) → FramesStand (ended_at stays place label s) s
unfolding ended_at
ended_stands None place label s = refl
ended_stands (Some i) place label s = error_stands Val kinds.TypeError label s

cut_stands : (place label : Label) (o n : ℕ) (cut : Cut) (s : State) → FramesStand (cut_length place label o n cut s) s
unfolding cut_length
cut_stands place label o n cut s =
    let body = length_body (length_behind n cut.stays) in
    then_stands (set_body_if true place body (union label cut.tested) o length_key s) (λ u. ended_at cut.stays place (union place (union label cut.tested))) s (body_stands true place body (union label cut.tested) o length_key s)
    (λ u t. ended_stands cut.stays place (union place (union label cut.tested)) t)

marks_if_stands : (b : Bool) (label : Label) (marks : Marks) (o : ℕ) (key : List ℕ) (s : State) → FramesStand (set_marks_if b label marks o key s) s
marks_if_stands true label marks o key s = marks_stands label marks o key s
marks_if_stands false label marks o key s = refl

length_to_stands : (defines : Bool) (p : Object Label) (place given : Label) (o n : ℕ) (q : Option Property) (s : State) → FramesStand (set_length_to defines p place given o n q s) s
unfolding set_length_to
length_to_stands defines p place given o n None s = error_stands Val kinds.TypeError (union (union place given) (value_label (own length_key p.rows))) s
length_to_stands defines p place given o n (Some q) s =
    let label = union given p.structure in
    let deletes = deleted_within (length p.rows) (union place label) o n bottom in
    then_stands (set_marks_if defines (union place given) q.marks o length_key s) (λ u. deletes >>= cut_length place label o n) s (marks_if_stands defines (union place given) q.marks o length_key s)
    (λ u t. then_stands (deletes t) (cut_length place label o n) t (deleted_stands (length p.rows) (union place label) o n bottom t) (cut_stands place label o n))

length_in_stands : (defines : Bool) (p : Option (Object Label)) (place given : Label) (o : ℕ) (marks : GivenMarks) (n : ℕ) (s : State) → FramesStand (set_length_in defines p place given o marks n s) s
unfolding set_length_in
length_in_stands defines None place given o marks n s = error_stands Val kinds.TypeError (union place given) s
length_in_stands defines (Some p) place given o marks n s =
    let own_length = own length_key p.rows in
    length_to_stands defines p (union place (definition_test length_key own_length p)) given o n (behind_length (property_in own_length) (record { marks = marks; body = a_value (value.Primitive (Num (Int (pos n)))) })) s

pub length_stands : (defines : Bool) (place : Label) (o : ℕ) (marks : GivenMarks) (n : ℕ) (given : Label) (s : State) → FramesStand (set_length defines place o marks n given s) s
unfolding set_length
length_stands defines place o marks n given s = length_in_stands defines (slice_get s.heap o) place given o marks n s

pub numbered_stands : (n : Result Number LeftNumbers) (s : State) → FramesStand (numbered_by n s) s
unfolding numbered_by
numbered_stands (Ok n) s = refl
numbered_stands (Err e) s = refl

-- ---- further parts of objects

prototype_stands : (label : Label) (p : Option (Object Label)) (s : State) → FramesStand (prototype_in label p s) s
unfolding prototype_in
prototype_stands label None s = refl
prototype_stands label (Some p) s = refl

extensible_stands : (label : Label) (p : Option (Object Label)) (s : State) → FramesStand (extensible_in label p s) s
unfolding extensible_in
extensible_stands label None s = refl
extensible_stands label (Some p) s = refl

prevent_stands : (label : Label) (o : ℕ) (s : State) → FramesStand (prevent label o s) s
unfolding prevent
prevent_stands label o s = acted_stands (record { value = undefined; label = label }) (heap_acts.prevent_extensions o (union (context s.frames) label) s.heap) s

new_stands : (c : Class) (proto : Option ObjId) (label : Label) (s : State) → FramesStand (make_new c proto label s) s
unfolding make_new
new_stands c proto label s = refl

new_by_stands : (c : Class) (v : Val) (s : State) → FramesStand (make_new_by c v s) s
unfolding make_new_by
new_by_stands c v s = new_stands c (option_map (standing s.heap) (prototype_given v.value)) v.label s

keys_stand : (all : Bool) (label : Label) (o : ℕ) (s : State) → FramesStand (list_keys all label o s) s
unfolding list_keys
keys_stand all label o s = refl

bind_value_stands : (v : Value) (target this : Val) (args : List Val) (s : State) → FramesStand (bind_value v target this args s) s
unfolding bind_value bind_object
bind_value_stands (value.Primitive p) target this args s = error_stands Val kinds.TypeError target.label s
bind_value_stands (value.Object o) target this args s = refl

bind_stands : (b : Bool) (target this : Val) (args : List Val) (s : State) → FramesStand (bind_to b target this args s) s
unfolding bind_to
bind_stands true target this args s = bind_value_stands target.value target this args s
bind_stands false target this args s = error_stands Val kinds.TypeError target.label s

origins_stands : (b : Bool) (next : L Val) (s : State) → FramesStand (next s) s → FramesStand (if_origins b next s) s
unfolding if_origins
origins_stands true next s stand = stand
origins_stands false next s stand = refl

structure_stands : (origins : List ℕ) (label : Label) (o : ℕ) (s : State) → FramesStand (raise_structure origins label o s) s
unfolding raise_structure
structure_stands origins label o s = acted_stands (record { value = undefined; label = label }) (heap_acts.raise_structure o (union (context s.frames) label) (label_of origins) s.heap) s

existence_stands : (origins : List ℕ) (label : Label) (key : List ℕ) (o : ℕ) (s : State) → FramesStand (raise_existence origins label key o s) s
unfolding raise_existence
existence_stands origins label key o s =
    acted_stands (record { value = undefined; label = label }) (heap_acts.raise_existence o key (union (context s.frames) (union label (own_walk key (slice_get s.heap o)))) (label_of origins) s.heap) s

module _ (tables : Tables) (inputs : Given) where
  read_stands : (i : Option ℕ) (name : Label) (s : State) → FramesStand (read_channel tables inputs i name s) s
  unfolding read_channel
  read_stands None name s = refl
  read_stands (Some i) name s = let have = channel_label tables.inputs i in guard_stands (within (union (context s.frames) name) have) W11 (union (context s.frames) name) have (reads tables inputs i have) s refl

  print_stands : (i : ℕ) (label : Label) (v : Value) (s : State) → FramesStand (print_text tables inputs i label v s) s
  unfolding print_text
  print_stands i label (value.Primitive Undefined) s = refl
  print_stands i label (value.Primitive Null) s = refl
  print_stands i label (value.Primitive (prims.Bool b)) s = refl
  print_stands i label (value.Primitive (Num n)) s = refl
  print_stands i label (value.Primitive (Str text)) s =
      let need = union (context s.frames) label in
      let have = channel_label tables.outputs i in
      guard_stands (within need have) W12 need have (prints tables inputs i need label text) s refl
  print_stands i label (value.Object o) s = refl

  channel_stands : (i : Option ℕ) (name : Label) (v : Val) (s : State) → FramesStand (print_channel tables inputs i name v s) s
  unfolding print_channel
  channel_stands None name v s = refl
  channel_stands (Some i) name v s = print_stands i (union name v.label) v.value s

  declared_stands : (origins : List ℕ) (next : L Val) (s : State) → FramesStand (next s) s → FramesStand (with_origins tables inputs origins next s) s
  unfolding with_origins
  declared_stands origins next s stand = origins_stands (are_origins (length tables.origins) origins) next s stand

  pub act_stands : (a : Act) (vs : List Val) (s : State) → FramesStand (act tables inputs a vs s) s
  unfolding act make_object make_array
  act_stands (object_of parts) vs s = refl
  act_stands (array_of places n) vs s = refl
  act_stands base_needed vs s = needed_stands (is_coercible (argument 0 vs).value) (argument 0 vs) s
  act_stands object_needed vs s = needed_stands (is_object (argument 0 vs).value) (argument 0 vs) s
  act_stands has_key vs s = has_stands (union (argument 0 vs).label (argument 1 vs).label) (key_text (argument 0 vs).value) (argument 1 vs).value s
  act_stands (throws_error kind) vs s = error_stands Val kind bottom s
  act_stands (own_property part key) vs s = let v = argument 0 vs in on_object_stands Val v.label v.value (λ o t. own_property_in part key v.label (slice_get t.heap o) t) (λ o t. own_stands part key v.label (slice_get t.heap o) t) s
  act_stands (own_keys all) vs s = let v = argument 0 vs in on_object_stands Val v.label v.value (list_keys all v.label) (keys_stand all v.label) s
  act_stands prototype_of_object vs s = let v = argument 0 vs in on_object_stands Val v.label v.value (λ o t. prototype_in v.label (slice_get t.heap o) t) (λ o t. prototype_stands v.label (slice_get t.heap o) t) s
  act_stands is_extensible vs s = let v = argument 0 vs in on_object_stands Val v.label v.value (λ o t. extensible_in v.label (slice_get t.heap o) t) (λ o t. extensible_stands v.label (slice_get t.heap o) t) s
  act_stands prevent_extensions vs s = let v = argument 0 vs in on_object_stands Val v.label v.value (prevent v.label) (prevent_stands v.label) s
  act_stands (new_object c false) vs s = new_stands c (Some (class_prototype c)) bottom s
  act_stands (new_object c true) vs s = new_by_stands c (argument 0 vs) s
  act_stands bind vs s = bind_stands (is_function_at s.heap (argument 0 vs).value) (argument 0 vs) (argument 1 vs) (others (others vs)) s
  act_stands read_line vs s = read_stands (channel_of tables.inputs (argument 0 vs).value) (argument 0 vs).label s
  act_stands print_line vs s = channel_stands (channel_of tables.outputs (argument 0 vs).value) (argument 0 vs).label (argument 1 vs) s
  act_stands (join_label origins) vs s = declared_stands origins (ret (joined (label_of origins) (argument 0 vs))) s refl
  act_stands (raise_structure_by origins) vs s = let v = argument 0 vs in declared_stands origins (on_object v (raise_structure origins v.label)) s (on_object_stands Val v.label v.value (raise_structure origins v.label) (structure_stands origins v.label) s)
  act_stands (raise_existence_by key origins) vs s = let v = argument 0 vs in declared_stands origins (on_object v (raise_existence origins v.label key)) s (on_object_stands Val v.label v.value (raise_existence origins v.label key) (existence_stands origins v.label key) s)

-- ---- `instanceof`: up to the read of the `prototype`, and behind it

pub is_instance_stands : (label : Label) (o : ℕ) (v : Value) (s : State) → FramesStand (is_instance label o v s) s
unfolding is_instance
is_instance_stands label o (value.Primitive p) s = error_stands Val kinds.TypeError label s
is_instance_stands label o (value.Object proto) s = refl

test_stands : (b : Bool) (v : Val) (label : Label) (f : ℕ) (s : State) → FramesStand (tested_if b v label f s) s
unfolding tested_if
test_stands true v label f s = refl
test_stands false v label f s = error_stands Test kinds.TypeError label s

pub tested_stands : (v : Val) (label : Label) (f : Value) (s : State) → FramesStand (tested v label f s) s
unfolding tested
tested_stands v label (value.Primitive p) s = error_stands Test kinds.TypeError label s
tested_stands v label (value.Object f) s = test_stands (is_function_in (slice_get s.heap f.0)) v label f.0 s

-- ---- operators

module _ (tables : Tables) (inputs : Given) (set : BuiltIns) (functions : List FunctionCode) where
  pub unary_stands : (o : UnaryOperator) (v : Val) (s : State) → FramesStand ((labelled tables inputs set functions).unary o v s) s
  unary_stands o v s = given_stands v.label (unary_of o (seen s.heap v.value)) s

  pub binary_stands : (o : BinaryOperator) (v u : Val) (s : State) → FramesStand ((labelled tables inputs set functions).binary o v u s) s
  binary_stands o v u s = given_stands (union v.label u.label) (binary_of o v.value u.value) s

  operated_by_stands : (b : Bool) (o : BinaryOperator) (v u : Val) (s : State) → FramesStand (operated_by b tables inputs set functions o v u s) s
  operated_by_stands true o v u s = then_stands (act tables inputs object_needed (u ∷ []) s) (λ w. act tables inputs has_key (v ∷ w ∷ [])) s (act_stands tables inputs object_needed (u ∷ []) s) (λ w t. act_stands tables inputs has_key (v ∷ w ∷ []) t)
  operated_by_stands false o v u s = binary_stands o v u s

  pub operated_stands : (o : BinaryOperator) (v u : Val) (s : State) → FramesStand (operated tables inputs set functions o v u s) s
  operated_stands o v u s = operated_by_stands (is_keyed o) o v u s

-- ---- worlds: a store's own meaning is a reading that agrees with it

module _ {S T X Y : Type 0} (made : S → T → Type 0) (meaning : S → T → Label) (store : S) (read_result : (T → Label) → X → Y) (act : (T → Label) → L Y) (old new : World T) (stands : (s : State) → FramesStand (act (meaning store) s) s) where
  itself : IsReading made meaning store (meaning store)
  itself = record { agrees = λ label m. refl }

  seen_length : (w : World T) → length (map (seen_frame (meaning store)) w.frames.frames) ≡ length w.frames.frames
  seen_length w = length-map w.frames.frames (seen_frame (meaning store))

  -- where the call goes on there are as many frames as before
  goes_level : (x : X) → Acts made meaning store read_result act old new (Ok (outcome.Goes x)) → length new.frames.frames ≡ length old.frames.frames
  goes_level x acts =
      let before = state_of (meaning store) old [] 0 in
      let same = subst (λ (o : Outcome Halt Jump Y State). FramesStand o before) (acts.says (meaning store) itself [] 0) (stands before) in
      sym (seen_length new) ∙ ap length same ∙ seen_length old

  -- where it throws there are no more
  throws_lower : (v : Labelled T) → Acts made meaning store read_result act old new (Ok (outcome.Throws v)) → length new.frames.frames ≤ length old.frames.frames
  throws_lower v acts =
      let before = state_of (meaning store) old [] 0 in
      let fewer = subst (λ (o : Outcome Halt Jump Y State). FramesStand o before) (acts.says (meaning store) itself [] 0) (stands before) in
      let this = seen_length new in
      let that = seen_length old in
      omega (arith, this, that, fewer)

  -- where it leaves as many
  leaves_level : (why : Leaving) → Acts made meaning store read_result act old new (Ok (outcome.Leaves why)) → length new.frames.frames ≡ length old.frames.frames
  leaves_level why acts =
      let before = state_of (meaning store) old [] 0 in
      let same = subst (λ (o : Outcome Halt Jump Y State). FramesStand o before) (acts.says (meaning store) itself [] 0) (stands before) in
      sym (seen_length new) ∙ ap length same ∙ seen_length old

  -- whatever the call answered
  pub stands_by : (result : Result (machine.Outcome X T) (FlowFault T)) → Acts made meaning store read_result act old new result → StandsBy old new result
  stands_by (Ok (outcome.Goes x)) acts = goes_level x acts
  stands_by (Ok (outcome.Throws v)) acts = throws_lower v acts
  stands_by (Ok (outcome.Leaves why)) acts = leaves_level why acts
  stands_by (Err f) acts = tt
