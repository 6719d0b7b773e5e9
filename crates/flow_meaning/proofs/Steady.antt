-- Acts keep the turns that are left, and don't look at them.
use Rattle.std.proofs.Common.{◌≡◌, ℕ, zero, suc, List, Bool, true, false, ◌&&◌, Option, Some, None, Result, Ok, Err, slice_get, refl, sym, subst}
use Rattle.origin_labels.specs.Label.{Label, bottom, union, within}
use Rattle.flow_policy.specs.Policies.{Tables}
use Rattle.flow_policy.specs.Inputs.{Given}
use Rattle.flow_frames.specs.declared.faults.Rule.{Rule}
use Rattle.flow_frames.specs.Frames.{context}
use Rattle.flow_frames.specs.Held.{meant_at}
use Rattle.flow_frames.specs.Rules.{jump_need, raise_need}
use Rattle.js_number.specs.declared.int.LeftNumbers.{LeftNumbers}
use Rattle.js_number.specs.declared.num.Num.{Num as Number}
use Rattle.js_number.specs.declared.primitive.Primitive.{Primitive}
use Rattle.js_number.specs.declared.primitive.Primitive.TheVariants.{Undefined, Null, Num, Str}
use Rattle.js_number.specs.declared.primitive.Primitive.TheVariants as prims
use Rattle.js_values.specs.declared.ids.ObjId.{ObjId}
use Rattle.js_values.specs.declared.value.Value.{Value}
use Rattle.js_values.specs.declared.value.Value.TheVariants as value
use Rattle.js_values.specs.declared.property.Body.{Body}
use Rattle.js_values.specs.declared.property.Marks.{Marks}
use Rattle.js_values.specs.declared.property.Slot.{Slot}
use Rattle.js_values.specs.declared.inner.Class.{Class}
use Rattle.js_values.specs.Arrays.{length_key, is_length, highest}
use Rattle.js_values.specs.Objects.{Property, Object, own}
use Rattle.js_values.specs.Records.{Binding}
use Rattle.js_values.specs.Walks.{Found, find, object_chain}
use Rattle.native_protocol.specs.declared.request.ErrorKind.{ErrorKind}
use Rattle.native_protocol.specs.declared.request.GivenMarks.{GivenMarks}
use Rattle.object_heap.specs.Acts.{Acted}
use Rattle.prototype_walk.specs.declared.plan.PutPlan.{PutPlan}
use Rattle.prototype_walk.specs.declared.plan.PutPlan.TheVariants.{Write, Add, Setter, Refused}
use Rattle.prototype_walk.specs.KeyLists.{rows_in}
use Rattle.prototype_walk.specs.Plans.{can_put}
use Rattle.js_ast.specs.declared.operators.UnaryOperator.{UnaryOperator}
use Rattle.js_ast.specs.Trees.{Function}
use Rattle.js_ast.specs.Functions.{FunctionCode}
use Rattle.es_meaning.specs.BuiltIns.{BuiltIns}
use Rattle.es_meaning.specs.Definitions.{GivenBody, Definition, is_accessor, setter_in}
use Rattle.es_meaning.specs.Outcomes as es
use Rattle.es_meaning.specs.Environments.{Leaving}
use Rattle.es_meaning.specs.Outcomes.{Exit, left, Outcome, Goes, Jumps, Ends, ret, and_then, ◌>>=◌}
use Rattle.es_meaning.specs.Operations.{Part, OwnPart, Shape, Act, object_of, array_of, base_needed, object_needed, has_key, throws_error, own_property, own_keys, prototype_of_object, is_extensible, prevent_extensions, new_object, bind, read_line, print_line, join_label, raise_structure as raise_structure_by, raise_existence as raise_existence_by}
use Rattle.es_meaning.specs.Operators.{unary_of}
use Rattle.es_meaning.specs.Primitives.{own_value_of}
use Rattle.es_meaning.specs.Plain.{Place, in_record, on_global, nowhere, binding_at, number_in}
use Rattle.es_meaning.specs.Requested.{given_body}
use Rattle.flow_meaning.specs.Erased.{erased_heap}
use Rattle.flow_meaning.specs.Requested.{is_function_at}
use Rattle.flow_meaning.specs.Scopes.{Val, Halt, State, Jump, L, guard, raise, reached, jump_to, jump, raise_frame, frame_of, quiet, Came, ended, caught, resume}
use Rattle.flow_meaning.specs.Tracked.{ends, with_error, throw_error, given, seen, Reference, of_name, of_property, bound, Access, has_value, found_globally, property_of, named, accessed, accessed_for_typeof, assigned, assigned_to, acted, own_in, Putting, is_put, setter_found, setter_at, overwritten, is_length_in, put_by, put, setter_if, put_beyond, put_on_primitive, primitive_chain, put_property, put_named, put_value, removed_if, removed_own, removed_in, removed_of_primitive, remove_property, remove, make_object, make_array, needed, has_of_primitive, has, argument, on_object_in, own_property_in, set_marks, set_body_if, redefine, Defining, define_over, define_by, define_given, define_in, defining, Cut, delete_element, deleted_if, deleted_at, deleted_within, ended_at, cut_length, set_marks_if, set_length_to, set_length_in, set_length, numbered_by, numbered, prototype_in, extensible_in, prevent, make_new, make_new_by, list_keys, bind_object, bind_value, bind_to, if_origins, raise_structure, raise_existence, make_function, is_instance, jumps_to, raises, raised_by, read_channel, print_text, print_channel, with_origins, act, global_walk, labelled}

-- the state with so many turns left
abbrev pub with_turns : ℕ → State → State
with_turns n s = record s { turns = n }

-- an outcome with so many turns left
abbrev pub left_with : {X : Type 0} → ℕ → Outcome Halt Jump X State → Outcome Halt Jump X State
left_with n (Goes a s) = Goes a (with_turns n s)
left_with n (Jumps j s) = Jumps j (with_turns n s)
left_with n (Ends halt s) = Ends halt (with_turns n s)

-- with other turns it does the same, and leaves those
pub record Steady {X : Type 0} (m : L X) : Type 0 where
  pub steady : (n : ℕ) (s : State) → m (with_turns n s) ≡ left_with n (m s)

-- so many turns are left
abbrev pub Holds : {X : Type 0} → ℕ → Outcome Halt Jump X State → Type 0
Holds n (Goes a s) = s.turns ≡ n
Holds n (Jumps j s) = s.turns ≡ n
Holds n (Ends halt s) = s.turns ≡ n

-- which it has
holds_left : {X : Type 0} (n : ℕ) (o : Outcome Halt Jump X State) → Holds n (left_with n o)
holds_left n (Goes a s) = refl
holds_left n (Jumps j s) = refl
holds_left n (Ends halt s) = refl

-- as many as there were
pub holds : {X : Type 0} (m : L X) → Steady m → (s : State) → Holds s.turns (m s)
holds m l s = subst (Holds s.turns) (sym (l.steady s.turns s)) (holds_left s.turns (m s))

-- ---- rules and jumps

-- one computation, and then the next
then_steady : {X Y : Type 0} (n : ℕ) (o : Outcome Halt Jump X State) (f : X → L Y) → ((a : X) → Steady (f a)) → and_then (left_with n o) f ≡ left_with n (and_then o f)
then_steady n (Goes a s) f h = (h a).steady n s
then_steady n (Jumps j s) f h = refl
then_steady n (Ends halt s) f h = refl

pub bind_steady : {X Y : Type 0} {m : L X} (f : X → L Y) → Steady m → ((a : X) → Steady (f a)) → Steady (m >>= f)
bind_steady {m = m} f l h = record { steady = λ n s. subst (λ o. and_then o f ≡ left_with n (and_then (m s) f)) (sym (l.steady n s)) (then_steady n (m s) f h) }

-- a result
pub ret_steady : {X : Type 0} (a : X) → Steady {X = X} (ret a)
ret_steady a = record { steady = λ n s. refl }

-- an end
pub ends_steady : (X : Type 0) (halt : es.Halt) → Steady {X = X} (ends halt)
ends_steady X halt = record { steady = λ n s. refl }

-- where a rule is asked
guard_steady : {X : Type 0} (b : Bool) (rule : Rule) (need have : Label) {m : L X} → Steady m → Steady (guard b rule need have m)
unfolding guard
guard_steady true rule need have l = record { steady = λ n s. l.steady n s }
guard_steady false rule need have l = record { steady = λ n s. refl }

-- a jump
pub jump_steady : (X : Type 0) (cause : Label) (j : Jump) → Steady {X = X} (jump cause j)
unfolding jump jump_to
jump_steady X cause j = record {
  steady = λ n s. let depth = reached j.to s.frames in
      (guard_steady (within (jump_need s.frames depth cause) (meant_at s.frames depth)) _ _ _ (record { steady = λ n s. refl })).steady n s;
}

-- an exception of the engine
pub throws_steady : (X : Type 0) (kind : ErrorKind) (cause : Label) → Steady {X = X} (throw_error kind cause)
unfolding throw_error
throws_steady X kind cause = record { steady = λ n s. (jump_steady X cause _).steady n (with_error kind s) }

-- ---- acts

-- an operator's value
pub given_steady : (label : Label) (r : Result Primitive (List ℕ)) → Steady (given label r)
unfolding given
given_steady label (Ok v) = record { steady = λ n s. refl }
given_steady label (Err name) = record { steady = λ n s. refl }

-- the value of a binding
bound_steady : (b : Option (Binding Val)) → Steady (bound b)
unfolding bound
bound_steady (Some b) = record { steady = λ n s. refl }
bound_steady None = record { steady = λ n s. (throws_steady Val _ _).steady n s }

-- what the global object has of a name, and an object of a key
globally_steady : (walk : Label) (f : Option (ℕ × Slot Label)) → Steady (found_globally walk f)
unfolding found_globally
globally_steady walk (Some f) = record { steady = λ n s. refl }
globally_steady walk None = record { steady = λ n s. (throws_steady Access _ _).steady n s }

pub property_steady : (label : Label) (base : Val) (v : Value) (key : List ℕ) → Steady (property_of label base v key)
unfolding property_of
property_steady label base (value.Primitive p) key = record { steady = λ n s. refl }
property_steady label base (value.Object o) key = record { steady = λ n s. refl }

-- what a read of a reference comes to
named_steady : (place : Place) (walk : Label) (x : List ℕ) → Steady (named place walk x)
unfolding named
named_steady (in_record i) walk x = record { steady = λ n s. (bind_steady _ (bound_steady (binding_at s.records i x)) (λ v. ret_steady (has_value v))).steady n s }
named_steady on_global walk x = record { steady = λ n s. (globally_steady _ (global_walk s.heap x).at).steady n s }
named_steady nowhere walk x = record { steady = λ n s. (throws_steady Access _ _).steady n s }

pub accessed_steady : (r : Reference) → Steady (accessed r)
unfolding accessed
accessed_steady (of_name x place walk) = named_steady place walk x
accessed_steady (of_property v key label) = property_steady _ v v.value key

pub typeof_steady : (r : Reference) → Steady (accessed_for_typeof r)
unfolding accessed_for_typeof
typeof_steady (of_name x (in_record i) walk) = record { steady = λ n s. (accessed_steady (of_name x (in_record i) walk)).steady n s }
typeof_steady (of_name x on_global walk) = record { steady = λ n s. (accessed_steady (of_name x on_global walk)).steady n s }
typeof_steady (of_name x nowhere walk) = record { steady = λ n s. refl }
typeof_steady (of_property v key label) = record { steady = λ n s. (accessed_steady (of_property v key label)).steady n s }

-- a value for a binding
assigned_steady : (mutable : Bool) (have : Label) (x : List ℕ) (i : ℕ) (v : Val) → Steady (assigned mutable have x i v)
unfolding assigned
assigned_steady true have x i v = record { steady = λ n s. (guard_steady (within (context s.frames) have) _ _ _ (record { steady = λ n s. refl })).steady n s }
assigned_steady false have x i v = record { steady = λ n s. (throws_steady (Unit {0}) _ _).steady n s }

-- or for what may be one
assigned_to_steady : (b : Option (Binding Val)) (x : List ℕ) (i : ℕ) (v : Val) → Steady (assigned_to b x i v)
unfolding assigned_to
assigned_to_steady (Some b) x i v = record { steady = λ n s. (assigned_steady b.mutable b.value.label x i v).steady n s }
assigned_to_steady None x i v = record { steady = λ n s. (throws_steady (Unit {0}) _ _).steady n s }

-- what an act on the heap comes to
acted_steady : {X : Type 0} (x : X) (r : Acted (List (Object Label))) → Steady (acted x r)
unfolding acted
acted_steady x (Ok heap) = record { steady = λ n s. refl }
acted_steady x (Err stop) = record { steady = λ n s. refl }

-- a setter that there may be
setter_found_steady : (label : Label) (base : Val) (set : Option ObjId) → Steady (setter_found label base set)
unfolding setter_found
setter_found_steady label base None = record { steady = λ n s. (throws_steady Putting _ _).steady n s }
setter_found_steady label base (Some f) = record { steady = λ n s. refl }

setter_at_steady : (label : Label) (base : Val) (p : Option (Slot Label)) → Steady (setter_at label base p)
unfolding setter_at
setter_at_steady label base None = record { steady = λ n s. (throws_steady Putting _ _).steady n s }
setter_at_steady label base (Some p) = record { steady = λ n s. (setter_found_steady _ base (setter_in p.body)).steady n s }

-- what a put comes to
overwritten_steady : (is_length : Bool) (rule : Rule) (o : ℕ) (key : List ℕ) (label : Label) (v : Val) → Steady (overwritten is_length rule o key label v)
unfolding overwritten
overwritten_steady true rule o key label v = record { steady = λ n s. refl }
overwritten_steady false rule o key label v = record { steady = λ n s. (acted_steady is_put _).steady n s }

put_by_steady : (plan : PutPlan Label) (rule : Rule) (o : ℕ) (key : List ℕ) (label : Label) (base v : Val) → Steady (put_by plan rule o key label base v)
unfolding put_by
put_by_steady (Write walk) rule o key label base v = record { steady = λ n s. (overwritten_steady (is_length_in key (slice_get s.heap o)) rule o key _ v).steady n s }
put_by_steady (Add walk) rule o key label base v = record { steady = λ n s. (acted_steady is_put _).steady n s }
put_by_steady (Refused walk) rule o key label base v = record { steady = λ n s. (throws_steady Putting _ _).steady n s }
put_by_steady (Setter at walk) rule o key label base v = record { steady = λ n s. (setter_at_steady _ base (own_in key (slice_get s.heap at.0))).steady n s }

put_object_steady : (rule : Rule) (o : ℕ) (key : List ℕ) (label : Label) (base v : Val) → Steady (put rule o key label base v)
unfolding put
put_object_steady rule o key label base v = record { steady = λ n s. (put_by_steady (can_put key (object_chain s.heap o)) rule o key label base v).steady n s }

-- a put on a primitive value
setter_if_steady : (accessor : Bool) (label : Label) (base : Val) (p : Slot Label) → Steady (setter_if accessor label base p)
unfolding setter_if
setter_if_steady true label base p = setter_found_steady _ base (setter_in p.body)
setter_if_steady false label base p = throws_steady Putting _ _

put_beyond_steady : (label : Label) (base : Val) (f : Option (ℕ × Slot Label)) → Steady (put_beyond label base f)
unfolding put_beyond
put_beyond_steady label base None = throws_steady Putting _ _
put_beyond_steady label base (Some f) = setter_if_steady (is_accessor f.1.body) label base f.1

put_on_primitive_steady : (known : Option Primitive) (label : Label) (base : Val) (p : Primitive) (key : List ℕ) → Steady (put_on_primitive known label base p key)
unfolding put_on_primitive
put_on_primitive_steady (Some v) label base p key = record { steady = λ n s. (throws_steady Putting _ _).steady n s }
put_on_primitive_steady None label base p key = record { steady = λ n s. let walk = find key (primitive_chain s.heap p) in (put_beyond_steady _ base walk.at).steady n s }

put_property_steady : (label : Label) (base : Val) (b : Value) (key : List ℕ) (v : Val) → Steady (put_property label base b key v)
unfolding put_property
put_property_steady label base (value.Primitive p) key v = record { steady = λ n s. (put_on_primitive_steady (own_value_of p key) label base p key).steady n s }
put_property_steady label base (value.Object o) key v = record { steady = λ n s. (put_object_steady _ o.0 key label base v).steady n s }

put_named_steady : (place : Place) (walk : Label) (x : List ℕ) (v : Val) → Steady (put_named place walk x v)
unfolding put_named
put_named_steady (in_record i) walk x v = record { steady = λ n s. (bind_steady _ (assigned_to_steady (binding_at s.records i x) x i v) (λ u. ret_steady is_put)).steady n s }
put_named_steady on_global walk x v = record { steady = λ n s. (put_object_steady _ _ x _ _ v).steady n s }
put_named_steady nowhere walk x v = record { steady = λ n s. (throws_steady Putting _ _).steady n s }

pub put_steady : (r : Reference) (v : Val) → Steady (put_value r v)
unfolding put_value
put_steady (of_name x place walk) v = put_named_steady place walk x v
put_steady (of_property base key label) v = put_property_steady _ base base.value key v

-- a deletion
removed_if_steady : (configurable : Bool) (place : Label) (o : ℕ) (key : List ℕ) → Steady (removed_if configurable place o key)
unfolding removed_if
removed_if_steady true place o key = record { steady = λ n s. (acted_steady _ _).steady n s }
removed_if_steady false place o key = record { steady = λ n s. (throws_steady Val _ _).steady n s }

removed_own_steady : (p : Option (Slot Label)) (label structure : Label) (o : ℕ) (key : List ℕ) → Steady (removed_own p label structure o key)
unfolding removed_own
removed_own_steady None label structure o key = record { steady = λ n s. refl }
removed_own_steady (Some p) label structure o key = record { steady = λ n s. (removed_if_steady p.marks.configurable _ o key).steady n s }

removed_in_steady : (p : Option (Object Label)) (label : Label) (o : ℕ) (key : List ℕ) → Steady (removed_in p label o key)
unfolding removed_in
removed_in_steady None label o key = record { steady = λ n s. refl }
removed_in_steady (Some p) label o key = record { steady = λ n s. (removed_own_steady (own key p.rows) label p.structure o key).steady n s }

removed_of_primitive_steady : (known : Option Primitive) (label : Label) → Steady (removed_of_primitive known label)
unfolding removed_of_primitive
removed_of_primitive_steady None label = record { steady = λ n s. refl }
removed_of_primitive_steady (Some v) label = record { steady = λ n s. (throws_steady Val _ _).steady n s }

remove_property_steady : (label : Label) (base : Value) (key : List ℕ) → Steady (remove_property label base key)
unfolding remove_property
remove_property_steady label (value.Primitive p) key = record { steady = λ n s. (removed_of_primitive_steady (own_value_of p key) label).steady n s }
remove_property_steady label (value.Object o) key = record { steady = λ n s. (removed_in_steady (slice_get s.heap o.0) label o.0 key).steady n s }

pub remove_steady : (r : Reference) → Steady (remove r)
unfolding remove
remove_steady (of_name x place walk) = record { steady = λ n s. (throws_steady Val _ _).steady n s }
remove_steady (of_property base key label) = record { steady = λ n s. (remove_property_steady _ base.value key).steady n s }

-- acts that enter no function
needed_steady : (there : Bool) (v : Val) → Steady (needed there v)
unfolding needed
needed_steady true v = record { steady = λ n s. refl }
needed_steady false v = record { steady = λ n s. (throws_steady Val _ _).steady n s }

has_of_primitive_steady : (known : Option Primitive) (label : Label) (walk : Found) → Steady (has_of_primitive known label walk)
unfolding has_of_primitive
has_of_primitive_steady None label walk = record { steady = λ n s. refl }
has_of_primitive_steady (Some v) label walk = record { steady = λ n s. refl }

has_steady : (label : Label) (key : List ℕ) (v : Value) → Steady (has label key v)
unfolding has
has_steady label key (value.Primitive p) = record { steady = λ n s. (has_of_primitive_steady (own_value_of p key) label (find key (primitive_chain s.heap p))).steady n s }
has_steady label key (value.Object o) = record { steady = λ n s. refl }

make_steady : (parts : List (Part × List ℕ)) (vs : List Val) → Steady (make_object parts vs)
unfolding make_object
make_steady parts vs = record { steady = λ n s. refl }

make_array_steady : (places : List ℕ) (n : ℕ) (vs : List Val) → Steady (make_array places n vs)
unfolding make_array
make_array_steady places n vs = record { steady = λ n s. refl }

-- ---- what built-ins ask for besides

-- a base that is an object
on_object_steady : {X : Type 0} (label : Label) (v : Value) (next : ℕ → L X) → ((o : ℕ) → Steady (next o)) → Steady (on_object_in label v next)
unfolding on_object_in
on_object_steady {X} label (value.Primitive p) next h = record { steady = λ n s. (throws_steady X _ _).steady n s }
on_object_steady label (value.Object o) next h = record { steady = λ n s. (h o.0).steady n s }

-- a part of an own property
own_property_steady : (part : OwnPart) (key : List ℕ) (label : Label) (p : Option (Object Label)) → Steady (own_property_in part key label p)
unfolding own_property_in
own_property_steady part key label None = record { steady = λ n s. refl }
own_property_steady part key label (Some p) = record { steady = λ n s. refl }

-- a definition
set_marks_steady : (label : Label) (marks : Marks) (o : ℕ) (key : List ℕ) → Steady (set_marks label marks o key)
unfolding set_marks
set_marks_steady label marks o key = record { steady = λ n s. (acted_steady tt _).steady n s }

set_body_steady : (changes : Bool) (place : Label) (body : Body) (label : Label) (o : ℕ) (key : List ℕ) → Steady (set_body_if changes place body label o key)
unfolding set_body_if
set_body_steady true place body label o key = record { steady = λ n s. (acted_steady tt _).steady n s }
set_body_steady false place body label o key = record { steady = λ n s. refl }

redefine_steady : (p : Slot Label) (q : Property) (d : Definition) (place given : Label) (o : ℕ) (key : List ℕ) → Steady (redefine p q d place given o key)
unfolding redefine
redefine_steady p q d place given o key = bind_steady _ (set_marks_steady _ q.marks o key) (λ u. bind_steady _ (set_body_steady _ place q.body _ o key) (λ w. ret_steady _))

define_over_steady : (old : Option (Slot Label)) (d : Definition) (place given : Label) (o : ℕ) (key : List ℕ) (q : Option Property) → Steady (define_over old d place given o key q)
unfolding define_over
define_over_steady None d place given o key None = record { steady = λ n s. (throws_steady Defining _ _).steady n s }
define_over_steady (Some p) d place given o key None = record { steady = λ n s. (throws_steady Defining _ _).steady n s }
define_over_steady None d place given o key (Some q) = record { steady = λ n s. (acted_steady _ _).steady n s }
define_over_steady (Some p) d place given o key (Some q) = record { steady = λ n s. (redefine_steady p q d place given o key).steady n s }

define_by_steady : (of_length : Bool) (p : Object Label) (marks : GivenMarks) (body : GivenBody) (place given : Label) (o : ℕ) (key : List ℕ) → Steady (define_by of_length p marks body place given o key)
unfolding define_by
define_by_steady true p marks body place given o key = record { steady = λ n s. refl }
define_by_steady false p marks body place given o key = record { steady = λ n s. (define_over_steady (own key p.rows) _ place given o key _).steady n s }

define_given_steady : (valued : Bool) (p : Object Label) (marks : GivenMarks) (body : Option GivenBody) (place given : Label) (o : ℕ) (key : List ℕ) → Steady (define_given valued p marks body place given o key)
unfolding define_given
define_given_steady valued p marks None place given o key = record { steady = λ n s. (throws_steady Defining _ _).steady n s }
define_given_steady valued p marks (Some body) place given o key = record { steady = λ n s. (define_by_steady (is_length p.class key && valued) p marks body place given o key).steady n s }

define_steady : (p : Option (Object Label)) (label : Label) (o : ℕ) (key : List ℕ) (marks : GivenMarks) (shape : Shape) (v g set : Val) → Steady (define_in p label o key marks shape v g set)
unfolding define_in
define_steady None label o key marks shape v g set = record { steady = λ n s. (throws_steady Defining _ _).steady n s }
define_steady (Some p) label o key marks shape v g set = record { steady = λ n s. (define_given_steady shape.has_value p marks (given_body (erased_heap s.heap) marks shape v.value g.value set.value) _ _ o key).steady n s }

pub defining_steady : (key : List ℕ) (marks : GivenMarks) (shape : Shape) (base v g set : Val) → Steady (defining key marks shape base v g set)
unfolding defining
defining_steady key marks shape base v g set = on_object_steady base.label base.value _ (λ o. record { steady = λ n s. (define_steady (slice_get s.heap o) base.label o key marks shape v g set).steady n s })

-- ---- the `length` of an array is given a number

delete_element_steady : (label : Label) (o i : ℕ) → Steady (delete_element label o i)
unfolding delete_element
delete_element_steady label o i = record { steady = λ n s. (acted_steady tt _).steady n s }

deleted_if_steady : (configurable : Bool) (next : Label → L Cut) (label : Label) (o i : ℕ) (tested : Label) → ((tested : Label) → Steady (next tested)) → Steady (deleted_if configurable next label o i tested)
unfolding deleted_if
deleted_if_steady true next label o i tested h = record { steady = λ n s. (bind_steady _ (delete_element_steady _ o i) (λ u. h tested)).steady n s }
deleted_if_steady false next label o i tested h = record { steady = λ n s. refl }

deleted_at_steady : (e : Option (ℕ × Slot Label)) (next : Label → L Cut) (label : Label) (o : ℕ) (tested : Label) → ((tested : Label) → Steady (next tested)) → Steady (deleted_at e next label o tested)
unfolding deleted_at
deleted_at_steady None next label o tested h = record { steady = λ n s. refl }
deleted_at_steady (Some e) next label o tested h = record { steady = λ n s. (deleted_if_steady e.1.marks.configurable next label o e.0 _ h).steady n s }

deleted_within_steady : (most : ℕ) (label : Label) (o count : ℕ) (tested : Label) → Steady (deleted_within most label o count tested)
unfolding deleted_within
deleted_within_steady zero label o count tested = record { steady = λ n s. refl }
deleted_within_steady (suc more) label o count tested = record {
  steady = λ n s. (deleted_at_steady (highest count (rows_in (slice_get s.heap o))) _ label o tested (deleted_within_steady more label o count)).steady n s;
}

ended_at_steady : (stays : Option ℕ) (place label : Label) → Steady (ended_at stays place label)
unfolding ended_at
ended_at_steady None place label = record { steady = λ n s. refl }
ended_at_steady (Some i) place label = record { steady = λ n s. (throws_steady Val _ _).steady n s }

cut_length_steady : (place label : Label) (o n : ℕ) (cut : Cut) → Steady (cut_length place label o n cut)
unfolding cut_length
cut_length_steady place label o n cut = bind_steady _ (set_body_steady true _ _ _ o length_key) (λ u. ended_at_steady cut.stays _ _)

set_marks_if_steady : (defines : Bool) (label : Label) (marks : Marks) (o : ℕ) (key : List ℕ) → Steady (set_marks_if defines label marks o key)
set_marks_if_steady true label marks o key = set_marks_steady label marks o key
set_marks_if_steady false label marks o key = ret_steady tt

set_length_to_steady : (defines : Bool) (p : Object Label) (place given : Label) (o n : ℕ) (q : Option Property) → Steady (set_length_to defines p place given o n q)
unfolding set_length_to
set_length_to_steady defines p place given o n None = throws_steady Val _ _
set_length_to_steady defines p place given o n (Some q) =
    bind_steady _ (set_marks_if_steady defines _ q.marks o length_key) (λ u. bind_steady _ (deleted_within_steady _ _ o n bottom) (λ cut. cut_length_steady place _ o n cut))

set_length_in_steady : (defines : Bool) (p : Option (Object Label)) (place given : Label) (o : ℕ) (marks : GivenMarks) (n : ℕ) → Steady (set_length_in defines p place given o marks n)
unfolding set_length_in
set_length_in_steady defines None place given o marks n = throws_steady Val _ _
set_length_in_steady defines (Some p) place given o marks n = set_length_to_steady defines p _ given o n _

pub set_length_steady : (defines : Bool) (place : Label) (o : ℕ) (marks : GivenMarks) (n : ℕ) (given : Label) → Steady (set_length defines place o marks n given)
unfolding set_length
set_length_steady defines place o marks n given = record { steady = λ m s. (set_length_in_steady defines (slice_get s.heap o) place given o marks n).steady m s }

-- a number, or the run leaves
numbered_by_steady : (r : Result Number LeftNumbers) → Steady (numbered_by r)
unfolding numbered_by
numbered_by_steady (Ok n) = record { steady = λ m s. refl }
numbered_by_steady (Err e) = record { steady = λ m s. refl }

pub numbered_steady : (v : Val) → Steady (numbered v)
unfolding numbered
numbered_steady v = numbered_by_steady (number_in v.value)

-- a prototype, and whether there may be further properties
prototype_steady : (label : Label) (p : Option (Object Label)) → Steady (prototype_in label p)
unfolding prototype_in
prototype_steady label None = record { steady = λ n s. refl }
prototype_steady label (Some p) = record { steady = λ n s. refl }

extensible_steady : (label : Label) (p : Option (Object Label)) → Steady (extensible_in label p)
unfolding extensible_in
extensible_steady label None = record { steady = λ n s. refl }
extensible_steady label (Some p) = record { steady = λ n s. refl }

prevent_steady : (label : Label) (o : ℕ) → Steady (prevent label o)
unfolding prevent
prevent_steady label o = record { steady = λ n s. (acted_steady _ _).steady n s }

-- a new object, and an array of the own keys of one
make_new_steady : (c : Class) (proto : Option ObjId) (label : Label) → Steady (make_new c proto label)
unfolding make_new
make_new_steady c proto label = record { steady = λ n s. refl }

make_new_by_steady : (c : Class) (v : Val) → Steady (make_new_by c v)
unfolding make_new_by
make_new_by_steady c v = record { steady = λ n s. (make_new_steady c _ v.label).steady n s }

list_keys_steady : (all : Bool) (label : Label) (o : ℕ) → Steady (list_keys all label o)
unfolding list_keys
list_keys_steady all label o = record { steady = λ n s. refl }

-- a bound function
bind_object_steady : (o : ObjId) (target this : Val) (args : List Val) → Steady (bind_object o target this args)
unfolding bind_object
bind_object_steady o target this args = record { steady = λ n s. refl }

bind_value_steady : (v : Value) (target this : Val) (args : List Val) → Steady (bind_value v target this args)
unfolding bind_value
bind_value_steady (value.Primitive p) target this args = record { steady = λ n s. (throws_steady Val _ _).steady n s }
bind_value_steady (value.Object o) target this args = record { steady = λ n s. (bind_object_steady o target this args).steady n s }

bind_to_steady : (callable : Bool) (target this : Val) (args : List Val) → Steady (bind_to callable target this args)
unfolding bind_to
bind_to_steady true target this args = bind_value_steady target.value target this args
bind_to_steady false target this args = throws_steady Val _ _

-- origins that are declared
if_origins_steady : (declared : Bool) {next : L Val} → Steady next → Steady (if_origins declared next)
unfolding if_origins
if_origins_steady true l = record { steady = λ n s. l.steady n s }
if_origins_steady false l = record { steady = λ n s. refl }

structure_steady : (origins : List ℕ) (label : Label) (o : ℕ) → Steady (raise_structure origins label o)
unfolding raise_structure
structure_steady origins label o = record { steady = λ n s. (acted_steady _ _).steady n s }

existence_steady : (origins : List ℕ) (label : Label) (key : List ℕ) (o : ℕ) → Steady (raise_existence origins label key o)
unfolding raise_existence
existence_steady origins label key o = record { steady = λ n s. (acted_steady _ _).steady n s }

-- the innermost frame is raised
pub raise_steady : (label : Label) → Steady (raise label)
unfolding raise
raise_steady label = record { steady = λ n s. refl }

-- ---- functions, jumps and directives

-- a function is made
pub function_steady : (functions : List FunctionCode) (f : Function) (i : ℕ) → Steady (make_function functions f i)
unfolding make_function
function_steady functions f i = record { steady = λ n s. refl }

-- `instanceof`
pub is_instance_steady : (label : Label) (o : ℕ) (v : Value) → Steady (is_instance label o v)
unfolding is_instance
is_instance_steady label o (value.Primitive p) = record { steady = λ n s. (throws_steady Val _ _).steady n s }
is_instance_steady label o (value.Object proto) = record { steady = λ n s. refl }

-- a jump to where it aims
pub jumps_steady : (to : Option (Exit × ℕ)) (v : Val) → Steady (jumps_to to v)
unfolding jumps_to
jumps_steady None v = record { steady = λ n s. refl }
jumps_steady (Some to) v = record { steady = λ n s. (jump_steady (Unit {0}) _ _).steady n s }

-- a directive
frame_steady : (depth : ℕ) (label : Label) → Steady (raise_frame depth label)
unfolding raise_frame
frame_steady depth label = record { steady = λ n s. (guard_steady (within (raise_need s.frames depth) (meant_at s.frames depth)) _ _ _ (record { steady = λ n s. refl })).steady n s }

raises_steady : (leaving : Leaving) (to : Option (Exit × ℕ)) (label : Label) → Steady (raises leaving to label)
unfolding raises
raises_steady leaving None label = record { steady = λ n s. refl }
raises_steady leaving (Some to) label = record { steady = λ n s. (frame_steady (frame_of leaving to.1 s.frames) label).steady n s }

-- the innermost frame catches no longer, and a jump that waited is issued again
pub quiet_steady : Steady quiet
unfolding quiet
quiet_steady = record { steady = λ n s. refl }

pub resume_steady : (how : Came (Unit {0})) → Steady (resume how tt)
unfolding resume
resume_steady (ended u) = record { steady = λ n s. refl }
resume_steady (caught j) = record { steady = λ n s. (jump_steady (Unit {0}) _ _).steady n s }

module _ (tables : Tables) (inputs : Given) where
  -- an operator in front of a value
  pub unary_steady : (set : BuiltIns) (functions : List FunctionCode) (o : UnaryOperator) (v : Val) → Steady ((labelled tables inputs set functions).unary o v)
  unary_steady set functions o v = record { steady = λ n s. (given_steady v.label (unary_of o (seen s.heap v.value))).steady n s }

  -- a directive names origins
  pub raised_steady : (leaving : Leaving) (to : Option (Exit × ℕ)) (os : Option (List ℕ)) → Steady (raised_by tables inputs leaving to os)
  unfolding raised_by
  raised_steady leaving to None = record { steady = λ n s. refl }
  raised_steady leaving to (Some os) = record { steady = λ n s. (raises_steady leaving to _).steady n s }

  -- a line is read
  read_steady : (i : Option ℕ) (name : Label) → Steady (read_channel tables inputs i name)
  unfolding read_channel
  read_steady None name = record { steady = λ n s. refl }
  read_steady (Some i) name = record { steady = λ n s. (guard_steady (within (union (context s.frames) name) _) _ _ _ (record { steady = λ n s. refl })).steady n s }

  -- a line is printed
  print_text_steady : (i : ℕ) (label : Label) (v : Value) → Steady (print_text tables inputs i label v)
  unfolding print_text
  print_text_steady i label (value.Object o) = record { steady = λ n s. refl }
  print_text_steady i label (value.Primitive Undefined) = record { steady = λ n s. refl }
  print_text_steady i label (value.Primitive Null) = record { steady = λ n s. refl }
  print_text_steady i label (value.Primitive (prims.Bool b)) = record { steady = λ n s. refl }
  print_text_steady i label (value.Primitive (Num n)) = record { steady = λ n s. refl }
  print_text_steady i label (value.Primitive (Str text)) = record { steady = λ n s. (guard_steady (within (union (context s.frames) label) _) _ _ _ (record { steady = λ n s. refl })).steady n s }

  -- on a channel that there may be
  print_steady : (i : Option ℕ) (name : Label) (v : Val) → Steady (print_channel tables inputs i name v)
  unfolding print_channel
  print_steady None name v = record { steady = λ n s. refl }
  print_steady (Some i) name v = record { steady = λ n s. (print_text_steady i (union name v.label) v.value).steady n s }

  -- origins by their numbers
  origins_steady : (origins : List ℕ) {next : L Val} → Steady next → Steady (with_origins tables inputs origins next)
  unfolding with_origins
  origins_steady origins l = if_origins_steady _ l

  pub act_steady : (a : Act) (vs : List Val) → Steady (act tables inputs a vs)
  unfolding act
  act_steady (object_of parts) vs = make_steady parts vs
  act_steady (array_of places n) vs = make_array_steady places n vs
  act_steady base_needed vs = needed_steady _ _
  act_steady object_needed vs = needed_steady _ _
  act_steady has_key vs = has_steady _ _ _
  act_steady (throws_error kind) vs = throws_steady Val kind bottom
  act_steady (own_property part key) vs = on_object_steady _ _ _ (λ o. record { steady = λ n s. (own_property_steady part key _ (slice_get s.heap o)).steady n s })
  act_steady (own_keys all) vs = on_object_steady _ _ _ (list_keys_steady all _)
  act_steady prototype_of_object vs = on_object_steady _ _ _ (λ o. record { steady = λ n s. (prototype_steady _ (slice_get s.heap o)).steady n s })
  act_steady is_extensible vs = on_object_steady _ _ _ (λ o. record { steady = λ n s. (extensible_steady _ (slice_get s.heap o)).steady n s })
  act_steady prevent_extensions vs = on_object_steady _ _ _ (prevent_steady _)
  act_steady (new_object c false) vs = make_new_steady c _ _
  act_steady (new_object c true) vs = make_new_by_steady c _
  act_steady bind vs = record { steady = λ n s. (bind_to_steady (is_function_at s.heap (argument 0 vs).value) _ _ _).steady n s }
  act_steady read_line vs = read_steady _ _
  act_steady print_line vs = print_steady _ _ _
  act_steady (join_label origins) vs = origins_steady origins (ret_steady _)
  act_steady (raise_structure_by origins) vs = origins_steady origins (on_object_steady _ _ _ (structure_steady origins _))
  act_steady (raise_existence_by key origins) vs = origins_steady origins (on_object_steady _ _ _ (existence_steady origins _ key))
