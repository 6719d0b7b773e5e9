-- What a labelled run keeps of its lines: each is on an output channel. The operations, linked with themselves, keep it.
use Rattle.std.proofs.Common.{◌≡◌, ℕ, zero, suc, ◌<◌, Bool, true, false, ◌&&◌, nat_lt, List, [], ◌∷◌, ◌++◌, length, get_or, Option, Some, None, Result, Ok, Err, slice_get, refl, sym, ap, subst, ◌∙◌, inl, inr, arith}
use Rattle.std.specs.Prelude.{is_some}
use Rattle.std.specs.List.{list_all, find, position}
use Rattle.std.proofs.lemmas.Bool.{and_parts, and_from}
use Rattle.std.proofs.lemmas.List.Quantifiers.{position-Some}
use Rattle.std.proofs.lemmas.Option.{slice_get_cases}
use Rattle.origin_labels.specs.Label.{Label, bottom, union}
use Rattle.origin_labels.specs.Names.{same_name}
use Rattle.flow_policy.specs.declared.policy.Channel.{Channel}
use Rattle.flow_policy.specs.Policies.{Tables, channel_named}
use Rattle.flow_policy.specs.Inputs.{Given}
use Rattle.flow_policy.proofs.ViewLaws.{named_is}
use Rattle.flow_frames.specs.declared.kind.Kind.{Kind}
use Rattle.flow_frames.specs.declared.kind.Kind.TheVariants as kind
use Rattle.flow_frames.specs.declared.faults.Rule.{Rule}
use Rattle.flow_frames.specs.declared.faults.Rule.TheVariants.{W1, W9, W10, W11, W12}
use Rattle.js_number.specs.declared.int.LeftNumbers.{LeftNumbers}
use Rattle.js_number.specs.declared.num.Num.{Num as Number}
use Rattle.js_number.specs.declared.primitive.Primitive.{Primitive}
use Rattle.js_number.specs.declared.primitive.Primitive.TheVariants as prims
use Rattle.js_values.specs.declared.ids.ObjId.{ObjId}
use Rattle.js_values.specs.declared.value.Value.{Value}
use Rattle.js_values.specs.declared.value.Value.TheVariants as value
use Rattle.js_values.specs.declared.property.Body.{Body}
use Rattle.js_values.specs.declared.property.Marks.{Marks}
use Rattle.js_values.specs.declared.property.Slot.{Slot}
use Rattle.js_values.specs.declared.inner.Class.{Class}
use Rattle.js_values.specs.Objects.{Property, Object, own}
use Rattle.js_values.specs.Arrays.{length_key}
use Rattle.js_values.specs.Records.{Binding}
use Rattle.js_values.specs.Walks.{Found}
use Rattle.object_heap.specs.Acts.{Acted}
use Rattle.prototype_walk.specs.declared.plan.PutPlan.{PutPlan}
use Rattle.prototype_walk.specs.declared.plan.PutPlan.TheVariants.{Write, Add, Setter, Refused}
use Rattle.prototype_walk.specs.KeyLists.{Keys}
use Rattle.native_protocol.specs.declared.hint.Hint.{Hint}
use Rattle.native_protocol.specs.declared.hint.Hint.TheVariants as hint
use Rattle.native_protocol.specs.declared.request.ErrorKind.{ErrorKind}
use Rattle.native_protocol.specs.declared.request.GivenMarks.{GivenMarks}
use Rattle.js_ast.specs.Trees.{Statements, body_of}
use Rattle.js_ast.specs.Functions.{FunctionCode, functions_of}
use Rattle.es_meaning.specs.BuiltIns.{BuiltIns}
use Rattle.es_meaning.specs.Holders.{constructs_in}
use Rattle.es_meaning.specs.Definitions.{GivenBody, Definition, changes_body}
use Rattle.es_meaning.specs.Outcomes as es
use Rattle.es_meaning.specs.Outcomes.{Exit, left, out_of_turns, Outcome, Goes, Jumps, Ends, ret, and_then, ◌>>=◌}
use Rattle.es_meaning.specs.Environments.{Env, with_around, with_place, called_env, Leaving, aimed}
use Rattle.es_meaning.specs.Functions.{Callee, not_callable, empty_callee, of_script, of_built_in, this_or}
use Rattle.es_meaning.specs.Operations.{Ty, One, Res, OwnPart, Shape, Act, object_of, array_of, base_needed, object_needed, has_key, throws_error, own_property, own_keys, prototype_of_object, is_extensible, prevent_extensions, new_object, bind, read_line, print_line, join_label, raise_structure as raise_structure_by, raise_existence as raise_existence_by}
use Rattle.es_meaning.specs.Operations.{Value as a_value}
use Rattle.es_meaning.specs.Operators.{is_object, truth, converts_beside, unary_of, binary_of}
use Rattle.es_meaning.specs.Evaluation.{program_step}
use Rattle.es_meaning.specs.Start.{id}
use Rattle.es_meaning.specs.Plain.{leaves_wrappers, choose, is_throw, prototype_name, may_declare, binding_at, outermost_env, channel_of, channel_name, name_at, number_of_channel, others, Place, in_record, on_global, nowhere, number_in, is_count, count_of}
use Rattle.es_meaning.specs.Requested.{behind_definition, no_marks, are_origins}
use Rattle.es_meaning.proofs.Link.{Rel, Rels, nils, conses, EnteringLinked, Link}
use Rattle.es_meaning.proofs.RequestLinks.{program_linked}
use Rattle.flow_meaning.specs.Erased.{unlabelled, erased_slot}
use Rattle.flow_meaning.specs.Requested.{Aim, aim_of, property_in, is_function_in, is_function_at}
use Rattle.flow_meaning.specs.Scopes.{Val, joined, LabelledLine, Halt, State, Jump, L, guard, raise, jump_to, jump, cut_to, pushed_on, Left, Came, ended, caught, popped, stay, scope, settled, settled_value, fork, round_kind, round, again, answer, construction, raise_frame, quiet, react, resume, finish, tried, attempt}
use Rattle.flow_meaning.specs.Tracked.{ends, with_error, throw_error, given, seen, Reference, of_name, of_property, resolved, Access, has_value, has_getter, bound, found_globally, property_of, named as value_named, accessed, accessed_for_typeof, Putting, is_put, has_setter, has_length, assigned, assigned_to, acted, own_in, setter_found, setter_at, overwritten, put_by, put, setter_if, put_beyond, put_on_primitive, put_property, put_named, put_value, removed_if, removed_own, removed_in, removed_of_primitive, remove_property, remove, make_object, make_array, needed, has_of_primitive, has, key_list, with_list, spend, argument, on_object_in, own_property_in, set_marks, set_body_if, redefine, Defining, is_defined, has_length_given, define_over, define_by, define_given, define_in, defining, Cut, delete_element, deleted_if, deleted_at, deleted_within, ended_at, cut_length, set_marks_if, set_length_to, set_length_in, set_length, numbered_by, numbered, prototype_in, extensible_in, prevent, make_new, make_new_by, list_keys, bind_object, bind_value, bind_to, if_origins, raise_structure, raise_existence, make_function, with_call, callee_at, Enters, entered, called_value, call_by, call_aimed, call_value, prototype_of, with_fresh, constructed, construct_built_in, construct_by, construct_aimed, construct_value, entered_access, entered_defining, entered_putting, convert, converted_by, converted_for_length, given_count, with_count, is_instance, instance_by, instance_of, instance_if, instance_value, jumps_to, raises, read_channel, print_text, print_channel, with_origins, act, named_origins, raised_by, with_name, labelled, timed, start, run_of, tracked_run}
use Rattle.low_equal.specs.Runs.{state_of}

-- ---- names of output channels

-- the name is that of an output channel
abbrev pub is_output : Tables → List ℕ → Bool
is_output tables name = is_some (channel_named name tables.outputs)

-- the first element that passes
find_first : {X : Type 0} (p : X → Bool) (xs : List X) (i : ℕ) (x : X) → slice_get xs i ≡ Some x → p x ≡ true → ((k : ℕ) → k < i → p (get_or xs k x) ≡ false) → find p xs ≡ Some x
find_first p [] i x at passes before = absurd cc
find_first p (y ∷ xs) zero x at passes before =
    let same : y ≡ x = cc in
    let yes : p y ≡ true = rw same passes in
    rw yes (ap Some same)
find_first p (y ∷ xs) (suc i) x at passes before =
    let fails : p y ≡ false = before 0 (omega arith) in
    rw fails (find_first p xs i x at passes (λ k lt. before (suc k) (omega arith)))

-- a place that is found lies within the list
position_within : {X : Type 0} (p : X → Bool) (xs : List X) (i : ℕ) → position p xs ≡ Some i → i < length xs
position_within p [] i e = absurd cc
position_within p (y ∷ xs) i e = (position-Some p (y ∷ xs) i y e).0

-- the element at the first place that passes is the first that does
find_position : {X : Type 0} (p : X → Bool) (xs : List X) (i : ℕ) → position p xs ≡ Some i → (x : X) × (slice_get xs i ≡ Some x) × (find p xs ≡ Some x) × (p x ≡ true)
find_position p xs i e =
    elim ((slice_get_cases xs i).1) [
      | inl here ↦
          let found = position-Some p xs i here.0 e in
          let passes : p here.0 ≡ true = subst (λ y. p y ≡ true) here.3 found.1 in
          (here.0, here.2, find_first p xs i here.0 here.2 passes found.2, passes)
      | inr past ↦
          let within_list : i < length xs = position_within p xs i e in
          absurd (omega arith)
    ]

-- a number that is found is that of an output channel
number_there : (tables : Tables) (name : List ℕ) (i : ℕ) → number_of_channel name tables.outputs ≡ Some i → is_output tables (channel_name tables.outputs i) ≡ true
unfolding channel_named
number_there tables name i e =
    let found = find_position (λ (c : Channel). same_name c.name name) tables.outputs i e in
    let named : found.0.name ≡ name = (named_is name tables.outputs found.0 found.2).0 in
    let called : channel_name tables.outputs i ≡ name = ap name_at found.1 ∙ named in
    ap (is_output tables) called ∙ ap (λ (o : Option Channel). is_some o) found.2

channel_there : (tables : Tables) (v : Value) (i : ℕ) → channel_of tables.outputs v ≡ Some i → is_output tables (channel_name tables.outputs i) ≡ true
channel_there tables (value.Object o) i e = absurd cc
channel_there tables (value.Primitive prims.Undefined) i e = absurd cc
channel_there tables (value.Primitive prims.Null) i e = absurd cc
channel_there tables (value.Primitive (prims.Bool b)) i e = absurd cc
channel_there tables (value.Primitive (prims.Num n)) i e = absurd cc
channel_there tables (value.Primitive (prims.Str name)) i e = number_there tables name i e

-- ---- lines

-- each line is on an output channel
abbrev pub AreNamed : Tables → List LabelledLine → Type 0
AreNamed tables lines = list_all (λ l. is_output tables l.line.channel) lines ≡ true

named_more : (tables : Tables) (lines : List LabelledLine) (l : LabelledLine) → AreNamed tables lines → is_output tables l.line.channel ≡ true → AreNamed tables (lines ++ l ∷ [])
named_more tables [] l p q = rw q refl
named_more tables (k ∷ lines) l p q = let both = and_parts (is_output tables k.line.channel) _ p in and_from (is_output tables k.line.channel) _ both.0 (named_more tables lines l both.1 q)

module _ (tables : Tables) (inputs : Given) where
  abbrev Keeps : {X : Type 0} → Outcome Halt Jump X State → Type 0
  Keeps o = AreNamed tables (state_of o).lines

  -- from each state with such lines
  record Keeping {X : Type 0} (m : L X) : Type 0 where
    keeps : (s : State) → AreNamed tables s.lines → Keeps (m s)

  -- what follows an outcome
  keeps_then : {X Y : Type 0} (o : Outcome Halt Jump X State) (f : X → L Y) → Keeps o → ((a : X) → Keeping (f a)) → Keeps (and_then o f)
  keeps_then (Goes a s) f h k = (k a).keeps s h
  keeps_then (Jumps j s) f h k = h
  keeps_then (Ends halt s) f h k = h

  -- one computation, and then the next
  bind_keeping : {X Y : Type 0} {m : L X} (f : X → L Y) → Keeping m → ((a : X) → Keeping (f a)) → Keeping (m >>= f)
  bind_keeping {m = m} f l k = record { keeps = λ s h. keeps_then (m s) f (l.keeps s h) k }

  -- a result
  ret_keeping : {X : Type 0} (a : X) → Keeping {X = X} (ret a)
  ret_keeping a = record { keeps = λ s h. h }

  -- one of two
  choose_keeping : {X : Type 0} (b : Bool) {m n : L X} → Keeping m → Keeping n → Keeping (choose b m n)
  choose_keeping true h k = h
  choose_keeping false h k = k

  -- an end that is no stop
  halts_keeping : {X : Type 0} (halt : es.Halt) → Keeping {X = X} (ends halt)
  halts_keeping halt = record { keeps = λ s h. h }

  -- where a rule is asked
  guard_keeps : {X : Type 0} (b : Bool) (rule : Rule) (need have : Label) (m : L X) (s : State) → AreNamed tables s.lines → Keeps (m s) → Keeps (guard b rule need have m s)
  unfolding guard
  guard_keeps true rule need have m s h k = k
  guard_keeps false rule need have m s h k = h

  -- a jump
  jump_keeps : (X : Type 0) (cause : Label) (j : Jump) (s : State) → AreNamed tables s.lines → Keeps (jump {X = X} cause j s)
  unfolding jump jump_to
  jump_keeps X cause j s h = guard_keeps _ W9 _ _ _ s h h

  -- an exception of the engine
  throw_keeps : (X : Type 0) (k : ErrorKind) (cause : Label) (s : State) → AreNamed tables s.lines → Keeps (throw_error {X = X} k cause s)
  unfolding throw_error
  throw_keeps X k cause s h = jump_keeps X cause _ (with_error k s) h

  -- ---- scopes

  -- a jump at the end of a frame
  reached_keeps : {X : Type 0} (b : Bool) (l : Left X) (j : Jump) (s : State) → AreNamed tables s.lines → Keeps (choose b (Goes l s) (Jumps j s))
  reached_keeps true l j s h = h
  reached_keeps false l j s h = h

  -- the frame at a depth is popped
  popped_keeps : {X : Type 0} (depth : ℕ) (o : Outcome Halt Jump X State) → Keeps o → Keeps (popped depth o)
  unfolding popped
  popped_keeps depth (Goes a s) h = h
  popped_keeps depth (Jumps j s) h = reached_keeps (nat_lt depth (length s.frames)) _ j (cut_to depth s) h
  popped_keeps depth (Ends halt s) h = h

  -- what is done in a frame of its own
  scope_keeping : {X : Type 0} (k : Kind) (label : Label) (m : ℕ → L X) → ((depth : ℕ) → Keeping (m depth)) → Keeping (scope k label m)
  scope_keeping k label m l = record { keeps = λ s h. popped_keeps (length s.frames) (m (length s.frames) (pushed_on k label s)) ((l (length s.frames)).keeps (pushed_on k label s) h) }

  -- a branch
  fork_keeping : (t : Ty) (v : Val) {m n : L (Res Val t)} → Keeping m → Keeping n → Keeping (fork t v m n)
  fork_keeping t v {m} {n} h k = bind_keeping _ (scope_keeping kind.Branch v.label (λ depth. choose (truth v.value) m n) (λ depth. choose_keeping (truth v.value) h k)) (λ l. ret_keeping (settled t l))

  -- a loop or a turn
  round_keeping : (turn : Bool) (labels : List (Option (List ℕ))) (e : Env ℕ) (k : Env ℕ → L (Unit {0})) → ((d : Env ℕ) → Keeping (k d)) → Keeping (round turn labels e k)
  round_keeping turn labels e k h = bind_keeping _ (scope_keeping (round_kind turn) bottom (λ depth. k (with_around turn labels depth e)) (λ depth. h (with_around turn labels depth e))) (λ l. ret_keeping tt)

  -- the innermost frame is raised
  raise_keeping : (label : Label) → Keeping (raise label)
  unfolding raise
  raise_keeping label = record { keeps = λ s h. h }

  -- by a condition
  again_keeping : (v : Val) {m n : L (Unit {0})} → Keeping m → Keeping n → Keeping (again v m n)
  again_keeping v h k = bind_keeping _ (raise_keeping v.label) (λ u. choose_keeping (truth v.value) h k)

  -- ---- values and references

  -- an operator's value
  given_keeping : (label : Label) (r : Result Primitive (List ℕ)) → Keeping (given label r)
  unfolding given
  given_keeping label (Ok v) = record { keeps = λ s h. h }
  given_keeping label (Err name) = record { keeps = λ s h. h }

  -- the value of a binding
  bound_keeps : (o : Option (Binding Val)) (s : State) → AreNamed tables s.lines → Keeps (bound o s)
  unfolding bound
  bound_keeps (Some b) s h = h
  bound_keeps None s h = throw_keeps _ _ _ s h

  -- of a property
  found_globally_keeps : (walk : Label) (o : Option (ℕ × Slot Label)) (s : State) → AreNamed tables s.lines → Keeps (found_globally walk o s)
  unfolding found_globally
  found_globally_keeps walk (Some f) s h = h
  found_globally_keeps walk None s h = throw_keeps _ _ _ s h

  property_keeps : (label : Label) (base : Val) (v : Value) (key : List ℕ) (s : State) → AreNamed tables s.lines → Keeps (property_of label base v key s)
  unfolding property_of
  property_keeps label base (value.Primitive p) key s h = h
  property_keeps label base (value.Object o) key s h = h

  -- of a name
  name_keeps : (place : Place) (walk : Label) (name : List ℕ) (s : State) → AreNamed tables s.lines → Keeps (value_named place walk name s)
  unfolding value_named
  name_keeps (in_record i) walk name s h = keeps_then (bound (binding_at s.records i name) s) (λ v. ret (has_value v)) (bound_keeps (binding_at s.records i name) s h) (λ v. ret_keeping (has_value v))
  name_keeps on_global walk name s h = found_globally_keeps _ _ s h
  name_keeps nowhere walk name s h = throw_keeps _ _ _ s h

  -- of a reference
  accessed_keeping : (n : Reference) → Keeping (accessed n)
  unfolding accessed
  accessed_keeping (of_name name place walk) = record { keeps = λ s h. name_keeps place walk name s h }
  accessed_keeping (of_property v key label) = record { keeps = λ s h. property_keeps _ v v.value key s h }

  typeof_keeping : (n : Reference) → Keeping (accessed_for_typeof n)
  unfolding accessed_for_typeof
  typeof_keeping (of_name name (in_record i) walk) = record { keeps = (accessed_keeping (of_name name (in_record i) walk)).keeps }
  typeof_keeping (of_name name on_global walk) = record { keeps = (accessed_keeping (of_name name on_global walk)).keeps }
  typeof_keeping (of_name name nowhere walk) = record { keeps = λ s h. h }
  typeof_keeping (of_property v key label) = record { keeps = (accessed_keeping (of_property v key label)).keeps }

  -- a value for a binding
  assigned_keeps : (mutable : Bool) (have : Label) (name : List ℕ) (i : ℕ) (v : Val) (s : State) → AreNamed tables s.lines → Keeps (assigned mutable have name i v s)
  unfolding assigned
  assigned_keeps true have name i v s h = guard_keeps _ W1 _ have _ s h h
  assigned_keeps false have name i v s h = throw_keeps _ _ _ s h

  -- or for what may be one
  assigned_to_keeps : (o : Option (Binding Val)) (name : List ℕ) (i : ℕ) (v : Val) (s : State) → AreNamed tables s.lines → Keeps (assigned_to o name i v s)
  unfolding assigned_to
  assigned_to_keeps (Some b) name i v s h = assigned_keeps b.mutable b.value.label name i v s h
  assigned_to_keeps None name i v s h = throw_keeps _ _ _ s h

  -- an act on the heap
  acted_keeps : {X : Type 0} (x : X) (a : Acted (List (Object Label))) (s : State) → AreNamed tables s.lines → Keeps (acted x a s)
  unfolding acted
  acted_keeps x (Ok heap) s h = h
  acted_keeps x (Err stop) s h = h

  -- a setter that there may be
  setter_keeps : (label : Label) (base : Val) (o : Option ObjId) (s : State) → AreNamed tables s.lines → Keeps (setter_found label base o s)
  unfolding setter_found
  setter_keeps label base None s h = throw_keeps _ _ _ s h
  setter_keeps label base (Some f) s h = h

  setter_at_keeps : (label : Label) (base : Val) (o : Option (Slot Label)) (s : State) → AreNamed tables s.lines → Keeps (setter_at label base o s)
  unfolding setter_at
  setter_at_keeps label base None s h = throw_keeps _ _ _ s h
  setter_at_keeps label base (Some p) s h = setter_keeps _ base _ s h

  -- a property has another value, or the `length` of an array is set
  overwritten_keeps : (b : Bool) (rule : Rule) (o : ℕ) (key : List ℕ) (label : Label) (v : Val) (s : State) → AreNamed tables s.lines → Keeps (overwritten b rule o key label v s)
  unfolding overwritten
  overwritten_keeps true rule o key label v s h = h
  overwritten_keeps false rule o key label v s h = acted_keeps is_put _ s h

  -- a put
  put_by_keeps : (plan : PutPlan Label) (rule : Rule) (o : ℕ) (key : List ℕ) (label : Label) (base v : Val) (s : State) → AreNamed tables s.lines → Keeps (put_by plan rule o key label base v s)
  unfolding put_by
  put_by_keeps (Write walk) rule o key label base v s h = overwritten_keeps _ rule o key _ v s h
  put_by_keeps (Add walk) rule o key label base v s h = acted_keeps is_put _ s h
  put_by_keeps (Refused walk) rule o key label base v s h = throw_keeps _ _ _ s h
  put_by_keeps (Setter at walk) rule o key label base v s h = setter_at_keeps _ base (own_in key (slice_get s.heap at.0)) s h

  put_keeps : (rule : Rule) (o : ℕ) (key : List ℕ) (label : Label) (base v : Val) (s : State) → AreNamed tables s.lines → Keeps (put rule o key label base v s)
  unfolding put
  put_keeps rule o key label base v s h = put_by_keeps _ rule o key label base v s h

  -- on a primitive value
  setter_if_keeps : (b : Bool) (label : Label) (base : Val) (p : Slot Label) (s : State) → AreNamed tables s.lines → Keeps (setter_if b label base p s)
  unfolding setter_if
  setter_if_keeps true label base p s h = setter_keeps _ base _ s h
  setter_if_keeps false label base p s h = throw_keeps _ _ _ s h

  put_beyond_keeps : (label : Label) (base : Val) (found : Option (ℕ × Slot Label)) (s : State) → AreNamed tables s.lines → Keeps (put_beyond label base found s)
  unfolding put_beyond
  put_beyond_keeps label base None s h = throw_keeps _ _ _ s h
  put_beyond_keeps label base (Some f) s h = setter_if_keeps _ label base f.1 s h

  put_on_primitive_keeps : (own : Option Primitive) (label : Label) (base : Val) (p : Primitive) (key : List ℕ) (s : State) → AreNamed tables s.lines → Keeps (put_on_primitive own label base p key s)
  unfolding put_on_primitive
  put_on_primitive_keeps (Some v) label base p key s h = throw_keeps _ _ _ s h
  put_on_primitive_keeps None label base p key s h = put_beyond_keeps _ base _ s h

  put_property_keeps : (label : Label) (base : Val) (x : Value) (key : List ℕ) (v : Val) (s : State) → AreNamed tables s.lines → Keeps (put_property label base x key v s)
  unfolding put_property
  put_property_keeps label base (value.Primitive p) key v s h = put_on_primitive_keeps _ label base p key s h
  put_property_keeps label base (value.Object o) key v s h = put_keeps _ o.0 key label base v s h

  put_named_keeps : (place : Place) (walk : Label) (name : List ℕ) (v : Val) (s : State) → AreNamed tables s.lines → Keeps (put_named place walk name v s)
  unfolding put_named
  put_named_keeps (in_record i) walk name v s h = keeps_then (assigned_to (binding_at s.records i name) name i v s) (λ u. ret is_put) (assigned_to_keeps (binding_at s.records i name) name i v s h) (λ u. ret_keeping is_put)
  put_named_keeps on_global walk name v s h = put_keeps _ _ name bottom _ v s h
  put_named_keeps nowhere walk name v s h = throw_keeps _ _ _ s h

  put_keeping : (n : Reference) (v : Val) → Keeping (put_value n v)
  unfolding put_value
  put_keeping (of_name name place walk) v = record { keeps = λ s h. put_named_keeps place walk name v s h }
  put_keeping (of_property base key label) v = record { keeps = λ s h. put_property_keeps _ base base.value key v s h }

  -- a deletion
  removed_if_keeps : (b : Bool) (place : Label) (o : ℕ) (key : List ℕ) (s : State) → AreNamed tables s.lines → Keeps (removed_if b place o key s)
  unfolding removed_if
  removed_if_keeps true place o key s h = acted_keeps _ _ s h
  removed_if_keeps false place o key s h = throw_keeps _ _ _ s h

  removed_own_keeps : (p : Option (Slot Label)) (label structure : Label) (o : ℕ) (key : List ℕ) (s : State) → AreNamed tables s.lines → Keeps (removed_own p label structure o key s)
  unfolding removed_own
  removed_own_keeps None label structure o key s h = h
  removed_own_keeps (Some p) label structure o key s h = removed_if_keeps _ _ o key s h

  removed_in_keeps : (p : Option (Object Label)) (label : Label) (o : ℕ) (key : List ℕ) (s : State) → AreNamed tables s.lines → Keeps (removed_in p label o key s)
  unfolding removed_in
  removed_in_keeps None label o key s h = h
  removed_in_keeps (Some p) label o key s h = removed_own_keeps _ label p.structure o key s h

  removed_of_primitive_keeps : (own : Option Primitive) (label : Label) (s : State) → AreNamed tables s.lines → Keeps (removed_of_primitive own label s)
  unfolding removed_of_primitive
  removed_of_primitive_keeps None label s h = h
  removed_of_primitive_keeps (Some v) label s h = throw_keeps _ _ _ s h

  remove_property_keeps : (label : Label) (base : Value) (key : List ℕ) (s : State) → AreNamed tables s.lines → Keeps (remove_property label base key s)
  unfolding remove_property
  remove_property_keeps label (value.Primitive p) key s h = removed_of_primitive_keeps _ label s h
  remove_property_keeps label (value.Object o) key s h = removed_in_keeps _ label o.0 key s h

  remove_keeping : (n : Reference) → Keeping (remove n)
  unfolding remove
  remove_keeping (of_name name place walk) = record { keeps = λ s h. throw_keeps _ _ _ s h }
  remove_keeping (of_property base key label) = record { keeps = λ s h. remove_property_keeps _ base.value key s h }

  -- the keys of a value
  list_keeping : (list : Option Keys) (label : Label) (f : List (List ℕ) → L (Unit {0})) → ((ks : List (List ℕ)) → Keeping (f ks)) → Keeping (with_list list label f)
  unfolding with_list
  list_keeping None label f h = halts_keeping (left leaves_wrappers)
  list_keeping (Some list) label f h = record { keeps = λ s k. (bind_keeping (λ u. f list.keys) (raise_keeping (union label list.walk)) (λ u. h list.keys)).keeps s k }

  -- a turn is spent
  spend_keeps : (n : ℕ) (s : State) → AreNamed tables s.lines → Keeps (spend n s)
  unfolding spend
  spend_keeps zero s h = h
  spend_keeps (suc n) s h = h

  -- a function is made
  function_keeps : (functions : List FunctionCode) (f : _) (place : ℕ) (s : State) → AreNamed tables s.lines → Keeps (make_function functions f place s)
  unfolding make_function
  function_keeps functions f place s h = h

  -- ---- acts

  needed_keeps : (b : Bool) (v : Val) (s : State) → AreNamed tables s.lines → Keeps (needed b v s)
  unfolding needed
  needed_keeps true v s h = h
  needed_keeps false v s h = throw_keeps _ _ _ s h

  has_of_primitive_keeps : (own : Option Primitive) (label : Label) (walk : Found) (s : State) → AreNamed tables s.lines → Keeps (has_of_primitive own label walk s)
  unfolding has_of_primitive
  has_of_primitive_keeps None label walk s h = h
  has_of_primitive_keeps (Some v) label walk s h = h

  has_keeps : (label : Label) (key : List ℕ) (v : Value) (s : State) → AreNamed tables s.lines → Keeps (has label key v s)
  unfolding has
  has_keeps label key (value.Primitive p) s h = has_of_primitive_keeps _ label _ s h
  has_keeps label key (value.Object o) s h = h

  make_keeps : (parts : _) (vs : List Val) (s : State) → AreNamed tables s.lines → Keeps (make_object parts vs s)
  unfolding make_object
  make_keeps parts vs s h = h

  make_array_keeps : (places : List ℕ) (n : ℕ) (vs : List Val) (s : State) → AreNamed tables s.lines → Keeps (make_array places n vs s)
  unfolding make_array
  make_array_keeps places n vs s h = h

  -- on an object that a value is
  on_object_keeping : {X : Type 0} (label : Label) (v : Value) (next : ℕ → L X) → ((o : ℕ) → Keeping (next o)) → Keeping (on_object_in label v next)
  unfolding on_object_in
  on_object_keeping label (value.Primitive p) next k = record { keeps = λ s h. throw_keeps _ _ _ s h }
  on_object_keeping label (value.Object o) next k = record { keeps = (k o.0).keeps }

  part_keeps : (part : OwnPart) (key : List ℕ) (label : Label) (p : Option (Object Label)) (s : State) → AreNamed tables s.lines → Keeps (own_property_in part key label p s)
  unfolding own_property_in
  part_keeps part key label None s h = h
  part_keeps part key label (Some p) s h = h

  -- a definition
  marks_keeping : (label : Label) (marks : Marks) (o : ℕ) (key : List ℕ) → Keeping (set_marks label marks o key)
  unfolding set_marks
  marks_keeping label marks o key = record { keeps = λ s h. acted_keeps _ _ s h }

  body_keeping : (b : Bool) (place : Label) (body : Body) (label : Label) (o : ℕ) (key : List ℕ) → Keeping (set_body_if b place body label o key)
  unfolding set_body_if
  body_keeping true place body label o key = record { keeps = λ s h. acted_keeps _ _ s h }
  body_keeping false place body label o key = record { keeps = λ s h. h }

  redefine_keeping : (p : Slot Label) (q : Property) (d : Definition) (place given : Label) (o : ℕ) (key : List ℕ) → Keeping (redefine p q d place given o key)
  unfolding redefine
  redefine_keeping p q d place given o key = bind_keeping _ (marks_keeping (union place given) q.marks o key) (λ u. bind_keeping _ (body_keeping (changes_body (erased_slot p) d) place q.body _ o key) (λ w. ret_keeping _))

  over_keeps : (old : Option (Slot Label)) (d : Definition) (place given : Label) (o : ℕ) (key : List ℕ) (q : Option Property) (s : State) → AreNamed tables s.lines → Keeps (define_over old d place given o key q s)
  unfolding define_over
  over_keeps None d place given o key None s h = throw_keeps _ _ _ s h
  over_keeps (Some p) d place given o key None s h = throw_keeps _ _ _ s h
  over_keeps None d place given o key (Some q) s h = acted_keeps _ _ s h
  over_keeps (Some p) d place given o key (Some q) s h = (redefine_keeping p q d place given o key).keeps s h

  define_by_keeps : (b : Bool) (p : Object Label) (marks : GivenMarks) (body : GivenBody) (place given : Label) (o : ℕ) (key : List ℕ) (s : State) → AreNamed tables s.lines → Keeps (define_by b p marks body place given o key s)
  unfolding define_by
  define_by_keeps true p marks body place given o key s h = h
  define_by_keeps false p marks body place given o key s h = over_keeps (own key p.rows) _ place given o key _ s h

  given_body_keeps : (valued : Bool) (p : Object Label) (marks : GivenMarks) (body : Option GivenBody) (place given : Label) (o : ℕ) (key : List ℕ) (s : State) → AreNamed tables s.lines → Keeps (define_given valued p marks body place given o key s)
  unfolding define_given
  given_body_keeps valued p marks None place given o key s h = throw_keeps _ _ _ s h
  given_body_keeps valued p marks (Some body) place given o key s h = define_by_keeps _ p marks body place given o key s h

  define_keeps : (p : Option (Object Label)) (label : Label) (o : ℕ) (key : List ℕ) (marks : GivenMarks) (shape : Shape) (v g set : Val) (s : State) → AreNamed tables s.lines → Keeps (define_in p label o key marks shape v g set s)
  unfolding define_in
  define_keeps None label o key marks shape v g set s h = throw_keeps _ _ _ s h
  define_keeps (Some p) label o key marks shape v g set s h = given_body_keeps shape.has_value p marks _ _ _ o key s h

  defining_keeping : (key : List ℕ) (marks : GivenMarks) (shape : Shape) (base v g set : Val) → Keeping (defining key marks shape base v g set)
  unfolding defining
  defining_keeping key marks shape base v g set = on_object_keeping _ _ _ (λ o. record { keeps = λ s h. define_keeps (slice_get s.heap o) _ o key marks shape v g set s h })

  -- the `length` of an array is given a number
  element_keeping : (label : Label) (o i : ℕ) → Keeping (delete_element label o i)
  unfolding delete_element
  element_keeping label o i = record { keeps = λ s h. acted_keeps _ _ s h }

  deleted_if_keeps : (b : Bool) (next : Label → L Cut) → ((l : Label) → Keeping (next l)) → (label : Label) (o i : ℕ) (tested : Label) (s : State) → AreNamed tables s.lines → Keeps (deleted_if b next label o i tested s)
  unfolding deleted_if
  deleted_if_keeps true next k label o i tested s h = (bind_keeping (λ u. next tested) (element_keeping (union label tested) o i) (λ u. k tested)).keeps s h
  deleted_if_keeps false next k label o i tested s h = h

  deleted_at_keeps : (e : Option (ℕ × Slot Label)) (next : Label → L Cut) → ((l : Label) → Keeping (next l)) → (label : Label) (o : ℕ) (tested : Label) (s : State) → AreNamed tables s.lines → Keeps (deleted_at e next label o tested s)
  unfolding deleted_at
  deleted_at_keeps None next k label o tested s h = h
  deleted_at_keeps (Some e) next k label o tested s h = deleted_if_keeps _ next k label o e.0 _ s h

  deleted_keeping : (k : ℕ) (label : Label) (o n : ℕ) (tested : Label) → Keeping (deleted_within k label o n tested)
  unfolding deleted_within
  deleted_keeping zero label o n tested = record { keeps = λ s h. h }
  deleted_keeping (suc more) label o n tested = record { keeps = λ s h. deleted_at_keeps _ (deleted_within more label o n) (λ l. deleted_keeping more label o n l) label o tested s h }

  ended_at_keeping : (stays : Option ℕ) (place label : Label) → Keeping (ended_at stays place label)
  unfolding ended_at
  ended_at_keeping None place label = record { keeps = λ s h. h }
  ended_at_keeping (Some i) place label = record { keeps = λ s h. throw_keeps _ _ _ s h }

  cut_keeping : (place label : Label) (o n : ℕ) (cut : Cut) → Keeping (cut_length place label o n cut)
  unfolding cut_length
  cut_keeping place label o n cut = bind_keeping _ (body_keeping true place _ _ o length_key) (λ u. ended_at_keeping cut.stays place _)

  marks_if_keeping : (b : Bool) (label : Label) (marks : Marks) (o : ℕ) (key : List ℕ) → Keeping (set_marks_if b label marks o key)
  marks_if_keeping true label marks o key = marks_keeping label marks o key
  marks_if_keeping false label marks o key = ret_keeping tt

  length_to_keeping : (b : Bool) (p : Object Label) (place given : Label) (o n : ℕ) (q : Option Property) → Keeping (set_length_to b p place given o n q)
  unfolding set_length_to
  length_to_keeping b p place given o n None = record { keeps = λ s h. throw_keeps _ _ _ s h }
  length_to_keeping b p place given o n (Some q) =
      bind_keeping _ (marks_if_keeping b (union place given) q.marks o length_key)
      (λ u. bind_keeping _ (deleted_keeping (length p.rows) (union place (union given p.structure)) o n bottom) (λ cut. cut_keeping place (union given p.structure) o n cut))

  length_in_keeping : (b : Bool) (p : Option (Object Label)) (place given : Label) (o : ℕ) (marks : GivenMarks) (n : ℕ) → Keeping (set_length_in b p place given o marks n)
  unfolding set_length_in
  length_in_keeping b None place given o marks n = record { keeps = λ s h. throw_keeps _ _ _ s h }
  length_in_keeping b (Some p) place given o marks n = length_to_keeping b p _ given o n _

  set_length_keeping : (b : Bool) (place : Label) (o : ℕ) (marks : GivenMarks) (n : ℕ) (given : Label) → Keeping (set_length b place o marks n given)
  unfolding set_length
  set_length_keeping b place o marks n given = record { keeps = λ s h. (length_in_keeping b (slice_get s.heap o) place given o marks n).keeps s h }

  numbered_by_keeping : (r : Result Number LeftNumbers) → Keeping (numbered_by r)
  unfolding numbered_by
  numbered_by_keeping (Ok n) = record { keeps = λ s h. h }
  numbered_by_keeping (Err e) = record { keeps = λ s h. h }

  numbered_keeping : (v : Val) → Keeping (numbered v)
  unfolding numbered
  numbered_keeping v = numbered_by_keeping (number_in v.value)

  -- a prototype, and further properties
  prototype_keeps : (label : Label) (p : Option (Object Label)) (s : State) → AreNamed tables s.lines → Keeps (prototype_in label p s)
  unfolding prototype_in
  prototype_keeps label None s h = h
  prototype_keeps label (Some p) s h = h

  extensible_keeps : (label : Label) (p : Option (Object Label)) (s : State) → AreNamed tables s.lines → Keeps (extensible_in label p s)
  unfolding extensible_in
  extensible_keeps label None s h = h
  extensible_keeps label (Some p) s h = h

  prevent_keeping : (label : Label) (o : ℕ) → Keeping (prevent label o)
  unfolding prevent
  prevent_keeping label o = record { keeps = λ s h. acted_keeps _ _ s h }

  -- labels are raised
  structure_keeping : (origins : List ℕ) (label : Label) (o : ℕ) → Keeping (raise_structure origins label o)
  unfolding raise_structure
  structure_keeping origins label o = record { keeps = λ s h. acted_keeps _ _ s h }

  existence_keeping : (origins : List ℕ) (label : Label) (key : List ℕ) (o : ℕ) → Keeping (raise_existence origins label key o)
  unfolding raise_existence
  existence_keeping origins label key o = record { keeps = λ s h. acted_keeps _ _ s h }

  -- new objects and bound functions
  new_keeping : (c : Class) (proto : Option ObjId) (label : Label) → Keeping (make_new c proto label)
  unfolding make_new
  new_keeping c proto label = record { keeps = λ s h. h }

  new_by_keeping : (c : Class) (v : Val) → Keeping (make_new_by c v)
  unfolding make_new_by
  new_by_keeping c v = record { keeps = λ s h. (new_keeping c _ v.label).keeps s h }

  list_keys_keeping : (all : Bool) (label : Label) (o : ℕ) → Keeping (list_keys all label o)
  unfolding list_keys
  list_keys_keeping all label o = record { keeps = λ s h. h }

  bind_value_keeps : (v : Value) (target this : Val) (args : List Val) (s : State) → AreNamed tables s.lines → Keeps (bind_value v target this args s)
  unfolding bind_value bind_object
  bind_value_keeps (value.Primitive p) target this args s h = throw_keeps _ _ _ s h
  bind_value_keeps (value.Object o) target this args s h = h

  bind_keeps : (b : Bool) (target this : Val) (args : List Val) (s : State) → AreNamed tables s.lines → Keeps (bind_to b target this args s)
  unfolding bind_to
  bind_keeps true target this args s h = bind_value_keeps target.value target this args s h
  bind_keeps false target this args s h = throw_keeps _ _ _ s h

  -- origins that are asked about first
  origins_keeping : (b : Bool) (next : L Val) → Keeping next → Keeping (if_origins b next)
  unfolding if_origins
  origins_keeping true next k = record { keeps = k.keeps }
  origins_keeping false next k = record { keeps = λ s h. h }

  with_origins_keeping : (origins : List ℕ) (next : L Val) → Keeping next → Keeping (with_origins tables inputs origins next)
  unfolding with_origins
  with_origins_keeping origins next k = origins_keeping (are_origins (length tables.origins) origins) next k

  -- a line is read
  read_keeping : (i : Option ℕ) (name : Label) → Keeping (read_channel tables inputs i name)
  unfolding read_channel
  read_keeping None name = record { keeps = λ s h. h }
  read_keeping (Some i) name = record { keeps = λ s h. guard_keeps _ W11 _ _ _ s h h }

  -- a text is printed
  text_keeping : (i : ℕ) (label : Label) (v : Value) → is_output tables (channel_name tables.outputs i) ≡ true → Keeping (print_text tables inputs i label v)
  unfolding print_text
  text_keeping i label (value.Object o) there = record { keeps = λ s h. h }
  text_keeping i label (value.Primitive prims.Undefined) there = record { keeps = λ s h. h }
  text_keeping i label (value.Primitive prims.Null) there = record { keeps = λ s h. h }
  text_keeping i label (value.Primitive (prims.Bool b)) there = record { keeps = λ s h. h }
  text_keeping i label (value.Primitive (prims.Num n)) there = record { keeps = λ s h. h }
  text_keeping i label (value.Primitive (prims.Str text)) there = record { keeps = λ s h. guard_keeps _ W12 _ _ _ s h (named_more tables s.lines _ h there) }

  -- on a channel that there may be
  print_keeping : (o : Option ℕ) (name : Label) (v : Val) → ((i : ℕ) → o ≡ Some i → is_output tables (channel_name tables.outputs i) ≡ true) → Keeping (print_channel tables inputs o name v)
  unfolding print_channel
  print_keeping None name v there = record { keeps = λ s h. h }
  print_keeping (Some i) name v there = record { keeps = λ s h. (text_keeping i (union name v.label) v.value (there i refl)).keeps s h }

  act_keeping : (a : Act) (vs : List Val) → Keeping (act tables inputs a vs)
  unfolding act
  act_keeping (object_of parts) vs = record { keeps = λ s h. make_keeps parts vs s h }
  act_keeping (array_of places n) vs = record { keeps = λ s h. make_array_keeps places n vs s h }
  act_keeping base_needed vs = record { keeps = λ s h. needed_keeps _ (argument 0 vs) s h }
  act_keeping object_needed vs = record { keeps = λ s h. needed_keeps _ (argument 0 vs) s h }
  act_keeping has_key vs = record { keeps = λ s h. has_keeps _ _ (argument 1 vs).value s h }
  act_keeping (throws_error kind) vs = record { keeps = λ s h. throw_keeps _ _ _ s h }
  act_keeping (own_property part key) vs = on_object_keeping _ _ _ (λ o. record { keeps = λ s h. part_keeps part key _ (slice_get s.heap o) s h })
  act_keeping (own_keys all) vs = on_object_keeping _ _ _ (λ o. list_keys_keeping all _ o)
  act_keeping prototype_of_object vs = on_object_keeping _ _ _ (λ o. record { keeps = λ s h. prototype_keeps _ (slice_get s.heap o) s h })
  act_keeping is_extensible vs = on_object_keeping _ _ _ (λ o. record { keeps = λ s h. extensible_keeps _ (slice_get s.heap o) s h })
  act_keeping prevent_extensions vs = on_object_keeping _ _ _ (λ o. prevent_keeping _ o)
  act_keeping (new_object c false) vs = new_keeping c _ bottom
  act_keeping (new_object c true) vs = new_by_keeping c (argument 0 vs)
  act_keeping bind vs = record { keeps = λ s h. bind_keeps (is_function_at s.heap (argument 0 vs).value) (argument 0 vs) (argument 1 vs) (others (others vs)) s h }
  act_keeping read_line vs = read_keeping _ _
  act_keeping print_line vs = print_keeping _ _ _ (channel_there tables (argument 0 vs).value)
  act_keeping (join_label origins) vs = with_origins_keeping origins _ (ret_keeping _)
  act_keeping (raise_structure_by origins) vs = with_origins_keeping origins _ (on_object_keeping _ _ _ (λ o. structure_keeping origins _ o))
  act_keeping (raise_existence_by key origins) vs = with_origins_keeping origins _ (on_object_keeping _ _ _ (λ o. existence_keeping origins _ key o))

  -- ---- jumps, directives and `try`

  jumps_keeping : (to : Option (Exit × ℕ)) (v : Val) → Keeping (jumps_to to v)
  unfolding jumps_to
  jumps_keeping None v = record { keeps = λ s h. h }
  jumps_keeping (Some to) v = record { keeps = λ s h. jump_keeps _ _ _ s h }

  raises_keeping : (leaving : Leaving) (to : Option (Exit × ℕ)) (label : Label) → Keeping (raises leaving to label)
  unfolding raises raise_frame
  raises_keeping leaving None label = record { keeps = λ s h. h }
  raises_keeping leaving (Some to) label = record { keeps = λ s h. guard_keeps _ W10 _ _ _ s h h }

  raised_keeping : (leaving : Leaving) (to : Option (Exit × ℕ)) (os : Option (List ℕ)) → Keeping (raised_by tables inputs leaving to os)
  unfolding raised_by
  raised_keeping leaving to None = record { keeps = λ s h. h }
  raised_keeping leaving to (Some os) = record { keeps = λ s h. (raises_keeping leaving to _).keeps s h }

  quiet_keeping : Keeping quiet
  unfolding quiet
  quiet_keeping = record { keeps = λ s h. h }

  stayed_keeps : {X : Type 0} (b : Bool) (how : Came X) (j : Jump) (s : State) → AreNamed tables s.lines → Keeps (choose b (Goes how s) (Jumps j s))
  stayed_keeps true how j s h = h
  stayed_keeps false how j s h = h

  stay_keeps : {X : Type 0} (depth : ℕ) (o : Outcome Halt Jump X State) → Keeps o → Keeps (stay depth o)
  unfolding stay
  stay_keeps depth (Goes a s) h = h
  stay_keeps depth (Jumps j s) h = stayed_keeps (nat_lt depth (length s.frames)) (caught j) j s h
  stay_keeps depth (Ends halt s) h = h

  react_keeping : (handles finishes : Bool) (handler : Val → L (Unit {0})) (depth : ℕ) (how : Came (Unit {0})) → ((v : Val) → Keeping (handler v)) → Keeping (react handles finishes handler depth how)
  unfolding react
  react_keeping handles finishes handler depth (ended u) l = ret_keeping (ended u)
  react_keeping handles finishes handler depth (caught j) l =
      choose_keeping (handles && is_throw j.exit)
      (bind_keeping _ (choose_keeping finishes (ret_keeping tt) quiet_keeping) (λ u. record { keeps = λ s h. stay_keeps depth (handler j.value s) ((l j.value).keeps s h) }))
      (ret_keeping (caught j))

  resume_keeping : (how : Came (Unit {0})) (v : Unit {0}) → Keeping (resume how v)
  unfolding resume
  resume_keeping (ended u) v = ret_keeping tt
  resume_keeping (caught j) v = record { keeps = λ s h. jump_keeps _ _ _ s h }

  finish_keeping : (finishes : Bool) {last : L (Unit {0})} (how : Came (Unit {0})) → Keeping last → Keeping (finish finishes last how)
  unfolding finish
  finish_keeping finishes how l = bind_keeping _ quiet_keeping (λ u. bind_keeping (resume how) (choose_keeping finishes l (ret_keeping tt)) (resume_keeping how))

  attempt_keeping : (handles finishes : Bool) {block last : L (Unit {0})} (handler : Val → L (Unit {0})) → Keeping block → ((v : Val) → Keeping (handler v)) → Keeping last → Keeping (attempt handles finishes block handler last)
  attempt_keeping handles finishes {block} {last} handler b l f =
      bind_keeping _ (scope_keeping kind.Try bottom (tried handles finishes block handler last) (λ depth. bind_keeping _ (bind_keeping _ (record { keeps = λ s h. stay_keeps depth (block s) (b.keeps s h) }) (λ how. react_keeping handles finishes handler depth how l)) (λ how. finish_keeping finishes how f))) (λ c. ret_keeping tt)

  -- ---- what is entered

  record EntersKeeping (E : Enters) : Type 0 where
    body : (ss : Statements) (e : Env ℕ) → Keeping (E.body ss e)
    built_in : (which : ℕ) (construct : Bool) (vs : List Val) → Keeping (E.built_in which construct vs)
    conversion : (h : Hint) (v : Val) → Keeping (E.conversion h v)

  -- in a frame that gives a value
  framed_keeping : (k : Kind) (label : Label) (m : ℕ → L Val) → ((depth : ℕ) → Keeping (m depth)) → Keeping (scope k label m >>= λ c. ret (settled_value c))
  framed_keeping k label m l = bind_keeping _ (scope_keeping k label m l) (λ c. ret_keeping (settled_value c))

  module _ (functions : List FunctionCode) {E : Enters} (c : EntersKeeping E) where
    -- a call
    entered_keeps : (callee : Callee) (label : Label) (this : Val) (vs : List Val) (depth : ℕ) (s : State) → AreNamed tables s.lines → Keeps (entered functions callee label this vs E depth s)
    unfolding entered with_call
    entered_keeps not_callable label this vs depth s h = throw_keeps _ _ _ s h
    entered_keeps empty_callee label this vs depth s h = h
    entered_keeps (of_built_in which) label this vs depth s h = throw_keeps _ _ _ s h
    entered_keeps (of_script number f place) label this vs depth s h = (c.body (body_of f) (called_env (length s.records) depth)).keeps (with_call functions number f place this vs s) h

    script_keeping : (callee : Callee) (label : Label) (this : Val) (vs : List Val) → Keeping (scope kind.Call label (λ depth. entered functions callee label this vs E depth) >>= λ l. ret (answer l))
    script_keeping callee label this vs = bind_keeping _ (scope_keeping kind.Call label (λ depth. entered functions callee label this vs E depth) (λ depth. record { keeps = λ s h. entered_keeps callee label this vs depth s h })) (λ l. ret_keeping (answer l))

    by_keeping : (callee : Callee) (label : Label) (o : ℕ) (this : Val) (vs : List Val) → Keeping (call_by functions callee label o this vs E)
    unfolding call_by
    by_keeping not_callable label o this vs = script_keeping not_callable label this vs
    by_keeping empty_callee label o this vs = script_keeping empty_callee label this vs
    by_keeping (of_script number f place) label o this vs = script_keeping (of_script number f place) label this vs
    by_keeping (of_built_in which) label o this vs = framed_keeping kind.Native label _ (λ depth. c.built_in which false (this ∷ called_value label o ∷ vs))

    aimed_keeps : (label : Label) (aim : Aim) (this : Val) (vs : List Val) (s : State) → AreNamed tables s.lines → Keeps (call_aimed functions label aim this vs E s)
    unfolding call_aimed
    aimed_keeps label aim this vs s h = (by_keeping (callee_at functions s.heap aim.target.function) (union label aim.label) aim.target.function (this_or aim.target.this this) (aim.target.args ++ vs)).keeps s h

    call_keeping : (label : Label) (f : Value) (this : Val) (vs : List Val) → Keeping (call_value functions label f this vs E)
    unfolding call_value
    call_keeping label (value.Primitive p) this vs = record { keeps = λ s h. (by_keeping not_callable label 0 this vs).keeps s h }
    call_keeping label (value.Object o) this vs = record { keeps = λ s h. aimed_keeps label (aim_of s.heap o.0) this vs s h }

    -- a construction
    constructed_keeps : (callee : Callee) (label : Label) (o : ℕ) (vs : List Val) (depth : ℕ) (s : State) → AreNamed tables s.lines → Keeps (constructed functions callee label o vs E depth s)
    unfolding constructed
    constructed_keeps not_callable label o vs depth s h = throw_keeps _ _ _ s h
    constructed_keeps empty_callee label o vs depth s h = throw_keeps _ _ _ s h
    constructed_keeps (of_built_in which) label o vs depth s h = throw_keeps _ _ _ s h
    constructed_keeps (of_script number code place) label o vs depth s h = entered_keeps (of_script number code place) label _ vs depth (with_fresh (prototype_of s.heap o) s) h

    new_script_keeps : (callee : Callee) (label : Label) (o : ℕ) (vs : List Val) (s : State) → AreNamed tables s.lines → Keeps ((scope kind.Call label (λ depth. constructed functions callee label o vs E depth) >>= λ l. ret (construction (length s.heap) l)) s)
    new_script_keeps callee label o vs s h = (bind_keeping (λ l. ret (construction (length s.heap) l)) (scope_keeping kind.Call label (λ depth. constructed functions callee label o vs E depth) (λ depth. record { keeps = λ t k. constructed_keeps callee label o vs depth t k })) (λ l. ret_keeping (construction (length s.heap) l))).keeps s h

    module _ (set : BuiltIns) where
      native_keeping : (which : ℕ) (label : Label) (o : ℕ) (vs : List Val) → Keeping (construct_built_in set which label o vs E)
      unfolding construct_built_in
      native_keeping which label o vs = choose_keeping (constructs_in set which) (c.built_in which true (unlabelled _ ∷ called_value label o ∷ vs)) (record { keeps = λ s h. throw_keeps _ _ label s h })

      construct_by_keeps : (callee : Callee) (label : Label) (o : ℕ) (vs : List Val) (s : State) → AreNamed tables s.lines → Keeps (construct_by set functions callee label o vs E s)
      unfolding construct_by
      construct_by_keeps not_callable label o vs s h = new_script_keeps not_callable label o vs s h
      construct_by_keeps empty_callee label o vs s h = new_script_keeps empty_callee label o vs s h
      construct_by_keeps (of_script number code place) label o vs s h = new_script_keeps (of_script number code place) label o vs s h
      construct_by_keeps (of_built_in which) label o vs s h = (framed_keeping kind.Native label _ (λ depth. native_keeping which label o vs)).keeps s h

      construct_aimed_keeps : (label : Label) (aim : Aim) (vs : List Val) (s : State) → AreNamed tables s.lines → Keeps (construct_aimed set functions label aim vs E s)
      unfolding construct_aimed
      construct_aimed_keeps label aim vs s h = construct_by_keeps (callee_at functions s.heap aim.target.function) (union label aim.label) aim.target.function (aim.target.args ++ vs) s h

      construct_keeping : (label : Label) (f : Value) (vs : List Val) → Keeping (construct_value set functions label f vs E)
      unfolding construct_value
      construct_keeping label (value.Primitive p) vs = record { keeps = λ s h. construct_by_keeps not_callable label 0 vs s h }
      construct_keeping label (value.Object o) vs = record { keeps = λ s h. construct_aimed_keeps label (aim_of s.heap o.0) vs s h }

    -- getters and setters
    access_entered : (a : Access) → Keeping (entered_access functions E a)
    unfolding entered_access
    access_entered (has_value v) = ret_keeping v
    access_entered (has_getter label f this) = call_keeping label (value.Object f) this []

    -- the conversion of an object
    converted_keeping : (b : Bool) (h : Hint) (label : Label) (v given : Val) → Keeping (converted_by b E h label v given)
    unfolding converted_by convert
    converted_keeping true h label v given = framed_keeping kind.Native label _ (λ depth. c.conversion h v)
    converted_keeping false h label v given = ret_keeping given

    -- both conversions of a value for a `length`
    length_converted : (label : Label) (v : Val) → Keeping (converted_for_length E label v)
    unfolding converted_for_length
    length_converted label v = converted_keeping (is_object v.value) hint.Number _ v v

    count_keeping : (b : Bool) (n : ℕ) (given label : Label) (next : ℕ → Label → L Val) → ((k : ℕ) (l : Label) → Keeping (next k l)) → Keeping (given_count b n given label next)
    unfolding given_count
    count_keeping true n given label next k = k n given
    count_keeping false n given label next k = record { keeps = λ s h. throw_keeps _ _ _ s h }

    with_count_keeping : (label : Label) (v : Val) (next : ℕ → Label → L Val) → ((k : ℕ) (l : Label) → Keeping (next k l)) → Keeping (with_count E label v next)
    unfolding with_count
    with_count_keeping label v next k =
        bind_keeping _ (length_converted label v) (λ first. bind_keeping _ (numbered_keeping first) (λ m. bind_keeping _ (length_converted label v) (λ second. bind_keeping _ (numbered_keeping second)
        (λ n. count_keeping (is_count m n) (count_of m) (union first.label second.label) label next k))))

    defining_entered : (v : Val) (d : Defining) → Keeping (entered_defining E v d)
    unfolding entered_defining
    defining_entered v (is_defined label) = ret_keeping _
    defining_entered v (has_length_given label o marks) = with_count_keeping label v (set_length true label o marks) (λ n given. set_length_keeping true label o marks n given)

    putting_entered : (v : Val) (p : Putting) → Keeping (entered_putting functions E v p)
    unfolding entered_putting
    putting_entered v is_put = ret_keeping tt
    putting_entered v (has_setter label f this) = bind_keeping _ (call_keeping label (value.Object f) this (v ∷ [])) (λ u. ret_keeping tt)
    putting_entered v (has_length label o) = bind_keeping _ (with_count_keeping label v (set_length false label o no_marks) (λ n given. set_length_keeping false label o no_marks n given)) (λ u. ret_keeping tt)

    -- `instanceof`
    is_instance_keeps : (label : Label) (o : ℕ) (v : Value) (s : State) → AreNamed tables s.lines → Keeps (is_instance label o v s)
    unfolding is_instance
    is_instance_keeps label o (value.Primitive p) s h = throw_keeps _ _ _ s h
    is_instance_keeps label o (value.Object proto) s h = h

    instance_by_keeps : (v : Val) (o : ObjId) (label : Label) (f : ℕ) (s : State) → AreNamed tables s.lines → Keeps (instance_by functions v o label f E s)
    unfolding instance_by
    instance_by_keeps v o label f s h = (bind_keeping {Y = Val} (λ proto. is_instance (union (union v.label label) proto.label) o.0 proto.value)
        (bind_keeping {m = property_of (union v.label label) (called_value label f) (value.Object (id f)) prototype_name} (entered_access functions E)
        (record { keeps = λ t k. property_keeps (union v.label label) (called_value label f) (value.Object (id f)) prototype_name t k }) access_entered)
        (λ proto. record { keeps = λ t k. is_instance_keeps (union (union v.label label) proto.label) o.0 proto.value t k })).keeps s h

    instance_of_keeps : (v : Val) (x : Value) (label : Label) (aim : Aim) (s : State) → AreNamed tables s.lines → Keeps (instance_of functions v x label aim E s)
    unfolding instance_of
    instance_of_keeps v (value.Primitive p) label aim s h = h
    instance_of_keeps v (value.Object o) label aim s h = instance_by_keeps v o _ aim.target.function s h

    instance_if_keeps : (b : Bool) (v : Val) (label : Label) (f : ℕ) (s : State) → AreNamed tables s.lines → Keeps (instance_if functions b v label f E s)
    unfolding instance_if
    instance_if_keeps true v label f s h = instance_of_keeps v v.value label (aim_of s.heap f) s h
    instance_if_keeps false v label f s h = throw_keeps _ _ _ s h

    instance_keeping : (v : Val) (label : Label) (f : Value) → Keeping (instance_value functions v label f E)
    unfolding instance_value
    instance_keeping v label (value.Primitive p) = record { keeps = λ s h. throw_keeps _ _ _ s h }
    instance_keeping v label (value.Object f) = record { keeps = λ s h. instance_if_keeps (is_function_in (slice_get s.heap f.0)) v label f.0 s h }

  -- ---- the operations

  -- any results
  any_result : (t : Ty) (a : Res Val t) → Rel (λ (w : Unit {0}) (v u : Val). Unit {0}) t tt a a
  any_result One a = tt
  any_result a_value a = tt

  any_results : (vs : List Val) → Rels (λ (v u : Val). Unit {0}) vs vs
  any_results [] = nils
  any_results (v ∷ vs) = conses tt (any_results vs)

  -- what is entered, of the first of two alone
  entering : {E D : Enters} → EnteringLinked (Unit {0}) (λ w (v u : Val). Unit {0}) (λ w (e d : Env ℕ). Unit {0}) (λ t w (m n : L (Res Val t)). Keeping m) E D → EntersKeeping E
  entering h = record { body = λ ss e. h.body tt ss e e tt; built_in = λ which construct vs. h.built_in tt which construct vs vs (any_results vs); conversion = λ kind v. h.conversion tt kind v v tt }

  -- linked with themselves: what is said of the first of two alone
  module _ (set : BuiltIns) (functions : List FunctionCode) where
    naming : Link (labelled tables inputs set functions) (labelled tables inputs set functions)
    naming = record {
      W = Unit {0};
      Le = λ v w. Unit {0};
      RV = λ w v u. Unit {0};
      RN = λ w n m. Unit {0};
      RP = λ w i j. Unit {0};
      RE = λ w e d. Unit {0};
      Lift = λ t w m n. Keeping m;
      Inside = λ v w. Unit {0};
      inside_v = λ p r. tt;
      le_refl = λ w. tt;
      le_trans = λ p q. tt;
      more_v = λ p r. tt;
      more_n = λ p r. tt;
      more_p = λ p r. tt;
      more_e = λ p r. tt;
      place_of = λ r. tt;
      ret_one = λ w. ret_keeping tt;
      ret_value = λ {a = a} r. ret_keeping a;
      bind = λ t u f g l h. bind_keeping f l (λ a. h tt tt a a (any_result t a));
      literal = λ w v. tt;
      unary = λ o {v = v} r. record { keeps = λ s h. (given_keeping v.label (unary_of o (seen s.heap v.value))).keeps s h };
      binary = λ o {v = v} {u = u} r q. given_keeping (union v.label u.label) (binary_of o v.value u.value);
      primitive = λ kind {v = v} r h. converted_keeping functions (entering h) (is_object v.value) kind v.label v v;
      comparable = λ {v = v} {u = u} r q h. converted_keeping functions (entering h) (converts_beside v.value u.value) hint.Default (union v.label u.label) v (joined u.label v);
      act = λ a {vs = vs} rs. act_keeping a vs;
      look = λ {v = v} f g r h. bind_keeping _ (raise_keeping v.label) (λ u. record { keeps = λ s k. (h tt tt (seen s.heap v.value)).keeps s k });
      function = λ f {i = i} r. record { keeps = λ s h. function_keeps functions f i s h };
      jump = λ leaving {e = e} {v = v} r q. jumps_keeping (aimed 0 leaving e) v;
      raise = λ leaving {e = e} names r. raised_keeping leaving (aimed 0 leaving e) (named_origins tables inputs names);
      throw = λ {v = v} r. record { keeps = λ s h. jump_keeps _ _ _ s h };
      leave = λ t w name. halts_keeping (left name);
      resolve = λ t {i = i} x f g p h. record { keeps = λ s k. (h tt tt (resolved s.records s.heap i x) (resolved s.records s.heap i x) tt).keeps s k };
      get_value = λ {n = n} r h. bind_keeping _ (accessed_keeping n) (access_entered functions (entering h));
      typeof_value = λ {n = n} r h. bind_keeping _ (typeof_keeping n) (access_entered functions (entering h));
      put_value = λ {n = n} {v = v} r q h. bind_keeping _ (put_keeping n v) (putting_entered functions (entering h) v);
      property = λ r q. tt;
      remove = λ {n = n} r. remove_keeping n;
      define = λ key marks shape {base = base} {v = v} {g = g} {set = x} r q t u h. bind_keeping _ (defining_keeping key marks shape base v g x) (defining_entered functions (entering h) v);
      this_of = λ r. tt;
      instance = λ {v = v} {f = f} r q h. instance_keeping functions (entering h) v f.label f.value;
      fork = λ t {v = v} r h k. fork_keeping t v (h tt tt) (k tt tt);
      round = λ turn labels {e = e} f g r h. round_keeping turn labels e f (λ d. h tt tt d d tt);
      again = λ {v = v} r h k. again_keeping v h k;
      keys = λ {v = v} f g r h. record { keeps = λ s k. (list_keeping (key_list s.heap v.value) v.label f (λ ks. h tt tt ks)).keeps s k };
      declare = λ name {v = v} {e = e} f g r q h. record { keeps = λ s k. (h tt tt (with_place (length s.records) e) (with_place (length s.records) e) tt).keeps (with_name e.place name v s) k };
      call = λ {f = f} {this = this} {vs = vs} r q rs h. call_keeping functions (entering h) f.label f.value this vs;
      construct = λ {f = f} {vs = vs} r rs h. construct_keeping functions (entering h) set f.label f.value vs;
      attempt = λ handles finishes h h' b l f. attempt_keeping handles finishes h (b tt tt) (λ v. l tt tt v v tt) (f tt tt);
    }

    -- a program
    program_keeping : (n : ℕ) (declares : Bool) (program : Statements) → Keeping (program_step (timed tables inputs set functions) set n declares program (outermost_env 0))
    unfolding naming
    program_keeping n declares program = program_linked (timed tables inputs set functions) (timed tables inputs set functions) naming (λ w. record { keeps = λ s h. spend_keeps s.turns s h }) set (λ t w. halts_keeping out_of_turns) n declares program {w = tt} {e = outermost_env 0} {d = outermost_env 0} tt

run_lines : (o : Outcome Halt Jump (Unit {0}) State) → (run_of o).lines ≡ (state_of o).lines
run_lines (Goes u s) = refl
run_lines (Jumps j s) = refl
run_lines (Ends halt s) = refl

-- each line of a run is on an output channel
pub named : (set : BuiltIns) (tables : Tables) (inputs : Given) (program : Statements) (turns : ℕ) → AreNamed tables (tracked_run set tables inputs program turns).lines
unfolding tracked_run
named set tables inputs program turns =
    subst (AreNamed tables) (sym (run_lines (program_step (timed tables inputs set (functions_of program)) set turns (may_declare set program) program (outermost_env 0) (start tables inputs set program turns))))
    ((program_keeping tables inputs set (functions_of program) turns (may_declare set program) program).keeps (start tables inputs set program turns) refl)
