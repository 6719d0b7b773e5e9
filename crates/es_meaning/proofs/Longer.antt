-- With more turns a run that is over is the same.
use Rattle.std.proofs.Common.{◌≡◌, ℕ, zero, suc, ◌+◌, ◌-◌, ◌≤◌, List, [], ◌∷◌, Bool, true, false, length, Option, Some, None, Result, Ok, Err, slice_get, ◌&&◌, refl, ap, ap₂, subst, arith}
use Rattle.flow_policy.specs.Policies.{Tables}
use Rattle.flow_policy.specs.Inputs.{Given}
use Rattle.js_number.specs.declared.int.LeftNumbers.{LeftNumbers}
use Rattle.js_number.specs.declared.num.Num.{Num as Number}
use Rattle.js_number.specs.declared.primitive.Primitive.{Primitive}
use Rattle.js_number.specs.declared.primitive.Primitive.TheVariants.{Undefined, Null, Num, Str}
use Rattle.js_number.specs.declared.primitive.Primitive.TheVariants as prims
use Rattle.js_values.specs.declared.value.Value.{Value}
use Rattle.js_values.specs.declared.value.Value.TheVariants as value
use Rattle.js_values.specs.declared.ids.ObjId.{ObjId}
use Rattle.js_values.specs.declared.inner.Class.{Class}
use Rattle.js_values.specs.Objects.{Property, PlainObject}
use Rattle.js_values.specs.Records.{Binding}
use Rattle.js_values.specs.Arrays.{is_length}
use Rattle.js_values.specs.Walks.{plain_chain, plain_find}
use Rattle.js_ast.specs.Trees.{Function, Statements}
use Rattle.js_ast.specs.Functions.{FunctionCode, functions_of}
use Rattle.native_protocol.specs.declared.hint.Hint.{Hint}
use Rattle.native_protocol.specs.declared.hint.Hint.TheVariants as hint
use Rattle.native_protocol.specs.declared.request.ErrorKind.{ErrorKind}
use Rattle.native_protocol.specs.declared.request.GivenMarks.{GivenMarks}
use Rattle.es_meaning.specs.Outcomes.{Exit, Halt, out_of_turns, halted, Outcome, Goes, Jumps, Ends, From, ret, and_then, ◌>>=◌}
use Rattle.es_meaning.specs.Environments.{Env, with_around, with_place, aimed}
use Rattle.es_meaning.specs.BuiltIns.{BuiltIns}
use Rattle.es_meaning.specs.Holders.{constructs_in}
use Rattle.es_meaning.specs.Functions.{Callee, not_callable, empty_callee, of_script, of_built_in, Target}
use Rattle.es_meaning.specs.Operations.{Ty, One, Res, Part, Shape, Act, object_of, array_of, base_needed, object_needed, has_key, throws_error, own_property, own_keys, prototype_of_object, is_extensible, prevent_extensions, new_object, bind, read_line, print_line, join_label, raise_structure, raise_existence, Ops}
use Rattle.es_meaning.specs.Operations.{Value as a_value}
use Rattle.es_meaning.specs.Operators.{truth, converts_beside, unary_of, binary_of}
use Rattle.es_meaning.specs.Evaluation.{program_step}
use Rattle.es_meaning.specs.Laws.{MoreTurns}
use Rattle.es_meaning.specs.Objects.{Plan, writes, adds, refuses, calls, can_put, is_length_in, own_in}
use Rattle.es_meaning.specs.Definitions.{GivenBody, setter_in}
use Rattle.es_meaning.specs.Primitives.{own_value_of}
use Rattle.es_meaning.specs.Start.{global_object}
use Rattle.es_meaning.specs.Requested.{is_function_in, is_function_at, given_body, are_origins, target_of}
use Rattle.es_meaning.specs.Plain.{State, Jump, P, Place, in_record, on_global, nowhere, Reference, of_name, of_property, resolved, binding_at, given, seen, throw_error, bound, Access, has_value, has_getter, found_globally, property_of, as_access, named, accessed, accessed_for_typeof, assigned, assigned_to, Putting, is_put, has_setter, has_length, overwritten, put_by, put, setter_or_refused, put_beyond, put_on_primitive, primitive_chain, put_property, as_putting, put_named, put_value, removed_if, removed_own, removed_of_primitive, remove, make_object, make_array, needed, has, on_object, Defining, is_defined, has_length_given, define_by, define_given, define_in, defining, ended_at, cut_length, set_length_to, set_length_in, set_length, numbered_by, numbered, number_in, is_count, count_of, make_new, make_new_by, list_keys, bind_to, if_origins, key_list, with_list, choose, spend, leaves_it, ended_round, make_function, callee_at, with_call, is_return, ended_call, Enters, entered, call_target, call, prototype_of, with_fresh, ended_construction, constructed, construct_target, construct, entered_access, entered_putting, converted, given_count, with_count, entered_defining, converted_if, prototype_name, is_instance, instance_of, instance_if, instance, jumps_to, is_throw, handled_throw, finished, attempt, read_channel, print_text, print_channel, with_origins, act, raised_by, named_origins, may_declare, plain, timed, outermost_env, start, run_of, plain_run}
use Rattle.es_meaning.proofs.Link.{Rels, nils, conses, Rel, EnteringLinked, Link}
use Rattle.es_meaning.proofs.RequestLinks.{program_longer}

-- ---- turns

-- so many turns and k more
abbrev pub beyond : ℕ → ℕ → ℕ
beyond k zero = k
beyond k (suc n) = suc (beyond k n)

-- which is their sum
beyond_sum : (k n : ℕ) → beyond k n ≡ n + k
beyond_sum k zero = omega arith
beyond_sum k (suc n) = let h = beyond_sum k n in omega arith

-- and no less
pub few_beyond : (k n : ℕ) → n ≤ beyond k n
few_beyond k n = let h = beyond_sum k n in omega arith

-- a number that is no less is so many more
pub beyond_few : (few many : ℕ) → few ≤ many → beyond (many - few) few ≡ many
beyond_few few many le = let h = beyond_sum (many - few) few in omega arith

-- ---- outcomes of two runs, the second of which has more turns

-- the first wants turns, or the second is the first with more turns in its state
pub data Longer {H J S X : Type 0} (out : H) (more : S → S) : Outcome H J X S → Outcome H J X S → Type 0 where
  wants : {s : S} {p : Outcome H J X S} → Longer out more (Ends out s) p
  goes : {a : X} {s : S} → Longer out more (Goes a s) (Goes a (more s))
  jumps : {j : J} {s : S} → Longer out more (Jumps j s) (Jumps j (more s))
  ends : {halt : H} {s : S} → Longer out more (Ends halt s) (Ends halt (more s))

-- computations from a state, and from it with more turns
pub record Lift {H J S : Type 0} (out : H) (more : S → S) (X : Type 0) (m n : From H J S X) : Type 0 where
  pub on : (s : S) → Longer out more (m s) (n (more s))

module _ {H J S : Type 0} {out : H} {more : S → S} where
  -- what follows an outcome
  then_longer : {X Y : Type 0} {o p : Outcome H J X S} (f g : X → From H J S Y) → Longer out more o p → ((a : X) → Lift out more Y (f a) (g a)) → Longer out more (and_then o f) (and_then p g)
  then_longer f g wants h = wants
  then_longer f g (goes {a = a} {s = s}) h = (h a).on s
  then_longer f g jumps h = jumps
  then_longer f g ends h = ends

  -- one computation, and then the next
  pub bind_longer : {X Y : Type 0} {m n : From H J S X} (f g : X → From H J S Y) → Lift out more X m n → ((a : X) → Lift out more Y (f a) (g a)) → Lift out more Y (m >>= f) (n >>= g)
  bind_longer f g l h = record { on = λ s. then_longer f g (l.on s) h }

  -- one of two
  pub choose_longer : {X : Type 0} (b : Bool) {m n m' n' : From H J S X} → Lift out more X m m' → Lift out more X n n' → Lift out more X (choose b m n) (choose b m' n')
  choose_longer true l k = l
  choose_longer false l k = k

  -- of equal values
  pub at_equal : {X V : Type 0} {v u : V} (f g : V → From H J S X) → v ≡ u → Lift out more X (f v) (g v) → Lift out more X (f v) (g u)
  at_equal {X} {V} {v} {u} f g e l = subst (λ x. Lift out more X (f v) (g x)) e l

-- related results that are equal
pub equal_results : (V : Type 0) (t : Ty) (w : Unit {0}) (a : Res V t) → Rel {W = Unit {0}} (λ w (v : V) (u : V). v ≡ u) t w a a
equal_results V One w a = tt
equal_results V a_value w a = refl

-- related lists are equal
pub rels_equal : {V : Type 0} {vs us : List V} → Rels (λ (v : V) (u : V). v ≡ u) vs us → vs ≡ us
rels_equal nils = refl
rels_equal (conses e r) = ap₂ (λ v l. v ∷ l) e (rels_equal r)

-- and a list is related to itself
pub same_rels : {V : Type 0} (vs : List V) → Rels (λ (v : V) (u : V). v ≡ u) vs vs
same_rels [] = nils
same_rels (v ∷ vs) = conses refl (same_rels vs)

-- ---- the unlabelled meaning

-- the state with k more turns
abbrev more_turns_in : ℕ → State → State
more_turns_in k s = record s { turns = beyond k s.turns }

module _ (k : ℕ) where
  -- computations of the unlabelled meaning
  abbrev On : (X : Type 0) → P X → P X → Type 0
  On X m n = Lift out_of_turns (more_turns_in k) X m n

  -- a turn is spent
  spend_on : (n : ℕ) (s : State) → Longer out_of_turns (more_turns_in k) (spend n s) (spend (beyond k n) (more_turns_in k s))
  unfolding spend
  spend_on zero s = wants
  spend_on (suc n) s = goes

  -- an operator's value
  given_on : (r : Result Primitive (List ℕ)) → On Value (given r) (given r)
  unfolding given
  given_on (Ok v) = record { on = λ s. goes }
  given_on (Err name) = record { on = λ s. ends }

  -- an exception of the engine
  throw_on : (X : Type 0) (kind : ErrorKind) → On X (throw_error kind) (throw_error kind)
  unfolding throw_error
  throw_on X kind = record { on = λ s. jumps }

  -- ---- reads

  -- the value of a name
  bound_on : (b : Option (Binding Value)) → On Value (bound b) (bound b)
  unfolding bound
  bound_on (Some b) = record { on = λ s. goes }
  bound_on None = record { on = λ s. (throw_on Value _).on s }

  as_access_on : {m n : P Value} → On Value m n → On Access (as_access m) (as_access n)
  as_access_on l = bind_longer _ _ l (λ v. record { on = λ s. goes })

  -- of one that the global object has
  globally_on : (f : Option (ℕ × Property)) → On Access (found_globally f) (found_globally f)
  unfolding found_globally
  globally_on (Some f) = record { on = λ s. goes }
  globally_on None = record { on = λ s. (throw_on Access _).on s }

  -- of a property of a value
  property_on : (v : Value) (key : List ℕ) → On Access (property_of v key) (property_of v key)
  unfolding property_of
  property_on (value.Primitive p) key = record { on = λ s. goes }
  property_on (value.Object o) key = record { on = λ s. goes }

  named_on : (place : Place) (x : List ℕ) → On Access (named place x) (named place x)
  unfolding named
  named_on (in_record i) x = record { on = λ s. (as_access_on (bound_on (binding_at s.records i x))).on s }
  named_on on_global x = record { on = λ s. (globally_on (plain_find x (plain_chain s.heap global_object.0))).on s }
  named_on nowhere x = record { on = λ s. (throw_on Access _).on s }

  -- of a reference
  accessed_on : (n : Reference) → On Access (accessed n) (accessed n)
  unfolding accessed
  accessed_on (of_name x place) = named_on place x
  accessed_on (of_property v key) = property_on v key

  -- or undefined
  typeof_on : (n : Reference) → On Access (accessed_for_typeof n) (accessed_for_typeof n)
  unfolding accessed_for_typeof
  typeof_on (of_name x (in_record i)) = record { on = λ s. (accessed_on (of_name x (in_record i))).on s }
  typeof_on (of_name x on_global) = record { on = λ s. (accessed_on (of_name x on_global)).on s }
  typeof_on (of_name x nowhere) = record { on = λ s. goes }
  typeof_on (of_property v key) = record { on = λ s. (accessed_on (of_property v key)).on s }

  -- ---- puts

  -- a value for a binding
  assigned_on : (mutable : Bool) (x : List ℕ) (i : ℕ) (v : Value) → On (Unit {0}) (assigned mutable x i v) (assigned mutable x i v)
  unfolding assigned
  assigned_on true x i v = record { on = λ s. goes }
  assigned_on false x i v = record { on = λ s. (throw_on (Unit {0}) _).on s }

  -- or for what may be one
  assigned_to_on : (b : Option (Binding Value)) (x : List ℕ) (i : ℕ) (v : Value) → On (Unit {0}) (assigned_to b x i v) (assigned_to b x i v)
  unfolding assigned_to
  assigned_to_on (Some b) x i v = record { on = λ s. (assigned_on b.mutable x i v).on s }
  assigned_to_on None x i v = record { on = λ s. (throw_on (Unit {0}) _).on s }

  as_putting_on : {m n : P (Unit {0})} → On (Unit {0}) m n → On Putting (as_putting m) (as_putting n)
  as_putting_on l = bind_longer _ _ l (λ u. record { on = λ s. goes })

  -- a put, as is planned
  overwritten_on : (is_length : Bool) (o : ℕ) (key : List ℕ) (v : Value) → On Putting (overwritten is_length o key v) (overwritten is_length o key v)
  unfolding overwritten
  overwritten_on true o key v = record { on = λ s. goes }
  overwritten_on false o key v = record { on = λ s. goes }

  put_by_on : (plan : Plan) (o : ℕ) (key : List ℕ) (v : Value) → On Putting (put_by plan o key v) (put_by plan o key v)
  unfolding put_by
  put_by_on writes o key v = record { on = λ s. (overwritten_on (is_length_in key (slice_get s.heap o)) o key v).on s }
  put_by_on adds o key v = record { on = λ s. goes }
  put_by_on refuses o key v = record { on = λ s. (throw_on Putting _).on s }
  put_by_on (calls f) o key v = record { on = λ s. goes }

  -- for an object, for a primitive value, for a value, and for a name
  put_object_on : (o : ℕ) (key : List ℕ) (v : Value) → On Putting (put o key v) (put o key v)
  unfolding put
  put_object_on o key v = record { on = λ s. (put_by_on (can_put key (plain_chain s.heap o)) o key v).on s }

  setter_on : (f : Option ObjId) (base : Value) → On Putting (setter_or_refused f base) (setter_or_refused f base)
  unfolding setter_or_refused
  setter_on None base = record { on = λ s. (throw_on Putting _).on s }
  setter_on (Some f) base = record { on = λ s. goes }

  put_beyond_on : (base : Value) (f : Option (ℕ × Property)) → On Putting (put_beyond base f) (put_beyond base f)
  unfolding put_beyond
  put_beyond_on base None = record { on = λ s. (throw_on Putting _).on s }
  put_beyond_on base (Some f) = record { on = λ s. (setter_on (setter_in f.1.body) base).on s }

  put_on_primitive_on : (own : Option Primitive) (p : Primitive) (key : List ℕ) → On Putting (put_on_primitive own p key) (put_on_primitive own p key)
  unfolding put_on_primitive
  put_on_primitive_on (Some v) p key = record { on = λ s. (throw_on Putting _).on s }
  put_on_primitive_on None p key = record { on = λ s. (put_beyond_on (value.Primitive p) (plain_find key (primitive_chain s.heap p))).on s }

  put_property_on : (base : Value) (key : List ℕ) (v : Value) → On Putting (put_property base key v) (put_property base key v)
  unfolding put_property
  put_property_on (value.Primitive p) key v = record { on = λ s. (put_on_primitive_on (own_value_of p key) p key).on s }
  put_property_on (value.Object o) key v = record { on = λ s. (put_object_on o.0 key v).on s }

  put_named_on : (place : Place) (x : List ℕ) (v : Value) → On Putting (put_named place x v) (put_named place x v)
  unfolding put_named
  put_named_on (in_record i) x v = record { on = λ s. (as_putting_on (assigned_to_on (binding_at s.records i x) x i v)).on s }
  put_named_on on_global x v = record { on = λ s. (put_object_on global_object.0 x v).on s }
  put_named_on nowhere x v = record { on = λ s. (throw_on Putting _).on s }

  put_value_on : (n : Reference) (v : Value) → On Putting (put_value n v) (put_value n v)
  unfolding put_value
  put_value_on (of_name x place) v = put_named_on place x v
  put_value_on (of_property base key) v = put_property_on base key v

  -- a deletion
  removed_if_on : (configurable : Bool) (o : ℕ) (key : List ℕ) → On Value (removed_if configurable o key) (removed_if configurable o key)
  unfolding removed_if
  removed_if_on true o key = record { on = λ s. goes }
  removed_if_on false o key = record { on = λ s. (throw_on Value _).on s }

  removed_own_on : (p : Option Property) (o : ℕ) (key : List ℕ) → On Value (removed_own p o key) (removed_own p o key)
  unfolding removed_own
  removed_own_on None o key = record { on = λ s. goes }
  removed_own_on (Some p) o key = record { on = λ s. (removed_if_on p.marks.configurable o key).on s }

  removed_of_primitive_on : (own : Option Primitive) → On Value (removed_of_primitive own) (removed_of_primitive own)
  unfolding removed_of_primitive
  removed_of_primitive_on None = record { on = λ s. goes }
  removed_of_primitive_on (Some v) = record { on = λ s. (throw_on Value _).on s }

  remove_on : (n : Reference) → On Value (remove n) (remove n)
  unfolding remove
  remove_on (of_name x place) = record { on = λ s. (throw_on Value _).on s }
  remove_on (of_property (value.Primitive p) key) = record { on = λ s. (removed_of_primitive_on (own_value_of p key)).on s }
  remove_on (of_property (value.Object o) key) = record { on = λ s. (removed_own_on (own_in key (slice_get s.heap o.0)) o.0 key).on s }

  -- ---- acts

  needed_on : (there : Bool) (v : Value) → On Value (needed there v) (needed there v)
  unfolding needed
  needed_on true v = record { on = λ s. goes }
  needed_on false v = record { on = λ s. (throw_on Value _).on s }

  has_on : (key : List ℕ) (v : Value) → On Value (has key v) (has key v)
  unfolding has
  has_on key (value.Primitive p) = record { on = λ s. goes }
  has_on key (value.Object o) = record { on = λ s. goes }

  make_on : (parts : List (Part × List ℕ)) (vs : List Value) → On Value (make_object parts vs) (make_object parts vs)
  unfolding make_object
  make_on parts vs = record { on = λ s. goes }

  make_array_on : (places : List ℕ) (n : ℕ) (vs : List Value) → On Value (make_array places n vs) (make_array places n vs)
  unfolding make_array
  make_array_on places n vs = record { on = λ s. goes }

  -- on an object
  object_on : {X : Type 0} (v : Value) (f g : ℕ → P X) → ((o : ℕ) → On X (f o) (g o)) → On X (on_object v f) (on_object v g)
  unfolding on_object
  object_on {X} (value.Primitive p) f g h = record { on = λ s. (throw_on X _).on s }
  object_on (value.Object o) f g h = record { on = λ s. (h o.0).on s }

  -- a definition
  define_by_on : (o : ℕ) (key : List ℕ) (p : Option Property) → On Defining (define_by o key p) (define_by o key p)
  unfolding define_by
  define_by_on o key None = record { on = λ s. (throw_on Defining _).on s }
  define_by_on o key (Some p) = record { on = λ s. goes }

  define_given_on : (p : PlainObject) (o : ℕ) (key : List ℕ) (marks : GivenMarks) (shape : Shape) (body : Option GivenBody) → On Defining (define_given p o key marks shape body) (define_given p o key marks shape body)
  unfolding define_given
  define_given_on p o key marks shape None = record { on = λ s. (throw_on Defining _).on s }
  define_given_on p o key marks shape (Some body) = record { on = λ s. (choose_longer (is_length p.class key && shape.has_value) (record { on = λ t. goes }) (define_by_on o key _)).on s }

  define_in_on : (p : Option PlainObject) (o : ℕ) (key : List ℕ) (marks : GivenMarks) (shape : Shape) (v get set : Value) → On Defining (define_in p o key marks shape v get set) (define_in p o key marks shape v get set)
  unfolding define_in
  define_in_on None o key marks shape v get set = record { on = λ s. (throw_on Defining _).on s }
  define_in_on (Some p) o key marks shape v get set = record { on = λ s. (define_given_on p o key marks shape (given_body s.heap marks shape v get set)).on s }

  defining_on : (key : List ℕ) (marks : GivenMarks) (shape : Shape) (base v get set : Value) → On Defining (defining key marks shape base v get set) (defining key marks shape base v get set)
  unfolding defining
  defining_on key marks shape base v get set = object_on base _ _ (λ o. record { on = λ s. (define_in_on (slice_get s.heap o) o key marks shape v get set).on s })

  -- the `length` of an array is given a number
  ended_at_on : (stays : Option ℕ) → On Value (ended_at stays) (ended_at stays)
  unfolding ended_at
  ended_at_on None = record { on = λ s. goes }
  ended_at_on (Some i) = record { on = λ s. (throw_on Value _).on s }

  set_length_to_on : (o n : ℕ) (q : PlainObject) (p : Option Property) → On Value (set_length_to o n q p) (set_length_to o n q p)
  unfolding set_length_to cut_length
  set_length_to_on o n q None = record { on = λ s. (throw_on Value _).on s }
  set_length_to_on o n q (Some p) = record { on = λ s. (ended_at_on _).on _ }

  set_length_in_on : (p : Option PlainObject) (o : ℕ) (marks : GivenMarks) (n : ℕ) → On Value (set_length_in p o marks n) (set_length_in p o marks n)
  unfolding set_length_in
  set_length_in_on None o marks n = record { on = λ s. (throw_on Value _).on s }
  set_length_in_on (Some p) o marks n = record { on = λ s. (set_length_to_on o n p _).on s }

  set_length_on : (o : ℕ) (marks : GivenMarks) (n : ℕ) → On Value (set_length o marks n) (set_length o marks n)
  unfolding set_length
  set_length_on o marks n = record { on = λ s. (set_length_in_on (slice_get s.heap o) o marks n).on s }

  -- a number, or the run leaves
  numbered_by_on : (r : Result Number LeftNumbers) → On Number (numbered_by r) (numbered_by r)
  unfolding numbered_by
  numbered_by_on (Ok n) = record { on = λ s. goes }
  numbered_by_on (Err e) = record { on = λ s. ends }

  numbered_on : (v : Value) → On Number (numbered v) (numbered v)
  unfolding numbered
  numbered_on v = numbered_by_on (number_in v)

  given_count_on : (b : Bool) (n : ℕ) (f g : ℕ → P Value) → ((n : ℕ) → On Value (f n) (g n)) → On Value (given_count b n f) (given_count b n g)
  unfolding given_count
  given_count_on true n f g h = record { on = λ s. (h n).on s }
  given_count_on false n f g h = record { on = λ s. (throw_on Value _).on s }

  -- a new object, the own keys of one, and a bound function
  make_new_on : (c : Class) (proto : Option ObjId) → On Value (make_new c proto) (make_new c proto)
  unfolding make_new
  make_new_on c proto = record { on = λ s. goes }

  make_new_by_on : (c : Class) (v : Value) → On Value (make_new_by c v) (make_new_by c v)
  unfolding make_new_by
  make_new_by_on c v = record { on = λ s. (make_new_on c _).on s }

  list_keys_on : (all : Bool) (o : ℕ) → On Value (list_keys all o) (list_keys all o)
  unfolding list_keys
  list_keys_on all o = record { on = λ s. goes }

  bind_to_on : (is_function : Bool) (target this : Value) (args : List Value) → On Value (bind_to is_function target this args) (bind_to is_function target this args)
  unfolding bind_to
  bind_to_on true (value.Object o) this args = record { on = λ s. goes }
  bind_to_on true (value.Primitive p) this args = record { on = λ s. (throw_on Value _).on s }
  bind_to_on false target this args = record { on = λ s. (throw_on Value _).on s }

  -- where origins are declared
  if_origins_on : (declared : Bool) {m n : P Value} → On Value m n → On Value (if_origins declared m) (if_origins declared n)
  unfolding if_origins
  if_origins_on true l = record { on = λ s. l.on s }
  if_origins_on false l = record { on = λ s. ends }

  -- the keys of a value
  list_on : (list : Option (List (List ℕ))) (next last : List (List ℕ) → P (Unit {0})) → ((keys : List (List ℕ)) → On (Unit {0}) (next keys) (last keys)) → On (Unit {0}) (with_list list next) (with_list list last)
  unfolding with_list
  list_on None next last h = record { on = λ s. ends }
  list_on (Some keys) next last h = record { on = λ s. (h keys).on s }

  -- what may leave a loop
  left_on : (b : Bool) (j : Jump) (s : State) → Longer {X = Unit {0}} out_of_turns (more_turns_in k) (choose b (Goes tt s) (Jumps j s)) (choose b (Goes tt (more_turns_in k s)) (Jumps j (more_turns_in k s)))
  left_on true j s = goes
  left_on false j s = jumps

  -- the end of a loop
  round_on : (n : ℕ) (o p : Outcome Halt Jump (Unit {0}) State) → Longer out_of_turns (more_turns_in k) o p → Longer out_of_turns (more_turns_in k) (ended_round n o) (ended_round n p)
  unfolding ended_round
  round_on n _ _ wants = wants
  round_on n _ _ goes = goes
  round_on n _ _ (jumps {j = j} {s = s}) = left_on (leaves_it n j.exit) j s
  round_on n _ _ ends = ends

  -- ---- functions

  -- one is made
  function_on : (functions : List FunctionCode) (f : Function) (i : ℕ) → On Value (make_function functions f i) (make_function functions f i)
  unfolding make_function
  function_on functions f i = record { on = λ s. goes }

  -- what is called is entered alike
  abbrev Alike : Enters → Enters → Type 0
  Alike E D = EnteringLinked (Unit {0}) (λ w v u. v ≡ u) (λ w e d. e ≡ d) (λ t w m n. On (Res Value t) m n) E D

  -- a call ends
  returned_on : (b : Bool) (j : Jump) (s : State) → Longer {X = Value} out_of_turns (more_turns_in k) (choose b (Goes j.value s) (Jumps j s)) (choose b (Goes j.value (more_turns_in k s)) (Jumps j (more_turns_in k s)))
  returned_on true j s = goes
  returned_on false j s = jumps

  call_ends_on : (o p : Outcome Halt Jump (Unit {0}) State) → Longer out_of_turns (more_turns_in k) o p → Longer out_of_turns (more_turns_in k) (ended_call o) (ended_call p)
  unfolding ended_call
  call_ends_on _ _ wants = wants
  call_ends_on _ _ goes = goes
  call_ends_on _ _ (jumps {j = j} {s = s}) = returned_on (is_return j.exit) j s
  call_ends_on _ _ ends = ends

  -- what is called is entered
  entered_on : (functions : List FunctionCode) (callee : Callee) (f this : Value) (args : List Value) {E D : Enters} → Alike E D → On Value (entered functions callee f this args E) (entered functions callee f this args D)
  unfolding entered with_call
  entered_on functions not_callable f this args h = record { on = λ s. (throw_on Value _).on s }
  entered_on functions empty_callee f this args h = record { on = λ s. goes }
  entered_on functions (of_built_in which) f this args h = record { on = λ s. (h.built_in tt which false _ _ (same_rels _)).on s }
  entered_on functions (of_script number code place) f this args h = record { on = λ s. call_ends_on _ _ ((h.body tt _ _ _ refl).on (with_call functions number code place this args s)) }

  call_target_on : (functions : List FunctionCode) (target : Target Value) (this : Value) (args : List Value) {E D : Enters} → Alike E D → On Value (call_target functions target this args E) (call_target functions target this args D)
  unfolding call_target
  call_target_on functions target this args h = record { on = λ s. (entered_on functions (callee_at functions s.heap target.function) _ _ _ h).on s }

  call_on : (functions : List FunctionCode) (f this : Value) (args : List Value) {E D : Enters} → Alike E D → On Value (call functions f this args E) (call functions f this args D)
  unfolding call
  call_on functions (value.Primitive p) this args h = record { on = λ s. (throw_on Value _).on s }
  call_on functions (value.Object o) this args h = record { on = λ s. (call_target_on functions (target_of s.heap o.0) this args h).on s }

  -- an object is constructed
  construction_ends_on : (fresh : ℕ) (o p : Outcome Halt Jump Value State) → Longer out_of_turns (more_turns_in k) o p → Longer out_of_turns (more_turns_in k) (ended_construction fresh o) (ended_construction fresh p)
  unfolding ended_construction
  construction_ends_on fresh _ _ wants = wants
  construction_ends_on fresh _ _ goes = goes
  construction_ends_on fresh _ _ jumps = jumps
  construction_ends_on fresh _ _ ends = ends

  constructed_on : (set : BuiltIns) (functions : List FunctionCode) (callee : Callee) (f : ℕ) (args : List Value) {E D : Enters} → Alike E D → On Value (constructed set functions callee f args E) (constructed set functions callee f args D)
  unfolding constructed
  constructed_on set functions not_callable f args h = record { on = λ s. (throw_on Value _).on s }
  constructed_on set functions empty_callee f args h = record { on = λ s. (throw_on Value _).on s }
  constructed_on set functions (of_built_in which) f args h = record { on = λ s. (choose_longer (constructs_in set which) (h.built_in tt which true _ _ (same_rels _)) (throw_on Value _)).on s }
  constructed_on set functions (of_script number code place) f args h =
      record { on = λ s. construction_ends_on (length s.heap) _ _ ((entered_on functions (of_script number code place) _ _ args h).on (with_fresh (prototype_of s.heap f) s)) }

  construct_target_on : (set : BuiltIns) (functions : List FunctionCode) (target : Target Value) (args : List Value) {E D : Enters} → Alike E D → On Value (construct_target set functions target args E) (construct_target set functions target args D)
  unfolding construct_target
  construct_target_on set functions target args h = record { on = λ s. (constructed_on set functions (callee_at functions s.heap target.function) target.function _ h).on s }

  construct_on : (set : BuiltIns) (functions : List FunctionCode) (f : Value) (args : List Value) {E D : Enters} → Alike E D → On Value (construct set functions f args E) (construct set functions f args D)
  unfolding construct
  construct_on set functions (value.Primitive p) args h = record { on = λ s. (throw_on Value _).on s }
  construct_on set functions (value.Object o) args h = record { on = λ s. (construct_target_on set functions (target_of s.heap o.0) args h).on s }

  -- ---- getters, setters, and the conversion of objects

  access_on : (functions : List FunctionCode) (a : Access) {E D : Enters} → Alike E D → On Value (entered_access functions E a) (entered_access functions D a)
  unfolding entered_access
  access_on functions (has_value v) h = record { on = λ s. goes }
  access_on functions (has_getter f this) h = record { on = λ s. (call_on functions (value.Object f) this [] h).on s }

  converted_on : (kind : Hint) (v : Value) {E D : Enters} → Alike E D → On Value (converted E kind v) (converted D kind v)
  unfolding converted
  converted_on kind (value.Primitive p) h = record { on = λ s. goes }
  converted_on kind (value.Object o) h = record { on = λ s. (h.conversion tt kind _ _ refl).on s }

  -- a value for the `length` of an array
  with_count_on : (v : Value) (f g : ℕ → P Value) → ((n : ℕ) → On Value (f n) (g n)) → {E D : Enters} → Alike E D → On Value (with_count E v f) (with_count D v g)
  unfolding with_count
  with_count_on v f g next h = bind_longer _ _ (bind_longer _ _ (converted_on hint.Number v h) numbered_on) λ m.
      bind_longer _ _ (bind_longer _ _ (converted_on hint.Number v h) numbered_on) λ n. given_count_on (is_count m n) (count_of m) f g next

  defining_ends_on : (v : Value) (d : Defining) {E D : Enters} → Alike E D → On Value (entered_defining E v d) (entered_defining D v d)
  unfolding entered_defining
  defining_ends_on v is_defined h = record { on = λ s. goes }
  defining_ends_on v (has_length_given o marks) h = record { on = λ s. (with_count_on v _ _ (set_length_on o marks) h).on s }

  putting_on : (functions : List FunctionCode) (v : Value) (p : Putting) {E D : Enters} → Alike E D → On (Unit {0}) (entered_putting functions E v p) (entered_putting functions D v p)
  unfolding entered_putting
  putting_on functions v is_put h = record { on = λ s. goes }
  putting_on functions v (has_setter f this) h = record { on = λ s. (bind_longer _ _ (call_on functions (value.Object f) this (v ∷ []) h) (λ u. record { on = λ t. goes })).on s }
  putting_on functions v (has_length o) h = record { on = λ s. (bind_longer _ _ (with_count_on v _ _ (set_length_on o _) h) (λ u. record { on = λ t. goes })).on s }

  converted_if_on : (converts : Bool) (v : Value) {E D : Enters} → Alike E D → On Value (converted_if converts E v) (converted_if converts D v)
  unfolding converted_if
  converted_if_on true v h = record { on = λ s. (converted_on hint.Default v h).on s }
  converted_if_on false v h = record { on = λ s. goes }

  -- ---- `instanceof`

  is_instance_on : (o : ℕ) (proto : Value) → On Value (is_instance o proto) (is_instance o proto)
  unfolding is_instance
  is_instance_on o (value.Primitive p) = record { on = λ s. (throw_on Value _).on s }
  is_instance_on o (value.Object proto) = record { on = λ s. goes }

  instance_of_on : (functions : List FunctionCode) (v : Value) (f : ℕ) {E D : Enters} → Alike E D → On Value (instance_of functions v f E) (instance_of functions v f D)
  unfolding instance_of
  instance_of_on functions (value.Primitive p) f h = record { on = λ s. goes }
  instance_of_on functions (value.Object o) f h =
      record { on = λ s. (bind_longer _ _ (bind_longer _ _ (property_on _ prototype_name) (λ a. access_on functions a h)) (λ proto. is_instance_on o.0 proto)).on s }

  instance_if_on : (functions : List FunctionCode) (is_function : Bool) (v : Value) (f : ℕ) {E D : Enters} → Alike E D → On Value (instance_if functions is_function v f E) (instance_if functions is_function v f D)
  unfolding instance_if
  instance_if_on functions true v f h = record { on = λ s. (instance_of_on functions v (target_of s.heap f).function h).on s }
  instance_if_on functions false v f h = record { on = λ s. (throw_on Value _).on s }

  instance_on : (functions : List FunctionCode) (v f : Value) {E D : Enters} → Alike E D → On Value (instance functions v f E) (instance functions v f D)
  unfolding instance
  instance_on functions v (value.Primitive p) h = record { on = λ s. (throw_on Value _).on s }
  instance_on functions v (value.Object f) h = record { on = λ s. (instance_if_on functions (is_function_in (slice_get s.heap f.0)) v f.0 h).on s }

  -- ---- jumps

  jumps_on : (to : Option (Exit × Unit {0})) (v : Value) → On (Unit {0}) (jumps_to to v) (jumps_to to v)
  unfolding jumps_to
  jumps_on None v = record { on = λ s. goes }
  jumps_on (Some to) v = record { on = λ s. jumps }

  -- what is thrown is handled
  caught_on : (b : Bool) (f g : Value → P (Unit {0})) → ((v : Value) → On (Unit {0}) (f v) (g v)) → (j : Jump) (s : State)
      → Longer out_of_turns (more_turns_in k) (choose b (f j.value s) (Jumps j s)) (choose b (g j.value (more_turns_in k s)) (Jumps j (more_turns_in k s)))
  caught_on true f g h j s = (h j.value).on s
  caught_on false f g h j s = jumps

  handled_on : (handles : Bool) (f g : Value → P (Unit {0})) → ((v : Value) → On (Unit {0}) (f v) (g v)) → (o p : Outcome Halt Jump (Unit {0}) State) → Longer out_of_turns (more_turns_in k) o p
      → Longer out_of_turns (more_turns_in k) (handled_throw handles f o) (handled_throw handles g p)
  unfolding handled_throw
  handled_on handles f g h _ _ wants = wants
  handled_on handles f g h _ _ goes = goes
  handled_on handles f g h _ _ (jumps {j = j} {s = s}) = caught_on (handles && is_throw j.exit) f g h j s
  handled_on handles f g h _ _ ends = ends

  -- and what is done last
  finished_on : (m n : P (Unit {0})) → On (Unit {0}) m n → (o p : Outcome Halt Jump (Unit {0}) State) → Longer out_of_turns (more_turns_in k) o p → Longer out_of_turns (more_turns_in k) (finished m o) (finished n p)
  unfolding finished
  finished_on m n l _ _ wants = wants
  finished_on m n l _ _ (goes {s = s}) = l.on s
  finished_on m n l _ _ (jumps {j = j} {s = s}) = then_longer (λ u t. Jumps j t) (λ u t. Jumps j t) (l.on s) (λ u. record { on = λ t. jumps })
  finished_on m n l _ _ ends = ends

  attempt_on : (handles finishes : Bool) {m m' n n' : P (Unit {0})} (f g : Value → P (Unit {0})) → On (Unit {0}) m m' → ((v : Value) → On (Unit {0}) (f v) (g v)) → On (Unit {0}) n n'
      → On (Unit {0}) (attempt handles finishes m f n) (attempt handles finishes m' g n')
  unfolding attempt
  attempt_on handles finishes f g l h q = record { on = λ s. finished_on _ _ (choose_longer finishes q (record { on = λ t. goes })) _ _ (handled_on handles f g h _ _ (l.on s)) }

  module _ (tables : Tables) (inputs : Given) where
    -- a directive
    raised_on : (os : Option (List ℕ)) → On (Unit {0}) (raised_by tables inputs os) (raised_by tables inputs os)
    unfolding raised_by
    raised_on None = record { on = λ s. ends }
    raised_on (Some os) = record { on = λ s. goes }

    -- a line is read
    read_on : (i : Option ℕ) → On Value (read_channel tables inputs i) (read_channel tables inputs i)
    unfolding read_channel
    read_on None = record { on = λ s. ends }
    read_on (Some i) = record { on = λ s. goes }

    -- a text is printed
    print_text_on : (i : ℕ) (v : Value) → On Value (print_text tables inputs i v) (print_text tables inputs i v)
    unfolding print_text
    print_text_on i (value.Object o) = record { on = λ s. ends }
    print_text_on i (value.Primitive Undefined) = record { on = λ s. ends }
    print_text_on i (value.Primitive Null) = record { on = λ s. ends }
    print_text_on i (value.Primitive (prims.Bool b)) = record { on = λ s. ends }
    print_text_on i (value.Primitive (Num n)) = record { on = λ s. ends }
    print_text_on i (value.Primitive (Str text)) = record { on = λ s. goes }

    -- on a channel that there may be
    print_on : (i : Option ℕ) (v : Value) → On Value (print_channel tables inputs i v) (print_channel tables inputs i v)
    unfolding print_channel
    print_on None v = record { on = λ s. ends }
    print_on (Some i) v = record { on = λ s. (print_text_on i v).on s }

    -- with origins
    origins_on : (origins : List ℕ) {m n : P Value} → On Value m n → On Value (with_origins tables inputs origins m) (with_origins tables inputs origins n)
    unfolding with_origins
    origins_on origins l = record { on = λ s. (if_origins_on (are_origins (length tables.origins) origins) l).on s }

    act_on : (f : Act) (vs : List Value) → On Value (act tables inputs f vs) (act tables inputs f vs)
    unfolding act
    act_on (object_of parts) vs = make_on parts vs
    act_on (array_of places n) vs = make_array_on places n vs
    act_on base_needed vs = needed_on _ _
    act_on object_needed vs = needed_on _ _
    act_on has_key vs = has_on _ _
    act_on (throws_error kind) vs = throw_on Value kind
    act_on (own_property part key) vs = object_on _ _ _ (λ o. record { on = λ s. goes })
    act_on (own_keys all) vs = object_on _ _ _ (λ o. list_keys_on all o)
    act_on prototype_of_object vs = object_on _ _ _ (λ o. record { on = λ s. goes })
    act_on is_extensible vs = object_on _ _ _ (λ o. record { on = λ s. goes })
    act_on prevent_extensions vs = object_on _ _ _ (λ o. record { on = λ s. goes })
    act_on (new_object c false) vs = make_new_on c _
    act_on (new_object c true) vs = make_new_by_on c _
    act_on bind vs = record { on = λ s. (bind_to_on (is_function_at s.heap _) _ _ _).on s }
    act_on read_line vs = read_on _
    act_on print_line vs = print_on _ _
    act_on (join_label origins) vs = origins_on origins (record { on = λ s. goes })
    act_on (raise_structure origins) vs = origins_on origins (object_on _ _ _ (λ o. record { on = λ s. goes }))
    act_on (raise_existence key origins) vs = origins_on origins (object_on _ _ _ (λ o. record { on = λ s. goes }))

    module _ (set : BuiltIns) (functions : List FunctionCode) where
      -- the unlabelled meaning
      abbrev A : Ops
      A = plain tables inputs set functions

      -- the unlabelled meaning, linked with itself
      pub lasting : Link (plain tables inputs set functions) (plain tables inputs set functions)
      lasting = record {
        W = Unit {0};
        Le = λ v w. Unit {0};
        RV = λ w v u. v ≡ u;
        RN = λ w n m. n ≡ m;
        RP = λ w i j. i ≡ j;
        RE = λ w e d. e ≡ d;
        Lift = λ t w m n. On (Res Value t) m n;
        Inside = λ v w. Unit {0};
        inside_v = λ p r. r;
        le_refl = λ w. tt;
        le_trans = λ p q. tt;
        more_v = λ p r. r;
        more_n = λ p r. r;
        more_p = λ p r. r;
        more_e = λ p r. r;
        place_of = λ {e = e} r. subst (λ (x : Env (Unit {0})). e.place ≡ x.place) r refl;
        ret_one = λ w. record { on = λ s. goes };
        ret_value = λ r. at_equal ret ret r (record { on = λ s. goes });
        bind = λ t u {w = w} f g l h. bind_longer f g l (λ a. h w tt a a (equal_results Value t w a));
        literal = λ w v. refl;
        unary = λ o {v = v} r. at_equal (A.unary o) (A.unary o) r (record { on = λ s. (given_on (unary_of o (seen s.heap v))).on s });
        binary = λ o {v = v} {u = u} {u' = u'} r q. at_equal (λ x. A.binary o x u) (λ x. A.binary o x u') r
            (at_equal (A.binary o v) (A.binary o v) q (given_on (binary_of o v u)));
        primitive = λ kind {v = v} {E = E} {D = D} r h. at_equal (λ x. A.primitive kind x E) (λ x. A.primitive kind x D) r (converted_on kind v h);
        comparable = λ {v = v} {u = u} {u' = u'} {E = E} {D = D} r q h. at_equal (λ x. A.comparable x u E) (λ x. A.comparable x u' D) r
            (at_equal (λ x. A.comparable v x E) (λ x. A.comparable v x D) q (converted_if_on (converts_beside v u) v h));
        look = λ {w = w} {v = v} f g r h. at_equal (λ x. A.look x f) (λ x. A.look x g) r (record { on = λ s. (h w tt (seen s.heap v)).on s });
        throw = λ {v = v} r. at_equal A.throw A.throw r (record { on = λ s. jumps });
        leave = λ t w name. record { on = λ s. ends };
        act = λ a {vs = vs} r. at_equal (A.act a) (A.act a) (rels_equal r) (act_on a vs);
        resolve = λ t {w = w} {i = i} x f g p h. at_equal (λ j. A.resolve t j x f) (λ j. A.resolve t j x g) p (record { on = λ s. (h w tt (resolved s.records s.heap i x) (resolved s.records s.heap i x) refl).on s });
        property = λ r q. ap₂ (λ v u. A.property v u) r q;
        get_value = λ {n = n} {E = E} {D = D} r h. at_equal (λ x. A.get_value x E) (λ x. A.get_value x D) r (bind_longer _ _ (accessed_on n) (λ a. access_on functions a h));
        typeof_value = λ {n = n} {E = E} {D = D} r h. at_equal (λ x. A.typeof_value x E) (λ x. A.typeof_value x D) r (bind_longer _ _ (typeof_on n) (λ a. access_on functions a h));
        put_value = λ {n = n} {v = v} {v' = v'} {E = E} {D = D} r q h. at_equal (λ x. A.put_value x v E) (λ x. A.put_value x v' D) r
            (at_equal (λ x. A.put_value n x E) (λ x. A.put_value n x D) q (bind_longer _ _ (put_value_on n v) (λ p. putting_on functions v p h)));
        remove = λ {n = n} r. at_equal A.remove A.remove r (remove_on n);
        define = λ key marks shape {base = b} {v = v} {g = g} {set = q} {base' = b'} {v' = v'} {g' = g'} {set' = q'} {E = E} {D = D} rb rv rg rq h. at_equal (λ x. A.define key marks shape x v g q E) (λ x. A.define key marks shape x v' g' q' D) rb
            (at_equal (λ x. A.define key marks shape b x g q E) (λ x. A.define key marks shape b x g' q' D) rv (at_equal (λ x. A.define key marks shape b v x q E) (λ x. A.define key marks shape b v x q' D) rg
            (at_equal (λ x. A.define key marks shape b v g x E) (λ x. A.define key marks shape b v g x D) rq (bind_longer _ _ (defining_on key marks shape b v g q) (λ d. defining_ends_on v d h)))));
        fork = λ t {w = w} {v = v} {m = m} {n = n} {m' = m'} {n' = n'} r l q. at_equal (λ x. A.fork t x m n) (λ x. A.fork t x m' n') r (choose_longer (truth v) (l w tt) (q w tt));
        round = λ {w = w} turn labels {e = e} f g r h. at_equal (λ d. A.round turn labels d f) (λ d. A.round turn labels d g) r
            (record { on = λ s. round_on (length e.around) _ _ ((h w tt (with_around turn labels tt e) (with_around turn labels tt e) refl).on s) });
        again = λ {v = v} {m = m} {n = n} {m' = m'} {n' = n'} r l q. at_equal (λ x. A.again x m n) (λ x. A.again x m' n') r (choose_longer (truth v) l q);
        function = λ f {i = i} p. at_equal (A.function f) (A.function f) p (function_on functions f i);
        jump = λ leaving {e = e} {v = v} {v' = v'} r q. at_equal (λ d. A.jump leaving d v) (λ d. A.jump leaving d v') r (at_equal (A.jump leaving e) (A.jump leaving e) q (jumps_on (aimed tt leaving e) v));
        raise = λ leaving {e = e} names r. at_equal (λ d. A.raise leaving d names) (λ d. A.raise leaving d names) r (raised_on (named_origins tables inputs names));
        this_of = λ r. ap A.this_of r;
        instance = λ {v = v} {f = f} {f' = f'} {E = E} {D = D} r q h. at_equal (λ x. A.instance x f E) (λ x. A.instance x f' D) r (at_equal (λ x. A.instance v x E) (λ x. A.instance v x D) q (instance_on functions v f h));
        declare = λ {w = w} name {v = v} {v' = v'} {e = e} {d = d} f g r q h. at_equal (λ x. A.declare name x e f) (λ x. A.declare name x d g) r (at_equal (λ d. A.declare name v d f) (λ d. A.declare name v d g) q
            (record { on = λ s. (h w tt (with_place (length s.records) e) (with_place (length s.records) e) refl).on _ }));
        call = λ {f = f} {this = b} {f' = f'} {this' = b'} {vs = vs} {us = us} {E = E} {D = D} r q rs h. at_equal (λ x. A.call x b vs E) (λ x. A.call x b' us D) r (at_equal (λ x. A.call f x vs E) (λ x. A.call f x us D) q
            (at_equal (λ xs. A.call f b xs E) (λ xs. A.call f b xs D) (rels_equal rs) (call_on functions f b vs h)));
        construct = λ {f = f} {f' = f'} {vs = vs} {us = us} {E = E} {D = D} r rs h. at_equal (λ x. A.construct x vs E) (λ x. A.construct x us D) r
            (at_equal (λ xs. A.construct f xs E) (λ xs. A.construct f xs D) (rels_equal rs) (construct_on set functions f vs h));
        attempt = λ {w = w} handles finishes f g l h q. attempt_on handles finishes f g (l w tt) (λ v. h w tt v v refl) (q w tt);
        keys = λ {w = w} {v = v} f g r h. at_equal (λ x. A.keys x f) (λ x. A.keys x g) r (record { on = λ s. (list_on (key_list s.heap v) f g (λ keys. h w tt keys)).on s });
      }

      -- a program, to a depth and a larger one
      program_lasts : (may : Bool) (program : Statements) (n m : ℕ) → n ≤ m → (e : Env (Unit {0})) (s : State) → Longer out_of_turns (more_turns_in k) (program_step (timed tables inputs set functions) set n may program e s) (program_step (timed tables inputs set functions) set m may program e (more_turns_in k s))
      unfolding lasting
      program_lasts may program n m le e s =
          (program_longer (timed tables inputs set functions) (timed tables inputs set functions) lasting (λ w. record { on = λ s. spend_on s.turns s }) set (λ t w x. record { on = λ s. wants }) n m le may program {w = tt} {e = e} {d = e} refl).on s

-- what a run prints and how it ends
run_lasts : (k : ℕ) (o p : Outcome Halt Jump (Unit {0}) State) → Longer out_of_turns (more_turns_in k) o p → ((run_of o).ending ≡ halted out_of_turns → ⊥) → run_of p ≡ run_of o
run_lasts k _ _ wants out = absurd (out refl)
run_lasts k _ _ goes out = refl
run_lasts k _ _ jumps out = refl
run_lasts k _ _ ends out = refl

-- with k more turns
lasts : (set : BuiltIns) (tables : Tables) (inputs : Given) (program : Statements) (few k : ℕ) → ((plain_run set tables inputs program few).ending ≡ halted out_of_turns → ⊥)
    → plain_run set tables inputs program (beyond k few) ≡ plain_run set tables inputs program few
unfolding plain_run
lasts set tables inputs program few k out = run_lasts k _ _ (program_lasts k tables inputs set (functions_of program) (may_declare set program) program few (beyond k few) (few_beyond k few) (outermost_env tt) (start tables inputs set program few)) out

-- more turns change no run that ends otherwise
pub more_turns : MoreTurns
more_turns set tables inputs program few many le out = subst (λ n. plain_run set tables inputs program n ≡ plain_run set tables inputs program few) (beyond_few few many le) (lasts set tables inputs program few (many - few) out)
