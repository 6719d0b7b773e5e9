-- The unlabelled meaning: the evaluator over values without labels.
use Rattle.std.specs.Prelude.{ℕ, zero, suc, pos, ◌+◌, ◌&&◌, List, [], ◌∷◌, ◌++◌, map, Bool, true, false, length, replicate, Option, Some, None, Result, Ok, Err, codes, slice_get, slice_index, slice_set, nat_eq}
use Rattle.std.specs.List.{position, list_any}
use Rattle.std.specs.Option.{is_some, option_map}
use Rattle.origin_labels.specs.Names.{same_name}
use Rattle.flow_policy.specs.declared.policy.Channel.{Channel}
use Rattle.flow_policy.specs.Policies.{Tables}
use Rattle.flow_policy.specs.Inputs.{Given, given_on}
use Rattle.js_number.specs.declared.int.LeftNumbers.{LeftNumbers}
use Rattle.js_number.specs.declared.num.Num.{Num as Number}
use Rattle.js_number.specs.declared.num.Num.TheVariants.{Nan, Int}
use Rattle.js_number.specs.declared.primitive.Primitive.{Primitive}
use Rattle.js_number.specs.declared.primitive.Primitive.TheVariants.{Undefined, Null, Num, Str}
use Rattle.js_number.specs.declared.primitive.Primitive.TheVariants as prims
use Rattle.js_number.specs.Bits.{uint32}
use Rattle.js_number.specs.Number.{integer_of}
use Rattle.js_number.specs.Compare.{equal_numbers}
use Rattle.js_number.specs.Conversions.{text_of, number_of}
use Rattle.js_values.specs.declared.value.Value.{Value}
use Rattle.js_values.specs.declared.value.Value.TheVariants as value
use Rattle.js_values.specs.declared.property.Body.{Body}
use Rattle.js_values.specs.declared.property.Body.TheVariants.{Data, Accessor}
use Rattle.js_values.specs.declared.inner.Class.TheVariants as class
use Rattle.js_values.specs.declared.ids.ObjId.{ObjId}
use Rattle.js_values.specs.Arrays.{length_key, is_length}
use Rattle.js_values.specs.Objects.{Property, PlainObject, plain as plain_inner, own, fresh_plain}
use Rattle.js_values.specs.Records.{Binding, Record, rebound, lookup, bound_in}
use Rattle.js_values.specs.Walks.{plain_chain, plain_find}
use Rattle.js_ast.specs.Trees.{Function, name_of, body_of, Statements}
use Rattle.js_ast.specs.Functions.{FunctionCode, functions_of}
use Rattle.es_meaning.specs.Outcomes.{Exit, throws, returns, leaves, Halt, left, out_of_turns, Ending, done, threw, halted, Outcome, Goes, Jumps, Ends, From, ret, and_then, ◌>>=◌}
use Rattle.es_meaning.specs.Environments.{Env, with_around, with_place, called_env, aimed}
use Rattle.native_protocol.specs.declared.hint.Hint.TheVariants as hint
use Rattle.js_values.specs.declared.inner.Class.{Class}
use Rattle.es_meaning.specs.Operations.{Res, Part, Shape, Act, object_of, array_of, base_needed, object_needed, has_key, throws_error, own_property, own_keys, prototype_of_object, is_extensible, prevent_extensions, new_object, bind, read_line, print_line, join_label, raise_structure, raise_existence, Entering, Ops}
use Rattle.es_meaning.specs.Operators.{is_object, truth, converts_beside, unary_of, binary_of, leaves_numbers}
use Rattle.es_meaning.specs.Declared.{declared_statements, declared_functions}
use Rattle.es_meaning.specs.Naming.{names_in_statements}
use Rattle.es_meaning.specs.Functions.{env_id, property_with, function_objects, objects_of, references_of, behind_functions, closes_over, own_name, Callee, not_callable, empty_callee, of_script, of_built_in, Target, this_or, callee_of, arguments_object, binds, this_name, name_text, entry_record, made_if}
use Rattle.es_meaning.specs.Evaluation.{Timed, program_step}
use Rattle.es_meaning.specs.Objects as objects
use Rattle.es_meaning.specs.Objects.{Plan, writes, adds, refuses, calls, can_put, made_by_script, declared_by_script, defined, with_rows, with_object, with_defined, is_length_in, Shortened, deleted_down, cut_to, own_in, enumerable_keys}
use Rattle.native_protocol.specs.declared.hint.Hint.{Hint}
use Rattle.native_protocol.specs.declared.request.ErrorKind.{ErrorKind}
use Rattle.native_protocol.specs.declared.request.ErrorKind.TheVariants as kinds
use Rattle.native_protocol.specs.declared.request.GivenMarks.{GivenMarks}
use Rattle.native_protocol.specs.declared.request.Seen.{Seen}
use Rattle.native_protocol.specs.declared.request.Seen.TheVariants as seen_as
use Rattle.es_meaning.specs.BuiltIns.{BuiltIns}
use Rattle.es_meaning.specs.Definitions.{GivenBody, a_value, value_in, setter_in}
use Rattle.es_meaning.specs.Primitives.{own_value_of, prototype_of_primitive, chain_from}
use Rattle.es_meaning.specs.Holders.{built_heap, constructs_in}
use Rattle.es_meaning.specs.Start.{id, object_prototype, global_object, engine_error, shown}
use Rattle.es_meaning.specs.Requested.{literal_object, is_function_in, is_function_at, part_or_undefined, given_body, behind_definition, behind_length, no_marks, array_object, array_of_texts, listed, made_of, prototype_in, extensible_in, class_prototype, prototype_given, standing_or_default, bound_count, bound_object, target_of, are_origins}

-- ---- what both meanings speak of

-- a printed line: its channel's name and its text
pub record Line : Type 0 where
  pub channel : List ℕ
  pub text : List ℕ

-- the names by which a run leaves: a channel, and an origin, that the policy doesn't have
abbrev pub leaves_channels : List ℕ
leaves_channels = codes "channel"

abbrev pub leaves_origins : List ℕ
leaves_origins = codes "origin"

-- and by which it leaves where a primitive value would be wrapped in an object: here by `for in`, which asks for its keys, and in built-ins by ToObject
abbrev pub leaves_wrappers : List ℕ
leaves_wrappers = codes "wrapper"

-- an argument, or undefined where it is missing
abbrev pub argument_or : {V : Type 0} → V → ℕ → List V → V
argument_or missing n [] = missing
argument_or missing zero (v ∷ vs) = v
argument_or missing (suc n) (v ∷ vs) = argument_or missing n vs

-- the arguments behind the first
abbrev pub others : {V : Type 0} → List V → List V
others [] = []
others (v ∷ vs) = vs

-- the number of the channel with this name
abbrev pub number_of_channel : List ℕ → List Channel → Option ℕ
number_of_channel name channels = position (λ c. same_name c.name name) channels

-- the number of the channel that a value names, which must be a text
abbrev pub channel_of : List Channel → Value → Option ℕ
channel_of channels (value.Primitive (Str name)) = number_of_channel name channels
channel_of channels _ = None

-- the number of the origin that a value names, which must be a text
abbrev pub origin_of : List (List ℕ) → Value → Option ℕ
origin_of origins (value.Primitive (Str name)) = position (λ o. same_name o name) origins
origin_of origins _ = None

-- the origins that values name, if each names one
abbrev pub and_origin : Option ℕ → Option (List ℕ) → Option (List ℕ)
and_origin (Some o) (Some os) = Some (o ∷ os)
and_origin _ _ = None

abbrev pub origins_of : List (List ℕ) → List Value → Option (List ℕ)
origins_of origins [] = Some []
origins_of origins (v ∷ vs) = and_origin (origin_of origins v) (origins_of origins vs)

abbrev pub undefined : Value
undefined = value.Primitive Undefined

-- what `read` gives where this line stands next: the line, or undefined past the end
abbrev pub value_read : Option (List ℕ) → Value
value_read (Some text) = value.Primitive (Str text)
value_read None = undefined

-- the positions in the input channels behind a read of the channel with this number: one line on, where there was one
abbrev pub positions_behind : ℕ → Option (List ℕ) → List ℕ → List ℕ
positions_behind i (Some text) positions = slice_set positions i (slice_index positions i + 1)
positions_behind i None positions = positions

-- the line that stands next on the channel with this number
abbrev pub line_at : Given → ℕ → List ℕ → Option (List ℕ)
line_at given i positions = slice_get (given_on given i) (slice_index positions i)

-- the name of the channel with this number
abbrev pub name_at : Option Channel → List ℕ
name_at (Some c) = c.name
name_at None = []

abbrev pub channel_name : List Channel → ℕ → List ℕ
channel_name channels i = name_at (slice_get channels i)

-- one of two
abbrev pub choose : {A : Type 0} → Bool → A → A → A
choose true a b = a
choose false a b = b

-- what can be asked of the object with this number, in a heap of which this says the classes
abbrev pub seen_of : {C : Type 0} → (C → Seen) → Option C → Seen
seen_of look None = seen_as.Prim Undefined
seen_of look (Some c) = look c

-- ---- variables of the outermost code (ECMA-262 10.5): properties of the global object, undefined at first, but where it has one of the name

abbrev pub unless_found : Option (ℕ × Property) → List ℕ → List PlainObject → List PlainObject
unless_found None name heap = objects.add global_object.0 name undefined declared_by_script heap
unless_found (Some f) name heap = heap

abbrev pub with_variable : List ℕ → List PlainObject → List PlainObject
with_variable name heap = unless_found (plain_find name (plain_chain heap global_object.0)) name heap

abbrev pub with_variables : List (List ℕ) → List PlainObject → List PlainObject
with_variables [] heap = heap
with_variables (name ∷ names) heap = with_variables names (with_variable name heap)

-- ---- and its functions, in front of them: each is a property. One that is found along the global object is defined anew where it is configurable, and is
-- given the function where it isn't and that is allowed; else the declaration is refused

abbrev pub with_property : List ℕ → Property → List PlainObject → List PlainObject
with_property name p heap = with_object global_object.0 (λ g. with_rows g (defined name p g.rows)) heap

abbrev pub put_by_plan : Plan → List ℕ → Value → List PlainObject → List PlainObject
put_by_plan writes name v heap = objects.write global_object.0 name v heap
put_by_plan adds name v heap = objects.add global_object.0 name v made_by_script heap
put_by_plan refuses name v heap = heap
put_by_plan (calls f) name v heap = heap

abbrev pub may_hold : Property → Body → Bool
may_hold p (Data v) = p.marks.writable && p.marks.enumerable
may_hold p (Accessor get set) = false

abbrev pub declared_in_place : Bool → List ℕ → Value → List PlainObject → Option (List PlainObject)
declared_in_place true name v heap = Some (put_by_plan (can_put name (plain_chain heap global_object.0)) name v heap)
declared_in_place false name v heap = None

abbrev pub declared_anew : Bool → Property → List ℕ → Value → List PlainObject → Option (List PlainObject)
declared_anew true p name v heap = Some (with_property name (property_with v declared_by_script) heap)
declared_anew false p name v heap = declared_in_place (may_hold p p.body) name v heap

abbrev pub declared_over : Option (ℕ × Property) → List ℕ → Value → List PlainObject → Option (List PlainObject)
declared_over None name v heap = Some (objects.add global_object.0 name v declared_by_script heap)
declared_over (Some f) name v heap = declared_anew f.1.marks.configurable f.1 name v heap

-- the function is made, and then it is declared
abbrev pub declared_function : List FunctionCode → Function → List PlainObject → Option (List PlainObject)
declared_function functions f heap =
    let made = heap ++ function_objects functions (length heap) 0 f in
    declared_over (plain_find (name_text (name_of f)) (plain_chain made global_object.0)) (name_text (name_of f)) (value.Object (id (length heap))) made

abbrev pub and_functions : Option (List PlainObject) → (List PlainObject → Option (List PlainObject)) → Option (List PlainObject)
and_functions None next = None
and_functions (Some heap) next = next heap

unfoldable pub with_functions : List FunctionCode → List Function → List PlainObject → Option (List PlainObject)
with_functions functions [] heap = Some heap
with_functions functions (f ∷ fs) heap = and_functions (declared_function functions f heap) (λ made. with_functions functions fs made)

-- the heap with what the outermost code declares, unless a declaration is refused
unfoldable pub entered_heap : BuiltIns → Statements → Option (List PlainObject)
entered_heap set program = option_map (λ heap. with_variables (declared_statements program) heap) (with_functions (functions_of program) (declared_functions program) (built_heap set.entries))

abbrev pub heap_or : List PlainObject → Option (List PlainObject) → List PlainObject
heap_or heap None = heap
heap_or heap (Some entered) = entered

-- the objects that a run of a script starts with, and whether it may declare its functions: where it may not, no statement is evaluated
abbrev pub first_heap : BuiltIns → Statements → List PlainObject
first_heap set program = heap_or (built_heap set.entries) (entered_heap set program)

abbrev pub may_declare : BuiltIns → Statements → Bool
may_declare set program = is_some (entered_heap set program)

-- the record of the outermost code: nothing is outside it, and it has `this`
abbrev pub outermost : {V : Type 0} → V → Record V
outermost v = record { outer = None; bindings = binds false this_name v }

-- the statements of a script are evaluated in it, and no jump can reach anything round them
abbrev pub outermost_env : {H : Type 0} → H → Env H
outermost_env root = record { place = 0; call = root; around = [] }

-- a record with another value of the name
abbrev pub with_value : {V : Type 0} → List ℕ → V → Option (Record V) → List (Record V) → ℕ → List (Record V)
with_value name v None records i = records
with_value name v (Some r) records i = slice_set records i (record r { bindings = rebound name v r.bindings })

abbrev pub assigned_in : {V : Type 0} → List ℕ → V → List (Record V) → ℕ → List (Record V)
assigned_in name v records i = with_value name v (slice_get records i) records i

-- ---- references (ECMA-262 8.7): a name with the record that has it, or that the global object has, or nothing; or a key of a value

pub data Place : Type 0 where
  in_record : ℕ → Place
  on_global nowhere : Place

pub data Reference : Type 0 where
  of_name : List ℕ → Place → Reference
  of_property : Value → List ℕ → Reference

-- a name that no record has is looked for along the global object
abbrev pub place_beyond : {A : Type 0} → Option A → Place
place_beyond None = nowhere
place_beyond (Some f) = on_global

abbrev pub place_from : {A : Type 0} → Option ℕ → Option A → Place
place_from (Some i) beyond = in_record i
place_from None beyond = place_beyond beyond

abbrev pub resolved : List (Record Value) → List PlainObject → ℕ → List ℕ → Reference
resolved records heap i name = of_name name (place_from (lookup name records i) (plain_find name (plain_chain heap global_object.0)))

-- the key that a primitive value is (ECMA-262 9.8)
abbrev pub key_text : Value → List ℕ
key_text (value.Primitive p) = text_of p
key_text (value.Object o) = []

abbrev pub binding_at : {V : Type 0} → List (Record V) → ℕ → List ℕ → Option (Binding V)
binding_at records i name = bound_in name (slice_get records i)

-- ---- the plain state

pub record State : Type 0 where
  pub heap : List PlainObject
  pub records : List (Record Value)
  -- how many lines of each input channel were read
  pub positions : List ℕ
  pub lines : List Line
  pub turns : ℕ

-- a jump, and the value that it takes along
pub record Jump : Type 0 where
  pub exit : Exit
  pub value : Value

abbrev pub P : Type 0 → Type 0
P X = From Halt Jump State X

-- an operator's value, or the run leaves
unfoldable pub given : Result Primitive (List ℕ) → P Value
given (Ok v) s = Goes (value.Primitive v) s
given (Err name) s = Ends (left name) s

-- what can be asked of a value
unfoldable pub seen : List PlainObject → Value → Seen
seen heap (value.Primitive v) = seen_as.Prim v
seen heap (value.Object o) = seen_of (λ p. seen_as.Object p.class) (slice_get heap o.0)

-- the engine throws an error, which is made at that moment (ECMA-262 15.11)
unfoldable pub throw_error : {X : Type 0} → ErrorKind → P X
throw_error kind s = Jumps (record { exit = throws; value = value.Object (id (length s.heap)) }) (record s { heap = s.heap ++ engine_error kind ∷ [] })

-- ---- what is done with references

-- the value of a binding, or an exception where there is none (ECMA-262 8.7.1, 10.2.1.1.4)
unfoldable pub bound : Option (Binding Value) → P Value
bound (Some b) s = Goes b.value s
bound None s = throw_error kinds.ReferenceError s

-- what a read comes to (ECMA-262 8.12.3): a value, or a getter that is called with the base as its `this`
pub data Access : Type 0 where
  has_value : Value → Access
  has_getter : ObjId → Value → Access

abbrev pub getter_or_none : Option ObjId → Value → Access
getter_or_none None base = has_value undefined
getter_or_none (Some f) base = has_getter f base

abbrev pub held : Value → Body → Access
held base (Data v) = has_value v
held base (Accessor get set) = getter_or_none get base

-- of a name of the global object, or an exception where there is none (ECMA-262 10.2.1.2.4)
unfoldable pub found_globally : Option (ℕ × Property) → P Access
found_globally (Some f) s = Goes (held (value.Object global_object) f.1.body) s
found_globally None s = throw_error kinds.ReferenceError s

abbrev pub found : Value → Option (ℕ × Property) → Access
found base (Some f) = held base f.1.body
found base None = has_value undefined

-- an own property of a primitive value, and else one of its prototype, with the value as the base (ECMA-262 8.7.1)
abbrev pub primitive_chain : List PlainObject → Primitive → List (ℕ × PlainObject)
primitive_chain heap p = chain_from (plain_chain heap) (prototype_of_primitive p)

abbrev pub primitive_access : Option Primitive → Access → Access
primitive_access None beyond = beyond
primitive_access (Some v) beyond = has_value (value.Primitive v)

unfoldable pub property_of : Value → List ℕ → P Access
property_of (value.Primitive p) key s = Goes (primitive_access (own_value_of p key) (found (value.Primitive p) (plain_find key (primitive_chain s.heap p)))) s
property_of (value.Object o) key s = Goes (found (value.Object o) (plain_find key (plain_chain s.heap o.0))) s

abbrev pub as_access : P Value → P Access
as_access m = m >>= λ v. ret (has_value v)

unfoldable pub named : Place → List ℕ → P Access
named (in_record i) name s = as_access (bound (binding_at s.records i name)) s
named on_global name s = found_globally (plain_find name (plain_chain s.heap global_object.0)) s
named nowhere name s = throw_error kinds.ReferenceError s

unfoldable pub accessed : Reference → P Access
accessed (of_name name place) = named place name
accessed (of_property v key) = property_of v key

unfoldable pub accessed_for_typeof : Reference → P Access
accessed_for_typeof (of_name name nowhere) s = Goes (has_value undefined) s
accessed_for_typeof n s = accessed n s

-- an assignment to a binding that can be changed, and to one that can't (ECMA-262 10.2.1.1.3)
unfoldable pub assigned : Bool → List ℕ → ℕ → Value → P (Unit {0})
assigned true name i v s = Goes tt (record s { records = assigned_in name v s.records i })
assigned false name i v s = throw_error kinds.TypeError s

unfoldable pub assigned_to : Option (Binding Value) → List ℕ → ℕ → Value → P (Unit {0})
assigned_to (Some b) name i v s = assigned b.mutable name i v s
assigned_to None name i v s = throw_error kinds.ReferenceError s

-- what a put comes to (ECMA-262 8.12.5): it is done; a setter is called with the base as its `this`; or the `length` of an array is set (15.4.5.1)
pub data Putting : Type 0 where
  is_put : Putting
  has_setter : ObjId → Value → Putting
  has_length : ℕ → Putting

unfoldable pub overwritten : Bool → ℕ → List ℕ → Value → P Putting
overwritten true o key v s = Goes (has_length o) s
overwritten false o key v s = Goes is_put (record s { heap = objects.write o key v s.heap })

unfoldable pub put_by : Plan → ℕ → List ℕ → Value → P Putting
put_by writes o key v s = overwritten (is_length_in key (slice_get s.heap o)) o key v s
put_by adds o key v s = Goes is_put (record s { heap = objects.add o key v made_by_script s.heap })
put_by refuses o key v s = throw_error kinds.TypeError s
put_by (calls f) o key v s = Goes (has_setter f (value.Object (id o))) s

unfoldable pub put : ℕ → List ℕ → Value → P Putting
put o key v s = put_by (can_put key (plain_chain s.heap o)) o key v s

-- a primitive value gets no properties: a put on it calls the setter that its prototype has, and is refused else (ECMA-262 8.7.2)
unfoldable pub setter_or_refused : Option ObjId → Value → P Putting
setter_or_refused None base s = throw_error kinds.TypeError s
setter_or_refused (Some f) base s = Goes (has_setter f base) s

unfoldable pub put_beyond : Value → Option (ℕ × Property) → P Putting
put_beyond base None s = throw_error kinds.TypeError s
put_beyond base (Some f) s = setter_or_refused (setter_in f.1.body) base s

unfoldable pub put_on_primitive : Option Primitive → Primitive → List ℕ → P Putting
put_on_primitive (Some v) p key s = throw_error kinds.TypeError s
put_on_primitive None p key s = put_beyond (value.Primitive p) (plain_find key (primitive_chain s.heap p)) s

unfoldable pub put_property : Value → List ℕ → Value → P Putting
put_property (value.Primitive p) key v s = put_on_primitive (own_value_of p key) p key s
put_property (value.Object o) key v s = put o.0 key v s

abbrev pub as_putting : P (Unit {0}) → P Putting
as_putting m = m >>= λ u. ret is_put

unfoldable pub put_named : Place → List ℕ → Value → P Putting
put_named (in_record i) name v s = as_putting (assigned_to (binding_at s.records i name) name i v) s
put_named on_global name v s = put global_object.0 name v s
put_named nowhere name v s = throw_error kinds.ReferenceError s

unfoldable pub put_value : Reference → Value → P Putting
put_value (of_name name place) v = put_named place name v
put_value (of_property base key) v = put_property base key v

-- a deletion (ECMA-262 8.12.7): a property that isn't configurable stays, and the engine throws
unfoldable pub removed_if : Bool → ℕ → List ℕ → P Value
removed_if true o key s = Goes (value.Primitive (prims.Bool true)) (record s { heap = objects.remove o key s.heap })
removed_if false o key s = throw_error kinds.TypeError s

unfoldable pub removed_own : Option Property → ℕ → List ℕ → P Value
removed_own None o key s = Goes (value.Primitive (prims.Bool true)) s
removed_own (Some p) o key s = removed_if p.marks.configurable o key s

-- of a primitive value: its own properties stay (ECMA-262 8.12.7, 15.5.5)
unfoldable pub removed_of_primitive : Option Primitive → P Value
removed_of_primitive None s = Goes (value.Primitive (prims.Bool true)) s
removed_of_primitive (Some v) s = throw_error kinds.TypeError s

-- names aren't deleted in strict code (ECMA-262 11.4.1, step 5.a): a script that says so is refused
unfoldable pub remove : Reference → P Value
remove (of_property (value.Object o) key) s = removed_own (own_in key (slice_get s.heap o.0)) o.0 key s
remove (of_property (value.Primitive p) key) s = removed_of_primitive (own_value_of p key) s
remove (of_name name place) s = throw_error kinds.SyntaxError s

-- ---- acts

-- an object with these parts (ECMA-262 11.1.5)
unfoldable pub make_object : List (Part × List ℕ) → List Value → P Value
make_object parts vs s = Goes (value.Object (id (length s.heap))) (record s { heap = s.heap ++ literal_object parts vs ∷ [] })

-- an array with these elements (ECMA-262 11.1.4)
unfoldable pub make_array : List ℕ → ℕ → List Value → P Value
make_array places n vs s = Goes (value.Object (id (length s.heap))) (record s { heap = s.heap ++ array_object n places vs ∷ [] })

-- whether a value can have properties (ECMA-262 9.10)
abbrev pub is_coercible : Value → Bool
is_coercible (value.Primitive Undefined) = false
is_coercible (value.Primitive Null) = false
is_coercible _ = true

-- the value, or the engine throws
unfoldable pub needed : Bool → Value → P Value
needed true v s = Goes v s
needed false v s = throw_error kinds.TypeError s

abbrev pub is_found : {A : Type 0} → Option A → Bool
is_found None = false
is_found (Some a) = true

abbrev pub has_of_primitive : Option Primitive → Option (ℕ × Property) → Bool
has_of_primitive None beyond = is_found beyond
has_of_primitive (Some v) beyond = true

unfoldable pub has : List ℕ → Value → P Value
has key (value.Primitive p) s = Goes (value.Primitive (prims.Bool (has_of_primitive (own_value_of p key) (plain_find key (primitive_chain s.heap p))))) s
has key (value.Object o) s = Goes (value.Primitive (prims.Bool (is_found (plain_find key (plain_chain s.heap o.0))))) s

-- ---- what built-ins ask for besides

-- an object, or the engine throws
unfoldable pub on_object : {X : Type 0} → Value → (ℕ → P X) → P X
on_object (value.Primitive p) next s = throw_error kinds.TypeError s
on_object (value.Object o) next s = next o.0 s

abbrev pub truth_value : Bool → Value
truth_value b = value.Primitive (prims.Bool b)

-- what a definition comes to (ECMA-262 8.12.9): it is done, or the `length` of an array is given a value (15.4.5.1)
pub data Defining : Type 0 where
  is_defined : Defining
  has_length_given : ℕ → GivenMarks → Defining

-- it is done, unless it is refused
unfoldable pub define_by : ℕ → List ℕ → Option Property → P Defining
define_by o key None s = throw_error kinds.TypeError s
define_by o key (Some p) s = Goes is_defined (record s { heap = with_object o (with_defined key p) s.heap })

unfoldable pub define_given : PlainObject → ℕ → List ℕ → GivenMarks → Shape → Option GivenBody → P Defining
define_given p o key marks shape None s = throw_error kinds.TypeError s
define_given p o key marks shape (Some body) s =
    choose (is_length p.class key && shape.has_value) (ret (has_length_given o marks)) (define_by o key (behind_definition (objects.may_add key p) (own key p.rows) (record { marks = marks; body = body }))) s

unfoldable pub define_in : Option PlainObject → ℕ → List ℕ → GivenMarks → Shape → Value → Value → Value → P Defining
define_in None o key marks shape v g set s = throw_error kinds.TypeError s
define_in (Some p) o key marks shape v g set s = define_given p o key marks shape (given_body s.heap marks shape v g set) s

unfoldable pub defining : List ℕ → GivenMarks → Shape → Value → Value → Value → Value → P Defining
defining key marks shape base v g set = on_object base (λ o s. define_in (slice_get s.heap o) o key marks shape v g set s)

-- ---- the `length` of an array is given a number (ECMA-262 15.4.5.1, steps 3.e to 3.n): elements at or above it are deleted, from the highest one down. One
-- that can't be configured ends this, and the engine throws

unfoldable pub ended_at : Option ℕ → P Value
ended_at None s = Goes undefined s
ended_at (Some i) s = throw_error kinds.TypeError s

unfoldable pub cut_length : ℕ → ℕ → Property → Shortened → P Value
cut_length o n p cut s = ended_at cut.stays (record s { heap = with_object o (cut_to cut n p) s.heap })

-- `length` is this behind the definition, if it isn't refused
unfoldable pub set_length_to : ℕ → ℕ → PlainObject → Option Property → P Value
set_length_to o n q None s = throw_error kinds.TypeError s
set_length_to o n q (Some p) s = cut_length o n p (deleted_down n q.rows) s

unfoldable pub set_length_in : Option PlainObject → ℕ → GivenMarks → ℕ → P Value
set_length_in None o marks n s = throw_error kinds.TypeError s
set_length_in (Some p) o marks n s = set_length_to o n p (behind_length (own length_key p.rows) (record { marks = marks; body = a_value (value.Primitive (Num (Int (pos n)))) })) s

unfoldable pub set_length : ℕ → GivenMarks → ℕ → P Value
set_length o marks n s = set_length_in (slice_get s.heap o) o marks n s

-- ToNumber of a value that was converted to a primitive one (ECMA-262 9.3), or the run leaves. That of an object, which is none, is NaN
abbrev pub number_in : Value → Result Number LeftNumbers
number_in (value.Primitive p) = number_of p
number_in (value.Object o) = Ok Nan

unfoldable pub numbered_by : Result Number LeftNumbers → P Number
numbered_by (Ok n) s = Goes n s
numbered_by (Err e) s = Ends (left leaves_numbers) s

unfoldable pub numbered : Value → P Number
numbered v = numbered_by (number_in v)

-- a number is the `length` of an array if ToUint32 of the first conversion is what the second one gives (steps 3.c and 3.d)
abbrev pub count_of : Number → ℕ
count_of n = uint32 (integer_of n)

abbrev pub is_count : Number → Number → Bool
is_count m n = equal_numbers (Int (pos (count_of m))) n

-- a new object of a class (ECMA-262 15.2.2.1, 15.2.3.5, 15.4.2)
unfoldable pub make_new : Class → Option ObjId → P Value
make_new c proto s = Goes (value.Object (id (length s.heap))) (record s { heap = s.heap ++ made_of c proto ∷ [] })

-- with a prototype that a value gives
abbrev pub standing : List PlainObject → ObjId → ObjId
standing heap o = standing_or_default o (slice_get heap o.0)

unfoldable pub make_new_by : Class → Value → P Value
make_new_by c v s = make_new c (option_map (standing s.heap) (prototype_given v)) s

-- an array of the own keys of an object
abbrev pub keys_in : Bool → Option PlainObject → List (List ℕ)
keys_in all None = []
keys_in all (Some p) = listed all p.rows

unfoldable pub list_keys : Bool → ℕ → P Value
list_keys all o s = Goes (value.Object (id (length s.heap))) (record s { heap = s.heap ++ array_of_texts (keys_in all (slice_get s.heap o)) ∷ [] })

-- a bound function (ECMA-262 15.3.4.5)
unfoldable pub bind_to : Bool → Value → Value → List Value → P Value
bind_to true (value.Object o) this args s = Goes (value.Object (id (length s.heap))) (record s { heap = s.heap ++ bound_object o this args (bound_count (slice_get s.heap o.0) (length args)) ∷ [] })
bind_to _ target this args s = throw_error kinds.TypeError s

-- origins that are declared, or the run leaves
unfoldable pub if_origins : Bool → P Value → P Value
if_origins true next s = next s
if_origins false next s = Ends (left leaves_origins) s

-- the keys that `for in` takes of a value: none of undefined and null
abbrev pub key_list : List PlainObject → Value → Option (List (List ℕ))
key_list heap (value.Object o) = Some (enumerable_keys (plain_chain heap o.0))
key_list heap (value.Primitive Undefined) = Some []
key_list heap (value.Primitive Null) = Some []
key_list heap (value.Primitive _) = None

unfoldable pub with_list : {X : Type 0} → Option (List (List ℕ)) → (List (List ℕ) → P X) → P X
with_list None next s = Ends (left leaves_wrappers) s
with_list (Some keys) next s = next keys s

-- a turn is spent
unfoldable pub spend : ℕ → P (Unit {0})
spend zero s = Ends out_of_turns s
spend (suc n) s = Goes tt (record s { turns = n })

-- what leaves a loop, a turn, a switch or a labelled statement ends there, if so many were round it in its function
abbrev pub leaves_it : ℕ → Exit → Bool
leaves_it n (leaves m) = nat_eq m n
leaves_it n _ = false

unfoldable pub ended_round : ℕ → Outcome Halt Jump (Unit {0}) State → Outcome Halt Jump (Unit {0}) State
ended_round n (Goes u s) = Goes tt s
ended_round n (Jumps j s) = choose (leaves_it n j.exit) (Goes tt s) (Jumps j s)
ended_round n (Ends halt s) = Ends halt s

-- ---- functions

-- a further record
abbrev pub with_record : Record Value → State → State
with_record r s = record s { records = s.records ++ r ∷ [] }

-- a function is made, with a record for its own name (ECMA-262 13, 13.2)
unfoldable pub make_function : List FunctionCode → Function → ℕ → P Value
make_function functions f place s =
    let v = value.Object (id (length s.heap)) in
    Goes v (record s { heap = s.heap ++ function_objects functions (length s.heap) (closes_over (name_of f) place (length s.records)) f; records = s.records ++ own_name (name_of f) place v })

-- what a value is for a call
abbrev pub callee_in : List FunctionCode → Option PlainObject → Callee
callee_in functions None = not_callable
callee_in functions (Some p) = callee_of functions p.class p.inner

unfoldable pub callee_at : List FunctionCode → List PlainObject → ℕ → Callee
callee_at functions heap o = callee_in functions (slice_get heap o)

-- a call begins (ECMA-262 10.4.3, 10.5): its record is inside that of the function, and the functions that it declares are made, and its `arguments` object
unfoldable pub with_call : List FunctionCode → ℕ → Function → ℕ → Value → List Value → State → State
with_call functions number f place this args s =
    let declared = declared_functions (body_of f) in
    let here = length s.records in
    let next = behind_functions (length s.heap) declared in
    record s {
      heap = s.heap ++ (objects_of functions (length s.heap) here declared ++ made_if (names_in_statements (body_of f)) (arguments_object number here args));
      records = s.records ++ entry_record f place (record {
        this = this;
        function = value.Primitive (Num (Int (pos number)));
        args = args;
        missing = undefined;
        functions = references_of (length s.heap) declared;
        arguments = value.Object (id next);
      }) ∷ [];
    }

-- the body is evaluated in the record of the call
abbrev pub in_call : (Statements → Env (Unit {0}) → P (Unit {0})) → Function → ℕ → P (Unit {0})
in_call body f here = body (body_of f) (called_env here tt)

-- a call gives what is returned, or undefined (ECMA-262 13.2.1)
abbrev pub is_return : Exit → Bool
is_return throws = false
is_return returns = true
is_return (leaves n) = false

unfoldable pub ended_call : Outcome Halt Jump (Unit {0}) State → Outcome Halt Jump Value State
ended_call (Goes u s) = Goes undefined s
ended_call (Jumps j s) = choose (is_return j.exit) (Goes j.value s) (Jumps j s)
ended_call (Ends halt s) = Ends halt s

abbrev pub Enters : Type 0
Enters = Entering Value (Unit {0}) (λ t. P (Res Value t))

-- what is called is entered: with itself, its `this` and arguments in the registers of a built-in
unfoldable pub entered : List FunctionCode → Callee → Value → Value → List Value → Enters → P Value
entered functions not_callable f this args E s = throw_error kinds.TypeError s
entered functions empty_callee f this args E s = Goes undefined s
entered functions (of_built_in which) f this args E s = E.built_in which false (this ∷ f ∷ args) s
entered functions (of_script number code place) f this args E s = ended_call (in_call E.body code (length s.records) (with_call functions number code place this args s))

-- the target of a function, with its `this` and arguments
unfoldable pub call_target : List FunctionCode → Target Value → Value → List Value → Enters → P Value
call_target functions target this args E s =
    entered functions (callee_at functions s.heap target.function) (value.Object (id target.function)) (this_or target.this this) (target.args ++ args) E s

unfoldable pub call : List FunctionCode → Value → Value → List Value → Enters → P Value
call functions (value.Primitive p) this args E s = throw_error kinds.TypeError s
call functions (value.Object o) this args E s = call_target functions (target_of s.heap o.0) this args E s

-- what `new` makes has the `prototype` of the function as its prototype, or that of all objects where this is no object (ECMA-262 13.2.2). That of a
-- function of the script is data, since it can't be configured
abbrev pub value_found : Option (ℕ × Property) → Value
value_found None = undefined
value_found (Some f) = value_in f.1.body

abbrev pub prototype_name : List ℕ
prototype_name = codes "prototype"

abbrev pub object_or_default : Value → ObjId
object_or_default (value.Primitive p) = object_prototype
object_or_default (value.Object o) = o

abbrev pub prototype_of : List PlainObject → ℕ → ObjId
prototype_of heap o = standing heap (object_or_default (value_found (plain_find prototype_name (plain_chain heap o))))

abbrev pub with_fresh : ObjId → State → State
with_fresh proto s = record s { heap = s.heap ++ fresh_plain class.Object plain_inner (Some proto) ∷ [] }

-- an object that the function returns stands for what was made
abbrev pub object_or : ℕ → Value → Value
object_or fresh (value.Primitive p) = value.Object (id fresh)
object_or fresh (value.Object o) = value.Object o

unfoldable pub ended_construction : ℕ → Outcome Halt Jump Value State → Outcome Halt Jump Value State
ended_construction fresh (Goes v s) = Goes (object_or fresh v) s
ended_construction fresh (Jumps j s) = Jumps j s
ended_construction fresh (Ends halt s) = Ends halt s

-- a built-in makes what it gives itself, if it constructs
unfoldable pub constructed : BuiltIns → List FunctionCode → Callee → ℕ → List Value → Enters → P Value
constructed set functions not_callable f args E s = throw_error kinds.TypeError s
constructed set functions empty_callee f args E s = throw_error kinds.TypeError s
constructed set functions (of_built_in which) f args E s = choose (constructs_in set which) (E.built_in which true (undefined ∷ value.Object (id f) ∷ args)) (throw_error kinds.TypeError) s
constructed set functions (of_script number code place) f args E s =
    ended_construction (length s.heap) (entered functions (of_script number code place) (value.Object (id f)) (value.Object (id (length s.heap))) args E (with_fresh (prototype_of s.heap f) s))

unfoldable pub construct_target : BuiltIns → List FunctionCode → Target Value → List Value → Enters → P Value
construct_target set functions target args E s = constructed set functions (callee_at functions s.heap target.function) target.function (target.args ++ args) E s

unfoldable pub construct : BuiltIns → List FunctionCode → Value → List Value → Enters → P Value
construct set functions (value.Primitive p) args E s = throw_error kinds.TypeError s
construct set functions (value.Object o) args E s = construct_target set functions (target_of s.heap o.0) args E s

-- ---- getters, setters, and the conversion of objects (ECMA-262 9.1)

unfoldable pub entered_access : List FunctionCode → Enters → Access → P Value
entered_access functions E (has_value v) s = Goes v s
entered_access functions E (has_getter f this) s = call functions (value.Object f) this [] E s

unfoldable pub converted : Enters → Hint → Value → P Value
converted E h (value.Primitive p) s = Goes (value.Primitive p) s
converted E h (value.Object o) s = E.conversion h (value.Object o) s

-- a value for the `length` of an array is converted twice (ECMA-262 15.4.5.1, steps 3.c and 3.d), and then `length` is given the number
unfoldable pub given_count : Bool → ℕ → (ℕ → P Value) → P Value
given_count true n next s = next n s
given_count false n next s = throw_error kinds.RangeError s

unfoldable pub with_count : Enters → Value → (ℕ → P Value) → P Value
with_count E v next = converted E hint.Number v >>= numbered >>= λ m. converted E hint.Number v >>= numbered >>= λ n. given_count (is_count m n) (count_of m) next

unfoldable pub entered_defining : Enters → Value → Defining → P Value
entered_defining E v is_defined s = Goes undefined s
entered_defining E v (has_length_given o marks) s = with_count E v (set_length o marks) s

unfoldable pub entered_putting : List FunctionCode → Enters → Value → Putting → P (Unit {0})
entered_putting functions E v is_put s = Goes tt s
entered_putting functions E v (has_setter f this) s = (call functions (value.Object f) this (v ∷ []) E >>= λ u. ret tt) s
entered_putting functions E v (has_length o) s = (with_count E v (set_length o no_marks) >>= λ u. ret tt) s

unfoldable pub converted_if : Bool → Enters → Value → P Value
converted_if true E v s = converted E hint.Default v s
converted_if false E v s = Goes v s

-- ---- `instanceof` (ECMA-262 11.8.6, 15.3.5.3)

-- the object is a prototype of the first of the chain
abbrev pub behind_first : {A : Type 0} → List A → List A
behind_first [] = []
behind_first (a ∷ as_) = as_

abbrev pub is_prototype_in : ℕ → List (ℕ × PlainObject) → Bool
is_prototype_in proto chain = list_any (λ e. nat_eq e.0 proto) (behind_first chain)

unfoldable pub is_instance : ℕ → Value → P Value
is_instance o (value.Primitive p) s = throw_error kinds.TypeError s
is_instance o (value.Object proto) s = Goes (truth_value (is_prototype_in proto.0 (plain_chain s.heap o))) s

-- the `prototype` is that of the target of a bound function (15.3.4.5.3)
unfoldable pub instance_of : List FunctionCode → Value → ℕ → Enters → P Value
instance_of functions (value.Primitive p) f E s = Goes (truth_value false) s
instance_of functions (value.Object o) f E s = (property_of (value.Object (id f)) prototype_name >>= entered_access functions E >>= is_instance o.0) s

unfoldable pub instance_if : List FunctionCode → Bool → Value → ℕ → Enters → P Value
instance_if functions true v f E s = instance_of functions v (target_of s.heap f).function E s
instance_if functions false v f E s = throw_error kinds.TypeError s

unfoldable pub instance : List FunctionCode → Value → Value → Enters → P Value
instance functions v (value.Primitive p) E s = throw_error kinds.TypeError s
instance functions v (value.Object f) E s = instance_if functions (is_function_in (slice_get s.heap f.0)) v f.0 E s

-- ---- jumps

unfoldable pub jumps_to : Option (Exit × Unit {0}) → Value → P (Unit {0})
jumps_to None v s = Goes tt s
jumps_to (Some to) v s = Jumps (record { exit = to.0; value = v }) s

abbrev pub is_throw : Exit → Bool
is_throw throws = true
is_throw returns = false
is_throw (leaves n) = false

-- a throw is handled, if there is a handler (ECMA-262 12.14)
unfoldable pub handled_throw : Bool → (Value → P (Unit {0})) → Outcome Halt Jump (Unit {0}) State → Outcome Halt Jump (Unit {0}) State
handled_throw handles handler (Goes u s) = Goes u s
handled_throw handles handler (Jumps j s) = choose (handles && is_throw j.exit) (handler j.value s) (Jumps j s)
handled_throw handles handler (Ends halt s) = Ends halt s

-- what is done last is done behind each of these, and then a jump goes on
unfoldable pub finished : P (Unit {0}) → Outcome Halt Jump (Unit {0}) State → Outcome Halt Jump (Unit {0}) State
finished last (Goes u s) = last s
finished last (Jumps j s) = and_then (last s) (λ u t. Jumps j t)
finished last (Ends halt s) = Ends halt s

unfoldable pub attempt : Bool → Bool → P (Unit {0}) → (Value → P (Unit {0})) → P (Unit {0}) → P (Unit {0})
attempt handles finishes block handler last s = finished (choose finishes last (ret tt)) (handled_throw handles handler (block s))

-- ---- what a reference's base is for a call
abbrev pub base_of : Reference → Value
base_of (of_name name place) = undefined
base_of (of_property v key) = v

abbrev pub in_own_record : List ℕ → Value → Env (Unit {0}) → (Env (Unit {0}) → P (Unit {0})) → P (Unit {0})
in_own_record name v e next s = next (with_place (length s.records) e) (with_record (record { outer = Some (env_id e.place); bindings = binds true name v }) s)

module _ (tables : Tables) (inputs : Given) where
  unfoldable pub read_channel : Option ℕ → P Value
  read_channel None s = Ends (left leaves_channels) s
  read_channel (Some i) s = let line = line_at inputs i s.positions in Goes (value_read line) (record s { positions = positions_behind i line s.positions })

  -- a text is printed, on a channel that there is
  unfoldable pub print_text : ℕ → Value → P Value
  print_text i (value.Primitive (Str text)) s = Goes undefined (record s { lines = s.lines ++ record { channel = channel_name tables.outputs i; text = text } ∷ [] })
  print_text i _ s = Ends (left leaves_channels) s

  unfoldable pub print_channel : Option ℕ → Value → P Value
  print_channel None v s = Ends (left leaves_channels) s
  print_channel (Some i) v s = print_text i v s

  -- origins that aren't declared are asked about first
  unfoldable pub with_origins : List ℕ → P Value → P Value
  with_origins origins next s = if_origins (are_origins (length tables.origins) origins) next s

  abbrev pub first : List Value → Value
  first vs = argument_or undefined 0 vs

  abbrev pub second : List Value → Value
  second vs = argument_or undefined 1 vs

  -- the arguments are as many as the act takes
  unfoldable pub act : Act → List Value → P Value
  act (object_of parts) vs = make_object parts vs
  act (array_of places n) vs = make_array places n vs
  act base_needed vs = needed (is_coercible (first vs)) (first vs)
  act object_needed vs = needed (is_object (first vs)) (first vs)
  act has_key vs = has (key_text (first vs)) (second vs)
  act (throws_error kind) vs = throw_error kind
  act (own_property part key) vs = on_object (first vs) (λ o s. Goes (part_or_undefined part (own_in key (slice_get s.heap o))) s)
  act (own_keys all) vs = on_object (first vs) (list_keys all)
  act prototype_of_object vs = on_object (first vs) (λ o s. Goes (prototype_in (slice_get s.heap o)) s)
  act is_extensible vs = on_object (first vs) (λ o s. Goes (truth_value (extensible_in (slice_get s.heap o))) s)
  act prevent_extensions vs = on_object (first vs) (λ o s. Goes undefined (record s { heap = with_object o (λ p. record p { extensible = false }) s.heap }))
  act (new_object c false) vs = make_new c (Some (class_prototype c))
  act (new_object c true) vs = make_new_by c (first vs)
  act bind vs = λ s. bind_to (is_function_at s.heap (first vs)) (first vs) (second vs) (others (others vs)) s
  act read_line vs = read_channel (channel_of tables.inputs (first vs))
  act print_line vs = print_channel (channel_of tables.outputs (first vs)) (second vs)
  act (join_label origins) vs = with_origins origins (ret (first vs))
  act (raise_structure origins) vs = with_origins origins (on_object (first vs) (λ o. ret undefined))
  act (raise_existence key origins) vs = with_origins origins (on_object (first vs) (λ o. ret undefined))

  -- a directive changes nothing, and leaves where an origin isn't declared
  unfoldable pub raised_by : Option (List ℕ) → P (Unit {0})
  raised_by None s = Ends (left leaves_origins) s
  raised_by (Some origins) s = Goes tt s

  abbrev pub named_origins : List (List ℕ) → Option (List ℕ)
  named_origins names = origins_of tables.origins (map (λ name. value.Primitive (Str name)) names)

  abbrev pub start : BuiltIns → Statements → ℕ → State
  start set program turns = record { heap = first_heap set program; records = outermost (value.Object global_object) ∷ []; positions = replicate (length tables.inputs) 0; lines = []; turns = turns }

  module _ (set : BuiltIns) (functions : List FunctionCode) where
    abbrev pub plain : Ops
    plain = record {
      V = Value;
      N = Reference;
      H = Unit {0};
      M = λ t. P (Res Value t);
      ret = λ t a. ret a;
      bind = λ t u m f. m >>= f;
      literal = value.Primitive;
      unary = λ o v s. given (unary_of o (seen s.heap v)) s;
      binary = λ o v u. given (binary_of o v u);
      act = act;
      look = λ v k s. k (seen s.heap v) s;
      function = make_function functions;
      jump = λ leaving e v. jumps_to (aimed tt leaving e) v;
      raise = λ leaving e names. raised_by (named_origins names);
      throw = λ v s. Jumps (record { exit = throws; value = v }) s;
      leave = λ t name s. Ends (left name) s;
      resolve = λ t i x k s. k (resolved s.records s.heap i x) s;
      property = λ v k. of_property v (key_text k);
      get_value = λ n E. accessed n >>= entered_access functions E;
      typeof_value = λ n E. accessed_for_typeof n >>= entered_access functions E;
      put_value = λ n v E. put_value n v >>= entered_putting functions E v;
      remove = remove;
      define = λ key marks shape base v g set E. defining key marks shape base v g set >>= entered_defining E v;
      this_of = base_of;
      instance = instance functions;
      fork = λ t v m n. choose (truth v) m n;
      round = λ turn labels e k s. ended_round (length e.around) (k (with_around turn labels tt e) s);
      again = λ v m n. choose (truth v) m n;
      keys = λ v next s. with_list (key_list s.heap v) next s;
      declare = in_own_record;
      call = λ f this args E. call functions f this args E;
      construct = λ f args E. construct set functions f args E;
      primitive = λ h v E. converted E h v;
      comparable = λ v u E. converted_if (converts_beside v u) E v;
      attempt = attempt;
    }

    abbrev pub timed : Timed
    timed = record { ops = plain; tick = λ s. spend s.turns s; ended = λ t s. Ends out_of_turns s }

-- the lines of a run and how it ends
pub record Run : Type 0 where
  pub lines : List Line
  pub ending : Ending Halt

-- a jump that reaches the top is a throw that nothing caught
abbrev pub run_of : Outcome Halt Jump (Unit {0}) State → Run
run_of (Goes u s) = record { lines = s.lines; ending = done }
run_of (Jumps j s) = record { lines = s.lines; ending = threw (shown s.heap j.value) }
run_of (Ends halt s) = record { lines = s.lines; ending = halted halt }

-- what a script prints and how it ends, with so many turns
unfoldable pub plain_run : BuiltIns → Tables → Given → Statements → ℕ → Run
plain_run set tables inputs program turns =
    run_of (program_step (timed tables inputs set (functions_of program)) set turns (may_declare set program) program (outermost_env tt) (start tables inputs set program turns))
