-- Functions of the script: their numbers, the objects that they are, and what a call begins with (ECMA-262 10.4.3, 10.5, 13.2).
use Rattle.std.specs.Prelude.{ℕ, suc, pos, Bool, true, false, List, [], ◌∷◌, ◌++◌, length, map, Option, Some, None, nat_eq, slice_get, codes}
use Rattle.std.specs.List.{position_or_len}
use Rattle.js_number.specs.declared.primitive.Primitive.TheVariants.{Num}
use Rattle.js_number.specs.declared.num.Num.TheVariants.{Int}
use Rattle.js_values.specs.declared.ids.EnvId.{EnvId}
use Rattle.js_values.specs.declared.value.Value.{Value}
use Rattle.js_values.specs.declared.value.Value.TheVariants as value
use Rattle.js_values.specs.declared.property.Body.TheVariants.{Data}
use Rattle.js_values.specs.declared.property.Marks.{Marks}
use Rattle.js_values.specs.declared.inner.Class.{Class}
use Rattle.js_values.specs.declared.inner.Class.TheVariants as class
use Rattle.js_values.specs.Arrays.{element_key}
use Rattle.js_values.specs.Objects.{Rows, Property, PlainInner, plain, script, native, bound, PlainObject, fresh_plain}
use Rattle.js_values.specs.Records.{Binding, Bindings, Record, found, rebound}
use Rattle.js_ast.specs.Trees.{Ident, Function, function_of, name_of, params_of, body_of}
use Rattle.js_ast.specs.Functions.{FunctionCode}
use Rattle.es_meaning.specs.Declared.{declared_functions, declared_statements}
use Rattle.es_meaning.specs.Naming.{arguments_name, names_in_statements}
use Rattle.es_meaning.specs.Objects.{made_by_script, defined}
use Rattle.es_meaning.specs.Start.{id, built_in, count_property, fixed_accessor, function_rows, caller_accessor, callee_accessor, object_prototype, function_prototype}

abbrev pub env_id : ℕ → EnvId
env_id n = record { 0 = n }

-- ---- numbers: that of a function is its place among the functions of the program, of which each begins at a place of its own

abbrev pub begins_at : Function → ℕ
begins_at (function_of at ident params body) = at

unfoldable pub number_in : List FunctionCode → Function → ℕ
number_in functions f = position_or_len (λ code. nat_eq (begins_at code.function) (begins_at f)) functions

-- ---- the objects of a function (ECMA-262 13.2), of which so many objects were made before: itself, and the prototype of what it constructs

-- the attributes of `prototype`
abbrev pub kept : Marks
kept = record { writable = true; enumerable = false; configurable = false }

abbrev pub property_with : Value → Marks → Property
property_with v marks = record { body = Data v; marks = marks }

-- its number, the record that it closes over, and the number of its parameters
abbrev pub function_object : ℕ → ℕ → ℕ → ℕ → PlainObject
function_object o number place count = record (fresh_plain class.Function (script number (env_id place)) (Some function_prototype)) {
  rows = (codes "length", count_property count) ∷ (codes "prototype", property_with (value.Object (id (suc o))) kept) ∷ function_rows;
}

abbrev pub constructed_prototype : ℕ → PlainObject
constructed_prototype o = record (fresh_plain class.Object plain (Some object_prototype)) { rows = (codes "constructor", property_with (value.Object (id o)) built_in) ∷ [] }

unfoldable pub function_objects : List FunctionCode → ℕ → ℕ → Function → List PlainObject
function_objects functions o place f = function_object o (number_in functions f) place (length (params_of f)) ∷ constructed_prototype o ∷ []

-- those of functions in turn, and their references
unfoldable pub objects_of : List FunctionCode → ℕ → ℕ → List Function → List PlainObject
objects_of functions o place [] = []
objects_of functions o place (f ∷ fs) = function_objects functions o place f ++ objects_of functions (suc (suc o)) place fs

unfoldable pub references_of : ℕ → List Function → List Value
references_of o [] = []
references_of o (f ∷ fs) = value.Object (id o) ∷ references_of (suc (suc o)) fs

-- behind them so many objects were made
unfoldable pub behind_functions : ℕ → List Function → ℕ
behind_functions o [] = o
behind_functions o (f ∷ fs) = behind_functions (suc (suc o)) fs

-- a function expression with a name closes over a record with that name (ECMA-262 13)
abbrev pub closes_over : Option Ident → ℕ → ℕ → ℕ
closes_over None place next = place
closes_over (Some ident) place next = next

abbrev pub own_name : {V : Type 0} → Option Ident → ℕ → V → List (Record V)
own_name None place v = []
own_name (Some ident) place v = record { outer = Some (env_id place); bindings = record { name = ident.text; mutable = false; value = v } ∷ [] } ∷ []

-- ---- what a value is for a call

pub data Callee : Type 0 where
  not_callable : Callee
  -- the prototype of functions: it gives undefined, and constructs nothing
  empty_callee : Callee
  -- a function of the script: its number, itself, and the record that it closes over
  of_script : ℕ → Function → ℕ → Callee
  -- a built-in, by its number
  of_built_in : ℕ → Callee

-- each function object of the script has a function of the program
abbrev pub script_callee : Option FunctionCode → ℕ → ℕ → Callee
script_callee None number place = not_callable
script_callee (Some code) number place = of_script number code.function place

-- a bound function is called by its target, and is none at the end of a chain of targets
abbrev pub callable_inner : List FunctionCode → PlainInner → Callee
callable_inner functions plain = empty_callee
callable_inner functions (script number place) = script_callee (slice_get functions number) number place.0
callable_inner functions (native which) = of_built_in which
callable_inner functions (bound target this args) = not_callable

abbrev pub is_function : Class → Bool
is_function class.Function = true
is_function class.Object = false
is_function class.Array = false
is_function class.Arguments = false
is_function class.Error = false
is_function class.Math = false
is_function class.Json = false
is_function class.String = false
is_function class.Number = false
is_function class.Boolean = false

abbrev pub callee_if : Bool → List FunctionCode → PlainInner → Callee
callee_if true functions inner = callable_inner functions inner
callee_if false functions inner = not_callable

-- of an object of this class
unfoldable pub callee_of : List FunctionCode → Class → PlainInner → Callee
callee_of functions c inner = callee_if (is_function c) functions inner

-- ---- bound functions (ECMA-262 15.3.4.5.1): what is called in the end, with the `this` that stands for that of the call, if there is one, and the
-- arguments in front of those of the call

pub record Target (V : Type 0) : Type 0 where
  pub function : ℕ
  pub this : Option V
  pub args : List V

-- the target itself, which no chain leads on from
abbrev pub own_target : {V : Type 0} → ℕ → Target V
own_target o = record { function = o; this = None; args = [] }

-- the target's own target, behind a `this` and arguments
abbrev pub this_or : {V : Type 0} → Option V → V → V
this_or None this = this
this_or (Some kept_this) this = kept_this

abbrev pub bound_behind : {V : Type 0} → V → List V → Target V → Target V
bound_behind this args rest = record { function = rest.function; this = Some (this_or rest.this this); args = rest.args ++ args }

-- ---- the `arguments` object (ECMA-262 10.6): its `length`, and then the arguments from the last one down

abbrev pub elements_down : {S : Type 0} → Rows S → ℕ → List S → Rows S
elements_down rows n [] = rows
elements_down rows n (s ∷ ss) = defined (element_key n) s (elements_down rows (suc n) ss)

abbrev pub arguments_rows : {S : Type 0} → S → List S → Rows S
arguments_rows count elements = elements_down ((codes "length", count) ∷ []) 0 elements

-- and behind them the accessors of `caller` and `callee`
abbrev pub accessor_rows : Rows Property
accessor_rows = (codes "caller", fixed_accessor caller_accessor) ∷ (codes "callee", fixed_accessor callee_accessor) ∷ []

-- of a call of the function with this number, in its record
abbrev pub arguments_object : ℕ → ℕ → List Value → PlainObject
arguments_object number place args = record (fresh_plain class.Arguments (script number (env_id place)) (Some object_prototype)) {
  rows = arguments_rows (property_with (value.Primitive (Num (Int (pos (length args))))) built_in) (map (λ v. property_with v made_by_script) args) ++ accessor_rows;
}

-- ---- the record of a call

-- the names that no script can spell: its `this`, and the number of its function
abbrev pub function_name : List ℕ
function_name = codes "function"

abbrev pub this_name : List ℕ
this_name = codes "this"

-- a name is bound, or its binding has another value; and a variable keeps what its name is bound to
abbrev pub binds : {V : Type 0} → Bool → List ℕ → V → Bindings V
binds mutable name v = record { name = name; mutable = mutable; value = v } ∷ []

abbrev pub bound_by : {V : Type 0} → Option (Binding V) → List ℕ → V → Bindings V → Bindings V
bound_by None name v bindings = bindings ++ binds true name v
bound_by (Some b) name v bindings = rebound name v bindings

abbrev pub kept_by : {V : Type 0} → Option (Binding V) → List ℕ → V → Bindings V → Bindings V
kept_by None name v bindings = bindings ++ binds true name v
kept_by (Some b) name v bindings = bindings

-- parameters have the arguments, and undefined where there are no more (ECMA-262 10.5, step 4)
abbrev pub with_parameters : {V : Type 0} → V → List Ident → List V → Bindings V → Bindings V
with_parameters missing [] args bindings = bindings
with_parameters missing (p ∷ ps) [] bindings = with_parameters missing ps [] (bound_by (found p.text bindings) p.text missing bindings)
with_parameters missing (p ∷ ps) (v ∷ vs) bindings = with_parameters missing ps vs (bound_by (found p.text bindings) p.text v bindings)

-- the functions that are declared (step 5)
abbrev pub name_text : Option Ident → List ℕ
name_text None = []
name_text (Some ident) = ident.text

abbrev pub with_functions : {V : Type 0} → List Function → List V → Bindings V → Bindings V
with_functions (f ∷ fs) (v ∷ vs) bindings = with_functions fs vs (bound_by (found (name_text (name_of f)) bindings) (name_text (name_of f)) v bindings)
with_functions _ _ bindings = bindings

-- the `arguments` object, which can't be replaced in strict code: there is none where the name is bound (step 7)
abbrev pub unless_bound : {V : Type 0} → Option (Binding V) → V → Bindings V → Bindings V
unless_bound None v bindings = bindings ++ binds false arguments_name v
unless_bound (Some b) v bindings = bindings

abbrev pub with_arguments : {V : Type 0} → Bool → V → Bindings V → Bindings V
with_arguments true v bindings = unless_bound (found arguments_name bindings) v bindings
with_arguments false v bindings = bindings

-- and the variables (step 8)
abbrev pub with_variables : {V : Type 0} → V → List (List ℕ) → Bindings V → Bindings V
with_variables missing [] bindings = bindings
with_variables missing (name ∷ names) bindings = with_variables missing names (kept_by (found name bindings) name missing bindings)

-- the values with which a call begins: `this`, its function's number, the arguments, undefined for what is missing, the functions that it declares,
-- and its `arguments` object
pub record Entry (V : Type 0) : Type 0 where
  pub this : V
  pub function : V
  pub args : List V
  pub missing : V
  pub functions : List V
  pub arguments : V

unfoldable pub entry_bindings : {V : Type 0} → Function → Entry V → Bindings V
entry_bindings f entry =
    with_variables entry.missing (declared_statements (body_of f))
    (with_arguments (names_in_statements (body_of f)) entry.arguments
    (with_functions (declared_functions (body_of f)) entry.functions
    (with_parameters entry.missing (params_of f) entry.args
    (binds false this_name entry.this ++ binds false function_name entry.function))))

-- it is inside the record that the function closes over
abbrev pub entry_record : {V : Type 0} → Function → ℕ → Entry V → Record V
entry_record f place entry = record { outer = Some (env_id place); bindings = entry_bindings f entry }

-- an object that is made where something is so
abbrev pub made_if : {P : Type 0} → Bool → P → List P
made_if true p = p ∷ []
made_if false p = []
