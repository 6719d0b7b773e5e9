-- What the built-ins of this set are, and the machine of a call of any of them.
use Rattle.std.specs.Prelude.{ℕ, Bool, List, [], ◌∷◌, ◌++◌, replicate, get_or}
use Rattle.native_protocol.specs.Sets.{SeenEntry}
use Rattle.native_protocol.specs.Steps.{Steps, leaves}
use Rattle.native_protocol.specs.declared.progress.Progress.TheVariants.{Going, Ready}
use Rattle.native_protocol.specs.declared.progress.Progress.{Progress}
use Rattle.native_protocol.specs.declared.request.Answer.{Answer}
use Rattle.native_protocol.specs.declared.request.Request.TheVariants.{Leave}
use Rattle.native_protocol.specs.declared.request.Request.{Request}
use Rattle.object_functions.specs.AncestorMachine.{ancestor_begin, ancestor_asks, ancestor_after, ancestor_rest}
use Rattle.object_functions.specs.DefiningMachine.{defining_call_begin, defining_call_asks, defining_call_after, defining_call_rest, defining_clause}
use Rattle.object_functions.specs.IntegrityMachine.{integrity_begin, integrity_asks, integrity_after, integrity_rest, integrity_clause}
use Rattle.object_functions.specs.ObjectMachine.{object_begin, object_asks, object_after, object_rest}
use Rattle.object_functions.specs.Objects as objects
use Rattle.object_functions.specs.OwnTestMachine.{own_test_begin, own_test_asks, own_test_after, own_test_rest, own_test_clause}
use Rattle.object_functions.specs.PropertyMachine.{property_begin, property_asks, property_after, property_rest, property_clause}
use Rattle.object_functions.specs.Prototypes.{is_prototype_of}
use Rattle.object_functions.specs.ReflectionMachine.{reflection_begin, reflection_asks, reflection_after, reflection_rest, reflection_clause}
use Rattle.object_functions.specs.ThisMachine.{this_begin, this_asks, this_after, this_rest, this_clause}
use Rattle.object_functions.specs.declared.defining.DefiningFunction.TheVariants as defining
use Rattle.object_functions.specs.declared.integrity.IntegrityFunction.TheVariants as integrity
use Rattle.object_functions.specs.declared.own_test.OwnTest.TheVariants as test
use Rattle.object_functions.specs.declared.property.PropertyFunction.TheVariants as property
use Rattle.object_functions.specs.declared.reflection.ReflectionFunction.TheVariants as reflection
use Rattle.object_functions.specs.declared.this.ThisFunction.TheVariants as this
use Rattle.object_natives.specs.Table.{path, entries, none}
use Rattle.object_natives.specs.declared.call.Call.TheVariants as call
use Rattle.object_natives.specs.declared.call.Call.{Call}
use Rattle.object_natives.specs.declared.call.ObjectState.TheVariants as state
use Rattle.object_natives.specs.declared.call.ObjectState.{ObjectState}
use Rattle.object_natives.specs.declared.table.BuiltIn.TheVariants as built_in
use Rattle.object_natives.specs.declared.table.BuiltIn.{BuiltIn}
use Rattle.primitive_natives.specs.BooleanMachine.{boolean_begin, boolean_asks, boolean_after, boolean_rest, boolean_clause}
use Rattle.primitive_natives.specs.Machines.{ending_asks, ending_after, ending_rest}
use Rattle.primitive_natives.specs.MathMachine.{math_begin, math_asks, math_after, math_rest, math_clause}
use Rattle.primitive_natives.specs.NumberMachine.{number_call_begin, number_call_asks, number_call_after, number_call_rest, number_clause}
use Rattle.primitive_natives.specs.declared.boolean.BooleanFunction.TheVariants as boolean
use Rattle.primitive_natives.specs.declared.ending.Ending.{Ending}
use Rattle.primitive_natives.specs.declared.math.MathFunction.TheVariants as math
use Rattle.primitive_natives.specs.declared.number.NumberFunction.TheVariants as number
use Rattle.descriptor_pieces.specs.declared.property.Integrity.TheVariants.{Sealed, Frozen}

-- What each built-in of this set is.
abbrev pub built_ins : List BuiltIn
built_ins =
    (built_in.Object ∷
    built_in.Boolean boolean.Boolean ∷
    built_in.Number number.Number ∷ []) ++
    replicate 12 built_in.LeftOut ++
    (built_in.Reflection reflection.GetPrototypeOf ∷
    built_in.Property property.GetOwnPropertyDescriptor ∷
    built_in.Reflection reflection.GetOwnPropertyNames ∷
    built_in.Defining defining.Create ∷
    built_in.Property property.DefineProperty ∷
    built_in.Defining defining.DefineProperties ∷
    built_in.Integrity (integrity.Set Sealed) ∷
    built_in.Integrity (integrity.Set Frozen) ∷
    built_in.Reflection reflection.PreventExtensions ∷
    built_in.Integrity (integrity.Test Sealed) ∷
    built_in.Integrity (integrity.Test Frozen) ∷
    built_in.Reflection reflection.IsExtensible ∷
    built_in.Reflection reflection.Keys ∷
    built_in.This this.ToString ∷
    built_in.This this.ValueOf ∷
    built_in.OwnTest test.There ∷
    built_in.IsPrototypeOf ∷
    built_in.OwnTest test.Enumerable ∷
    built_in.LeftOut ∷
    built_in.Boolean boolean.ToString ∷
    built_in.Boolean boolean.ValueOf ∷ []) ++
    replicate 5 built_in.LeftOut ++
    (built_in.Number number.ValueOf ∷ []) ++
    replicate 4 built_in.LeftOut ++
    (built_in.Math math.Abs ∷
    built_in.Math math.Max ∷
    built_in.Math math.Min ∷ []) ++
    replicate 23 built_in.LeftOut

-- ---- the machine of a call

-- a machine goes on, or has come to its ending
abbrev pub wrapped : {State : Type 0} → (State → Call) → Progress State Ending → Call
wrapped in_call (Going state) = in_call state
wrapped in_call (Ready e) = call.Ends e

abbrev pub call_begin : BuiltIn → SeenEntry → ℕ → Bool → Call
call_begin built_in.LeftOut e argc construct = call.LeftOut (path e.holder e.name)
call_begin built_in.Object e argc construct = call.Object (object_begin argc)
call_begin (built_in.Boolean f) e argc construct = wrapped call.Boolean (boolean_begin f argc construct)
call_begin (built_in.Number f) e argc construct = wrapped call.Number (number_call_begin f argc construct)
call_begin (built_in.Math f) e argc construct = wrapped call.Math (math_begin f argc)
call_begin (built_in.Reflection f) e argc construct = call.Reflection (reflection_begin f argc)
call_begin (built_in.Property f) e argc construct = call.Property (property_begin f argc)
call_begin (built_in.Defining f) e argc construct = call.Defining (defining_call_begin f argc)
call_begin (built_in.Integrity f) e argc construct = call.Integrity (integrity_begin f argc)
call_begin (built_in.This f) e argc construct = call.This (this_begin f argc)
call_begin (built_in.OwnTest f) e argc construct = call.OwnTest (own_test_begin f argc)
call_begin built_in.IsPrototypeOf e argc construct = call.Ancestor (ancestor_begin argc)

abbrev pub call_asks : Call → Request
call_asks (call.Ancestor c) = ancestor_asks c
call_asks (call.Boolean c) = boolean_asks c
call_asks (call.Defining c) = defining_call_asks c
call_asks (call.Integrity c) = integrity_asks c
call_asks (call.Math c) = math_asks c
call_asks (call.Number c) = number_call_asks c
call_asks (call.Object c) = object_asks c
call_asks (call.OwnTest c) = own_test_asks c
call_asks (call.Property c) = property_asks c
call_asks (call.Reflection c) = reflection_asks c
call_asks (call.This c) = this_asks c
call_asks (call.LeftOut name) = Leave name
call_asks (call.Ends e) = ending_asks e

abbrev pub call_after : Call → Answer → Call
call_after (call.Ancestor c) a = wrapped call.Ancestor (ancestor_after c a)
call_after (call.Boolean c) a = wrapped call.Boolean (boolean_after c a)
call_after (call.Defining c) a = wrapped call.Defining (defining_call_after c a)
call_after (call.Integrity c) a = wrapped call.Integrity (integrity_after c a)
call_after (call.Math c) a = wrapped call.Math (math_after c a)
call_after (call.Number c) a = wrapped call.Number (number_call_after c a)
call_after (call.Object c) a = wrapped call.Object (object_after c a)
call_after (call.OwnTest c) a = wrapped call.OwnTest (own_test_after c a)
call_after (call.Property c) a = wrapped call.Property (property_after c a)
call_after (call.Reflection c) a = wrapped call.Reflection (reflection_after c a)
call_after (call.This c) a = wrapped call.This (this_after c a)
call_after (call.LeftOut name) a = call.LeftOut name
call_after (call.Ends e) a = call.Ends (ending_after e)

-- which steps are still to take
abbrev pub call_rest : Call → Steps
call_rest (call.Ancestor c) = ancestor_rest c
call_rest (call.Boolean c) = boolean_rest c
call_rest (call.Defining c) = defining_call_rest c
call_rest (call.Integrity c) = integrity_rest c
call_rest (call.Math c) = math_rest c
call_rest (call.Number c) = number_call_rest c
call_rest (call.Object c) = object_rest c
call_rest (call.OwnTest c) = own_test_rest c
call_rest (call.Property c) = property_rest c
call_rest (call.Reflection c) = reflection_rest c
call_rest (call.This c) = this_rest c
call_rest (call.LeftOut name) = leaves name
call_rest (call.Ends e) = ending_rest e

-- ---- and of a state, in which a call has begun or goes on

unfoldable pub entry_at : ℕ → SeenEntry
entry_at which = get_or entries which none

unfoldable pub built_in_at : ℕ → BuiltIn
built_in_at which = get_or built_ins which built_in.LeftOut

abbrev pub state_begin : ℕ → ℕ → Bool → ObjectState
state_begin which argc construct = state.Begun (call_begin (built_in_at which) (entry_at which) argc construct)

abbrev pub state_asks : ObjectState → Request
state_asks (state.Begun c) = call_asks c
state_asks (state.Running c) = call_asks c

abbrev pub state_after : ObjectState → Answer → ObjectState
state_after (state.Begun c) a = state.Running c
state_after (state.Running c) a = state.Running (call_after c a)

-- ---- the clause of each

abbrev pub clause_of : BuiltIn → SeenEntry → ℕ → Bool → Steps
clause_of built_in.LeftOut e argc construct = leaves (path e.holder e.name)
clause_of built_in.Object e argc construct = objects.object argc
clause_of (built_in.Boolean f) e argc construct = boolean_clause f argc construct
clause_of (built_in.Number f) e argc construct = number_clause f argc construct
clause_of (built_in.Math f) e argc construct = math_clause f argc
clause_of (built_in.Reflection f) e argc construct = reflection_clause f argc
clause_of (built_in.Property f) e argc construct = property_clause f argc
clause_of (built_in.Defining f) e argc construct = defining_clause f argc
clause_of (built_in.Integrity f) e argc construct = integrity_clause f argc
clause_of (built_in.This f) e argc construct = this_clause f argc
clause_of (built_in.OwnTest f) e argc construct = own_test_clause f argc
clause_of built_in.IsPrototypeOf e argc construct = is_prototype_of argc
