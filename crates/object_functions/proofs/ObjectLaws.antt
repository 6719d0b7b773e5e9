-- The machine of `Object(value)` takes its steps.
use Rattle.std.proofs.Common.{◌≡◌, ℕ, List, [], ◌∷◌, refl}
use Rattle.js_number.specs.declared.primitive.Primitive.TheVariants as prims
use Rattle.native_protocol.specs.Steps.{seen_in}
use Rattle.native_protocol.specs.declared.registers.Reg.{Reg}
use Rattle.native_protocol.specs.declared.request.Answer.{Answer}
use Rattle.native_protocol.specs.declared.request.Seen.TheVariants.{Prim, Object}
use Rattle.native_protocol.specs.declared.request.Seen.{Seen}
use Rattle.object_functions.specs.ObjectMachine.{object_begin, object_asks, object_after, object_rest, value_seen}
use Rattle.object_functions.specs.Objects as objects
use Rattle.object_functions.specs.Objects.{object_of}
use Rattle.object_functions.specs.declared.object.ObjectCall.TheVariants as call
use Rattle.object_functions.specs.declared.object.ObjectCall.{ObjectCall}
use Rattle.primitive_natives.specs.Machines.{until_end, IsMachine}

first_asked : (c : ObjectCall) → object_rest c [] ≡ object_asks c
first_asked (call.Look to) = refl
first_asked (call.New to) = refl

value_joins : (v : Seen) (to : Reg) (answers : List Answer) → object_of v to answers ≡ until_end object_rest (value_seen v to) answers
value_joins (Prim prims.Undefined) to answers = refl
value_joins (Prim prims.Null) to answers = refl
value_joins (Prim p) to answers = refl
value_joins (Object c) to answers = refl

others_asked : (c : ObjectCall) (a : Answer) (answers : List Answer) → object_rest c (a ∷ answers) ≡ until_end object_rest (object_after c a) answers
others_asked (call.Look to) a answers = value_joins (seen_in a) to answers
others_asked (call.New to) a answers = refl

pub object_machine : IsMachine object_asks object_after object_rest
object_machine = record { first = first_asked; others = others_asked }

pub object_begins : (argc : ℕ) (answers : List Answer) → object_rest (object_begin argc) answers ≡ objects.object argc answers
object_begins argc answers = refl
