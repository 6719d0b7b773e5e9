-- Where an object is needed, the steps go on or end as the machines do.
use Rattle.std.proofs.Common.{◌≡◌, List, refl, if◌then◌else◌}
use Rattle.js_number.specs.declared.primitive.Primitive.TheVariants as prims
use Rattle.native_protocol.specs.Steps.{Steps, is_object, throws_type_error}
use Rattle.native_protocol.specs.declared.request.Answer.{Answer}
use Rattle.native_protocol.specs.declared.request.Seen.TheVariants.{Prim, Object}
use Rattle.native_protocol.specs.declared.request.Seen.{Seen}
use Rattle.object_functions.specs.Kinds.{to_object}
use Rattle.object_functions.specs.Needs.{unless_object, unless_converted, ready_or}
use Rattle.primitive_natives.specs.Machines.{until_end}

pub object_needed : {State : Type 0} (rest : State → Steps) (v : Seen) (state : State) (answers : List Answer) → (if is_object v then rest state else throws_type_error) answers ≡ until_end rest (ready_or (unless_object v) state) answers
object_needed rest (Object c) state answers = refl
object_needed rest (Prim p) state answers = refl

pub converted_needed : {State : Type 0} (rest : State → Steps) (v : Seen) (state : State) (answers : List Answer) → to_object v (rest state) answers ≡ until_end rest (ready_or (unless_converted v) state) answers
converted_needed rest (Object c) state answers = refl
converted_needed rest (Prim prims.Undefined) state answers = refl
converted_needed rest (Prim prims.Null) state answers = refl
converted_needed rest (Prim p) state answers = refl
