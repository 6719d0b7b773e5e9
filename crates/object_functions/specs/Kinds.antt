-- Objects and other values in a register.
use Rattle.std.specs.Prelude.{if◌then◌else◌}
use Rattle.js_number.specs.declared.primitive.Primitive.TheVariants as prims
use Rattle.native_protocol.specs.declared.request.Seen.{Seen}
use Rattle.native_protocol.specs.declared.request.Seen.TheVariants.{Prim, Object}
use Rattle.native_protocol.specs.Steps.{Steps, look, is_object, reg, throws_type_error}
use Rattle.primitive_natives.specs.Endings.{leaves_by_wrapper}

-- the first argument must be of type Object (15.2.3.2 and those behind it, step 1)
abbrev pub object_argument : Steps → Steps
object_argument next = look (reg 2) (λ v. if is_object v then next else throws_type_error)

-- ToObject (9.9): a wrapper of another primitive value isn't offered
abbrev pub to_object : Seen → Steps → Steps
to_object (Object c) next = next
to_object (Prim prims.Undefined) next = throws_type_error
to_object (Prim prims.Null) next = throws_type_error
to_object (Prim p) next = leaves_by_wrapper

abbrev pub this_object : Steps → Steps
this_object next = look (reg 0) (λ v. to_object v next)
