-- The machine of `Object(value)` and `new Object(value)`.
use Rattle.std.specs.Prelude.{ℕ, None}
use Rattle.js_number.specs.declared.primitive.Primitive.TheVariants as prims
use Rattle.js_values.specs.declared.inner.Class.TheVariants as class
use Rattle.native_protocol.specs.Steps.{Steps, look, reg, seen_in}
use Rattle.native_protocol.specs.declared.progress.Progress.TheVariants.{Going, Ready}
use Rattle.native_protocol.specs.declared.progress.Progress.{Progress}
use Rattle.native_protocol.specs.declared.registers.Reg.{Reg}
use Rattle.native_protocol.specs.declared.request.Answer.{Answer}
use Rattle.native_protocol.specs.declared.request.Request.TheVariants.{Look, New}
use Rattle.native_protocol.specs.declared.request.Request.{Request}
use Rattle.native_protocol.specs.declared.request.Seen.TheVariants.{Prim, Object}
use Rattle.native_protocol.specs.declared.request.Seen.{Seen}
use Rattle.object_functions.specs.Objects.{object_of, gives_asked}
use Rattle.object_functions.specs.Registers.{registers}
use Rattle.object_functions.specs.declared.object.ObjectCall.TheVariants as call
use Rattle.object_functions.specs.declared.object.ObjectCall.{ObjectCall}
use Rattle.primitive_natives.specs.declared.ending.Ending.TheVariants as ending
use Rattle.primitive_natives.specs.declared.ending.Ending.{Ending}
use Rattle.primitive_natives.specs.declared.ending.Left.TheVariants as why

abbrev pub object_begin : ℕ → ObjectCall
object_begin argc = call.Look (registers argc).first

abbrev pub object_asks : ObjectCall → Request
object_asks (call.Look to) = Look (reg 2)
object_asks (call.New to) = New class.Object None to

abbrev pub value_seen : Seen → Reg → Progress ObjectCall Ending
value_seen (Prim prims.Undefined) to = Going (call.New to)
value_seen (Prim prims.Null) to = Going (call.New to)
value_seen (Prim p) to = Ready (ending.Leave why.Wrapper)
value_seen (Object c) to = Ready (ending.Return (reg 2))

abbrev pub object_after : ObjectCall → Answer → Progress ObjectCall Ending
object_after (call.Look to) a = value_seen (seen_in a) to
object_after (call.New to) a = Ready (ending.Return to)

abbrev pub object_rest : ObjectCall → Steps
object_rest (call.Look to) = look (reg 2) (λ v. object_of v to)
object_rest (call.New to) = gives_asked (New class.Object None to) to
