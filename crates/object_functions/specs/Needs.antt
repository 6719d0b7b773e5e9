-- How a call ends where an object is needed and there is none.
use Rattle.std.specs.Prelude.{Option, Some, None}
use Rattle.js_number.specs.declared.primitive.Primitive.TheVariants as prims
use Rattle.native_protocol.specs.declared.progress.Progress.TheVariants.{Going, Ready}
use Rattle.native_protocol.specs.declared.progress.Progress.{Progress}
use Rattle.native_protocol.specs.declared.request.ErrorKind.TheVariants as error
use Rattle.native_protocol.specs.declared.request.Seen.TheVariants.{Prim, Object}
use Rattle.native_protocol.specs.declared.request.Seen.{Seen}
use Rattle.primitive_natives.specs.declared.ending.Ending.TheVariants as ending
use Rattle.primitive_natives.specs.declared.ending.Ending.{Ending}
use Rattle.primitive_natives.specs.declared.ending.Left.TheVariants as why

-- where the type must be Object
abbrev pub unless_object : Seen → Option Ending
unless_object (Object c) = None
unless_object (Prim p) = Some (ending.Throw error.TypeError)

-- where ToObject is applied
abbrev pub unless_converted : Seen → Option Ending
unless_converted (Object c) = None
unless_converted (Prim prims.Undefined) = Some (ending.Throw error.TypeError)
unless_converted (Prim prims.Null) = Some (ending.Throw error.TypeError)
unless_converted (Prim p) = Some (ending.Leave why.Wrapper)

-- the call ends so, or goes on
abbrev pub ready_or : {State : Type 0} → Option Ending → State → Progress State Ending
ready_or (Some e) state = Ready e
ready_or None state = Going state
