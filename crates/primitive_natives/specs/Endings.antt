-- How built-ins end.
use Rattle.std.specs.Prelude.{codes}
use Rattle.js_number.specs.declared.primitive.Primitive.{Primitive}
use Rattle.native_protocol.specs.declared.registers.Reg.{Reg}
use Rattle.native_protocol.specs.declared.request.Request.TheVariants.{Make, Return}
use Rattle.native_protocol.specs.Steps.{Steps, ask, ends, leaves}

-- the value is made, and the call gives it
abbrev pub gives : Primitive → Reg → Steps
gives value to = ask (Make value to) (ends (Return to))

-- a wrapper of a primitive value would be needed, or the value of one
abbrev pub leaves_by_wrapper : Steps
leaves_by_wrapper = leaves (codes "wrapper")
