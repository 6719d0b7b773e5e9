-- Object, and those of its functions that read or change no single property (ECMA-262 15.2.1 to 15.2.3).
use Rattle.std.specs.Prelude.{ℕ, true, false, None}
use Rattle.js_number.specs.declared.primitive.Primitive.TheVariants as prims
use Rattle.js_values.specs.declared.inner.Class.TheVariants as class
use Rattle.native_protocol.specs.declared.registers.Reg.{Reg}
use Rattle.native_protocol.specs.declared.request.Request.{Request}
use Rattle.native_protocol.specs.declared.request.Request.TheVariants.{Proto, Extensible, Prevent, Keys, New, Return}
use Rattle.native_protocol.specs.declared.request.Seen.{Seen}
use Rattle.native_protocol.specs.declared.request.Seen.TheVariants.{Prim, Object}
use Rattle.native_protocol.specs.Steps.{Steps, ask, look, ends, reg}
use Rattle.object_functions.specs.Kinds.{object_argument}
use Rattle.object_functions.specs.Registers.{registers}
use Rattle.primitive_natives.specs.Endings.{leaves_by_wrapper}

-- the request is asked, and the call gives what the register holds then
abbrev pub gives_asked : Request → Reg → Steps
gives_asked request from = ask request (ends (Return from))

-- `Object(value)` (15.2.1.1) and `new Object(value)` (15.2.2.1)
abbrev pub object_of : Seen → Reg → Steps
object_of (Prim prims.Undefined) to = gives_asked (New class.Object None to) to
object_of (Prim prims.Null) to = gives_asked (New class.Object None to) to
object_of (Prim p) to = leaves_by_wrapper
object_of (Object c) to = ends (Return (reg 2))

abbrev pub object : ℕ → Steps
object argc = look (reg 2) (λ v. object_of v (registers argc).first)

-- Object.getPrototypeOf (15.2.3.2)
abbrev pub get_prototype_of : ℕ → Steps
get_prototype_of argc = object_argument (gives_asked (Proto (reg 2) (registers argc).first) (registers argc).first)

-- Object.getOwnPropertyNames (15.2.3.4)
abbrev pub get_own_property_names : ℕ → Steps
get_own_property_names argc = object_argument (gives_asked (Keys (reg 2) true (registers argc).first) (registers argc).first)

-- Object.preventExtensions (15.2.3.10)
abbrev pub prevent_extensions : Steps
prevent_extensions = object_argument (gives_asked (Prevent (reg 2)) (reg 2))

-- Object.isExtensible (15.2.3.13)
abbrev pub is_extensible : ℕ → Steps
is_extensible argc = object_argument (gives_asked (Extensible (reg 2) (registers argc).first) (registers argc).first)

-- Object.keys (15.2.3.14)
abbrev pub keys : ℕ → Steps
keys argc = object_argument (gives_asked (Keys (reg 2) false (registers argc).first) (registers argc).first)
