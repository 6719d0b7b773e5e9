-- Booleans (ECMA-262 15.6).
use Rattle.std.specs.Prelude.{ℕ, Bool, true, false}
use Rattle.js_number.specs.declared.primitive.Primitive.TheVariants as prims
use Rattle.js_number.specs.Conversions.{boolean_of, text_of}
use Rattle.js_values.specs.declared.inner.Class.TheVariants as class
use Rattle.native_protocol.specs.declared.request.Request.TheVariants.{Return}
use Rattle.native_protocol.specs.declared.request.Seen.{Seen}
use Rattle.native_protocol.specs.declared.request.Seen.TheVariants.{Prim, Object}
use Rattle.native_protocol.specs.Steps.{Steps, look, ends, reg, throws_type_error}
use Rattle.primitive_natives.specs.Endings.{gives, leaves_by_wrapper}
use Rattle.primitive_natives.specs.Registers.{scratch}

-- ToBoolean (ECMA-262 9.2)
abbrev pub truth_of : Seen → Bool
truth_of (Prim p) = boolean_of p
truth_of (Object c) = true

-- `Boolean(value)` (15.6.1.1) and `new Boolean(value)` (15.6.2.1)
abbrev pub boolean : ℕ → Bool → Steps
boolean argc true = leaves_by_wrapper
boolean argc false = look (reg 2) (λ v. gives (prims.Bool (truth_of v)) (scratch argc).first)

-- the Boolean value that `this` is (15.6.4.2 and 15.6.4.3, steps 1 to 4). The prototype is the only object of the class.
abbrev pub boolean_in : Seen → (Bool → Steps) → Steps
boolean_in (Prim (prims.Bool b)) next = next b
boolean_in (Prim p) next = throws_type_error
boolean_in (Object class.Boolean) next = leaves_by_wrapper
boolean_in (Object c) next = throws_type_error

-- Boolean.prototype.toString (15.6.4.2)
abbrev pub boolean_to_string : ℕ → Steps
boolean_to_string argc = look (reg 0) (λ v. boolean_in v (λ b. gives (prims.Str (text_of (prims.Bool b))) (scratch argc).first))

-- Boolean.prototype.valueOf (15.6.4.3)
abbrev pub boolean_value_of : Steps
boolean_value_of = look (reg 0) (λ v. boolean_in v (λ b. ends (Return (reg 0))))
