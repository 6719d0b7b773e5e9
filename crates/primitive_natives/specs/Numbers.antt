-- Numbers (ECMA-262 15.7).
use Rattle.std.specs.Prelude.{ℕ, zero, suc, Bool, true, false, pos}
use Rattle.js_number.specs.declared.num.Num.{Num}
use Rattle.js_number.specs.declared.num.Num.TheVariants.{Int}
use Rattle.js_number.specs.declared.primitive.Primitive.TheVariants as prims
use Rattle.js_values.specs.declared.inner.Class.TheVariants as class
use Rattle.native_protocol.specs.declared.request.Request.TheVariants.{Return}
use Rattle.native_protocol.specs.declared.request.Seen.{Seen}
use Rattle.native_protocol.specs.declared.request.Seen.TheVariants.{Prim, Object}
use Rattle.native_protocol.specs.Steps.{Steps, look, ends, reg, throws_type_error, number_of_register}
use Rattle.primitive_natives.specs.Endings.{gives, leaves_by_wrapper}
use Rattle.primitive_natives.specs.Registers.{scratch}

-- `Number(value)` (15.7.1.1) and `new Number(value)` (15.7.2.1): 0 where no value was passed
abbrev pub number : ℕ → Bool → Steps
number argc true = leaves_by_wrapper
number zero false = gives (prims.Num (Int (pos 0))) (scratch zero).first
number (suc n) false = number_of_register (reg 2) (scratch (suc n)).first (scratch (suc n)).second (λ value. gives (prims.Num value) (scratch (suc n)).first)

-- the Number value that `this` is (15.7.4). The prototype is the only object of the class.
abbrev pub number_in : Seen → (Num → Steps) → Steps
number_in (Prim (prims.Num n)) next = next n
number_in (Prim p) next = throws_type_error
number_in (Object class.Number) next = leaves_by_wrapper
number_in (Object c) next = throws_type_error

-- Number.prototype.valueOf (15.7.4.4)
abbrev pub number_value_of : Steps
number_value_of = look (reg 0) (λ v. number_in v (λ n. ends (Return (reg 0))))
