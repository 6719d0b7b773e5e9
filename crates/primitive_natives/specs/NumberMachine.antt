-- The machine of the built-ins of Number.
use Rattle.std.specs.Prelude.{ℕ, zero, suc, Bool, true, false, pos}
use Rattle.js_number.specs.declared.num.Num.{Num}
use Rattle.js_number.specs.declared.num.Num.TheVariants.{Int}
use Rattle.js_number.specs.declared.primitive.Primitive.TheVariants as prims
use Rattle.js_values.specs.declared.inner.Class.TheVariants as class
use Rattle.native_protocol.specs.declared.number_of.NumberOf.{NumberOf}
use Rattle.native_protocol.specs.declared.progress.Progress.{Progress}
use Rattle.native_protocol.specs.declared.progress.Progress.TheVariants.{Going, Ready}
use Rattle.native_protocol.specs.declared.registers.Reg.{Reg}
use Rattle.native_protocol.specs.declared.request.Answer.{Answer}
use Rattle.native_protocol.specs.declared.request.ErrorKind.TheVariants as error
use Rattle.native_protocol.specs.declared.request.Request.{Request}
use Rattle.native_protocol.specs.declared.request.Request.TheVariants.{Look}
use Rattle.native_protocol.specs.declared.request.Seen.{Seen}
use Rattle.native_protocol.specs.declared.request.Seen.TheVariants.{Prim, Object}
use Rattle.native_protocol.specs.Pieces.{number_begin, number_asks, number_after, number_rest}
use Rattle.native_protocol.specs.Steps.{Steps, reg, seen_in}
use Rattle.primitive_natives.specs.declared.ending.Ending.{Ending}
use Rattle.primitive_natives.specs.declared.ending.Ending.TheVariants as ending
use Rattle.primitive_natives.specs.declared.ending.Left.TheVariants as why
use Rattle.primitive_natives.specs.declared.number.NumberCall.{NumberCall}
use Rattle.primitive_natives.specs.declared.number.NumberCall.TheVariants as call
use Rattle.primitive_natives.specs.declared.number.NumberFunction.{NumberFunction}
use Rattle.primitive_natives.specs.declared.number.NumberFunction.TheVariants as function
use Rattle.primitive_natives.specs.declared.scratch.Scratch.{Scratch}
use Rattle.primitive_natives.specs.Endings.{gives}
use Rattle.primitive_natives.specs.Numbers.{number, number_value_of}
use Rattle.primitive_natives.specs.Registers.{scratch}

-- the conversion of a register's value
abbrev pub number_at : Reg → Scratch → NumberOf
number_at r s = number_begin r s.first s.second

-- ---- how it begins

abbrev pub constructor_begin : ℕ → Bool → Progress NumberCall Ending
constructor_begin argc true = Ready (ending.Leave why.Wrapper)
constructor_begin zero false = Ready (ending.Give (prims.Num (Int (pos 0))) (scratch zero).first)
constructor_begin (suc n) false = Going (call.Convert (number_at (reg 2) (scratch (suc n))) (scratch (suc n)).first)

abbrev pub number_call_begin : NumberFunction → ℕ → Bool → Progress NumberCall Ending
number_call_begin function.Number argc construct = constructor_begin argc construct
number_call_begin function.ValueOf argc construct = Going call.LookValue

-- ---- what it asks for

abbrev pub number_call_asks : NumberCall → Request
number_call_asks (call.Convert number to) = number_asks number
number_call_asks call.LookValue = Look (reg 0)

-- ---- where an answer leads

abbrev pub converted : Progress NumberOf Num → Reg → Progress NumberCall Ending
converted (Going number) to = Going (call.Convert number to)
converted (Ready n) to = Ready (ending.Give (prims.Num n) to)

abbrev pub value_seen : Seen → Ending
value_seen (Prim (prims.Num n)) = ending.Return (reg 0)
value_seen (Prim p) = ending.Throw error.TypeError
value_seen (Object class.Number) = ending.Leave why.Wrapper
value_seen (Object c) = ending.Throw error.TypeError

abbrev pub number_call_after : NumberCall → Answer → Progress NumberCall Ending
number_call_after (call.Convert number to) a = converted (number_after number a) to
number_call_after call.LookValue a = Ready (value_seen (seen_in a))

-- ---- which steps are still to take

abbrev pub number_call_rest : NumberCall → Steps
number_call_rest (call.Convert number to) = number_rest number (λ n. gives (prims.Num n) to)
number_call_rest call.LookValue = number_value_of

-- the clause of each
abbrev pub number_clause : NumberFunction → ℕ → Bool → Steps
number_clause function.Number argc construct = number argc construct
number_clause function.ValueOf argc construct = number_value_of
