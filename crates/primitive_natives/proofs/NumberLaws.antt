-- The machine of Number's built-ins takes their steps.
use Rattle.std.proofs.Common.{◌≡◌, ℕ, zero, suc, Bool, true, false, List, [], ◌∷◌, refl, ◌∙◌}
use Rattle.js_number.specs.declared.num.Num.{Num}
use Rattle.js_number.specs.declared.primitive.Primitive.TheVariants as prims
use Rattle.js_values.specs.declared.inner.Class.TheVariants as class
use Rattle.native_protocol.proofs.PieceLaws.{number_is}
use Rattle.native_protocol.specs.declared.number_of.NumberOf.{NumberOf}
use Rattle.native_protocol.specs.declared.progress.Progress.{Progress}
use Rattle.native_protocol.specs.declared.progress.Progress.TheVariants.{Going, Ready}
use Rattle.native_protocol.specs.declared.registers.Reg.{Reg}
use Rattle.native_protocol.specs.declared.request.Answer.{Answer}
use Rattle.native_protocol.specs.declared.request.Seen.{Seen}
use Rattle.native_protocol.specs.declared.request.Seen.TheVariants.{Prim, Object}
use Rattle.native_protocol.specs.Pieces.{number_rest, number_after}
use Rattle.native_protocol.specs.Running.{carried_on}
use Rattle.native_protocol.specs.Steps.{ends, reg, seen_in}
use Rattle.primitive_natives.specs.declared.number.NumberCall.{NumberCall}
use Rattle.primitive_natives.specs.declared.number.NumberCall.TheVariants as call
use Rattle.primitive_natives.specs.declared.number.NumberFunction.{NumberFunction}
use Rattle.primitive_natives.specs.declared.number.NumberFunction.TheVariants as function
use Rattle.primitive_natives.specs.Endings.{gives}
use Rattle.primitive_natives.specs.Machines.{ending_rest, until_end, IsMachine}
use Rattle.primitive_natives.specs.NumberMachine.{number_call_begin, number_call_asks, number_call_after, number_call_rest, number_clause, converted, value_seen}
use Rattle.primitive_natives.specs.Numbers.{number_in}
use Rattle.native_protocol.specs.declared.request.Request.TheVariants.{Return}

first_asked : (c : NumberCall) → number_call_rest c [] ≡ number_call_asks c
first_asked (call.Convert number to) = number_is.first number _
first_asked call.LookValue = refl

converted_joins : (p : Progress NumberOf Num) (to : Reg) (answers : List Answer) → carried_on number_rest p (λ n. gives (prims.Num n) to) answers ≡ until_end number_call_rest (converted p to) answers
converted_joins (Going number) to answers = refl
converted_joins (Ready n) to answers = refl

value_joins : (v : Seen) (answers : List Answer) → number_in v (λ n. ends (Return (reg 0))) answers ≡ ending_rest (value_seen v) answers
value_joins (Prim (prims.Num n)) answers = refl
value_joins (Prim p) answers = refl
value_joins (Object class.Number) answers = refl
value_joins (Object c) answers = refl

others_asked : (c : NumberCall) (a : Answer) (answers : List Answer) → number_call_rest c (a ∷ answers) ≡ until_end number_call_rest (number_call_after c a) answers
others_asked (call.Convert number to) a answers = number_is.others number _ a answers ∙ converted_joins (number_after number a) to answers
others_asked call.LookValue a answers = value_joins (seen_in a) answers

pub number_machine : IsMachine number_call_asks number_call_after number_call_rest
number_machine = record { first = first_asked; others = others_asked }

pub number_begins : (f : NumberFunction) (argc : ℕ) (construct : Bool) (answers : List Answer) → until_end number_call_rest (number_call_begin f argc construct) answers ≡ number_clause f argc construct answers
number_begins function.Number argc true answers = refl
number_begins function.Number zero false answers = refl
number_begins function.Number (suc n) false answers = refl
number_begins function.ValueOf argc construct answers = refl
