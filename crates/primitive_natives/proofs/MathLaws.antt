-- The machine of the functions of Math takes their steps.
use Rattle.std.proofs.Common.{◌≡◌, ℕ, zero, suc, ◌+◌, List, [], ◌∷◌, refl, ◌∙◌}
use Rattle.js_number.specs.declared.num.Num.{Num}
use Rattle.js_number.specs.declared.primitive.Primitive.TheVariants as prims
use Rattle.native_protocol.proofs.PieceLaws.{number_is}
use Rattle.native_protocol.specs.declared.number_of.NumberOf.{NumberOf}
use Rattle.native_protocol.specs.declared.progress.Progress.{Progress}
use Rattle.native_protocol.specs.declared.progress.Progress.TheVariants.{Going, Ready}
use Rattle.native_protocol.specs.declared.registers.Reg.{Reg}
use Rattle.native_protocol.specs.declared.request.Answer.{Answer}
use Rattle.native_protocol.specs.Pieces.{number_rest, number_after}
use Rattle.native_protocol.specs.Running.{carried_on}
use Rattle.primitive_natives.specs.declared.math.Comparing.{Comparing}
use Rattle.primitive_natives.specs.declared.math.MathCall.{MathCall}
use Rattle.primitive_natives.specs.declared.math.MathCall.TheVariants as call
use Rattle.primitive_natives.specs.declared.math.MathFunction.{MathFunction}
use Rattle.primitive_natives.specs.declared.math.MathFunction.TheVariants as function
use Rattle.primitive_natives.specs.Endings.{gives}
use Rattle.primitive_natives.specs.Machines.{until_end, IsMachine}
use Rattle.primitive_natives.specs.MathMachine.{math_begin, math_asks, math_after, math_rest, math_clause, absolute, better, best_and, best_found, best_converted, best_rest}
use Rattle.primitive_natives.specs.Maths.{absolute_of, best_with}

first_asked : (c : MathCall) → math_rest c [] ≡ math_asks c
first_asked (call.Abs number to) = number_is.first number _
first_asked (call.Best c number) = number_is.first number (best_rest c)

absolute_joins : (p : Progress NumberOf Num) (to : Reg) (answers : List Answer) → carried_on number_rest p (λ n. gives (prims.Num (absolute_of n)) to) answers ≡ until_end math_rest (absolute p to) answers
absolute_joins (Going number) to answers = refl
absolute_joins (Ready n) to answers = refl

found_joins : (c : Comparing) (left : ℕ) (best : Num) (answers : List Answer) → best_with (better c.extreme) c.scratch left (c.at + 1) best answers ≡ until_end math_rest (best_found c left best) answers
unfolding best_with
found_joins c zero best answers = refl
found_joins c (suc left) best answers = refl

best_joins : (c : Comparing) (p : Progress NumberOf Num) (answers : List Answer) → carried_on number_rest p (best_rest c) answers ≡ until_end math_rest (best_converted c p) answers
best_joins c (Going number) answers = refl
best_joins c (Ready n) answers = found_joins c c.left (best_and c.extreme c.best n) answers

others_asked : (c : MathCall) (a : Answer) (answers : List Answer) → math_rest c (a ∷ answers) ≡ until_end math_rest (math_after c a) answers
others_asked (call.Abs number to) a answers = number_is.others number _ a answers ∙ absolute_joins (number_after number a) to answers
others_asked (call.Best c number) a answers = number_is.others number (best_rest c) a answers ∙ best_joins c (number_after number a) answers

pub math_machine : IsMachine math_asks math_after math_rest
math_machine = record { first = first_asked; others = others_asked }

pub math_begins : (f : MathFunction) (argc : ℕ) (answers : List Answer) → until_end math_rest (math_begin f argc) answers ≡ math_clause f argc answers
math_begins function.Abs argc answers = refl
math_begins function.Max zero answers = refl
math_begins function.Max (suc others) answers = refl
math_begins function.Min zero answers = refl
math_begins function.Min (suc others) answers = refl
