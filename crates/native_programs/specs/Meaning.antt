-- What the lines of a program mean: steps.
use Rattle.std.specs.Prelude.{ℕ, zero, suc, Bool, List, [], ◌∷◌, length, if◌then◌else◌}
use Rattle.js_number.specs.declared.primitive.Primitive.TheVariants as prims
use Rattle.native_protocol.specs.declared.hint.Hint.TheVariants as hint
use Rattle.native_protocol.specs.declared.registers.Reg.{Reg}
use Rattle.native_protocol.specs.declared.request.Request.TheVariants as request
use Rattle.native_protocol.specs.declared.request.Seen.{Seen}
use Rattle.native_protocol.specs.declared.request.Seen.TheVariants.{Prim, Object}
use Rattle.native_protocol.specs.Steps.{Steps, ask, look, ends, leaves, throws_type_error, primitive_in, text_in, number_or_leave}
use Rattle.js_number.specs.Conversions.{number_of}
use Rattle.js_number.specs.declared.num.Num.{Num}
use Rattle.native_programs.specs.declared.line.Ask.{Ask}
use Rattle.native_programs.specs.declared.line.Ask.TheVariants as asking
use Rattle.native_programs.specs.declared.line.End.{End}
use Rattle.native_programs.specs.declared.line.End.TheVariants as end
use Rattle.native_programs.specs.declared.line.Exit.{Exit}
use Rattle.native_programs.specs.declared.line.Exit.TheVariants as exit
use Rattle.native_programs.specs.declared.line.Line.{Line}
use Rattle.native_programs.specs.declared.line.Line.TheVariants as line
use Rattle.native_programs.specs.declared.line.Reason.TheVariants as reason
use Rattle.native_programs.specs.declared.lines.Left.{Left}
use Rattle.native_programs.specs.declared.lines.Left.TheVariants as left
use Rattle.native_programs.specs.declared.values.Values.{Values}
use Rattle.native_programs.specs.Asking.{asks, end_asks, free_reg, reg_of, reason_of, type_error}
use Rattle.native_programs.specs.Choosing.{amount_of, holds, sees, turns_of, bumped, whole_of}
use Rattle.native_programs.specs.Values.{values_begin, with_counter, with_text, with_held, with_number, with_seen, text_kept, cleared}
use Rattle.native_programs.specs.Wordings.{worded, fits, has_room, appended, pushed}

-- ---- steps that clauses are written with

-- ToObject (ECMA-262 9.9): a wrapper of a primitive value isn't offered
abbrev pub object_or : Seen → Steps → Steps → Steps → Steps
object_or (Object c) next throws leaves_run = next
object_or (Prim prims.Undefined) next throws leaves_run = throws
object_or (Prim prims.Null) next throws leaves_run = throws
object_or (Prim p) next throws leaves_run = leaves_run

-- the text of what was seen in a register, and the register that holds it: two more registers are for what the conversion needs
abbrev pub text_of_seen : Seen → Reg → Reg → Reg → (List ℕ → Reg → Steps) → Steps
text_of_seen s r method value next = primitive_in hint.String s r method value (λ p at. text_in p at value next)

-- the number of what was seen in a register
abbrev pub number_of_seen : Seen → Reg → Reg → Reg → (Num → Steps) → Steps
number_of_seen s r method value next = primitive_in hint.Number s r method value (λ p at. number_or_leave (number_of p) next)

-- so many times the body, which goes on with what it made of what came before
unfoldable pub each : {A : Type 0} → ℕ → (A → (A → Steps) → Steps) → (A → Steps) → A → Steps
each zero body finish a = finish a
each (suc n) body finish a = body a (each n body finish)

-- the body again and again: each time it asks for something, so that the answers are as many as the times, or more
unfoldable pub endless : {A : Type 0} → (A → (A → Steps) → Steps) → A → Steps
endless {A = A} body a answers = each (suc (length answers)) body (λ (b : A). throws_type_error) a answers

-- ---- what lines mean

abbrev pub ended : End → Values → Steps
ended (end.Return p) v = ends (request.Return (reg_of v p))
ended (end.Give f) v = ask (end_asks (end.Give f) v) (ends (request.Return (free_reg v.argc 2)))
ended (end.Throw kind) v = ends (request.ThrowNew kind)
ended (end.Leave r) v = leaves (reason_of r)

-- where an exit leads: it stays, or the loop's next turn, or behind the loop
abbrev pub exit_steps : (Values → Steps) → (Values → Steps) → (Values → Steps) → Exit → Values → Steps
exit_steps stay turn done exit.Stay v = stay v
exit_steps stay turn done (exit.Ends e) v = ended e v
exit_steps stay turn done exit.NextTurn v = turn v
exit_steps stay turn done exit.LeaveLoop v = done v

-- a line that asks, with what follows it and where it goes on elsewhere
abbrev pub asked : Ask → Values → (Values → Steps) → (Exit → Values → Steps) → Steps
asked (asking.ToObject at) v next out = look (reg_of v at) (λ s. object_or s (next v) (out type_error v) (out (exit.Ends (end.Leave reason.Wrapper)) v))
asked (asking.Look at s e) v next out = look (reg_of v at) (λ seen. if sees s seen then next (with_seen seen v) else out e (with_seen seen v))
asked (asking.Text at s to e) v next out =
    look (reg_of v at) (λ seen. if sees s seen then text_of_seen seen (reg_of v at) (free_reg v.argc 0) (free_reg v.argc 1) (λ text r. next (with_held r (with_text to text v))) else out e v)
asked (asking.Number at s to how e) v next out =
    look (reg_of v at) (λ seen. if sees s seen then number_of_seen seen (reg_of v at) (free_reg v.argc 0) (free_reg v.argc 1) (λ n. next (with_number n (with_counter to (whole_of how n) v))) else out e v)
asked (asking.Ends e) v next out = ended e v
asked act v next out = ask (asks act v) (next v)

abbrev pub repeated : Left → (Values → (Values → Steps) → Steps) → (Values → Steps) → Values → Steps
repeated (left.Turns n) body finish v = each n body finish v
repeated left.Endless body finish v = endless body v

-- the lines behind the ends of so many loops and conditional parts that they stand in, in a loop of which the next turn and what is behind it are known
abbrev pub meaning : ℕ → List Line → (Values → Steps) → (Values → Steps) → Values → Steps
meaning d [] turn done v = throws_type_error
meaning zero (line.Ask a ∷ ls) turn done v = asked a v (meaning zero ls turn done) (exit_steps (meaning zero ls turn done) turn done)
meaning zero (line.AskIf c a ∷ ls) turn done v = if holds c v then asked a v (meaning zero ls turn done) (exit_steps (meaning zero ls turn done) turn done) else meaning zero ls turn done v
meaning zero (line.Let c m ∷ ls) turn done v = meaning zero ls turn done (with_counter c (amount_of v m) v)
meaning zero (line.Set t w ∷ ls) turn done v = meaning zero ls turn done (with_text t (worded w v) v)
meaning zero (line.Append to from ∷ ls) turn done v = if fits (text_kept v to) (text_kept v from) then meaning zero ls turn done (appended to from v) else leaves (reason_of reason.Text)
meaning zero (line.Push to unit ∷ ls) turn done v = if has_room (text_kept v to) then meaning zero ls turn done (pushed to unit v) else leaves (reason_of reason.Text)
meaning zero (line.Go e ∷ ls) turn done v = exit_steps (meaning zero ls turn done) turn done e v
meaning zero (line.If c ∷ ls) turn done v = if holds c v then meaning zero ls turn done v else meaning (suc zero) ls turn done v
meaning zero (line.EndIf ∷ ls) turn done v = meaning zero ls turn done v
meaning zero (line.When c e ∷ ls) turn done v = if holds c v then exit_steps (meaning zero ls turn done) turn done e v else meaning zero ls turn done v
meaning zero (line.Loop c a ∷ ls) turn done v =
    repeated (turns_of c v)
    (λ w again. asked a w
    (meaning zero ls (λ u. again (bumped c u)) (meaning (suc zero) ls turn done))
    (exit_steps (meaning zero ls (λ u. again (bumped c u)) (meaning (suc zero) ls turn done)) (λ u. again (bumped c u)) (meaning (suc zero) ls turn done)))
    (meaning (suc zero) ls turn done) (cleared v)
meaning zero (line.EndLoop ∷ ls) turn done v = turn v
meaning (suc d) (line.EndLoop ∷ ls) turn done v = meaning d ls turn done v
meaning (suc d) (line.EndIf ∷ ls) turn done v = meaning d ls turn done v
meaning (suc d) (line.If c ∷ ls) turn done v = meaning (suc (suc d)) ls turn done v
meaning (suc d) (line.Loop c a ∷ ls) turn done v = meaning (suc (suc d)) ls turn done v
meaning (suc d) (other ∷ ls) turn done v = meaning (suc d) ls turn done v

abbrev pub fails : Values → Steps
fails v = throws_type_error

-- the steps of a call of a program
abbrev pub means : List Line → ℕ → Bool → Steps
means lines argc construct = meaning zero lines fails fails (values_begin argc construct)
