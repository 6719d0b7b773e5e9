-- A call of a built-in of a table takes the steps of its lines, or leaves.
use Rattle.std.proofs.Common.{◌≡◌, ℕ, Bool, List, [], ◌∷◌, Option, Some, None, Result, IfOk, refl, ◌∙◌, ap, subst}
use Rattle.native_protocol.specs.declared.request.Answer.{Answer}
use Rattle.native_protocol.specs.declared.request.Answer.TheVariants as answer
use Rattle.native_protocol.specs.Running.{behind}
use Rattle.native_protocol.specs.declared.natives.Form.{Form}
use Rattle.native_protocol.specs.Sets.{SeenEntry, seen_entry}
use Rattle.native_programs.proofs.RunLaws.{program_follows}
use Rattle.native_programs.specs.declared.call.Call.{Call}
use Rattle.native_programs.specs.declared.line.Line.{Line}
use Rattle.native_programs.specs.declared.program.ProgramCall.{ProgramCall}
use Rattle.native_programs.specs.declared.program.ProgramCall.TheVariants.{Lines, LeftOut}
use Rattle.native_programs.specs.Advancing.{call_begin, call_asks, call_after}
use Rattle.native_programs.specs.Programs.{lines_begin, left_begin, program_begin, program_asks, program_after, program_steps}
use Rattle.native_programs.specs.Tables.{path, left_out}

in_lines : (c : Call) (answers : List Answer) → program_asks (behind program_after (Lines c) answers) ≡ call_asks (behind call_after c answers)
in_lines c [] = refl
in_lines c (a ∷ answers) = in_lines (call_after c a) answers

in_left : (e : SeenEntry) (answers : List Answer) → program_asks (behind program_after (LeftOut (path e.holder e.name)) answers) ≡ left_out e answers
in_left e [] = refl
in_left e (a ∷ answers) = in_left e answers

pub call_follows : (lines : Option (List Line)) (e : SeenEntry) (argc : ℕ) (construct : Bool) (answers : List Answer) → program_asks (behind program_after (program_begin lines e argc construct) (answer.Begin ∷ answers)) ≡ program_steps lines e argc construct answers
call_follows (Some lines) e argc construct answers = in_lines (call_begin lines argc construct) (answer.Begin ∷ answers) ∙ program_follows lines argc construct answers
call_follows None e argc construct answers = in_left e (answer.Begin ∷ answers)

-- ---- the start of a call in a set: `x` is what the row of the table has, and `b` what the definitions have

pub lines_start : {B E : Type 0} (lines_of : B → Option (List Line)) (r : Result ProgramCall E) (lines : List Line) (x b : B) (e : SeenEntry) (argc : ℕ) (construct : Bool)
    → IfOk r (λ call. call ≡ lines_begin lines argc construct) → Some lines ≡ lines_of x → x ≡ b → IfOk r (λ call. call ≡ program_begin (lines_of b) e argc construct)
lines_start lines_of r lines x b e argc construct h is same =
    subst (λ (o : Option (List Line)). IfOk r (λ call. call ≡ program_begin o e argc construct)) (is ∙ ap lines_of same) h

pub left_start : {B E : Type 0} (lines_of : B → Option (List Line)) (r : Result ProgramCall E) (holder name : List ℕ) (size : ℕ) (form : Form) (x b : B) (e : SeenEntry) (argc : ℕ) (construct : Bool)
    → IfOk r (λ call. call ≡ left_begin holder name) → None ≡ lines_of x → x ≡ b → seen_entry holder name size form ≡ e → IfOk r (λ call. call ≡ program_begin (lines_of b) e argc construct)
left_start lines_of r holder name size form x b e argc construct h is same entry =
    subst (λ (o : Option (List Line)). IfOk r (λ call. call ≡ program_begin o e argc construct)) (is ∙ ap lines_of same)
    (subst (λ (y : SeenEntry). IfOk r (λ call. call ≡ left_begin y.holder y.name)) entry h)
