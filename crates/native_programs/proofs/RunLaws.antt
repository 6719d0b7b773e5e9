-- A call of a program takes the steps that its lines mean.
use Rattle.std.proofs.Common.{◌≡◌, ℕ, zero, suc, Bool, true, false, List, [], ◌∷◌, if◌then◌else◌, refl, sym, ◌∙◌, ap}
use Rattle.native_protocol.proofs.RunningLaws.{asks_rest}
use Rattle.native_protocol.specs.declared.request.Answer.{Answer}
use Rattle.native_protocol.specs.declared.request.Answer.TheVariants as answer
use Rattle.native_protocol.specs.declared.request.ErrorKind.TheVariants as error
use Rattle.native_protocol.specs.declared.request.Request.TheVariants as request
use Rattle.native_protocol.specs.Running.{behind, Follows}
use Rattle.native_protocol.specs.Steps.{Steps, throws_type_error}
use Rattle.native_programs.proofs.LoopLaws.{turn_body, endless_once}
use Rattle.native_programs.proofs.StageLaws.{stage_rest, outcome_rest, stage_first, stage_others}
use Rattle.native_programs.specs.declared.advance.Reached.{Reached}
use Rattle.native_programs.specs.declared.advance.Reached.TheVariants.{Asks, Enters, NextTurn, LeavesLoop}
use Rattle.native_programs.specs.declared.call.Call.{Call}
use Rattle.native_programs.specs.declared.call.Call.TheVariants.{Begun, Running, Over}
use Rattle.native_programs.specs.declared.call.Run.{Run}
use Rattle.native_programs.specs.declared.line.Ask.{Ask}
use Rattle.native_programs.specs.declared.line.Ask.TheVariants as asking
use Rattle.native_programs.specs.declared.line.End.TheVariants as end
use Rattle.native_programs.specs.declared.line.Reason.TheVariants as reason
use Rattle.native_programs.specs.declared.line.Count.{Count}
use Rattle.native_programs.specs.declared.line.Exit.{Exit}
use Rattle.native_programs.specs.declared.line.Exit.TheVariants as exit
use Rattle.native_programs.specs.declared.line.Line.{Line}
use Rattle.native_programs.specs.declared.line.Line.TheVariants as line
use Rattle.native_programs.specs.declared.lines.Left.{Left}
use Rattle.native_programs.specs.declared.lines.Left.TheVariants as left
use Rattle.native_programs.specs.declared.lines.Turn.{Turn}
use Rattle.native_programs.specs.declared.stage.Outcome.{Outcome}
use Rattle.native_programs.specs.declared.stage.Outcome.TheVariants.{Next, Exits, Waits}
use Rattle.native_programs.specs.declared.stage.Stage.TheVariants as stage
use Rattle.native_programs.specs.declared.values.Values.{Values}
use Rattle.native_programs.specs.Advancing.{behind_ends, one_less, entered, exited, advance, run, turned, resolve, led, run_asks, run_after, call_begin, call_asks, call_after}
use Rattle.native_programs.specs.Choosing.{amount_of, holds, turns_of, bumped}
use Rattle.native_programs.specs.Meaning.{each, endless, exit_steps, repeated, meaning, means}
use Rattle.native_programs.specs.Stages.{stage_after}
use Rattle.native_programs.specs.Values.{values_begin, with_counter, with_text, text_kept, cleared}
use Rattle.native_programs.specs.Wordings.{worded, fits, has_room, appended, pushed}

-- ---- which steps are still to take in loops: their next turn, and what stands behind them

abbrev mutual
  turn_of : List Turn → Values → Steps
  turn_of [] v = throws_type_error
  turn_of (t ∷ ts) v = repeated t.left (turn_body t.count t.first t.body (meaning zero t.behind (turn_of ts) (done_of ts))) (meaning zero t.behind (turn_of ts) (done_of ts)) (bumped t.count v)

  done_of : List Turn → Values → Steps
  done_of [] v = throws_type_error
  done_of (t ∷ ts) v = meaning zero t.behind (turn_of ts) (done_of ts) v

abbrev next_in : List Line → List Turn → Values → Steps
next_in rest ts = meaning zero rest (turn_of ts) (done_of ts)

abbrev out_in : List Line → List Turn → Exit → Values → Steps
out_in rest ts = exit_steps (next_in rest ts) (turn_of ts) (done_of ts)

abbrev run_rest : Run → Steps
run_rest r = stage_rest r.stage r.values (meaning zero r.rest (turn_of r.loops) (done_of r.loops)) (exit_steps (meaning zero r.rest (turn_of r.loops) (done_of r.loops)) (turn_of r.loops) (done_of r.loops))

abbrev advance_rest : List Turn → Reached → Steps
advance_rest ts (Asks ls a v) = run_rest (run ls ts (stage.Asking a) v)
advance_rest ts (Enters t v) = run_rest (run t.body (t ∷ ts) (stage.Asking t.first) v)
advance_rest ts (NextTurn v) = turn_of ts v
advance_rest ts (LeavesLoop v) = done_of ts v

behind_means : (d : ℕ) (ls : List Line) (turn done : Values → Steps) → meaning d ls turn done ≡ meaning zero (behind_ends d ls) turn done
behind_means zero ls turn done = refl
behind_means (suc d) [] turn done = refl
behind_means (suc d) (line.EndLoop ∷ ls) turn done = behind_means d ls turn done
behind_means (suc d) (line.Loop c a ∷ ls) turn done = behind_means (suc (suc d)) ls turn done
behind_means (suc d) (line.Ask a ∷ ls) turn done = behind_means (suc d) ls turn done
behind_means (suc d) (line.AskIf c a ∷ ls) turn done = behind_means (suc d) ls turn done
behind_means (suc d) (line.Let c m ∷ ls) turn done = behind_means (suc d) ls turn done
behind_means (suc d) (line.Set t w ∷ ls) turn done = behind_means (suc d) ls turn done
behind_means (suc d) (line.Append t f ∷ ls) turn done = behind_means (suc d) ls turn done
behind_means (suc d) (line.When c e ∷ ls) turn done = behind_means (suc d) ls turn done
behind_means (suc d) (line.Push t u ∷ ls) turn done = behind_means (suc d) ls turn done
behind_means (suc d) (line.Go e ∷ ls) turn done = behind_means (suc d) ls turn done
behind_means (suc d) (line.EndIf ∷ ls) turn done = behind_means d ls turn done
behind_means (suc d) (line.If c ∷ ls) turn done = behind_means (suc (suc d)) ls turn done

-- ---- lines up to the next that asks

chosen : (ts : List Turn) (b : Bool) (p q : Steps) (x y : Reached) → p ≡ advance_rest ts x → q ≡ advance_rest ts y → (if b then p else q) ≡ advance_rest ts (if b then x else y)
chosen ts true p q x y h k = h
chosen ts false p q x y h k = k

exit_means : (ts : List Turn) (e : Exit) (ls : List Line) (v : Values) (next : Reached) → meaning zero ls (turn_of ts) (done_of ts) v ≡ advance_rest ts next → exit_steps (meaning zero ls (turn_of ts) (done_of ts)) (turn_of ts) (done_of ts) e v ≡ advance_rest ts (exited e ls v next)
exit_means ts exit.Stay ls v next h = h
exit_means ts (exit.Ends e) ls v next h = refl
exit_means ts exit.NextTurn ls v next h = refl
exit_means ts exit.LeaveLoop ls v next h = refl

loop_means : (ts : List Turn) (c : Count) (a : Ask) (ls : List Line) (v : Values) (l : Left) (skipped : Reached) → meaning (suc zero) ls (turn_of ts) (done_of ts) v ≡ advance_rest ts skipped
    → repeated l (turn_body c a ls (meaning (suc zero) ls (turn_of ts) (done_of ts))) (meaning (suc zero) ls (turn_of ts) (done_of ts)) v ≡ advance_rest ts (entered c a ls v (one_less l) skipped)
unfolding each
loop_means ts c a ls v (left.Turns zero) skipped h = h
loop_means ts c a ls v (left.Turns (suc n)) skipped h =
    ap (λ (d : Values → Steps). turn_body c a ls d v (each n (turn_body c a ls d) d)) (behind_means (suc zero) ls (turn_of ts) (done_of ts))
loop_means ts c a ls v left.Endless skipped h =
    endless_once c a ls (meaning (suc zero) ls (turn_of ts) (done_of ts)) v
    ∙ ap (λ (d : Values → Steps). turn_body c a ls d v (endless (turn_body c a ls d))) (behind_means (suc zero) ls (turn_of ts) (done_of ts))

advance_means : (ts : List Turn) (d : ℕ) (ls : List Line) (v : Values) → meaning d ls (turn_of ts) (done_of ts) v ≡ advance_rest ts (advance d ls v)
advance_means ts zero [] v = refl
advance_means ts (suc d) [] v = refl
advance_means ts zero (line.Ask a ∷ ls) v = refl
advance_means ts zero (line.AskIf c a ∷ ls) v = chosen ts (holds c v) _ _ (Asks ls a v) (advance zero ls v) refl (advance_means ts zero ls v)
advance_means ts zero (line.Let c m ∷ ls) v = advance_means ts zero ls (with_counter c (amount_of v m) v)
advance_means ts zero (line.Set t w ∷ ls) v = advance_means ts zero ls (with_text t (worded w v) v)
advance_means ts zero (line.Append to from ∷ ls) v = chosen ts (fits (text_kept v to) (text_kept v from)) _ _ (advance zero ls (appended to from v)) (Asks ls (asking.Ends (end.Leave reason.Text)) v) (advance_means ts zero ls (appended to from v)) refl
advance_means ts zero (line.Push to unit ∷ ls) v = chosen ts (has_room (text_kept v to)) _ _ (advance zero ls (pushed to unit v)) (Asks ls (asking.Ends (end.Leave reason.Text)) v) (advance_means ts zero ls (pushed to unit v)) refl
advance_means ts zero (line.Go e ∷ ls) v = exit_means ts e ls v (advance zero ls v) (advance_means ts zero ls v)
advance_means ts zero (line.If c ∷ ls) v = chosen ts (holds c v) _ _ (advance zero ls v) (advance (suc zero) ls v) (advance_means ts zero ls v) (advance_means ts (suc zero) ls v)
advance_means ts zero (line.EndIf ∷ ls) v = advance_means ts zero ls v
advance_means ts zero (line.When c e ∷ ls) v =
    chosen ts (holds c v) _ _ (exited e ls v (advance zero ls v)) (advance zero ls v) (exit_means ts e ls v (advance zero ls v) (advance_means ts zero ls v)) (advance_means ts zero ls v)
advance_means ts zero (line.Loop c a ∷ ls) v = loop_means ts c a ls (cleared v) (turns_of c v) (advance (suc zero) ls (cleared v)) (advance_means ts (suc zero) ls (cleared v))
advance_means ts zero (line.EndLoop ∷ ls) v = refl
advance_means ts (suc d) (line.EndLoop ∷ ls) v = advance_means ts d ls v
advance_means ts (suc d) (line.Loop c a ∷ ls) v = advance_means ts (suc (suc d)) ls v
advance_means ts (suc d) (line.Ask a ∷ ls) v = advance_means ts (suc d) ls v
advance_means ts (suc d) (line.AskIf c a ∷ ls) v = advance_means ts (suc d) ls v
advance_means ts (suc d) (line.Let c m ∷ ls) v = advance_means ts (suc d) ls v
advance_means ts (suc d) (line.Set t w ∷ ls) v = advance_means ts (suc d) ls v
advance_means ts (suc d) (line.Append t f ∷ ls) v = advance_means ts (suc d) ls v
advance_means ts (suc d) (line.When c e ∷ ls) v = advance_means ts (suc d) ls v
advance_means ts (suc d) (line.Push t u ∷ ls) v = advance_means ts (suc d) ls v
advance_means ts (suc d) (line.Go e ∷ ls) v = advance_means ts (suc d) ls v
advance_means ts (suc d) (line.EndIf ∷ ls) v = advance_means ts d ls v
advance_means ts (suc d) (line.If c ∷ ls) v = advance_means ts (suc (suc d)) ls v

-- ---- and in loops

turned_means : (t : Turn) (ts : List Turn) (v : Values) (l : Left) (out : Run) → meaning zero t.behind (turn_of ts) (done_of ts) v ≡ run_rest out
    → repeated l (turn_body t.count t.first t.body (meaning zero t.behind (turn_of ts) (done_of ts))) (meaning zero t.behind (turn_of ts) (done_of ts)) v ≡ run_rest (turned t ts v (one_less l) out)
unfolding each
turned_means t ts v (left.Turns zero) out h = h
turned_means t ts v (left.Turns (suc n)) out h = refl
turned_means t ts v left.Endless out h = endless_once t.count t.first t.body (meaning zero t.behind (turn_of ts) (done_of ts)) v

resolve_means : (ts : List Turn) (x : Reached) → advance_rest ts x ≡ run_rest (resolve ts x)
resolve_means [] (Asks ls a v) = refl
resolve_means (t ∷ ts) (Asks ls a v) = refl
resolve_means [] (Enters u v) = refl
resolve_means (t ∷ ts) (Enters u v) = refl
resolve_means [] (NextTurn v) = refl
resolve_means [] (LeavesLoop v) = refl
resolve_means (t ∷ ts) (NextTurn v) =
    turned_means t ts (bumped t.count v) t.left (resolve ts (advance zero t.behind (bumped t.count v))) (advance_means ts zero t.behind (bumped t.count v) ∙ resolve_means ts (advance zero t.behind (bumped t.count v)))
resolve_means (t ∷ ts) (LeavesLoop v) = advance_means ts zero t.behind v ∙ resolve_means ts (advance zero t.behind v)

-- ---- the call

led_means : (rest : List Line) (ts : List Turn) (o : Outcome) → outcome_rest o (meaning zero rest (turn_of ts) (done_of ts)) (exit_steps (meaning zero rest (turn_of ts) (done_of ts)) (turn_of ts) (done_of ts)) ≡ run_rest (led rest ts o)
led_means rest ts (Next v) = advance_means ts zero rest v ∙ resolve_means ts (advance zero rest v)
led_means rest ts (Exits exit.Stay v) = advance_means ts zero rest v ∙ resolve_means ts (advance zero rest v)
led_means rest ts (Exits (exit.Ends e) v) = resolve_means ts (Asks rest (asking.Ends e) v)
led_means rest ts (Exits exit.NextTurn v) = resolve_means ts (NextTurn v)
led_means rest ts (Exits exit.LeaveLoop v) = resolve_means ts (LeavesLoop v)
led_means rest ts (Waits s v) = refl

run_others : (r : Run) (a : Answer) (answers : List Answer) → run_rest r (a ∷ answers) ≡ run_rest (run_after r a) answers
run_others r a answers =
    stage_others r.stage r.values (next_in r.rest r.loops) (out_in r.rest r.loops) a answers ∙ ap (λ (f : Steps). f answers) (led_means r.rest r.loops (stage_after r.stage r.values a))

call_rest : Call → Steps
call_rest (Begun r) [] = run_asks r
call_rest (Begun r) (a ∷ answers) = run_rest r answers
call_rest (Running r) answers = run_rest r answers
call_rest Over answers = request.ThrowNew error.TypeError

call_first : (c : Call) → call_rest c [] ≡ call_asks c
unfolding call_rest
call_first (Begun r) = refl
call_first Over = refl
call_first (Running r) = stage_first r.stage r.values (next_in r.rest r.loops) (out_in r.rest r.loops)

call_others : (c : Call) (a : Answer) (answers : List Answer) → call_rest c (a ∷ answers) ≡ call_rest (call_after c a) answers
unfolding call_rest
call_others (Begun r) a answers = refl
call_others Over a answers = refl
call_others (Running r) a answers = run_others r a answers

call_follows : Follows call_asks call_after call_rest
call_follows = record { first = call_first; others = call_others }

pub program_follows : (lines : List Line) (argc : ℕ) (construct : Bool) (answers : List Answer) → call_asks (behind call_after (call_begin lines argc construct) (answer.Begin ∷ answers)) ≡ means lines argc construct answers
unfolding call_rest
program_follows lines argc construct answers =
    asks_rest call_follows (call_begin lines argc construct) (answer.Begin ∷ answers)
    ∙ ap (λ (f : Steps). f answers) (sym (advance_means [] zero lines (values_begin argc construct) ∙ resolve_means [] (advance zero lines (values_begin argc construct))))
