-- Lines that ask for nothing, up to the next that does; and the state of a call.
use Rattle.std.specs.Prelude.{ℕ, zero, suc, Bool, List, [], ◌∷◌, Option, Some, None, if◌then◌else◌}
use Rattle.native_protocol.specs.declared.request.Answer.{Answer}
use Rattle.native_protocol.specs.declared.request.ErrorKind.TheVariants as error
use Rattle.native_protocol.specs.declared.request.Request.{Request}
use Rattle.native_protocol.specs.declared.request.Request.TheVariants as request
use Rattle.native_programs.specs.declared.advance.Reached.{Reached}
use Rattle.native_programs.specs.declared.advance.Pace.{Pace}
use Rattle.native_programs.specs.declared.advance.Pace.TheVariants.{On, Stops}
use Rattle.native_programs.specs.declared.advance.Reached.TheVariants.{Asks, Enters, NextTurn, LeavesLoop}
use Rattle.native_programs.specs.declared.call.Call.{Call}
use Rattle.native_programs.specs.declared.call.Call.TheVariants.{Begun, Running, Over}
use Rattle.native_programs.specs.declared.call.Run.{Run}
use Rattle.native_programs.specs.declared.line.Ask.{Ask}
use Rattle.native_programs.specs.declared.line.Ask.TheVariants as asking
use Rattle.native_programs.specs.declared.line.Count.{Count}
use Rattle.native_programs.specs.declared.line.End.TheVariants as end
use Rattle.native_programs.specs.declared.line.Exit.{Exit}
use Rattle.native_programs.specs.declared.line.Exit.TheVariants as exit
use Rattle.native_programs.specs.declared.line.Line.{Line}
use Rattle.native_programs.specs.declared.line.Line.TheVariants as line
use Rattle.native_programs.specs.declared.line.Counter.{Counter}
use Rattle.native_programs.specs.declared.line.Reason.{Reason}
use Rattle.native_programs.specs.declared.line.Reason.TheVariants as reason
use Rattle.native_programs.specs.declared.line.TextSlot.{TextSlot}
use Rattle.native_programs.specs.declared.lines.Left.{Left}
use Rattle.native_programs.specs.declared.lines.Left.TheVariants as left
use Rattle.native_programs.specs.declared.lines.Turn.{Turn}
use Rattle.native_programs.specs.declared.stage.Outcome.{Outcome}
use Rattle.native_programs.specs.declared.stage.Outcome.TheVariants.{Next, Exits, Waits}
use Rattle.native_programs.specs.declared.stage.Stage.{Stage}
use Rattle.native_programs.specs.declared.stage.Stage.TheVariants as stage
use Rattle.native_programs.specs.declared.values.Values.{Values}
use Rattle.native_programs.specs.Choosing.{amount_of, holds, turns_of, bumped}
use Rattle.native_programs.specs.Stages.{stage_asks, stage_after}
use Rattle.native_programs.specs.Values.{values_begin, with_counter, with_text, text_kept, cleared}
use Rattle.native_programs.specs.Wordings.{worded, fits, has_room, appended, pushed}

-- what stands where no line is
abbrev pub failing : Ask
failing = asking.Ends (end.Throw error.TypeError)

-- the lines behind the ends of so many loops and conditional parts that they stand in
abbrev pub behind_ends : ℕ → List Line → List Line
behind_ends zero ls = ls
behind_ends (suc d) [] = []
behind_ends (suc d) (line.EndLoop ∷ ls) = behind_ends d ls
behind_ends (suc d) (line.EndIf ∷ ls) = behind_ends d ls
behind_ends (suc d) (line.Loop c a ∷ ls) = behind_ends (suc (suc d)) ls
behind_ends (suc d) (line.If c ∷ ls) = behind_ends (suc (suc d)) ls
behind_ends (suc d) (other ∷ ls) = behind_ends (suc d) ls

-- how many turns are left where one more is taken, if there is one
abbrev pub one_less : Left → Option Left
one_less (left.Turns zero) = None
one_less (left.Turns (suc n)) = Some (left.Turns n)
one_less left.Endless = Some left.Endless

abbrev pub turn_at : Count → Ask → List Line → Left → Turn
turn_at c a ls l = record { count = c; first = a; left = l; body = ls; behind = behind_ends (suc zero) ls }

abbrev pub entered : Count → Ask → List Line → Values → Option Left → Reached → Reached
entered c a ls v None skipped = skipped
entered c a ls v (Some l) skipped = Enters (turn_at c a ls l) v

-- where an exit leads
abbrev pub exited : Exit → List Line → Values → Reached → Reached
exited exit.Stay ls v next = next
exited (exit.Ends e) ls v next = Asks ls (asking.Ends e) v
exited exit.NextTurn ls v next = NextTurn v
exited exit.LeaveLoop ls v next = LeavesLoop v

-- the run is left
abbrev pub leaving : Reason → Ask
leaving r = asking.Ends (end.Leave r)

abbrev pub advance : ℕ → List Line → Values → Reached
advance d [] v = Asks [] failing v
advance zero (line.Ask a ∷ ls) v = Asks ls a v
advance zero (line.AskIf c a ∷ ls) v = if holds c v then Asks ls a v else advance zero ls v
advance zero (line.Let c m ∷ ls) v = advance zero ls (with_counter c (amount_of v m) v)
advance zero (line.Set t w ∷ ls) v = advance zero ls (with_text t (worded w v) v)
advance zero (line.Append to from ∷ ls) v = if fits (text_kept v to) (text_kept v from) then advance zero ls (appended to from v) else Asks ls (leaving reason.Text) v
advance zero (line.Push to unit ∷ ls) v = if has_room (text_kept v to) then advance zero ls (pushed to unit v) else Asks ls (leaving reason.Text) v
advance zero (line.Go e ∷ ls) v = exited e ls v (advance zero ls v)
advance zero (line.If c ∷ ls) v = if holds c v then advance zero ls v else advance (suc zero) ls v
advance zero (line.EndIf ∷ ls) v = advance zero ls v
advance zero (line.When c e ∷ ls) v = if holds c v then exited e ls v (advance zero ls v) else advance zero ls v
advance zero (line.Loop c a ∷ ls) v = entered c a ls (cleared v) (one_less (turns_of c v)) (advance (suc zero) ls (cleared v))
advance zero (line.EndLoop ∷ ls) v = NextTurn v
advance (suc d) (line.EndLoop ∷ ls) v = advance d ls v
advance (suc d) (line.EndIf ∷ ls) v = advance d ls v
advance (suc d) (line.Loop c a ∷ ls) v = advance (suc (suc d)) ls v
advance (suc d) (line.If c ∷ ls) v = advance (suc (suc d)) ls v
advance (suc d) (other ∷ ls) v = advance (suc d) ls v

-- ---- what one line gives

abbrev pub leaves_by : Reason → List Line → Values → Pace
leaves_by r ls v = Stops (Asks ls (leaving r) v)

abbrev pub appends : TextSlot → TextSlot → List Line → Values → Pace
appends to from ls v = if fits (text_kept v to) (text_kept v from) then On ls (appended to from v) else leaves_by reason.Text ls v

abbrev pub pushes : TextSlot → Counter → List Line → Values → Pace
pushes to unit ls v = if has_room (text_kept v to) then On ls (pushed to unit v) else leaves_by reason.Text ls v

abbrev pub exits : Exit → List Line → Values → Pace
exits exit.Stay ls v = On ls v
exits (exit.Ends e) ls v = Stops (Asks ls (asking.Ends e) v)
exits exit.NextTurn ls v = Stops (NextTurn v)
exits exit.LeaveLoop ls v = Stops (LeavesLoop v)

abbrev pub enters : Count → Ask → List Line → Values → Option Left → Pace
enters c a ls v None = On (behind_ends (suc zero) ls) v
enters c a ls v (Some l) = Stops (Enters (turn_at c a ls l) v)

abbrev pub pace : Line → List Line → Values → Pace
pace (line.Ask a) ls v = Stops (Asks ls a v)
pace (line.AskIf c a) ls v = if holds c v then Stops (Asks ls a v) else On ls v
pace (line.Let c m) ls v = On ls (with_counter c (amount_of v m) v)
pace (line.Set t w) ls v = On ls (with_text t (worded w v) v)
pace (line.Append to from) ls v = appends to from ls v
pace (line.Push to unit) ls v = pushes to unit ls v
pace (line.Go e) ls v = exits e ls v
pace (line.If c) ls v = On (if holds c v then ls else behind_ends (suc zero) ls) v
pace line.EndIf ls v = On ls v
pace (line.When c e) ls v = if holds c v then exits e ls v else On ls v
pace (line.Loop c a) ls v = enters c a ls (cleared v) (one_less (turns_of c v))
pace line.EndLoop ls v = Stops (NextTurn v)

-- ---- the state of a call

abbrev pub run : List Line → List Turn → Stage → Values → Run
run rest loops s v = record { rest = rest; loops = loops; stage = s; values = v }

abbrev pub failed : Values → Run
failed v = run [] [] (stage.Asking failing) v

abbrev pub turned : Turn → List Turn → Values → Option Left → Run → Run
turned t ts v None out = out
turned t ts v (Some l) out = run t.body ((record t { left = l }) ∷ ts) (stage.Asking t.first) v

abbrev pub resolve : List Turn → Reached → Run
resolve loops (Asks ls a v) = run ls loops (stage.Asking a) v
resolve loops (Enters t v) = run t.body (t ∷ loops) (stage.Asking t.first) v
resolve [] (NextTurn v) = failed v
resolve (t ∷ ts) (NextTurn v) = turned t ts (bumped t.count v) (one_less t.left) (resolve ts (advance zero t.behind (bumped t.count v)))
resolve [] (LeavesLoop v) = failed v
resolve (t ∷ ts) (LeavesLoop v) = resolve ts (advance zero t.behind v)

abbrev pub led : List Line → List Turn → Outcome → Run
led rest loops (Next v) = resolve loops (advance zero rest v)
led rest loops (Exits e v) = resolve loops (exited e rest v (advance zero rest v))
led rest loops (Waits s v) = run rest loops s v

abbrev pub run_asks : Run → Request
run_asks r = stage_asks r.stage r.values

abbrev pub run_after : Run → Answer → Run
run_after r a = led r.rest r.loops (stage_after r.stage r.values a)

abbrev pub run_begin : List Line → ℕ → Bool → Run
run_begin lines argc construct = resolve [] (advance zero lines (values_begin argc construct))

abbrev pub call_begin : List Line → ℕ → Bool → Call
call_begin lines argc construct = Begun (run_begin lines argc construct)

abbrev pub call_asks : Call → Request
call_asks (Begun r) = run_asks r
call_asks (Running r) = run_asks r
call_asks Over = request.ThrowNew error.TypeError

abbrev pub call_after : Call → Answer → Call
call_after (Begun r) a = Running r
call_after (Running r) a = Running (run_after r a)
call_after Over a = Over
