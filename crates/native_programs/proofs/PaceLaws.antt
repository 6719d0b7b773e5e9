-- Lines are taken one at a time.
use Rattle.std.proofs.Common.{◌≡◌, ℕ, zero, suc, ◌<◌, ◌≤◌, Bool, true, false, List, [], ◌∷◌, length, get_or, take, drop, ◌-◌, Option, Some, None, if◌then◌else◌, refl, sym, ◌∙◌, ap, subst, arith}
use Rattle.std.proofs.Math.Seq.{take-length}
use Rattle.native_programs.specs.declared.advance.Pace.{Pace}
use Rattle.native_programs.specs.declared.advance.Pace.TheVariants.{On, Stops}
use Rattle.native_programs.specs.declared.advance.Reached.{Reached}
use Rattle.native_programs.specs.declared.line.Ask.{Ask}
use Rattle.native_programs.specs.declared.line.Count.{Count}
use Rattle.native_programs.specs.declared.line.Exit.{Exit}
use Rattle.native_programs.specs.declared.line.Exit.TheVariants as exit
use Rattle.native_programs.specs.declared.line.Line.{Line}
use Rattle.native_programs.specs.declared.line.Line.TheVariants as line
use Rattle.native_programs.specs.declared.lines.Left.{Left}
use Rattle.native_programs.specs.declared.values.Values.{Values}
use Rattle.native_programs.specs.Advancing.{advance, pace, exits, enters, exited, entered, behind_ends, one_less}
use Rattle.native_programs.specs.Choosing.{holds, turns_of}
use Rattle.native_programs.specs.Values.{cleared, text_kept}
use Rattle.native_programs.specs.Wordings.{fits, has_room}

-- it goes on, or stops
goes : Pace → Reached
goes (On ls v) = advance zero ls v
goes (Stops r) = r

skips : (d : ℕ) (ls : List Line) (v : Values) → advance d ls v ≡ advance zero (behind_ends d ls) v
skips zero ls v = refl
skips (suc d) [] v = refl
skips (suc d) (line.EndLoop ∷ ls) v = skips d ls v
skips (suc d) (line.Loop c a ∷ ls) v = skips (suc (suc d)) ls v
skips (suc d) (line.Ask a ∷ ls) v = skips (suc d) ls v
skips (suc d) (line.AskIf c a ∷ ls) v = skips (suc d) ls v
skips (suc d) (line.Let c m ∷ ls) v = skips (suc d) ls v
skips (suc d) (line.Set t w ∷ ls) v = skips (suc d) ls v
skips (suc d) (line.Append to from ∷ ls) v = skips (suc d) ls v
skips (suc d) (line.When c e ∷ ls) v = skips (suc d) ls v
skips (suc d) (line.Push to unit ∷ ls) v = skips (suc d) ls v
skips (suc d) (line.Go e ∷ ls) v = skips (suc d) ls v
skips (suc d) (line.EndIf ∷ ls) v = skips d ls v
skips (suc d) (line.If c ∷ ls) v = skips (suc (suc d)) ls v

chosen : (b : Bool) (p q : Pace) (x y : Reached) → x ≡ goes p → y ≡ goes q → (if b then x else y) ≡ goes (if b then p else q)
chosen true p q x y h k = h
chosen false p q x y h k = k

exits_go : (e : Exit) (ls : List Line) (v : Values) → exited e ls v (advance zero ls v) ≡ goes (exits e ls v)
unfolding goes
exits_go exit.Stay ls v = refl
exits_go (exit.Ends e) ls v = refl
exits_go exit.NextTurn ls v = refl
exits_go exit.LeaveLoop ls v = refl

enters_go : (c : Count) (a : Ask) (ls : List Line) (v : Values) (l : Option Left) → entered c a ls v l (advance (suc zero) ls v) ≡ goes (enters c a ls v l)
unfolding goes
enters_go c a ls v None = skips (suc zero) ls v
enters_go c a ls v (Some l) = refl

branched : (b : Bool) (ls : List Line) (v : Values) → (if b then advance zero ls v else advance (suc zero) ls v) ≡ goes (On (if b then ls else behind_ends (suc zero) ls) v)
unfolding goes
branched true ls v = refl
branched false ls v = skips (suc zero) ls v

by_line : (l : Line) (ls : List Line) (v : Values) → advance zero (l ∷ ls) v ≡ goes (pace l ls v)
unfolding goes
by_line (line.Ask a) ls v = refl
by_line (line.AskIf c a) ls v = chosen (holds c v) _ _ _ _ refl refl
by_line (line.Let c m) ls v = refl
by_line (line.Set t w) ls v = refl
by_line (line.Append to from) ls v = chosen (fits (text_kept v to) (text_kept v from)) _ _ _ _ refl refl
by_line (line.Push to unit) ls v = chosen (has_room (text_kept v to)) _ _ _ _ refl refl
by_line (line.Go e) ls v = exits_go e ls v
by_line (line.If c) ls v = branched (holds c v) ls v
by_line line.EndIf ls v = refl
by_line (line.When c e) ls v = chosen (holds c v) (exits e ls v) _ _ _ (exits_go e ls v) refl
by_line (line.Loop c a) ls v = enters_go c a ls (cleared v) (one_less (turns_of c v))
by_line line.EndLoop ls v = refl

pub goes_on : (l : Line) (ls ms : List Line) (v w : Values) → On ms w ≡ pace l ls v → advance zero (l ∷ ls) v ≡ advance zero ms w
unfolding goes
goes_on l ls ms v w e = by_line l ls v ∙ ap goes (sym e)

pub stops_at : (l : Line) (ls : List Line) (v : Values) (r : Reached) → Stops r ≡ pace l ls v → advance zero (l ∷ ls) v ≡ r
unfolding goes
stops_at l ls v r e = by_line l ls v ∙ ap goes (sym e)

-- ---- it goes on with no more lines

NoLonger : Pace → List Line → Type 0
NoLonger (On ms v) ls = length ms ≤ length ls
NoLonger (Stops r) ls = Unit {0}

behind_shorter : (d : ℕ) (ls : List Line) → length (behind_ends d ls) ≤ length ls
behind_shorter zero ls = omega arith
behind_shorter (suc d) [] = omega arith
behind_shorter (suc d) (line.EndLoop ∷ ls) = let h = behind_shorter d ls in omega arith
behind_shorter (suc d) (line.Loop c a ∷ ls) = let h = behind_shorter (suc (suc d)) ls in omega arith
behind_shorter (suc d) (line.Ask a ∷ ls) = let h = behind_shorter (suc d) ls in omega arith
behind_shorter (suc d) (line.AskIf c a ∷ ls) = let h = behind_shorter (suc d) ls in omega arith
behind_shorter (suc d) (line.Let c m ∷ ls) = let h = behind_shorter (suc d) ls in omega arith
behind_shorter (suc d) (line.Set t w ∷ ls) = let h = behind_shorter (suc d) ls in omega arith
behind_shorter (suc d) (line.Append to from ∷ ls) = let h = behind_shorter (suc d) ls in omega arith
behind_shorter (suc d) (line.When c e ∷ ls) = let h = behind_shorter (suc d) ls in omega arith
behind_shorter (suc d) (line.Push to unit ∷ ls) = let h = behind_shorter (suc d) ls in omega arith
behind_shorter (suc d) (line.Go e ∷ ls) = let h = behind_shorter (suc d) ls in omega arith
behind_shorter (suc d) (line.EndIf ∷ ls) = let h = behind_shorter d ls in omega arith
behind_shorter (suc d) (line.If c ∷ ls) = let h = behind_shorter (suc (suc d)) ls in omega arith

either : (b : Bool) (p q : Pace) (ls : List Line) → NoLonger p ls → NoLonger q ls → NoLonger (if b then p else q) ls
either true p q ls h k = h
either false p q ls h k = k

exits_no_longer : (e : Exit) (ls : List Line) (v : Values) → NoLonger (exits e ls v) ls
unfolding NoLonger
exits_no_longer exit.Stay ls v = omega arith
exits_no_longer (exit.Ends e) ls v = tt
exits_no_longer exit.NextTurn ls v = tt
exits_no_longer exit.LeaveLoop ls v = tt

enters_no_longer : (c : Count) (a : Ask) (ls : List Line) (v : Values) (l : Option Left) → NoLonger (enters c a ls v l) ls
unfolding NoLonger
enters_no_longer c a ls v None = behind_shorter (suc zero) ls
enters_no_longer c a ls v (Some l) = tt

branch_no_longer : (b : Bool) (ls : List Line) → length (if b then ls else behind_ends (suc zero) ls) ≤ length ls
branch_no_longer true ls = omega arith
branch_no_longer false ls = behind_shorter (suc zero) ls

no_longer : (l : Line) (ls : List Line) (v : Values) → NoLonger (pace l ls v) ls
unfolding NoLonger
no_longer (line.Ask a) ls v = tt
no_longer (line.AskIf c a) ls v = either (holds c v) (Stops _) (On ls v) ls tt (omega arith)
no_longer (line.Let c m) ls v = omega arith
no_longer (line.Set t w) ls v = omega arith
no_longer (line.Append to from) ls v = either (fits (text_kept v to) (text_kept v from)) (On ls _) (Stops _) ls (omega arith) tt
no_longer (line.Push to unit) ls v = either (has_room (text_kept v to)) (On ls _) (Stops _) ls (omega arith) tt
no_longer (line.Go e) ls v = exits_no_longer e ls v
no_longer (line.If c) ls v = branch_no_longer (holds c v) ls
no_longer line.EndIf ls v = omega arith
no_longer (line.When c e) ls v = either (holds c v) (exits e ls v) (On ls v) ls (exits_no_longer e ls v) (omega arith)
no_longer (line.Loop c a) ls v = enters_no_longer c a ls (cleared v) (one_less (turns_of c v))
no_longer line.EndLoop ls v = tt

pub on_shorter : (l : Line) (ls ms : List Line) (v w : Values) → On ms w ≡ pace l ls v → length ms ≤ length ls
unfolding NoLonger
on_shorter l ls ms v w e = subst (λ (p : Pace). NoLonger p ls) (sym e) (no_longer l ls v)

-- ---- the first line of some, and those behind it

first_taken : (ls : List Line) (l : Line) → 1 ≤ length ls → ls ≡ get_or ls 0 l ∷ take (length ls - 1) (drop 1 ls)
first_taken [] l h = absurd (omega arith)
first_taken (x ∷ xs) l h =
    let e : length xs ≡ length (x ∷ xs) - 1 = omega arith in
    ap (λ (zs : List Line). x ∷ zs) (sym (take-length xs) ∙ ap (λ (n : ℕ). take n xs) e)

pub line_goes : (ls : List Line) (l : Line) (v w : Values) (p : Pace) (ms : List Line) → 1 ≤ length ls → p ≡ pace (get_or ls 0 l) (take (length ls - 1) (drop 1 ls)) v → p ≡ On ms w → advance zero ms w ≡ advance zero ls v
line_goes ls l v w p ms h e is =
    sym (ap (λ (xs : List Line). advance zero xs v) (first_taken ls l h) ∙ goes_on (get_or ls 0 l) (take (length ls - 1) (drop 1 ls)) ms v w (sym is ∙ e))

pub line_stops : (ls : List Line) (l : Line) (v : Values) (p : Pace) (r : Reached) → 1 ≤ length ls → p ≡ pace (get_or ls 0 l) (take (length ls - 1) (drop 1 ls)) v → p ≡ Stops r → r ≡ advance zero ls v
line_stops ls l v p r h e is =
    sym (ap (λ (xs : List Line). advance zero xs v) (first_taken ls l h) ∙ stops_at (get_or ls 0 l) (take (length ls - 1) (drop 1 ls)) v r (sym is ∙ e))

pub line_shortens : (ls : List Line) (l : Line) (v w : Values) (p : Pace) (ms : List Line) → 1 ≤ length ls → p ≡ pace (get_or ls 0 l) (take (length ls - 1) (drop 1 ls)) v → p ≡ On ms w → length ms < length ls
line_shortens ls l v w p ms h e is =
    let s = on_shorter (get_or ls 0 l) (take (length ls - 1) (drop 1 ls)) ms v w (sym is ∙ e) in
    let k : length ls ≡ suc (length (take (length ls - 1) (drop 1 ls))) = ap (λ (xs : List Line). length xs) (first_taken ls l h) in
    omega arith
