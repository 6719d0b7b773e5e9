-- Jumps, in a reading of the labels.
use Rattle.std.proofs.Common.{arith, sym, ap, ap₂, subst, ◌∙◌, ◌≡◌, ◌+◌, ◌≤◌, ℕ, suc, Bool, true, false, List, map, take, length, Result, Ok, Err}
use Rattle.std.specs.Result.{IsErrAnd}
use Rattle.std.proofs.lemmas.Bool.{not-false, not-true}
use Rattle.std.proofs.lemmas.List.{take-map, take_all, drop_all, length-map}
use Rattle.origin_labels.specs.Label.{Label, within, bottom, union}
use Rattle.origin_labels.specs.Stores.{IsKept}
use Rattle.flow_frames.specs.declared.faults.FlowFault.{FlowFault}
use Rattle.flow_frames.specs.declared.faults.FlowFault.TheVariants as fault
use Rattle.flow_frames.specs.declared.faults.FlowStop.{FlowStop}
use Rattle.flow_frames.specs.declared.faults.Rule.TheVariants.{W9}
use Rattle.flow_frames.specs.Frames.{Frame, context}
use Rattle.flow_frames.specs.Held.{Held, Belong, seen, seen_frame, meant_at}
use Rattle.flow_frames.specs.Rules.{jump_need, is_broken}
use Rattle.flow_frames.specs.Stops.{IfStop, Breaks}
use Rattle.js_values.specs.Readings.{IsReading}
use Rattle.js_values.proofs.ReadingLaws.{IsReading-earlier}
use Rattle.es_meaning.specs.Outcomes.{Exit, Jumps, Ends}
use Rattle.flow_meaning.specs.Scopes.{stopped, State, Jump, guard, reached, jump_to, jump, cut_to, Val}
use Rattle.continuations.specs.Resuming.{with_frames}
use Rattle.continuations.specs.Shapes.{jump_of}
use Rattle.continuations.specs.declared.continuation.Jump.TheVariants as jumps
use Rattle.continuations.specs.declared.continuation.Jump.{Jump as Kind}
use Rattle.continuations.proofs.Reading.{read_frames}
use Rattle.step_jumps.specs.Issuing.{Issues, SaysJump}

-- ---- a jump, by rule W9

jump_goes : {X : Type 0} (cause : Label) (j : Jump) (s : State) (depth : ℕ) → reached j.to s.frames ≡ depth → within (jump_need s.frames depth cause) (meant_at s.frames depth) ≡ true → jump {X = X} cause j s ≡ Jumps j (cut_to (suc depth) s)
unfolding jump jump_to guard
jump_goes cause j s depth is holds =
    ap (λ d. jump_to d cause j s) is
    ∙ ap (λ b. guard b W9 (jump_need s.frames depth cause) (meant_at s.frames depth) (λ t. Jumps j (cut_to (suc depth) t)) s) holds

jump_stops : {X : Type 0} (cause : Label) (j : Jump) (s : State) (depth : ℕ) → reached j.to s.frames ≡ depth → within (jump_need s.frames depth cause) (meant_at s.frames depth) ≡ false → jump {X = X} cause j s ≡ Ends (stopped W9 (jump_need s.frames depth cause) (meant_at s.frames depth)) s
unfolding jump jump_to guard
jump_stops cause j s depth is broken =
    ap (λ d. jump_to d cause j s) is
    ∙ ap (λ b. guard b W9 (jump_need s.frames depth cause) (meant_at s.frames depth) (λ t. Jumps j (cut_to (suc depth) t)) s) broken

-- where no frame stands at the depth nothing is inside it
none_inside : (frames : List Frame) (depth : ℕ) → length frames ≤ depth → within (jump_need frames depth bottom) (meant_at frames depth) ≡ true
unfolding context within union
none_inside frames depth past = ap (λ fs. within (union (context fs) bottom) (meant_at frames depth)) (drop_all (depth + 1) frames (omega (arith, past)))

-- no frame is left there
pub jump_past : {T : Type 0} (reading : T → Label) (frames : List (Held T)) (j : Jump) (s : State) (depth : ℕ) → reached j.to (map (seen_frame reading) frames) ≡ depth → length frames ≤ depth → jump {X = Unit {0}} bottom j (with_frames reading frames s) ≡ Jumps j (with_frames reading frames s)
jump_past reading frames j s depth is past =
    let seen_past : length (map (seen_frame reading) frames) ≤ depth = omega (arith, past, length-map frames (seen_frame reading)) in
    jump_goes bottom j (with_frames reading frames s) depth is (none_inside (map (seen_frame reading) frames) depth seen_past)
    ∙ ap (λ (fs : List Frame). Jumps j (record s { frames = fs })) (take_all (suc depth) (map (seen_frame reading) frames) (omega (arith, seen_past)))

-- what a call that jumps to a depth tells of the frames
module _ {S T : Type 0} (made : S → T → Type 0) (meaning : S → T → Label) (room : S → ℕ) (firm : S → Bool) (old new : S) (kept : IsKept made meaning room firm old new) (frames : List (Held T)) (belongs : Belong made meaning old frames) (none : T) (empty : meaning old none ≡ bottom) (depth : ℕ) (j : Val → Jump) (target : (reading : T → Label) (v : Val) → reached (j v).to (map (seen_frame reading) frames) ≡ depth) where
  module _ (reading : T → Label) (is : IsReading made meaning new reading) where
    earlier : IsReading made meaning old reading
    earlier = IsReading-earlier made meaning room firm old new reading kept is

    need_is : jump_need (map (seen_frame reading) frames) depth bottom ≡ jump_need (seen meaning old frames) depth (meaning old none)
    need_is = ap₂ (λ fs l. jump_need fs depth l) (read_frames made meaning old reading frames earlier belongs) (sym empty)

    have_is : meant_at (map (seen_frame reading) frames) depth ≡ meant_at (seen meaning old frames) depth
    have_is = ap (λ fs. meant_at fs depth) (read_frames made meaning old reading frames earlier belongs)

  -- the frames inside the one that it goes to are left
  pub issued : {X : Type 0} (x : X) (left : List (Held T)) → left ≡ take (depth + 1) frames → is_broken (jump_need (seen meaning old frames) depth (meaning old none)) (meant_at (seen meaning old frames) depth) ≡ false
      → Issues made meaning new j frames left (Ok x)
  issued x left cut holds = λ reading v s is.
      let allowed = ap₂ within (need_is reading is) (have_is reading is) ∙ not-false (within (jump_need (seen meaning old frames) depth (meaning old none)) (meant_at (seen meaning old frames) depth)) holds in
      let more : suc depth ≡ depth + 1 = omega arith in
      jump_goes bottom (j v) (with_frames reading frames s) depth (target reading v) allowed
      ∙ ap (λ (fs : List Frame). Jumps (j v) (record s { frames = fs })) (ap (λ n. take n (map (seen_frame reading) frames)) more ∙ take-map (seen_frame reading) (depth + 1) frames ∙ ap (map (seen_frame reading)) (sym cut))

  -- the rule is broken, and no frame is left
  issue_stops : (X : Type 0) (stop : FlowStop T) → Breaks made meaning new frames depth W9 (jump_need (seen meaning old frames) depth (meaning old none)) (meant_at (seen meaning old frames) depth) stop
      → Issues made meaning new {X = X} j frames frames (Err (fault.Stop stop))
  issue_stops X stop breaks = λ reading v s is.
      let broken = ap₂ within (need_is reading is) (have_is reading is) ∙ not-true (within (jump_need (seen meaning old frames) depth (meaning old none)) (meant_at (seen meaning old frames) depth)) breaks.broken in
      jump_stops bottom (j v) (with_frames reading frames s) depth (target reading v) broken
      ∙ ap₂ (λ need have. Ends (stopped W9 need have) (with_frames reading frames s)) (need_is reading is ∙ sym breaks.need ∙ sym (is.agrees stop.need breaks.need_made)) (have_is reading is ∙ sym breaks.have_means ∙ sym (is.agrees stop.have breaks.have_made))
      ∙ ap (λ rule. Ends (stopped rule (reading stop.need) (reading stop.have)) (with_frames reading frames s)) (sym breaks.rule)

  -- a call that fails so, with the same fault
  pub issue_fails : {X : Type 0} (left : List (Held T)) (f : FlowFault T) (result : Result X (FlowFault T)) → left ≡ frames → IfStop (Breaks made meaning new frames depth W9 (jump_need (seen meaning old frames) depth (meaning old none)) (meant_at (seen meaning old frames) depth)) f → IsErrAnd result (λ e. e ≡ f)
      → Issues made meaning new j frames left result
  issue_fails {X = X} left f (Ok x) same breaks is = absurd is
  issue_fails {X = X} left (fault.Stop stop) (Err e) same breaks is =
      subst (λ hs. Issues made meaning new {X = X} j frames hs (Err e)) (sym same) (subst (λ (r : FlowFault T). Issues made meaning new {X = X} j frames frames (Err r)) (sym is) (issue_stops X stop breaks))
  issue_fails {X = X} left fault.OutOfMemory (Err e) same breaks is =
      subst (λ (r : FlowFault T). Issues made meaning new {X = X} j frames left (Err r)) (sym is) (λ reading v s read. tt)

-- ---- a jump with the depth that it goes to

abbrev to_depth : Kind → ℕ → Val → Jump
to_depth j to v = record { exit = (jump_of j v).exit; to = to; value = v }

pub with_aim : (j : Kind) (to : ℕ) (v : Val) → (jump_of j v).to ≡ to → to_depth j to v ≡ jump_of j v
with_aim jumps.Throws to v is = ap (λ d. to_depth jumps.Throws d v) (sym is)
with_aim (jumps.Returns d) to v is = ap (λ d. to_depth (jumps.Returns d) d v) (sym is)
with_aim (jumps.Leaves n d) to v is = ap (λ d. record { exit = (jump_of (jumps.Leaves n to) v).exit; to = d; value = v }) (sym is)

-- what goes to the frame to which a jump goes does what the jump does
pub issues_again : {S T X : Type 0} (made : S → T → Type 0) (meaning : S → T → Label) (store : S) (j : Kind) (to : ℕ) (old new : List (Held T)) (result : Result X (FlowFault T)) → ((v : Val) → (jump_of j v).to ≡ to)
    → ((exit : Exit) → Issues made meaning store (λ v. record { exit = exit; to = to; value = v }) old new result) → Issues made meaning store (jump_of j) old new result
issues_again made meaning store j to old new result aims issues = λ reading v s is.
    subst (λ k. SaysJump reading (jump bottom k (with_frames reading old s)) k (with_frames reading new s) result) (with_aim j to v (aims v)) (issues (jump_of j v).exit reading v s is)
