-- The throw of a value by a built-in, which depends on nothing but the context, in a reading of the labels.
use Rattle.std.proofs.Common.{arith, refl, sym, ap, ap₂, subst, ◌∙◌, ◌≡◌, ◌+◌, ℕ, suc, Bool, true, false, List, map, take, Result, Ok, Err}
use Rattle.std.specs.Result.{IsErrAnd}
use Rattle.std.proofs.lemmas.Bool.{not-false, not-true}
use Rattle.std.proofs.lemmas.List.{length-take, take-map}
use Rattle.origin_labels.specs.Label.{Label, bottom, within}
use Rattle.origin_labels.specs.Stores.{IsKept}
use Rattle.flow_frames.specs.declared.faults.FlowFault.{FlowFault}
use Rattle.flow_frames.specs.declared.faults.FlowFault.TheVariants as fault
use Rattle.flow_frames.specs.declared.faults.FlowStop.{FlowStop}
use Rattle.flow_frames.specs.declared.faults.Rule.TheVariants.{W9}
use Rattle.flow_frames.specs.Frames.{Frame, IsTarget}
use Rattle.flow_frames.specs.Held.{Kept, seen, seen_frame, meant_at}
use Rattle.flow_frames.specs.Rules.{jump_need, is_broken}
use Rattle.flow_frames.specs.Stops.{IfStop, Breaks}
use Rattle.js_values.specs.declared.value.Labelled.{Labelled}
use Rattle.js_values.specs.Readings.{IsReading, read_value}
use Rattle.js_values.proofs.ReadingLaws.{IsReading-earlier}
use Rattle.es_meaning.specs.Outcomes.{Jumps, Ends}
use Rattle.native_protocol.specs.declared.request.ErrorKind.{ErrorKind}
use Rattle.flow_meaning.specs.Tracked.{throw_error}
use Rattle.flow_meaning.specs.Scopes.{stopped, State, Jump, Val, guard, reached, jump_to, jump, cut_to}
use Rattle.run_state.specs.declared.outcome.Outcome.{Outcome}
use Rattle.run_state.specs.declared.outcome.Outcome.TheVariants as outcome
use Rattle.run_state.specs.declared.world.World.{World}
use Rattle.run_state.specs.Acts.{Acts, thrown}
use Rattle.run_state.specs.Worlds.{state_of, Belongs}
use Rattle.run_state.proofs.ActLaws.{Acts-as}
use Rattle.property_access.proofs.Reading.{read_frames}
use Rattle.property_access.proofs.Reaching.{reached_is}
use Rattle.step_objects.specs.Standing.{FramesStand}
use Rattle.step_requests.specs.Asked.{thrown_on}

-- ---- a jump, by rule W9

jump_goes : {X : Type 0} (cause : Label) (j : Jump) (s : State) (depth : ℕ) → reached j.to s.frames ≡ depth → within (jump_need s.frames depth cause) (meant_at s.frames depth) ≡ true → jump {X = X} cause j s ≡ Jumps j (cut_to (suc depth) s)
unfolding jump jump_to guard
jump_goes cause j s depth is holds =
    ap (λ d. jump_to d cause j s) is
    ∙ ap (λ b. guard b W9 (jump_need s.frames depth cause) (meant_at s.frames depth) (λ t. Jumps j (cut_to (suc depth) t)) s) holds

jump_stops : {X : Type 0} (cause : Label) (j : Jump) (s : State) (depth : ℕ) → reached j.to s.frames ≡ depth → within (jump_need s.frames depth cause) (meant_at s.frames depth) ≡ false → jump {X = X} cause j s ≡ Ends (stopped W9 (jump_need s.frames depth cause) (meant_at s.frames depth)) s
unfolding jump jump_to guard
jump_stops cause j s depth is broken =
    ap (λ d. jump_to d cause j s) is
    ∙ ap (λ b. guard b W9 (jump_need s.frames depth cause) (meant_at s.frames depth) (λ t. Jumps j (cut_to (suc depth) t)) s) broken

-- a world with other frames
abbrev pub with_frames : {T : Type 0} → Kept T → World T → World T
with_frames frames w = record w { frames = frames }

-- what a call that jumps to a depth tells of the frames
module _ {S T : Type 0} (made : S → T → Type 0) (meaning : S → T → Label) (room : S → ℕ) (firm : S → Bool) (old new : S) (kept : IsKept made meaning room firm old new) (w : World T) (belongs : Belongs made meaning old w) (cause : T) (m : made old cause) (v : Labelled T) (depth : ℕ) (target : (reading : T → Label) → IsTarget (map (seen_frame reading) w.frames.frames) depth) where
  module _ (reading : T → Label) (is : IsReading made meaning new reading) where
    earlier : IsReading made meaning old reading
    earlier = IsReading-earlier made meaning room firm old new reading kept is

    need_is : jump_need (map (seen_frame reading) w.frames.frames) depth (reading cause) ≡ jump_need (seen meaning old w.frames.frames) depth (meaning old cause)
    need_is = ap₂ (λ fs l. jump_need fs depth l) (read_frames made meaning old reading w.frames.frames earlier belongs.frames) (earlier.agrees cause m)

    have_is : meant_at (map (seen_frame reading) w.frames.frames) depth ≡ meant_at (seen meaning old w.frames.frames) depth
    have_is = ap (λ fs. meant_at fs depth) (read_frames made meaning old reading w.frames.frames earlier belongs.frames)

    reaches : reached 0 (map (seen_frame reading) w.frames.frames) ≡ depth
    reaches = reached_is reading w.frames.frames depth belongs.catch (target reading)

  abbrev Broken : Bool → Type 0
  Broken broken = is_broken (jump_need (seen meaning old w.frames.frames) depth (meaning old cause)) (meant_at (seen meaning old w.frames.frames) depth) ≡ broken

  -- the frames inside the one that it goes to are left
  pub throw_goes : {X Y : Type 0} (read : (T → Label) → X → Y) (frames : Kept T) → frames.frames ≡ take (depth + 1) w.frames.frames → Broken false
      → Acts made meaning new read (λ reading. jump {X = Y} (reading cause) (thrown reading v)) w (with_frames frames w) (Ok (outcome.Throws v))
  throw_goes read frames left holds = record {
    says = λ reading is told turns.
        let s = state_of reading w told turns in
        let allowed = ap₂ within (need_is reading is) (have_is reading is) ∙ not-false (within (jump_need (seen meaning old w.frames.frames) depth (meaning old cause)) (meant_at (seen meaning old w.frames.frames) depth)) holds in
        let more : suc depth ≡ depth + 1 = omega arith in
        let cut = ap (λ n. take n (map (seen_frame reading) w.frames.frames)) more ∙ take-map (seen_frame reading) (depth + 1) w.frames.frames ∙ ap (map (seen_frame reading)) (sym left) in
        jump_goes (reading cause) (thrown reading v) s depth (reaches reading is) allowed
        ∙ ap (λ (fs : List Frame). Jumps (thrown reading v) (record s { frames = fs })) cut;
  }

  -- the rule is broken, and no frame is left
  pub throw_stops : {X Y : Type 0} (read : (T → Label) → X → Y) (stop : FlowStop T) → Breaks made meaning new w.frames.frames depth W9 (jump_need (seen meaning old w.frames.frames) depth (meaning old cause)) (meant_at (seen meaning old w.frames.frames) depth) stop
      → Acts made meaning new read (λ reading. jump {X = Y} (reading cause) (thrown reading v)) w w (Err (fault.Stop stop))
  throw_stops read stop breaks = record {
    says = λ reading is told turns.
        let s = state_of reading w told turns in
        let broken = ap₂ within (need_is reading is) (have_is reading is) ∙ not-true (within (jump_need (seen meaning old w.frames.frames) depth (meaning old cause)) (meant_at (seen meaning old w.frames.frames) depth)) breaks.broken in
        jump_stops (reading cause) (thrown reading v) s depth (reaches reading is) broken
        ∙ ap₂ (λ need have. Ends (stopped W9 need have) s) (need_is reading is ∙ sym breaks.need ∙ sym (is.agrees stop.need breaks.need_made)) (have_is reading is ∙ sym breaks.have_means ∙ sym (is.agrees stop.have breaks.have_made))
        ∙ ap (λ rule. Ends (stopped rule (reading stop.need) (reading stop.have)) s) (sym breaks.rule);
  }

  -- a call that fails so, with the same fault, and with frames that are the same
  pub throw_fails : {X Y : Type 0} (read : (T → Label) → X → Y) (frames : Kept T) (f : FlowFault T) (result : Result (Outcome X T) (FlowFault T)) → frames ≡ w.frames → IfStop (Breaks made meaning new w.frames.frames depth W9 (jump_need (seen meaning old w.frames.frames) depth (meaning old cause)) (meant_at (seen meaning old w.frames.frames) depth)) f → IsErrAnd result (λ e. e ≡ f)
      → Acts made meaning new read (λ reading. jump {X = Y} (reading cause) (thrown reading v)) w (with_frames frames w) result
  throw_fails read frames f (Ok x) same breaks is = absurd is
  throw_fails read frames (fault.Stop stop) (Err e) same breaks is =
      subst (λ r. Acts made meaning new read (λ reading. jump (reading cause) (thrown reading v)) w r (Err e)) (ap (λ (fs : Kept T). with_frames fs w) (sym same))
      (subst (λ (r : FlowFault T). Acts made meaning new read (λ reading. jump (reading cause) (thrown reading v)) w w (Err r)) (sym is) (throw_stops read stop breaks))
  throw_fails read frames fault.OutOfMemory (Err e) same breaks is =
      subst (λ (r : FlowFault T). Acts made meaning new read (λ reading. jump (reading cause) (thrown reading v)) w (with_frames frames w) (Err r)) (sym is) (record { says = λ reading read told turns. tt })

-- ---- by the cause that depends on nothing

pub without_cause : {S T : Type 0} (made : S → T → Type 0) (meaning : S → T → Label) (store : S) (none : T) (v : Labelled T) (old new : World T) (result : Result (Outcome (Labelled T) T) (FlowFault T)) → made store none → meaning store none ≡ bottom
    → Acts made meaning store (λ reading. read_value reading) (λ reading. jump (reading none) (thrown reading v)) old new result
    → Acts made meaning store (λ reading. read_value reading) (λ reading. thrown_on (read_value reading v)) old new result
without_cause made meaning store none v old new result m empty acts =
    Acts-as made meaning store (λ reading. read_value reading) (λ reading. jump (reading none) (thrown reading v)) (λ reading. thrown_on (read_value reading v)) old new result
    (λ reading is told turns. ap (λ l. jump l (thrown reading v) (state_of reading old told turns)) (sym (is.agrees none m ∙ empty))) acts

-- ---- the frames

guard_lowers : (X : Type 0) (b : Bool) (need have : Label) (j : Jump) (depth : ℕ) (s : State) → FramesStand (guard {X = X} b W9 need have (λ t. Jumps j (cut_to depth t)) s) s
unfolding guard
guard_lowers X true need have j depth s = let is = length-take depth s.frames in omega (arith, is)
guard_lowers X false need have j depth s = refl

pub thrown_stands : (v : Val) (s : State) → FramesStand (thrown_on v s) s
unfolding jump jump_to
thrown_stands v s =
    let depth = reached 0 s.frames in
    guard_lowers Val (within (jump_need s.frames depth bottom) (meant_at s.frames depth)) (jump_need s.frames depth bottom) (meant_at s.frames depth) _ (suc depth) s

-- ---- what depends on nothing in a store does so in a later one

module _ {S T : Type 0} (made : S → T → Type 0) (meaning : S → T → Label) (room : S → ℕ) (firm : S → Bool) (earlier later : S) (kept : IsKept made meaning room firm earlier later) where
  pub later_bottom : (none : T) → made earlier none → meaning earlier none ≡ bottom → meaning later none ≡ bottom
  later_bottom none m empty = (kept.labels none m).1 ∙ empty

  -- an error whose cause depends on nothing
  pub error_bottom : (kind : ErrorKind) (none : T) → made earlier none → meaning earlier none ≡ bottom → (old new : World T) (reply : Result (Outcome (Labelled T) T) (FlowFault T))
      → Acts made meaning later (λ reading. read_value reading) (λ reading. throw_error {X = Val} kind (reading none)) old new reply
      → Acts made meaning later (λ reading. read_value reading) (λ reading. throw_error {X = Val} kind bottom) old new reply
  error_bottom kind none m empty old new reply acts =
      Acts-as made meaning later (λ reading. read_value reading) (λ reading. throw_error {X = Val} kind (reading none)) (λ reading. throw_error {X = Val} kind bottom) old new reply
      (λ reading is told turns. ap (λ l. throw_error {X = Val} kind l (state_of reading old told turns)) (sym (is.agrees none (kept.labels none m).0 ∙ later_bottom none m empty))) acts
