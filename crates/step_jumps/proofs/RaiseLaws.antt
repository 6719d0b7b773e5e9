-- Frames that are raised, in a reading of the labels.
use Rattle.std.proofs.Common.{arith, refl, sym, ap, ap₂, subst, ◌∙◌, ◌≡◌, ◌+◌, ◌≤◌, ℕ, zero, suc, Bool, true, false, List, [], ◌∷◌, map, length, Option, Some, None, Result, Ok, Err}
use Rattle.std.specs.Option.{option_map}
use Rattle.std.specs.Result.{IsErrAnd}
use Rattle.std.proofs.lemmas.Bool.{not-false, not-true}
use Rattle.std.proofs.lemmas.List.{drop_all, length-map}
use Rattle.origin_labels.specs.Label.{Label, within}
use Rattle.origin_labels.specs.Stores.{IsKept}
use Rattle.flow_frames.specs.declared.faults.FlowFault.{FlowFault}
use Rattle.flow_frames.specs.declared.faults.FlowFault.TheVariants as fault
use Rattle.flow_frames.specs.declared.faults.FlowStop.{FlowStop}
use Rattle.flow_frames.specs.declared.faults.Rule.TheVariants.{W10}
use Rattle.flow_frames.specs.Changes.{changed_at, raised}
use Rattle.flow_frames.specs.Frames.{Frame, context}
use Rattle.flow_frames.specs.Held.{Held, Belong, seen, seen_frame, meant_at}
use Rattle.flow_frames.specs.Rules.{raise_need, is_broken}
use Rattle.flow_frames.specs.Stops.{IfStop, Breaks}
use Rattle.js_values.specs.Readings.{IsReading}
use Rattle.js_values.proofs.ReadingLaws.{IsReading-earlier}
use Rattle.es_meaning.specs.Environments.{Leaving}
use Rattle.es_meaning.specs.Outcomes.{Exit, Goes, Ends}
use Rattle.flow_meaning.specs.Scopes.{stopped, State, guard, frame_of, raise_frame}
use Rattle.flow_meaning.specs.Tracked.{raises}
use Rattle.continuations.specs.Resuming.{with_frames}
use Rattle.continuations.proofs.Reading.{read_frames}
use Rattle.step_jumps.specs.Raising.{SaysRaised}

-- ---- a raise, by rule W10

raise_goes : (depth : ℕ) (label : Label) (s : State) → within (raise_need s.frames depth) (meant_at s.frames depth) ≡ true → raise_frame depth label s ≡ Goes tt (record s { frames = raised s.frames depth label })
unfolding raise_frame guard
raise_goes depth label s holds = ap (λ b. guard b W10 (raise_need s.frames depth) (meant_at s.frames depth) (λ t. Goes tt (record t { frames = raised t.frames depth label })) s) holds

raise_stops : (depth : ℕ) (label : Label) (s : State) → within (raise_need s.frames depth) (meant_at s.frames depth) ≡ false → raise_frame depth label s ≡ Ends (stopped W10 (raise_need s.frames depth) (meant_at s.frames depth)) s
unfolding raise_frame guard
raise_stops depth label s broken = ap (λ b. guard b W10 (raise_need s.frames depth) (meant_at s.frames depth) (λ t. Goes tt (record t { frames = raised t.frames depth label })) s) broken

-- where no frame stands at the depth nothing is inside it, and none is raised
none_inside : (frames : List Frame) (depth : ℕ) → length frames ≤ depth → within (raise_need frames depth) (meant_at frames depth) ≡ true
unfolding context within
none_inside frames depth past = ap (λ fs. within (context fs) (meant_at frames depth)) (drop_all (depth + 1) frames (omega (arith, past)))

none_raised : (frames : List Frame) (depth : ℕ) (label : Label) → length frames ≤ depth → raised frames depth label ≡ frames
unfolding changed_at
none_raised [] depth label past = refl
none_raised (f ∷ frames) zero label past = absurd (omega (arith, past))
none_raised (f ∷ frames) (suc depth) label past = ap (λ fs. f ∷ fs) (none_raised frames depth label (omega (arith, past)))

pub raise_past : {T : Type 0} (reading : T → Label) (frames : List (Held T)) (s : State) (depth : ℕ) (label : Label) → length frames ≤ depth → raise_frame depth label (with_frames reading frames s) ≡ Goes tt (with_frames reading frames s)
raise_past reading frames s depth label past =
    let seen_past : length (map (seen_frame reading) frames) ≤ depth = omega (arith, past, length-map frames (seen_frame reading)) in
    raise_goes depth label (with_frames reading frames s) (none_inside (map (seen_frame reading) frames) depth seen_past)
    ∙ ap (λ (fs : List Frame). Goes tt (record s { frames = fs })) (none_raised (map (seen_frame reading) frames) depth label seen_past)

-- what a call that raises the frame at a depth tells of the frames
module _ {S T : Type 0} (made : S → T → Type 0) (meaning : S → T → Label) (room : S → ℕ) (firm : S → Bool) (old new : S) (kept : IsKept made meaning room firm old new) (frames : List (Held T)) (belongs : Belong made meaning old frames) (depth : ℕ) (label : T) (has : made old label) where
  module _ (reading : T → Label) (is : IsReading made meaning new reading) where
    earlier : IsReading made meaning old reading
    earlier = IsReading-earlier made meaning room firm old new reading kept is

    same : map (seen_frame reading) frames ≡ seen meaning old frames
    same = read_frames made meaning old reading frames earlier belongs

    test_is : within (raise_need (map (seen_frame reading) frames) depth) (meant_at (map (seen_frame reading) frames) depth) ≡ within (raise_need (seen meaning old frames) depth) (meant_at (seen meaning old frames) depth)
    test_is = ap (λ fs. within (raise_need fs depth) (meant_at fs depth)) same

  pub raises_frame : (after : List (Held T)) → Belong made meaning new after → seen meaning new after ≡ raised (seen meaning old frames) depth (meaning old label) → is_broken (raise_need (seen meaning old frames) depth) (meant_at (seen meaning old frames) depth) ≡ false
      → (reading : T → Label) (s : State) → IsReading made meaning new reading → raise_frame depth (reading label) (with_frames reading frames s) ≡ Goes tt (with_frames reading after s)
  raises_frame after belongs_after is holds = λ reading s read.
      let allowed = test_is reading read ∙ not-false (within (raise_need (seen meaning old frames) depth) (meant_at (seen meaning old frames) depth)) holds in
      raise_goes depth (reading label) (with_frames reading frames s) allowed
      ∙ ap (λ (fs : List Frame). Goes tt (record s { frames = fs })) (ap₂ (λ fs l. raised fs depth l) (same reading read) ((earlier reading read).agrees label has) ∙ sym is ∙ sym (read_frames made meaning new reading after read belongs_after))

  stops_frame : (stop : FlowStop T) → Breaks made meaning new frames depth W10 (raise_need (seen meaning old frames) depth) (meant_at (seen meaning old frames) depth) stop
      → (reading : T → Label) (s : State) → IsReading made meaning new reading → raise_frame depth (reading label) (with_frames reading frames s) ≡ Ends (stopped stop.rule (reading stop.need) (reading stop.have)) (with_frames reading frames s)
  stops_frame stop breaks = λ reading s read.
      let broken = test_is reading read ∙ not-true (within (raise_need (seen meaning old frames) depth) (meant_at (seen meaning old frames) depth)) breaks.broken in
      raise_stops depth (reading label) (with_frames reading frames s) broken
      ∙ ap₂ (λ need have. Ends (stopped W10 need have) (with_frames reading frames s)) (ap (λ fs. raise_need fs depth) (same reading read) ∙ sym breaks.need ∙ sym (read.agrees stop.need breaks.need_made)) (ap (λ fs. meant_at fs depth) (same reading read) ∙ sym breaks.have_means ∙ sym (read.agrees stop.have breaks.have_made))
      ∙ ap (λ rule. Ends (stopped rule (reading stop.need) (reading stop.have)) (with_frames reading frames s)) (sym breaks.rule)

  -- a call that fails so, with the same fault
  pub raise_fails : (X : Type 0) (after : List (Held T)) (f : FlowFault T) (result : Result X (FlowFault T)) → after ≡ frames → IfStop (Breaks made meaning new frames depth W10 (raise_need (seen meaning old frames) depth) (meant_at (seen meaning old frames) depth)) f → IsErrAnd result (λ e. e ≡ f)
      → (reading : T → Label) (s : State) → IsReading made meaning new reading → SaysRaised reading (raise_frame depth (reading label) (with_frames reading frames s)) (with_frames reading after s) result
  raise_fails X after f (Ok x) alike breaks is = absurd is
  raise_fails X after (fault.Stop stop) (Err e) alike breaks is = λ reading s read.
      subst (λ hs. SaysRaised {X = X} reading (raise_frame depth (reading label) (with_frames reading frames s)) (with_frames reading hs s) (Err e)) (sym alike)
      (subst (λ (r : FlowFault T). SaysRaised {X = X} reading (raise_frame depth (reading label) (with_frames reading frames s)) (with_frames reading frames s) (Err r)) (sym is) (stops_frame stop breaks reading s read))
  raise_fails X after fault.OutOfMemory (Err e) alike breaks is = λ reading s read.
      subst (λ (r : FlowFault T). SaysRaised {X = X} reading (raise_frame depth (reading label) (with_frames reading frames s)) (with_frames reading after s) (Err r)) (sym is) tt

-- ---- the frame of which a directive speaks

pub no_frame : (leaving : Leaving) (aim : Option (Exit × ℕ)) (label : Label) (s : State) → None ≡ option_map (λ (f : Exit × ℕ). f.1) aim → raises leaving aim label s ≡ Goes tt s
unfolding raises
no_frame leaving None label s e = refl
no_frame leaving (Some to) label s e = cc e

pub its_frame : (leaving : Leaving) (aim : Option (Exit × ℕ)) (to depth : ℕ) (label : Label) (s : State) → Some to ≡ option_map (λ (f : Exit × ℕ). f.1) aim → frame_of leaving to s.frames ≡ depth → raises leaving aim label s ≡ raise_frame depth label s
unfolding raises
its_frame leaving None to depth label s e is = cc e
its_frame leaving (Some f) to depth label s e is = let same : f.1 ≡ to = cc e in ap (λ d. raise_frame (frame_of leaving d s.frames) label s) same ∙ ap (λ d. raise_frame d label s) is
