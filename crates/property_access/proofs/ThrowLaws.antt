-- Throws, in a reading of the labels.
use Rattle.std.proofs.Common.{arith, refl, sym, ap, ap₂, subst, ◌∙◌, ◌≡◌, ◌+◌, ℕ, zero, suc, Bool, true, false, List, [], ◌∷◌, ◌++◌, map, take, length, Option, Some, Result, Ok, Err}
use Rattle.std.specs.List.{All}
use Rattle.std.specs.Result.{IsErrAnd}
use Rattle.std.proofs.lemmas.List.Elements.{All-append}
use Rattle.std.proofs.lemmas.Bool.{not-false, not-true}
use Rattle.std.proofs.lemmas.List.{take-map, length-map, map-append}
use Rattle.origin_labels.specs.Label.{Label, within}
use Rattle.origin_labels.specs.Stores.{IsKept}
use Rattle.flow_frames.specs.declared.faults.FlowFault.{FlowFault}
use Rattle.flow_frames.specs.declared.faults.FlowFault.TheVariants as fault
use Rattle.flow_frames.specs.declared.faults.FlowStop.{FlowStop}
use Rattle.flow_frames.specs.declared.faults.Rule.{Rule}
use Rattle.flow_frames.specs.declared.faults.Rule.TheVariants.{W9}
use Rattle.flow_frames.specs.Frames.{Frame, IsTarget, context}
use Rattle.flow_frames.specs.Held.{Kept, seen, seen_frame, meant_at}
use Rattle.flow_frames.specs.Rules.{jump_need, is_broken}
use Rattle.flow_frames.specs.Stops.{IfStop, Breaks}
use Rattle.js_values.specs.declared.ids.ObjId.{ObjId}
use Rattle.js_values.specs.declared.inner.Class.TheVariants as class
use Rattle.js_values.specs.declared.inner.Inner.TheVariants.{Plain}
use Rattle.js_values.specs.declared.value.Labelled.{Labelled}
use Rattle.js_values.specs.declared.value.Value.TheVariants as value
use Rattle.js_values.specs.Objects.{Object, fresh_object}
use Rattle.js_values.specs.Readings.{IsReading, HasObject, HasHeap, read_object, read_heap}
use Rattle.js_values.proofs.ReadingLaws.{IsReading-earlier}
use Rattle.object_heap.specs.Acts.{new_object}
use Rattle.es_meaning.specs.Outcomes.{Jumps, Ends, and_then}
use Rattle.native_protocol.specs.declared.request.ErrorKind.{ErrorKind}
use Rattle.es_meaning.specs.Start.{error_prototype}
use Rattle.flow_meaning.specs.Scopes.{stopped, State, Jump, LabelledLine, L, guard, reached, jump_to, jump, cut_to}
use Rattle.flow_meaning.specs.Tracked.{throw_error, with_error, error_jump}
use Rattle.run_state.specs.declared.outcome.Outcome.{Outcome}
use Rattle.run_state.specs.declared.outcome.Outcome.TheVariants as outcome
use Rattle.run_state.specs.declared.world.World.{World}
use Rattle.run_state.specs.Acts.{Says, Acts, HasAnswer, thrown}
use Rattle.run_state.specs.Worlds.{state_of, Belongs}
use Rattle.run_state.proofs.ActLaws.{recast, Acts-recast}
use Rattle.property_access.proofs.Reading.{read_frames}
use Rattle.property_access.proofs.Reaching.{reached_is}

-- ---- a jump, by rule W9

jump_goes : {X : Type 0} (cause : Label) (j : Jump) (s : State) (depth : ℕ) → reached j.to s.frames ≡ depth → within (jump_need s.frames depth cause) (meant_at s.frames depth) ≡ true → jump {X = X} cause j s ≡ Jumps j (cut_to (suc depth) s)
unfolding jump jump_to guard
jump_goes cause j s depth is holds =
    ap (λ d. jump_to d cause j s) is
    ∙ ap (λ b. guard b W9 (jump_need s.frames depth cause) (meant_at s.frames depth) (λ t. Jumps j (cut_to (suc depth) t)) s) holds

jump_stops : {X : Type 0} (cause : Label) (j : Jump) (s : State) (depth : ℕ) → reached j.to s.frames ≡ depth → within (jump_need s.frames depth cause) (meant_at s.frames depth) ≡ false → jump {X = X} cause j s ≡ Ends (stopped W9 (jump_need s.frames depth cause) (meant_at s.frames depth)) s
unfolding jump jump_to guard
jump_stops cause j s depth is broken =
    ap (λ d. jump_to d cause j s) is
    ∙ ap (λ b. guard b W9 (jump_need s.frames depth cause) (meant_at s.frames depth) (λ t. Jumps j (cut_to (suc depth) t)) s) broken

-- a world with other frames
abbrev pub with_frames : {T : Type 0} → Kept T → World T → World T
with_frames frames w = record w { frames = frames }

-- what a call that jumps to a depth tells of the frames
module _ {S T : Type 0} (made : S → T → Type 0) (meaning : S → T → Label) (room : S → ℕ) (firm : S → Bool) (old new : S) (kept : IsKept made meaning room firm old new) (w : World T) (belongs : Belongs made meaning old w) (v : Labelled T) (m : made old v.label) (depth : ℕ) (target : (reading : T → Label) → IsTarget (map (seen_frame reading) w.frames.frames) depth) where
  module _ (reading : T → Label) (is : IsReading made meaning new reading) where
    earlier : IsReading made meaning old reading
    earlier = IsReading-earlier made meaning room firm old new reading kept is

    need_is : jump_need (map (seen_frame reading) w.frames.frames) depth (reading v.label) ≡ jump_need (seen meaning old w.frames.frames) depth (meaning old v.label)
    need_is = ap₂ (λ fs l. jump_need fs depth l) (read_frames made meaning old reading w.frames.frames earlier belongs.frames) (earlier.agrees v.label m)

    have_is : meant_at (map (seen_frame reading) w.frames.frames) depth ≡ meant_at (seen meaning old w.frames.frames) depth
    have_is = ap (λ fs. meant_at fs depth) (read_frames made meaning old reading w.frames.frames earlier belongs.frames)

    reaches : reached 0 (map (seen_frame reading) w.frames.frames) ≡ depth
    reaches = reached_is reading w.frames.frames depth belongs.catch (target reading)

  abbrev Broken : Bool → Type 0
  Broken broken = is_broken (jump_need (seen meaning old w.frames.frames) depth (meaning old v.label)) (meant_at (seen meaning old w.frames.frames) depth) ≡ broken

  -- the frames inside the one that it goes to are left
  pub throw_goes : {X Y : Type 0} (read : (T → Label) → X → Y) (frames : Kept T) → frames.frames ≡ take (depth + 1) w.frames.frames → Broken false
      → Acts made meaning new read (λ reading. jump {X = Y} (reading v.label) (thrown reading v)) w (with_frames frames w) (Ok (outcome.Throws v))
  throw_goes read frames left holds = record {
    says = λ reading is told turns.
        let s = state_of reading w told turns in
        let allowed = ap₂ within (need_is reading is) (have_is reading is) ∙ not-false (within (jump_need (seen meaning old w.frames.frames) depth (meaning old v.label)) (meant_at (seen meaning old w.frames.frames) depth)) holds in
        let more : suc depth ≡ depth + 1 = omega arith in
        let cut = ap (λ n. take n (map (seen_frame reading) w.frames.frames)) more ∙ take-map (seen_frame reading) (depth + 1) w.frames.frames ∙ ap (map (seen_frame reading)) (sym left) in
        jump_goes (reading v.label) (thrown reading v) s depth (reaches reading is) allowed
        ∙ ap (λ (fs : List Frame). Jumps (thrown reading v) (record s { frames = fs })) cut;
  }

  -- the rule is broken, and no frame is left
  pub throw_stops : {X Y : Type 0} (read : (T → Label) → X → Y) (stop : FlowStop T) → Breaks made meaning new w.frames.frames depth W9 (jump_need (seen meaning old w.frames.frames) depth (meaning old v.label)) (meant_at (seen meaning old w.frames.frames) depth) stop
      → Acts made meaning new read (λ reading. jump {X = Y} (reading v.label) (thrown reading v)) w w (Err (fault.Stop stop))
  throw_stops read stop breaks = record {
    says = λ reading is told turns.
        let s = state_of reading w told turns in
        let broken = ap₂ within (need_is reading is) (have_is reading is) ∙ not-true (within (jump_need (seen meaning old w.frames.frames) depth (meaning old v.label)) (meant_at (seen meaning old w.frames.frames) depth)) breaks.broken in
        jump_stops (reading v.label) (thrown reading v) s depth (reaches reading is) broken
        ∙ ap₂ (λ need have. Ends (stopped W9 need have) s) (need_is reading is ∙ sym breaks.need ∙ sym (is.agrees stop.need breaks.need_made)) (have_is reading is ∙ sym breaks.have_means ∙ sym (is.agrees stop.have breaks.have_made))
        ∙ ap (λ rule. Ends (stopped rule (reading stop.need) (reading stop.have)) s) (sym breaks.rule);
  }

  -- a call that fails so, with the same fault, and with frames that are the same
  pub throw_fails : {X Y : Type 0} (read : (T → Label) → X → Y) (frames : Kept T) (f : FlowFault T) (result : Result (Outcome X T) (FlowFault T)) → frames ≡ w.frames → IfStop (Breaks made meaning new w.frames.frames depth W9 (jump_need (seen meaning old w.frames.frames) depth (meaning old v.label)) (meant_at (seen meaning old w.frames.frames) depth)) f → IsErrAnd result (λ e. e ≡ f)
      → Acts made meaning new read (λ reading. jump {X = Y} (reading v.label) (thrown reading v)) w (with_frames frames w) result
  throw_fails read frames f (Ok x) same breaks is = absurd is
  throw_fails read frames (fault.Stop stop) (Err e) same breaks is =
      subst (λ r. Acts made meaning new read (λ reading. jump (reading v.label) (thrown reading v)) w r (Err e)) (ap (λ (fs : Kept T). with_frames fs w) (sym same))
      (subst (λ (r : FlowFault T). Acts made meaning new read (λ reading. jump (reading v.label) (thrown reading v)) w w (Err r)) (sym is) (throw_stops read stop breaks))
  throw_fails read frames fault.OutOfMemory (Err e) same breaks is =
      subst (λ (r : FlowFault T). Acts made meaning new read (λ reading. jump (reading v.label) (thrown reading v)) w (with_frames frames w) (Err r)) (sym is) (record { says = λ reading read told turns. tt })

-- ---- an error

-- the world with an error that was made in the context
pub error_made : {S T : Type 0} (made : S → T → Type 0) (meaning : S → T → Label) (store : S) (w : World T) (belongs : Belongs made meaning store w) (kind : ErrorKind) (proto : ObjId) (label : T) (heap : List (Object T)) → proto ≡ error_prototype kind → made store label → meaning store label ≡ context (seen meaning store w.frames.frames) → heap ≡ new_object class.Error (Some proto) label label Plain w.heap
    → (reading : T → Label) → IsReading made meaning store reading → (told : List LabelledLine) (turns : ℕ) → state_of reading (record w { heap = heap }) told turns ≡ with_error kind (state_of reading w told turns)
error_made made meaning store w belongs kind proto label heap prototype m is more reading read told turns =
    let here : reading label ≡ context (map (seen_frame reading) w.frames.frames) = read.agrees label m ∙ is ∙ ap context (sym (read_frames made meaning store reading w.frames.frames read belongs.frames)) in
    let grown = ap (read_heap reading) more ∙ map-append (read_object reading) w.heap (fresh_object class.Error Plain (Some proto) label label ∷ []) in
    ap (λ (h : List (Object Label)). record (state_of reading w told turns) { heap = h }) (grown ∙ ap₂ (λ p (l : Label). read_heap reading w.heap ++ fresh_object class.Error Plain (Some p) l l ∷ []) prototype here)

all_one : {X : Type 0} (P : X → Type 0) (x : X) → P x → All P (x ∷ [])
all_one P x holds zero d lt = holds
all_one P x holds (suc k) d lt = absurd (omega (arith, lt))

-- such a world belongs to the store
pub error_belongs : {S T : Type 0} (made : S → T → Type 0) (meaning : S → T → Label) (store : S) (w : World T) (belongs : Belongs made meaning store w) (proto : Option ObjId) (label : T) (heap : List (Object T)) → made store label → heap ≡ new_object class.Error proto label label Plain w.heap → length heap ≡ length w.heap + 1 → Belongs made meaning store (record w { heap = heap })
error_belongs made meaning store w belongs proto label heap m more longer = record {
  frames = belongs.frames;
  catch = belongs.catch;
  heap = subst (λ (h : List (Object _)). HasHeap (made store) h) (sym more)
      (All-append (HasObject (made store)) w.heap (fresh_object class.Error Plain proto label label ∷ []) belongs.heap (all_one (HasObject (made store)) (fresh_object class.Error Plain proto label label) (record { inner = tt; link = m; structure = m; rows = λ k d lt. absurd (omega (arith, lt)) })));
  records = belongs.records;
  started = let before = belongs.started in omega (arith, before, longer);
}

-- where the error is made and its throw is done, the engine's error is thrown
pub error_thrown : {S T : Type 0} (made : S → T → Type 0) (meaning : S → T → Label) (room : S → ℕ) (firm : S → Bool) (old new : S) (kept : IsKept made meaning room firm old new) {X Y : Type 0} (read : (T → Label) → X → Y) (kind : ErrorKind) (cause : T) (error : ObjId) (w middle after : World T) (result : Result (Outcome X T) (FlowFault T)) → error.0 ≡ length w.heap
    → ((reading : T → Label) → IsReading made meaning old reading → (told : List LabelledLine) (turns : ℕ) → state_of reading middle told turns ≡ with_error kind (state_of reading w told turns))
    → Acts made meaning new read (λ reading. jump {X = Y} (reading cause) (thrown reading (record { value = value.Object error; label = cause }))) middle after result
    → Acts made meaning new read (λ reading. throw_error {X = Y} kind (reading cause)) w after result
unfolding throw_error
error_thrown made meaning room firm old new kept {Y = Y} read kind cause error w middle after result number is acts = record {
  says = λ reading agrees told turns.
      let earlier = IsReading-earlier made meaning room firm old new reading kept agrees in
      let numbered : error.0 ≡ length (read_heap reading w.heap) = number ∙ sym (length-map w.heap (read_object reading)) in
      let same : jump {X = Y} (reading cause) (error_jump (reading cause) (length (read_heap reading w.heap))) (with_error kind (state_of reading w told turns)) ≡ jump {X = Y} (reading cause) (thrown reading (record { value = value.Object error; label = cause })) (state_of reading middle told turns) = ap₂ (λ n s. jump {X = Y} (reading cause) (error_jump (reading cause) n) s) (sym numbered) (sym (is reading earlier told turns)) in
      subst (λ o. Says (read reading) reading o (state_of reading after told turns) result) (sym same) (acts.says reading agrees told turns);
}

-- ---- the type of the results

recast_guard : (X Y : Type 0) (b : Bool) (rule : Rule) (need have : Label) (k : Jump) (depth : ℕ) (j : Jump) (t s : State) → guard {X = Y} b rule need have (λ u. Jumps k (cut_to depth u)) s ≡ recast j t (guard {X = X} b rule need have (λ u. Jumps k (cut_to depth u)) s)
unfolding guard
recast_guard X Y true rule need have k depth j t s = refl
recast_guard X Y false rule need have k depth j t s = refl

recast_error : (X Y : Type 0) (kind : ErrorKind) (cause : Label) (j : Jump) (t s : State) → throw_error {X = Y} kind cause s ≡ recast j t (throw_error {X = X} kind cause s)
unfolding throw_error jump jump_to
recast_error X Y kind cause j t s =
    let made = with_error kind s in
    let k = error_jump cause (length s.heap) in
    let depth = reached k.to made.frames in
    recast_guard X Y (within (jump_need made.frames depth cause) (meant_at made.frames depth)) W9 (jump_need made.frames depth cause) (meant_at made.frames depth) k (suc depth) j t made

-- nothing follows it
then_guard : (X Y : Type 0) (b : Bool) (rule : Rule) (need have : Label) (k : Jump) (depth : ℕ) (f : X → L Y) (s : State) → and_then (guard {X = X} b rule need have (λ u. Jumps k (cut_to depth u)) s) f ≡ guard {X = Y} b rule need have (λ u. Jumps k (cut_to depth u)) s
unfolding guard
then_guard X Y true rule need have k depth f s = refl
then_guard X Y false rule need have k depth f s = refl

pub then_error : (X Y : Type 0) (kind : ErrorKind) (cause : Label) (f : X → L Y) (s : State) → and_then (throw_error {X = X} kind cause s) f ≡ throw_error {X = Y} kind cause s
unfolding throw_error jump jump_to
then_error X Y kind cause f s =
    let made = with_error kind s in
    let k = error_jump cause (length s.heap) in
    let depth = reached k.to made.frames in
    then_guard X Y (within (jump_need made.frames depth cause) (meant_at made.frames depth)) W9 (jump_need made.frames depth cause) (meant_at made.frames depth) k (suc depth) f made

-- an error is thrown whatever the type of the results
pub error_recast : {S T X Y Z : Type 0} (made : S → T → Type 0) (meaning : S → T → Label) (store : S) (read : (T → Label) → X → Y) (read_other : (T → Label) → X → Z) (kind : ErrorKind) (cause : (T → Label) → Label) (old new : World T) (result : Result (Outcome X T) (FlowFault T)) → HasAnswer (λ x. ⊥) (made store) result
    → Acts made meaning store read (λ reading. throw_error {X = Y} kind (cause reading)) old new result → Acts made meaning store read_other (λ reading. throw_error {X = Z} kind (cause reading)) old new result
error_recast {Y = Y} {Z = Z} made meaning store read read_other kind cause old new result never acts =
    Acts-recast made meaning store read read_other (λ reading. throw_error {X = Y} kind (cause reading)) (λ reading. throw_error {X = Z} kind (cause reading)) old new result (λ reading j t s. recast_error Y Z kind (cause reading) j t s) never acts
