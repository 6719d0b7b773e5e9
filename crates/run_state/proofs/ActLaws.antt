-- How acts of the labelled meaning follow each other, and what is kept on the way.
use Rattle.std.proofs.Common.{arith, ◌≡◌, refl, sym, ap, subst, ◌∙◌, ℕ, zero, suc, Bool, true, false, ◌&&◌, List, [], ◌∷◌, ◌++◌, map, Result, Ok, Err}
use Rattle.std.specs.List.{All}
use Rattle.std.specs.Result.{IsErrAnd}
use Rattle.std.proofs.lemmas.List.Elements.{All-append}
use Rattle.origin_labels.specs.Label.{Label, IsLabel, bottom}
use Rattle.origin_labels.specs.Stores.{IsKept}
use Rattle.flow_frames.specs.declared.faults.FlowFault.{FlowFault}
use Rattle.flow_frames.specs.declared.faults.FlowFault.TheVariants as fault
use Rattle.flow_frames.specs.declared.kind.Kind.{Kind}
use Rattle.flow_frames.specs.Changes.{pushed}
use Rattle.flow_frames.specs.Frames.{Frame}
use Rattle.flow_frames.specs.Held.{Held, CatchByTry, seen_frame}
use Rattle.flow_frames.specs.Kinds.{is_try}
use Rattle.flow_frames.proofs.StandingLaws.{Belong-kept}
use Rattle.js_values.specs.declared.value.Labelled.{Labelled}
use Rattle.js_values.specs.Readings.{IsReading}
use Rattle.js_values.proofs.ReadingLaws.{IsReading-earlier, HasHeap-kept, HasRecords-kept}
use Rattle.es_meaning.specs.Plain.{undefined}
use Rattle.es_meaning.specs.Outcomes.{throws, Outcome, Goes, Jumps, Ends, and_then, ◌>>=◌}
use Rattle.flow_meaning.specs.Scopes.{Halt, Jump, State, LabelledLine, L}
use Rattle.run_state.specs.declared.outcome.Outcome as machine
use Rattle.run_state.specs.declared.outcome.Outcome.TheVariants as outcomes
use Rattle.run_state.specs.declared.outcome.Leaving.{Leaving}
use Rattle.run_state.specs.declared.world.World.{World}
use Rattle.run_state.specs.Acts.{Says, Acts, Computes, HasAnswer}
use Rattle.run_state.specs.Worlds.{state_of, Belongs, Grows}

-- ---- one act

module _ {S T : Type 0} (made : S → T → Type 0) (meaning : S → T → Label) where
  -- another act that comes to the same in each reading that agrees with the store
  pub Acts-as : {X Y : Type 0} (store : S) (read : (T → Label) → X → Y) (act other : (T → Label) → L Y) (old new : World T) (result : Result (machine.Outcome X T) (FlowFault T))
      → ((reading : T → Label) → IsReading made meaning store reading → (told : List LabelledLine) (turns : ℕ) → other reading (state_of reading old told turns) ≡ act reading (state_of reading old told turns))
      → Acts made meaning store read act old new result → Acts made meaning store read other old new result
  Acts-as store read act other old new result same acts = record {
    says = λ reading is told turns. subst (λ o. Says (read reading) reading o (state_of reading new told turns) result) (sym (same reading is told turns)) (acts.says reading is told turns);
  }

  -- what computes an act does it, in any store
  pub Acts-computes : {X Y : Type 0} (store : S) (read : (T → Label) → X → Y) (act : (T → Label) → L Y) (w : World T) (result : Result (machine.Outcome X T) (FlowFault T)) → Computes read act w result → Acts made meaning store read act w w result
  Acts-computes store read act w result computes = record { says = λ reading is told turns. computes.says reading told turns }

  -- where an act doesn't go on, what would follow isn't done
  module _ {X Y Z W : Type 0} (store : S) (read : (T → Label) → X → Y) (read_next : (T → Label) → Z → W) (act : (T → Label) → L Y) (next : (T → Label) → Y → L W) (old new : World T) where
    pub Acts-throws : (v : Labelled T) → Acts made meaning store read act old new (Ok (outcomes.Throws v)) → Acts made meaning store read_next (λ reading. act reading >>= next reading) old new (Ok (outcomes.Throws v))
    Acts-throws v acts = record { says = λ reading is told turns. ap (λ o. and_then o (next reading)) (acts.says reading is told turns) }

    pub Acts-leaves : (why : Leaving) → Acts made meaning store read act old new (Ok (outcomes.Leaves why)) → Acts made meaning store read_next (λ reading. act reading >>= next reading) old new (Ok (outcomes.Leaves why))
    Acts-leaves why acts = record { says = λ reading is told turns. ap (λ o. and_then o (next reading)) (acts.says reading is told turns) }

    pub Acts-fails : (f : FlowFault T) → Acts made meaning store read act old new (Err f) → Acts made meaning store read_next (λ reading. act reading >>= next reading) old new (Err f)
    Acts-fails (fault.Stop stop) acts = record { says = λ reading is told turns. ap (λ o. and_then o (next reading)) (acts.says reading is told turns) }
    Acts-fails fault.OutOfMemory acts = record { says = λ reading is told turns. tt }

    -- a `?` hands on the fault
    pub Acts-passes : (f : FlowFault T) (result : Result (machine.Outcome Z T) (FlowFault T)) → IsErrAnd result (λ e. e ≡ f) → Acts made meaning store read act old new (Err f) → Acts made meaning store read_next (λ reading. act reading >>= next reading) old new result
    Acts-passes f (Ok x) is acts = absurd is
    Acts-passes f (Err e) is acts = subst (λ (r : FlowFault T). Acts made meaning store read_next (λ reading. act reading >>= next reading) old new (Err r)) (sym is) (Acts-fails f acts)

-- ---- an answer

-- what has labels of a store where it never goes on, or by weaker predicates
pub HasAnswer-weaker : {X T : Type 0} (has has_new : X → Type 0) (made made_new : T → Type 0) (result : Result (machine.Outcome X T) (FlowFault T)) → ((x : X) → has x → has_new x) → ((label : T) → made label → made_new label) → HasAnswer has made result → HasAnswer has_new made_new result
HasAnswer-weaker has has_new made made_new (Ok (outcomes.Goes x)) f g answer = f x answer
HasAnswer-weaker has has_new made made_new (Ok (outcomes.Throws v)) f g answer = g v.label answer
HasAnswer-weaker has has_new made made_new (Ok (outcomes.Leaves why)) f g answer = tt
HasAnswer-weaker has has_new made made_new (Err (fault.Stop stop)) f g answer = (g stop.need answer.0, g stop.have answer.1)
HasAnswer-weaker has has_new made made_new (Err fault.OutOfMemory) f g answer = tt

-- an answer that never goes on has whatever is asked of one that does
pub HasAnswer-never : {X T : Type 0} (has : X → Type 0) (made : T → Type 0) (result : Result (machine.Outcome X T) (FlowFault T)) → HasAnswer (λ x. ⊥) made result → HasAnswer has made result
HasAnswer-never has made result answer = HasAnswer-weaker (λ x. ⊥) has made made result (λ x never. absurd never) (λ label m. m) answer

-- ---- acts that never go on

-- an outcome that doesn't go on, for results of another type. In the place of one that goes on stands a jump
abbrev pub recast : {X Y : Type 0} → Jump → State → Outcome Halt Jump X State → Outcome Halt Jump Y State
recast j t (Goes x s) = Jumps j t
recast j t (Jumps k s) = Jumps k s
recast j t (Ends halt s) = Ends halt s

Says-recast : {X Y Z T : Type 0} (made : T → Type 0) (read : X → Y) (read_other : X → Z) (reading : T → Label) (j : Jump) (t : State) (outcome : Outcome Halt Jump Y State) (s : State) (result : Result (machine.Outcome X T) (FlowFault T)) → HasAnswer (λ x. ⊥) made result → Says read reading outcome s result → Says read_other reading (recast j t outcome) s result
Says-recast made read read_other reading j t outcome s (Ok (outcomes.Goes x)) never says = absurd never
Says-recast made read read_other reading j t outcome s (Ok (outcomes.Throws v)) never says = ap (recast j t) says
Says-recast made read read_other reading j t outcome s (Ok (outcomes.Leaves why)) never says = ap (recast j t) says
Says-recast made read read_other reading j t outcome s (Err (fault.Stop stop)) never says = ap (recast j t) says
Says-recast made read read_other reading j t outcome s (Err fault.OutOfMemory) never says = tt

-- an act that never goes on is done whatever the type of its results
pub Acts-recast : {S T X Y Z : Type 0} (made : S → T → Type 0) (meaning : S → T → Label) (store : S) (read : (T → Label) → X → Y) (read_other : (T → Label) → X → Z) (act : (T → Label) → L Y) (other : (T → Label) → L Z) (old new : World T) (result : Result (machine.Outcome X T) (FlowFault T))
    → ((reading : T → Label) (j : Jump) (t s : State) → other reading s ≡ recast j t (act reading s)) → HasAnswer (λ x. ⊥) (made store) result
    → Acts made meaning store read act old new result → Acts made meaning store read_other other old new result
Acts-recast made meaning store read read_other act other old new result same never acts = record {
  says = λ reading is told turns.
      let s = state_of reading old told turns in
      let j : Jump = record { exit = throws; to = 0; value = record { value = undefined; label = bottom } } in
      subst (λ o. Says (read_other reading) reading o (state_of reading new told turns) result) (sym (same reading j s s))
      (Says-recast (made store) (read reading) (read_other reading) reading j s (act reading s) (state_of reading new told turns) result never (acts.says reading is told turns));
}

-- ---- frames that catch

abbrev Tries : Frame → Type 0
Tries f = (is_try f.kind && f.active) ≡ f.active

module _ {T : Type 0} (reading : T → Label) where
  tries_seen : (frames : List (Held T)) → CatchByTry frames → All Tries (map (seen_frame reading) frames)
  tries_seen [] tries k d lt = absurd (omega (arith, lt))
  tries_seen (h ∷ frames) tries zero d lt = tries 0 h (omega arith)
  tries_seen (h ∷ frames) tries (suc k) d lt = tries_seen frames (λ n e l. tries (suc n) e (omega (arith, l))) k d (omega (arith, lt))

  tries_held : (frames : List (Held T)) → All Tries (map (seen_frame reading) frames) → CatchByTry frames
  tries_held [] tries k d lt = absurd (omega (arith, lt))
  tries_held (h ∷ frames) tries zero d lt = tries 0 (seen_frame reading h) (omega arith)
  tries_held (h ∷ frames) tries (suc k) d lt = tries_held frames (λ n e l. tries (suc n) e (omega (arith, l))) k d (omega (arith, lt))

and_same : (b : Bool) → (b && b) ≡ b
and_same true = refl
and_same false = refl

-- of frames with one more only Try frames catch still, as of the Root alone
pub CatchByTry-pushed : {T : Type 0} (earlier later : T → Label) (before behind : List (Held T)) (kind : Kind) (label : Label) → CatchByTry before → map (seen_frame later) behind ≡ map (seen_frame earlier) before ++ pushed kind label ∷ [] → CatchByTry behind
CatchByTry-pushed earlier later before behind kind label tries more =
    tries_held later behind (subst (All Tries) (sym more) (All-append Tries (map (seen_frame earlier) before) (pushed kind label ∷ []) (tries_seen earlier before tries) last))
  where
    last : All Tries (pushed kind label ∷ [])
    last zero d lt = and_same (is_try kind)
    last (suc k) d lt = absurd (omega (arith, lt))

-- ---- a later store

module _ {S T : Type 0} (made : S → T → Type 0) (meaning : S → T → Label) (room : S → ℕ) (firm : S → Bool) (earlier later : S) (kept : IsKept made meaning room firm earlier later) where
  -- what a call did in a store it did in each later one
  pub Acts-later : {X Y : Type 0} (read : (T → Label) → X → Y) (act : (T → Label) → L Y) (old new : World T) (result : Result (machine.Outcome X T) (FlowFault T)) → Acts made meaning earlier read act old new result → Acts made meaning later read act old new result
  Acts-later read act old new result acts = record { says = λ reading is told turns. acts.says reading (IsReading-earlier made meaning room firm earlier later reading kept is) told turns }

  -- an act that goes on, and then the next one, in a later store
  pub Acts-then : {X Y Z W : Type 0} (read : (T → Label) → X → Y) (read_next : (T → Label) → Z → W) (act : (T → Label) → L Y) (next : (T → Label) → Y → L W) (old middle new : World T) (x : X) (result : Result (machine.Outcome Z T) (FlowFault T))
      → Acts made meaning earlier read act old middle (Ok (outcomes.Goes x))
      → Acts made meaning later read_next (λ reading. next reading (read reading x)) middle new result
      → Acts made meaning later read_next (λ reading. act reading >>= next reading) old new result
  Acts-then read read_next act next old middle new x result first second = record {
    says = λ reading is told turns.
        let went = first.says reading (IsReading-earlier made meaning room firm earlier later reading kept is) told turns in
        subst (λ (o : Outcome Halt Jump _ State). Says (read_next reading) reading (and_then o (next reading)) (state_of reading new told turns) result) (sym went) (second.says reading is told turns);
  }

  pub HasAnswer-later : {X : Type 0} (has : X → Type 0) (result : Result (machine.Outcome X T) (FlowFault T)) → HasAnswer has (made earlier) result → HasAnswer has (made later) result
  HasAnswer-later has result answer = HasAnswer-weaker has has (made earlier) (made later) result (λ x h. h) (λ label m. (kept.labels label m).0) answer

  -- a world that belongs to a store belongs to each later one
  pub Belongs-later : ((store : S) (label : T) → made store label → IsLabel (meaning store label)) → (w : World T) → Belongs made meaning earlier w → Belongs made meaning later w
  Belongs-later rising w belongs = record {
    frames = Belong-kept made meaning rising room firm earlier later w.frames.frames kept belongs.frames;
    catch = belongs.catch;
    heap = HasHeap-kept made meaning room firm earlier later kept w.heap belongs.heap;
    records = HasRecords-kept made meaning room firm earlier later kept w.records belongs.records;
    started = belongs.started;
  }

-- ---- growth

pub Grows-refl : {T : Type 0} (w : World T) → Grows w w
Grows-refl w = record { heap = omega arith; records = omega arith; positions = refl }

pub Grows-trans : {T : Type 0} (old middle new : World T) → Grows old middle → Grows middle new → Grows old new
Grows-trans old middle new first second = record {
  heap = let a = first.heap in let b = second.heap in omega (arith, a, b);
  records = let a = first.records in let b = second.records in omega (arith, a, b);
  positions = second.positions ∙ first.positions;
}
