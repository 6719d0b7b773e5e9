-- What still holds of a machine behind a call.
use Rattle.std.proofs.Common.{refl, sym, ap, subst, ◌∙◌, ◌≡◌, ◌≤◌, ◌+◌, ◌-◌, ℕ, suc, Bool, List, [], ◌∷◌, ◌++◌, length, take, drop, append-nil, Result, Ok, Err, IfOk, arith}
use Rattle.std.specs.List.{All}
use Rattle.std.proofs.lemmas.List.{length_push}
use Rattle.std.proofs.lemmas.List.Elements.{All-append, All-drop, All-take}
use Rattle.origin_labels.specs.Label.{Label}
use Rattle.origin_labels.specs.Stores.{IsKept}
use Rattle.origin_labels.proofs.StoreLaws.{IsKept-refl}
use Rattle.flow_frames.specs.Held.{Belong, CatchByTry}
use Rattle.flow_frames.specs.Held as held
use Rattle.flow_frames.specs.declared.faults.FlowFault.{FlowFault}
use Rattle.js_values.specs.Readings.{HasValue}
use Rattle.js_values.proofs.ReadingLaws.{HasHeap-kept, HasRecords-kept}
use Rattle.run_state.specs.declared.world.World.{World}
use Rattle.run_state.specs.Worlds.{Belongs, Grows}
use Rattle.run_state.proofs.ActLaws.{Grows-refl}
use Rattle.continuations.specs.declared.continuation.Continuation.{Continuation}
use Rattle.continuations.specs.declared.continuation.Jump.{Jump}
use Rattle.continuations.specs.declared.continuation.Control.{Control}
use Rattle.continuations.specs.declared.continuation.Control.TheVariants as control
use Rattle.continuations.specs.Kept.{Kept, scope_of, scopes_of, waiting, kept_operands, operands_of}
use Rattle.continuations.specs.Pending.{owns, values_of}
use Rattle.continuations.specs.Resuming.{Keeps, Opened, Passed, LeavesAt}
use Rattle.continuations.specs.Moving.{Rests, Stands}
use Rattle.continuations.specs.Invariant.{Invariant, Framed, depths, running}
use Rattle.step_core.specs.Going.{StandsStill}
use Rattle.step_core.proofs.Depths.{depths_more, depths_outside, framed, framed_at, last_depth}
use Rattle.step_core.proofs.Parts.{behind_all, front_all, later_values}

-- ---- frames

pub framed_behind : {T : Type 0} (old new : World T) (move : Control) (scopes : ℕ) → length old.frames.frames ≡ suc scopes → Stands old new move → Framed move (length new.frames.frames) scopes
framed_behind old new (control.Jumps j) scopes all stands = omega (arith, all, stands)
framed_behind old new _ scopes all stands = stands ∙ all

stands_same : {T : Type 0} (w : World T) (move : Control) → Stands w w move
stands_same w (control.Jumps j) = omega arith
stands_same w _ = refl

module _ {S T : Type 0} (made : S → T → Type 0) (meaning : S → T → Label) where
  -- before any move that is no jump the same holds
  pub standing_whole : {count natives : ℕ} (store : S) (stack : Kept T) (world : World T) (pending : List ℕ) (move : Control) → ((frames scopes : ℕ) → Framed move frames scopes → frames ≡ suc scopes) → running move ≡ 0 → Invariant made meaning store stack world count pending natives move → Invariant made meaning store stack world count pending natives control.Done
  standing_whole store stack world pending move whole still stands = record {
    belongs = stands.belongs;
    operands = stands.operands;
    values = stands.values;
    scopes = stands.scopes;
    frames = whole (length world.frames.frames) (length pending) stands.frames;
    records = stands.records;
    natives = let all = stands.natives in omega (arith, all, still);
  }

  -- ---- a part is entered, or a move begins what it says

  -- the same operands and values, and no frame
  pub standing_keeps : {count natives : ℕ} (store : S) (old new : Kept T) (world : World T) (move : Control) → Invariant made meaning store old world count (scopes_of old.tasks) natives control.Done → Keeps old new move
      → StandsStill made meaning store natives new world move
  standing_keeps store old new world move stands keeps still = record {
    belongs = stands.belongs;
    operands = subst (All (HasValue (made store))) (sym keeps.operands) stands.operands;
    values = keeps.values;
    scopes = subst (λ ds. ds ≡ depths (length ds)) (sym keeps.scopes) stands.scopes;
    frames = framed move (length world.frames.frames) (length (scopes_of new.tasks)) (stands.frames ∙ ap (λ ds. suc (length ds)) (sym keeps.scopes));
    records = stands.records;
    natives = let all = stands.natives in let same = keeps.natives in omega (arith, all, same, still);
  }

  module _ (room : S → ℕ) (firm : S → Bool) (earlier later : S) (kept : IsKept made meaning room firm earlier later) where
    -- one frame more, with its scope
    pub standing_opened : {count natives : ℕ} (old new : Kept T) (world : World T) (frames : held.Kept T) (move : Control) → Invariant made meaning earlier old world count (scopes_of old.tasks) natives control.Done → Opened old new world.frames.frames frames.frames move
        → Belong made meaning later frames.frames → CatchByTry frames.frames
        → StandsStill made meaning later natives new (record world { frames = frames }) move
    standing_opened old new world frames move stands opened belong catch still =
        let grown : length (scopes_of new.tasks) ≡ suc (length (scopes_of old.tasks)) = ap length opened.scopes ∙ length_push (scopes_of old.tasks) (length world.frames.frames) ∙ omega arith in
        record {
          belongs = record {
            frames = belong;
            catch = catch;
            heap = HasHeap-kept made meaning room firm earlier later kept world.heap stands.belongs.heap;
            records = HasRecords-kept made meaning room firm earlier later kept world.records stands.belongs.records;
            started = stands.belongs.started;
          };
          operands = subst (All (HasValue (made later))) (sym opened.operands) (later_values made meaning room firm earlier later kept (take (length (operands_of new)) (operands_of old)) (All-take (HasValue (made earlier)) (length (operands_of new)) (operands_of old) stands.operands));
          values = opened.values;
          scopes = subst (λ ds. ds ≡ depths (length ds)) (sym opened.scopes) (depths_more (scopes_of old.tasks) (length world.frames.frames) stands.scopes stands.frames);
          frames = framed move (length frames.frames) (length (scopes_of new.tasks)) (opened.deeper ∙ omega (arith, stands.frames, grown));
          records = stands.records;
          natives = let all = stands.natives in let same = opened.natives in omega (arith, all, same, still);
        }

    -- an act was done, and its answer handed on
    pub standing_rests : {count natives : ℕ} (old new : Kept T) (world_old world_new : World T) (move : Control) → Invariant made meaning earlier old world_old count (scopes_of old.tasks) natives control.Done → Rests (made later) old new move
        → Stands world_old world_new move → Belongs made meaning later world_new → Grows world_old world_new
        → StandsStill made meaning later natives new world_new move
    standing_rests old new world_old world_new move stands rests whole belongs grows still = record {
      belongs = belongs;
      operands = rests.operands (later_values made meaning room firm earlier later kept (kept_operands old.tasks) (front_all (HasValue (made earlier)) (kept_operands old.tasks) old.loose stands.operands));
      values = rests.values;
      scopes = subst (λ ds. ds ≡ depths (length ds)) (sym rests.scopes) stands.scopes;
      frames = framed_behind world_old world_new move (length (scopes_of new.tasks)) (stands.frames ∙ ap (λ ds. suc (length ds)) (sym rests.scopes)) whole;
      records = let some = stands.records in let more = grows.records in omega (arith, some, more);
      natives = let all = stands.natives in let same = rests.natives in omega (arith, all, same, still);
    }

    pub standing_acts : {count natives : ℕ} (old new : Kept T) (world_old world_new : World T) (result : Result Control (FlowFault T)) → Invariant made meaning earlier old world_old count (scopes_of old.tasks) natives control.Done → IfOk result (Rests (made later) old new)
        → IfOk result (Stands world_old world_new) → Belongs made meaning later world_new → Grows world_old world_new
        → IfOk result (StandsStill made meaning later natives new world_new)
    standing_acts old new world_old world_new (Ok move) stands rests whole belongs grows = standing_rests old new world_old world_new move stands rests whole belongs grows
    standing_acts old new world_old world_new (Err f) stands rests whole belongs grows = tt

    -- the same world
    pub standing_alike : {count natives : ℕ} (old new : Kept T) (world : World T) (result : Result Control (FlowFault T)) → Invariant made meaning earlier old world count (scopes_of old.tasks) natives control.Done → IfOk result (Rests (made later) old new)
        → Belongs made meaning later world → IfOk result (StandsStill made meaning later natives new world)
    standing_alike old new world (Ok move) stands rests belongs = standing_rests old new world world move stands rests (stands_same world move) belongs (Grows-refl world)
    standing_alike old new world (Err f) stands rests belongs = tt

  -- the same store and world
  pub standing_stays : {count natives : ℕ} (room : S → ℕ) (firm : S → Bool) (store : S) (old new : Kept T) (world : World T) (move : Control) → Invariant made meaning store old world count (scopes_of old.tasks) natives control.Done → Rests (made store) old new move
      → StandsStill made meaning store natives new world move
  standing_stays room firm store old new world move stands rests =
      standing_rests room firm store store (IsKept-refl made meaning room firm store) old new world world move stands rests (stands_same world move) stands.belongs (Grows-refl world)

  -- ---- jumps

  -- it passes work without a frame
  pub standing_passed : (j : Jump) (store : S) (old new : Kept T) (world : World T) (w : Continuation) (natives : ℕ) (move : Control) → Invariant made meaning store old world (owns w + 1) (scopes_of old.tasks ++ scope_of w) natives (control.Jumps j) → scope_of w ≡ [] → Passed j old new move
      → StandsStill made meaning store natives new world move
  standing_passed j store old new world w natives move stands none passed still =
      let same : scopes_of old.tasks ++ scope_of w ≡ scopes_of new.tasks = ap (λ ds. scopes_of old.tasks ++ ds) none ∙ append-nil (scopes_of old.tasks) ∙ ap scopes_of (sym passed.tasks) in
      let below = front_all (HasValue (made store)) (kept_operands old.tasks) old.loose stands.operands in
      let above = All-drop (HasValue (made store)) (length old.loose - 1) old.loose (behind_all (HasValue (made store)) (kept_operands old.tasks) old.loose stands.operands) in
      record {
        belongs = stands.belongs;
        operands = subst (All (HasValue (made store))) (sym passed.operands) (All-append (HasValue (made store)) (kept_operands old.tasks) (drop (length old.loose - 1) old.loose) below above);
        values = passed.values;
        scopes = subst (λ ds. ds ≡ depths (length ds)) same stands.scopes;
        frames = subst (λ m. Framed m (length world.frames.frames) (length (scopes_of new.tasks))) (sym passed.jumps) (subst (λ ds. length world.frames.frames ≤ suc (length ds)) same stands.frames);
        records = stands.records;
        natives = let all = stands.natives in let kept = ap waiting passed.tasks in omega (arith, all, kept, still);
      }

  module _ (j : Jump) (store : S) (old : Kept T) (world : World T) (depth natives : ℕ) (stands : Invariant made meaning store old world 1 (scopes_of old.tasks ++ depth ∷ []) natives (control.Jumps j)) where
    -- the scope that was taken is the innermost one
    pub depth_taken : depth ≡ suc (length (scopes_of old.tasks))
    depth_taken =
        let last : suc (length (scopes_of old.tasks ++ depth ∷ [])) ≡ depth + 1 = last_depth (scopes_of old.tasks) depth (suc (length (scopes_of old.tasks ++ depth ∷ []))) stands.scopes refl in
        omega (arith, last, length_push (scopes_of old.tasks) depth)

    pub frames_taken : length world.frames.frames ≤ depth + 1
    frames_taken = let few = stands.frames in let deep = depth_taken in let size = length_push (scopes_of old.tasks) depth in omega (arith, few, deep, size)

    -- it comes to the end of the scope that was taken
    pub standing_left : (new : Kept T) (frames : held.Kept T) (move : Control) → LeavesAt depth old new world.frames.frames frames.frames move → All (HasValue (made store)) new.loose
        → Belong made meaning store frames.frames → CatchByTry frames.frames
        → StandsStill made meaning store natives new (record world { frames = frames }) move
    standing_left new frames move leaves has belong catch still = record {
      belongs = record { frames = belong; catch = catch; heap = stands.belongs.heap; records = stands.belongs.records; started = stands.belongs.started };
      operands = All-append (HasValue (made store)) (kept_operands new.tasks) new.loose
          (subst (λ ts. All (HasValue (made store)) (kept_operands ts)) (sym leaves.tasks) (front_all (HasValue (made store)) (kept_operands old.tasks) old.loose stands.operands)) has;
      values = leaves.values;
      scopes = subst (λ ts. scopes_of ts ≡ depths (length (scopes_of ts))) (sym leaves.tasks) (depths_outside (scopes_of old.tasks) depth stands.scopes);
      frames = framed_at depth frames.frames move (length (scopes_of new.tasks)) (depth_taken ∙ ap (λ ts. suc (length (scopes_of ts))) (sym leaves.tasks)) leaves.stands;
      records = stands.records;
      natives = let all = stands.natives in let kept = ap waiting leaves.tasks in omega (arith, all, kept, still);
    }

-- what stands whatever is next stands where no built-in is to run
pub stands_anyway : {S T : Type 0} (made : S → T → Type 0) (meaning : S → T → Label) (store : S) (natives : ℕ) (stack : Kept T) (world : World T) (result : Result Control (FlowFault T)) → IfOk result (λ move. Invariant made meaning store stack world (values_of move) (scopes_of stack.tasks) natives move) → IfOk result (StandsStill made meaning store natives stack world)
stands_anyway made meaning store natives stack world (Ok move) stands = λ still. stands
stands_anyway made meaning store natives stack world (Err f) stands = tt
