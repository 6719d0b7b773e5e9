-- What still holds behind a call.
use Rattle.std.proofs.Common.{refl, sym, ap, ap₂, subst, ◌∙◌, ◌≡◌, ◌≤◌, ◌<◌, ◌+◌, ℕ, suc, Bool, List, [], ◌∷◌, ◌++◌, length, append-nil, Result, Ok, Err, IfOk, arith}
use Rattle.std.specs.List.{All}
use Rattle.std.specs.Borrow.{Bor}
use Rattle.flow_text.specs.declared.memory.OutOfMemory.{OutOfMemory}
use Rattle.js_ast.specs.declared.trees.Stmt.{Stmt}
use Rattle.js_values.specs.declared.value.Labelled.{Labelled}
use Rattle.std.proofs.lemmas.List.{length-append, length_push, nil_from_length, same_from_push, take_at}
use Rattle.step_jumps.specs.Trying.{EndsAt, StandsStill}
use Rattle.std.proofs.lemmas.List.Elements.{All-take, All-weaker}
use Rattle.origin_labels.specs.Label.{Label}
use Rattle.origin_labels.specs.Stores.{IsKept}
use Rattle.flow_frames.specs.Held as held
use Rattle.flow_frames.specs.Held.{Belong, CatchByTry}
use Rattle.js_values.specs.Readings.{HasValue}
use Rattle.js_values.proofs.ReadingLaws.{HasHeap-kept, HasRecords-kept}
use Rattle.run_state.specs.declared.world.World.{World}
use Rattle.run_state.specs.Worlds.{Belongs}
use Rattle.continuations.specs.declared.continuation.Jump.{Jump}
use Rattle.continuations.specs.declared.continuation.Control.{Control}
use Rattle.continuations.specs.declared.continuation.Control.TheVariants as control
use Rattle.continuations.specs.Kept.{Kept, kept_operands, operands_of, scopes_of, waiting}
use Rattle.continuations.specs.Pending.{values_of}
use Rattle.continuations.specs.Resuming.{Keeps}
use Rattle.continuations.specs.Invariant.{Invariant, Framed, depths}

-- where no jump has left a frame
pub framed : (move : Control) (frames scopes : ℕ) → frames ≡ suc scopes → Framed move frames scopes
framed (control.Jumps j) frames scopes size = omega (arith, size)
framed _ frames scopes size = size

module _ {S T : Type 0} (made : S → T → Type 0) (meaning : S → T → Label) where
  -- the same operands and values, and no frame
  pub standing_keeps : {count natives : ℕ} (store : S) (old new : Kept T) (world : World T) (move : Control) → Invariant made meaning store old world count (scopes_of old.tasks) natives control.Value → Keeps old new move
      → StandsStill made meaning store natives new world move
  standing_keeps store old new world move stands keeps still = record {
    belongs = stands.belongs;
    operands = subst (All (HasValue (made store))) (sym keeps.operands) stands.operands;
    values = keeps.values;
    scopes = subst (λ ds. ds ≡ depths (length ds)) (sym keeps.scopes) stands.scopes;
    frames = framed move (length world.frames.frames) (length (scopes_of new.tasks)) (stands.frames ∙ ap (λ ds. suc (length ds)) (sym keeps.scopes));
    records = stands.records;
    natives = omega (arith, stands.natives, keeps.natives, still);
  }

  -- as many frames stand as before
  pub standing_frames : {count natives : ℕ} {pending : List ℕ} (store : S) (stack : Kept T) (world : World T) (frames : held.Kept T) → Invariant made meaning store stack world count pending natives control.Value
      → Belong made meaning store frames.frames → CatchByTry frames.frames → length frames.frames ≡ length world.frames.frames
      → Invariant made meaning store stack (record world { frames = frames }) count pending natives control.Value
  standing_frames store stack world frames stands belong catch same = record {
    belongs = record { frames = belong; catch = catch; heap = stands.belongs.heap; records = stands.belongs.records; started = stands.belongs.started };
    operands = stands.operands;
    values = stands.values;
    scopes = stands.scopes;
    frames = same ∙ stands.frames;
    records = stands.records;
    natives = stands.natives;
  }

  -- the end of work without a scope
  pub standing_bare : {count natives : ℕ} (store : S) (stack : Kept T) (world : World T) → Invariant made meaning store stack world count (scopes_of stack.tasks ++ []) natives control.Value → Invariant made meaning store stack world count (scopes_of stack.tasks) natives control.Value
  standing_bare {count = count} {natives = natives} store stack world stands = subst (λ ds. Invariant made meaning store stack world count ds natives control.Value) (append-nil (scopes_of stack.tasks)) stands

  -- nothing was done
  pub standing_done : {natives : ℕ} (store : S) (stack : Kept T) (world : World T) → Invariant made meaning store stack world 0 (scopes_of stack.tasks) natives control.Value → Invariant made meaning store stack world 0 (scopes_of stack.tasks) natives control.Done
  standing_done store stack world stands = record { belongs = stands.belongs; operands = stands.operands; values = stands.values; scopes = stands.scopes; frames = stands.frames; records = stands.records; natives = stands.natives }

  module _ (room : S → ℕ) (firm : S → Bool) (old new : S) (kept : IsKept made meaning room firm old new) where
    -- a jump has left frames
    pub standing_jumps : {natives : ℕ} (j : Jump) (stack : Kept T) (world : World T) (frames : held.Kept T) → Invariant made meaning old stack world 1 (scopes_of stack.tasks) natives control.Value
        → Belong made meaning new frames.frames → CatchByTry frames.frames → length frames.frames ≤ length world.frames.frames
        → Invariant made meaning new stack (record world { frames = frames }) 1 (scopes_of stack.tasks) natives (control.Jumps j)
    standing_jumps j stack world frames stands belong catch fewer =
        let all = stands.frames in
        record {
          belongs = record {
            frames = belong;
            catch = catch;
            heap = HasHeap-kept made meaning room firm old new kept world.heap stands.belongs.heap;
            records = HasRecords-kept made meaning room firm old new kept world.records stands.belongs.records;
            started = stands.belongs.started;
          };
          operands = All-weaker (HasValue (made old)) (HasValue (made new)) (λ v m. (kept.labels v.label m).0) (operands_of stack) stands.operands;
          values = stands.values;
          scopes = stands.scopes;
          frames = omega (arith, all, fewer);
          records = stands.records;
          natives = stands.natives;
        }

pub one_more : (pending : List ℕ) (depth : ℕ) → length (pending ++ depth ∷ []) ≡ suc (length pending)
one_more pending depth = omega (arith, length-append pending (depth ∷ []))

depths_more : (pending : List ℕ) (depth : ℕ) → pending ≡ depths (length pending) → depth ≡ suc (length pending) → pending ++ depth ∷ [] ≡ depths (length (pending ++ depth ∷ []))
depths_more pending depth are is = ap₂ (λ ds d. ds ++ d ∷ []) are is ∙ sym (ap depths (one_more pending depth))

pub last_depths : (pending : List ℕ) (depth : ℕ) → pending ++ depth ∷ [] ≡ depths (length (pending ++ depth ∷ [])) → (pending ≡ depths (length pending)) × (depth ≡ suc (length pending))
last_depths pending depth are = same_from_push pending (depths (length pending)) depth (suc (length pending)) (are ∙ ap depths (one_more pending depth))

module _ {X : Type 0} (P : X → Type 0) where
  pub front_has : (front behind : List X) → All P (front ++ behind) → All P front
  front_has front behind all = subst (All P) (take_at front behind (length front) refl) (All-take P (length front) (front ++ behind) all)

module _ {S T : Type 0} (made : S → T → Type 0) (meaning : S → T → Label) where
  -- a jump has reached the frame of the innermost scope
  pub standing_reached : (store : S) (stack same : Kept T) (world : World T) (depth : ℕ) (j : Jump) → Invariant made meaning store stack world 1 (scopes_of stack.tasks ++ []) (waiting stack.tasks) (control.Jumps j) → same ≡ stack → EndsAt depth (scopes_of stack.tasks) → depth < length world.frames.frames
      → Invariant made meaning store same world 1 (scopes_of same.tasks) (waiting same.tasks) control.Value
  standing_reached store stack same world depth j stands is ends there =
      let pending = scopes_of stack.tasks in
      let plain : pending ≡ depths (length pending) = subst (λ ds. ds ≡ depths (length ds)) (append-nil pending) stands.scopes in
      let few : length world.frames.frames ≤ suc (length pending) = subst (λ ds. length world.frames.frames ≤ suc (length ds)) (append-nil pending) stands.frames in
      let deep = (last_depths ends.outside depth (subst (λ ds. ds ≡ depths (length ds)) ends.are plain)).1 in
      let size : length pending ≡ suc (length ends.outside) = ap length ends.are ∙ one_more ends.outside depth in
      subst (λ k. Invariant made meaning store k world 1 (scopes_of k.tasks) (waiting k.tasks) control.Value) (sym is) (record {
        belongs = stands.belongs;
        operands = stands.operands;
        values = stands.values;
        scopes = plain;
        frames = omega (arith, few, deep, size, there);
        records = stands.records;
        natives = stands.natives;
      })

  module _ (room : S → ℕ) (firm : S → Bool) (earlier later : S) (kept : IsKept made meaning room firm earlier later) where
    later_all : (vs : List (Labelled T)) → All (HasValue (made earlier)) vs → All (HasValue (made later)) vs
    later_all vs all = All-weaker (HasValue (made earlier)) (HasValue (made later)) (λ v m. (kept.labels v.label m).0) vs all

    -- a value was taken, and its record made
    pub standing_caught : {natives : ℕ} (old middle new : Kept T) (value : Labelled T) (before after : World T) (result : Result Control OutOfMemory) → Invariant made meaning earlier old before 1 (scopes_of old.tasks) natives control.Value
        → middle.tasks ≡ old.tasks → old.loose ≡ middle.loose ++ value ∷ [] → Belongs made meaning later after → after.frames ≡ before.frames → length before.records ≤ length after.records
        → IfOk result (Keeps middle new) → IfOk result (StandsStill made meaning later natives new after)
    standing_caught old middle new value before after (Err fault) stands tasks top belongs frames records keeps = tt
    standing_caught old middle new value before after (Ok move) stands tasks top belongs frames records keeps =
        let none : middle.loose ≡ [] = nil_from_length middle.loose (let one = stands.values in let size = ap length top in omega (arith, one, size, length_push middle.loose value)) in
        let is : operands_of middle ≡ kept_operands old.tasks = ap₂ (λ ts vs. kept_operands ts ++ vs) tasks none ∙ append-nil (kept_operands old.tasks) in
        standing_keeps made meaning later middle new after move (record {
          belongs = belongs;
          operands = subst (All (HasValue (made later))) (sym is) (later_all (kept_operands old.tasks) (front_has (HasValue (made earlier)) (kept_operands old.tasks) old.loose stands.operands));
          values = ap length none;
          scopes = subst (λ ts. scopes_of ts ≡ depths (length (scopes_of ts))) (sym tasks) stands.scopes;
          frames = ap (λ (k : held.Kept T). length k.frames) frames ∙ stands.frames ∙ ap (λ ts. suc (length (scopes_of ts))) (sym tasks);
          records = let some = stands.records in omega (arith, some, records);
          natives = stands.natives ∙ ap (λ ts. waiting ts + 0) (sym tasks);
        }) keeps

    -- one frame more
    pub standing_tried : {natives : ℕ} (s : Bor Stmt) (old new : Kept T) (world : World T) (frames : held.Kept T) (depth : ℕ) (result : Result Control OutOfMemory) → Invariant made meaning earlier old world 0 (scopes_of old.tasks) natives (control.Try s)
        → depth ≡ length world.frames.frames → Belong made meaning later frames.frames → CatchByTry frames.frames → length frames.frames ≡ length world.frames.frames + 1
        → IfOk result (λ move. length new.loose ≡ values_of move) → IfOk result (λ move. scopes_of new.tasks ≡ scopes_of old.tasks ++ depth ∷ []) → IfOk result (λ move. waiting new.tasks ≡ waiting old.tasks) → IfOk result (λ move. operands_of new ≡ operands_of old)
        → IfOk result (StandsStill made meaning later natives new (record world { frames = frames }))
    standing_tried s old new world frames depth (Err fault) stands deep belong catch more values scopes waits operands = tt
    standing_tried s old new world frames depth (Ok move) stands deep belong catch more values scopes waits operands = λ still.
        let size : length (scopes_of new.tasks) ≡ suc (length (scopes_of old.tasks)) = ap length scopes ∙ one_more (scopes_of old.tasks) depth in
        let all = stands.frames in
        record {
          belongs = record {
            frames = belong;
            catch = catch;
            heap = HasHeap-kept made meaning room firm earlier later kept world.heap stands.belongs.heap;
            records = HasRecords-kept made meaning room firm earlier later kept world.records stands.belongs.records;
            started = stands.belongs.started;
          };
          operands = subst (All (HasValue (made later))) (sym operands) (later_all (operands_of old) stands.operands);
          values = values;
          scopes = subst (λ ds. ds ≡ depths (length ds)) (sym scopes) (depths_more (scopes_of old.tasks) depth stands.scopes (deep ∙ all));
          frames = framed move (length frames.frames) (length (scopes_of new.tasks)) (omega (arith, more, all, size));
          records = stands.records;
          natives = omega (arith, stands.natives, waits, still);
        }
