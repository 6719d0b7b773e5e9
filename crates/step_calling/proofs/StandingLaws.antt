-- What holds of a run in the frame of a call, and behind it.
use Rattle.std.proofs.Common.{arith, sym, ap, ap₂, subst, ◌∙◌, ◌≡◌, ◌≤◌, ◌<◌, ◌+◌, ℕ, suc, Bool, List, [], ◌∷◌, ◌++◌, length, append-nil, Result, Ok, Err, IfOk}
use Rattle.std.specs.List.{All}
use Rattle.std.proofs.lemmas.List.{length-append}
use Rattle.std.proofs.lemmas.List.Elements.{All-append}
use Rattle.origin_labels.specs.Label.{Label}
use Rattle.origin_labels.specs.Stores.{IsKept}
use Rattle.flow_frames.specs.declared.kind.Kind.{Kind}
use Rattle.flow_frames.specs.Held as held
use Rattle.js_values.specs.declared.value.Labelled.{Labelled}
use Rattle.js_values.specs.Readings.{HasValue}
use Rattle.run_state.specs.declared.world.World.{World}
use Rattle.run_state.specs.Worlds.{Belongs}
use Rattle.continuations.specs.declared.continuation.Continuation.{Continuation}
use Rattle.continuations.specs.declared.continuation.Control.{Control}
use Rattle.continuations.specs.declared.continuation.Control.TheVariants as control
use Rattle.continuations.specs.Kept.{Kept, kept_operands, operands_of, scope_of, scopes_of, waiting, waits}
use Rattle.continuations.specs.Going.{Lowers}
use Rattle.continuations.specs.Loads.{Adds, load}
use Rattle.continuations.specs.Pending.{values_of}
use Rattle.continuations.specs.Resuming.{Keeps}
use Rattle.continuations.specs.Invariant.{Framed, Invariant, depths, running}
use Rattle.step_natives.specs.Framed.{Begun}
use Rattle.step_natives.proofs.FrameLaws.{any_move, more_depths, values_kept}
use Rattle.step_natives.proofs.ValueLists.{behind_has, front_has, one_has}
use Rattle.step_calling.specs.declared.reaching.Reached.{Reached}
use Rattle.step_calling.specs.Reaching.{IsLaid}

module _ {S T : Type 0} (made : S → T → Type 0) (meaning : S → T → Label) (room : S → ℕ) (firm : S → Bool) (old new : S) (kept : IsKept made meaning room firm old new) where
  module _ (of : Kind) (stack : Kept T) (world : World T) (count depth : ℕ) (label : T) (in_frame : Begun made meaning old of stack world count depth label) (world_new : World T) (belongs : Belongs made meaning new world_new) (records : length world.records ≤ length world_new.records) where
    pending_has : All (HasValue (made new)) (kept_operands stack.tasks)
    pending_has = values_kept made meaning room firm old new kept (kept_operands stack.tasks) (front_has (HasValue (made old)) (kept_operands stack.tasks) stack.loose in_frame.operands)

    -- the values of a call are dropped, and its end is pushed, with the operands that it keeps
    pub stands_entered : (cleared middle last : Kept T) (w : Continuation) (move : Control) → world_new.frames ≡ world.frames → scope_of w ≡ depth ∷ [] → waits w ≡ 0 → running move ≡ 0 → cleared.tasks ≡ stack.tasks → All (HasValue (made new)) cleared.loose
        → scopes_of middle.tasks ≡ scopes_of cleared.tasks ++ scope_of w → waiting middle.tasks ≡ waiting cleared.tasks + waits w → operands_of middle ≡ operands_of cleared → Keeps middle last move
        → Invariant made meaning new last world_new (values_of move) (scopes_of last.tasks) (waiting stack.tasks) move
    stands_entered cleared middle last w move frames own none quiet tasks has scopes natives operands keeps =
        let same : scopes_of last.tasks ≡ scopes_of stack.tasks ++ depth ∷ [] = keeps.scopes ∙ scopes ∙ ap₂ (λ ts ds. scopes_of ts ++ ds) tasks own in
        let as_many : length world_new.frames.frames ≡ length world.frames.frames = ap (λ (k : held.Kept T). length k.frames) frames in
        let size : length (scopes_of last.tasks) ≡ length (scopes_of stack.tasks ++ depth ∷ []) = ap length same in
        let wait : waiting last.tasks ≡ waiting stack.tasks + waits w = keeps.natives ∙ natives ∙ ap (λ ts. waiting ts + waits w) tasks in
        record {
          belongs = belongs;
          operands = subst (All (HasValue (made new))) (sym (keeps.operands ∙ operands ∙ ap (λ ts. kept_operands ts ++ cleared.loose) tasks)) (All-append (HasValue (made new)) (kept_operands stack.tasks) cleared.loose pending_has has);
          values = keeps.values;
          scopes = subst (λ ds. ds ≡ depths (length ds)) (sym same) (more_depths (scopes_of stack.tasks) depth in_frame.scopes in_frame.deep);
          frames = any_move move (length world_new.frames.frames) (length (scopes_of last.tasks)) (omega (arith, as_many, size, in_frame.frames, in_frame.deep, length-append (scopes_of stack.tasks) (depth ∷ [])));
          records = omega (arith, in_frame.records, records);
          natives = omega (arith, wait, none, quiet);
        }

    -- the values of a call are dropped, and one value is laid
    pub stands_laid : (last : Kept T) (v : Labelled T) (move : Control) → last.tasks ≡ stack.tasks → last.loose ≡ v ∷ [] → made new v.label → values_of move ≡ 1 → running move ≡ 0 → Framed move (length world_new.frames.frames) (length (scopes_of stack.tasks))
        → Invariant made meaning new last world_new (values_of move) (scopes_of last.tasks) (waiting stack.tasks) move
    stands_laid last v move tasks lies m one quiet framed = record {
      belongs = belongs;
      operands = subst (All (HasValue (made new))) (sym (ap₂ (λ ts vs. kept_operands ts ++ vs) tasks lies)) (All-append (HasValue (made new)) (kept_operands stack.tasks) (v ∷ []) pending_has (one_has (HasValue (made new)) v m));
      values = ap length lies ∙ sym one;
      scopes = subst (λ ts. scopes_of ts ≡ depths (length (scopes_of ts))) (sym tasks) in_frame.scopes;
      frames = subst (λ ts. Framed move (length world_new.frames.frames) (length (scopes_of ts))) (sym tasks) framed;
      records = omega (arith, in_frame.records, records);
      natives = let wait : waiting last.tasks ≡ waiting stack.tasks = ap waiting tasks in omega (arith, wait, quiet);
    }

  -- what lies loose was laid anew
  pub stands_reached : (stack laid : Kept T) (world : World T) (count natives enough : ℕ) (r : Reached T) → Invariant made meaning old stack world count (scopes_of stack.tasks) natives control.Value → Belongs made meaning new world → IsLaid made meaning new enough stack laid r
      → Invariant made meaning new laid world r.count (scopes_of laid.tasks) natives control.Value
  stands_reached stack laid world count natives enough r s belongs is =
      let P = HasValue (made new) in
      let pending : All P (kept_operands stack.tasks) = values_kept made meaning room firm old new kept (kept_operands stack.tasks) (front_has (HasValue (made old)) (kept_operands stack.tasks) stack.loose s.operands) in
      let loose : All P laid.loose = is.values (values_kept made meaning room firm old new kept stack.loose (behind_has (HasValue (made old)) (kept_operands stack.tasks) stack.loose s.operands)) in
      record {
        belongs = belongs;
        operands = subst (λ ts. All P (kept_operands ts ++ laid.loose)) (sym is.tasks) (All-append P (kept_operands stack.tasks) laid.loose pending loose);
        values = sym is.count;
        scopes = subst (λ ts. scopes_of ts ≡ depths (length (scopes_of ts))) (sym is.tasks) s.scopes;
        frames = s.frames ∙ ap (λ ts. suc (length (scopes_of ts))) (sym is.tasks);
        records = s.records;
        natives = s.natives ∙ ap (λ ts. waiting ts + 0) (sym is.tasks);
      }

-- ---- what is left to do

pub lower_call : {T X : Type 0} (old new : Kept T) (n : ℕ) (result : Result Control X) → IfOk result (Adds 7 old new) → IfOk result (λ move. Lowers old (control.Call n) new move)
lower_call old new n (Ok move) adds = omega (arith, adds)
lower_call old new n (Err fault) adds = tt

pub lower_construction : {T X : Type 0} (old new : Kept T) (n : ℕ) (result : Result Control X) → IfOk result (Adds 7 old new) → IfOk result (λ move. Lowers old (control.Construct n) new move)
lower_construction old new n (Ok move) adds = omega (arith, adds)
lower_construction old new n (Err fault) adds = tt

-- from what was laid anew
pub adds_under : {T X : Type 0} (old laid new : Kept T) (n : ℕ) (result : Result Control X) → laid.tasks ≡ old.tasks → IfOk result (Adds n laid new) → IfOk result (Adds n old new)
adds_under old laid new n (Ok move) tasks adds = let same : load laid.tasks ≡ load old.tasks = ap load tasks in omega (arith, same, adds)
adds_under old laid new n (Err fault) tasks adds = tt

pub adds_more : {T X : Type 0} (old new : Kept T) (result : Result Control X) → IfOk result (Adds 6 old new) → IfOk result (Adds 7 old new)
adds_more old new (Ok move) adds = omega (arith, adds)
adds_more old new (Err fault) adds = tt

pub adds_running : {T X : Type 0} (old new : Kept T) (result : Result Control X) → IfOk result (Adds 1 old new) → IfOk result (Adds 6 old new)
adds_running old new (Ok move) adds = omega (arith, adds)
adds_running old new (Err fault) adds = tt

module _ {S T : Type 0} (made : S → T → Type 0) (meaning : S → T → Label) where
  -- values were laid on others, and then all was kept
  pub stands_kept : (store : S) (old laid last : Kept T) (world : World T) (count : ℕ) (loose : List (Labelled T)) (move : Control) → Invariant made meaning store old world count (scopes_of old.tasks ++ []) (waiting old.tasks) control.Value
      → laid.tasks ≡ old.tasks → laid.loose ≡ loose → (All (HasValue (made store)) old.loose → All (HasValue (made store)) loose) → Keeps laid last move → running move ≡ 0 → Invariant made meaning store last world (values_of move) (scopes_of last.tasks) (waiting old.tasks) move
  stands_kept store old laid last world count loose move s tasks lies has keeps quiet =
      let P = HasValue (made store) in
      let same : scopes_of last.tasks ≡ scopes_of old.tasks ++ [] = keeps.scopes ∙ ap scopes_of tasks ∙ sym (append-nil (scopes_of old.tasks)) in
      let wait : waiting last.tasks ≡ waiting old.tasks = keeps.natives ∙ ap waiting tasks in
      record {
        belongs = s.belongs;
        operands = subst (All P) (sym (keeps.operands ∙ ap₂ (λ ts vs. kept_operands ts ++ vs) tasks lies))
            (All-append P (kept_operands old.tasks) loose (front_has P (kept_operands old.tasks) old.loose s.operands) (has (behind_has P (kept_operands old.tasks) old.loose s.operands)));
        values = keeps.values;
        scopes = subst (λ ds. ds ≡ depths (length ds)) (sym same) s.scopes;
        frames = any_move move (length world.frames.frames) (length (scopes_of last.tasks)) (s.frames ∙ ap (λ ds. suc (length ds)) (sym same));
        records = s.records;
        natives = omega (arith, wait, quiet);
      }

  -- a value was laid below the others
  pub stands_below : (store : S) (old laid : Kept T) (world : World T) (count more n : ℕ) (v : Labelled T) → Invariant made meaning store old world count (scopes_of old.tasks) n control.Value
      → laid.tasks ≡ old.tasks → laid.loose ≡ v ∷ old.loose → made store v.label → more ≡ length laid.loose → Invariant made meaning store laid world more (scopes_of laid.tasks) (waiting laid.tasks) control.Value
  stands_below store old laid world count more n v s tasks lies m size =
      let P = HasValue (made store) in
      record {
        belongs = s.belongs;
        operands = subst (All P) (sym (ap₂ (λ ts vs. kept_operands ts ++ vs) tasks lies))
            (All-append P (kept_operands old.tasks) (v ∷ old.loose) (front_has P (kept_operands old.tasks) old.loose s.operands) (All-append P (v ∷ []) old.loose (one_has P v m) (behind_has P (kept_operands old.tasks) old.loose s.operands)));
        values = sym size;
        scopes = subst (λ ts. scopes_of ts ≡ depths (length (scopes_of ts))) (sym tasks) s.scopes;
        frames = s.frames ∙ ap (λ ts. suc (length (scopes_of ts))) (sym tasks);
        records = s.records;
        natives = omega (arith);
      }

  -- a value was laid where none lay, in a later state
  pub stands_valued : (room : S → ℕ) (firm : S → Bool) (old_store new_store : S) → IsKept made meaning room firm old_store new_store → (old last : Kept T) (world world_new : World T) (v : Labelled T)
      → All (HasValue (made old_store)) (operands_of old) → scopes_of old.tasks ≡ depths (length (scopes_of old.tasks)) → length world.frames.frames ≡ suc (length (scopes_of old.tasks)) → 0 < length world.records
      → Belongs made meaning new_store world_new → world_new.frames ≡ world.frames → length world.records ≤ length world_new.records → last.tasks ≡ old.tasks → last.loose ≡ v ∷ [] → made new_store v.label
      → Invariant made meaning new_store last world_new 1 (scopes_of last.tasks) (waiting old.tasks) control.Value
  stands_valued room firm old_store new_store kept old last world world_new v operands scopes frames some belongs same records tasks lies m = record {
    belongs = belongs;
    operands = subst (All (HasValue (made new_store))) (sym (ap₂ (λ ts vs. kept_operands ts ++ vs) tasks lies))
        (All-append (HasValue (made new_store)) (kept_operands old.tasks) (v ∷ []) (values_kept made meaning room firm old_store new_store kept (kept_operands old.tasks) (front_has (HasValue (made old_store)) (kept_operands old.tasks) old.loose operands)) (one_has (HasValue (made new_store)) v m));
    values = ap length lies;
    scopes = subst (λ ts. scopes_of ts ≡ depths (length (scopes_of ts))) (sym tasks) scopes;
    frames = ap (λ (k : held.Kept T). length k.frames) same ∙ frames ∙ ap (λ ts. suc (length (scopes_of ts))) (sym tasks);
    records = omega (arith, some, records);
    natives = let wait : waiting last.tasks ≡ waiting old.tasks = ap waiting tasks in omega (arith, wait);
  }
