-- What holds of a machine behind work that went on.
use Rattle.std.proofs.Common.{refl, sym, ap, subst, ◌∙◌, ◌≡◌, ◌≤◌, ◌<◌, ◌+◌, ◌-◌, ℕ, suc, Bool, true, false, List, [], ◌∷◌, ◌++◌, take, length, append-nil, length-append, arith, Result, Ok, Err, IfOk}
use Rattle.std.specs.List.{All}
use Rattle.std.proofs.lemmas.List.Elements.{All-append, All-nil, All-push, All-take}
use Rattle.origin_labels.specs.Label.{Label}
use Rattle.origin_labels.specs.Stores.{IsKept}
use Rattle.flow_frames.specs.declared.faults.FlowFault.{FlowFault}
use Rattle.js_values.specs.declared.value.Labelled.{Labelled}
use Rattle.js_values.specs.Readings.{HasValue}
use Rattle.run_state.specs.declared.world.World.{World}
use Rattle.run_state.specs.Worlds.{Belongs}
use Rattle.continuations.specs.declared.continuation.Continuation.{Continuation}
use Rattle.continuations.specs.declared.continuation.Continuation.TheVariants as continuation
use Rattle.continuations.specs.declared.continuation.Control.{Control}
use Rattle.continuations.specs.declared.continuation.Control.TheVariants as control
use Rattle.continuations.specs.Kept.{Kept, scope_of, scopes_of, waiting, kept_operands, operands_of, without_top}
use Rattle.continuations.specs.Pending.{values_of}
use Rattle.continuations.specs.Resuming.{Keeps, Opened, Closed}
use Rattle.continuations.specs.Moving.{Rests, Stands}
use Rattle.continuations.specs.Invariant.{Invariant, depths, Framed}
use Rattle.step_core.specs.Going.{StandsStill}
use Rattle.step_core.specs.Continuing.{acts, scoped, leads, used_of, LeavesIn, StillIn, MadeIn}
use Rattle.step_core.proofs.Depths.{depths_more, depths_outside, inner_depth, last_depth, framed}
use Rattle.step_core.proofs.Parts.{behind_all, front_all, later_values}
use Rattle.step_core.proofs.Stood.{framed_behind}

unscoped : (w : Continuation) → scoped w ≡ false → leads w ≡ false → scope_of w ≡ []
unscoped (continuation.EndBranch gives depth) never led = absurd cc
unscoped (continuation.EndRound turn depth of) never led = absurd cc
unscoped (continuation.EndLabel depth text) never led = absurd cc
unscoped (continuation.EndTry depth) never led = absurd cc
unscoped (continuation.EndCall own depth) never led = absurd cc
unscoped (continuation.EndNew own depth) never led = absurd cc
unscoped _ never led = refl

acting_unscoped : (w : Continuation) → acts w ≡ true → scope_of w ≡ []
acting_unscoped (continuation.EndBranch gives depth) acting = absurd cc
acting_unscoped (continuation.EndRound turn depth of) acting = absurd cc
acting_unscoped (continuation.EndLabel depth text) acting = absurd cc
acting_unscoped (continuation.EndTry depth) acting = absurd cc
acting_unscoped (continuation.EndCall own depth) acting = absurd cc
acting_unscoped (continuation.EndNew own depth) acting = absurd cc
acting_unscoped _ acting = refl

module _ {T : Type 0} (P : T → Type 0) (stack : Kept T) where
  -- with other values loose
  pub operands_with : (new : Kept T) → new.tasks ≡ stack.tasks → All (HasValue P) new.loose → All (HasValue P) (operands_of stack) → All (HasValue P) (operands_of new)
  operands_with new tasks loose all =
      All-append (HasValue P) (kept_operands new.tasks) new.loose (subst (λ ts. All (HasValue P) (kept_operands ts)) (sym tasks) (front_all (HasValue P) (kept_operands stack.tasks) stack.loose all)) loose

  -- with one more
  pub operands_laid : (new : Kept T) (v : Labelled T) → new.tasks ≡ stack.tasks → new.loose ≡ stack.loose ++ v ∷ [] → P v.label → All (HasValue P) (operands_of stack) → All (HasValue P) (operands_of new)
  operands_laid new v tasks loose has all =
      operands_with new tasks (subst (All (HasValue P)) (sym loose) (All-push (HasValue P) stack.loose v (behind_all (HasValue P) (kept_operands stack.tasks) stack.loose all) has)) all

  -- with fewer
  pub operands_below : (new : Kept T) (n : ℕ) → new.tasks ≡ stack.tasks → new.loose ≡ take n stack.loose → All (HasValue P) (operands_of stack) → All (HasValue P) (operands_of new)
  operands_below new n tasks loose all =
      operands_with new tasks (subst (All (HasValue P)) (sym loose) (All-take (HasValue P) n stack.loose (behind_all (HasValue P) (kept_operands stack.tasks) stack.loose all))) all

  used_all : (w : Continuation) → All (HasValue P) (operands_of stack) → All (HasValue P) (operands_of (used_of w stack))
  used_all (continuation.BinaryRight o r) all = all
  used_all (continuation.Argument f count rest) all = all
  used_all (continuation.Property ps count) all = all
  used_all (continuation.Item is place count) all = all
  used_all (continuation.IndexBase how x) all = all
  used_all (continuation.CompoundRight o x t) all = all
  used_all (continuation.CalledBy es) all = all
  used_all (continuation.InstanceRight r) all = all
  used_all (continuation.Visited x count) all = all
  used_all (continuation.Statements ss) all = all
  used_all (continuation.Declared r) all = all
  used_all (continuation.Turned r) all = all
  used_all _ all = operands_below (without_top stack) (length stack.loose - 1) refl refl all

used_tasks : {T : Type 0} → (w : Continuation) (stack : Kept T) → (used_of w stack).tasks ≡ stack.tasks
used_tasks (continuation.BinaryRight o r) stack = refl
used_tasks (continuation.Argument f count rest) stack = refl
used_tasks (continuation.Property ps count) stack = refl
used_tasks (continuation.Item is place count) stack = refl
used_tasks (continuation.IndexBase how x) stack = refl
used_tasks (continuation.CompoundRight o x t) stack = refl
used_tasks (continuation.CalledBy es) stack = refl
used_tasks (continuation.InstanceRight r) stack = refl
used_tasks (continuation.Visited x count) stack = refl
used_tasks (continuation.Statements ss) stack = refl
used_tasks (continuation.Declared r) stack = refl
used_tasks (continuation.Turned r) stack = refl
used_tasks _ stack = refl

module _ {S T : Type 0} (made : S → T → Type 0) (meaning : S → T → Label) where
  -- ---- the frame of the scope that ends

  module _ (store : S) (w : Continuation) (old : Kept T) (world : World T) (count natives : ℕ) (stands : Invariant made meaning store old world count (scopes_of old.tasks ++ scope_of w) natives control.Value) (depth : ℕ) (is : scope_of w ≡ depth ∷ []) where
    here_scopes : scopes_of old.tasks ++ depth ∷ [] ≡ depths (length (scopes_of old.tasks ++ depth ∷ []))
    here_scopes = subst (λ ds. scopes_of old.tasks ++ ds ≡ depths (length (scopes_of old.tasks ++ ds))) is stands.scopes

    pub at_depth : length world.frames.frames ≡ depth + 1
    at_depth = last_depth (scopes_of old.tasks) depth (length world.frames.frames) here_scopes (subst (λ ds. length world.frames.frames ≡ suc (length (scopes_of old.tasks ++ ds))) is stands.frames)

    pub at_inner : 0 < depth
    at_inner = inner_depth (scopes_of old.tasks) depth here_scopes

  module _ (room : S → ℕ) (firm : S → Bool) (before store : S) (kept : IsKept made meaning room firm before store) where
    none_have : (xs : List (Labelled T)) → xs ≡ [] → All (HasValue (made store)) xs
    none_have xs none = subst (All (HasValue (made store))) (sym none) (All-nil (HasValue (made store)))

    module _ (w : Continuation) (old new : Kept T) (world_old world_new : World T) (count natives : ℕ) (move : Control)
        (stands : Invariant made meaning before old world_old count (scopes_of old.tasks ++ scope_of w) natives control.Value) (belongs : Belongs made meaning store world_new) (records : length world_old.records ≤ length world_new.records) where
      some_record : 0 < length world_new.records
      some_record = let some = stands.records in omega (arith, some, records)

      module _ (none : scope_of w ≡ []) where
        same_scopes : scopes_of old.tasks ≡ depths (length (scopes_of old.tasks))
        same_scopes = subst (λ ds. ds ≡ depths (length ds)) (ap (λ ds. scopes_of old.tasks ++ ds) none ∙ append-nil (scopes_of old.tasks)) stands.scopes

        same_frames : length world_old.frames.frames ≡ suc (length (scopes_of old.tasks))
        same_frames = stands.frames ∙ ap (λ ds. suc (length ds)) (ap (λ ds. scopes_of old.tasks ++ ds) none ∙ append-nil (scopes_of old.tasks))

        -- no scope begins or ends
        stands_keeping : length new.loose ≡ values_of move → scopes_of new.tasks ≡ scopes_of old.tasks → waiting new.tasks ≡ waiting old.tasks → All (HasValue (made store)) (operands_of new) → Framed move (length world_new.frames.frames) (length (scopes_of old.tasks))
            → StandsStill made meaning store natives new world_new move
        stands_keeping values scopes waits operands frames quiet = record {
          belongs = belongs;
          operands = operands;
          values = values;
          scopes = subst (λ ds. ds ≡ depths (length ds)) (sym scopes) same_scopes;
          frames = subst (λ ds. Framed move (length world_new.frames.frames) (length ds)) (sym scopes) frames;
          records = some_record;
          natives = let all = stands.natives in omega (arith, all, waits, quiet);
        }

        -- the frames stay
        stands_still : length world_new.frames.frames ≡ length world_old.frames.frames → Keeps (used_of w old) new move → StandsStill made meaning store natives new world_new move
        stands_still still keeps =
            stands_keeping keeps.values (keeps.scopes ∙ ap scopes_of (used_tasks w old)) (keeps.natives ∙ ap waiting (used_tasks w old))
            (subst (All (HasValue (made store))) (sym keeps.operands) (later_values made meaning room firm before store kept (operands_of (used_of w old)) (used_all (made before) old w stands.operands)))
            (framed move (length world_new.frames.frames) (length (scopes_of old.tasks)) (still ∙ same_frames))

        stands_opened : Opened old new world_old.frames.frames world_new.frames.frames move → StandsStill made meaning store natives new world_new move
        stands_opened opened quiet =
            let front = All-take (HasValue (made before)) (length (operands_of new)) (operands_of old) stands.operands in
            let deep : length world_new.frames.frames ≡ suc (length (scopes_of old.tasks ++ length world_old.frames.frames ∷ [])) = omega (arith, opened.deeper, same_frames, length-append (scopes_of old.tasks) (length world_old.frames.frames ∷ [])) in
            record {
              belongs = belongs;
              operands = later_values made meaning room firm before store kept (operands_of new) (subst (All (HasValue (made before))) (sym opened.operands) front);
              values = opened.values;
              scopes = subst (λ ds. ds ≡ depths (length ds)) (sym opened.scopes) (depths_more (scopes_of old.tasks) (length world_old.frames.frames) same_scopes same_frames);
              frames = subst (λ ds. Framed move (length world_new.frames.frames) (length ds)) (sym opened.scopes) (framed move (length world_new.frames.frames) (length (scopes_of old.tasks ++ length world_old.frames.frames ∷ [])) deep);
              records = some_record;
              natives = let all = stands.natives in let waits = opened.natives in omega (arith, all, waits, quiet);
            }

        -- behind an act
        stands_acted : Rests (made store) old new move → Stands world_old world_new move → StandsStill made meaning store natives new world_new move
        stands_acted rests frames =
            stands_keeping rests.values rests.scopes rests.natives (rests.operands (later_values made meaning room firm before store kept (kept_operands old.tasks) (front_all (HasValue (made before)) (kept_operands old.tasks) old.loose stands.operands)))
            (framed_behind world_old world_new move (length (scopes_of old.tasks)) same_frames frames)

      module _ (depth : ℕ) (is : scope_of w ≡ depth ∷ []) where
        stands_closed : All (HasValue (made store)) new.loose → Closed old new world_old.frames.frames world_new.frames.frames move → StandsStill made meaning store natives new world_new move
        stands_closed loose closed quiet =
            let scopes = here_scopes before w old world_old count natives stands depth is in
            let size : length world_old.frames.frames ≡ suc (length (scopes_of old.tasks ++ depth ∷ [])) = subst (λ ds. length world_old.frames.frames ≡ suc (length (scopes_of old.tasks ++ ds))) is stands.frames in
            let shallow : length world_new.frames.frames ≡ suc (length (scopes_of old.tasks)) = omega (arith, closed.shallower, size, length-append (scopes_of old.tasks) (depth ∷ [])) in
            record {
              belongs = belongs;
              operands = operands_with (made store) old new closed.tasks loose (later_values made meaning room firm before store kept (operands_of old) stands.operands);
              values = closed.values;
              scopes = subst (λ ts. scopes_of ts ≡ depths (length (scopes_of ts))) (sym closed.tasks) (depths_outside (scopes_of old.tasks) depth scopes);
              frames = subst (λ ts. Framed move (length world_new.frames.frames) (length (scopes_of ts))) (sym closed.tasks) (framed move (length world_new.frames.frames) (length (scopes_of old.tasks)) shallow);
              records = some_record;
              natives = let all = stands.natives in let waits = ap waiting closed.tasks in omega (arith, all, waits, quiet);
            }

      -- behind work that needs the stack alone
      pub stands_alone : scoped w ≡ false → leads w ≡ false → length world_new.frames.frames ≡ length world_old.frames.frames → Keeps (used_of w old) new move → StandsStill made meaning store natives new world_new move
      stands_alone never led still keeps = stands_still (unscoped w never led) still keeps

    -- behind work that acts on the run's state
    pub stands_acting : (w : Continuation) (old new : Kept T) (world_old world_new : World T) (count natives : ℕ) (result : Result Control (FlowFault T)) → acts w ≡ true
        → Invariant made meaning before old world_old count (scopes_of old.tasks ++ scope_of w) natives control.Value → Belongs made meaning store world_new → length world_old.records ≤ length world_new.records
        → IfOk result (Rests (made store) old new) → IfOk result (Stands world_old world_new) → IfOk result (StandsStill made meaning store natives new world_new)
    stands_acting w old new world_old world_new count natives (Ok move) acting stands belongs records rests frames = stands_acted w old new world_old world_new count natives move stands belongs records (acting_unscoped w acting) rests frames
    stands_acting w old new world_old world_new count natives (Err f) acting stands belongs records rests frames = tt

    -- and behind work in frames
    pub stands_in : (w : Continuation) (old new : Kept T) (world_old world_new : World T) (count natives : ℕ) (move : Control) → scoped w ≡ true
        → Invariant made meaning before old world_old count (scopes_of old.tasks ++ scope_of w) natives control.Value → Belongs made meaning store world_new → length world_old.records ≤ length world_new.records
        → LeavesIn w old new world_old.frames.frames world_new.frames.frames move → StillIn w world_old.frames.frames world_new.frames.frames → MadeIn (made store) w new.loose
        → StandsStill made meaning store natives new world_new move
    stands_in (continuation.AndRight r) old new world_old world_new count natives move in_frames stands belongs records leaves still labels = stands_opened (continuation.AndRight r) old new world_old world_new count natives move stands belongs records refl leaves
    stands_in (continuation.OrRight r) old new world_old world_new count natives move in_frames stands belongs records leaves still labels = stands_opened (continuation.OrRight r) old new world_old world_new count natives move stands belongs records refl leaves
    stands_in (continuation.Choose a b) old new world_old world_new count natives move in_frames stands belongs records leaves still labels = stands_opened (continuation.Choose a b) old new world_old world_new count natives move stands belongs records refl leaves
    stands_in (continuation.ChooseStmt s) old new world_old world_new count natives move in_frames stands belongs records leaves still labels = stands_opened (continuation.ChooseStmt s) old new world_old world_new count natives move stands belongs records refl leaves
    stands_in (continuation.ChooseStmts s t) old new world_old world_new count natives move in_frames stands belongs records leaves still labels = stands_opened (continuation.ChooseStmts s t) old new world_old world_new count natives move stands belongs records refl leaves
    stands_in (continuation.Enumerated x) old new world_old world_new count natives move in_frames stands belongs records leaves still labels = stands_opened (continuation.Enumerated x) old new world_old world_new count natives move stands belongs records refl leaves
    stands_in (continuation.Tested r) old new world_old world_new count natives move in_frames stands belongs records leaves still labels = stands_still (continuation.Tested r) old new world_old world_new count natives move stands belongs records refl still leaves
    stands_in (continuation.EndBranch true depth) old new world_old world_new count natives move in_frames stands belongs records leaves still labels = stands_closed (continuation.EndBranch true depth) old new world_old world_new count natives move stands belongs records depth refl labels leaves
    stands_in (continuation.EndBranch false depth) old new world_old world_new count natives move in_frames stands belongs records leaves still labels = stands_closed (continuation.EndBranch false depth) old new world_old world_new count natives move stands belongs records depth refl (none_have new.loose labels) leaves
    stands_in (continuation.EndRound turn depth of) old new world_old world_new count natives move in_frames stands belongs records leaves still labels = stands_closed (continuation.EndRound turn depth of) old new world_old world_new count natives move stands belongs records depth refl (none_have new.loose labels) leaves
    stands_in (continuation.EndLabel depth text) old new world_old world_new count natives move in_frames stands belongs records leaves still labels = stands_closed (continuation.EndLabel depth text) old new world_old world_new count natives move stands belongs records depth refl (none_have new.loose labels) leaves
    stands_in (continuation.EndTry depth) old new world_old world_new count natives move in_frames stands belongs records leaves still labels = stands_closed (continuation.EndTry depth) old new world_old world_new count natives move stands belongs records depth refl (none_have new.loose labels) leaves
    stands_in _ old new world_old world_new count natives move in_frames stands belongs records leaves still labels = absurd cc
