-- What holds of a run in the frame of a call, and where a built-in runs.
use Rattle.std.proofs.Common.{arith, sym, ap, ap₂, subst, ◌∙◌, ◌≡◌, ◌+◌, ℕ, suc, Bool, true, List, [], ◌∷◌, ◌++◌, map, length, take, Result, IfOk}
use Rattle.std.specs.List.{All}
use Rattle.std.proofs.lemmas.List.{length-append, length-map, take_at}
use Rattle.std.proofs.lemmas.List.Elements.{All-weaker}
use Rattle.origin_labels.specs.Label.{Label}
use Rattle.origin_labels.specs.Stores.{IsKept}
use Rattle.flow_frames.specs.declared.kind.Kind.{Kind}
use Rattle.flow_frames.specs.declared.kind.Kind.TheVariants as kind
use Rattle.flow_frames.specs.Changes.{pushed}
use Rattle.flow_frames.specs.Held as held
use Rattle.flow_frames.specs.Held.{Belong, CatchByTry, seen, seen_frame}
use Rattle.js_values.specs.declared.value.Labelled.{Labelled}
use Rattle.js_values.specs.Readings.{HasValue, IsReading, read_value}
use Rattle.js_values.proofs.ReadingLaws.{HasHeap-kept, HasRecords-kept}
use Rattle.es_meaning.specs.Operations.{Value}
use Rattle.flow_meaning.specs.Planned.{Ask, Give, a_request, and_plan, end_branch}
use Rattle.flow_meaning.specs.Scopes.{LabelledLine, State, pushed_on}
use Rattle.run_state.specs.declared.world.World.{World}
use Rattle.run_state.specs.Worlds.{state_of}
use Rattle.continuations.specs.declared.continuation.Continuation.TheVariants as continuation
use Rattle.continuations.specs.declared.continuation.Control.{Control}
use Rattle.continuations.specs.declared.continuation.Control.TheVariants as control
use Rattle.continuations.specs.Answering.{with_steps}
use Rattle.continuations.specs.Kept.{Kept, operands_of, scopes_of, waiting}
use Rattle.continuations.specs.Pending.{Task, behind, next_plan, setting_above, values_of}
use Rattle.continuations.specs.Settings.{Setting, outermost_steps}
use Rattle.continuations.specs.Invariant.{Framed, Invariant, depths, running}
use Rattle.continuations.proofs.Reading.{read_pushed}
use Rattle.continuations.proofs.RegisterLaws.{above_enough, behind_enough}
use Rattle.continuations.proofs.ScopeLaws.{in_scope}
use Rattle.step_natives.specs.Framed.{Begun, RunsNative}

-- ---- depths and frames

pub any_move : (move : Control) (frames scopes : ℕ) → frames ≡ suc scopes → Framed move frames scopes
any_move (control.Jumps j) frames scopes e = omega (arith, e)
any_move _ frames scopes e = e

pub more_depths : (ds : List ℕ) (d : ℕ) → ds ≡ depths (length ds) → d ≡ suc (length ds) → ds ++ d ∷ [] ≡ depths (length (ds ++ d ∷ []))
more_depths ds d is deep =
    let size : length (ds ++ d ∷ []) ≡ suc (length ds) = omega (arith, length-append ds (d ∷ [])) in
    ap₂ (λ es e. es ++ e ∷ []) is deep ∙ sym (ap depths size)

module _ {S T : Type 0} (made : S → T → Type 0) (meaning : S → T → Label) (room : S → ℕ) (firm : S → Bool) (old new : S) (kept : IsKept made meaning room firm old new) where
  pub values_kept : (vs : List (Labelled T)) → All (HasValue (made old)) vs → All (HasValue (made new)) vs
  values_kept vs all = All-weaker (HasValue (made old)) (HasValue (made new)) (λ v m. (kept.labels v.label m).0) vs all

  -- a frame was pushed
  pub begun : (of : Kind) (stack : Kept T) (world : World T) (frames : held.Kept T) (count depth : ℕ) (label : T) → Invariant made meaning old stack world count (scopes_of stack.tasks) (waiting stack.tasks) control.Value → made old label
      → depth ≡ length world.frames.frames → length frames.frames ≡ length world.frames.frames + 1 → Belong made meaning new frames.frames → CatchByTry frames.frames
      → seen meaning new frames.frames ≡ seen meaning old world.frames.frames ++ pushed of (meaning old label) ∷ []
      → Begun made meaning new of stack (record world { frames = frames }) count depth label
  begun of stack world frames count depth label stands m deep more belong catch is = record {
    belongs = record {
      frames = belong;
      catch = catch;
      heap = HasHeap-kept made meaning room firm old new kept world.heap stands.belongs.heap;
      records = HasRecords-kept made meaning room firm old new kept world.records stands.belongs.records;
      started = stands.belongs.started;
    };
    operands = values_kept (operands_of stack) stands.operands;
    values = stands.values;
    scopes = stands.scopes;
    deep = deep ∙ stands.frames;
    frames = more ∙ ap (λ n. n + 1) (sym deep);
    innermost = λ reading read.
        let outer = map (seen_frame reading) world.frames.frames in
        let e : map (seen_frame reading) frames.frames ≡ outer ++ pushed of (reading label) ∷ [] = read_pushed made meaning room firm old new reading world.frames.frames frames.frames of label kept stands.belongs.frames belong m is read in
        let front : take depth (map (seen_frame reading) frames.frames) ≡ outer = ap (take depth) e ∙ take_at outer (pushed of (reading label) ∷ []) depth (length-map world.frames.frames (seen_frame reading) ∙ sym deep) in
        e ∙ ap (λ fs. fs ++ pushed of (reading label) ∷ []) (sym front);
    label_made = (kept.labels label m).0;
    records = stands.records;
  }

-- ---- a built-in runs

module _ {S T : Type 0} (made : S → T → Type 0) (meaning : S → T → Label) (store : S) where
  pub native_runs : (label : T) (count : ℕ) (old new : Kept T) (world world_new : World T) (depth : ℕ) → depth ≡ length world.frames.frames
      → new ≡ record { tasks = old.tasks ++ (continuation.EndBranch true depth, []) ∷ []; loose = old.loose }
      → ((reading : T → Label) → IsReading made meaning store reading → (told : List LabelledLine) (turns : ℕ) → state_of reading world_new told turns ≡ pushed_on kind.Native (reading label) (state_of reading world told turns))
      → RunsNative made meaning store label old new world world_new (control.Request count)
  native_runs label count old new world world_new depth deep is entered = λ tables inputs set functions reading e steps told turns read size.
      let w : Task T = (continuation.EndBranch true depth, []) in
      let x = with_steps steps e in
      let vs = map (read_value reading) old.loose in
      let t : State = state_of reading world_new told turns in
      let asks = λ (g : Setting). Ask (a_request (outermost_steps g.natives) vs) t Give in
      ap (λ k. behind tables inputs set functions reading k.tasks x (next_plan tables inputs set functions (control.Request count) (map (read_value reading) k.loose) (setting_above k.tasks x) t)) is
      ∙ in_scope made meaning store tables inputs set functions reading old.tasks w x asks
      ∙ ap (λ ns. behind tables inputs set functions reading old.tasks x (and_plan (Ask (a_request (outermost_steps ns) vs) t Give) (end_branch Value depth))) (above_enough old.tasks e.natives (steps ∷ []) e.env size)
      ∙ behind_enough tables inputs set functions reading old.tasks e.natives (steps ∷ []) e.env (and_plan (Ask (a_request steps vs) t Give) (end_branch Value depth)) size
      ∙ ap₂ (λ (d : ℕ) (u : State). behind tables inputs set functions reading old.tasks e (and_plan (Ask (a_request steps vs) u Give) (end_branch Value d)))
      (deep ∙ sym (length-map world.frames.frames (seen_frame reading))) (entered reading read told turns)

  pub stands_running : (of : Kind) (old new : Kept T) (world : World T) (count depth : ℕ) (label : T) → Begun made meaning store of old world count depth label
      → new ≡ record { tasks = old.tasks ++ (continuation.EndBranch true depth, []) ∷ []; loose = old.loose } → scopes_of new.tasks ≡ scopes_of old.tasks ++ depth ∷ [] → waiting new.tasks ≡ waiting old.tasks + 0 → operands_of new ≡ operands_of old
      → Invariant made meaning store new world count (scopes_of new.tasks) (waiting old.tasks + 1) (control.Request count)
  stands_running of old new world count depth label begun is scopes natives operands =
      let size : length (scopes_of new.tasks) ≡ suc (length (scopes_of old.tasks)) = omega (arith, ap length scopes, length-append (scopes_of old.tasks) (depth ∷ [])) in
      record {
        belongs = begun.belongs;
        operands = subst (All (HasValue (made store))) (sym operands) begun.operands;
        values = ap (λ (k : Kept T). length k.loose) is ∙ begun.values;
        scopes = subst (λ ds. ds ≡ depths (length ds)) (sym scopes) (more_depths (scopes_of old.tasks) depth begun.scopes begun.deep);
        frames = omega (arith, size, begun.frames, begun.deep);
        records = begun.records;
        natives = omega (arith, natives);
      }

  -- what holds in front of a move that is no jump and no built-in's holds in front of a value
  pub as_value : (stack : Kept T) (world : World T) (count natives : ℕ) (pending : List ℕ) (move : Control) → running move ≡ 0 → (Framed move (length world.frames.frames) (length pending) → length world.frames.frames ≡ suc (length pending)) → Invariant made meaning store stack world count pending natives move
      → Invariant made meaning store stack world count pending natives control.Value
  as_value stack world count natives pending move quiet framed s = record {
    belongs = s.belongs;
    operands = s.operands;
    values = s.values;
    scopes = s.scopes;
    frames = framed s.frames;
    records = s.records;
    natives = omega (arith, s.natives, quiet);
  }

  -- so many built-ins wait then, by another count
  pub waits_so : (stack : Kept T) (world : World T) (count natives : ℕ) (pending : List ℕ) → Invariant made meaning store stack world count pending natives control.Value → natives ≡ waiting stack.tasks
  waits_so stack world count natives pending s = omega (arith, s.natives)

  pub waiting_so : (stack : Kept T) (world : World T) (count natives : ℕ) (pending : List ℕ) → Invariant made meaning store stack world count pending natives control.Value → Invariant made meaning store stack world count pending (waiting stack.tasks) control.Value
  waiting_so stack world count natives pending s = subst (λ n. Invariant made meaning store stack world count pending n control.Value) (waits_so stack world count natives pending s) s

  pub counted_so : (stack : Kept T) (world : World T) (count n m : ℕ) (pending : List ℕ) (move : Control) → n ≡ m → Invariant made meaning store stack world count pending n move → Invariant made meaning store stack world count pending m move
  counted_so stack world count n m pending move same s = subst (λ k. Invariant made meaning store stack world count pending k move) same s

  pub counted_all : {X : Type 0} (stack : Kept T) (world : World T) (n m : ℕ) (result : Result Control X) → n ≡ m → IfOk result (λ move. Invariant made meaning store stack world (values_of move) (scopes_of stack.tasks) n move)
      → IfOk result (λ move. Invariant made meaning store stack world (values_of move) (scopes_of stack.tasks) m move)
  counted_all stack world n m result same s = subst (λ k. IfOk result (λ move. Invariant made meaning store stack world (values_of move) (scopes_of stack.tasks) k move)) same s
