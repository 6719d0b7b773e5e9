-- What calls leave of a stack.
use Rattle.std.proofs.Common.{sym, ap, ◌∙◌, ◌≡◌, ◌+◌, List, [], ◌∷◌, ◌++◌, take, length, Result, Ok, Err, IfOk, append-nil, append_assoc, arith}
use Rattle.std.proofs.lemmas.List.{take_all}
use Rattle.flow_text.specs.declared.memory.OutOfMemory.{OutOfMemory}
use Rattle.flow_frames.specs.Held.{Held}
use Rattle.continuations.specs.declared.continuation.Continuation.{Continuation}
use Rattle.continuations.specs.Pending.{Task}
use Rattle.continuations.specs.declared.continuation.Control.{Control}
use Rattle.continuations.specs.Kept.{Kept, scope_of, scopes_of, waits, waiting, kept_operands, operands_of}
use Rattle.continuations.specs.Resuming.{Keeps, Opened}

-- all of a list is a front of it
whole_front : {X : Type 0} (xs ys : List X) → xs ≡ ys → xs ≡ take (length xs) ys
whole_front xs ys e = e ∙ sym (take_all (length xs) ys (omega (arith, ap length e)))

module _ {T : Type 0} where
  pub scopes_more : (tasks : List (Task T)) (w : Task T) → scopes_of (tasks ++ w ∷ []) ≡ scopes_of tasks ++ scope_of w.0
  scopes_more [] w = append-nil (scope_of w.0)
  scopes_more (v ∷ tasks) w = ap (λ depths. scope_of v.0 ++ depths) (scopes_more tasks w) ∙ sym (append_assoc (scope_of v.0) (scopes_of tasks) (scope_of w.0))

  pub natives_more : (tasks : List (Task T)) (w : Task T) → waiting (tasks ++ w ∷ []) ≡ waiting tasks + waits w.0
  natives_more [] w = omega arith
  natives_more (v ∷ tasks) w = omega (arith, natives_more tasks w)

  pub kept_more : (tasks : List (Task T)) (w : Task T) → kept_operands (tasks ++ w ∷ []) ≡ kept_operands tasks ++ w.1
  kept_more [] w = append-nil w.1
  kept_more (v ∷ tasks) w = ap (λ vs. v.1 ++ vs) (kept_more tasks w) ∙ sym (append_assoc v.1 (kept_operands tasks) w.1)

  pub pushed_scopes : (old new : Kept T) (w : Continuation) → new ≡ record { tasks = old.tasks ++ (w, old.loose) ∷ []; loose = [] } → scopes_of new.tasks ≡ scopes_of old.tasks ++ scope_of w
  pushed_scopes old new w is = ap (λ k. scopes_of k.tasks) is ∙ scopes_more old.tasks (w, old.loose)

  pub pushed_natives : (old new : Kept T) (w : Continuation) → new ≡ record { tasks = old.tasks ++ (w, old.loose) ∷ []; loose = [] } → waiting new.tasks ≡ waiting old.tasks + waits w
  pushed_natives old new w is = ap (λ k. waiting k.tasks) is ∙ natives_more old.tasks (w, old.loose)

  pub pushed_operands : (old new : Kept T) (w : Continuation) → new ≡ record { tasks = old.tasks ++ (w, old.loose) ∷ []; loose = [] } → operands_of new ≡ operands_of old
  pushed_operands old new w is = ap operands_of is ∙ append-nil (kept_operands (old.tasks ++ (w, old.loose) ∷ [])) ∙ kept_more old.tasks (w, old.loose)

  -- the same of work that keeps nothing, below the values that no work keeps
  module _ (old new : Kept T) (w : Continuation) (is : new ≡ record { tasks = old.tasks ++ (w, []) ∷ []; loose = old.loose }) where
    pub scopes_under : scopes_of new.tasks ≡ scopes_of old.tasks ++ scope_of w
    scopes_under = ap (λ k. scopes_of k.tasks) is ∙ scopes_more old.tasks (w, [])

    pub natives_under : waiting new.tasks ≡ waiting old.tasks + waits w
    natives_under = ap (λ k. waiting k.tasks) is ∙ natives_more old.tasks (w, [])

    pub operands_under : operands_of new ≡ operands_of old
    operands_under = ap operands_of is ∙ ap (λ vs. vs ++ old.loose) (kept_more old.tasks (w, []) ∙ append-nil (kept_operands old.tasks))

  -- a call that keeps what was left once a frame's work was pushed has opened the frame
  pub opened_keeping : (old middle new : Kept T) (w : Continuation) (frames_old frames_new : List (Held T)) (result : Result Control OutOfMemory)
      → scope_of w ≡ length frames_old ∷ [] → waits w ≡ 0 → scopes_of middle.tasks ≡ scopes_of old.tasks ++ scope_of w → waiting middle.tasks ≡ waiting old.tasks + waits w → operands_of middle ≡ operands_of old → length frames_new ≡ length frames_old + 1
      → IfOk result (Keeps middle new) → IfOk result (Opened old new frames_old frames_new)
  opened_keeping old middle new w frames_old frames_new (Ok next) own alone scopes natives operands deeper keeps = record {
    values = keeps.values;
    scopes = keeps.scopes ∙ scopes ∙ ap (λ ds. scopes_of old.tasks ++ ds) own;
    natives = omega (arith, keeps.natives, natives, alone);
    operands = whole_front (operands_of new) (operands_of old) (keeps.operands ∙ operands);
    deeper = deeper;
  }
  opened_keeping old middle new w frames_old frames_new (Err fault) own alone scopes natives operands deeper keeps = tt

  -- and one that opened a frame behind work without a frame
  pub opened_behind : (old middle new : Kept T) (w : Continuation) (frames_old frames_new : List (Held T)) (result : Result Control OutOfMemory)
      → scope_of w ≡ [] → waits w ≡ 0 → scopes_of middle.tasks ≡ scopes_of old.tasks ++ scope_of w → waiting middle.tasks ≡ waiting old.tasks + waits w → operands_of middle ≡ operands_of old
      → IfOk result (Opened middle new frames_old frames_new) → IfOk result (Opened old new frames_old frames_new)
  opened_behind old middle new w frames_old frames_new (Ok next) own alone scopes natives operands opened = record {
    values = opened.values;
    scopes = opened.scopes ∙ ap (λ ds. ds ++ length frames_old ∷ []) (scopes ∙ ap (λ ds. scopes_of old.tasks ++ ds) own ∙ append-nil (scopes_of old.tasks));
    natives = omega (arith, opened.natives, natives, alone);
    operands = opened.operands ∙ ap (λ vs. take (length (operands_of new)) vs) operands;
    deeper = opened.deeper;
  }
  opened_behind old middle new w frames_old frames_new (Err fault) own alone scopes natives operands opened = tt
