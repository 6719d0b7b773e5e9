-- A directive that was obeyed, and what is pending.
use Rattle.std.proofs.Common.{sym, ap, ap₂, subst, ◌∙◌, ◌≡◌, ◌+◌, ℕ, suc, Bool, List, [], ◌++◌, map, drop, length, Option, Some, None, Result, Ok, Err, append-nil}
use Rattle.std.specs.Borrow.{Bor}
use Rattle.std.specs.List.{All}
use Rattle.std.specs.Result.{IsErrAnd}
use Rattle.std.proofs.lemmas.List.Elements.{All-weaker}
use Rattle.origin_labels.specs.Label.{Label, label_of}
use Rattle.origin_labels.specs.Stores.{IsKept}
use Rattle.flow_policy.specs.Policies.{Tables}
use Rattle.flow_policy.specs.Inputs.{Given}
use Rattle.flow_frames.specs.Held as held
use Rattle.flow_frames.specs.Held.{Belong, CatchByTry}
use Rattle.flow_frames.specs.declared.faults.FlowFault.{FlowFault}
use Rattle.flow_frames.specs.declared.faults.FlowFault.TheVariants as fault
use Rattle.js_ast.specs.declared.trees.Expr.{Expr}
use Rattle.js_ast.specs.Functions.{FunctionCode}
use Rattle.js_ast.specs.Views.{view_expr}
use Rattle.js_values.specs.Readings.{IsReading, HasValue, read_value}
use Rattle.js_values.proofs.ReadingLaws.{HasHeap-kept, HasRecords-kept}
use Rattle.es_meaning.specs.Directives.{Upgrade, upgrade_of}
use Rattle.es_meaning.specs.Environments.{Env, aimed}
use Rattle.es_meaning.specs.Evaluation.{behind_expression}
use Rattle.es_meaning.specs.Operations.{One}
use Rattle.es_meaning.specs.Outcomes.{Outcome}
use Rattle.es_meaning.specs.Plain.{undefined}
use Rattle.es_meaning.specs.BuiltIns.{BuiltIns}
use Rattle.flow_meaning.specs.Erased.{unlabelled}
use Rattle.flow_meaning.specs.Planned.{Plan, Give, as_plan, asking, gave, planned}
use Rattle.flow_meaning.specs.Scopes.{State, Val, Halt, Jump, stopped}
use Rattle.flow_meaning.specs.Tracked.{named_origins, raised_by, raises}
use Rattle.continuations.specs.declared.continuation.Reason.TheVariants as reason
use Rattle.run_state.specs.declared.world.World.{World}
use Rattle.run_state.specs.Worlds.{state_of}
use Rattle.continuations.specs.declared.continuation.Control.{Control}
use Rattle.continuations.specs.declared.continuation.Control.TheVariants as control
use Rattle.continuations.specs.declared.continuation.Continuation.TheVariants as continuation
use Rattle.continuations.specs.Going.{Resumes, here}
use Rattle.continuations.specs.Kept.{Kept, kept_operands, scopes_of, waiting}
use Rattle.continuations.specs.Pending.{after, behind, first_or_undefined, next_plan, setting_above}
use Rattle.continuations.specs.Resuming.{with_frames}
use Rattle.continuations.specs.Invariant.{Invariant, Framed, depths, running}
use Rattle.continuations.proofs.Handed.{behind_end}
use Rattle.continuations.specs.Settings.{Setting, setting_of, entrance}
use Rattle.step_jumps.specs.Raising.{SaysRaised}
use Rattle.step_jumps.proofs.Moved.{front_has, no_more}
use Rattle.native_protocol.specs.Steps.{Steps}

module _ {S T : Type 0} (made : S → T → Type 0) (meaning : S → T → Label) where
  -- ---- what still holds

  pub standing_obeyed : (room : S → ℕ) (firm : S → Bool) (old new : S) → IsKept made meaning room firm old new → (before after : Kept T) (world : World T) (frames : held.Kept T) (move : Control)
      → ((n m : ℕ) → n ≡ suc m → Framed move n m) → running move ≡ 0 → Invariant made meaning old before world 1 (scopes_of before.tasks ++ []) (waiting before.tasks) control.Value
      → after.tasks ≡ before.tasks → after.loose ≡ [] → Belong made meaning new frames.frames → CatchByTry frames.frames → length frames.frames ≡ length world.frames.frames
      → Invariant made meaning new after (record world { frames = frames }) 0 (scopes_of after.tasks) (waiting before.tasks) move
  standing_obeyed room firm old new kept before after world frames move whole ready stands tasks none belong catch same =
      let pending : scopes_of before.tasks ++ [] ≡ scopes_of after.tasks = append-nil (scopes_of before.tasks) ∙ ap scopes_of (sym tasks) in
      record {
        belongs = record {
          frames = belong;
          catch = catch;
          heap = HasHeap-kept made meaning room firm old new kept world.heap stands.belongs.heap;
          records = HasRecords-kept made meaning room firm old new kept world.records stands.belongs.records;
          started = stands.belongs.started;
        };
        operands = subst (λ vs. All (HasValue (made new)) (kept_operands after.tasks ++ vs)) (sym none)
            (subst (All (HasValue (made new))) (sym (append-nil (kept_operands after.tasks)))
            (subst (λ ts. All (HasValue (made new)) (kept_operands ts)) (sym tasks)
            (All-weaker (HasValue (made old)) (HasValue (made new)) (λ v m. (kept.labels v.label m).0) (kept_operands before.tasks) (front_has (HasValue (made old)) (kept_operands before.tasks) before.loose stands.operands))));
        values = ap length none;
        scopes = subst (λ ds. ds ≡ depths (length ds)) pending stands.scopes;
        frames = whole (length frames.frames) (length (scopes_of after.tasks)) (same ∙ stands.frames ∙ ap (λ ds. suc (length ds)) pending);
        records = stands.records;
        natives = no_more (waiting before.tasks) ∙ ap₂ (λ n m. n + m) (ap waiting (sym tasks)) (sym ready);
      }

module _ (tables : Tables) (inputs : Given) (set : BuiltIns) (functions : List FunctionCode) where
  -- ---- what a directive comes to

  pub no_directive : (upgrade : Option Upgrade) (e : Env ℕ) (v : Val) (s : State) → upgrade ≡ None → Give (gave (unlabelled undefined)) s ≡ behind_expression (planned tables inputs set functions) (entrance tables inputs set functions) (asking tables inputs set functions) upgrade e v s
  unfolding behind_expression
  no_directive upgrade e v s is = ap (λ u. behind_expression (planned tables inputs set functions) (entrance tables inputs set functions) (asking tables inputs set functions) u e v s) (sym is)

  pub unknown_origin : (upgrade : Option Upgrade) (u : Upgrade) (e : Setting) (v : Val) (s : State) → upgrade ≡ Some u → named_origins tables inputs u.names ≡ None
      → next_plan tables inputs set functions (control.Leave reason.Origin) [] e s ≡ behind_expression (planned tables inputs set functions) (entrance tables inputs set functions) (asking tables inputs set functions) upgrade e.env v s
  unfolding behind_expression raised_by
  unknown_origin upgrade u e v s is none =
      sym (ap (λ n. as_plan One (raised_by tables inputs u.leaving (aimed 0 u.leaving e.env) n s)) none)
      ∙ ap (λ w. behind_expression (planned tables inputs set functions) (entrance tables inputs set functions) (asking tables inputs set functions) w e.env v s) (sym is)

  pub known_origins : (upgrade : Option Upgrade) (u : Upgrade) (os : List ℕ) (label : Label) (e : Env ℕ) (v : Val) (s : State) → upgrade ≡ Some u → named_origins tables inputs u.names ≡ Some os → label ≡ label_of os
      → as_plan One (raises u.leaving (aimed 0 u.leaving e) label s) ≡ behind_expression (planned tables inputs set functions) (entrance tables inputs set functions) (asking tables inputs set functions) upgrade e v s
  unfolding behind_expression raised_by
  known_origins upgrade u os label e v s is known means =
      ap (λ l. as_plan One (raises u.leaving (aimed 0 u.leaving e) l s)) means
      ∙ sym (ap (λ n. as_plan One (raised_by tables inputs u.leaving (aimed 0 u.leaving e) n s)) known)
      ∙ ap (λ w. behind_expression (planned tables inputs set functions) (entrance tables inputs set functions) (asking tables inputs set functions) w e v s) (sym is)

  module _ {S T : Type 0} (made : S → T → Type 0) (meaning : S → T → Label) (store : S) (natives : List Steps) (x : Bor Expr) (before : Kept T) (world : World T) where
    -- its plan, in a reading
    abbrev obeys : (T → Label) → State → Plan
    obeys reading s = behind_expression (planned tables inputs set functions) (entrance tables inputs set functions) (asking tables inputs set functions) (upgrade_of (view_expr x.now)) (setting_above before.tasks (setting_of natives here)).env (first_or_undefined (map (read_value reading) (drop 0 before.loose))) s

    -- a move that doesn't look at values
    pub obeyed_so : (after : Kept T) (move : Control) → ((vs : List Val) (e : Setting) (s : State) → next_plan tables inputs set functions move vs e s ≡ next_plan tables inputs set functions move [] e s)
        → after.tasks ≡ before.tasks → ((reading : T → Label) (s : State) → IsReading made meaning store reading → next_plan tables inputs set functions move [] (setting_above before.tasks (setting_of natives here)) s ≡ obeys reading s)
        → Resumes made meaning store tables inputs set functions (continuation.Raise x) natives natives before after world world (Ok move)
    obeyed_so after move blind tasks plans = λ reading told turns is.
        let s = state_of reading world told turns in
        ap (λ ts. behind tables inputs set functions reading ts (setting_of natives here) (next_plan tables inputs set functions move (map (read_value reading) after.loose) (setting_above ts (setting_of natives here)) s)) tasks
        ∙ ap (behind tables inputs set functions reading before.tasks (setting_of natives here)) (blind (map (read_value reading) after.loose) (setting_above before.tasks (setting_of natives here)) s ∙ plans reading s is)

    module _ (frames : held.Kept T) (outcome : (T → Label) → State → Outcome Halt Jump (Unit {0}) State) (plans : (reading : T → Label) (s : State) → IsReading made meaning store reading → as_plan One (outcome reading s) ≡ obeys reading s) where
      pub obeyed_goes : {X : Type 0} (a : X) (after : Kept T) → after.tasks ≡ before.tasks
          → ((reading : T → Label) (s : State) → IsReading made meaning store reading → SaysRaised reading (outcome reading (with_frames reading world.frames.frames s)) (with_frames reading frames.frames s) (Ok a))
          → Resumes made meaning store tables inputs set functions (continuation.Raise x) natives natives before after world (record world { frames = frames }) (Ok control.Done)
      obeyed_goes a after tasks says = λ reading told turns is.
          let s = state_of reading world told turns in
          ap (λ ts. behind tables inputs set functions reading ts (setting_of natives here) (Give (gave (unlabelled undefined)) (with_frames reading frames.frames s))) tasks
          ∙ sym (ap (λ o. behind tables inputs set functions reading before.tasks (setting_of natives here) (as_plan One o)) (says reading s is))
          ∙ ap (behind tables inputs set functions reading before.tasks (setting_of natives here)) (plans reading s is)

      obeyed_fault : (X : Type 0) (f : FlowFault T) (after : Kept T)
          → ((reading : T → Label) (s : State) → IsReading made meaning store reading → SaysRaised {X = X} reading (outcome reading (with_frames reading world.frames.frames s)) (with_frames reading frames.frames s) (Err f))
          → Resumes made meaning store tables inputs set functions (continuation.Raise x) natives natives before after world (record world { frames = frames }) (Err f)
      obeyed_fault X (fault.Stop stop) after says = λ reading told turns is.
          let s = state_of reading world told turns in
          sym (behind_end tables inputs set functions reading before.tasks (setting_of natives here) (stopped stop.rule (reading stop.need) (reading stop.have)) (with_frames reading frames.frames s))
          ∙ sym (ap (λ o. behind tables inputs set functions reading before.tasks (setting_of natives here) (as_plan One o)) (says reading s is))
          ∙ ap (behind tables inputs set functions reading before.tasks (setting_of natives here)) (plans reading s is)
      obeyed_fault X fault.OutOfMemory after says = λ reading told turns is. tt

      -- a `?` hands on the fault
      pub obeyed_fails : (X : Type 0) (f : FlowFault T) (after : Kept T) (result : Result Control (FlowFault T)) → IsErrAnd result (λ e. e ≡ f)
          → ((reading : T → Label) (s : State) → IsReading made meaning store reading → SaysRaised {X = X} reading (outcome reading (with_frames reading world.frames.frames s)) (with_frames reading frames.frames s) (Err f))
          → Resumes made meaning store tables inputs set functions (continuation.Raise x) natives natives before after world (record world { frames = frames }) result
      obeyed_fails X f after (Ok a) is says = absurd is
      obeyed_fails X f after (Err e) is says = subst (λ (h : FlowFault T). Resumes made meaning store tables inputs set functions (continuation.Raise x) natives natives before after world (record world { frames = frames }) (Err h)) (sym is) (obeyed_fault X f after says)
