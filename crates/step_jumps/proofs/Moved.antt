-- A jump that was issued, and what is pending.
use Rattle.std.proofs.Common.{arith, refl, sym, ap, subst, ◌∙◌, ◌≡◌, ◌≤◌, ◌+◌, ℕ, zero, suc, Bool, List, [], ◌∷◌, ◌++◌, map, length, Option, Some, None, Result, Ok, Err, append-nil}
use Rattle.std.specs.List.{All}
use Rattle.std.specs.Result.{IsErrAnd}
use Rattle.std.proofs.lemmas.List.{take_at}
use Rattle.std.proofs.lemmas.List.Elements.{All-append, All-take, All-weaker}
use Rattle.origin_labels.specs.Label.{Label, bottom}
use Rattle.origin_labels.specs.Stores.{IsKept}
use Rattle.flow_policy.specs.Policies.{Tables}
use Rattle.flow_policy.specs.Inputs.{Given}
use Rattle.flow_frames.specs.Held as held
use Rattle.flow_frames.specs.Held.{Belong, CatchByTry}
use Rattle.flow_frames.specs.declared.faults.FlowFault.{FlowFault}
use Rattle.flow_frames.specs.declared.faults.FlowFault.TheVariants as fault
use Rattle.js_ast.specs.Functions.{FunctionCode}
use Rattle.js_number.specs.declared.primitive.Primitive.TheVariants.{Undefined}
use Rattle.js_values.specs.declared.value.Labelled.{Labelled}
use Rattle.js_values.specs.declared.value.Value.TheVariants.{Primitive}
use Rattle.js_values.specs.Readings.{IsReading, HasValue, read_value}
use Rattle.js_values.proofs.ReadingLaws.{IsReading-earlier, HasHeap-kept, HasRecords-kept}
use Rattle.es_meaning.specs.Operations.{One}
use Rattle.es_meaning.specs.Plain.{undefined}
use Rattle.es_meaning.specs.Environments.{find_around}
use Rattle.es_meaning.specs.Evaluation.{jump_with, text_of_label}
use Rattle.es_meaning.specs.Outcomes.{leaves}
use Rattle.es_meaning.specs.BuiltIns.{BuiltIns}
use Rattle.js_ast.specs.declared.trees.Ident.{Ident}
use Rattle.js_ast.specs.Views.{view_name}
use Rattle.std.specs.Borrow.{Bor}
use Rattle.std.specs.Option.{option_map}
use Rattle.flow_meaning.specs.Tracked.{jumps_to}
use Rattle.continuations.specs.declared.continuation.Jump.TheVariants as jumps
use Rattle.continuations.specs.declared.continuation.Continuation.TheVariants as continuation
use Rattle.flow_meaning.specs.Erased.{unlabelled}
use Rattle.flow_meaning.specs.Planned.{Plan, as_plan, gave}
use Rattle.flow_meaning.specs.Scopes.{LabelledLine, State, Val, stopped, jump}
use Rattle.run_state.specs.declared.world.World.{World}
use Rattle.run_state.specs.Worlds.{state_of}
use Rattle.continuations.specs.declared.continuation.Jump.{Jump}
use Rattle.continuations.specs.declared.continuation.Control.{Control}
use Rattle.continuations.specs.declared.continuation.Control.TheVariants as control
use Rattle.continuations.specs.Going.{Begins, ComesTo, here}
use Rattle.continuations.specs.Kept.{Kept, kept_operands, operands_of, scopes_of, waiting}
use Rattle.continuations.specs.Moving.{Moves}
use Rattle.continuations.specs.Pending.{after, behind, first_or_undefined, next_plan, setting_above}
use Rattle.continuations.specs.Resuming.{coming, with_frames}
use Rattle.continuations.specs.Shapes.{jump_of}
use Rattle.continuations.specs.Invariant.{Invariant, Framed, depths}
use Rattle.continuations.proofs.Handed.{behind_end}
use Rattle.continuations.specs.Settings.{Setting, setting_of}
use Rattle.step_jumps.specs.Issuing.{Issues, IssuesAt, IsNothing}
use Rattle.native_protocol.specs.Steps.{Steps}

module _ {X : Type 0} (P : X → Type 0) where
  pub one_has : (x : X) → P x → All P (x ∷ [])
  one_has x holds zero d lt = holds
  one_has x holds (suc k) d lt = absurd (omega (arith, lt))

  pub front_has : (front behind : List X) → All P (front ++ behind) → All P front
  front_has front behind all = subst (All P) (take_at front behind (length front) refl) (All-take P (length front) (front ++ behind) all)

module _ {S T : Type 0} (made : S → T → Type 0) (meaning : S → T → Label) (store : S) (tables : Tables) (inputs : Given) (set : BuiltIns) (functions : List FunctionCode) (natives : List Steps) where
  -- another plan that is equal
  pub comes_as : (p q : (T → Label) → List LabelledLine → ℕ → Plan) (stack : Kept T) (world : World T) (result : Result Control (FlowFault T))
      → ((reading : T → Label) (told : List LabelledLine) (turns : ℕ) → IsReading made meaning store reading → p reading told turns ≡ q reading told turns)
      → ComesTo made meaning store tables inputs set functions natives p stack world result → ComesTo made meaning store tables inputs set functions natives q stack world result
  comes_as p q stack world result same comes = λ reading told turns is.
      subst (λ r. Moves tables inputs set functions reading stack (setting_of natives here) (state_of reading world told turns) r result) (same reading told turns is) (comes reading told turns is)

  module _ (j : Jump) (stack : Kept T) (world : World T) (frames : held.Kept T) where
    pub issued_goes : {X : Type 0} (x : X) → Issues made meaning store (jump_of j) world.frames.frames frames.frames (Ok x)
        → IssuesAt made meaning store tables inputs set functions natives j stack world (record world { frames = frames }) (Ok (control.Jumps j))
    issued_goes x issues = λ reading told turns is.
        let v = first_or_undefined (map (read_value reading) stack.loose) in
        sym (ap (λ o. behind tables inputs set functions reading stack.tasks (setting_of natives here) (as_plan One o)) (issues reading v (state_of reading world told turns) is))

    issued_fault : (X : Type 0) (f : FlowFault T) → Issues made meaning store {X = X} (jump_of j) world.frames.frames frames.frames (Err f)
        → IssuesAt made meaning store tables inputs set functions natives j stack world (record world { frames = frames }) (Err f)
    issued_fault X (fault.Stop stop) issues = λ reading told turns is.
        let v = first_or_undefined (map (read_value reading) stack.loose) in
        let s = state_of reading world told turns in
        sym (behind_end tables inputs set functions reading stack.tasks (setting_of natives here) (stopped stop.rule (reading stop.need) (reading stop.have)) (with_frames reading frames.frames s))
        ∙ sym (ap (λ o. behind tables inputs set functions reading stack.tasks (setting_of natives here) (as_plan One o)) (issues reading v s is))
    issued_fault X fault.OutOfMemory issues = λ reading told turns is. tt

    -- a `?` hands on the fault
    pub issued_fails : (X : Type 0) (f : FlowFault T) (result : Result Control (FlowFault T)) → IsErrAnd result (λ e. e ≡ f) → Issues made meaning store {X = X} (jump_of j) world.frames.frames frames.frames (Err f)
        → IssuesAt made meaning store tables inputs set functions natives j stack world (record world { frames = frames }) result
    issued_fails X f (Ok x) is issues = absurd is
    issued_fails X f (Err e) is issues = subst (λ (g : FlowFault T). IssuesAt made meaning store tables inputs set functions natives j stack world (record world { frames = frames }) (Err g)) (sym is) (issued_fault X f issues)

  -- undefined was laid in front of a move that jumps, and the jump was issued
  pub begins_laid : (j : Jump) (move : Control) (old middle : Kept T) (world_old world_new : World T) (result : Result Control (FlowFault T))
      → middle.tasks ≡ old.tasks → ((reading : T → Label) → IsReading made meaning store reading → first_or_undefined (map (read_value reading) middle.loose) ≡ unlabelled undefined)
      → ((vs : List Val) (s : State) → next_plan tables inputs set functions move vs (setting_above old.tasks (setting_of natives here)) s ≡ as_plan One (jump bottom (jump_of j (unlabelled undefined)) s))
      → IssuesAt made meaning store tables inputs set functions natives j middle world_old world_new result → Begins made meaning store tables inputs set functions natives natives old middle world_old world_new move result
  begins_laid j move old middle world_old world_new result tasks reads plans issues =
      comes_as (λ reading told turns. behind tables inputs set functions reading middle.tasks (setting_of natives here) (as_plan One (jump bottom (jump_of j (first_or_undefined (map (read_value reading) middle.loose))) (state_of reading world_old told turns))))
      (λ reading told turns. coming tables inputs set functions reading old move (setting_of natives here) (state_of reading world_old told turns)) middle world_new result
      (λ reading told turns is.
      let s = state_of reading world_old told turns in
      ap (λ ts. behind tables inputs set functions reading ts (setting_of natives here) (as_plan One (jump bottom (jump_of j (first_or_undefined (map (read_value reading) middle.loose))) s))) tasks
      ∙ ap (λ v. behind tables inputs set functions reading old.tasks (setting_of natives here) (as_plan One (jump bottom (jump_of j v) s))) (reads reading is)
      ∙ sym (ap (behind tables inputs set functions reading old.tasks (setting_of natives here)) (plans (map (read_value reading) old.loose) s)))
      issues

  -- what a return comes to
  pub returns_to : (to : ℕ) (e : Setting) → e.env.call ≡ to → (vs : List Val) (s : State) → next_plan tables inputs set functions control.Return vs e s ≡ as_plan One (jump bottom (jump_of (jumps.Returns to) (unlabelled undefined)) s)
  unfolding jumps_to
  returns_to to e aim vs s = ap (λ d. as_plan One (jump bottom (jump_of (jumps.Returns d) (unlabelled undefined)) s)) aim

  pub returns_with : (to : ℕ) (e : Setting) → e.env.call ≡ to → (vs : List Val) (v : Val) (s : State) → as_plan One (jump bottom (jump_of (jumps.Returns to) v) s) ≡ after tables inputs set functions continuation.Return vs e (gave v) s
  unfolding jumps_to jump_with
  returns_with to e aim vs v s = ap (λ d. as_plan One (jump bottom (jump_of (jumps.Returns d) v) s)) (sym aim)

  -- and what a break or a continue
  pub leaves_to : (turn : Bool) (label : Bor (Option Ident)) (count to : ℕ) (e : Setting) → find_around turn (text_of_label (view_name label.now)) e.env.around ≡ Some (count, to) → (vs : List Val) (s : State)
      → next_plan tables inputs set functions (control.Break turn label) vs e s ≡ as_plan One (jump bottom (jump_of (jumps.Leaves count to) (unlabelled undefined)) s)
  unfolding jumps_to
  leaves_to turn label count to e aim vs s = ap (λ (o : Option (ℕ × ℕ)). as_plan One (jumps_to (option_map (λ f. (leaves f.0, f.1)) o) (unlabelled undefined) s)) aim

  pub leaves_nothing : (turn : Bool) (label : Bor (Option Ident)) (e : Setting) → find_around turn (text_of_label (view_name label.now)) e.env.around ≡ None → (vs us : List Val) (s : State)
      → next_plan tables inputs set functions control.Done us e s ≡ next_plan tables inputs set functions (control.Break turn label) vs e s
  unfolding jumps_to
  leaves_nothing turn label e aim vs us s = ap (λ (o : Option (ℕ × ℕ)). as_plan One (jumps_to (option_map (λ f. (leaves f.0, f.1)) o) (unlabelled undefined) s)) (sym aim)

-- no built-in runs
pub no_more : (n : ℕ) → n ≡ n + 0
no_more n = omega arith

module _ {S T : Type 0} (made : S → T → Type 0) (meaning : S → T → Label) where
  -- ---- what still holds

  pub standing_issued : (room : S → ℕ) (firm : S → Bool) (old new : S) → IsKept made meaning room firm old new → (j : Jump) (stack : Kept T) (world : World T) (frames : held.Kept T)
      → Invariant made meaning old stack world 1 (scopes_of stack.tasks ++ []) (waiting stack.tasks) control.Value
      → Belong made meaning new frames.frames → CatchByTry frames.frames → length frames.frames ≤ length world.frames.frames
      → Invariant made meaning new stack (record world { frames = frames }) 1 (scopes_of stack.tasks) (waiting stack.tasks) (control.Jumps j)
  standing_issued room firm old new kept j stack world frames stands belong catch fewer =
      let same = append-nil (scopes_of stack.tasks) in
      let all : length world.frames.frames ≡ suc (length (scopes_of stack.tasks)) = stands.frames ∙ ap (λ ds. suc (length ds)) same in
      record {
        belongs = record {
          frames = belong;
          catch = catch;
          heap = HasHeap-kept made meaning room firm old new kept world.heap stands.belongs.heap;
          records = HasRecords-kept made meaning room firm old new kept world.records stands.belongs.records;
          started = stands.belongs.started;
        };
        operands = All-weaker (HasValue (made old)) (HasValue (made new)) (λ v m. (kept.labels v.label m).0) (operands_of stack) stands.operands;
        values = stands.values;
        scopes = subst (λ ds. ds ≡ depths (length ds)) same stands.scopes;
        frames = omega (arith, all, fewer);
        records = stands.records;
        natives = no_more (waiting stack.tasks);
      }

  -- undefined was laid where no value lay, in front of a move that jumps
  pub standing_laid : (store : S) (old new : Kept T) (world : World T) (move : Control) → ((frames scopes : ℕ) → Framed move frames scopes → frames ≡ suc scopes) → Invariant made meaning store old world 0 (scopes_of old.tasks) (waiting old.tasks) move
      → new.tasks ≡ old.tasks → IsNothing made meaning store new.loose → Invariant made meaning store new world 1 (scopes_of new.tasks ++ []) (waiting new.tasks) control.Value
  standing_laid store old new world move whole stands tasks nothing =
      let same : scopes_of old.tasks ≡ scopes_of new.tasks ++ [] = ap scopes_of (sym tasks) ∙ sym (append-nil (scopes_of new.tasks)) in
      record {
        belongs = stands.belongs;
        operands = subst (λ vs. All (HasValue (made store)) (kept_operands new.tasks ++ vs)) (sym nothing.alone)
            (subst (λ ts. All (HasValue (made store)) (kept_operands ts ++ record { value = Primitive Undefined; label = nothing.label } ∷ [])) (sym tasks)
            (All-append (HasValue (made store)) (kept_operands old.tasks) (record { value = Primitive Undefined; label = nothing.label } ∷ []) (front_has (HasValue (made store)) (kept_operands old.tasks) old.loose stands.operands) (one_has (HasValue (made store)) (record { value = Primitive Undefined; label = nothing.label }) nothing.made_there)));
        values = ap length nothing.alone;
        scopes = subst (λ ds. ds ≡ depths (length ds)) same stands.scopes;
        frames = whole (length world.frames.frames) (length (scopes_of old.tasks)) stands.frames ∙ ap (λ ds. suc (length ds)) same;
        records = stands.records;
        natives = no_more (waiting new.tasks);
      }

  -- undefined, in a reading
  pub reads_nothing : (store : S) (reading : T → Label) (vs : List (Labelled T)) → IsReading made meaning store reading → IsNothing made meaning store vs → first_or_undefined (map (read_value reading) vs) ≡ unlabelled undefined
  reads_nothing store reading vs read nothing =
      ap (λ us. first_or_undefined (map (read_value reading) us)) nothing.alone
      ∙ ap (λ l. record { value = undefined; label = l }) (read.agrees nothing.label nothing.made_there ∙ nothing.empty)

  pub reads_later : (room : S → ℕ) (firm : S → Bool) (old new : S) → IsKept made meaning room firm old new → (vs : List (Labelled T)) → IsNothing made meaning old vs → (reading : T → Label) → IsReading made meaning new reading → first_or_undefined (map (read_value reading) vs) ≡ unlabelled undefined
  reads_later room firm old new kept vs nothing reading read = reads_nothing old reading vs (IsReading-earlier made meaning room firm old new reading kept read) nothing
