-- What is caught, and how a `try` statement begins.
use Rattle.std.proofs.Common.{refl, sym, ap, ap₂, subst, ◌∙◌, ◌≡◌, ◌<◌, ◌≤◌, ℕ, Bool, true, false, List, [], ◌∷◌, ◌++◌, map, drop, length, Some, None, Result, Ok, Err, IfOk, arith}
use Rattle.std.proofs.lemmas.List.{length-map, length_push, nil_from_length}
use Rattle.std.proofs.lemmas.Option.{none-some, same_Some}
use Rattle.std.specs.Borrow.{Bor}
use Rattle.origin_labels.specs.Label.{Label, bottom}
use Rattle.flow_policy.specs.Policies.{Tables}
use Rattle.flow_policy.specs.Inputs.{Given}
use Rattle.flow_text.specs.declared.memory.OutOfMemory.{OutOfMemory}
use Rattle.flow_frames.specs.Held as held
use Rattle.flow_frames.specs.Held.{Held, seen_frame}
use Rattle.flow_frames.specs.Changes.{pushed}
use Rattle.flow_frames.specs.Frames.{Frame}
use Rattle.flow_frames.specs.declared.kind.Kind.TheVariants as kind
use Rattle.flow_frames.specs.declared.faults.FlowFault.{FlowFault}
use Rattle.js_ast.specs.Functions.{FunctionCode}
use Rattle.js_ast.specs.Trees.{Ident, Block, Statement, try_catch, try_finally, try_both}
use Rattle.js_ast.specs.declared.trees.Stmt.{Stmt}
use Rattle.js_ast.specs.Views.{view_stmt}
use Rattle.js_values.specs.declared.value.Labelled.{Labelled}
use Rattle.js_values.specs.Readings.{IsReading, read_value, read_record}
use Rattle.es_meaning.specs.Environments.{Env, with_place}
use Rattle.es_meaning.specs.Operations.{One}
use Rattle.es_meaning.specs.Outcomes.{ret}
use Rattle.es_meaning.specs.Evaluation.{handled, unhandled, stmt_step}
use Rattle.es_meaning.specs.Plain.{undefined, choose}
use Rattle.es_meaning.specs.BuiltIns.{BuiltIns}
use Rattle.flow_meaning.specs.Erased.{unlabelled}
use Rattle.flow_meaning.specs.Tracked.{with_name}
use Rattle.flow_meaning.specs.Scopes.{Val, State, caught, ended, quiet, pushed_on, stay}
use Rattle.flow_meaning.specs.Planned.{Plan, Give, and_plan, as_plan, gave, planned, asking, do_last, do_react, do_handle, end_block, end_handler, end_round, with_result}
use Rattle.run_state.specs.declared.world.World.{World}
use Rattle.run_state.specs.Worlds.{state_of}
use Rattle.continuations.specs.declared.continuation.Jump as moves
use Rattle.continuations.specs.declared.continuation.Control.{Control}
use Rattle.continuations.specs.declared.continuation.Control.TheVariants as control
use Rattle.continuations.specs.declared.continuation.Continuation.TheVariants as continuation
use Rattle.js_values.specs.declared.ids.EnvId.{EnvId}
use Rattle.continuations.specs.Going.{Passes, Resumes, here}
use Rattle.continuations.specs.Kept.{Kept}
use Rattle.continuations.specs.Moving.{BeginsWith, BeginsAt, Moves}
use Rattle.continuations.specs.Pending.{env_above, setting_above, behind, first_or_undefined, handler_of, last_of}
use Rattle.continuations.specs.Resuming.{BeginsBehind, with_frames}
use Rattle.continuations.specs.Shapes.{jump_of, handles, finishes}
use Rattle.continuations.proofs.Handed.{jumps_alone}
use Rattle.continuations.specs.Settings.{setting_of, entrance}
use Rattle.function_entry.specs.Changing.{Changes}
use Rattle.step_jumps.proofs.Places.{place_is}
use Rattle.step_jumps.specs.Parts.{tried_in, caught_by}
use Rattle.step_jumps.specs.Trying.{block_plan, catching_plan, last_plan, reacting_plan, trying_plan}
use Rattle.step_jumps.proofs.Comings.{begins_beside, begins_at, begins_anywhere}
use Rattle.step_jumps.proofs.FinishLaws.{Quieted, block_stays, block_passes, handler_stays, handler_passes, uncaught, caught_as}
use Rattle.native_protocol.specs.Steps.{Steps}

pub quiets_else : {T : Type 0} (reading : T → Label) (b : Bool) (old new : List (Held T)) (t : State) → b ≡ false → Quieted old new → as_plan One (choose b (ret tt) quiet (with_frames reading old t)) ≡ Give (gave (unlabelled undefined)) (with_frames reading new t)
unfolding quiet
quiets_else reading b old new t isnt quiets =
    ap (λ x. as_plan One (choose x (ret tt) quiet (with_frames reading old t))) isnt
    ∙ ap (λ (fs : List Frame). Give (gave (unlabelled undefined)) (record t { frames = fs })) (sym (quiets reading))

module _ (tables : Tables) (inputs : Given) (set : BuiltIns) (functions : List FunctionCode) where
  handled_is : (ident : Ident) (b : Block) (f : Env ℕ) (v : Val) (t : State) → handled (planned tables inputs set functions) (entrance tables inputs set functions) (asking tables inputs set functions) ident b f v t
      ≡ block_plan tables inputs set functions b (with_place (length t.records) f) (with_name f.place ident.text v t)
  unfolding handled
  handled_is ident b f v t = refl

  tried_block : (h fi : Bool) (handler : Val → State → Plan) (last : State → Plan) (c b : Block) (f : Env ℕ) (t : State) → Some c ≡ Some b
      → (planned tables inputs set functions).attempt h fi (block_plan tables inputs set functions c f) handler last t
      ≡ and_plan (and_plan (block_plan tables inputs set functions b f (pushed_on kind.Try bottom t)) (end_block h fi handler last (length t.frames))) (end_round (length t.frames))
  tried_block h fi handler last c b f t same =
      ap (λ p. and_plan (and_plan p (end_block h fi handler last (length t.frames))) (end_round (length t.frames)))
      (ap (λ d. block_plan tables inputs set functions d f (pushed_on kind.Try bottom t)) (same_Some c b same))

  try_is : (s : Statement) (b : Block) (f : Env ℕ) (t : State) → tried_in s ≡ Some b
      → stmt_step (planned tables inputs set functions) (entrance tables inputs set functions) (asking tables inputs set functions) s f t ≡ trying_plan tables inputs set functions s (length t.frames) b f (pushed_on kind.Try bottom t)
  unfolding stmt_step
  try_is (try_catch at c ident handler) b f t is = tried_block true false (handled (planned tables inputs set functions) (entrance tables inputs set functions) (asking tables inputs set functions) ident handler f) (λ u. Give (gave (unlabelled undefined)) u) c b f t is
  try_is (try_finally at c last) b f t is = tried_block false true (unhandled (planned tables inputs set functions) (entrance tables inputs set functions) (asking tables inputs set functions)) (block_plan tables inputs set functions last f) c b f t is
  try_is (try_both at c ident handler last) b f t is = tried_block true true (handled (planned tables inputs set functions) (entrance tables inputs set functions) (asking tables inputs set functions) ident handler f) (block_plan tables inputs set functions last f) c b f t is
  try_is _ b f t is = absurd (none-some b is)

  -- whatever was given, the end of a part is the same
  block_any : (s : Bor Stmt) (depth : ℕ) (f : Env ℕ) (v : Val) (t : State) → end_block (handles (view_stmt s.now)) (finishes (view_stmt s.now)) (handler_of tables inputs set functions (view_stmt s.now) f) (last_of tables inputs set functions (view_stmt s.now) f) depth (gave v) t
      ≡ do_last (finishes (view_stmt s.now)) (last_of tables inputs set functions (view_stmt s.now) f) (ended tt) t
  unfolding end_block stay
  block_any s depth f v t = refl

  handler_any : (s : Bor Stmt) (depth : ℕ) (f : Env ℕ) (v : Val) (t : State) → end_handler (finishes (view_stmt s.now)) (last_of tables inputs set functions (view_stmt s.now) f) depth (gave v) t
      ≡ do_last (finishes (view_stmt s.now)) (last_of tables inputs set functions (view_stmt s.now) f) (ended tt) t
  unfolding end_handler stay
  handler_any s depth f v t = refl

module _ {S T : Type 0} (made : S → T → Type 0) (meaning : S → T → Label) (store : S) where
  -- the handler begins in its own record
  pub catches : (place : ℕ) (s : Statement) (ident : Ident) (b : Block) (depth own : ℕ) (value : Labelled T) (old middle new : Kept T) (before later : World T) (result : Result Control OutOfMemory)
      → middle.tasks ≡ old.tasks → old.loose ≡ middle.loose ++ value ∷ [] → length old.loose ≡ 1 → own ≡ length before.records
      → Changes made meaning store (λ reading. with_name place ident.text (read_value reading value)) before later
      → IfOk result (BeginsBehind (λ tables inputs set functions vs e t. and_plan (block_plan tables inputs set functions b (with_place own e.env) t) (end_handler (finishes s) (last_of tables inputs set functions s e.env) depth)) middle new)
      → IfOk result (λ move. BeginsAt made meaning store place (catching_plan s depth ident b old.loose) old new before later (Ok move))
  catches place s ident b depth own value old middle new before later (Err fault) tasks top one number changes begins = tt
  catches place s ident b depth own value old middle new before later (Ok move) tasks top one number changes begins = λ tables inputs set functions reading e told turns read there.
      let f = (setting_above old.tasks e).env in
      let t = state_of reading before told turns in
      let none : middle.loose ≡ [] = nil_from_length middle.loose (let size = ap length top in omega (arith, one, size, length_push middle.loose value)) in
      let alone : old.loose ≡ value ∷ [] = top ∙ ap (λ vs. vs ++ value ∷ []) none in
      let counted : own ≡ length t.records = number ∙ sym (length-map before.records (read_record reading)) in
      let enters = ap₂ (λ n u. block_plan tables inputs set functions b (with_place n f) u) counted (changes.says reading read told turns)
      ∙ ap₂ (λ i v. block_plan tables inputs set functions b (with_place (length t.records) f) (with_name i ident.text v t)) (sym there) (sym (ap (λ vs. first_or_undefined (map (read_value reading) vs)) alone))
      ∙ sym (handled_is tables inputs set functions ident b f (first_or_undefined (map (read_value reading) old.loose)) t) in
      begins tables inputs set functions reading e (state_of reading later told turns)
      ∙ ap (λ ts. behind tables inputs set functions reading ts e (and_plan (block_plan tables inputs set functions b (with_place own (setting_above ts e).env) (state_of reading later told turns)) (end_handler (finishes s) (last_of tables inputs set functions s (setting_above ts e).env) depth))) tasks
      ∙ ap (λ p. behind tables inputs set functions reading old.tasks e (and_plan p (end_handler (finishes s) (last_of tables inputs set functions s f) depth))) enters

  -- a jump has reached the block
  module _ (place : ℕ) (s : Statement) (depth : ℕ) (j : moves.Jump) (old new : Kept T) (world later : World T) (result : Result Control (FlowFault T)) where
    pub reacts_catching : (ident : Ident) (b : Block) (frames : held.Kept T) (stays : Bool) → stays ≡ finishes s → caught_by j s ≡ Some (ident, b)
        → ((reading : T → Label) (t : State) → as_plan One (choose stays (ret tt) quiet (with_frames reading world.frames.frames t)) ≡ Give (gave (unlabelled undefined)) (with_frames reading frames.frames t))
        → BeginsAt made meaning store place (catching_plan s depth ident b old.loose) old new (record world { frames = frames }) later result
        → BeginsAt made meaning store place (reacting_plan s depth j old.loose) old new world later result
    reacts_catching ident b frames stays fits is quiets begins =
        begins_at made meaning store place (catching_plan s depth ident b old.loose) (reacting_plan s depth j old.loose) old new world (record world { frames = frames }) later result
        (λ tables inputs set functions reading f told turns read.
        let t = state_of reading world told turns in
        let v = first_or_undefined (map (read_value reading) old.loose) in
        let meant = caught_as tables inputs set functions j s v ident b f.env is in
        let handler = handler_of tables inputs set functions s f.env in
        let last = last_of tables inputs set functions s f.env in
        sym (ap (λ x. choose x (do_handle (finishes s) handler last depth (jump_of j v)) (do_last (finishes s) last (caught (jump_of j v))) t) meant.0
        ∙ ap (λ p. and_plan p (with_result One (λ u u'. and_plan (handler (jump_of j v).value u') (end_handler (finishes s) last depth)))) (ap (λ x. as_plan One (choose x (ret tt) quiet t)) (sym fits) ∙ quiets reading t)
        ∙ ap₂ (λ hd w. and_plan (hd w (with_frames reading frames.frames t)) (end_handler (finishes s) last depth)) meant.1 meant.2))
        begins

    pub reacts_last : caught_by j s ≡ None → BeginsWith made meaning store (last_plan s (Some j) old.loose) old new world later result → BeginsAt made meaning store place (reacting_plan s depth j old.loose) old new world later result
    reacts_last is begins =
        begins_anywhere made meaning store place (last_plan s (Some j) old.loose) (reacting_plan s depth j old.loose) old new world later result
        (λ tables inputs set functions reading f told turns read.
        let t = state_of reading world told turns in
        let v = first_or_undefined (map (read_value reading) old.loose) in
        let last = last_of tables inputs set functions s f.env in
        sym (ap (λ x. choose x (do_handle (finishes s) (handler_of tables inputs set functions s f.env) last depth (jump_of j v)) (do_last (finishes s) last (caught (jump_of j v))) t) (uncaught j s v is)))
        begins

  -- the statement begins
  pub tries_with : (s : Statement) (b : Block) (depth : ℕ) (old new : Kept T) (before : World T) (frames : held.Kept T) (result : Result Control OutOfMemory) → tried_in s ≡ Some b → depth ≡ length before.frames.frames
      → ((reading : T → Label) → IsReading made meaning store reading → map (seen_frame reading) frames.frames ≡ map (seen_frame reading) before.frames.frames ++ pushed kind.Try bottom ∷ [])
      → IfOk result (BeginsBehind (λ tables inputs set functions vs e t. trying_plan tables inputs set functions s depth b e.env t) old new)
      → IfOk result (λ move. BeginsWith made meaning store (λ tables inputs set functions reading e. stmt_step (planned tables inputs set functions) (entrance tables inputs set functions) (asking tables inputs set functions) s e.env) old new before (record before { frames = frames }) (Ok move))
  tries_with s b depth old new before frames (Err fault) is deep entered begins = tt
  tries_with s b depth old new before frames (Ok move) is deep entered begins =
      begins_beside made meaning store (λ tables inputs set functions vs e t. trying_plan tables inputs set functions s depth b e.env t) (λ tables inputs set functions reading e. stmt_step (planned tables inputs set functions) (entrance tables inputs set functions) (asking tables inputs set functions) s e.env) old new before (record before { frames = frames }) move
      (λ tables inputs set functions reading f told turns read.
      let t = state_of reading before told turns in
      ap₂ (λ d (fs : List Frame). trying_plan tables inputs set functions s d b f.env (record t { frames = fs })) (deep ∙ sym (length-map before.frames.frames (seen_frame reading))) (entered reading read)
      ∙ sym (try_is tables inputs set functions s b f.env t is))
      begins

  -- ---- as work

  module _ (tables : Tables) (inputs : Given) (set : BuiltIns) (functions : List FunctionCode) (natives : List Steps) (s : Bor Stmt) (depth : ℕ) where
    pub block_done : (old new : Kept T) (before later : World T) (result : Result Control (FlowFault T)) → BeginsWith made meaning store (last_plan (view_stmt s.now) None old.loose) old new before later result
        → Resumes made meaning store tables inputs set functions (continuation.EndBlock s depth) natives natives old new before later result
    block_done old new before later result begins = λ reading told turns read.
        subst (λ p. Moves tables inputs set functions reading new (setting_of natives here) (state_of reading later told turns) (behind tables inputs set functions reading old.tasks (setting_of natives here) p) result)
        (sym (block_any tables inputs set functions s depth (setting_above old.tasks (setting_of natives here)).env (first_or_undefined (map (read_value reading) (drop 0 old.loose))) (state_of reading before told turns)))
        (begins tables inputs set functions reading (setting_of natives here) told turns read)

    pub handler_done : (own : EnvId) (old new : Kept T) (before later : World T) (result : Result Control (FlowFault T)) → BeginsWith made meaning store (last_plan (view_stmt s.now) None old.loose) old new before later result
        → Resumes made meaning store tables inputs set functions (continuation.EndHandler s own depth) natives natives old new before later result
    handler_done own old new before later result begins = λ reading told turns read.
        subst (λ p. Moves tables inputs set functions reading new (setting_of natives here) (state_of reading later told turns) (behind tables inputs set functions reading old.tasks (setting_of natives here) p) result)
        (sym (handler_any tables inputs set functions s depth (setting_above old.tasks (setting_of natives here)).env (first_or_undefined (map (read_value reading) (drop 0 old.loose))) (state_of reading before told turns)))
        (begins tables inputs set functions reading (setting_of natives here) told turns read)

    module _ (j : moves.Jump) (value : Labelled T) (stack : Kept T) (world : World T) where
      -- the frame was left before
      module _ (few : length world.frames.frames ≤ depth) (alone : stack.loose ≡ value ∷ []) where
        few_read : (reading : T → Label) → length (map (seen_frame reading) world.frames.frames) ≤ depth
        few_read reading = omega (arith, few, length-map world.frames.frames (seen_frame reading))

        pub block_passed : Passes made meaning store tables inputs set functions j (continuation.EndBlock s depth) value natives natives stack stack world world (Ok (control.Jumps j))
        block_passed = λ reading told turns read.
            let f = (setting_above stack.tasks (setting_of natives here)).env in
            let t = state_of reading world told turns in
            jumps_alone tables inputs set functions reading j stack stack value (setting_of natives here) t refl alone
            ∙ ap (behind tables inputs set functions reading stack.tasks (setting_of natives here)) (sym (block_passes (handles (view_stmt s.now)) (finishes (view_stmt s.now)) (handler_of tables inputs set functions (view_stmt s.now) f) (last_of tables inputs set functions (view_stmt s.now) f) depth (jump_of j (read_value reading value)) t (few_read reading)))

        pub handler_passed : (own : EnvId) → Passes made meaning store tables inputs set functions j (continuation.EndHandler s own depth) value natives natives stack stack world world (Ok (control.Jumps j))
        handler_passed own = λ reading told turns read.
            let f = (setting_above stack.tasks (setting_of natives here)).env in
            let t = state_of reading world told turns in
            jumps_alone tables inputs set functions reading j stack stack value (setting_of natives here) t refl alone
            ∙ ap (behind tables inputs set functions reading stack.tasks (setting_of natives here)) (sym (handler_passes false (finishes (view_stmt s.now)) (λ v. Give (gave v)) (last_of tables inputs set functions (view_stmt s.now) f) depth (jump_of j (read_value reading value)) t (few_read reading)))

      -- the jump has reached it
      module _ (there : depth < length world.frames.frames) (alone : stack.loose ≡ value ∷ []) (same new : Kept T) (later : World T) (result : Result Control (FlowFault T)) (is : same ≡ stack) where
        there_read : (reading : T → Label) → depth < length (map (seen_frame reading) world.frames.frames)
        there_read reading = omega (arith, there, length-map world.frames.frames (seen_frame reading))

        pub block_reached : (place : ℕ) → (env_above stack.tasks here).place ≡ place → BeginsAt made meaning store place (reacting_plan (view_stmt s.now) depth j same.loose) same new world later result
            → Passes made meaning store tables inputs set functions j (continuation.EndBlock s depth) value natives natives stack new world later result
        block_reached place placed begins = λ reading told turns read.
            let f = (setting_above stack.tasks (setting_of natives here)).env in
            let t = state_of reading world told turns in
            let handler = handler_of tables inputs set functions (view_stmt s.now) f in
            let last = last_of tables inputs set functions (view_stmt s.now) f in
            let at = subst (λ k. BeginsAt made meaning store place (reacting_plan (view_stmt s.now) depth j k.loose) k new world later result) is begins in
            subst (λ p. Moves tables inputs set functions reading new (setting_of natives here) (state_of reading later told turns) (behind tables inputs set functions reading stack.tasks (setting_of natives here) p) result)
            (ap (λ vs. do_react (handles (view_stmt s.now)) (finishes (view_stmt s.now)) handler last depth (caught (jump_of j (first_or_undefined (map (read_value reading) vs)))) t) alone
            ∙ sym (block_stays (handles (view_stmt s.now)) (finishes (view_stmt s.now)) handler last depth (jump_of j (read_value reading value)) t (there_read reading)))
            (at tables inputs set functions reading (setting_of natives here) told turns read (place_is stack.tasks natives ∙ placed))

        pub handler_reached : (own : EnvId) → BeginsWith made meaning store (last_plan (view_stmt s.now) (Some j) same.loose) same new world later result
            → Passes made meaning store tables inputs set functions j (continuation.EndHandler s own depth) value natives natives stack new world later result
        handler_reached own begins = λ reading told turns read.
            let f = (setting_above stack.tasks (setting_of natives here)).env in
            let t = state_of reading world told turns in
            let last = last_of tables inputs set functions (view_stmt s.now) f in
            let at = subst (λ k. BeginsWith made meaning store (last_plan (view_stmt s.now) (Some j) k.loose) k new world later result) is begins in
            subst (λ p. Moves tables inputs set functions reading new (setting_of natives here) (state_of reading later told turns) (behind tables inputs set functions reading stack.tasks (setting_of natives here) p) result)
            (ap (λ vs. do_last (finishes (view_stmt s.now)) last (caught (jump_of j (first_or_undefined (map (read_value reading) vs)))) t) alone
            ∙ sym (handler_stays false (finishes (view_stmt s.now)) (λ v. Give (gave v)) last depth (jump_of j (read_value reading value)) t (there_read reading)))
            (at tables inputs set functions reading (setting_of natives here) told turns read)
