-- What the parts of a step come to is what the step comes to.
use Rattle.std.proofs.Common.{append_assoc, ap₂, refl, sym, ap, subst, ◌∙◌, ◌≡◌, ◌<◌, ◌+◌, ◌*◌, ◌-◌, ℕ, zero, suc, Bool, true, false, List, [], ◌∷◌, ◌++◌, map, take, drop, length, Some, Result, Ok, Err, IfOk, IfErr, arith}
use Rattle.std.specs.List.{All}
use Rattle.std.proofs.lemmas.List.{nil_from_length, length-append, length-drop, take-append-drop}
use Rattle.origin_labels.specs.Label.{Label, bottom}
use Rattle.flow_text.specs.declared.memory.OutOfMemory.{OutOfMemory}
use Rattle.flow_policy.specs.Policies.{Tables}
use Rattle.flow_policy.specs.Inputs.{Given}
use Rattle.js_ast.specs.Functions.{FunctionCode, functions_of}
use Rattle.flow_frames.specs.declared.faults.FlowFault.{FlowFault}
use Rattle.flow_frames.specs.declared.faults.FlowFault.TheVariants as fault
use Rattle.flow_frames.specs.Stops.{IfStop}
use Rattle.js_ast.specs.Views.{view_block, view_expr, view_stmt}
use Rattle.js_values.specs.declared.value.Labelled.{Labelled}
use Rattle.js_values.specs.Readings.{HasValue, IsReading, read_heap, read_value}
use Rattle.native_protocol.specs.declared.request.Answer.{Answer}
use Rattle.native_protocol.specs.declared.request.ErrorKind.TheVariants as kinds
use Rattle.native_protocol.specs.declared.request.Request.{Request}
use Rattle.native_protocol.specs.Steps.{Steps}
use Rattle.es_meaning.specs.BuiltIns.{BuiltIns}
use Rattle.es_meaning.specs.Outcomes.{Outcome, done, threw, halted, left, out_of_turns}
use Rattle.es_meaning.specs.Outcomes.{Jumps as Thrown}
use Rattle.es_meaning.specs.Operations.{Value}
use Rattle.es_meaning.specs.Plain.{may_declare, undefined}
use Rattle.es_meaning.specs.Start.{shown}
use Rattle.flow_meaning.specs.Erased.{erased_heap, unlabelled}
use Rattle.flow_meaning.specs.Scopes.{Halt, Val, State, LabelledLine, as_plain}
use Rattle.flow_meaning.specs.Scopes.{Jump as Jumps}
use Rattle.es_meaning.specs.Evaluation.{begun, discard, statements}
use Rattle.flow_meaning.specs.Tracked.{act, throw_error, tracked_run, start}
use Rattle.flow_meaning.proofs.Depth.{is_performed}
use Rattle.js_ast.specs.Trees.{Statements, block}
use Rattle.flow_meaning.specs.Laws.{performed_run}
use Rattle.flow_meaning.specs.Planned.{Completion, Part, an_expr, a_use, a_stmt, a_named, a_turn, a_visit, Plan, Give, Ask, gave, jumped, and_plan, as_plan, with_result, Ran, completed, perform, meaning, planned, asking, plan, program_meaning, program_plan}
use Rattle.run_state.specs.declared.world.World.{World}
use Rattle.run_state.specs.Worlds.{state_of}
use Rattle.continuations.specs.Stops.{HasStop}
use Rattle.continuations.specs.declared.continuation.Continuation.{Continuation}
use Rattle.continuations.specs.declared.continuation.Control.{Control}
use Rattle.continuations.specs.declared.continuation.Control.TheVariants as control
use Rattle.continuations.specs.Kept.{Kept, Taken, scopes_of, scope_of, operands_of, kept_operands, waiting, waits}
use Rattle.continuations.specs.Loads.{load, lift, weight, Adds}
use Rattle.continuations.specs.Pending.{Task, after, owns, setting_above, behind, first_or_undefined, next_plan, values_of, visit_of}
use Rattle.continuations.specs.Settings.{Setting, setting_of}
use Rattle.continuations.specs.Resuming.{coming}
use Rattle.continuations.proofs.Keeping.{kept_more, natives_more, scopes_more}
use Rattle.continuations.proofs.Loads.{load_more}
use Rattle.continuations.specs.Shapes.{behind_labels, jump_of, name_of, passed_labels, use_of, round_of}
use Rattle.continuations.specs.declared.continuation.Reason.{Reason}
use Rattle.continuations.specs.declared.continuation.Jump.{Jump}
use Rattle.continuations.specs.declared.continuation.Jump.TheVariants as jump
use Rattle.step_core.specs.declared.progress.Progress.{Progress}
use Rattle.step_core.specs.declared.steps.Advance.{Advance}
use Rattle.step_core.specs.declared.steps.Advance.TheVariants as advance
use Rattle.step_core.specs.declared.steps.Ending.{Ending}
use Rattle.step_core.specs.declared.steps.Ending.TheVariants as ending
use Rattle.continuations.specs.Going.{Begins, ComesTo, Continues, Lowers}
use Rattle.step_core.specs.Going.{Enters, StandsStill, part_in}
use Rattle.step_natives.specs.Framed.{steps_at, steps_behind}
use Rattle.step_core.specs.RemainingRun.{Comes, IfGoes, IfStopped, ahead, remaining_run}
use Rattle.step_natives.specs.States.{States, waiting_steps}
use Rattle.continuations.specs.Going.{here}
use Rattle.continuations.specs.Invariant.{Invariant, Framed, depths, given, running}
use Rattle.step_core.specs.Stepping.{StandsBefore, Stepped, step_of, still_step, remaining_run_after, completion_above, handed, enters_part, begins_work, calls_function, makes_value, runs_one, gives_value, hands_on}
use Rattle.step_core.proofs.Performed.{entered, spent, ended}
use Rattle.step_core.proofs.Taking.{taken_goes_on}

module _ {S T X : Type 0} (made : S → T → Type 0) (meaning_of : S → T → Label) (store : S) (tables : Tables) (inputs : Given) (set : BuiltIns) (functions : List FunctionCode) (tells : X → Answer → X) (asks : X → Request) where
  -- a step that comes to the same, with less to be done than is now said
  pub stepped_as : (ran other : (T → Label) → List LabelledLine → Ran) (most more : ℕ) (m : Progress T X) (result : Result (Advance T) OutOfMemory)
      → ((reading : T → Label) (told : List LabelledLine) → IsReading made meaning_of store reading → ran reading told ≡ other reading told) → most ≡ more
      → IfOk result (Stepped made meaning_of store tables inputs set functions tells asks ran most m) → IfOk result (Stepped made meaning_of store tables inputs set functions tells asks other more m)
  stepped_as ran other most more m (Err e) same is stepped = tt
  stepped_as ran other most more m (Ok (s)) same is stepped = record {
    comes = λ reading told read. subst (λ r. Comes tables inputs set functions tells asks reading m told r s) (same reading told read) (stepped.comes reading told read);
    standing = stepped.standing;
    lowers = subst (λ n. IfGoes (λ move. ahead m move < n) s) is stepped.lowers;
    printed = stepped.printed;
    stopped = stepped.stopped;
  }

  -- a move that comes to a plan, with the steps of the built-ins that wait or run then, is a step that comes to what the plan comes to
  pub moved_steps : (natives : List Steps) (p : (T → Label) → List LabelledLine → ℕ → Plan) (m : Progress T X) (most : ℕ) (moved : Result Control (FlowFault T)) (result : Result (Advance T) OutOfMemory) → result ≡ step_of moved
      → ComesTo made meaning_of store tables inputs set functions natives p m.stack m.world moved
      → IfOk moved (λ n. steps_at tells asks m.natives n ≡ natives)
      → IfOk moved (StandsBefore made meaning_of store m)
      → IfOk moved (λ n. ahead m n < most)
      → IfErr moved (IfStop (HasStop (made store)))
      → IfOk result (Stepped made meaning_of store tables inputs set functions tells asks (λ reading told. perform (meaning tables inputs set functions) (p reading told m.turns)) most m)
  unfolding perform
  moved_steps natives p m most (Ok n) result is comes same standing lowers stopped = subst (λ r. IfOk r (Stepped made meaning_of store tables inputs set functions tells asks (λ reading told. perform (meaning tables inputs set functions) (p reading told m.turns)) most m)) (sym is) (record {
    comes = λ reading told read. ap (perform (meaning tables inputs set functions)) (sym (comes reading told m.turns read)) ∙ ap (λ ns. perform (meaning tables inputs set functions) (coming tables inputs set functions reading m.stack n (setting_of ns here) (state_of reading m.world told m.turns))) (sym same);
    standing = standing;
    lowers = lowers;
    printed = tt;
    stopped = tt;
  })
  moved_steps natives p m most (Err (fault.Stop stop)) result is comes same standing lowers stopped = subst (λ r. IfOk r (Stepped made meaning_of store tables inputs set functions tells asks (λ reading told. perform (meaning tables inputs set functions) (p reading told m.turns)) most m)) (sym is) (record {
    comes = λ reading told read. ap (λ q. performed_run (perform (meaning tables inputs set functions) q)) (sym (comes reading told m.turns read));
    standing = tt;
    lowers = tt;
    printed = tt;
    stopped = stopped;
  })
  moved_steps natives p m most (Err fault.OutOfMemory) result is comes same standing lowers stopped = subst (λ r. IfOk r (Stepped made meaning_of store tables inputs set functions tells asks (λ reading told. perform (meaning tables inputs set functions) (p reading told m.turns)) most m)) (sym is) tt

  -- the same of a move behind which all built-ins wait
  pub still_steps : (p : (T → Label) → List LabelledLine → ℕ → Plan) (m : Progress T X) (most : ℕ) (moved : Result Control (FlowFault T)) (result : Result (Advance T) OutOfMemory) → result ≡ still_step moved
      → ComesTo made meaning_of store tables inputs set functions (waiting_steps tells asks m.natives) p m.stack m.world moved
      → IfOk moved (λ n. running n ≡ 0 → StandsBefore made meaning_of store m n)
      → IfOk moved (λ n. ahead m n < most)
      → IfErr moved (IfStop (HasStop (made store)))
      → IfOk result (Stepped made meaning_of store tables inputs set functions tells asks (λ reading told. perform (meaning tables inputs set functions) (p reading told m.turns)) most m)
  still_steps p m most (Ok (control.Request count)) result is comes standing lowers stopped = subst (λ r. IfOk r (Stepped made meaning_of store tables inputs set functions tells asks (λ reading told. perform (meaning tables inputs set functions) (p reading told m.turns)) most m)) (sym is) tt
  still_steps p m most (Ok n) result is comes standing lowers stopped = moved_steps (waiting_steps tells asks m.natives) p m most (Ok n) result is comes refl (standing refl) lowers stopped
  still_steps p m most (Err f) result is comes standing lowers stopped = moved_steps (waiting_steps tells asks m.natives) p m most (Err f) result is comes tt tt tt stopped

  -- the end of a run
  pub ends_steps : (ran : (T → Label) → List LabelledLine → Ran) (m : Progress T X) (most : ℕ) (e : Ending T) → IfStopped (HasStop (made store)) (advance.Ends e)
      → ((reading : T → Label) (told : List LabelledLine) → Comes tables inputs set functions tells asks reading m told (ran reading told) (advance.Ends e)) → Stepped made meaning_of store tables inputs set functions tells asks ran most m (advance.Ends e)
  ends_steps ran m most e stopped comes = record { comes = λ reading told read. comes reading told; standing = tt; lowers = tt; printed = tt; stopped = stopped }

-- ---- parts

module _ (tables : Tables) (inputs : Given) (set : BuiltIns) (functions : List FunctionCode) where
  -- what a move that enters a part asks for, by the values that no work keeps
  pub record AsksFor (move : Control) (e : Setting) : Type 0 where
    pub part : List Val → Part
    pub is : (vs : List Val) → part_in vs e move ≡ Some (part vs)
    pub asks : (vs : List Val) (s : State) → next_plan tables inputs set functions move vs e s ≡ Ask (part vs) s Give

  pub asks_for : (move : Control) (e : Setting) → enters_part move ≡ true → AsksFor move e
  asks_for (control.Expr x) e h = record { part = λ vs. an_expr (view_expr x.now) e.env.place; is = λ vs. refl; asks = λ vs s. refl }
  asks_for (control.Use how x) e h = record { part = λ vs. a_use (use_of how vs) (view_expr x.now) e.env.place; is = λ vs. refl; asks = λ vs s. refl }
  asks_for (control.Stmt x) e h = record { part = λ vs. a_stmt (view_stmt x.now) e.env; is = λ vs. refl; asks = λ vs s. refl }
  asks_for (control.Block x) e h = record { part = λ vs. a_stmt (block (view_block x.now)) e.env; is = λ vs. refl; asks = λ vs s. refl }
  asks_for (control.Named x n) e h = record { part = λ vs. a_named (passed_labels n [] (view_stmt x.now)) (behind_labels n (view_stmt x.now)) e.env; is = λ vs. refl; asks = λ vs s. refl }
  asks_for (control.Turn r) e h = record { part = λ vs. a_turn (round_of r) e.env; is = λ vs. refl; asks = λ vs s. refl }
  asks_for (control.Visit x count) e h = record { part = λ vs. a_visit (visit_of x count vs) e.env; is = λ vs. refl; asks = λ vs s. refl }
  asks_for _ e h = absurd (cc h)

-- a move that enters a part runs no built-in
pub enters_still : (move : Control) → enters_part move ≡ true → running move ≡ 0
enters_still (control.Request count) h = absurd (cc h)
enters_still _ h = refl

-- where none runs all wait
pub steps_still : {X : Type 0} (tells : X → Answer → X) (asks : X → Request) (natives : States X) (move : Control) → running move ≡ 0 → steps_at tells asks natives move ≡ waiting_steps tells asks natives
steps_still tells asks natives (control.Request count) still = absurd (omega (arith, still))
steps_still tells asks natives _ still = refl

pub runs_none : (move : Control) → runs_one move ≡ false → running move ≡ 0
runs_none (control.Request count) h = absurd (cc h)
runs_none _ h = refl

-- neither do moves that begin work, or that call what is no request
pub begins_still : (move : Control) → begins_work move ≡ true → running move ≡ 0
begins_still (control.Request count) h = absurd (cc h)
begins_still _ h = refl

pub calls_still : (move : Control) → calls_function move ≡ true → running move ≡ 0
calls_still (control.Request count) h = absurd (cc h)
calls_still _ h = refl

pub makes_still : (move : Control) → makes_value move ≡ true → running move ≡ 0
makes_still (control.Request count) h = absurd (cc h)
makes_still _ h = refl

-- the move behind a part by whether it gave a value
pub handed_is : (move : Control) → hands_on move ≡ true → handed (gives_value move) ≡ move
handed_is control.Value h = refl
handed_is control.Done h = refl
handed_is _ h = absurd (cc h)

pub handed_still : (gave : Bool) → running (handed gave) ≡ 0
handed_still true = refl
handed_still false = refl

-- as many wait as there are
pub all_wait : {S T : Type 0} (made : S → T → Type 0) (meaning_of : S → T → Label) (store : S) (stack : Kept T) (world : World T) (n natives : ℕ) (pending : List ℕ) (move : Control) → running move ≡ 0 → Invariant made meaning_of store stack world n pending natives move → natives ≡ waiting stack.tasks
all_wait made meaning_of store stack world n natives pending move still stands = let all = stands.natives in omega (arith, all, still)

-- the steps behind a call are those by its move
pub left_at : {X T : Type 0} (tells : X → Answer → X) (asks : X → Request) (natives : States X) (result : Result Control (FlowFault T)) → IfOk result (λ n. steps_at tells asks natives n ≡ steps_behind tells asks natives result)
left_at tells asks natives (Ok n) = refl
left_at tells asks natives (Err f) = tt

module _ {T X : Type 0} (tables : Tables) (inputs : Given) (set : BuiltIns) (functions : List FunctionCode) (tells : X → Answer → X) (asks : X → Request) (reading : T → Label) (m : Progress T X) (natives : List Steps) (move : Control) (waits : steps_at tells asks m.natives move ≡ natives)
    (wanted : AsksFor tables inputs set functions move (setting_above m.stack.tasks (setting_of natives here))) (told : List LabelledLine) where
  -- what is next, with these steps
  remaining_run_at : perform (meaning tables inputs set functions) (coming tables inputs set functions reading m.stack move (setting_of natives here) (state_of reading m.world told m.turns)) ≡ remaining_run tables inputs set functions tells asks reading m move told
  remaining_run_at = ap (λ ns. perform (meaning tables inputs set functions) (coming tables inputs set functions reading m.stack move (setting_of ns here) (state_of reading m.world told m.turns))) (sym waits)

  -- for a turn the part is entered
  pub entered_after : (turns : ℕ) → m.turns ≡ suc turns → perform (meaning tables inputs set functions) (behind tables inputs set functions reading m.stack.tasks (setting_of natives here) (plan tables inputs set functions (wanted.part (map (read_value reading) m.stack.loose)) (state_of reading m.world told turns))) ≡ remaining_run tables inputs set functions tells asks reading m move told
  entered_after turns is =
      sym (entered tables inputs set functions reading m.stack.tasks (setting_of natives here) (wanted.part (map (read_value reading) m.stack.loose)) (state_of reading m.world told turns) turns)
      ∙ ap (λ n. perform (meaning tables inputs set functions) (behind tables inputs set functions reading m.stack.tasks (setting_of natives here) (Ask (wanted.part (map (read_value reading) m.stack.loose)) (state_of reading m.world told n) Give))) (sym is)
      ∙ ap (λ p. perform (meaning tables inputs set functions) (behind tables inputs set functions reading m.stack.tasks (setting_of natives here) p)) (sym (wanted.asks (map (read_value reading) m.stack.loose) (state_of reading m.world told m.turns)))
      ∙ remaining_run_at

  -- without one the run ends
  pub spent_alone : m.turns ≡ 0 → performed_run (remaining_run tables inputs set functions tells asks reading m move told) ≡ record { lines = told; ending = halted (as_plain out_of_turns) }
  spent_alone none =
      ap performed_run (sym remaining_run_at)
      ∙ ap (λ p. performed_run (perform (meaning tables inputs set functions) (behind tables inputs set functions reading m.stack.tasks (setting_of natives here) p))) (wanted.asks (map (read_value reading) m.stack.loose) (state_of reading m.world told m.turns))
      ∙ ap (λ n. performed_run (perform (meaning tables inputs set functions) (behind tables inputs set functions reading m.stack.tasks (setting_of natives here) (Ask (wanted.part (map (read_value reading) m.stack.loose)) (state_of reading m.world told n) Give)))) none
      ∙ ap performed_run (spent tables inputs set functions reading m.stack.tasks (setting_of natives here) (wanted.part (map (read_value reading) m.stack.loose)) (state_of reading m.world told 0))

-- ---- how much is left to do

-- a number that isn't 0 is one more than the one before
pub one_less : (n : ℕ) → (n ≡ 0 → ⊥) → n ≡ suc (n - 1)
one_less zero none = absurd (none refl)
one_less (suc n) none = omega arith

-- what adds at most so much leaves less than so much more
pub lowers_by : {T F : Type 0} (old new : Kept T) (k turns : ℕ) (result : Result Control F) → IfOk result (Adds (k + 5) old new) → IfOk result (λ n. 18 * turns + load new.tasks + lift n < 18 * turns + load old.tasks + 6 + k)
lowers_by old new k turns (Ok n) adds = omega (arith, adds)
lowers_by old new k turns (Err e) adds = tt

-- for a part a turn was spent
pub lowers_turn : {T F : Type 0} (old new : Kept T) (move : Control) (turns : ℕ) (result : Result Control F) → IfOk result (Adds 17 old new) → IfOk result (λ n. 18 * turns + load new.tasks + lift n < 18 * (suc turns) + load old.tasks + lift move)
lowers_turn old new move turns (Ok n) adds = omega (arith, adds)
lowers_turn old new move turns (Err e) adds = tt

pub lowers_move : {T F : Type 0} (old new : Kept T) (move : Control) (turns : ℕ) (result : Result Control F) → IfOk result (Lowers old move new) → IfOk result (λ n. 18 * turns + load new.tasks + lift n < 18 * turns + load old.tasks + lift move)
lowers_move old new move turns (Ok n) lowers = omega (arith, lowers)
lowers_move old new move turns (Err e) lowers = tt

-- ---- the beginning

module _ {T : Type 0} (tables : Tables) (inputs : Given) (set : BuiltIns) (reading : T → Label) (program : Statements) where
  abbrev F : List FunctionCode
  F = functions_of program

  -- no built-in waits at first
  abbrev at_first : Setting
  at_first = setting_of [] here

  -- a machine that does what a program begins with, from the state in which it starts, comes to its run
  pub starts : (stack : Kept T) (move : Control) (s first : State) (turns : ℕ) → coming tables inputs set F reading stack move at_first s ≡ begun (planned tables inputs set F) (asking tables inputs set F) (may_declare set program) program here first → first ≡ start tables inputs set program turns
      → performed_run (perform (meaning tables inputs set F) (coming tables inputs set F reading stack move at_first s)) ≡ tracked_run set tables inputs program turns
  unfolding program_meaning program_plan
  starts stack move s first turns goes is =
      ap (λ p. performed_run (perform (meaning tables inputs set F) p)) (goes ∙ ap (λ t. begun (planned tables inputs set F) (asking tables inputs set F) (may_declare set program) program here t) is)
      ∙ is_performed.programs set tables inputs program turns

  -- it begins with its statements, where its functions may be declared
  pub begun_statements : (s : State) → may_declare set program ≡ true → statements (planned tables inputs set F) (asking tables inputs set F) program here s ≡ begun (planned tables inputs set F) (asking tables inputs set F) (may_declare set program) program here s
  unfolding begun
  begun_statements s declares = ap (λ b. begun (planned tables inputs set F) (asking tables inputs set F) b program here s) (sym declares)

  -- and else with a throw
  pub begun_refused : (first s : State) (j : Jumps) → may_declare set program ≡ false → throw_error {X = Val} kinds.TypeError bottom first ≡ Thrown j s → Give (jumped j) s ≡ begun (planned tables inputs set F) (asking tables inputs set F) (may_declare set program) program here first
  unfolding begun act
  begun_refused first s j declares throws =
      sym (ap (λ (o : Outcome Halt Jumps Val State). and_plan (as_plan Value o) (with_result Value (discard (planned tables inputs set F)))) throws)
      ∙ ap (λ b. begun (planned tables inputs set F) (asking tables inputs set F) b program here first) (sym declares)

-- ---- jumps

-- what a jump takes along
value_of_jump : (j : Jump) (v : Val) → (jump_of j v).value ≡ v
value_of_jump jump.Throws v = refl
value_of_jump (jump.Returns to) v = refl
value_of_jump (jump.Leaves n to) v = refl

-- ---- work that was taken

module _ {T X : Type 0} (tables : Tables) (inputs : Given) (set : BuiltIns) (functions : List FunctionCode) (tells : X → Answer → X) (asks : X → Request) (reading : T → Label) where
  -- where all built-ins wait
  abbrev at_rest : Progress T X → Setting
  at_rest m = setting_of (waiting_steps tells asks m.natives) here

  abbrev M : Plan → Ran
  M p = perform (meaning tables inputs set functions) p

  abbrev B : List (Task T) → Setting → Plan → Plan
  B tasks e p = behind tables inputs set functions reading tasks e p

  abbrev N : Control → List (Labelled T) → Setting → State → Plan
  N move vs e s = next_plan tables inputs set functions move (map (read_value reading) vs) e s

  -- without work a value, or an end, is the end of the run
  pub done_alone : (m : Progress T X) (gave : Bool) (told : List LabelledLine) → m.stack.tasks ≡ []
      → performed_run (remaining_run tables inputs set functions tells asks reading m (handed gave) told) ≡ record { lines = told; ending = done }
  unfolding perform completed behind
  done_alone m true told none = ap (λ ts. performed_run (M (B ts (at_rest m) (N (handed true) m.stack.loose (setting_above ts (at_rest m)) (state_of reading m.world told m.turns))))) none
  done_alone m false told none = ap (λ ts. performed_run (M (B ts (at_rest m) (N (handed false) m.stack.loose (setting_above ts (at_rest m)) (state_of reading m.world told m.turns))))) none

  -- a move that leaves the language ends it, whatever waits
  pub left_alone : (m : Progress T X) (why : Reason) (told : List LabelledLine) → performed_run (remaining_run tables inputs set functions tells asks reading m (control.Leave why) told) ≡ record { lines = told; ending = halted (as_plain (left (name_of why (map (read_value reading) m.stack.loose)))) }
  left_alone m why told = ap performed_run (ended tables inputs set functions reading m.stack.tasks (at_rest m) (as_plain (left (name_of why (map (read_value reading) m.stack.loose)))) (state_of reading m.world told m.turns))

  -- and a jump leaves the script
  pub left_by_jump : (j : Jump) (m : Progress T X) (value : Labelled T) (told : List LabelledLine) → m.stack.tasks ≡ [] → m.stack.loose ≡ value ∷ []
      → performed_run (remaining_run tables inputs set functions tells asks reading m (control.Jumps j) told) ≡ record { lines = told; ending = threw (shown (erased_heap (read_heap reading m.world.heap)) value.value) }
  unfolding perform completed behind setting_above
  left_by_jump j m value told none alone =
      ap (λ ts. performed_run (M (B ts (at_rest m) (N (control.Jumps j) m.stack.loose (setting_above ts (at_rest m)) (state_of reading m.world told m.turns))))) none
      ∙ ap (λ vs. performed_run (M (N (control.Jumps j) vs (at_rest m) (state_of reading m.world told m.turns)))) alone
      ∙ ap (λ (v : Val). record { lines = told; ending = threw (shown (erased_heap (read_heap reading m.world.heap)) v.value) }) (value_of_jump j (read_value reading value))

  -- work that is taken goes on with the completion that a move is
  pub taken_after : (m : Progress T X) (taken : Kept T) (w : Continuation) (c : Completion) (told : List LabelledLine) → Taken m.stack taken w
      → remaining_run_after tables inputs set functions tells asks reading (record m { stack = taken }) w c told ≡ M (B m.stack.tasks (at_rest m) (Give c (state_of reading m.world told m.turns)))
  taken_after m taken w c told took = ap M (sym (taken_goes_on tables inputs set functions reading (at_rest m) m.stack taken w c (state_of reading m.world told m.turns) took))

  pub resumed_after : (m : Progress T X) (taken : Kept T) (w : Continuation) (gave : Bool) (told : List LabelledLine) → length m.stack.loose ≡ given gave → Taken m.stack taken w
      → remaining_run_after tables inputs set functions tells asks reading (record m { stack = taken }) w (completion_above tables inputs set functions tells asks reading (record m { stack = taken }) w) told ≡ remaining_run tables inputs set functions tells asks reading m (handed gave) told
  resumed_after m taken w true told values took =
      ap (λ vs. remaining_run_after tables inputs set functions tells asks reading (record m { stack = taken }) w (gave (first_or_undefined (map (read_value reading) vs))) told) took.rest
      ∙ taken_after m taken w (gave (first_or_undefined (map (read_value reading) m.stack.loose))) told took
  resumed_after m taken w false told values took =
      ap (λ vs. remaining_run_after tables inputs set functions tells asks reading (record m { stack = taken }) w (gave (first_or_undefined (map (read_value reading) vs))) told) (took.rest ∙ nil_from_length m.stack.loose values)
      ∙ taken_after m taken w (gave (unlabelled undefined)) told took

  -- with a jump
  pub passed_after : (j : Jump) (m : Progress T X) (taken : Kept T) (w : Continuation) (value : Labelled T) (told : List LabelledLine) → m.stack.loose ≡ value ∷ [] → Taken m.stack taken w
      → remaining_run_after tables inputs set functions tells asks reading (record m { stack = taken }) w (jumped (jump_of j (read_value reading value))) told ≡ remaining_run tables inputs set functions tells asks reading m (control.Jumps j) told
  passed_after j m taken w value told alone took =
      taken_after m taken w (jumped (jump_of j (read_value reading value))) told took
      ∙ ap (λ vs. M (B m.stack.tasks (at_rest m) (N (control.Jumps j) vs (setting_above m.stack.tasks (at_rest m)) (state_of reading m.world told m.turns)))) (sym alone)

-- the operands lie in the same order once work is taken, and above them what lay loose
kept_operands_taken : {T : Type 0} (old taken : Kept T) (w : Continuation) → Taken old taken w → operands_of taken ≡ operands_of old
kept_operands_taken old taken w took =
    ap (λ vs. kept_operands taken.tasks ++ vs) (sym (take-append-drop (owns w) taken.loose))
    ∙ sym (append_assoc (kept_operands taken.tasks) (take (owns w) taken.loose) (drop (owns w) taken.loose))
    ∙ ap₂ (λ us vs. us ++ vs) (sym (ap kept_operands took.tasks ∙ kept_more taken.tasks (w, take (owns w) taken.loose))) took.rest

values_taken : {T : Type 0} (old taken : Kept T) (w : Continuation) (n : ℕ) → Taken old taken w → length old.loose ≡ n → length taken.loose ≡ owns w + n
values_taken old taken w n took values = let rest = sym (length-drop (owns w) taken.loose) ∙ ap length took.rest in omega (arith, rest, values, took.enough)

module _ {S T : Type 0} (made : S → T → Type 0) (meaning_of : S → T → Label) (store : S) where
  -- a machine whose next work is taken stands, as far as work without a built-in goes
  pub standing_taken : (old taken : Kept T) (world : World T) (w : Continuation) (n natives : ℕ) (move : Control) → Taken old taken w → running move ≡ 0
      → Invariant made meaning_of store old world n (scopes_of old.tasks) natives move → Invariant made meaning_of store taken world (owns w + n) (scopes_of taken.tasks ++ scope_of w) (waiting taken.tasks) move
  standing_taken old taken world w n natives move took still stands =
      let scopes = ap scopes_of took.tasks ∙ scopes_more taken.tasks (w, take (owns w) taken.loose) in
      record {
        belongs = stands.belongs;
        operands = subst (All (HasValue (made store))) (sym (kept_operands_taken old taken w took)) stands.operands;
        values = values_taken old taken w n took stands.values;
        scopes = subst (λ ds. ds ≡ depths (length ds)) scopes stands.scopes;
        frames = subst (λ ds. Framed move (length world.frames.frames) (length ds)) scopes stands.frames;
        records = stands.records;
        natives = omega (arith, still);
      }

  -- and so many built-ins wait
  pub waiting_taken : (old taken : Kept T) (world : World T) (w : Continuation) (n natives : ℕ) (move : Control) → Taken old taken w → running move ≡ 0
      → Invariant made meaning_of store old world n (scopes_of old.tasks) natives move → natives ≡ waiting taken.tasks + waits w
  waiting_taken old taken world w n natives move took still stands =
      let all = stands.natives in let more = ap waiting took.tasks ∙ natives_more taken.tasks (w, take (owns w) taken.loose) in omega (arith, all, more, still)

  -- whether it waits for a value or for an end
  pub standing_given : (stack : Kept T) (world : World T) (natives : ℕ) (pending : List ℕ) (gave : Bool) → Invariant made meaning_of store stack world (values_of (handed gave)) pending natives (handed gave) → Invariant made meaning_of store stack world (given gave) pending natives (handed gave)
  standing_given stack world natives pending true stands = stands
  standing_given stack world natives pending false stands = stands

  pub standing_handed : (stack : Kept T) (world : World T) (n natives : ℕ) (pending : List ℕ) (gave : Bool) → Invariant made meaning_of store stack world n pending natives (handed gave) → Invariant made meaning_of store stack world n pending natives control.Value
  standing_handed stack world n natives pending true stands = stands
  standing_handed stack world n natives pending false stands = record { belongs = stands.belongs; operands = stands.operands; values = stands.values; scopes = stands.scopes; frames = stands.frames; records = stands.records; natives = stands.natives }

  -- a machine stands as it does with the built-ins that wait by its work
  pub standing_waiting : (stack : Kept T) (world : World T) (n natives : ℕ) (pending : List ℕ) (move : Control) → running move ≡ 0 → Invariant made meaning_of store stack world n pending natives move → Invariant made meaning_of store stack world n pending (waiting stack.tasks) move
  standing_waiting stack world n natives pending move still stands = record { belongs = stands.belongs; operands = stands.operands; values = stands.values; scopes = stands.scopes; frames = stands.frames; records = stands.records; natives = omega (arith, still) }

-- what a call leaves is what a machine leaves with as many built-ins
pub still_behind : {S T X F : Type 0} (made : S → T → Type 0) (meaning_of : S → T → Label) (store : S) (m : Progress T X) (waits : ℕ) (result : Result Control F) → length m.natives.states ≡ waits
    → IfOk result (StandsStill made meaning_of store waits m.stack m.world) → IfOk result (λ n. running n ≡ 0 → StandsBefore made meaning_of store m n)
still_behind made meaning_of store m waits (Ok n) same stands = λ still. subst (λ k. Invariant made meaning_of store m.stack m.world (values_of n) (scopes_of m.stack.tasks) k n) (sym same) (stands still)
still_behind made meaning_of store m waits (Err f) same stands = tt

-- how much is left to do is what there was without the work that was taken
pub ahead_taken : {T : Type 0} (old taken : Kept T) (w : Continuation) (turns : ℕ) → Taken old taken w → 18 * turns + load taken.tasks + 6 + weight w ≡ 18 * turns + load old.tasks + 6
ahead_taken old taken w turns took = let more = ap load took.tasks ∙ load_more taken.tasks (w, take (owns w) taken.loose) in omega (arith, more)

pub ahead_handed : {T : Type 0} (old taken : Kept T) (w : Continuation) (gave : Bool) (turns : ℕ) → Taken old taken w → 18 * turns + load taken.tasks + 6 + weight w ≡ 18 * turns + load old.tasks + lift (handed gave)
ahead_handed old taken w true turns took = ahead_taken old taken w turns took
ahead_handed old taken w false turns took = ahead_taken old taken w turns took

pub alone_by : {X : Type 0} (front xs : List X) (x : X) → xs ≡ front ++ x ∷ [] → length xs ≡ 1 → xs ≡ x ∷ []
alone_by front xs x is one = let none : length front ≡ 0 = (let all = ap length is ∙ length-append front (x ∷ []) in omega (arith, all, one)) in is ∙ ap (λ ys. ys ++ x ∷ []) (nil_from_length front none)

-- ---- moves of a machine

module _ {S T X : Type 0} (made : S → T → Type 0) (meaning_of : S → T → Label) (store : S) (tables : Tables) (inputs : Given) (set : BuiltIns) (functions : List FunctionCode) (tells : X → Answer → X) (asks : X → Request) where
  -- a move that runs no built-in, behind which none runs
  pub began_steps : (m : Progress T X) (move : Control) (stack : Kept T) (world : World T) (moved : Result Control (FlowFault T)) (result : Result (Advance T) OutOfMemory) → result ≡ still_step moved → running move ≡ 0 → length m.natives.states ≡ waiting m.stack.tasks
      → Begins made meaning_of store tables inputs set functions (waiting_steps tells asks m.natives) (waiting_steps tells asks m.natives) m.stack stack m.world world move moved
      → IfOk moved (StandsStill made meaning_of store (waiting m.stack.tasks) stack world) → IfOk moved (Lowers m.stack move stack) → IfErr moved (IfStop (HasStop (made store)))
      → IfOk result (Stepped made meaning_of store tables inputs set functions tells asks (λ reading. remaining_run tables inputs set functions tells asks reading m move) (ahead m move) (record { world = world; stack = stack; natives = m.natives; turns = m.turns }))
  began_steps m move stack world moved result is still same begins standing lowers stopped =
      let new : Progress T X = record { world = world; stack = stack; natives = m.natives; turns = m.turns } in
      let p : (T → Label) → List LabelledLine → ℕ → Plan = λ reading told turns. coming tables inputs set functions reading m.stack move (setting_of (waiting_steps tells asks m.natives) here) (state_of reading m.world told turns) in
      stepped_as made meaning_of store tables inputs set functions tells asks (λ reading told. perform (meaning tables inputs set functions) (p reading told m.turns)) (λ reading. remaining_run tables inputs set functions tells asks reading m move) (ahead m move) (ahead m move) new result
      (λ reading told read. ap (λ ns. perform (meaning tables inputs set functions) (coming tables inputs set functions reading m.stack move (setting_of ns here) (state_of reading m.world told m.turns))) (sym (steps_still tells asks m.natives move still))) refl
      (still_steps made meaning_of store tables inputs set functions tells asks p new (ahead m move) moved result is begins (still_behind made meaning_of store new (waiting m.stack.tasks) moved same standing) (lowers_move m.stack stack move m.turns moved lowers) stopped)

  -- a move that runs none, behind which one may run
  pub called_steps : (m : Progress T X) (move : Control) (stack : Kept T) (world : World T) (natives : States X) (moved : Result Control (FlowFault T)) (result : Result (Advance T) OutOfMemory) → result ≡ step_of moved → running move ≡ 0
      → Begins made meaning_of store tables inputs set functions (waiting_steps tells asks m.natives) (steps_behind tells asks natives moved) m.stack stack m.world world move moved
      → IfOk moved (λ n. Invariant made meaning_of store stack world (values_of n) (scopes_of stack.tasks) (length natives.states) n) → IfOk moved (Lowers m.stack move stack) → IfErr moved (IfStop (HasStop (made store)))
      → IfOk result (Stepped made meaning_of store tables inputs set functions tells asks (λ reading. remaining_run tables inputs set functions tells asks reading m move) (ahead m move) (record { world = world; stack = stack; natives = natives; turns = m.turns }))
  called_steps m move stack world natives moved result is still begins standing lowers stopped =
      let new : Progress T X = record { world = world; stack = stack; natives = natives; turns = m.turns } in
      let p : (T → Label) → List LabelledLine → ℕ → Plan = λ reading told turns. coming tables inputs set functions reading m.stack move (setting_of (waiting_steps tells asks m.natives) here) (state_of reading m.world told turns) in
      stepped_as made meaning_of store tables inputs set functions tells asks (λ reading told. perform (meaning tables inputs set functions) (p reading told m.turns)) (λ reading. remaining_run tables inputs set functions tells asks reading m move) (ahead m move) (ahead m move) new result
      (λ reading told read. ap (λ ns. perform (meaning tables inputs set functions) (coming tables inputs set functions reading m.stack move (setting_of ns here) (state_of reading m.world told m.turns))) (sym (steps_still tells asks m.natives move still))) refl
      (moved_steps made meaning_of store tables inputs set functions tells asks (steps_behind tells asks natives moved) p new (ahead m move) moved result is begins (left_at tells asks natives moved) standing (lowers_move m.stack stack move m.turns moved lowers) stopped)

  -- a part is entered, for a turn
  pub entered_steps : (m : Progress T X) (move : Control) (turns : ℕ) (stack : Kept T) (world : World T) (moved : Result Control (FlowFault T)) (result : Result (Advance T) OutOfMemory) → result ≡ still_step moved → enters_part move ≡ true → m.turns ≡ suc turns → length m.natives.states ≡ waiting m.stack.tasks
      → ((part : (T → Label) → Part) → ((reading : T → Label) → part_in (map (read_value reading) m.stack.loose) (setting_above m.stack.tasks (setting_of (waiting_steps tells asks m.natives) here)) move ≡ Some (part reading)) → Enters made meaning_of store tables inputs set functions (waiting_steps tells asks m.natives) m.stack stack m.world world part moved)
      → IfOk moved (StandsStill made meaning_of store (waiting m.stack.tasks) stack world) → IfOk moved (Adds 17 m.stack stack) → IfErr moved (IfStop (HasStop (made store)))
      → IfOk result (Stepped made meaning_of store tables inputs set functions tells asks (λ reading. remaining_run tables inputs set functions tells asks reading m move) (ahead m move) (record { world = world; stack = stack; natives = m.natives; turns = turns }))
  entered_steps m move turns stack world moved result is enters some same comes standing adds stopped =
      let new : Progress T X = record { world = world; stack = stack; natives = m.natives; turns = turns } in
      let natives = waiting_steps tells asks m.natives in
      let waits = steps_still tells asks m.natives move (enters_still move enters) in
      let wanted = asks_for tables inputs set functions move (setting_above m.stack.tasks (setting_of natives here)) enters in
      let p : (T → Label) → List LabelledLine → ℕ → Plan = λ reading told n. behind tables inputs set functions reading m.stack.tasks (setting_of natives here) (plan tables inputs set functions (wanted.part (map (read_value reading) m.stack.loose)) (state_of reading m.world told n)) in
      stepped_as made meaning_of store tables inputs set functions tells asks (λ reading told. perform (meaning tables inputs set functions) (p reading told turns)) (λ reading. remaining_run tables inputs set functions tells asks reading m move) (18 * (suc turns) + load m.stack.tasks + lift move) (ahead m move) new result
      (λ reading told read. entered_after tables inputs set functions tells asks reading m natives move waits wanted told turns some) (ap (λ n. 18 * n + load m.stack.tasks + lift move) (sym some))
      (still_steps made meaning_of store tables inputs set functions tells asks p new (18 * (suc turns) + load m.stack.tasks + lift move) moved result is
      (comes (λ reading. wanted.part (map (read_value reading) m.stack.loose)) (λ reading. wanted.is (map (read_value reading) m.stack.loose))) (still_behind made meaning_of store new (waiting m.stack.tasks) moved same standing) (lowers_turn m.stack stack move turns moved adds) stopped)

  -- without a turn the run ends
  pub spent_steps : (m : Progress T X) (move : Control) → enters_part move ≡ true → m.turns ≡ 0
      → Stepped made meaning_of store tables inputs set functions tells asks (λ reading. remaining_run tables inputs set functions tells asks reading m move) (ahead m move) m (advance.Ends ending.OutOfTurns)
  spent_steps m move enters none =
      let natives = waiting_steps tells asks m.natives in
      let waits = steps_still tells asks m.natives move (enters_still move enters) in
      let wanted = asks_for tables inputs set functions move (setting_above m.stack.tasks (setting_of natives here)) enters in
      ends_steps made meaning_of store tables inputs set functions tells asks (λ reading. remaining_run tables inputs set functions tells asks reading m move) m (ahead m move) ending.OutOfTurns tt
      (λ reading told. spent_alone tables inputs set functions tells asks reading m natives move waits wanted told none)

  -- work that was taken goes on with a completion, and no built-in runs behind it
  pub after_steps : (m : Progress T X) (w : Continuation) (c : (T → Label) → Completion) (move : Control) (stack : Kept T) (world : World T) (moved : Result Control (FlowFault T)) (result : Result (Advance T) OutOfMemory) → result ≡ still_step moved → lift move ≡ 6 → length m.natives.states ≡ waiting m.stack.tasks
      → Continues made meaning_of store tables inputs set functions c w (waiting_steps tells asks m.natives) (waiting_steps tells asks m.natives) m.stack stack m.world world moved
      → IfOk moved (StandsStill made meaning_of store (waiting m.stack.tasks) stack world) → IfOk moved (Adds (weight w + 5) m.stack stack) → IfErr moved (IfStop (HasStop (made store)))
      → IfOk result (Stepped made meaning_of store tables inputs set functions tells asks (λ reading. remaining_run_after tables inputs set functions tells asks reading m w (c reading)) (ahead m move + weight w) (record { world = world; stack = stack; natives = m.natives; turns = m.turns }))
  after_steps m w c move stack world moved result is six same continues standing adds stopped =
      let new : Progress T X = record { world = world; stack = stack; natives = m.natives; turns = m.turns } in
      let p : (T → Label) → List LabelledLine → ℕ → Plan = λ reading told turns. behind tables inputs set functions reading m.stack.tasks (setting_of (waiting_steps tells asks m.natives) here)
      (after tables inputs set functions w (map (read_value reading) (take (owns w) m.stack.loose)) (setting_above m.stack.tasks (setting_of (waiting_steps tells asks m.natives) here)) (c reading) (state_of reading m.world told turns)) in
      stepped_as made meaning_of store tables inputs set functions tells asks (λ reading told. perform (meaning tables inputs set functions) (p reading told m.turns)) (λ reading. remaining_run_after tables inputs set functions tells asks reading m w (c reading)) (18 * m.turns + load m.stack.tasks + 6 + weight w) (ahead m move + weight w) new result
      (λ reading told read. refl) (ap (λ n. 18 * m.turns + load m.stack.tasks + n + weight w) (sym six))
      (still_steps made meaning_of store tables inputs set functions tells asks p new (18 * m.turns + load m.stack.tasks + 6 + weight w) moved result is continues (still_behind made meaning_of store new (waiting m.stack.tasks) moved same standing) (lowers_by m.stack stack (weight w) m.turns moved adds) stopped)
