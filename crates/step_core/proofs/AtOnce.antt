-- An expression that was evaluated at once.
use Rattle.std.proofs.Common.{sym, ap, ap₂, subst, append-nil, ◌∙◌, ◌≡◌, ℕ, List, [], ◌∷◌, ◌++◌, map, length, Bool, Result, IfOk, refl, arith}
use Rattle.std.specs.List.{All}
use Rattle.std.proofs.lemmas.List.{nil_from_length}
use Rattle.std.proofs.lemmas.List.Elements.{All-push}
use Rattle.std.specs.Borrow.{Bor}
use Rattle.origin_labels.specs.Label.{Label, IsLabel}
use Rattle.origin_labels.specs.Stores.{IsKept}
use Rattle.flow_policy.specs.Policies.{Tables}
use Rattle.flow_policy.specs.Inputs.{Given}
use Rattle.js_ast.specs.Functions.{FunctionCode}
use Rattle.js_ast.specs.declared.trees.Expr.{Expr}
use Rattle.js_ast.specs.declared.trees.Stmt.{Stmt}
use Rattle.js_ast.specs.Views.{view_expr, view_stmt}
use Rattle.js_values.specs.declared.value.Labelled.{Labelled}
use Rattle.js_values.specs.Readings.{HasValue, read_value}
use Rattle.native_protocol.specs.declared.request.Answer.{Answer}
use Rattle.native_protocol.specs.declared.request.Request.{Request}
use Rattle.es_meaning.specs.BuiltIns.{BuiltIns}
use Rattle.es_meaning.specs.Outcomes.{Goes}
use Rattle.es_meaning.specs.Plain.{undefined}
use Rattle.flow_meaning.specs.Erased.{unlabelled}
use Rattle.flow_meaning.specs.Scopes.{LabelledLine, State}
use Rattle.flow_meaning.specs.Planned.{Ask, Completion, Give, a_stmt, an_expr, and_go, gave, meaning, perform}
use Rattle.flow_meaning.proofs.Performing.{perform_asked}
use Rattle.run_state.specs.declared.world.World.{World}
use Rattle.run_state.specs.Worlds.{Grows, state_of}
use Rattle.run_state.proofs.ActLaws.{Belongs-later, Grows-refl}
use Rattle.continuations.specs.declared.continuation.Control.{Control}
use Rattle.continuations.specs.declared.continuation.Control.TheVariants as control
use Rattle.continuations.specs.Kept.{Kept, kept_operands, operands_of, scopes_of, waiting}
use Rattle.continuations.specs.Loads.{load}
use Rattle.continuations.specs.Pending.{behind, env_above, setting_above, first_or_undefined}
use Rattle.continuations.specs.Moving.{Rests}
use Rattle.continuations.specs.Settings.{Setting, setting_of}
use Rattle.step_natives.specs.States.{waiting_steps}
use Rattle.step_numbers.specs.Assigned.{Finishes, Gives, Rebinds}
use Rattle.step_numbers.specs.Evaluated.{Evaluates}
use Rattle.step_core.specs.declared.progress.Progress.{Progress}
use Rattle.flow_text.specs.declared.memory.OutOfMemory.{OutOfMemory}
use Rattle.step_core.specs.declared.steps.Advance.{Advance}
use Rattle.step_core.specs.declared.steps.Advance.TheVariants as advance
use Rattle.step_core.specs.RemainingRun.{ahead, remaining_run}
use Rattle.continuations.specs.Going.{here}
use Rattle.continuations.specs.Invariant.{Invariant}
use Rattle.step_core.specs.Stepping.{StandsBefore, Stepped}
use Rattle.step_core.proofs.Continued.{env_of}
use Rattle.step_core.proofs.Performed.{perform_behind}
use Rattle.step_core.proofs.Parts.{later_values}
use Rattle.step_core.proofs.Stood.{standing_rests, standing_whole}

module _ {T X : Type 0} (tables : Tables) (inputs : Given) (set : BuiltIns) (functions : List FunctionCode) (tells : X → Answer → X) (asks : X → Request) (reading : T → Label) (told : List LabelledLine) (m : Progress T X) (at : ℕ) (place : (env_above m.stack.tasks here).place ≡ at) (new : World T) (left : ℕ) where
  -- all built-ins wait
  abbrev rest_here : Setting
  rest_here = setting_of (waiting_steps tells asks m.natives) here

  placed : (setting_above m.stack.tasks rest_here).env.place ≡ at
  placed = ap (λ e. e.place) (env_of m.stack.tasks rest_here) ∙ place

  -- its value is handed on, with so many turns left
  handed_on : (x : Bor Expr) (stack : Kept T) (v : Labelled T) → m.stack.loose ≡ [] → stack.tasks ≡ m.stack.tasks → stack.loose ≡ m.stack.loose ++ v ∷ []
      → meaning tables inputs set functions (an_expr (view_expr x.now) at) (state_of reading m.world told m.turns) ≡ Goes (read_value reading v) (state_of reading new told left)
      → remaining_run tables inputs set functions tells asks reading m (control.Expr x) told ≡ remaining_run tables inputs set functions tells asks reading (record { world = new; stack = stack; natives = m.natives; turns = left }) control.Value told
  unfolding and_go
  handed_on x stack v none tasks laid comes =
      let M = meaning tables inputs set functions in
      let s = state_of reading m.world told m.turns in
      let rest : Completion → State → _ = λ c t. perform M (behind tables inputs set functions reading m.stack.tasks rest_here (Give c t)) in
      perform_behind tables inputs set functions reading M m.stack.tasks rest_here (Ask (an_expr (view_expr x.now) (setting_above m.stack.tasks rest_here).env.place) s Give)
      ∙ ap (λ o. and_go o rest) (perform_asked M (an_expr (view_expr x.now) (setting_above m.stack.tasks rest_here).env.place) s)
      ∙ ap (λ i. and_go (M (an_expr (view_expr x.now) i) s) rest) placed
      ∙ ap (λ o. and_go o rest) comes
      ∙ ap (λ ts. perform M (behind tables inputs set functions reading ts rest_here (Give (gave (read_value reading v)) (state_of reading new told left)))) (sym tasks)
      ∙ ap (λ vs. perform M (behind tables inputs set functions reading stack.tasks rest_here (Give (gave (first_or_undefined (map (read_value reading) vs))) (state_of reading new told left)))) (sym (laid ∙ ap (λ vs. vs ++ v ∷ []) none))

  -- a statement came to its end, with so many turns left
  finished_on : (x : Bor Stmt) → meaning tables inputs set functions (a_stmt (view_stmt x.now) (env_above m.stack.tasks here)) (state_of reading m.world told m.turns) ≡ Goes (unlabelled undefined) (state_of reading new told left)
      → remaining_run tables inputs set functions tells asks reading m (control.Stmt x) told ≡ remaining_run tables inputs set functions tells asks reading (record { world = new; stack = m.stack; natives = m.natives; turns = left }) control.Done told
  unfolding and_go
  finished_on x comes =
      let M = meaning tables inputs set functions in
      let s = state_of reading m.world told m.turns in
      let rest : Completion → State → _ = λ c t. perform M (behind tables inputs set functions reading m.stack.tasks rest_here (Give c t)) in
      perform_behind tables inputs set functions reading M m.stack.tasks rest_here (Ask (a_stmt (view_stmt x.now) (setting_above m.stack.tasks rest_here).env) s Give)
      ∙ ap (λ o. and_go o rest) (perform_asked M (a_stmt (view_stmt x.now) (setting_above m.stack.tasks rest_here).env) s)
      ∙ ap (λ e. and_go (M (a_stmt (view_stmt x.now) e) s) rest) (env_of m.stack.tasks rest_here)
      ∙ ap (λ o. and_go o rest) comes

-- a value that was laid, and nothing
module _ {T : Type 0} (made : T → Type 0) where
  value_rests : (old new : Kept T) (v : Labelled T) → length old.loose ≡ 0 → new.tasks ≡ old.tasks → new.loose ≡ old.loose ++ v ∷ [] → made v.label → Rests made old new control.Value
  value_rests old new v none tasks laid has =
      let alone : new.loose ≡ v ∷ [] = laid ∙ ap (λ vs. vs ++ v ∷ []) (nil_from_length old.loose none) in
      record {
        values = ap length alone;
        scopes = ap scopes_of tasks;
        natives = ap waiting tasks;
        operands = λ all. subst (All (HasValue made)) (sym (ap₂ (λ ts vs. kept_operands ts ++ vs) tasks alone)) (All-push (HasValue made) (kept_operands old.tasks) v all has);
      }

  done_rests : (old : Kept T) → length old.loose ≡ 0 → Rests made old old control.Done
  done_rests old none = record {
    values = none;
    scopes = refl;
    natives = refl;
    operands = λ all. subst (All (HasValue made)) (sym (ap (λ vs. kept_operands old.tasks ++ vs) (nil_from_length old.loose none) ∙ append-nil (kept_operands old.tasks))) all;
  }

module _ {S T : Type 0} (made : S → T → Type 0) (meaning_of : S → T → Label) (room : S → ℕ) (firm : S → Bool) (earlier later : S) (kept : IsKept made meaning_of room firm earlier later) (rising : (store : S) (label : T) → made store label → IsLabel (meaning_of store label)) where
  -- the machine stands in the later store
  pub stands_later : (stack : Kept T) (world : World T) (pending : List ℕ) (count natives : ℕ) (move : Control) → Invariant made meaning_of earlier stack world count pending natives move → Invariant made meaning_of later stack world count pending natives move
  stands_later stack world pending count natives move stands = record {
    belongs = Belongs-later made meaning_of room firm earlier later kept rising world stands.belongs;
    operands = later_values made meaning_of room firm earlier later kept (operands_of stack) stands.operands;
    values = stands.values;
    scopes = stands.scopes;
    frames = stands.frames;
    records = stands.records;
    natives = stands.natives;
  }

  -- a step that hands its value on
  pub evaluated_steps : (tables : Tables) (inputs : Given) {X : Type 0} (set : BuiltIns) (functions : List FunctionCode) (tells : X → Answer → X) (asks : X → Request) (m : Progress T X) (at : ℕ) (place : (env_above m.stack.tasks here).place ≡ at) (x : Bor Expr) (stack : Kept T) (v : Labelled T) (left : ℕ) → StandsBefore made meaning_of earlier m (control.Expr x)
      → stack.tasks ≡ m.stack.tasks → stack.loose ≡ m.stack.loose ++ v ∷ [] → Evaluates made meaning_of later (view_expr x.now) at m.world m.turns v left
      → Stepped made meaning_of later tables inputs set functions tells asks (λ reading. remaining_run tables inputs set functions tells asks reading m (control.Expr x)) (ahead m (control.Expr x)) (record { world = m.world; stack = stack; natives = m.natives; turns = left }) (advance.Goes control.Value)
  evaluated_steps tables inputs set functions tells asks m at place x stack v left stands tasks laid evaluates = record {
    comes = λ reading told read. handed_on tables inputs set functions tells asks reading told m at place m.world left x stack v (nil_from_length m.stack.loose stands.values) tasks laid (evaluates.comes tables inputs set functions reading told read);
    standing = standing_rests made meaning_of room firm earlier later kept m.stack stack m.world m.world control.Value
        (standing_whole made meaning_of earlier m.stack m.world (scopes_of m.stack.tasks) (control.Expr x) (λ frames scopes whole. whole) refl stands) (value_rests (made later) m.stack stack v stands.values tasks laid evaluates.labelled)
        refl (Belongs-later made meaning_of room firm earlier later kept rising m.world stands.belongs) (Grows-refl m.world) refl;
    lowers = let fewer = evaluates.fewer in let same : load stack.tasks ≡ load m.stack.tasks = ap load tasks in omega (arith, fewer, same);
    printed = tt;
    stopped = tt;
  }

  -- a step that hands on what was assigned
  pub assigned_steps : (tables : Tables) (inputs : Given) {X : Type 0} (set : BuiltIns) (functions : List FunctionCode) (tells : X → Answer → X) (asks : X → Request) (m : Progress T X) (at : ℕ) (place : (env_above m.stack.tasks here).place ≡ at) (new : World T) (x : Bor Expr) (stack : Kept T) (v : Labelled T) (left : ℕ) → StandsBefore made meaning_of earlier m (control.Expr x)
      → stack.tasks ≡ m.stack.tasks → stack.loose ≡ m.stack.loose ++ v ∷ [] → Gives made meaning_of later (view_expr x.now) at m.world new m.turns v left → Rebinds made meaning_of later m.world new
      → Stepped made meaning_of later tables inputs set functions tells asks (λ reading. remaining_run tables inputs set functions tells asks reading m (control.Expr x)) (ahead m (control.Expr x)) (record { world = new; stack = stack; natives = m.natives; turns = left }) (advance.Goes control.Value)
  assigned_steps tables inputs set functions tells asks m at place new x stack v left stands tasks laid gives rebinds = record {
    comes = λ reading told read. handed_on tables inputs set functions tells asks reading told m at place new left x stack v (nil_from_length m.stack.loose stands.values) tasks laid (gives.comes tables inputs set functions reading told read);
    standing = standing_rests made meaning_of room firm earlier later kept m.stack stack m.world new control.Value
        (standing_whole made meaning_of earlier m.stack m.world (scopes_of m.stack.tasks) (control.Expr x) (λ frames scopes whole. whole) refl stands) (value_rests (made later) m.stack stack v stands.values tasks laid gives.labelled)
        (ap (λ f. length f.frames) rebinds.frames) rebinds.belongs rebinds.grows refl;
    lowers = let fewer = gives.fewer in let same : load stack.tasks ≡ load m.stack.tasks = ap load tasks in omega (arith, fewer, same);
    printed = tt;
    stopped = tt;
  }

  -- a step by which a statement comes to its end
  pub finished_steps : (tables : Tables) (inputs : Given) {X : Type 0} (set : BuiltIns) (functions : List FunctionCode) (tells : X → Answer → X) (asks : X → Request) (m : Progress T X) (at : ℕ) (place : (env_above m.stack.tasks here).place ≡ at) (new : World T) (x : Bor Stmt) (left : ℕ) → StandsBefore made meaning_of earlier m (control.Stmt x)
      → Finishes made meaning_of later (view_stmt x.now) at m.world new m.turns left → Rebinds made meaning_of later m.world new
      → Stepped made meaning_of later tables inputs set functions tells asks (λ reading. remaining_run tables inputs set functions tells asks reading m (control.Stmt x)) (ahead m (control.Stmt x)) (record { world = new; stack = m.stack; natives = m.natives; turns = left }) (advance.Goes control.Done)
  finished_steps tables inputs set functions tells asks m at place new x left stands finishes rebinds = record {
    comes = λ reading told read. finished_on tables inputs set functions tells asks reading told m at place new left x (finishes.comes tables inputs set functions (env_above m.stack.tasks here) reading told place read);
    standing = standing_rests made meaning_of room firm earlier later kept m.stack m.stack m.world new control.Done
        (standing_whole made meaning_of earlier m.stack m.world (scopes_of m.stack.tasks) (control.Stmt x) (λ frames scopes whole. whole) refl stands) (done_rests (made later) m.stack stands.values)
        (ap (λ f. length f.frames) rebinds.frames) rebinds.belongs rebinds.grows refl;
    lowers = let fewer = finishes.fewer in omega (arith, fewer);
    printed = tt;
    stopped = tt;
  }

  -- nothing was done, and the machine stands in the later store
  pub stands_unchanged : (stack : Kept T) (world same : World T) (pending : List ℕ) (count natives : ℕ) (move : Control) → same ≡ world → Invariant made meaning_of earlier stack world count pending natives move → Invariant made meaning_of later stack same count pending natives move
  stands_unchanged stack world same pending count natives move is stands = subst (λ w. Invariant made meaning_of later stack w count pending natives move) (sym is) (stands_later stack world pending count natives move stands)

-- the machine is the same where its world is
pub unchanged_steps : {S T X : Type 0} (made : S → T → Type 0) (meaning_of : S → T → Label) (store : S) (tables : Tables) (inputs : Given) (set : BuiltIns) (functions : List FunctionCode) (tells : X → Answer → X) (asks : X → Request) (m new : Progress T X) (same : World T) (move : Control) (result : Result (Advance T) OutOfMemory) → same ≡ m.world
    → IfOk result (Stepped made meaning_of store tables inputs set functions tells asks (λ reading. remaining_run tables inputs set functions tells asks reading (record { world = same; stack = m.stack; natives = m.natives; turns = m.turns }) move) (ahead (record { world = same; stack = m.stack; natives = m.natives; turns = m.turns }) move) new)
    → IfOk result (Stepped made meaning_of store tables inputs set functions tells asks (λ reading. remaining_run tables inputs set functions tells asks reading m move) (ahead m move) new)
unchanged_steps made meaning_of store tables inputs set functions tells asks m new same move result is stepped =
    subst (λ w. IfOk result (Stepped made meaning_of store tables inputs set functions tells asks (λ reading. remaining_run tables inputs set functions tells asks reading (record { world = w; stack = m.stack; natives = m.natives; turns = m.turns }) move) (ahead (record { world = w; stack = m.stack; natives = m.natives; turns = m.turns }) move) new)) is stepped

pub unchanged_grows : {T : Type 0} (world same new : World T) → same ≡ world → Grows same new → Grows world new
unchanged_grows world same new is grows = subst (λ w. Grows w new) is grows

-- nothing was done at once, and the machine is the same
pub undone_steps : {S T X : Type 0} (made : S → T → Type 0) (meaning_of : S → T → Label) (store : S) (tables : Tables) (inputs : Given) (set : BuiltIns) (functions : List FunctionCode) (tells : X → Answer → X) (asks : X → Request) (m same new : Progress T X) (move : Control) (result : Result (Advance T) OutOfMemory) → same ≡ m
    → IfOk result (Stepped made meaning_of store tables inputs set functions tells asks (λ reading. remaining_run tables inputs set functions tells asks reading same move) (ahead same move) new)
    → IfOk result (Stepped made meaning_of store tables inputs set functions tells asks (λ reading. remaining_run tables inputs set functions tells asks reading m move) (ahead m move) new)
undone_steps made meaning_of store tables inputs set functions tells asks m same new move result is stepped =
    subst (λ p. IfOk result (Stepped made meaning_of store tables inputs set functions tells asks (λ reading. remaining_run tables inputs set functions tells asks reading p move) (ahead p move) new)) is stepped

pub undone_stands : {S T X : Type 0} (made : S → T → Type 0) (meaning_of : S → T → Label) (store : S) (m same : Progress T X) (move : Control) → same ≡ m → StandsBefore made meaning_of store m move → StandsBefore made meaning_of store same move
undone_stands made meaning_of store m same move is stands = subst (λ p. StandsBefore made meaning_of store p move) (sym is) stands
