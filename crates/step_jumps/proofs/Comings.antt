-- Calls that go on with one plan and so with an equal one, also in front of work that was pushed.
use Rattle.std.proofs.Common.{Bor, refl, ap, subst, ◌∙◌, ◌≡◌, ℕ, List, [], ◌∷◌, ◌++◌, map, Result, Ok, Err, IfOk}
use Rattle.origin_labels.specs.Label.{Label}
use Rattle.flow_policy.specs.Policies.{Tables}
use Rattle.flow_policy.specs.Inputs.{Given}
use Rattle.flow_text.specs.declared.memory.OutOfMemory.{OutOfMemory}
use Rattle.flow_frames.specs.declared.faults.FlowFault.{FlowFault}
use Rattle.js_ast.specs.Functions.{FunctionCode}
use Rattle.js_values.specs.Readings.{IsReading, read_value}
use Rattle.js_ast.specs.declared.trees.Block.{Block}
use Rattle.js_ast.specs.Views.{view_block}
use Rattle.es_meaning.specs.BuiltIns.{BuiltIns}
use Rattle.flow_meaning.specs.Scopes.{LabelledLine, State, Val}
use Rattle.flow_meaning.specs.Planned.{Plan, and_plan}
use Rattle.run_state.specs.declared.world.World.{World}
use Rattle.run_state.specs.Worlds.{state_of}
use Rattle.continuations.specs.declared.continuation.Continuation.{Continuation}
use Rattle.continuations.specs.declared.continuation.Control.{Control}
use Rattle.continuations.specs.declared.continuation.Control.TheVariants as control
use Rattle.continuations.specs.Kept.{Kept}
use Rattle.continuations.specs.Moving.{Moves, Planning, BeginsWith, BeginsAt}
use Rattle.continuations.specs.Pending.{inside, setting_inside, setting_above, after, behind}
use Rattle.continuations.specs.Resuming.{Begins, BeginsBehind}
use Rattle.step_jumps.specs.Trying.{block_plan}
use Rattle.continuations.proofs.Behind.{behind_more, setting_more}
use Rattle.continuations.specs.Settings.{Setting}

-- a plan in front of values that lie loose
abbrev pub Beside : Type 0
Beside = Tables → Given → BuiltIns → List FunctionCode → List Val → Setting → State → Plan

module _ {S T : Type 0} (made : S → T → Type 0) (meaning : S → T → Label) (store : S) where
  -- two plans come to the same, each in its world
  abbrev pub Alike : Planning T → World T → Planning T → World T → Type 0
  Alike p v q w = (tables : Tables) (inputs : Given) (set : BuiltIns) (functions : List FunctionCode) (reading : T → Label) (f : Setting) (told : List LabelledLine) (turns : ℕ) → IsReading made meaning store reading
      → p tables inputs set functions reading f (state_of reading v told turns) ≡ q tables inputs set functions reading f (state_of reading w told turns)

  pub begins_from : (p q : Planning T) (old new : Kept T) (before middle later : World T) (result : Result Control (FlowFault T)) → Alike p middle q before
      → BeginsWith made meaning store p old new middle later result → BeginsWith made meaning store q old new before later result
  begins_from p q old new before middle later result same begins = λ tables inputs set functions reading e told turns read.
      subst (λ r. Moves tables inputs set functions reading new e (state_of reading later told turns) (behind tables inputs set functions reading old.tasks e r) result) (same tables inputs set functions reading (setting_above old.tasks e) told turns read) (begins tables inputs set functions reading e told turns read)

  pub begins_beside : (p : Beside) (q : Planning T) (old new : Kept T) (before later : World T) (move : Control)
      → Alike (λ tables inputs set functions reading. p tables inputs set functions (map (read_value reading) old.loose)) later q before
      → BeginsBehind p old new move → BeginsWith made meaning store q old new before later (Ok move)
  begins_beside p q old new before later move same begins = λ tables inputs set functions reading e told turns read.
      begins tables inputs set functions reading e (state_of reading later told turns)
      ∙ ap (behind tables inputs set functions reading old.tasks e) (same tables inputs set functions reading (setting_above old.tasks e) told turns read)

module _ {T : Type 0} where
  -- a part in front of work that was pushed with the values that lay loose
  pub pushed_beside : (p : Beside) (w : Continuation) (old middle new : Kept T) (result : Result Control OutOfMemory) → middle ≡ record { tasks = old.tasks ++ (w, old.loose) ∷ []; loose = [] }
      → IfOk result (BeginsBehind p middle new)
      → IfOk result (BeginsBehind (λ tables inputs set functions vs e s. and_plan (p tables inputs set functions [] (setting_inside w e) s) (after tables inputs set functions w vs e)) old new)
  pushed_beside p w old middle new (Ok move) is begins = λ tables inputs set functions reading e s.
      begins tables inputs set functions reading e s
      ∙ ap (λ k. behind tables inputs set functions reading k.tasks e (p tables inputs set functions (map (read_value reading) k.loose) (setting_above k.tasks e) s)) is
      ∙ ap (λ f. behind tables inputs set functions reading (old.tasks ++ (w, old.loose) ∷ []) e (p tables inputs set functions [] f s)) (setting_more old.tasks (w, old.loose) e)
      ∙ behind_more tables inputs set functions reading old.tasks (w, old.loose) e (p tables inputs set functions [] (setting_inside w (setting_above old.tasks e)) s)
  pushed_beside p w old middle new (Err fault) is begins = tt

  -- where no value lies loose
  pub begins_bare : (p : Tables → Given → BuiltIns → List FunctionCode → Setting → State → Plan) (old new : Kept T) (result : Result Control OutOfMemory) → old.loose ≡ []
      → IfOk result (Begins p old new) → IfOk result (BeginsBehind (λ tables inputs set functions vs. p tables inputs set functions) old new)
  begins_bare p old new (Ok move) none begins = λ tables inputs set functions reading e s. begins tables inputs set functions reading e s none
  begins_bare p old new (Err fault) none begins = tt

  pub pushed_begins : (p : Tables → Given → BuiltIns → List FunctionCode → Setting → State → Plan) (w : Continuation) (old middle new : Kept T) (result : Result Control OutOfMemory) → middle ≡ record { tasks = old.tasks ++ (w, old.loose) ∷ []; loose = [] }
      → IfOk result (Begins p middle new)
      → IfOk result (BeginsBehind (λ tables inputs set functions vs e s. and_plan (p tables inputs set functions (setting_inside w e) s) (after tables inputs set functions w vs e)) old new)
  pushed_begins p w old middle new result is begins = pushed_beside (λ tables inputs set functions vs. p tables inputs set functions) w old middle new result is (begins_bare p middle new result (ap (λ k. k.loose) is) begins)

  -- another plan that is equal
  pub beside_as : (p q : Beside) (old new : Kept T) (result : Result Control OutOfMemory)
      → ((tables : Tables) (inputs : Given) (set : BuiltIns) (functions : List FunctionCode) (vs : List Val) (f : Setting) (s : State) → p tables inputs set functions vs f s ≡ q tables inputs set functions vs f s)
      → IfOk result (BeginsBehind p old new) → IfOk result (BeginsBehind q old new)
  beside_as p q old new (Ok move) same begins = λ tables inputs set functions reading e s.
      begins tables inputs set functions reading e s ∙ ap (behind tables inputs set functions reading old.tasks e) (same tables inputs set functions (map (read_value reading) old.loose) (setting_above old.tasks e) s)
  beside_as p q old new (Err fault) same begins = tt

  -- a block of a `try` statement, behind new work
  pub block_begins : (b : Bor Block) (w : Continuation) (old middle : Kept T) → middle ≡ record { tasks = old.tasks ++ (w, old.loose) ∷ []; loose = [] }
      → BeginsBehind (λ tables inputs set functions vs e s. and_plan (block_plan tables inputs set functions (view_block b.now) (inside w e.env) s) (after tables inputs set functions w vs e)) old middle (control.Block b)
  block_begins b w old middle is =
      pushed_begins (λ tables inputs set functions e. block_plan tables inputs set functions (view_block b.now) e.env) w old middle middle (Ok (control.Block b)) is (λ tables inputs set functions reading e s none. refl)

module _ {S T : Type 0} (made : S → T → Type 0) (meaning : S → T → Label) (store : S) where
  -- the same in one record
  pub begins_at : (place : ℕ) (p q : Planning T) (old new : Kept T) (before middle later : World T) (result : Result Control (FlowFault T)) → Alike made meaning store p middle q before
      → BeginsAt made meaning store place p old new middle later result → BeginsAt made meaning store place q old new before later result
  begins_at place p q old new before middle later result same begins = λ tables inputs set functions reading e told turns read there.
      subst (λ r. Moves tables inputs set functions reading new e (state_of reading later told turns) (behind tables inputs set functions reading old.tasks e r) result) (same tables inputs set functions reading (setting_above old.tasks e) told turns read) (begins tables inputs set functions reading e told turns read there)

  pub begins_anywhere : (place : ℕ) (p q : Planning T) (old new : Kept T) (before later : World T) (result : Result Control (FlowFault T)) → Alike made meaning store p before q before
      → BeginsWith made meaning store p old new before later result → BeginsAt made meaning store place q old new before later result
  begins_anywhere place p q old new before later result same begins = λ tables inputs set functions reading e told turns read there.
      subst (λ r. Moves tables inputs set functions reading new e (state_of reading later told turns) (behind tables inputs set functions reading old.tasks e r) result) (same tables inputs set functions reading (setting_above old.tasks e) told turns read) (begins tables inputs set functions reading e told turns read)
