-- Calls that come to a machine's plan.
use Rattle.std.proofs.Common.{sym, ap, subst, ◌∙◌, ◌≡◌, ◌≤◌, ◌<◌, ℕ, [], ◌∷◌, ◌++◌, length, map, take, drop, Some, Result, Ok, Err, IfOk, arith, List}
use Rattle.std.proofs.lemmas.List.{nil_from_length, take-append-drop}
use Rattle.origin_labels.specs.Label.{Label}
use Rattle.flow_policy.specs.Policies.{Tables}
use Rattle.flow_policy.specs.Inputs.{Given}
use Rattle.js_ast.specs.Functions.{FunctionCode}
use Rattle.flow_frames.specs.Held as held
use Rattle.flow_frames.specs.declared.faults.FlowFault.{FlowFault}
use Rattle.js_values.specs.declared.value.Labelled.{Labelled}
use Rattle.js_values.specs.Readings.{read_value}
use Rattle.native_protocol.specs.Steps.{Steps}
use Rattle.es_meaning.specs.BuiltIns.{BuiltIns}
use Rattle.flow_meaning.specs.Scopes.{State}
use Rattle.flow_meaning.specs.Planned.{Part, Plan, jumped, plan}
use Rattle.run_state.specs.declared.world.World.{World}
use Rattle.run_state.specs.Worlds.{state_of}
use Rattle.continuations.specs.declared.continuation.Continuation.{Continuation}
use Rattle.continuations.specs.declared.continuation.Control.{Control}
use Rattle.continuations.specs.Kept.{Kept}
use Rattle.continuations.specs.Loads.{Adds, lift}
use Rattle.continuations.specs.Pending.{owns, setting_above, after, behind}
use Rattle.continuations.specs.Settings.{Setting, setting_of}
use Rattle.continuations.specs.Resuming.{Begins, BeginsIn, Passes, PassesIn}
use Rattle.continuations.specs.Moving.{BeginsAnywhere, Moves}
use Rattle.continuations.specs.Going.{ComesTo, Lowers}
use Rattle.continuations.specs.Going as going
use Rattle.continuations.specs.Shapes.{jump_of}
use Rattle.continuations.specs.declared.continuation.Jump.{Jump}
use Rattle.step_core.specs.Going.{Enters, part_in}
use Rattle.continuations.specs.Going.{here}

-- ---- moves

module _ {T : Type 0} where
  -- a call that adds less than the move counted
  pub lowers : (old new : Kept T) (move : Control) (n : ℕ) (result : Result Control (FlowFault T)) → n < lift move → IfOk result (Adds n old new) → IfOk result (Lowers old move new)
  lowers old new move n (Ok behind) less adds = omega (arith, less, adds)
  lowers old new move n (Err f) less adds = tt

  pub adds_more : (old new : Kept T) (m n : ℕ) (result : Result Control (FlowFault T)) → m ≤ n → IfOk result (Adds m old new) → IfOk result (Adds n old new)
  adds_more old new m n (Ok behind) less adds = omega (arith, less, adds)
  adds_more old new m n (Err f) less adds = tt

-- ---- a call comes to what a plan says of the state before it

module _ {S T : Type 0} (made : S → T → Type 0) (meaning : S → T → Label) (store : S) (tables : Tables) (inputs : Given) (set : BuiltIns) (functions : List FunctionCode) (natives : List Steps) where
  -- by a clause without the run's state
  pub comes_begun : (begins : Tables → Given → BuiltIns → List FunctionCode → Setting → State → Plan) (planned : (T → Label) → State → Plan) (old new : Kept T) (world : World T) (move : Control)
      → ((reading : T → Label) (s : State) → begins tables inputs set functions (setting_above old.tasks (setting_of natives here)) s ≡ planned reading s)
      → length old.loose ≡ 0 → Begins begins old new move
      → ComesTo made meaning store tables inputs set functions natives (λ reading told turns. behind tables inputs set functions reading old.tasks (setting_of natives here) (planned reading (state_of reading world told turns))) new world (Ok move)
  comes_begun begins planned old new world move same none goes reading told turns read =
      goes tables inputs set functions reading (setting_of natives here) (state_of reading world told turns) (nil_from_length old.loose none) ∙ ap (behind tables inputs set functions reading old.tasks (setting_of natives here)) (same reading (state_of reading world told turns))

  pub comes_anywhere : (begins : Tables → Given → BuiltIns → List FunctionCode → Setting → State → Plan) (planned : (T → Label) → State → Plan) (old new : Kept T) (world : World T) (move : Control)
      → ((reading : T → Label) (s : State) → begins tables inputs set functions (setting_above old.tasks (setting_of natives here)) s ≡ planned reading s)
      → BeginsAnywhere made meaning store begins old new move
      → ComesTo made meaning store tables inputs set functions natives (λ reading told turns. behind tables inputs set functions reading old.tasks (setting_of natives here) (planned reading (state_of reading world told turns))) new world (Ok move)
  comes_anywhere begins planned old new world move same goes reading told turns read =
      goes tables inputs set functions reading (setting_of natives here) (state_of reading world told turns) read ∙ ap (behind tables inputs set functions reading old.tasks (setting_of natives here)) (same reading (state_of reading world told turns))

  -- by one on the frames
  pub comes_in : (begins : Tables → Given → BuiltIns → List FunctionCode → Setting → State → Plan) (planned : (T → Label) → State → Plan) (old new : Kept T) (world : World T) (frames : held.Kept T) (move : Control)
      → ((reading : T → Label) (s : State) → begins tables inputs set functions (setting_above old.tasks (setting_of natives here)) s ≡ planned reading s)
      → length old.loose ≡ 0 → BeginsIn made meaning store begins old new world.frames.frames frames.frames move
      → ComesTo made meaning store tables inputs set functions natives (λ reading told turns. behind tables inputs set functions reading old.tasks (setting_of natives here) (planned reading (state_of reading world told turns))) new (record world { frames = frames }) (Ok move)
  comes_in begins planned old new world frames move same none goes reading told turns read =
      goes tables inputs set functions reading (setting_of natives here) (state_of reading world told turns) read (nil_from_length old.loose none) ∙ ap (behind tables inputs set functions reading old.tasks (setting_of natives here)) (same reading (state_of reading world told turns))

  -- a part was entered that a move enters
  pub entered_by : (old new : Kept T) (world_old world_new : World T) (move : Control) (entered part : (T → Label) → Part) (result : Result Control (FlowFault T))
      → ((reading : T → Label) → part_in (map (read_value reading) old.loose) (setting_above old.tasks (setting_of natives here)) move ≡ Some (entered reading))
      → ((reading : T → Label) → part_in (map (read_value reading) old.loose) (setting_above old.tasks (setting_of natives here)) move ≡ Some (part reading))
      → Enters made meaning store tables inputs set functions natives old new world_old world_new entered result → Enters made meaning store tables inputs set functions natives old new world_old world_new part result
  entered_by old new world_old world_new move entered part result enters is comes reading told turns read =
      let same : Some (entered reading) ≡ Some (part reading) = sym (enters reading) ∙ is reading in
      let part_same : entered reading ≡ part reading = cc in
      subst (λ p. Moves tables inputs set functions reading new (setting_of natives here) (state_of reading world_new told turns) (behind tables inputs set functions reading old.tasks (setting_of natives here) (plan tables inputs set functions p (state_of reading world_old told turns))) result) part_same (comes reading told turns read)

  -- a jump passes work
  pub comes_passed : (j : Jump) (w : Continuation) (value : Labelled T) (old new : Kept T) (world : World T) (move : Control) → Passes j w old new move → drop (owns w) old.loose ≡ value ∷ []
      → going.Passes made meaning store tables inputs set functions j w value natives natives old new world world (Ok move)
  comes_passed j w value old new world move goes alone reading told turns read =
      goes tables inputs set functions reading (setting_of natives here) (state_of reading world told turns) (take (owns w) old.loose) value (sym (take-append-drop (owns w) old.loose) ∙ ap (λ vs. take (owns w) old.loose ++ vs) alone)

  -- or comes to the end of its scope
  pub comes_passed_in : (j : Jump) (w : Continuation) (value : Labelled T) (old new : Kept T) (world : World T) (frames : held.Kept T) (move : Control) → PassesIn made meaning store j w old new world.frames.frames frames.frames move → old.loose ≡ value ∷ []
      → ComesTo made meaning store tables inputs set functions natives (λ reading told turns. behind tables inputs set functions reading old.tasks (setting_of natives here) (after tables inputs set functions w [] (setting_above old.tasks (setting_of natives here)) (jumped (jump_of j (read_value reading value))) (state_of reading world told turns))) new (record world { frames = frames }) (Ok move)
  comes_passed_in j w value old new world frames move goes alone reading told turns read = goes tables inputs set functions reading (setting_of natives here) (state_of reading world told turns) value read alone
