-- The part that a machine enters.
use Rattle.std.specs.Prelude.{◌≡◌, ℕ, List, [], Option, Some, None, Result}
use Rattle.origin_labels.specs.Label.{Label}
use Rattle.flow_policy.specs.Policies.{Tables}
use Rattle.flow_policy.specs.Inputs.{Given}
use Rattle.js_ast.specs.Functions.{FunctionCode}
use Rattle.flow_frames.specs.declared.faults.FlowFault.{FlowFault}
use Rattle.js_ast.specs.Trees.{block}
use Rattle.js_ast.specs.Views.{view_block, view_expr, view_stmt}
use Rattle.native_protocol.specs.Steps.{Steps}
use Rattle.es_meaning.specs.BuiltIns.{BuiltIns}
use Rattle.flow_meaning.specs.Scopes.{Val}
use Rattle.flow_meaning.specs.Planned.{Part, an_expr, a_use, a_stmt, a_named, a_turn, a_visit, a_request, plan}
use Rattle.run_state.specs.declared.world.World.{World}
use Rattle.run_state.specs.Worlds.{state_of}
use Rattle.continuations.specs.declared.continuation.Control.{Control}
use Rattle.continuations.specs.declared.continuation.Control.TheVariants as control
use Rattle.continuations.specs.Kept.{Kept, scopes_of}
use Rattle.continuations.specs.Pending.{behind, values_of, visit_of}
use Rattle.continuations.specs.Settings.{Setting, outermost_steps, setting_of}
use Rattle.continuations.specs.Shapes.{behind_labels, passed_labels, use_of, round_of}
use Rattle.continuations.specs.Going.{ComesTo, here}
use Rattle.continuations.specs.Invariant.{Invariant, running}

-- the part that a next move enters, with the values that no work keeps, if it does: that costs a turn
abbrev pub part_in : List Val → Setting → Control → Option Part
part_in vs e (control.Expr x) = Some (an_expr (view_expr x.now) e.env.place)
part_in vs e (control.Use how x) = Some (a_use (use_of how vs) (view_expr x.now) e.env.place)
part_in vs e (control.Stmt x) = Some (a_stmt (view_stmt x.now) e.env)
part_in vs e (control.Block x) = Some (a_stmt (block (view_block x.now)) e.env)
part_in vs e (control.Named x n) = Some (a_named (passed_labels n [] (view_stmt x.now)) (behind_labels n (view_stmt x.now)) e.env)
part_in vs e (control.Turn r) = Some (a_turn (round_of r) e.env)
part_in vs e (control.Visit x count) = Some (a_visit (visit_of x count vs) e.env)
part_in vs e (control.Request count) = Some (a_request (outermost_steps e.natives) vs)
part_in vs e _ = None

module _ {S T : Type 0} (made : S → T → Type 0) (meaning : S → T → Label) (store : S) (tables : Tables) (inputs : Given) (set : BuiltIns) (functions : List FunctionCode) where
  -- a part was entered, by a reading: what waits comes behind its plan. The built-ins that wait stay
  abbrev pub Enters : List Steps → Kept T → Kept T → World T → World T → ((T → Label) → Part) → Result Control (FlowFault T) → Type 0
  Enters natives old new world_old world_new part = ComesTo made meaning store tables inputs set functions natives (λ reading told turns. behind tables inputs set functions reading old.tasks (setting_of natives here) (plan tables inputs set functions (part reading) (state_of reading world_old told turns))) new world_new

-- where no built-in is to run next, a run stands whose next move is this, with so many built-ins that wait
abbrev pub StandsStill : {S T : Type 0} → (S → T → Type 0) → (S → T → Label) → S → ℕ → Kept T → World T → Control → Type 0
StandsStill made meaning store natives stack world move = running move ≡ 0 → Invariant made meaning store stack world (values_of move) (scopes_of stack.tasks) natives move
