-- What a call comes to that does something in the frame of a `try` statement.
use Rattle.std.specs.Prelude.{◌≡◌, ℕ, List, [], ◌∷◌, ◌++◌, map, Option}
use Rattle.origin_labels.specs.Label.{Label}
use Rattle.flow_policy.specs.Policies.{Tables}
use Rattle.flow_policy.specs.Inputs.{Given}
use Rattle.js_ast.specs.Functions.{FunctionCode}
use Rattle.js_ast.specs.Trees.{Ident, Block, Statement, block}
use Rattle.js_values.specs.declared.value.Labelled.{Labelled}
use Rattle.js_values.specs.Readings.{read_value}
use Rattle.es_meaning.specs.Environments.{Env}
use Rattle.es_meaning.specs.Evaluation.{handled}
use Rattle.es_meaning.specs.Plain.{undefined}
use Rattle.es_meaning.specs.BuiltIns.{BuiltIns}
use Rattle.flow_meaning.specs.Erased.{unlabelled}
use Rattle.flow_meaning.specs.Scopes.{State, caught}
use Rattle.flow_meaning.specs.Planned.{Plan, and_plan, gave, planned, asking, do_last, do_react, end_block, end_handler, end_last, end_round}
use Rattle.run_state.specs.declared.world.World.{World}
use Rattle.continuations.specs.declared.continuation.Jump.{Jump}
use Rattle.continuations.specs.declared.continuation.Control.{Control}
use Rattle.continuations.specs.Kept.{Kept, scopes_of, waiting}
use Rattle.continuations.specs.Moving.{Planning}
use Rattle.continuations.specs.Pending.{first_or_undefined, handler_of, last_of, values_of}
use Rattle.continuations.specs.Shapes.{jump_of, waiting_of, handles, finishes}
use Rattle.continuations.specs.Invariant.{Invariant, running}
use Rattle.continuations.specs.Settings.{entrance}

-- what is done last, and then the jump that waits, in front of these values
abbrev pub last_plan : {T : Type 0} → Statement → Option Jump → List (Labelled T) → Planning T
last_plan s waiting vs tables inputs set functions reading e = do_last (finishes s) (last_of tables inputs set functions s e.env) (waiting_of waiting (map (read_value reading) vs))

-- the jump that waits, or nothing
abbrev pub ending_plan : {T : Type 0} → Option Jump → List (Labelled T) → Planning T
ending_plan waiting vs tables inputs set functions reading e = end_last (waiting_of waiting (map (read_value reading) vs)) (gave (unlabelled undefined))

-- a jump has come to the block
abbrev pub reacting_plan : {T : Type 0} → Statement → ℕ → Jump → List (Labelled T) → Planning T
reacting_plan s depth j vs tables inputs set functions reading e = do_react (handles s) (finishes s) (handler_of tables inputs set functions s e.env) (last_of tables inputs set functions s e.env) depth (caught (jump_of j (first_or_undefined (map (read_value reading) vs))))

-- the handler, in front of what it caught
abbrev pub catching_plan : {T : Type 0} → Statement → ℕ → Ident → Block → List (Labelled T) → Planning T
catching_plan s depth ident handler vs tables inputs set functions reading e t =
    and_plan (handled (planned tables inputs set functions) (entrance tables inputs set functions) (asking tables inputs set functions) ident handler e.env (first_or_undefined (map (read_value reading) vs)) t) (end_handler (finishes s) (last_of tables inputs set functions s e.env) depth)

-- a block is entered as a block statement
abbrev pub block_plan : Tables → Given → BuiltIns → List FunctionCode → Block → Env ℕ → State → Plan
block_plan tables inputs set functions b e t = (asking tables inputs set functions).stmt (block b) e t

-- the block, and behind it the handler and what is done last, in the frame at a depth
abbrev pub trying_plan : Tables → Given → BuiltIns → List FunctionCode → Statement → ℕ → Block → Env ℕ → State → Plan
trying_plan tables inputs set functions s depth b e t =
    and_plan (and_plan (block_plan tables inputs set functions b e t) (end_block (handles s) (finishes s) (handler_of tables inputs set functions s e) (last_of tables inputs set functions s e) depth)) (end_round depth)

-- where no built-in is to run next, a run stands whose next move is this, with so many built-ins that wait
abbrev pub StandsStill : {S T : Type 0} → (S → T → Type 0) → (S → T → Label) → S → ℕ → Kept T → World T → Control → Type 0
StandsStill made meaning store natives stack world move = running move ≡ 0 → Invariant made meaning store stack world (values_of move) (scopes_of stack.tasks) natives move

-- the last of the scopes that are pending stands in the frame at a depth
pub record EndsAt (depth : ℕ) (pending : List ℕ) : Type 0 where
  pub outside : List ℕ
  pub are : pending ≡ outside ++ depth ∷ []
