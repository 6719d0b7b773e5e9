-- What is done in the frame of a `try` statement, by its parts.
use Rattle.std.proofs.Common.{refl, sym, ap, ◌∙◌, ◌≡◌, ℕ, true, false, List, Some, None}
use Rattle.std.proofs.lemmas.Option.{none-some, same_Some}
use Rattle.flow_policy.specs.Policies.{Tables}
use Rattle.flow_policy.specs.Inputs.{Given}
use Rattle.js_ast.specs.Functions.{FunctionCode}
use Rattle.js_ast.specs.Trees.{Block, Statement, try_finally, try_both}
use Rattle.es_meaning.specs.Environments.{Env}
use Rattle.es_meaning.specs.Plain.{undefined}
use Rattle.es_meaning.specs.BuiltIns.{BuiltIns}
use Rattle.flow_meaning.specs.Erased.{unlabelled}
use Rattle.flow_meaning.specs.Scopes.{State, Came, quiet, quieted_in}
use Rattle.flow_meaning.specs.Planned.{Plan, and_plan, gave, do_last, end_last}
use Rattle.continuations.specs.Pending.{last_of}
use Rattle.continuations.specs.Shapes.{finishes}
use Rattle.step_jumps.specs.Parts.{last_in}
use Rattle.step_jumps.specs.Trying.{block_plan}

module _ (tables : Tables) (inputs : Given) (set : BuiltIns) (functions : List FunctionCode) where
  -- the frame catches no longer, and statements are done last
  quiet_last : (last : State → Plan) (how : Came (Unit {0})) (t : State) → do_last true last how t ≡ and_plan (last (quieted_in t)) (end_last how)
  unfolding quiet
  quiet_last last how t = refl

  quiet_alone : (last : State → Plan) (how : Came (Unit {0})) (t : State) → do_last false last how t ≡ end_last how (gave (unlabelled undefined)) (quieted_in t)
  unfolding quiet
  quiet_alone last how t = refl

  last_block : (b c : Block) (e : Env ℕ) (how : Came (Unit {0})) (t : State) → Some b ≡ Some c
      → do_last true (block_plan tables inputs set functions b e) how t ≡ and_plan (block_plan tables inputs set functions c e (quieted_in t)) (end_last how)
  last_block b c e how t same =
      quiet_last (block_plan tables inputs set functions b e) how t
      ∙ ap (λ d. and_plan (block_plan tables inputs set functions d e (quieted_in t)) (end_last how)) (same_Some b c same)

  pub last_some : (s : Statement) (c : Block) (e : Env ℕ) (how : Came (Unit {0})) (t : State) → last_in s ≡ Some c
      → do_last (finishes s) (last_of tables inputs set functions s e) how t ≡ and_plan (block_plan tables inputs set functions c e (quieted_in t)) (end_last how)
  last_some (try_finally at b last) c e how t is = last_block last c e how t is
  last_some (try_both at b ident handler last) c e how t is = last_block last c e how t is
  last_some _ c e how t is = absurd (none-some c is)

  pub last_none : (s : Statement) (e : Env ℕ) (how : Came (Unit {0})) (t : State) → last_in s ≡ None
      → do_last (finishes s) (last_of tables inputs set functions s e) how t ≡ end_last how (gave (unlabelled undefined)) (quieted_in t)
  last_none (try_finally at b last) e how t is = absurd (none-some last (sym is))
  last_none (try_both at b ident handler last) e how t is = absurd (none-some last (sym is))
  last_none s e how t is = quiet_alone (last_of tables inputs set functions s e) how t
