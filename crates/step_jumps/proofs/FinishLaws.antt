-- What is done last, and what comes before it, as a call does it.
use Rattle.std.proofs.Common.{refl, sym, ap, ◌∙◌, ◌≡◌, ◌<◌, ◌≤◌, ℕ, Bool, true, false, ◌&&◌, List, map, length, Option, Some, None, Result, Ok}
use Rattle.std.proofs.lemmas.Bool.{lt-ltb, le-ltb}
use Rattle.std.proofs.lemmas.Option.{none-some, same_Some}
use Rattle.origin_labels.specs.Label.{Label}
use Rattle.flow_policy.specs.Policies.{Tables}
use Rattle.flow_policy.specs.Inputs.{Given}
use Rattle.flow_frames.specs.Held as held
use Rattle.flow_frames.specs.Held.{Held, seen_frame}
use Rattle.flow_frames.specs.Changes.{changed_at}
use Rattle.flow_frames.specs.Frames.{Frame}
use Rattle.flow_frames.specs.declared.faults.FlowFault.{FlowFault}
use Rattle.js_ast.specs.Functions.{FunctionCode}
use Rattle.js_ast.specs.Trees.{Ident, Block, Statement, try_catch, try_both}
use Rattle.js_values.specs.Readings.{read_value}
use Rattle.es_meaning.specs.Environments.{Env}
use Rattle.es_meaning.specs.Outcomes.{Goes, Jumps}
use Rattle.es_meaning.specs.Evaluation.{handled}
use Rattle.es_meaning.specs.Plain.{undefined, choose, is_throw}
use Rattle.es_meaning.specs.BuiltIns.{BuiltIns}
use Rattle.flow_meaning.specs.Erased.{unlabelled}
use Rattle.flow_meaning.specs.Scopes.{Val, State, LabelledLine, Jump, caught, quieted_in, innermost, stay}
use Rattle.flow_meaning.specs.Planned.{Plan, Give, and_plan, as_stayed, gave, jumped, planned, asking, do_last, do_react, end_block, end_handler, end_last}
use Rattle.run_state.specs.declared.world.World.{World}
use Rattle.run_state.specs.Worlds.{state_of}
use Rattle.continuations.specs.declared.continuation.Jump as moves
use Rattle.continuations.specs.declared.continuation.Jump.TheVariants.{Throws, Returns, Leaves}
use Rattle.continuations.specs.declared.continuation.Control.{Control}
use Rattle.continuations.specs.Kept.{Kept}
use Rattle.continuations.specs.Moving.{BeginsWith}
use Rattle.continuations.specs.Pending.{handler_of}
use Rattle.continuations.specs.Resuming.{BeginsBehind}
use Rattle.continuations.specs.Shapes.{jump_of, waiting_of, handles}
use Rattle.continuations.specs.Settings.{entrance}
use Rattle.step_jumps.specs.Parts.{last_in, caught_by}
use Rattle.step_jumps.specs.Trying.{block_plan, ending_plan, last_plan}
use Rattle.step_jumps.proofs.Comings.{begins_from, begins_beside}
use Rattle.step_jumps.proofs.PlanLaws.{last_some, last_none}

-- frames of which the last catches no longer
abbrev pub Quieted : {T : Type 0} → List (Held T) → List (Held T) → Type 0
Quieted {T = T} old new = (reading : T → Label) → map (seen_frame reading) new ≡ changed_at (λ f. record f { active = false }) (map (seen_frame reading) old) (innermost (map (seen_frame reading) old))

module _ {S T : Type 0} (made : S → T → Type 0) (meaning : S → T → Label) (store : S) (s : Statement) (waiting : Option moves.Jump) (old new : Kept T) (world : World T) (frames : held.Kept T) (quiets : Quieted world.frames.frames frames.frames) where
  quiet_state : (reading : T → Label) (told : List LabelledLine) (turns : ℕ) → state_of reading (record world { frames = frames }) told turns ≡ quieted_in (state_of reading world told turns)
  quiet_state reading told turns = ap (λ (fs : List Frame). record (state_of reading world told turns) { frames = fs }) (quiets reading)

  -- something is done last
  pub finishes_last : (b : Block) (move : Control) → last_in s ≡ Some b
      → BeginsBehind (λ tables inputs set functions vs e t. and_plan (block_plan tables inputs set functions b e.env t) (end_last (waiting_of waiting vs))) old new move
      → BeginsWith made meaning store (last_plan s waiting old.loose) old new world (record world { frames = frames }) (Ok move)
  finishes_last b move is begins =
      begins_beside made meaning store (λ tables inputs set functions vs e t. and_plan (block_plan tables inputs set functions b e.env t) (end_last (waiting_of waiting vs))) (last_plan s waiting old.loose) old new world (record world { frames = frames }) move
      (λ tables inputs set functions reading f told turns read.
      let how = waiting_of waiting (map (read_value reading) old.loose) in
      ap (λ t. and_plan (block_plan tables inputs set functions b f.env t) (end_last how)) (quiet_state reading told turns)
      ∙ sym (last_some tables inputs set functions s b f.env how (state_of reading world told turns) is))
      begins

  -- nothing is
  pub finishes_bare : (later : World T) (result : Result Control (FlowFault T)) → last_in s ≡ None
      → BeginsWith made meaning store (ending_plan waiting old.loose) old new (record world { frames = frames }) later result
      → BeginsWith made meaning store (last_plan s waiting old.loose) old new world later result
  finishes_bare later result is begins =
      begins_from made meaning store (ending_plan waiting old.loose) (last_plan s waiting old.loose) old new world (record world { frames = frames }) later result
      (λ tables inputs set functions reading f told turns read.
      let how = waiting_of waiting (map (read_value reading) old.loose) in
      ap (end_last how (gave (unlabelled undefined))) (quiet_state reading told turns)
      ∙ sym (last_none tables inputs set functions s f.env how (state_of reading world told turns) is))
      begins

-- ---- the block and the handler, by their ends and by jumps

module _ (h f : Bool) (handler : Val → State → Plan) (last : State → Plan) (depth : ℕ) where
  pub block_stays : (j : Jump) (t : State) → depth < length t.frames → end_block h f handler last depth (jumped j) t ≡ do_react h f handler last depth (caught j) t
  unfolding end_block stay
  block_stays j t there = ap (λ b. as_stayed (choose b (Goes (caught j) t) (Jumps j t)) (do_react h f handler last depth)) (lt-ltb depth (length t.frames) there)

  pub block_passes : (j : Jump) (t : State) → length t.frames ≤ depth → end_block h f handler last depth (jumped j) t ≡ Give (jumped j) t
  unfolding end_block stay
  block_passes j t few = ap (λ b. as_stayed (choose b (Goes (caught j) t) (Jumps j t)) (do_react h f handler last depth)) (le-ltb depth (length t.frames) few)

  pub handler_stays : (j : Jump) (t : State) → depth < length t.frames → end_handler f last depth (jumped j) t ≡ do_last f last (caught j) t
  unfolding end_handler stay
  handler_stays j t there = ap (λ b. as_stayed (choose b (Goes (caught j) t) (Jumps j t)) (do_last f last)) (lt-ltb depth (length t.frames) there)

  pub handler_passes : (j : Jump) (t : State) → length t.frames ≤ depth → end_handler f last depth (jumped j) t ≡ Give (jumped j) t
  unfolding end_handler stay
  handler_passes j t few = ap (λ b. as_stayed (choose b (Goes (caught j) t) (Jumps j t)) (do_last f last)) (le-ltb depth (length t.frames) few)

-- ---- what is caught

never : (b : Bool) → (b && false) ≡ false
never true = refl
never false = refl

pub uncaught : (j : moves.Jump) (s : Statement) (v : Val) → caught_by j s ≡ None → (handles s && is_throw (jump_of j v).exit) ≡ false
uncaught Throws (try_catch at b ident handler) v is = absurd (none-some (ident, handler) (sym is))
uncaught Throws (try_both at b ident handler last) v is = absurd (none-some (ident, handler) (sym is))
uncaught Throws s v is = refl
uncaught (Returns to) s v is = never (handles s)
uncaught (Leaves n to) s v is = never (handles s)

module _ (tables : Tables) (inputs : Given) (set : BuiltIns) (functions : List FunctionCode) where
  pub caught_as : (j : moves.Jump) (s : Statement) (v : Val) (ident : Ident) (b : Block) (e : Env ℕ) → caught_by j s ≡ Some (ident, b)
      → ((handles s && is_throw (jump_of j v).exit) ≡ true) × (handler_of tables inputs set functions s e ≡ handled (planned tables inputs set functions) (entrance tables inputs set functions) (asking tables inputs set functions) ident b e) × ((jump_of j v).value ≡ v)
  caught_as Throws (try_catch at c i h) v ident b e is = let same = same_Some (i, h) (ident, b) is in (refl, ap (λ p. handled (planned tables inputs set functions) (entrance tables inputs set functions) (asking tables inputs set functions) p.0 p.1 e) same, refl)
  caught_as Throws (try_both at c i h last) v ident b e is = let same = same_Some (i, h) (ident, b) is in (refl, ap (λ p. handled (planned tables inputs set functions) (entrance tables inputs set functions) (asking tables inputs set functions) p.0 p.1 e) same, refl)
  caught_as Throws _ v ident b e is = absurd (none-some (ident, b) is)
  caught_as (Returns to) s v ident b e is = absurd (none-some (ident, b) is)
  caught_as (Leaves n to) s v ident b e is = absurd (none-some (ident, b) is)
