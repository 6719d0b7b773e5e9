-- What still holds of a machine behind a request.
use Rattle.std.proofs.Common.{sym, ap, subst, ◌∙◌, ◌≡◌, ℕ, suc, Bool, length, Result, Ok, Err, IfOk, arith}
use Rattle.origin_labels.specs.Label.{Label}
use Rattle.origin_labels.specs.Stores.{IsKept}
use Rattle.js_values.specs.Readings.{HasValue}
use Rattle.run_state.specs.declared.world.World.{World}
use Rattle.run_state.specs.Worlds.{Belongs, Grows}
use Rattle.continuations.specs.declared.continuation.Control.{Control}
use Rattle.continuations.specs.declared.continuation.Control.TheVariants as control
use Rattle.continuations.specs.Kept.{Kept, kept_operands, scopes_of}
use Rattle.continuations.specs.Moving.{Stands}
use Rattle.continuations.specs.Pending.{values_of}
use Rattle.continuations.specs.Invariant.{Invariant, depths}
use Rattle.step_requests.specs.Requesting.{Rests}
use Rattle.step_core.proofs.Parts.{front_all, later_values}
use Rattle.step_core.proofs.Stood.{framed_behind}

pub asked_stands : {S T : Type 0} (made : S → T → Type 0) (meaning : S → T → Label) (room : S → ℕ) (firm : S → Bool) (earlier later : S) (kept : IsKept made meaning room firm earlier later) (old new : Kept T) (world_old world_new : World T) (count natives left : ℕ) (move : Control)
    → Invariant made meaning earlier old world_old count (scopes_of old.tasks) natives (control.Request count) → Rests (made later) old new left move → Stands world_old world_new move → Belongs made meaning later world_new → Grows world_old world_new
    → Invariant made meaning later new world_new (values_of move) (scopes_of new.tasks) left move
asked_stands made meaning room firm earlier later kept old new world_old world_new count natives left move stands rests whole belongs grows = record {
  belongs = belongs;
  operands = rests.operands (later_values made meaning room firm earlier later kept (kept_operands old.tasks) (front_all (HasValue (made earlier)) (kept_operands old.tasks) old.loose stands.operands));
  values = rests.values;
  scopes = subst (λ ds. ds ≡ depths (length ds)) (sym rests.scopes) stands.scopes;
  frames = framed_behind world_old world_new move (length (scopes_of new.tasks)) (stands.frames ∙ ap (λ ds. suc (length ds)) (sym rests.scopes)) whole;
  records = let some = stands.records in let more = grows.records in omega (arith, some, more);
  natives = rests.running;
}

-- the same of what a request answers
pub asked_standing : {S T P F : Type 0} (made : S → T → Type 0) (meaning : S → T → Label) (room : S → ℕ) (firm : S → Bool) (earlier later : S) (kept : IsKept made meaning room firm earlier later) (old new : Kept T) (world_old world_new : World T) (count natives left : ℕ) (moved : Result (Control × P) F)
    → Invariant made meaning earlier old world_old count (scopes_of old.tasks) natives (control.Request count) → IfOk moved (λ moves. Rests (made later) old new left moves.0) → IfOk moved (λ moves. Stands world_old world_new moves.0) → Belongs made meaning later world_new → Grows world_old world_new
    → IfOk moved (λ moves. Invariant made meaning later new world_new (values_of moves.0) (scopes_of new.tasks) left moves.0)
asked_standing made meaning room firm earlier later kept old new world_old world_new count natives left (Ok moves) stands rests whole belongs grows = asked_stands made meaning room firm earlier later kept old new world_old world_new count natives left moves.0 stands rests whole belongs grows
asked_standing made meaning room firm earlier later kept old new world_old world_new count natives left (Err f) stands rests whole belongs grows = tt
