-- What holds of a run between its steps, and of one whose next work was taken.
use Rattle.std.specs.Prelude.{◌≡◌, ◌≤◌, ◌<◌, ◌+◌, ℕ, zero, suc, Bool, true, false, List, [], ◌∷◌, ◌++◌, length}
use Rattle.std.specs.List.{All}
use Rattle.origin_labels.specs.Label.{Label}
use Rattle.js_values.specs.Readings.{HasValue}
use Rattle.run_state.specs.declared.world.World.{World}
use Rattle.run_state.specs.Worlds.{Belongs}
use Rattle.continuations.specs.declared.continuation.Continuation.{Continuation}
use Rattle.continuations.specs.declared.continuation.Continuation.TheVariants as continuation
use Rattle.continuations.specs.declared.continuation.Control.{Control}
use Rattle.continuations.specs.declared.continuation.Control.TheVariants as control
use Rattle.continuations.specs.Kept.{Kept, operands_of, waiting}

-- the depths of so many frames inside the Root
abbrev pub depths : ℕ → List ℕ
depths zero = []
depths (suc n) = depths n ++ suc n ∷ []

-- there is a frame for each pending scope, but a jump has left some
abbrev pub Framed : Control → ℕ → ℕ → Type 0
Framed (control.Jumps j) frames scopes = frames ≤ suc scopes
Framed _ frames scopes = frames ≡ suc scopes

-- whether a built-in runs, as a number
abbrev pub running : Control → ℕ
running (control.Request count) = 1
running _ = 0

-- so many values lie loose, these scopes are pending, so many built-ins wait or run, and all labels are those of a store
pub record Invariant {S T : Type 0} (made : S → T → Type 0) (meaning : S → T → Label) (store : S) (stack : Kept T) (world : World T) (count : ℕ) (pending : List ℕ) (stopped : ℕ) (move : Control) : Type 0 where
  pub belongs : Belongs made meaning store world
  pub operands : All (HasValue (made store)) (operands_of stack)
  pub values : length stack.loose ≡ count
  pub scopes : pending ≡ depths (length pending)
  pub frames : Framed move (length world.frames.frames) (length pending)
  pub records : 0 < length world.records
  pub natives : stopped ≡ waiting stack.tasks + running move

-- how many values a part gave
abbrev pub given : Bool → ℕ
given true = 1
given false = 0

-- how many values work waits for: one, or none where it waits for the end of a part
abbrev pub awaits : Continuation → ℕ
awaits (continuation.Statements ss) = 0
awaits (continuation.Declared r) = 0
awaits (continuation.Turned r) = 0
awaits (continuation.Visited x count) = 0
awaits (continuation.Falls cs i) = 0
awaits (continuation.EndBranch gives depth) = given gives
awaits (continuation.EndRound turn depth of) = 0
awaits (continuation.EndLabel depth text) = 0
awaits (continuation.EndCall own depth) = 0
awaits (continuation.EndNew own depth) = 0
awaits (continuation.EndBlock s depth) = 0
awaits (continuation.EndHandler s own depth) = 0
awaits (continuation.EndLast waiting) = 0
awaits (continuation.EndTry depth) = 0
awaits _ = 1
