-- Pending work with the operands that it keeps. The operands stand in one list, from those of the first work on.
use Rattle.std.specs.Prelude.{Bool, true, false, ◌≡◌, ◌≤◌, ℕ, ◌+◌, ◌-◌, List, [], ◌∷◌, ◌++◌, length, take, drop}
use Rattle.js_values.specs.declared.value.Labelled.{Labelled}
use Rattle.continuations.specs.declared.continuation.Continuation.{Continuation}
use Rattle.continuations.specs.declared.continuation.Continuation.TheVariants as continuation
use Rattle.continuations.specs.Pending.{Task, owns}

pub record Kept (T : Type 0) : Type 0 where
  -- the last is done first
  pub tasks : List (Task T)
  -- values that no work keeps yet
  pub loose : List (Labelled T)

-- how many operands the works keep
abbrev pub owned : List Continuation → ℕ
owned [] = 0
owned (w ∷ works) = owns w + owned works

abbrev pub tasks_of : {T : Type 0} → List Continuation → List (Labelled T) → List (Task T)
tasks_of [] operands = []
tasks_of (w ∷ works) operands = (w, take (owns w) operands) ∷ tasks_of works (drop (owns w) operands)

abbrev pub loose_of : {T : Type 0} → List Continuation → List (Labelled T) → List (Labelled T)
loose_of works operands = drop (owned works) operands

abbrev pub kept : {T : Type 0} → List Continuation → List (Labelled T) → Kept T
kept works operands = record { tasks = tasks_of works operands; loose = loose_of works operands }

-- all operands, and the values above them
abbrev pub kept_operands : {T : Type 0} → List (Task T) → List (Labelled T)
kept_operands [] = []
kept_operands (w ∷ tasks) = w.1 ++ kept_operands tasks

abbrev pub operands_of : {T : Type 0} → Kept T → List (Labelled T)
operands_of stack = kept_operands stack.tasks ++ stack.loose

-- the same without its uppermost value
abbrev pub without_top : {T : Type 0} → Kept T → Kept T
without_top stack = record { tasks = stack.tasks; loose = take (length stack.loose - 1) stack.loose }

-- the depths of the frames in which the scopes stand that are pending, the outermost first
abbrev pub scope_of : Continuation → List ℕ
scope_of (continuation.EndBranch gives depth) = depth ∷ []
scope_of (continuation.EndRound turn depth of) = depth ∷ []
scope_of (continuation.EndLabel depth text) = depth ∷ []
scope_of (continuation.EndCall own depth) = depth ∷ []
scope_of (continuation.EndNew own depth) = depth ∷ []
scope_of (continuation.EndTry depth) = depth ∷ []
scope_of _ = []

abbrev pub scopes_of : {T : Type 0} → List (Task T) → List ℕ
scopes_of [] = []
scopes_of (w ∷ tasks) = scope_of w.0 ++ scopes_of tasks

-- how many built-ins wait
abbrev pub waits : Continuation → ℕ
waits (continuation.Answered count to) = 1
waits _ = 0

abbrev pub waiting : {T : Type 0} → List (Task T) → ℕ
waiting [] = 0
waiting (w ∷ tasks) = waits w.0 + waiting tasks

-- whether a jump may stay there, though it ends no scope: in the block or the handler of a `try` statement
abbrev pub may_stay : Continuation → Bool
may_stay (continuation.EndBlock s depth) = true
may_stay (continuation.EndHandler s own depth) = true
may_stay _ = false

-- the records in which calls and handlers began that are pending, the outermost first
abbrev pub place_of : Continuation → List ℕ
place_of (continuation.EndCall own depth) = own.0 ∷ []
place_of (continuation.EndNew own depth) = own.0 ∷ []
place_of (continuation.EndHandler s own depth) = own.0 ∷ []
place_of _ = []

abbrev pub places_of : List Continuation → List ℕ
places_of [] = []
places_of (w ∷ works) = place_of w ++ places_of works

-- the work that was done first is taken from the others. Its operands lie loose then, below the values that lay so
pub record Taken {T : Type 0} (old new : Kept T) (w : Continuation) : Type 0 where
  pub tasks : old.tasks ≡ new.tasks ++ (w, take (owns w) new.loose) ∷ []
  pub rest : drop (owns w) new.loose ≡ old.loose
  pub enough : owns w ≤ length new.loose
