-- What pending works say of jumps: where one goes, and in which record the part is evaluated.
use Rattle.std.specs.Prelude.{ℕ, Bool, true, false, ◌&&◌, ◌||◌, List, [], ◌∷◌, Option, Some, None}
use Rattle.std.specs.List.{list_any}
use Rattle.origin_labels.specs.Names.{same_name}
use Rattle.js_ast.specs.Trees.{Statement, labelled}
use Rattle.js_ast.specs.Views.{view_stmt}
use Rattle.es_meaning.specs.Environments.{Env, same_mark, is_label}
use Rattle.continuations.specs.declared.continuation.Continuation.{Continuation}
use Rattle.continuations.specs.declared.continuation.Continuation.TheVariants as continuation
use Rattle.continuations.specs.Pending.{inside}
use Rattle.continuations.specs.Shapes.{labels_at}

-- the environment of the part that is evaluated, above works of which the last is done first
unfoldable pub env_in : List Continuation → Env ℕ → Env ℕ
env_in [] e = e
env_in (w ∷ works) e = env_in works (inside w e)

-- the last of numbers, or another where there is none
abbrev pub last_or : ℕ → List ℕ → ℕ
last_or other [] = other
last_or other (n ∷ ns) = last_or n ns

-- the frame's depth of the call that work ends
abbrev pub call_of : Continuation → Option ℕ
call_of (continuation.EndCall own depth) = Some depth
call_of (continuation.EndNew own depth) = Some depth
call_of _ = None

-- how much work puts round the part
abbrev pub rounds_of : Continuation → ℕ
rounds_of (continuation.EndRound turn depth of) = 1
rounds_of (continuation.EndLabel depth text) = 1
rounds_of _ = 0

-- a `break` or a `continue`, with its label or none, ends what has these marks
abbrev pub ends_round : Bool → Option (List ℕ) → Bool → Statement → Bool
ends_round turn label mark s = same_mark turn mark && list_any (λ l. is_label label l) (labels_at s)

abbrev pub ends_label : Bool → Option (List ℕ) → List ℕ → Bool
ends_label turn label text = same_mark turn false && is_label label (Some text)

abbrev pub reached_if : Bool → ℕ → Option ℕ
reached_if true depth = Some depth
reached_if false depth = None

-- the frame's depth of what work puts round the part, if it is ended
abbrev pub ended_by : Bool → Option (List ℕ) → Continuation → Option ℕ
ended_by turn label (continuation.EndRound mark depth of) = reached_if (ends_round turn label mark (view_stmt of.now)) depth
ended_by turn label (continuation.EndLabel depth text) = reached_if (ends_label turn label text.now) depth
ended_by turn label _ = None

-- a label stands in front of a statement
abbrev pub stands_before : List ℕ → Statement → Bool
stands_before x (labelled at text s) = same_name x text || stands_before x s
stands_before x _ = false
