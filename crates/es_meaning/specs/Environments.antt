-- What a part of a script is evaluated at. An expression is evaluated in a record of variables. A statement has besides what a jump from it can reach.
use Rattle.std.specs.Prelude.{ℕ, Bool, true, false, not, ◌&&◌, List, [], ◌∷◌, Option, Some, None, length, if◌then◌else◌}
use Rattle.std.specs.List.{list_any}
use Rattle.std.specs.Option.{option_map}
use Rattle.origin_labels.specs.Names.{same_name}
use Rattle.es_meaning.specs.Outcomes.{Exit, throws, returns, leaves}

-- a loop, a turn of a loop, a switch or a labelled statement round a statement in its function: the labels by which it is left, no label among
-- those of a loop and a switch (ECMA-262 12.12), and how it is reached
pub record Around (H : Type 0) : Type 0 where
  pub labels : List (Option (List ℕ))
  pub turn : Bool
  pub to : H

pub record Env (H : Type 0) : Type 0 where
  -- the record's number
  pub place : ℕ
  -- how the call is reached
  pub call : H
  -- the innermost first
  pub around : List (Around H)

abbrev pub with_around : {H : Type 0} → Bool → List (Option (List ℕ)) → H → Env H → Env H
with_around turn labels to e = record e { around = record { labels = labels; turn = turn; to = to } ∷ e.around }

abbrev pub with_place : {H : Type 0} → ℕ → Env H → Env H
with_place place e = record e { place = place }

-- that of a call, which begins in its record
abbrev pub called_env : {H : Type 0} → ℕ → H → Env H
called_env place call = record { place = place; call = call; around = [] }

-- ---- jumps, as their statements say them: a throw, a return, and a `break` or, where the mark says so, a `continue`, with its label or none
pub data Leaving : Type 0 where
  thrown returned : Leaving
  left_by : Bool → Option (List ℕ) → Leaving

abbrev pub same_mark : Bool → Bool → Bool
same_mark true mark = mark
same_mark false mark = not mark

abbrev pub is_label : Option (List ℕ) → Option (List ℕ) → Bool
is_label None None = true
is_label None (Some text) = false
is_label (Some label) None = false
is_label (Some label) (Some text) = same_name label text

-- a `break` ends it, or a `continue` ends this turn (ECMA-262 12.7, 12.8)
abbrev pub ends_it : {H : Type 0} → Bool → Option (List ℕ) → Around H → Bool
ends_it turn label a = same_mark turn a.turn && list_any (λ l. is_label label l) a.labels

-- the innermost that is ended: how many are round it, and how it is reached
abbrev pub find_around : {H : Type 0} → Bool → Option (List ℕ) → List (Around H) → Option (ℕ × H)
find_around turn label [] = None
find_around turn label (a ∷ around) = if ends_it turn label a then Some (length around, a.to) else find_around turn label around

-- where a jump goes, and how that is reached; what catches a throw is reached from the root. A script is refused where a `break` or a `continue` has
-- nothing to end
abbrev pub aimed : {H : Type 0} → H → Leaving → Env H → Option (Exit × H)
aimed root thrown e = Some (throws, root)
aimed root returned e = Some (returns, e.call)
aimed root (left_by turn label) e = option_map (λ f. (leaves f.0, f.1)) (find_around turn label e.around)
