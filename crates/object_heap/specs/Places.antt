-- The place of a key among properties, which the code looks for once.
use Rattle.std.specs.Prelude.{◌≡◌, ℕ, zero, suc, ◌<◌, List, [], ◌∷◌, Option, Some, None, length, slice_get, take, drop, ◌++◌}
use Rattle.std.specs.Option.{option_map}
use Rattle.js_values.specs.Objects.{Rows, own, changed, without}

-- the properties with a change of the one at a place
abbrev pub changed_at_place : {S : Type 0} → ℕ → (S → S) → Rows S → Rows S
changed_at_place place new [] = []
changed_at_place zero new (r ∷ rows) = (r.0, new r.1) ∷ rows
changed_at_place (suc place) new (r ∷ rows) = r ∷ changed_at_place place new rows

-- the key names the property at this place: there it is found, changed and removed
pub record StandsAt {S : Type 0} (key : List ℕ) (rows : Rows S) (place : ℕ) : Type 0 where
  pub within : place < length rows
  pub here : option_map (λ r. r.1) (slice_get rows place) ≡ own key rows
  pub changes : (new : S → S) → changed_at_place place new rows ≡ changed key new rows
  pub removes : take place rows ++ drop (suc place) rows ≡ without key rows

abbrev pub IsPlace : {S : Type 0} → List ℕ → Rows S → Option ℕ → Type 0
IsPlace key rows None = own key rows ≡ None
IsPlace key rows (Some place) = StandsAt key rows place
