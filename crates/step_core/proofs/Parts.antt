-- What holds of all of a list holds of its parts, and of values in a later store.
use Rattle.std.proofs.Common.{refl, subst, ℕ, Bool, List, ◌++◌, length}
use Rattle.std.specs.List.{All}
use Rattle.std.proofs.lemmas.List.{take_at, drop_at}
use Rattle.std.proofs.lemmas.List.Elements.{All-take, All-drop, All-weaker}
use Rattle.origin_labels.specs.Label.{Label}
use Rattle.origin_labels.specs.Stores.{IsKept}
use Rattle.js_values.specs.declared.value.Labelled.{Labelled}
use Rattle.js_values.specs.Readings.{HasValue}

module _ {X : Type 0} (P : X → Type 0) (front behind : List X) (all : All P (front ++ behind)) where
  pub front_all : All P front
  front_all = subst (All P) (take_at front behind (length front) refl) (All-take P (length front) (front ++ behind) all)

  pub behind_all : All P behind
  behind_all = subst (All P) (drop_at front behind (length front) refl) (All-drop P (length front) (front ++ behind) all)

-- values with labels of a store have those of a later one
pub later_values : {S T : Type 0} (made : S → T → Type 0) (meaning : S → T → Label) (room : S → ℕ) (firm : S → Bool) (earlier later : S) → IsKept made meaning room firm earlier later → (vs : List (Labelled T)) → All (HasValue (made earlier)) vs → All (HasValue (made later)) vs
later_values made meaning room firm earlier later kept vs all = All-weaker (HasValue (made earlier)) (HasValue (made later)) (λ v m. (kept.labels v.label m).0) vs all
