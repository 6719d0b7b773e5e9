-- Stores of labels.
use Rattle.std.specs.Prelude.{◌≡◌, ℕ, Bool}
use Rattle.origin_labels.specs.Label.{Label}

-- a later store keeps what the earlier one made, with its meaning, and its room and firmness
pub record IsKept {S L : Type 0} (made : S → L → Type 0) (meaning : S → L → Label) (room : S → ℕ) (firm : S → Bool) (old new : S) : Type 0 where
  pub labels : (label : L) → made old label → made new label × (meaning new label ≡ meaning old label)
  pub same_room : room new ≡ room old
  pub same_firm : firm new ≡ firm old
