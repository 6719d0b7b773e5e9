-- The totals of frames that stand inside others, counted frame by frame from the union of the labels outside.
use Rattle.std.specs.Prelude.{◌≡◌, List, [], ◌∷◌}
use Rattle.origin_labels.specs.Label.{Label, union}
use Rattle.flow_frames.specs.Held.{Held}

-- the store made the frame's label and total
abbrev pub HasMade : {S L : Type 0} → (S → L → Type 0) → S → Held L → Type 0
HasMade made store h = made store h.label × made store h.total

-- the store made the labels and totals, and each total means the union of the labels outside and those up to and with its frame
abbrev pub Stand : {S L : Type 0} → (S → L → Type 0) → (S → L → Label) → S → Label → List (Held L) → Type 0
Stand made meaning store outside [] = Unit {0}
Stand made meaning store outside (h ∷ frames) = HasMade made store h × (meaning store h.total ≡ union outside (meaning store h.label)) × Stand made meaning store (union outside (meaning store h.label)) frames
