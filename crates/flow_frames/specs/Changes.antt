-- How calls change frames.
use Rattle.std.specs.Prelude.{ℕ, zero, suc, false, List, [], ◌∷◌}
use Rattle.origin_labels.specs.Label.{Label, union}
use Rattle.flow_frames.specs.Frames.{Frame}
use Rattle.flow_frames.specs.Held.{Held}
use Rattle.flow_frames.specs.Kinds.{is_try}
use Rattle.flow_frames.specs.declared.kind.Kind.{Kind}

-- a frame as it is pushed
abbrev pub pushed : Kind → Label → Frame
pushed kind label = record { kind = kind; label = label; active = is_try kind }

-- a list with a change of the element at a place
unfoldable pub changed_at : {X : Type 0} → (X → X) → List X → ℕ → List X
changed_at change [] place = []
changed_at change (x ∷ xs) zero = change x ∷ xs
changed_at change (x ∷ xs) (suc place) = x ∷ changed_at change xs place

-- the frames with a label joined to that of the frame at a depth
abbrev pub raised : List Frame → ℕ → Label → List Frame
raised frames depth label = changed_at (λ f. record f { label = union f.label label }) frames depth

-- the frames, of which the one at a depth catches no longer
abbrev pub quieted : {L : Type 0} → List (Held L) → ℕ → List (Held L)
quieted frames depth = changed_at (λ h. record h { active = false }) frames depth
