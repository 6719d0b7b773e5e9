-- The two flow rules on frames. A rule is broken where its need isn't included in its have, and the run then stops.
use Rattle.std.specs.Prelude.{ℕ, Bool, not, List}
use Rattle.origin_labels.specs.Label.{Label, union, within}
use Rattle.flow_frames.specs.Frames.{Frame, inside}

-- a jump to a frame needs that the frame's label includes what is decided inside it, and the cause of the jump (rule W9)
abbrev pub jump_need : List Frame → ℕ → Label → Label
jump_need frames depth cause = union (inside frames depth) cause

-- a directive that raises a frame needs that its label includes what is decided inside it (rule W10)
abbrev pub raise_need : List Frame → ℕ → Label
raise_need frames depth = inside frames depth

abbrev pub is_broken : Label → Label → Bool
is_broken need have = not (within need have)
