-- Frames: what the place at which a run stands depends on. They are a list, outermost first, and a frame's depth is its place in it.
use Rattle.std.specs.Prelude.{◌≡◌, ℕ, ◌+◌, ◌<◌, Bool, true, List, [], ◌∷◌, drop, Some}
use Rattle.std.specs.List.{slice_get}
use Rattle.origin_labels.specs.Label.{Label, bottom, union}
use Rattle.flow_frames.specs.declared.kind.Kind.{Kind}
use Rattle.flow_frames.specs.declared.kind.Kind.TheVariants as kind

-- a frame: its kind, the label of what decided that the run is in it, and whether it is a Try frame that catches what is thrown
pub record Frame : Type 0 where
  pub kind : Kind
  pub label : Label
  pub active : Bool

-- the union of the labels: what decides that the run is where it is
unfoldable pub context : List Frame → Label
context [] = bottom
context (f ∷ frames) = union f.label (context frames)

-- the union of the labels strictly inside the frame at a depth
abbrev pub inside : List Frame → ℕ → Label
inside frames depth = context (drop (depth + 1) frames)

-- an active Try frame stands at the depth
abbrev pub Catches : List Frame → ℕ → Type 0
Catches frames depth = (f : Frame) × (slice_get frames depth ≡ Some f) × (f.kind ≡ kind.Try) × (f.active ≡ true)

-- the frame that a throw goes to: the innermost active Try frame, or else the Root
pub data IsTarget (frames : List Frame) (depth : ℕ) : Type 0 where
  catching : Catches frames depth → ((deeper : ℕ) → depth < deeper → Catches frames deeper → ⊥) → IsTarget frames depth
  root : depth ≡ 0 → ((any : ℕ) → Catches frames any → ⊥) → IsTarget frames depth

-- the frame that a jump to the frame at a depth reaches first: the innermost active Try frame inside that frame, or else the frame itself
pub data IsTargetAbove (frames : List Frame) (to depth : ℕ) : Type 0 where
  caught_above : to < depth → Catches frames depth → ((deeper : ℕ) → depth < deeper → Catches frames deeper → ⊥) → IsTargetAbove frames to depth
  none_above : depth ≡ to → ((deeper : ℕ) → to < deeper → Catches frames deeper → ⊥) → IsTargetAbove frames to depth
