-- Frames as a program holds them: with the labels of a store, and with the total of each.
use Rattle.std.specs.Prelude.{◌≡◌, ℕ, ◌+◌, ◌&&◌, Bool, false, List, [], ◌∷◌, map, take, Option, Some}
use Rattle.std.specs.List.{slice_get, slice_index_or, All}
use Rattle.std.specs.Option.{option_map}
use Rattle.origin_labels.specs.Label.{Label, bottom}
use Rattle.flow_frames.specs.Frames.{Frame, context}
use Rattle.flow_frames.specs.Kinds.{is_try}
use Rattle.flow_frames.specs.declared.kind.Kind.{Kind}
use Rattle.flow_frames.specs.declared.kind.Kind.TheVariants as kind

-- a frame with the labels of a store: its total means the union of the labels from the Root up to and with it
pub record Held (L : Type 0) : Type 0 where
  pub kind : Kind
  pub label : L
  pub active : Bool
  pub total : L

-- the frames of a run, outermost first, and how many more fit without new memory
pub record Kept (L : Type 0) : Type 0 where
  pub frames : List (Held L)
  pub spare : ℕ

-- the first frame is the Root
abbrev pub BeginsWithRoot : {L : Type 0} → List (Held L) → Type 0
BeginsWithRoot frames = map (λ h. h.kind) (take 1 frames) ≡ kind.Root ∷ []

-- only Try frames catch
abbrev pub CatchByTry : {L : Type 0} → List (Held L) → Type 0
CatchByTry frames = All (λ h. (is_try h.kind && h.active) ≡ h.active) frames

-- what is so of the frames of every run
abbrev pub AreFormed : {L : Type 0} → List (Held L) → Type 0
AreFormed frames = BeginsWithRoot frames × CatchByTry frames

-- the kind and the label of the frame at a depth, if there is one
abbrev pub kind_at : {L : Type 0} → List (Held L) → ℕ → Option Kind
kind_at frames depth = option_map (λ h. h.kind) (slice_get frames depth)

abbrev pub label_at : {L : Type 0} → List (Held L) → ℕ → Option L
label_at frames depth = option_map (λ h. h.label) (slice_get frames depth)

-- a frame with what its label means
abbrev pub seen_frame : {L : Type 0} → (L → Label) → Held L → Frame
seen_frame meaning h = record { kind = h.kind; label = meaning h.label; active = h.active }

-- the frames with what their labels mean in a store
abbrev pub seen : {S L : Type 0} → (S → L → Label) → S → List (Held L) → List Frame
seen meaning store frames = map (seen_frame (meaning store)) frames

-- the label of the frame at a depth, or the empty set where there is none
abbrev pub meant_at : List Frame → ℕ → Label
meant_at frames depth = (slice_index_or frames depth (record { kind = kind.Root; label = bottom; active = false })).label

-- frames belong to a store that made their labels and totals, and where each total means the union of the labels up to and with its frame
pub record Belong {S L : Type 0} (made : S → L → Type 0) (meaning : S → L → Label) (store : S) (frames : List (Held L)) : Type 0 where
  pub labels : All (λ h. made store h.label) frames
  pub totals : All (λ h. made store h.total) frames
  pub unions : (depth : ℕ) (h : Held L) → slice_get frames depth ≡ Some h → meaning store h.total ≡ context (take (depth + 1) (seen meaning store frames))
