-- What an observer sees of labels, frames and lines.
use Rattle.std.specs.Prelude.{◌≡◌, Bool, true, false, List, [], ◌∷◌, if◌then◌else◌}
use Rattle.std.specs.List.{filter}
use Rattle.origin_labels.specs.Label.{Label, sees}
use Rattle.flow_policy.specs.Policies.{Tables, channel_named}
use Rattle.flow_policy.specs.Observed.{sees_channel}
use Rattle.flow_frames.specs.Frames.{Frame, context}
use Rattle.flow_meaning.specs.Scopes.{LabelledLine, State}

abbrev pub Sees : Label → Label → Type 0
Sees observer label = sees observer label ≡ true

abbrev pub Hides : Label → Label → Type 0
Hides observer label = sees observer label ≡ false

-- ---- frames: those outside the outermost hidden one are seen, and that there is a hidden one. Nothing inside it is

pub data Mask : Type 0 where
  shown : Frame → Mask
  veiled : Mask

abbrev pub view : Label → List Frame → List Mask
view observer [] = []
view observer (f ∷ frames) = if sees observer f.label then shown f ∷ view observer frames else veiled ∷ []

-- the observer sees the context, or it doesn't
abbrev pub IsSeen : Label → State → Type 0
IsSeen observer s = Sees observer (context s.frames)

abbrev pub IsHidden : Label → State → Type 0
IsHidden observer s = Hides observer (context s.frames)

-- ---- lines

-- those on channels that the observer sees
abbrev pub on_seen_channel : Label → Tables → LabelledLine → Bool
on_seen_channel observer tables l = sees_channel observer (channel_named l.line.channel tables.outputs)

abbrev pub seen_lines : Label → Tables → List LabelledLine → List LabelledLine
seen_lines observer tables lines = filter (on_seen_channel observer tables) lines

-- those whose recorded label the observer sees
abbrev pub labelled_lines : Label → List LabelledLine → List LabelledLine
labelled_lines observer lines = filter (λ l. sees observer l.label) lines

-- the first list is how the second begins
pub data Front {A : Type 0} : List A → List A → Type 0 where
  empty : {xs : List A} → Front [] xs
  longer : {x : A} {xs ys : List A} → Front xs ys → Front (x ∷ xs) (x ∷ ys)

-- the observer can't tell the lines, or sees of the first what the second begin with
pub record SameLines (observer : Label) (tables : Tables) (ls ms : List LabelledLine) : Type 0 where
  pub on_channels : seen_lines observer tables ls ≡ seen_lines observer tables ms
  pub by_labels : labelled_lines observer ls ≡ labelled_lines observer ms

pub record FrontLines (observer : Label) (tables : Tables) (ls ms : List LabelledLine) : Type 0 where
  pub on_channels : Front (seen_lines observer tables ls) (seen_lines observer tables ms)
  pub by_labels : Front (labelled_lines observer ls) (labelled_lines observer ms)
