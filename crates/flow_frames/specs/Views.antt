-- What the contracts see of the program's frames.
use Rattle.std.specs.Prelude.{◌≡◌}
use Rattle.origin_labels.specs.Label.{Label, union}
use Rattle.flow_frames.specs.Held.{Held}
use Rattle.flow_frames.specs.declared.frame.Frame.{Frame}

-- a frame without its next total, which is of use within a raise alone
abbrev pub held : {L : Type 0} → Frame L → Held L
held f = record { kind = f.kind; label = f.label; active = f.active; total = f.total }

-- the total and the next one were made, and the next one means the union of the total and a label
abbrev pub HasNext : {S L : Type 0} → (S → L → Type 0) → (S → L → Label) → S → Label → Frame L → Type 0
HasNext made meaning store label f = made store f.total × made store f.next_total × (meaning store f.next_total ≡ union (meaning store f.total) label)

-- the frame with its next total
abbrev pub moved_on : {L : Type 0} → Frame L → Frame L
moved_on f = record f { total = f.next_total }
