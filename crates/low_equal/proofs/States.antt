-- States that an observer can't tell apart, and states that look the same.
use Rattle.std.proofs.Common.{◌≡◌, ℕ, ◌<◌, List, length, take, refl, sym, ◌∙◌, ap}
use Rattle.origin_labels.specs.Label.{Label}
use Rattle.flow_policy.specs.Policies.{Tables}
use Rattle.flow_frames.specs.Frames.{Frame, context}
use Rattle.js_values.specs.Objects.{Object}
use Rattle.js_values.specs.Records.{Record}
use Rattle.flow_meaning.specs.Scopes.{Val, LabelledLine, State, cut_to}
use Rattle.low_equal.specs.Observed.{IsSeen, IsHidden, SameLines}
use Rattle.low_equal.specs.LowEqual.{Pairing, HeapsAgree, ScopesAgree, PositionsAgree, LowEqual}
use Rattle.low_equal.specs.Runs.{Same}
use Rattle.low_equal.proofs.Agreement.{flipped}
use Rattle.low_equal.proofs.Heaps.{heap_sym}
use Rattle.low_equal.proofs.Scopes.{scopes_sym}
use Rattle.low_equal.proofs.Lines.{lines_sym, positions_sym}
use Rattle.low_equal.proofs.Views.{view, views_seen, views_hidden, views_equal, some_other, view_take, take_some}

module _ (observer : Label) (tables : Tables) where
  pub low_sym : {β : Pairing} {s t : State} → LowEqual observer tables β s t → LowEqual observer tables (flipped β) t s
  low_sym {s = s} {t = t} r = record {
    some = some_other observer s.frames t.frames r.frames r.some;
    counts = sym r.counts;
    frames = sym r.frames;
    heap = heap_sym observer r.heap;
    records = scopes_sym observer r.records;
    positions = positions_sym observer tables s.positions t.positions r.positions;
    lines = lines_sym observer tables r.lines;
  }

  -- ---- with other parts that agree

  pub low_frames : {β : Pairing} {s t : State} {fs gs : List Frame} → LowEqual observer tables β s t → 0 < length fs → view observer fs ≡ view observer gs
      → LowEqual observer tables β (record s { frames = fs }) (record t { frames = gs })
  low_frames r n e = record { some = n; counts = r.counts; frames = e; heap = r.heap; records = r.records; positions = r.positions; lines = r.lines }

  pub low_heap : {β γ : Pairing} {s t : State} {h g : List (Object Label)} → LowEqual observer tables β s t → HeapsAgree observer γ h g → ScopesAgree observer γ s.records t.records
      → LowEqual observer tables γ (record s { heap = h }) (record t { heap = g })
  low_heap r a b = record { some = r.some; counts = r.counts; frames = r.frames; heap = a; records = b; positions = r.positions; lines = r.lines }

  pub low_records : {β : Pairing} {s t : State} {rs qs : List (Record Val)} → LowEqual observer tables β s t → ScopesAgree observer β rs qs
      → LowEqual observer tables β (record s { records = rs }) (record t { records = qs })
  low_records r a = record { some = r.some; counts = r.counts; frames = r.frames; heap = r.heap; records = a; positions = r.positions; lines = r.lines }

  pub low_more : {β γ : Pairing} {s t : State} {rs qs : List (Record Val)} → LowEqual observer tables β s t → HeapsAgree observer γ s.heap t.heap → ScopesAgree observer γ rs qs
      → LowEqual observer tables γ (record s { records = rs }) (record t { records = qs })
  low_more r a b = record { some = r.some; counts = r.counts; frames = r.frames; heap = a; records = b; positions = r.positions; lines = r.lines }

  pub low_positions : {β : Pairing} {s t : State} {ps qs : List ℕ} → LowEqual observer tables β s t → length ps ≡ length qs → PositionsAgree observer tables ps qs
      → LowEqual observer tables β (record s { positions = ps }) (record t { positions = qs })
  low_positions r n a = record { some = r.some; counts = n; frames = r.frames; heap = r.heap; records = r.records; positions = a; lines = r.lines }

  pub low_lines : {β : Pairing} {s t : State} {ls ms : List LabelledLine} → LowEqual observer tables β s t → SameLines observer tables ls ms
      → LowEqual observer tables β (record s { lines = ls }) (record t { lines = ms })
  low_lines r a = record { some = r.some; counts = r.counts; frames = r.frames; heap = r.heap; records = r.records; positions = r.positions; lines = a }

  pub low_turns : {β : Pairing} {s t : State} (n m : ℕ) → LowEqual observer tables β s t → LowEqual observer tables β (record s { turns = n }) (record t { turns = m })
  low_turns n m r = record { some = r.some; counts = r.counts; frames = r.frames; heap = r.heap; records = r.records; positions = r.positions; lines = r.lines }

  -- ---- frames of states that look alike

  pub low_hidden : {β : Pairing} {s t : State} → LowEqual observer tables β s t → IsHidden observer s → IsHidden observer t
  low_hidden {s = s} {t = t} r h = views_hidden observer s.frames t.frames r.frames h

  pub low_seen : {β : Pairing} {s t : State} → LowEqual observer tables β s t → IsSeen observer s → IsSeen observer t
  low_seen {s = s} {t = t} r v = views_seen observer s.frames t.frames r.frames v

  pub same_frames : {β : Pairing} {s t : State} → LowEqual observer tables β s t → IsSeen observer s → s.frames ≡ t.frames
  same_frames {s = s} {t = t} r v = views_equal observer s.frames t.frames r.frames v

  pub same_context : {β : Pairing} {s t : State} → LowEqual observer tables β s t → IsSeen observer s → context s.frames ≡ context t.frames
  same_context r v = ap context (same_frames r v)

  pub low_cut : {β : Pairing} {s t : State} (d : ℕ) → 0 < d → LowEqual observer tables β s t → LowEqual observer tables β (cut_to d s) (cut_to d t)
  low_cut {s = s} {t = t} d n r = low_frames r (take_some d s.frames n r.some) (view_take observer d s.frames ∙ ap (take d) r.frames ∙ sym (view_take observer d t.frames))

  -- ---- states that look the same

  pub same_refl : (s : State) → Same observer tables s s
  same_refl s = record { looks = λ β u r. r; frames = refl }

  pub same_trans : {s t u : State} → Same observer tables s t → Same observer tables t u → Same observer tables s u
  same_trans h k = record { looks = λ β v r. k.looks β v (h.looks β v r); frames = h.frames ∙ k.frames }

  pub same_right : {s t : State} → Same observer tables s t → (β : Pairing) (u : State) → LowEqual observer tables β u s → LowEqual observer tables β u t
  same_right h β u r = low_sym (h.looks (flipped β) u (low_sym r))

  pub same_hidden : {s t : State} → Same observer tables s t → IsHidden observer s → IsHidden observer t
  same_hidden {s} {t} h p = views_hidden observer s.frames t.frames h.frames p

  pub same_with : {s : State} {fs : List Frame} → (0 < length s.frames → 0 < length fs) → view observer fs ≡ view observer s.frames → Same observer tables s (record s { frames = fs })
  same_with n e = record { looks = λ β u r. low_frames r (n r.some) (e ∙ r.frames); frames = sym e }

  pub same_turns : {s : State} (n : ℕ) → Same observer tables s (record s { turns = n })
  same_turns n = record { looks = λ β u r. record { some = r.some; counts = r.counts; frames = r.frames; heap = r.heap; records = r.records; positions = r.positions; lines = r.lines }; frames = refl }
