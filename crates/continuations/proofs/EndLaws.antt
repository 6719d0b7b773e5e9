-- The ends of frames, and frames that are raised.
use Rattle.std.proofs.Common.{refl, sym, ap, ap₂, ◌∙◌, ◌≡◌, ◌+◌, ◌-◌, ℕ, zero, suc, Bool, List, [], ◌∷◌, ◌++◌, map, take, length, Some, subst, arith}
use Rattle.std.specs.List.{All}
use Rattle.std.proofs.lemmas.List.{length-map, take-map}
use Rattle.std.proofs.lemmas.List.Elements.{All-head, All-rest}
use Rattle.origin_labels.specs.Label.{Label}
use Rattle.origin_labels.specs.Stores.{IsKept}
use Rattle.flow_frames.specs.Changes.{raised}
use Rattle.flow_frames.specs.Held.{Held, Belong, label_at, meant_at, seen, seen_frame}
use Rattle.js_values.specs.Readings.{IsReading}
use Rattle.js_values.proofs.ReadingLaws.{IsReading-earlier}
use Rattle.flow_meaning.specs.Scopes.{State, raised_in}
use Rattle.continuations.specs.Resuming.{with_frames}
use Rattle.continuations.proofs.Reading.{read_frames}

module _ {T : Type 0} (reading : T → Label) where
  -- a frame's label, in a reading
  pub read_label : (frames : List (Held T)) (depth : ℕ) (label : T) → label_at frames depth ≡ Some label → meant_at (map (seen_frame reading) frames) depth ≡ reading label
  read_label [] depth label e = absurd cc
  read_label (h ∷ frames) zero label e = let same : h.label ≡ label = cc in ap reading same
  read_label (h ∷ frames) (suc depth) label e = read_label frames depth label e

  -- the frames outside a depth
  pub read_outside : (before behind : List (Held T)) (depth : ℕ) → length before ≡ depth + 1 → behind ≡ take (length before - 1) before → map (seen_frame reading) behind ≡ take depth (map (seen_frame reading) before)
  read_outside before behind depth size is =
      let same : length before - 1 ≡ depth = omega (arith, size) in
      ap (map (seen_frame reading)) (is ∙ ap (λ n. take n before) same) ∙ sym (take-map (seen_frame reading) depth before)

module _ {S T : Type 0} (made : S → T → Type 0) (meaning : S → T → Label) where
  -- the last frame is raised
  pub read_raised : (room : S → ℕ) (firm : S → Bool) (old new : S) (reading : T → Label) (before behind : List (Held T)) (label : T)
      → IsKept made meaning room firm old new → Belong made meaning old before → Belong made meaning new behind → made old label
      → seen meaning new behind ≡ raised (seen meaning old before) (length before - 1) (meaning old label)
      → IsReading made meaning new reading → (s : State) → with_frames reading behind s ≡ raised_in (reading label) (with_frames reading before s)
  read_raised room firm old new reading before behind label kept was is m e read s =
      let earlier = IsReading-earlier made meaning room firm old new reading kept read in
      let same = read_frames made meaning old reading before earlier was in
      ap (λ fs. record s { frames = fs }) (
      read_frames made meaning new reading behind read is ∙ e
      ∙ ap₂ (λ fs l. raised fs (length before - 1) l) (sym same) (sym (earlier.agrees label m))
      ∙ ap (λ n. raised (map (seen_frame reading) before) (n - 1) (reading label)) (sym (length-map before (seen_frame reading))))

-- the last of some values has what each has
pub last_has : {X : Type 0} (P : X → Type 0) (front xs : List X) (p : X) → xs ≡ front ++ p ∷ [] → All P xs → P p
last_has P [] xs p e all = (subst (All P) e all) 0 p (omega arith)
last_has P (x ∷ front) xs p e all = last_has P front (front ++ p ∷ []) p refl (All-rest P x (front ++ p ∷ []) xs e all)

pub label_has : {T : Type 0} (P : T → Type 0) (frames : List (Held T)) (depth : ℕ) (label : T) → All (λ h. P h.label) frames → label_at frames depth ≡ Some label → P label
label_has P [] depth label all e = absurd cc
label_has P (h ∷ frames) zero label all e = let same : h.label ≡ label = cc in subst P same (All-head (λ (h : Held _). P h.label) h frames all)
label_has P (h ∷ frames) (suc depth) label all e = label_has P frames depth label (All-rest (λ (h : Held _). P h.label) h frames (h ∷ frames) refl all) e
