-- Frames, with what their labels mean in a reading.
use Rattle.std.proofs.Common.{refl, sym, ap, ap₂, ◌∙◌, ◌≡◌, ℕ, suc, Bool, List, [], ◌∷◌, ◌++◌, map, arith}
use Rattle.std.specs.List.{All}
use Rattle.origin_labels.specs.Label.{Label}
use Rattle.origin_labels.specs.Stores.{IsKept}
use Rattle.flow_frames.specs.declared.kind.Kind.{Kind}
use Rattle.flow_frames.specs.Changes.{pushed}
use Rattle.flow_frames.specs.Held.{Held, Belong, seen, seen_frame}
use Rattle.js_values.specs.Readings.{IsReading}
use Rattle.js_values.proofs.ReadingLaws.{IsReading-earlier}

module _ {S T : Type 0} (made : S → T → Type 0) (meaning : S → T → Label) where
  read_all : (store : S) (reading : T → Label) (frames : List (Held T)) → IsReading made meaning store reading → All (λ h. made store h.label) frames → map (seen_frame reading) frames ≡ seen meaning store frames
  read_all store reading [] read all = refl
  read_all store reading (h ∷ frames) read all =
      ap₂ (λ f fs. f ∷ fs) (ap (λ l. record { kind = h.kind; label = l; active = h.active }) (read.agrees h.label (all 0 h (omega arith)))) (read_all store reading frames read (λ k d lt. all (suc k) d (omega (arith, lt))))

  pub read_frames : (store : S) (reading : T → Label) (frames : List (Held T)) → IsReading made meaning store reading → Belong made meaning store frames → map (seen_frame reading) frames ≡ seen meaning store frames
  read_frames store reading frames read belongs = read_all store reading frames read belongs.labels

  pub read_pushed : (room : S → ℕ) (firm : S → Bool) (old new : S) (reading : T → Label) (before behind : List (Held T)) (kind : Kind) (label : T)
      → IsKept made meaning room firm old new → Belong made meaning old before → Belong made meaning new behind → made old label
      → seen meaning new behind ≡ seen meaning old before ++ pushed kind (meaning old label) ∷ []
      → IsReading made meaning new reading → map (seen_frame reading) behind ≡ map (seen_frame reading) before ++ pushed kind (reading label) ∷ []
  read_pushed room firm old new reading before behind kind label kept was is m e read =
      let earlier = IsReading-earlier made meaning room firm old new reading kept read in
      read_frames new reading behind read is ∙ e ∙ ap₂ (λ fs l. fs ++ pushed kind l ∷ []) (sym (read_frames old reading before earlier was)) (sym (earlier.agrees label m))
