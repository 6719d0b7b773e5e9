-- Frames, with what their labels mean in a reading.
use Rattle.std.proofs.Common.{◌≡◌, suc, List, [], ◌∷◌, map, refl, sym, ap, ap₂, ◌∙◌, arith}
use Rattle.std.specs.List.{All}
use Rattle.origin_labels.specs.Label.{Label}
use Rattle.flow_frames.specs.Frames.{context}
use Rattle.flow_frames.specs.Held.{Held, Belong, seen, seen_frame}
use Rattle.js_values.specs.Readings.{IsReading}
use Rattle.channel_requests.specs.Answers.{Means}

module _ {S T : Type 0} (made : S → T → Type 0) (meaning : S → T → Label) (store : S) where
  read_all : (reading : T → Label) (frames : List (Held T)) → IsReading made meaning store reading → All (λ h. made store h.label) frames → seen meaning store frames ≡ map (seen_frame reading) frames
  read_all reading [] read all = refl
  read_all reading (h ∷ frames) read all =
      ap₂ (λ f fs. f ∷ fs) (ap (λ l. record { kind = h.kind; label = l; active = h.active }) (sym (read.agrees h.label (all 0 h (omega arith))))) (read_all reading frames read (λ k d lt. all (suc k) d (omega (arith, lt))))

  -- a label that means the context in the store means it in each reading
  pub means_context : (label : T) (frames : List (Held T)) → Belong made meaning store frames → made store label → meaning store label ≡ context (seen meaning store frames) → Means made meaning store label (λ reading. context (map (seen_frame reading) frames))
  means_context label frames belongs m is = record { belongs = m; is = λ reading read. read.agrees label m ∙ is ∙ ap context (read_all reading frames read belongs.labels) }
