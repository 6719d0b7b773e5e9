-- What is seen of frames that a store holds.
use Rattle.std.proofs.Common.{refl, ap, sym, ◌≡◌, ℕ, suc, zero, false, List, [], ◌∷◌, length, take, Some}
use Rattle.std.specs.List.{slice_get}
use Rattle.std.specs.Option.{option_map}
use Rattle.std.proofs.lemmas.List.{length-map, take-map}
use Rattle.std.proofs.lemmas.Option.{none-some, same_Some}
use Rattle.origin_labels.specs.Label.{Label}
use Rattle.flow_frames.specs.Frames.{Frame}
use Rattle.flow_frames.specs.Held.{Held, kind_at, label_at, meant_at, seen, seen_frame}
use Rattle.flow_frames.specs.Changes.{changed_at, quieted}

module _ {S L : Type 0} (meaning : S → L → Label) (store : S) where
  -- as many frames are seen as there are
  pub length-seen : (frames : List (Held L)) → length (seen meaning store frames) ≡ length frames
  length-seen frames = length-map frames (seen_frame (meaning store))

  -- the outermost frames are seen outermost
  pub take-seen : (n : ℕ) (frames : List (Held L)) → take n (seen meaning store frames) ≡ seen meaning store (take n frames)
  take-seen n frames = take-map (seen_frame (meaning store)) n frames

  -- a kind is seen as it is
  pub kind_at-seen : (frames : List (Held L)) (depth : ℕ) → option_map (λ (f : Frame). f.kind) (slice_get (seen meaning store frames) depth) ≡ kind_at frames depth
  kind_at-seen [] depth = refl
  kind_at-seen (h ∷ frames) zero = refl
  kind_at-seen (h ∷ frames) (suc depth) = kind_at-seen frames depth

  -- a label is seen as what it means
  pub label_at-seen : (frames : List (Held L)) (depth : ℕ) (label : L) → label_at frames depth ≡ Some label → meaning store label ≡ meant_at (seen meaning store frames) depth
  label_at-seen [] depth label e = absurd (none-some label e)
  label_at-seen (h ∷ frames) zero label e = ap (meaning store) (sym (same_Some h.label label e))
  label_at-seen (h ∷ frames) (suc depth) label e = label_at-seen frames depth label e

  -- a frame that is made quiet is seen so
  pub quieted-seen : (frames : List (Held L)) (depth : ℕ) → seen meaning store (quieted frames depth) ≡ changed_at (λ (f : Frame). record f { active = false }) (seen meaning store frames) depth
  unfolding changed_at
  quieted-seen [] depth = refl
  quieted-seen (h ∷ frames) zero = refl
  quieted-seen (h ∷ frames) (suc depth) = ap (◌∷◌ (seen_frame (meaning store) h)) (quieted-seen frames depth)
