-- What labels of a store mean, in each reading that agrees with it.
use Rattle.std.proofs.Common.{◌≡◌, ℕ, Bool, List, map, ap, ap₂, sym, refl, ◌∙◌}
use Rattle.origin_labels.specs.Label.{Label, bottom, union}
use Rattle.origin_labels.specs.Stores.{IsKept}
use Rattle.flow_frames.specs.Frames.{context}
use Rattle.flow_frames.specs.Held.{Held, Belong, seen, seen_frame}
use Rattle.js_values.proofs.ReadingLaws.{IsReading-earlier}
use Rattle.prototype_walk.specs.Answers.{Means}
use Rattle.property_access.proofs.Reading.{read_frames}

module _ {S T : Type 0} (made : S → T → Type 0) (meaning : S → T → Label) (store : S) where
  -- a label means itself
  pub means_itself : (label : T) → made store label → Means made meaning store label (λ reading. reading label)
  means_itself label m = record { belongs = m; is = λ reading agrees. refl }

  -- the empty one
  pub means_bottom : (label : T) → made store label → meaning store label ≡ bottom → Means made meaning store label (λ reading. bottom)
  means_bottom label m is = record { belongs = m; is = λ reading agrees. agrees.agrees label m ∙ is }

  -- the union of two labels is that of what they mean
  pub means_union : (a b label : T) (first second : (T → Label) → Label) → Means made meaning store a first → Means made meaning store b second → Means made meaning store label (λ reading. union (reading a) (reading b))
      → Means made meaning store label (λ reading. union (first reading) (second reading))
  means_union a b label first second p q m = record { belongs = m.belongs; is = λ reading agrees. m.is reading agrees ∙ ap₂ union (p.is reading agrees) (q.is reading agrees) }

  -- it means whatever is equal to that
  pub means_as : (label : T) (before after : (T → Label) → Label) → Means made meaning store label before → ((reading : T → Label) → before reading ≡ after reading) → Means made meaning store label after
  means_as label before after means same = record { belongs = means.belongs; is = λ reading agrees. means.is reading agrees ∙ same reading }

-- the context, in a later store
pub means_context : {S T : Type 0} (made : S → T → Type 0) (meaning : S → T → Label) (room : S → ℕ) (firm : S → Bool) (old new : S) (kept : IsKept made meaning room firm old new) (frames : List (Held T)) (label : T)
    → Belong made meaning old frames → made old label → meaning old label ≡ context (seen meaning old frames) → Means made meaning new label (λ reading. context (map (seen_frame reading) frames))
means_context made meaning room firm old new kept frames label belongs m is = record {
  belongs = (kept.labels label m).0;
  is = λ reading agrees.
      let earlier = IsReading-earlier made meaning room firm old new reading kept agrees in
      earlier.agrees label m ∙ is ∙ sym (ap context (read_frames made meaning old reading frames earlier belongs));
}
