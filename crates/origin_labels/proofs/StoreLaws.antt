-- What a store keeps through several calls.
use Rattle.std.proofs.Common.{refl, ◌∙◌, ℕ, Bool}
use Rattle.origin_labels.specs.Label.{Label}
use Rattle.origin_labels.specs.Stores.{IsKept}

-- a store keeps what it is
pub IsKept-refl : {S L : Type 0} (made : S → L → Type 0) (meaning : S → L → Label) (room : S → ℕ) (firm : S → Bool) (s : S) → IsKept made meaning room firm s s
IsKept-refl made meaning room firm s = record { labels = λ label m. (m, refl); same_room = refl; same_firm = refl }

-- what is kept twice is kept
pub IsKept-trans : {S L : Type 0} (made : S → L → Type 0) (meaning : S → L → Label) (room : S → ℕ) (firm : S → Bool) (s t u : S) → IsKept made meaning room firm s t → IsKept made meaning room firm t u → IsKept made meaning room firm s u
IsKept-trans made meaning room firm s t u f g = record {
  labels = λ label m. let first = f.labels label m in let second = g.labels label first.0 in (second.0, second.1 ∙ first.1);
  same_room = g.same_room ∙ f.same_room;
  same_firm = g.same_firm ∙ f.same_firm;
}
