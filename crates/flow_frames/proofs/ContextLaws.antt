-- Laws of contexts, and of frames as they are seen.
use Rattle.std.proofs.Common.{refl, ap, ap₂, sym, ◌∙◌, ◌≡◌, ℕ, Bool, List, [], ◌∷◌, ◌++◌}
use Rattle.std.specs.List.{All}
use Rattle.std.proofs.lemmas.List.Elements.{All-head, All-tail}
use Rattle.origin_labels.specs.Label.{Label, IsLabel, bottom, union}
use Rattle.origin_labels.specs.Stores.{IsKept}
use Rattle.origin_labels.proofs.LabelLaws.{IsLabel-bottom, IsLabel-union, union-assoc, union-comm, union-bottom}
use Rattle.flow_frames.specs.Frames.{Frame, context}
use Rattle.flow_frames.specs.Held.{Held, seen}

-- ---- unions

-- two labels that are joined one after the other change places
pub union_swap : (a b c : Label) → IsLabel b → IsLabel c → union (union a b) c ≡ union (union a c) b
union_swap a b c f g = union-assoc a b c g ∙ ap (union a) (union-comm b c f g) ∙ sym (union-assoc a c b f)

-- ---- contexts

-- a context is a label
pub IsLabel-context : (frames : List Frame) → IsLabel (context frames)
unfolding context
IsLabel-context [] = IsLabel-bottom
IsLabel-context (f ∷ frames) = IsLabel-union f.label (context frames) (IsLabel-context frames)

-- the context of no frames is the empty set
pub context-nil : context [] ≡ bottom
unfolding context
context-nil = refl

-- the context of one more frame outside
pub context-cons : (f : Frame) (frames : List Frame) → context (f ∷ frames) ≡ union f.label (context frames)
unfolding context
context-cons f frames = refl

-- the empty set adds nothing
pub bottom-union : (a : Label) → union bottom a ≡ a
unfolding union
bottom-union a = refl

-- the context of one frame is its label
pub context-one : (f : Frame) → IsLabel f.label → context (f ∷ []) ≡ f.label
unfolding context
context-one f h = union-bottom f.label h

-- the context of frames and those inside them
pub context-append : (outer inner : List Frame) → context (outer ++ inner) ≡ union (context outer) (context inner)
unfolding context
context-append [] inner = sym (bottom-union (context inner))
context-append (f ∷ outer) inner = ap (union f.label) (context-append outer inner) ∙ sym (union-assoc f.label (context outer) (context inner) (IsLabel-context inner))

-- the context of one more frame inside
pub context-push : (frames : List Frame) (f : Frame) → IsLabel f.label → context (frames ++ f ∷ []) ≡ union (context frames) f.label
context-push frames f h = context-append frames (f ∷ []) ∙ ap (union (context frames)) (context-one f h)

-- ---- frames as they are seen

module _ {S L : Type 0} (made : S → L → Type 0) (meaning : S → L → Label) where
  -- a store that is kept shows what it showed
  pub seen-kept : (room : S → ℕ) (firm : S → Bool) (old new : S) (frames : List (Held L)) → IsKept made meaning room firm old new → All (λ h. made old h.label) frames → seen meaning new frames ≡ seen meaning old frames
  seen-kept room firm old new [] kept f = refl
  seen-kept room firm old new (h ∷ frames) kept f =
      ap₂ (λ (x : Label) (xs : List Frame). record { kind = h.kind; label = x; active = h.active } ∷ xs) (kept.labels h.label (All-head (λ (k : Held L). made old k.label) h frames f)).1 (seen-kept room firm old new frames kept (All-tail (λ (k : Held L). made old k.label) h frames f))
