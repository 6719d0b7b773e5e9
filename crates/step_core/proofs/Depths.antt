-- The depths of the frames in which scopes are pending.
use Rattle.std.proofs.Common.{sym, ap, ap₂, ◌∙◌, ◌≡◌, ◌<◌, ◌+◌, ℕ, suc, List, [], ◌∷◌, ◌++◌, length, arith}
use Rattle.std.proofs.lemmas.List.{length-append, same_from_push}
use Rattle.flow_frames.specs.Held.{Held}
use Rattle.continuations.specs.declared.continuation.Control.{Control}
use Rattle.continuations.specs.declared.continuation.Control.TheVariants as control
use Rattle.continuations.specs.Resuming.{StandsAt}
use Rattle.continuations.specs.Invariant.{depths, Framed}

one_more : (pending : List ℕ) (depth : ℕ) → length (pending ++ depth ∷ []) ≡ suc (length pending)
one_more pending depth = omega (arith, length-append pending (depth ∷ []))

-- one more scope, in the frame behind those of the others
pub depths_more : (pending : List ℕ) (depth : ℕ) → pending ≡ depths (length pending) → depth ≡ suc (length pending) → pending ++ depth ∷ [] ≡ depths (length (pending ++ depth ∷ []))
depths_more pending depth are is = ap₂ (λ ds d. ds ++ d ∷ []) are is ∙ sym (ap depths (one_more pending depth))

-- the last scope stands in the last frame
last_depths : (pending : List ℕ) (depth : ℕ) → pending ++ depth ∷ [] ≡ depths (length (pending ++ depth ∷ [])) → (pending ≡ depths (length pending)) × (depth ≡ suc (length pending))
last_depths pending depth are = same_from_push pending (depths (length pending)) depth (suc (length pending)) (are ∙ ap depths (one_more pending depth))

pub depths_outside : (pending : List ℕ) (depth : ℕ) → pending ++ depth ∷ [] ≡ depths (length (pending ++ depth ∷ [])) → pending ≡ depths (length pending)
depths_outside pending depth are = (last_depths pending depth are).0

pub inner_depth : (pending : List ℕ) (depth : ℕ) → pending ++ depth ∷ [] ≡ depths (length (pending ++ depth ∷ [])) → 0 < depth
inner_depth pending depth are = let is = (last_depths pending depth are).1 in omega (arith, is)

pub last_depth : (pending : List ℕ) (depth frames : ℕ) → pending ++ depth ∷ [] ≡ depths (length (pending ++ depth ∷ [])) → frames ≡ suc (length (pending ++ depth ∷ [])) → frames ≡ depth + 1
last_depth pending depth frames are size = let is = (last_depths pending depth are).1 in let more = one_more pending depth in omega (arith, is, more, size)

-- where no jump has left a frame
pub framed : (move : Control) (frames scopes : ℕ) → frames ≡ suc scopes → Framed move frames scopes
framed (control.Jumps j) frames scopes size = omega (arith, size)
framed _ frames scopes size = size

-- as many frames stand as at a depth, or fewer, if a jump goes on
pub framed_at : {T : Type 0} (depth : ℕ) (frames : List (Held T)) (move : Control) (scopes : ℕ) → depth ≡ suc scopes → StandsAt depth frames move → Framed move (length frames) scopes
framed_at depth frames (control.Jumps j) scopes deep stands = omega (arith, deep, stands)
framed_at depth frames _ scopes deep stands = stands ∙ deep
