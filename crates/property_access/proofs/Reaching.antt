-- The frame that a throw reaches is the one that a search for the innermost active Try frame gives.
use Rattle.std.proofs.Common.{arith, refl, sym, ap, ◌∙◌, ◌≡◌, ◌<◌, ◌+◌, ℕ, zero, suc, Bool, true, false, List, [], ◌∷◌, map, Some, if◌then◌else◌}
use Rattle.std.specs.List.{slice_get}
use Rattle.std.proofs.lemmas.Bool.{and_parts, false≢true}
use Rattle.std.proofs.lemmas.Option.{none-some, same_Some}
use Rattle.origin_labels.specs.Label.{Label}
use Rattle.flow_frames.specs.declared.kind.Kind.{Kind}
use Rattle.flow_frames.specs.declared.kind.Kind.TheVariants as kind
use Rattle.flow_frames.specs.Frames.{Frame, Catches, IsTarget, catching, root}
use Rattle.flow_frames.specs.Held.{Held, CatchByTry, seen_frame}
use Rattle.flow_frames.specs.Kinds.{is_try}
use Rattle.flow_meaning.specs.Scopes as scopes
use Rattle.flow_meaning.specs.Scopes.{reached}

-- ---- the depth that is counted to

abbrev NoneActive : List Frame → Type 0
NoneActive frames = (k : ℕ) (f : Frame) → slice_get frames k ≡ Some f → f.active ≡ true → ⊥

catching_none_at : (f : Frame) (frames : List Frame) (base best : ℕ) (active : Bool) → f.active ≡ active → NoneActive (f ∷ frames) → scopes.catching (suc base) best frames ≡ best → scopes.catching (suc base) (if f.active then base else best) frames ≡ best
catching_none_at f frames base best true is none rest = absurd (none 0 f refl is)
catching_none_at f frames base best false is none rest = ap (λ a. scopes.catching (suc base) (if a then base else best) frames) is ∙ rest

catching_none : (frames : List Frame) (base best : ℕ) → NoneActive frames → scopes.catching base best frames ≡ best
catching_none [] base best none = refl
catching_none (f ∷ frames) base best none = catching_none_at f frames base best f.active refl none (catching_none frames (suc base) best (λ k g there. none (suc k) g there))

catching_last : (frames : List Frame) (base best k : ℕ) (f : Frame) → slice_get frames k ≡ Some f → f.active ≡ true → ((d : ℕ) (g : Frame) → k < d → slice_get frames d ≡ Some g → g.active ≡ true → ⊥) → scopes.catching base best frames ≡ base + k
catching_last [] base best k f there active inner = absurd (none-some f there)
catching_last (h ∷ frames) base best zero f there active inner =
    let here : h.active ≡ true = ap (λ (g : Frame). g.active) (same_Some h f there) ∙ active in
    let last : base ≡ base + 0 = omega arith in
    ap (λ a. scopes.catching (suc base) (if a then base else best) frames) here
    ∙ catching_none frames (suc base) base (λ d g at. inner (suc d) g (omega arith) at) ∙ last
catching_last (h ∷ frames) base best (suc k) f there active inner =
    let next : suc base + k ≡ base + suc k = omega arith in
    catching_last frames (suc base) (if h.active then base else best) k f there active (λ d g lt at. inner (suc d) g (omega (arith, lt)) at) ∙ next

-- ---- only Try frames are active

try_kind : (k : Kind) → is_try k ≡ true → k ≡ kind.Try
try_kind kind.Try e = refl
try_kind kind.Root e = absurd (false≢true e)
try_kind kind.Branch e = absurd (false≢true e)
try_kind kind.Loop e = absurd (false≢true e)
try_kind kind.Turn e = absurd (false≢true e)
try_kind kind.Call e = absurd (false≢true e)
try_kind kind.Native e = absurd (false≢true e)

active_catches : {T : Type 0} (reading : T → Label) (frames : List (Held T)) → CatchByTry frames → (k : ℕ) (f : Frame) → slice_get (map (seen_frame reading) frames) k ≡ Some f → f.active ≡ true → Catches (map (seen_frame reading) frames) k
active_catches reading [] tries k f there active = absurd (none-some f there)
active_catches reading (h ∷ frames) tries zero f there active =
    let same = same_Some (seen_frame reading h) f there in
    let here : h.active ≡ true = ap (λ (g : Frame). g.active) same ∙ active in
    (seen_frame reading h, refl, try_kind h.kind (and_parts (is_try h.kind) h.active (tries 0 h (omega arith) ∙ here)).0, here)
active_catches reading (h ∷ frames) tries (suc k) f there active = active_catches reading frames (λ n d lt. tries (suc n) d (omega (arith, lt))) k f there active

-- ---- the target

reached_last : (frames : List Frame) (target : ℕ) (f : Frame) → slice_get frames target ≡ Some f → f.active ≡ true → ((d : ℕ) (g : Frame) → target < d → slice_get frames d ≡ Some g → g.active ≡ true → ⊥) → reached 0 frames ≡ target
reached_last [] target f there active inner = absurd (none-some f there)
reached_last (h ∷ frames) zero f there active inner = catching_none frames 1 0 (λ k g at. inner (suc k) g (omega arith) at)
reached_last (h ∷ frames) (suc target) f there active inner =
    let counted : 1 + target ≡ suc target = omega arith in
    catching_last frames 1 0 target f there active (λ d g lt at. inner (suc d) g (omega (arith, lt)) at) ∙ counted

reached_root : (frames : List Frame) → NoneActive frames → reached 0 frames ≡ 0
reached_root [] none = refl
reached_root (h ∷ frames) none = catching_none frames 1 0 (λ k g at. none (suc k) g at)

pub reached_is : {T : Type 0} (reading : T → Label) (frames : List (Held T)) (target : ℕ) → CatchByTry frames → IsTarget (map (seen_frame reading) frames) target → reached 0 (map (seen_frame reading) frames) ≡ target
reached_is reading frames target tries (catching c inner) = reached_last (map (seen_frame reading) frames) target c.0 c.1 c.3 (λ d g lt there active. inner d lt (active_catches reading frames tries d g there active))
reached_is reading frames target tries (root is none) = reached_root (map (seen_frame reading) frames) (λ k g there active. none k (active_catches reading frames tries k g there active)) ∙ sym is
