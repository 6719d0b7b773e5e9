-- The frame that a jump reaches first is the one that a search for the innermost active Try frame gives, if that is inside the frame that the jump goes to.
use Rattle.std.proofs.Common.{arith, refl, ap, sym, ◌∙◌, ◌≡◌, ◌≤◌, ◌+◌, ◌-◌, ℕ, zero, suc, Bool, true, false, List, [], ◌∷◌, map, drop, Some, if◌then◌else◌}
use Rattle.std.specs.List.{slice_get}
use Rattle.std.proofs.lemmas.Bool.{and_parts, false≢true}
use Rattle.std.proofs.lemmas.Option.{none-some, same_Some}
use Rattle.origin_labels.specs.Label.{Label}
use Rattle.flow_frames.specs.declared.kind.Kind.{Kind}
use Rattle.flow_frames.specs.declared.kind.Kind.TheVariants as kind
use Rattle.flow_frames.specs.Frames.{Frame, Catches, IsTargetAbove, caught_above, none_above}
use Rattle.flow_frames.specs.Held.{Held, CatchByTry, seen_frame}
use Rattle.flow_frames.specs.Kinds.{is_try}
use Rattle.flow_meaning.specs.Scopes as scopes
use Rattle.flow_meaning.specs.Scopes.{reached}

-- ---- the depth that is counted to

-- none from a place on catches
abbrev NoneFrom : ℕ → List Frame → Type 0
NoneFrom n frames = (k : ℕ) (f : Frame) → n ≤ k → slice_get frames k ≡ Some f → f.active ≡ true → ⊥

catching_none_at : (f : Frame) (frames : List Frame) (base best : ℕ) (active : Bool) → f.active ≡ active → NoneFrom 0 (f ∷ frames) → scopes.catching (suc base) best frames ≡ best → scopes.catching (suc base) (if f.active then base else best) frames ≡ best
catching_none_at f frames base best true is none rest = absurd (none 0 f (omega arith) refl is)
catching_none_at f frames base best false is none rest = ap (λ a. scopes.catching (suc base) (if a then base else best) frames) is ∙ rest

catching_none : (frames : List Frame) (base best : ℕ) → NoneFrom 0 frames → scopes.catching base best frames ≡ best
catching_none [] base best none = refl
catching_none (f ∷ frames) base best none = catching_none_at f frames base best f.active refl none (catching_none frames (suc base) best (λ k g le there. none (suc k) g (omega arith) there))

none_behind : (n : ℕ) (frames : List Frame) (base best : ℕ) → NoneFrom n frames → scopes.catching base best (drop n frames) ≡ best
none_behind zero frames base best none = catching_none frames base best none
none_behind (suc n) [] base best none = refl
none_behind (suc n) (f ∷ frames) base best none = none_behind n frames base best (λ k g le there. none (suc k) g (omega (arith, le)) there)

-- the last that catches
abbrev LastIs : List Frame → ℕ → Frame → Type 0
LastIs frames k f = (slice_get frames k ≡ Some f) × (f.active ≡ true) × NoneFrom (suc k) frames

last_behind : (h : Frame) (frames : List Frame) (k : ℕ) (f : Frame) → LastIs (h ∷ frames) (suc k) f → LastIs frames k f
last_behind h frames k f last = (last.0, last.1, λ d g le there. last.2 (suc d) g (omega (arith, le)) there)

catching_last : (frames : List Frame) (base best k : ℕ) (f : Frame) → LastIs frames k f → scopes.catching base best frames ≡ base + k
catching_last [] base best k f last = absurd (none-some f last.0)
catching_last (h ∷ frames) base best zero f last =
    let here : h.active ≡ true = ap (λ (g : Frame). g.active) (same_Some h f last.0) ∙ last.1 in
    let sum : base ≡ base + 0 = omega arith in
    ap (λ a. scopes.catching (suc base) (if a then base else best) frames) here
    ∙ catching_none frames (suc base) base (λ d g le at. last.2 (suc d) g (omega (arith, le)) at) ∙ sum
catching_last (h ∷ frames) base best (suc k) f last =
    let next : suc base + k ≡ base + suc k = omega arith in
    catching_last frames (suc base) (if h.active then base else best) k f (last_behind h frames k f last) ∙ next

last_from : (n : ℕ) (frames : List Frame) (base best k : ℕ) (f : Frame) → n ≤ k → LastIs frames k f → scopes.catching base best (drop n frames) ≡ base + (k - n)
last_from zero frames base best k f le last = let all : base + k ≡ base + (k - 0) = omega arith in catching_last frames base best k f last ∙ all
last_from (suc n) [] base best k f le last = absurd (none-some f last.0)
last_from (suc n) (h ∷ frames) base best zero f le last = absurd (omega (arith, le))
last_from (suc n) (h ∷ frames) base best (suc k) f le last =
    let less : base + (k - n) ≡ base + (suc k - suc n) = omega arith in
    last_from n frames base best k f (omega (arith, le)) (last_behind h frames k f last) ∙ less

-- ---- only Try frames are active

try_kind : (k : Kind) → is_try k ≡ true → k ≡ kind.Try
try_kind kind.Try e = refl
try_kind kind.Root e = absurd (false≢true e)
try_kind kind.Branch e = absurd (false≢true e)
try_kind kind.Loop e = absurd (false≢true e)
try_kind kind.Turn e = absurd (false≢true e)
try_kind kind.Call e = absurd (false≢true e)
try_kind kind.Native e = absurd (false≢true e)

active_catches : {T : Type 0} (reading : T → Label) (frames : List (Held T)) → CatchByTry frames → (k : ℕ) (f : Frame) → slice_get (map (seen_frame reading) frames) k ≡ Some f → f.active ≡ true → Catches (map (seen_frame reading) frames) k
active_catches reading [] tries k f there active = absurd (none-some f there)
active_catches reading (h ∷ frames) tries zero f there active =
    let same = same_Some (seen_frame reading h) f there in
    let here : h.active ≡ true = ap (λ (g : Frame). g.active) same ∙ active in
    (seen_frame reading h, refl, try_kind h.kind (and_parts (is_try h.kind) h.active (tries 0 h (omega arith) ∙ here)).0, here)
active_catches reading (h ∷ frames) tries (suc k) f there active = active_catches reading frames (λ n d lt. tries (suc n) d (omega (arith, lt))) k f there active

-- ---- the frame

pub reached_above : {T : Type 0} (reading : T → Label) (frames : List (Held T)) (to depth : ℕ) → CatchByTry frames → IsTargetAbove (map (seen_frame reading) frames) to depth → reached to (map (seen_frame reading) frames) ≡ depth
reached_above reading frames to depth tries (caught_above lt c inner) =
    let sum : suc to + (depth - suc to) ≡ depth = omega (arith, lt) in
    last_from (suc to) (map (seen_frame reading) frames) (suc to) to depth c.0 (omega (arith, lt)) (c.1, c.3, λ d g le there active. inner d (omega (arith, le)) (active_catches reading frames tries d g there active)) ∙ sum
reached_above reading frames to depth tries (none_above is none) =
    none_behind (suc to) (map (seen_frame reading) frames) (suc to) to (λ d g from there active. none d (omega (arith, from)) (active_catches reading frames tries d g there active)) ∙ sym is
