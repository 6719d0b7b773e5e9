-- The frame that a throw goes to.
use Rattle.std.proofs.Common.{arith, refl, ap, ap₂, sym, ◌∙◌, ◌≡◌, ◌<◌, ◌≤◌, ◌&&◌, ◌+◌, ℕ, suc, zero, true, false, List, [], ◌∷◌, length, map, get_or, ◌-◌}
use Rattle.std.proofs.lemmas.Bool.{and_parts, false≢true}
use Rattle.std.proofs.lemmas.Option.{none-some, same_Some}
use Rattle.origin_labels.specs.Label.{Label}
use Rattle.flow_frames.specs.Frames.{Frame as SeenFrame, Catches, IsTarget, catching, root, IsTargetAbove, caught_above, none_above}
use Rattle.flow_frames.specs.Held.{seen_frame}
use Rattle.flow_frames.specs.Kinds.{is_try}
use Rattle.flow_frames.specs.Views.{held}
use Rattle.flow_frames.specs.declared.kind.Kind.{Kind}
use Rattle.flow_frames.specs.declared.kind.Kind.TheVariants as kind
use Rattle.flow_frames.specs.declared.frame.Frame.{Frame}

-- only a Try frame's kind is one
try_kind : (k : Kind) → is_try k ≡ true → k ≡ kind.Try
try_kind kind.Try e = refl
try_kind kind.Root e = absurd (false≢true e)
try_kind kind.Branch e = absurd (false≢true e)
try_kind kind.Loop e = absurd (false≢true e)
try_kind kind.Turn e = absurd (false≢true e)
try_kind kind.Call e = absurd (false≢true e)
try_kind kind.Native e = absurd (false≢true e)

module _ {L : Type 0} (meaning : L → Label) where
  -- a frame that passes the test catches
  test-Catches : (frames : List (Frame L)) (depth : ℕ) (x : Frame L) → depth < length frames → (is_try (get_or frames depth x).kind && (get_or frames depth x).active) ≡ true → Catches (map (seen_frame meaning) (map held frames)) depth
  test-Catches [] depth x lt e = absurd (omega arith)
  test-Catches (f ∷ frames) zero x lt e = let parts = and_parts (is_try f.kind) f.active e in (seen_frame meaning (held f), refl, try_kind f.kind parts.0, parts.1)
  test-Catches (f ∷ frames) (suc depth) x lt e = test-Catches frames depth x (omega arith) e

  -- a frame that catches passes the test
  Catches-test : (frames : List (Frame L)) (depth : ℕ) → Catches (map (seen_frame meaning) (map held frames)) depth → (x : Frame L) × (depth < length frames) × ((is_try (get_or frames depth x).kind && (get_or frames depth x).active) ≡ true)
  Catches-test [] depth c = absurd (none-some c.0 c.1)
  Catches-test (f ∷ frames) zero c =
      let same = same_Some (seen_frame meaning (held f)) c.0 c.1 in
      (f, omega arith, ap₂ (λ (k : Kind) a. is_try k && a) (ap (λ (s : SeenFrame). s.kind) same ∙ c.2) (ap (λ (s : SeenFrame). s.active) same ∙ c.3))
  Catches-test (f ∷ frames) (suc depth) c = let rest = Catches-test frames depth c in (rest.0, (let within = rest.1 in omega arith), rest.2)

  -- no frame from a depth on catches, where none passes the test
  none_catches : (frames : List (Frame L)) (from : ℕ) → ((deeper : ℕ) (x : Frame L) → from ≤ deeper → deeper < length frames → (is_try (get_or frames deeper x).kind && (get_or frames deeper x).active) ≡ false) → (deeper : ℕ) → from ≤ deeper → Catches (map (seen_frame meaning) (map held frames)) deeper → ⊥
  none_catches frames from none deeper le c = let there = Catches-test frames deeper c in false≢true (sym (none deeper there.0 le there.1) ∙ there.2)

  -- the innermost frame that passes the test is the target
  pub target-catching : (frames : List (Frame L)) (n : ℕ) (x : Frame L) → 0 < n → n ≤ length frames → x ≡ get_or frames (n - 1) x → (is_try x.kind && x.active) ≡ true → ((deeper : ℕ) (y : Frame L) → n ≤ deeper → deeper < length frames → (is_try (get_or frames deeper y).kind && (get_or frames deeper y).active) ≡ false) → IsTarget (map (seen_frame meaning) (map held frames)) (n - 1)
  target-catching frames n x some le read e none =
      catching (test-Catches frames (n - 1) x (omega arith) (ap (λ (f : Frame L). is_try f.kind && f.active) (sym read) ∙ e))
      (λ deeper lt c. none_catches frames n none deeper (omega arith) c)

  -- the Root is the target where no frame passes the test
  pub target-root : (frames : List (Frame L)) (n : ℕ) → n ≤ 0 → ((deeper : ℕ) (y : Frame L) → n ≤ deeper → deeper < length frames → (is_try (get_or frames deeper y).kind && (get_or frames deeper y).active) ≡ false) → IsTarget (map (seen_frame meaning) (map held frames)) 0
  target-root frames n none_left none = root refl (λ deeper c. none_catches frames n none deeper (omega arith) c)

  -- no frame from a depth on passes the test
  abbrev pub NonePasses : List (Frame L) → ℕ → Type 0
  NonePasses frames n = (deeper : ℕ) (y : Frame L) → n ≤ deeper → deeper < length frames → (is_try (get_or frames deeper y).kind && (get_or frames deeper y).active) ≡ false

  -- the innermost frame inside another one that passes the test is reached first
  pub above-caught : (frames : List (Frame L)) (to n : ℕ) (x : Frame L) → to + 1 < n → n ≤ length frames → x ≡ get_or frames (n - 1) x → (is_try x.kind && x.active) ≡ true → NonePasses frames n → IsTargetAbove (map (seen_frame meaning) (map held frames)) to (n - 1)
  above-caught frames to n x some le read e none =
      caught_above (omega (arith, some)) (test-Catches frames (n - 1) x (omega (arith, some)) (ap (λ (f : Frame L). is_try f.kind && f.active) (sym read) ∙ e))
      (λ deeper lt c. none_catches frames n none deeper (omega (arith, lt)) c)

  -- where none passes the test, the other one itself is
  pub above-none : (frames : List (Frame L)) (to n : ℕ) → n ≤ to + 1 → NonePasses frames n → IsTargetAbove (map (seen_frame meaning) (map held frames)) to to
  above-none frames to n le none = none_above refl (λ deeper lt c. none_catches frames n none deeper (omega (arith, le, lt)) c)
