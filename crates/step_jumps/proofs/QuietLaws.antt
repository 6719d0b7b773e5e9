-- A frame that catches no longer, in a reading of the labels.
use Rattle.std.proofs.Common.{refl, sym, ap, ◌∙◌, ◌≡◌, ◌-◌, ℕ, zero, suc, false, ◌&&◌, List, [], ◌∷◌, map, length, Some, arith}
use Rattle.std.proofs.lemmas.List.{length-map}
use Rattle.std.proofs.lemmas.Option.{same_Some}
use Rattle.origin_labels.specs.Label.{Label}
use Rattle.flow_frames.specs.declared.kind.Kind.{Kind}
use Rattle.flow_frames.specs.Changes.{changed_at, quieted}
use Rattle.flow_frames.specs.Frames.{Frame}
use Rattle.flow_frames.specs.Held.{Held, CatchByTry, kind_at, seen_frame}
use Rattle.flow_frames.specs.Kinds.{is_try}
use Rattle.flow_meaning.specs.Scopes.{innermost}

module _ {T : Type 0} (reading : T → Label) where
  read_changed : (frames : List (Held T)) (n : ℕ) → map (seen_frame reading) (quieted frames n) ≡ changed_at (λ f. record f { active = false }) (map (seen_frame reading) frames) n
  unfolding changed_at
  read_changed [] n = refl
  read_changed (h ∷ frames) zero = refl
  read_changed (h ∷ frames) (suc n) = ap (λ fs. seen_frame reading h ∷ fs) (read_changed frames n)

  pub read_quieted : (before after : List (Held T)) (n : ℕ) → n ≡ length before - 1 → after ≡ quieted before n
      → map (seen_frame reading) after ≡ changed_at (λ f. record f { active = false }) (map (seen_frame reading) before) (innermost (map (seen_frame reading) before))
  read_quieted before after n last is =
      ap (map (seen_frame reading)) is ∙ read_changed before n
      ∙ ap (λ k. changed_at (λ (f : Frame). record f { active = false }) (map (seen_frame reading) before) k) (last ∙ ap (λ k. k - 1) (sym (length-map before (seen_frame reading))))

-- a frame of another kind doesn't catch as it is
inactive : {T : Type 0} (h : Held T) → is_try h.kind ≡ false → (is_try h.kind && h.active) ≡ h.active → record h { active = false } ≡ h
inactive h other catch = let none : false ≡ h.active = ap (λ b. b && h.active) (sym other) ∙ catch in ap (λ b. record h { active = b }) none

pub stays_quiet : {T : Type 0} (frames : List (Held T)) (n : ℕ) (k : Kind) → kind_at frames n ≡ Some k → is_try k ≡ false → CatchByTry frames → frames ≡ quieted frames n
unfolding changed_at
stays_quiet [] n k there other tries = refl
stays_quiet (h ∷ frames) zero k there other tries = let same = same_Some h.kind k there in ap (λ x. x ∷ frames) (sym (inactive h (ap is_try same ∙ other) (tries 0 h (omega arith))))
stays_quiet (h ∷ frames) (suc n) k there other tries = ap (λ xs. h ∷ xs) (stays_quiet frames n k there other (λ m d lt. tries (suc m) d (omega (arith, lt))))
