use Rattle.std.proofs.Common.{arith, refl, ◌∙◌, ◌≡◌, ◌<◌, ◌≤◌, ◌+◌, ◌⊎◌, inl, inr, length, drop, get_or}
use Rattle.origin_labels.specs.Label.{within}
use Rattle.interned_labels.proofs.RisingLaws.{search_more, search_ends}
use Rattle.interned_labels.proofs.rising.is_included.Goals as goal

pub loop-origin-init : goal.loop-origin-init
loop-origin-init c = record { place = omega arith; rest = refl }

pub loop-origin-preserved : goal.loop-origin-preserved
loop-origin-preserved c =
    let a = c.args.a.now in
    let b = c.args.b.now in
    let i = c.loop-origin.i in
    let j = c.if-i-a.i in
    let k = c.loop-origin.origin-index in
    let way : ((i < length a) × (get_or a i 0 ≡ get_or b k 0) × (j ≡ i + 1)) ⊎ ((((i < length a) × (get_or a i 0 ≡ get_or b k 0 → ⊥)) ⊎ (length a ≤ i)) × (j ≡ i)) =
    elim c.if-i-a.branch-raw as (λ _. ((i < length a) × (get_or a i 0 ≡ get_or b k 0) × (j ≡ i + 1)) ⊎ ((((i < length a) × (get_or a i 0 ≡ get_or b k 0 → ⊥)) ⊎ (length a ≤ i)) × (j ≡ i))) [
      | inl w ↦ inl (w.if-i-a.true, w.if-a-i.true, w.i-is)
      | inr w ↦ inr (
        elim w.else-i-a.branch-raw as (λ _. ((i < length a) × (get_or a i 0 ≡ get_or b k 0 → ⊥)) ⊎ (length a ≤ i)) [ inl v ↦ inl (v.if-i-a.true, v.if-a-i.false) | inr v ↦ inr v.if-i-a.false ],
        w.i-is,
      )
    ] in
    let more = search_more a b (within a b) i j k c.requires.first c.requires.second c.loop-origin.invariant.place c.loop-origin-test.true way c.loop-origin.invariant.rest in
    record { place = more.0; rest = more.1 }

pub returns : goal.returns
returns c = search_ends c.args.a.now c.args.b.now c.loop-origin.i c.loop-origin.origin-index c.loop-origin.invariant.place c.loop-origin-test.false ∙ c.loop-origin.invariant.rest
