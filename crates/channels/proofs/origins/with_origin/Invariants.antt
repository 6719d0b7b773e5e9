use Rattle.std.proofs.Common.{◌≡◌, ◌∷◌, ◌++◌, drop}
use Rattle.origin_labels.specs.Label.{IsLabel}
use Rattle.channels.proofs.SetLaws.{below, above}
use Rattle.channels.proofs.origins.with_origin.Given as goal

-- the origins so far, with those that are left, are those below the new one
abbrev pub invariant-loop-item : goal.invariant-loop-item
invariant-loop-item l = record { whole : l.grown ++ below l.origin (drop l.item-index l.item-items) ≡ below l.origin l.set; rises : IsLabel l.set }

-- and then the new one and those above it
abbrev pub invariant-loop-item-2 : goal.invariant-loop-item-2
invariant-loop-item-2 l = record { whole : l.grown ++ above l.origin (drop l.item-index l.item-items) ≡ below l.origin l.set ++ l.origin ∷ above l.origin l.set; rises : IsLabel l.set }
