use Rattle.std.proofs.Common.{◌≡◌, ◌≤◌, ◌-◌, ◌∷◌}
use Rattle.std.proofs.Math.ListN.{replicate}
use Rattle.call_records.proofs.entry.first_values.Given as goal

-- so many values are there, and there is room for all
abbrev pub invariant-loop : goal.invariant-loop
invariant-loop g l = (2 ≤ l.counter) × (l.counter ≤ l.count) × (l.values.len ≡ l.counter) × (l.count ≤ l.values.cap) × (l.values.items ≡ l.fn.this ∷ l.fn.function ∷ replicate (l.counter - 2) l.missing)
