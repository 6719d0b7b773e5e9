use Rattle.std.proofs.Common.{◌≡◌, ◌<◌, ℕ, false}
use Rattle.flow_policy.specs.Observed.{differ_at}
use Rattle.flow_policy.proofs.observed.disagree.Given as goal

abbrev pub invariant-loop-i : goal.invariant-loop-i
invariant-loop-i l = (k : ℕ) → k < l.i → differ_at l.observer l.policy l.first l.second k ≡ false
