use Rattle.std.proofs.Common.{◌≡◌, ◌<◌, ℕ, false, [], get_or, bytes_eq}
use Rattle.origin_labels.proofs.origins.Origins.index_of.Given as goal

abbrev pub invariant-loop-i : goal.invariant-loop-i
invariant-loop-i l = (k : ℕ) → k < l.i → bytes_eq (get_or l.other-items k []) l.name ≡ false
