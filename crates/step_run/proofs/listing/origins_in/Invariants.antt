use Rattle.std.proofs.Common.{◌≡◌}
use Rattle.std.specs.List.{filter, range_with_len}
use Rattle.origin_labels.specs.Label.{has}
use Rattle.step_run.proofs.listing.origins_in.Given as goal

-- the numbers so far that the set holds
abbrev pub invariant-loop-origin : goal.invariant-loop-origin
invariant-loop-origin g l = l.list ≡ filter (λ k. has k (g.L.Labels.meaning l.labels l.label)) (range_with_len 0 l.origin)
