use Rattle.std.proofs.Common.{◌≡◌, map, length}
use Rattle.es_meaning.specs.Holders.{named_in}
use Rattle.step_start.proofs.entries.named_in.Given as goal

abbrev pub invariant-loop-rows : goal.invariant-loop-rows
invariant-loop-rows l = named_in l.name (map (λ e. (e.0.now, e.1)) l.rows) ≡ named_in l.name (map (λ e. (e.0.now, e.1)) l.table)

abbrev pub decreases-loop-rows : goal.decreases-loop-rows
decreases-loop-rows l = length l.rows
