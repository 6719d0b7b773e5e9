use Rattle.std.proofs.Common.{◌≡◌, replicate}
use Rattle.step_start.proofs.starting.no_lines_read.Given as goal

abbrev pub invariant-loop : goal.invariant-loop
invariant-loop l = l.positions.items ≡ replicate l.counter 0
