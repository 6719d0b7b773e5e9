use Rattle.std.proofs.Common.{length}
use Rattle.flow_io.proofs.Written.{WritesOn}
use Rattle.flow_io.proofs.real.write_whole.Given as goal

abbrev pub invariant-loop-rest : goal.invariant-loop-rest
invariant-loop-rest g l = WritesOn (g.W.Write.contents l.initial.out) (g.W.Write.contents l.out) l.piece l.rest

abbrev pub decreases-loop-rest : goal.decreases-loop-rest
decreases-loop-rest g l = length l.rest
