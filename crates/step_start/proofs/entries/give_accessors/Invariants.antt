use Rattle.step_start.proofs.AccessorLaws.{Accessing}
use Rattle.step_start.proofs.entries.give_accessors.Given as goal

abbrev pub invariant-objects : goal.invariant-objects
invariant-objects g l = Accessing l.fn.heap l.n l.heap
