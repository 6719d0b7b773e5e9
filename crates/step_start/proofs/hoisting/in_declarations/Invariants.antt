use Rattle.std.proofs.Common.{drop}
use Rattle.step_start.proofs.Names.{SoFar, names_in}
use Rattle.step_start.proofs.hoisting.in_declarations.Given as goal

abbrev pub invariant-others : goal.invariant-others
invariant-others g l = SoFar l.initial.heap (names_in l.declaration-items) (names_in (drop l.declaration-index l.declaration-items)) l.heap
