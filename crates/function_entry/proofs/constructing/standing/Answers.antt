use Rattle.std.proofs.Common.{arith}
use Rattle.function_entry.proofs.MakingLaws.{stands, falls}
use Rattle.function_entry.proofs.constructing.standing.Goals as goal

pub returns-then-stands-clause-is : goal.returns-then-stands-clause-is
returns-then-stands-clause-is g c = let len = c.len.ensures in stands c.args.heap.now c.args.o (omega (arith, len, c.if-stands.true))

pub returns-else-stands-clause-is : goal.returns-else-stands-clause-is
returns-else-stands-clause-is g c = let len = c.len.ensures in falls c.args.heap.now c.args.o (omega (arith, len, c.if-stands.false))
