use Rattle.std.proofs.Common.{length}
use Rattle.step_literals.proofs.LiteralLaws.{FrontParts}
use Rattle.step_literals.proofs.parts.parts_of.Given as goal

abbrev pub invariant-loop-property : goal.invariant-loop-property
invariant-loop-property g l = FrontParts l.fn.properties l.fn.values (length l.yielded) l.parts.items
