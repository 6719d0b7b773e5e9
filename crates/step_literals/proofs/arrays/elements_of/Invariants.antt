use Rattle.step_literals.proofs.ArrayLaws.{Reaches}
use Rattle.step_literals.proofs.arrays.elements_of.Given as goal

-- the elements so far stand before those that are left
abbrev pub invariant-items : goal.invariant-items
invariant-items g l = Reaches l.items l.values l.elements.items l.n l.left
