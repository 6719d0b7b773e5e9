use Rattle.std.proofs.Common.{length}
use Rattle.continuations.proofs.KeptLaws.{owned_front, taken_last}
use Rattle.continuations.proofs.stack.Stack.next_work.Goals as goal

pub invariant_of-self : goal.invariant_of-self
invariant_of-self g c = owned_front c.self.inside.works c.pop.new.self c.pop.result (length c.self.inside.operands.items) c.pop.ensures.items c.self.invariant

pub returns-clause-taken : goal.returns-clause-taken
returns-clause-taken g c = rw (← c.self.view_is) (taken_last c.self.inside.works c.pop.new.self c.self.inside.operands.items c.pop.result c.pop.ensures.items c.self.invariant)
