use Rattle.std.proofs.Common.{sym, ap, subst, ◌∙◌}
use Rattle.continuations.specs.Arrays.{IsFound}
use Rattle.continuations.proofs.arrays.item_from.Goals as goal

pub returns-in-End : goal.returns-in-End
returns-in-End c = sym (subst (λ f. IsFound f c.args.list.now c.along.place) c.in-End.is c.item_at.ensures c.along.place) ∙ c.along.invariant

pub returns-in-Value : goal.returns-in-Value
returns-in-Value c = sym (subst (λ f. IsFound f c.args.list.now c.along.place) c.in-Value.is c.item_at.ensures c.along.place) ∙ c.along.invariant
