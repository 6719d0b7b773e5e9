use Rattle.interned_labels.proofs.UnionLaws.{store_of, formed_new}
use Rattle.interned_labels.proofs.interned.Interned.new.Goals as goal

pub invariant_of-result : goal.invariant_of-result
invariant_of-result c = formed_new (store_of c.new.result c.new-2.result.entries c.args.room) c.new.ensures c.new-2.ensures.empty
