use Rattle.interned_labels.proofs.UnionLaws.{store_of, bottom_made}
use Rattle.interned_labels.proofs.interned.InternedLabels.bottom.Goals as goal

pub returns-clause-made : goal.returns-clause-made
returns-clause-made c = (bottom_made (store_of c.self.inside.sets c.self.inside.unions.entries c.self.inside.room) c.args.self.now c.self.view_is c.self.invariant).0

pub returns-clause-meaning : goal.returns-clause-meaning
returns-clause-meaning c = (bottom_made (store_of c.self.inside.sets c.self.inside.unions.entries c.self.inside.room) c.args.self.now c.self.view_is c.self.invariant).1
