use Rattle.std.proofs.Common.{ap, ◌∙◌, subst, length}
use Rattle.interned_labels.specs.Interned.{InternedSets, HasDistinctLabels}
use Rattle.interned_labels.proofs.UnionLaws.{store_of, distinct_labels}
use Rattle.interned_labels.proofs.interned.Interned.len.Goals as goal

pub returns-clause-length : goal.returns-clause-length
returns-clause-length c = c.len.ensures.length ∙ ap (λ (s : InternedSets). length s.sets) c.self.view_is

pub returns-clause-distinct : goal.returns-clause-distinct
returns-clause-distinct c = subst HasDistinctLabels c.self.view_is (distinct_labels (store_of c.self.inside.sets c.self.inside.unions.entries c.self.inside.room) c.len.ensures.distinct)
