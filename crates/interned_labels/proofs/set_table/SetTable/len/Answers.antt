use Rattle.std.proofs.Common.{arith, ap, subst, ◌∷◌, length, List}
use Rattle.origin_labels.specs.Label.{Label, bottom}
use Rattle.interned_labels.specs.Interned.{AreDistinct}
use Rattle.interned_labels.proofs.TableLaws.{distinct_numbers}
use Rattle.interned_labels.proofs.set_table.SetTable.len.Goals as goal

pub returns-clause-length : goal.returns-clause-length
returns-clause-length c = omega (arith, c.len.ensures.len, ap (λ (l : List Label). length l) c.self.view_is)

pub returns-clause-distinct : goal.returns-clause-distinct
returns-clause-distinct c = subst AreDistinct c.self.view_is (distinct_numbers (bottom ∷ c.self.inside.sets.keys) c.self.invariant.0)
