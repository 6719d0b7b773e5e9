use Rattle.std.proofs.Common.{ap, List, ◌∷◌}
use Rattle.origin_labels.specs.Label.{Label, bottom}
use Rattle.interned_labels.proofs.TableLaws.{table_new}
use Rattle.interned_labels.proofs.set_table.SetTable.new.Goals as goal

pub invariant_of-result : goal.invariant_of-result
invariant_of-result c = table_new _ c.new.ensures.empty

pub returns : goal.returns
returns c = ap (λ (l : List Label). bottom ∷ l) c.new.ensures.empty
