use Rattle.origin_labels.proofs.MaskLaws.{IsLabel-origins_of, origins_of-or}
use Rattle.origin_labels.proofs.masks.MasksLabels.join.Goals as goal

pub returns-clause-meaning : goal.returns-clause-meaning
returns-clause-meaning c = origins_of-or c.args.a.0 c.args.b.0

pub returns-clause-made : goal.returns-clause-made
returns-clause-made c = IsLabel-origins_of _
