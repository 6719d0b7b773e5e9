use Rattle.origin_labels.proofs.MaskLaws.{IsLabel-origins_of, origins_of-single}
use Rattle.origin_labels.proofs.masks.MasksLabels.single.Goals as goal

pub returns-clause-meaning : goal.returns-clause-meaning
returns-clause-meaning c = origins_of-single c.args.origin c.requires

pub returns-clause-made : goal.returns-clause-made
returns-clause-made c = IsLabel-origins_of _
