use Rattle.origin_labels.proofs.MaskLaws.{IsLabel-origins_of, origins_of-zero}
use Rattle.origin_labels.proofs.masks.MasksLabels.bottom.Goals as goal

pub returns-clause-meaning : goal.returns-clause-meaning
returns-clause-meaning c = origins_of-zero

pub returns-clause-made : goal.returns-clause-made
returns-clause-made c = IsLabel-origins_of 0
