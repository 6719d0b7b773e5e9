use Rattle.origin_labels.proofs.LabelLaws.{lattice_laws}
use Rattle.origin_labels.proofs.labels.lattice.Goals as goal

pub returns : goal.returns
returns c = lattice_laws
