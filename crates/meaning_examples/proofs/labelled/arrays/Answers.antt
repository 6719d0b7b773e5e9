use Rattle.std.proofs.Common.{refl}
use Rattle.meaning_examples.proofs.LabelledComputing.{labelled_computed}
use Rattle.meaning_examples.proofs.labelled.arrays.Goals as goal

-- each is computed
pub returns-clause-arrays : goal.returns-clause-arrays
unfolding labelled_computed
returns-clause-arrays c = record { element_stops = refl; stretch_stops = refl; deletion_stops = refl; length_stops = refl; labelled_length_stops = refl; length_depends = refl; labelled_element = refl; length_of_labelled = refl; length_of_text = refl }

pub returns-clause-definitions : goal.returns-clause-definitions
unfolding labelled_computed
returns-clause-definitions c = record { definition_stops = refl; keys_depend = refl }
