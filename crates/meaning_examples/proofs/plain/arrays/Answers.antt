use Rattle.std.proofs.Common.{refl}
use Rattle.meaning_examples.proofs.PlainComputing.{computed}
use Rattle.meaning_examples.proofs.plain.arrays.Goals as goal

-- each is computed
pub returns-clause-arrays : goal.returns-clause-arrays
unfolding computed
returns-clause-arrays c = record { elements = refl; holes = refl; last_hole = refl; stretched = refl; shortened = refl; lengthened = refl; no_length = refl; nan_length = refl; length_of_a_fraction = refl; converted_twice = refl; keys = refl; length_stays = refl }

pub returns-clause-definitions : goal.returns-clause-definitions
unfolding computed
returns-clause-definitions c = record { element_stays = refl; length_defined = refl; element_defined = refl; below_frozen = refl; past_frozen = refl; put_on_frozen = refl; defined_frozen = refl; keys = refl }

pub returns-clause-names : goal.returns-clause-names
unfolding computed
returns-clause-names c = record { of_constructor = refl; of_prototype = refl }

pub returns-clause-primitives : goal.returns-clause-primitives
unfolding computed
returns-clause-primitives c = record { of_text = refl; of_number = refl; put_refused = refl; own_put_refused = refl; deleted = refl; unit_stays = refl }

pub returns-clause-nan : goal.returns-clause-nan
unfolding computed
returns-clause-nan c = record { sum = refl; quotients = refl; infinite = refl; order = refl; equality = refl; bits = refl; texts = refl; fraction = refl; infinity = refl; no_infinity = refl }
