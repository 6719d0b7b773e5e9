use Rattle.std.proofs.Common.{refl}
use Rattle.meaning_examples.proofs.LabelledComputing.{labelled_computed}
use Rattle.meaning_examples.proofs.labelled.accessors.Goals as goal

-- each is computed
pub returns-clause-getters : goal.returns-clause-getters
unfolding labelled_computed
returns-clause-getters c = record { base_stops = refl; key_stops = refl; existence_stops = refl; link_stops = refl; result_stops = refl; returned_stops = refl; base_is_this = refl; behind_getter = refl }

pub returns-clause-setters : goal.returns-clause-setters
unfolding labelled_computed
returns-clause-setters c = record { base_stops = refl; value_stops = refl; value_is_outside = refl; no_setter_stops = refl; no_setter_of_key_stops = refl; no_setter = refl }
