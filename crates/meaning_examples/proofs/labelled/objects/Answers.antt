use Rattle.std.proofs.Common.{refl}
use Rattle.meaning_examples.proofs.LabelledComputing.{labelled_computed}
use Rattle.meaning_examples.proofs.labelled.objects.Goals as goal

-- each is computed
pub returns-clause-changes : goal.returns-clause-changes
unfolding labelled_computed
returns-clause-changes c = record { write_stops = refl; add_stops = refl; delete_stops = refl; delete_stops_at_the_object = refl; structure_stops = refl; existence_stops = refl; variable_stops = refl; refused_put_stops = refl }

pub returns-clause-structures : goal.returns-clause-structures
unfolding labelled_computed
returns-clause-structures c = record { raised_prints = refl; raised_prints_too = refl; absent_stops = refl; present_prints = refl; existing_stops = refl; in_stops = refl }

pub returns-clause-accesses : goal.returns-clause-accesses
unfolding labelled_computed
returns-clause-accesses c = record { base_stops = refl; key_stops = refl; value_stops = refl; base_throws = refl; key_throws = refl }

pub returns-clause-walks : goal.returns-clause-walks
unfolding labelled_computed
returns-clause-walks c = record { loop_stops = refl; name_stops = refl; unbound_stops = refl }
