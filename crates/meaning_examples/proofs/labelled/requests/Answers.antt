use Rattle.std.proofs.Common.{refl}
use Rattle.meaning_examples.proofs.LabelledComputing.{labelled_computed}
use Rattle.meaning_examples.proofs.labelled.requests.Goals as goal

-- each is computed
pub returns-clause-own : goal.returns-clause-own
unfolding labelled_computed
returns-clause-own c = record { existence_stops = refl; marks = refl; value_stops = refl; absent_stops = refl; absent_value_stops = refl; base_stops = refl; extensible_stops = refl }

pub returns-clause-definitions : goal.returns-clause-definitions
unfolding labelled_computed
returns-clause-definitions c = record { definition_stops = refl; descriptor_stops = refl; addition_stops = refl; added_descriptor_stops = refl; raised_prints = refl; other_origin_stops = refl; refused_stops = refl; refused = refl; allowed = refl }

pub returns-clause-effects : goal.returns-clause-effects
unfolding labelled_computed
returns-clause-effects c = record { prevention_stops = refl; hidden_prevention_stops = refl; put_stops = refl; put_by_key_stops = refl; put_prints = refl; base_is_the_cause = refl; removal_stops = refl; asked_stops = refl }

pub returns-clause-making : goal.returns-clause-making
unfolding labelled_computed
returns-clause-making c = record { link_stops = refl; chosen_link_stops = refl; link = refl; target_stops = refl; bound = refl; bound_length_stops = refl; bound_argument_stops = refl; bound_to_none_stops = refl; bound_instance_stops = refl }

pub returns-clause-entering : goal.returns-clause-entering
unfolding labelled_computed
returns-clause-entering c = record { applied_stops = refl; built_stops = refl; same_stops = refl; hidden_value_is_raised = refl; raised_stops = refl; this_stops = refl; bound_this_stops = refl }

pub returns-clause-further : goal.returns-clause-further
unfolding labelled_computed
returns-clause-further c = record { instance_getter_stops = refl; instance_getter = refl; global_getter_stops = refl; refused_removal_stops = refl; refused_base_stops = refl; prevented_stops = refl; prevented_ends = refl; frozen_stops = refl; frozen_ends = refl }
