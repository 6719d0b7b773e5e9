use Rattle.std.proofs.Common.{refl}
use Rattle.meaning_examples.proofs.LabelledComputing.{labelled_computed}
use Rattle.meaning_examples.proofs.labelled.conversions.Goals as goal

-- each is computed
pub returns-clause-frames : goal.returns-clause-frames
unfolding labelled_computed
returns-clause-frames c = record { object_stops = refl; object_result_stops = refl; compared_stops = refl; compared_too_stops = refl; other_operand = refl; behind_conversion = refl; key_stops = refl }

pub returns-clause-methods : goal.returns-clause-methods
unfolding labelled_computed
returns-clause-methods c = record { second_method_stops = refl; method_stops = refl; given_stops = refl; key_given_stops = refl; text_given_stops = refl; text_given = refl; no_method_stops = refl; no_hidden_method_stops = refl; no_method = refl }
