use Rattle.std.proofs.Common.{refl}
use Rattle.meaning_examples.proofs.LabelledComputing.{labelled_computed}
use Rattle.meaning_examples.proofs.labelled.built_ins.Goals as goal

-- each is computed
pub returns-clause-prints : goal.returns-clause-prints
unfolding labelled_computed
returns-clause-prints c = record { name_stops = refl; name_prints = refl; behind_print = refl; two_origins = refl; origin_is_hidden = refl; in_a_variable = refl; printed_in_nine = refl; printed_in_eight = refl }

pub returns-clause-callees : goal.returns-clause-callees
unfolding labelled_computed
returns-clause-callees c = record { callee_stops = refl; found_stops = refl; found_first = refl; chosen_stops = refl; chosen_ends = refl; construction_stops = refl; replaced_stops = refl; left_inside = refl; caller = refl }

pub returns-clause-looks : goal.returns-clause-looks
unfolding labelled_computed
returns-clause-looks c = record { read_by_hidden_name = refl; read_stops = refl; no_object_stops = refl; no_object = refl; object_stops = refl; origin_stops = refl; key_stops = refl; absent_key = refl; no_origin = refl }
