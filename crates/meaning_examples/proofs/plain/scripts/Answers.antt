use Rattle.std.proofs.Common.{refl}
use Rattle.meaning_examples.proofs.PlainComputing.{computed}
use Rattle.meaning_examples.proofs.plain.scripts.Goals as goal

-- each is computed
pub returns-clause-turns : goal.returns-clause-turns
unfolding computed
returns-clause-turns c = record { hello_in_nine = refl; hello_in_eight = refl; endless_ends = refl; one_turn_in_fourteen = refl; one_turn_in_thirteen = refl }

pub returns-clause-printed : goal.returns-clause-printed
unfolding computed
returns-clause-printed c = record { steps_print = refl; greatest_leaves = refl; operators_print = refl; fraction_leaves = refl; sum_prints = refl; tail_test_prints = refl; chosen_prints = refl; old_and_new_prints = refl; past_the_end_prints = refl }

pub returns-clause-thrown : goal.returns-clause-thrown
unfolding computed
returns-clause-thrown c = record { no_channel = refl; no_origin = refl; immutable = refl; unbound = refl; unbound_behind_its_value = refl; unbound_before_its_change = refl; fraction_behind_its_operand = refl }

pub returns-clause-shown : goal.returns-clause-shown
unfolding computed
returns-clause-shown c = record { shown_text = refl; shown_empty = refl; shown_number = refl; shown_undefined = refl; shown_global = refl; shown_prototype = refl }
