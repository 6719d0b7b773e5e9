use Rattle.std.proofs.Common.{refl}
use Rattle.meaning_examples.proofs.PlainComputing.{computed}
use Rattle.meaning_examples.proofs.plain.conversions.Goals as goal

-- each is computed
pub returns-clause-sums : goal.returns-clause-sums
unfolding computed
returns-clause-sums c = record { sum = refl; by_the_second_method = refl; by_no_method = refl; with_the_object_as_this = refl; by_an_inherited_method = refl; by_a_getter = refl; operands_in_order = refl; left_number_first = refl }

pub returns-clause-operators : goal.returns-clause-operators
unfolding computed
returns-clause-operators c = record { compared = refl; negated = refl; counted_up = refl; added_to = refl; converted_in_eleven = refl; converted_in_ten = refl }

pub returns-clause-keys : goal.returns-clause-keys
unfolding computed
returns-clause-keys c = record { key = refl; printed = refl; printed_inside = refl; thrown_by_method = refl; asked_for = refl; asked_of_no_object = refl; key_of_no_object = refl; key_before_value = refl }
