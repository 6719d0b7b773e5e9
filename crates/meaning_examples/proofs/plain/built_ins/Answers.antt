use Rattle.std.proofs.Common.{refl}
use Rattle.meaning_examples.proofs.PlainComputing.{computed}
use Rattle.meaning_examples.proofs.plain.built_ins.Goals as goal

-- each is computed
pub returns-clause-names : goal.returns-clause-names
unfolding computed
returns-clause-names c = record { in_a_variable = refl; in_a_property = refl; lengths = refl; given_undefined = refl; replaced = refl; deleted = refl; declared_over = refl; variable_keeps_it = refl }

pub returns-clause-uses : goal.returns-clause-uses
unfolding computed
returns-clause-uses c = record { as_a_parameter = refl; no_keys = refl; constructs_nothing = refl; instance_of_it = refl; object_instance_of_it = refl; thrown = refl }

pub returns-clause-arguments : goal.returns-clause-arguments
unfolding computed
returns-clause-arguments c = record { one_argument = refl; no_argument = refl; channel_is_no_text = refl; no_input_channel = refl; input_channel_is_no_text = refl; labelled = refl; same_object = refl; second_origin = refl; origin_is_no_text = refl }

pub returns-clause-raises : goal.returns-clause-raises
unfolding computed
returns-clause-raises c = record { raises_no_property = refl; raises_no_origin = refl; key_converted = refl }

pub returns-clause-left : goal.returns-clause-left
unfolding computed
returns-clause-left c = record { caller = refl; arguments = refl; caller_put = refl; caller_of_built_in = refl; callee = refl; caller_of_arguments = refl; are_there = refl; stay = refl }
