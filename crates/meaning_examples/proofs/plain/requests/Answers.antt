use Rattle.std.proofs.Common.{refl}
use Rattle.meaning_examples.proofs.PlainComputing.{computed}
use Rattle.meaning_examples.proofs.plain.requests.Goals as goal

-- each is computed
pub returns-clause-own : goal.returns-clause-own
unfolding computed
returns-clause-own c = record { marks = refl; marks_of_functions = refl; halves = refl; not_inherited = refl; own_of_a_number = refl }

pub returns-clause-definitions : goal.returns-clause-definitions
unfolding computed
returns-clause-definitions c = record { added = refl; given_again = refl; refused = refl; not_put = refl; not_removed = refl; changed = refl; hidden = refl; hidden_and_added = refl; frozen = refl }

pub returns-clause-accessors : goal.returns-clause-accessors
unfolding computed
returns-clause-accessors c = record { accessor_added = refl; made_an_accessor = refl; made_data = refl; one_half = refl; getter_is_no_function = refl; value_beside_getter = refl; prevented_put = refl; prevented_definition = refl }

pub returns-clause-making : goal.returns-clause-making
unfolding computed
returns-clause-making c = record { prototypes = refl; function_made = refl; function_constructs_nothing = refl; error_made = refl; bound = refl; bound_twice = refl; bound_constructs = refl; bound_has = refl; bound_to_none = refl }

pub returns-clause-entering : goal.returns-clause-entering
unfolding computed
returns-clause-entering c = record { applied = refl; applied_none = refl; built = refl; built_none = refl; box = refl; raised = refl; same_values = refl; bound_caller = refl }

pub returns-clause-properties : goal.returns-clause-properties
unfolding computed
returns-clause-properties c = record { put_by_setter = refl; put_refused = refl; put_on_null = refl; asked_of_null = refl; removed = refl }

pub returns-clause-globals : goal.returns-clause-globals
unfolding computed
returns-clause-globals c = record { global_getter = refl; global_setter = refl; no_global_setter = refl; global_type = refl; global_called = refl; instance_by_getter = refl }

pub returns-clause-holders : goal.returns-clause-holders
unfolding computed
returns-clause-holders c = record { object = refl; object_prototype = refl; math = refl; marks_of_holders = refl; left_function = refl; left_construction = refl; left_accessor = refl; left_put = refl }
