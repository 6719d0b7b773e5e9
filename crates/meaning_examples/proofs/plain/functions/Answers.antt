use Rattle.std.proofs.Common.{refl}
use Rattle.meaning_examples.proofs.PlainComputing.{computed}
use Rattle.meaning_examples.proofs.plain.functions.Goals as goal

-- each is computed
pub returns-clause-declarations : goal.returns-clause-declarations
unfolding computed
returns-clause-declarations c = record { arguments_given = refl; later_counts = refl; function_replaces_parameter = refl; variable_keeps_argument = refl; closures = refl; own_name = refl }

pub returns-clause-calls : goal.returns-clause-calls
unfolding computed
returns-clause-calls c = record { arguments_unmapped = refl; arguments_keys = refl; this_given = refl; tested_last = refl }

pub returns-clause-constructions : goal.returns-clause-constructions
unfolding computed
returns-clause-constructions c = record { constructed = refl; object_returned = refl; primitive_returned = refl }

pub returns-clause-instances : goal.returns-clause-instances
unfolding computed
returns-clause-instances c = record { instances = refl; instance_of_no_function = refl; instance_of_no_prototype = refl }

pub returns-clause-refusals : goal.returns-clause-refusals
unfolding computed
returns-clause-refusals c = record { prototype_stays = refl; declared_global = refl; refused_at_once = refl; called_in_four = refl; called_in_three = refl }
