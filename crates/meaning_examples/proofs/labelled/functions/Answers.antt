use Rattle.std.proofs.Common.{refl}
use Rattle.meaning_examples.proofs.LabelledComputing.{labelled_computed}
use Rattle.meaning_examples.proofs.labelled.functions.Goals as goal

-- each is computed
pub returns-clause-calls : goal.returns-clause-calls
unfolding labelled_computed
returns-clause-calls c = record { callee_stops = refl; result_stops = refl; found_stops = refl; argument_stops = refl; argument_is_outside = refl }

pub returns-clause-hidden_calls : goal.returns-clause-hidden_calls
unfolding labelled_computed
returns-clause-hidden_calls c = record { hidden_call_is_free = refl; hidden_call_stops = refl }

pub returns-clause-returns : goal.returns-clause-returns
unfolding labelled_computed
returns-clause-returns c = record { return_stops = refl; return_prints = refl; directive_stops = refl; directive_ends = refl; cause_stops = refl }

pub returns-clause-constructions : goal.returns-clause-constructions
unfolding labelled_computed
returns-clause-constructions c = record { link_stops = refl; hidden_constructor = refl; fresh_stops = refl }

pub returns-clause-instances : goal.returns-clause-instances
unfolding labelled_computed
returns-clause-instances c = record { instance_stops = refl; instance_cause_stops = refl; structure_plays_no_part = refl }
