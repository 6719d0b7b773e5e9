use Rattle.std.proofs.Common.{refl}
use Rattle.meaning_examples.proofs.LabelledComputing.{labelled_computed}
use Rattle.meaning_examples.proofs.labelled.jumps.Goals as goal

-- each is computed
pub returns-clause-throws : goal.returns-clause-throws
unfolding labelled_computed
returns-clause-throws c = record { throw_stops = refl; throw_ends = refl; behind_prints = refl; handler_stops = refl; last_stops = refl; caught_prints = refl; hidden_value_is_thrown = refl }

pub returns-clause-waiting : goal.returns-clause-waiting
unfolding labelled_computed
returns-clause-waiting c = record { waiting_throw_stops = refl; waiting_throw_ends = refl; return_stops = refl; return_prints = refl }

pub returns-clause-handlers : goal.returns-clause-handlers
unfolding labelled_computed
returns-clause-handlers c = record { handler_throw_stops = refl; handler_directive = refl; directive_stops = refl; root_stops = refl }

pub returns-clause-loops : goal.returns-clause-loops
unfolding labelled_computed
returns-clause-loops c = record { break_stops = refl; break_ends = refl; labelled_break_ends = refl; inner_directive_stops = refl; continue_stops = refl }

pub returns-clause-switches : goal.returns-clause-switches
unfolding labelled_computed
returns-clause-switches c = record { switch_stops = refl; default_stops = refl; tested_case_stops = refl; later_case = refl }

pub returns-clause-engine_errors : goal.returns-clause-engine_errors
unfolding labelled_computed
returns-clause-engine_errors c = record { engine_error_stops = refl; engine_error_prints = refl }
