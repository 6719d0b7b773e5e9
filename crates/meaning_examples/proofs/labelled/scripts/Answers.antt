use Rattle.std.proofs.Common.{refl}
use Rattle.meaning_examples.proofs.LabelledComputing.{labelled_computed}
use Rattle.meaning_examples.proofs.labelled.scripts.Goals as goal

-- each is computed
pub returns-clause-upgrades : goal.returns-clause-upgrades
unfolding labelled_computed
returns-clause-upgrades c = record { told_stops = refl; upgrade_stops = refl; upgrade_prints = refl; prepared_prints = refl; prepared_prints_too = refl }

pub returns-clause-contexts : goal.returns-clause-contexts
unfolding labelled_computed
returns-clause-contexts c = record { read_stops = refl; print_stops = refl; throw_stops = refl; throw_leaves = refl }

pub returns-clause-branches : goal.returns-clause-branches
unfolding labelled_computed
returns-clause-branches c = record { loop_stops = refl; conditional_stops = refl; and_stops = refl; behind_branch_prints = refl }

pub returns-clause-written : goal.returns-clause-written
unfolding labelled_computed
returns-clause-written c = record { written_done = refl; written_stop = refl; written_throw = refl; written_left = refl; written_turns = refl }
