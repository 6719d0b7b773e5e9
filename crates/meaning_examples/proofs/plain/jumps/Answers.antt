use Rattle.std.proofs.Common.{refl}
use Rattle.meaning_examples.proofs.PlainComputing.{computed}
use Rattle.meaning_examples.proofs.plain.jumps.Goals as goal

-- each is computed
pub returns-clause-tries : goal.returns-clause-tries
unfolding computed
returns-clause-tries c = record { caught = refl; uncaught = refl; engine_error_caught = refl; last_comes_first = refl; replaced = refl; returned_before = refl; handler_throws = refl; dropped = refl }

pub returns-clause-loops : goal.returns-clause-loops
unfolding computed
returns-clause-loops c = record { continued = refl; broken = refl; continued_outside = refl; broken_outside = refl; block_is_passed = refl; labels_carried = refl }

pub returns-clause-switches : goal.returns-clause-switches
unfolding computed
returns-clause-switches c = record { falls_through = refl; default_falls_through = refl; compared_strictly = refl; switch_broken = refl }

pub returns-clause-directives : goal.returns-clause-directives
unfolding computed
returns-clause-directives c = record { directive = refl; directive_leaves = refl }
