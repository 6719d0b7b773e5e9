use Rattle.step_run.proofs.Words.{Arguments_units}
use Rattle.step_run.proofs.showing.class_text.Goals as goal

pub returns-in-Arguments : goal.returns-in-Arguments
returns-in-Arguments c = rw c.in-Arguments.is (rw Arguments_units at c.spelled-in-Arguments.ensures)
