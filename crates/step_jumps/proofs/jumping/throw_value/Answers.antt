use Rattle.es_meaning.specs.Evaluation.{jump_with}
use Rattle.flow_meaning.specs.Tracked.{jumps_to}
use Rattle.step_jumps.proofs.jumping.throw_value.Goals as goal

pub returns-clause-resumes : goal.returns-clause-resumes
unfolding jump_with jumps_to
returns-clause-resumes g c = c.issue.ensures.issues
