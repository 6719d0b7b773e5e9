use Rattle.continuations.proofs.ObjectLaws.{compound_resumes}
use Rattle.step_control.proofs.operators.compound_right.Goals as goal

pub returns-clause-goes_on : goal.returns-clause-goes_on
returns-clause-goes_on g c = compound_resumes c.args.operator c.args.right c.args.target c.args.stack.now c.push.new.self c.requires c.in_ok-push.ensures.ok
