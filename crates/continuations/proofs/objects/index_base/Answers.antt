use Rattle.continuations.proofs.ObjectLaws.{index_resumes}
use Rattle.continuations.proofs.objects.index_base.Goals as goal

pub returns-clause-goes_on : goal.returns-clause-goes_on
returns-clause-goes_on g c = index_resumes c.args.how c.args.index c.args.stack.now c.push.new.self c.requires c.in_ok-push.ensures.ok
