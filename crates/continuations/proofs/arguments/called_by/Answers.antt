use Rattle.continuations.proofs.ObjectLaws.{called_begins}
use Rattle.continuations.proofs.arguments.called_by.Goals as goal

pub returns-clause-goes_on : goal.returns-clause-goes_on
returns-clause-goes_on g c = called_begins c.args.stack.now c.begin_arguments.new.stack c.args.list c.begin_arguments.result c.begin_arguments.ensures.goes_on
