use Rattle.std.proofs.Common.{ap}
use Rattle.es_meaning.specs.Plain.{undefined}
use Rattle.flow_meaning.specs.Erased.{unlabelled}
use Rattle.flow_meaning.specs.Scopes.{popped}
use Rattle.flow_meaning.specs.Planned.{Give, gave, end_round}
use Rattle.continuations.specs.Pending.{behind}
use Rattle.step_control.proofs.ends.end_round.Goals as goal

pub returns-clause-goes_on : goal.returns-clause-goes_on
unfolding end_round popped
returns-clause-goes_on g c turn of tables inputs set functions reading e s read loose =
    ap (λ fs. behind tables inputs set functions reading c.args.stack.now.tasks e (Give (gave (unlabelled undefined)) (record s { frames = fs }))) (c.leave.ensures.outside reading)

pub returns-clause-label : goal.returns-clause-label
unfolding end_round popped
returns-clause-label g c text tables inputs set functions reading e s read loose =
    ap (λ fs. behind tables inputs set functions reading c.args.stack.now.tasks e (Give (gave (unlabelled undefined)) (record s { frames = fs }))) (c.leave.ensures.outside reading)

pub returns-clause-tried : goal.returns-clause-tried
unfolding end_round popped
returns-clause-tried g c tables inputs set functions reading e s read loose =
    ap (λ fs. behind tables inputs set functions reading c.args.stack.now.tasks e (Give (gave (unlabelled undefined)) (record s { frames = fs }))) (c.leave.ensures.outside reading)
