use Rattle.std.proofs.Common.{refl}
use Rattle.step_calling.proofs.StandingLaws.{stands_kept}
use Rattle.step_calling.proofs.ValueLaws.{value_constructs}
use Rattle.step_calling.proofs.values.constructor.Goals as goal

pub returns-clause-resumes : goal.returns-clause-resumes
returns-clause-resumes g c tables inputs set functions ns =
    value_constructs g.L.Labels.made g.L.Labels.meaning c.args.labels.now tables inputs set functions ns c.args.args c.args.world.now c.in_ok-next.next c.args.stack.now c.begin_arguments.new.stack c.args.stack.now.loose refl
    c.requires.standing.values c.in_ok-next.ensures.goes_on

pub returns-clause-standing : goal.returns-clause-standing
returns-clause-standing g c quiet =
    stands_kept g.L.Labels.made g.L.Labels.meaning c.args.labels.now c.args.stack.now c.args.stack.now c.begin_arguments.new.stack c.args.world.now 1 c.args.stack.now.loose c.in_ok-next.next c.requires.standing
    refl refl (λ all. all) c.in_ok-next.ensures.keeps quiet
