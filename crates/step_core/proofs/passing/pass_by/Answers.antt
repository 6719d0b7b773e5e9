use Rattle.continuations.specs.Kept.{waiting}
use Rattle.step_core.proofs.Begun.{comes_passed}
use Rattle.step_core.proofs.Stood.{standing_passed}
use Rattle.step_core.proofs.passing.pass_by.Goals as goal

pub returns-clause-passes : goal.returns-clause-passes
returns-clause-passes g c tables inputs set functions natives value alone =
    comes_passed g.L.Labels.made g.L.Labels.meaning c.args._labels.now tables inputs set functions natives c.args.jump c.args.work value c.args.stack.now c.pass.new.stack c.args._world.now c.in_ok-next.next c.in_ok-next.ensures.goes_on alone

pub returns-clause-standing : goal.returns-clause-standing
returns-clause-standing g c =
    standing_passed g.L.Labels.made g.L.Labels.meaning c.args.jump c.args._labels.now c.args.stack.now c.pass.new.stack c.args._world.now c.args.work (waiting c.args.stack.now.tasks) c.in_ok-next.next c.requires.standing c.requires.scope c.in_ok-next.ensures.keeps
