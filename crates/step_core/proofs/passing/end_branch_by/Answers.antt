use Rattle.continuations.specs.Kept.{waiting}
use Rattle.continuations.specs.declared.continuation.Continuation.TheVariants as continuation
use Rattle.step_core.proofs.Begun.{comes_passed_in}
use Rattle.step_core.proofs.Stood.{standing_left}
use Rattle.step_core.proofs.passing.end_branch_by.Goals as goal

pub returns-clause-passes : goal.returns-clause-passes
returns-clause-passes g c tables inputs set functions natives value alone =
    comes_passed_in g.L.Labels.made g.L.Labels.meaning c.args.labels.now tables inputs set functions natives c.args.jump (continuation.EndBranch c.args.gives c.args.depth) value c.args.stack.now c.pass_branch.new.stack
    c.args.world.now c.pass_branch.new.frames c.in_ok-next.next c.in_ok-next.ensures.goes_on alone

pub returns-clause-standing : goal.returns-clause-standing
returns-clause-standing g c =
    standing_left g.L.Labels.made g.L.Labels.meaning c.args.jump c.args.labels.now c.args.stack.now c.args.world.now c.args.depth (waiting c.args.stack.now.tasks) c.requires.standing
    c.pass_branch.new.stack c.pass_branch.new.frames c.in_ok-next.next c.in_ok-next.ensures.leaves c.in_ok-next.ensures.made c.in_ok-next.ensures.belongs c.len-depth.ensures.catch
