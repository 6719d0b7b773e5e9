use Rattle.continuations.specs.Kept.{waiting}
use Rattle.continuations.specs.declared.continuation.Continuation.TheVariants as continuation
use Rattle.step_core.proofs.Begun.{comes_passed_in}
use Rattle.step_core.proofs.Stood.{standing_left}
use Rattle.step_core.proofs.passing.end_round_by.Goals as goal

pub returns-clause-round : goal.returns-clause-round
returns-clause-round g c tables inputs set functions natives value alone turn of =
    comes_passed_in g.L.Labels.made g.L.Labels.meaning c.args.labels.now tables inputs set functions natives c.args.jump (continuation.EndRound turn c.args.depth of) value c.args.stack.now c.pass_round-next.new.stack
    c.args.world.now c.pass_round-next.new.frames c.pass_round-next.result (c.pass_round-next.ensures.goes_on turn of) alone

pub returns-clause-label : goal.returns-clause-label
returns-clause-label g c tables inputs set functions natives value alone text =
    comes_passed_in g.L.Labels.made g.L.Labels.meaning c.args.labels.now tables inputs set functions natives c.args.jump (continuation.EndLabel c.args.depth text) value c.args.stack.now c.pass_round-next.new.stack
    c.args.world.now c.pass_round-next.new.frames c.pass_round-next.result (c.pass_round-next.ensures.label text) alone

pub returns-clause-tried : goal.returns-clause-tried
returns-clause-tried g c tables inputs set functions natives value alone =
    comes_passed_in g.L.Labels.made g.L.Labels.meaning c.args.labels.now tables inputs set functions natives c.args.jump (continuation.EndTry c.args.depth) value c.args.stack.now c.pass_round-next.new.stack
    c.args.world.now c.pass_round-next.new.frames c.pass_round-next.result c.pass_round-next.ensures.tried alone

pub returns-clause-standing : goal.returns-clause-standing
returns-clause-standing g c =
    standing_left g.L.Labels.made g.L.Labels.meaning c.args.jump c.args.labels.now c.args.stack.now c.args.world.now c.args.depth (waiting c.args.stack.now.tasks) c.requires.standing
    c.pass_round-next.new.stack c.pass_round-next.new.frames c.pass_round-next.result c.pass_round-next.ensures.leaves c.pass_round-next.ensures.made c.pass_round-next.ensures.belongs c.len-depth.ensures.catch
