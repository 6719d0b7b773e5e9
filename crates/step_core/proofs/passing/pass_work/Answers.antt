use Rattle.continuations.specs.Kept.{waiting}
use Rattle.step_core.proofs.Stood.{stands_anyway}
use Rattle.step_core.proofs.passing.pass_work.Goals as goal

pub returns-in-EndBranch-clause-passes : goal.returns-in-EndBranch-clause-passes
returns-in-EndBranch-clause-passes g c = rw c.in-EndBranch.is c.end_branch_by.ensures.passes

pub returns-in-EndBlock-clause-passes : goal.returns-in-EndBlock-clause-passes
returns-in-EndBlock-clause-passes g c = rw c.in-EndBlock.is c.end_block_by.ensures.passes

pub returns-in-EndHandler-clause-passes : goal.returns-in-EndHandler-clause-passes
returns-in-EndHandler-clause-passes g c = rw c.in-EndHandler.is c.pass_handler.ensures.passes

pub returns-in-EndCall-clause-passes : goal.returns-in-EndCall-clause-passes
returns-in-EndCall-clause-passes g c = rw c.in-EndCall.is c.pass_call.ensures.passes

pub returns-in-EndNew-clause-passes : goal.returns-in-EndNew-clause-passes
returns-in-EndNew-clause-passes g c = rw c.in-EndNew.is c.pass_construction.ensures.passes

pub returns-in-EndCall-clause-standing : goal.returns-in-EndCall-clause-standing
returns-in-EndCall-clause-standing g c = stands_anyway g.L.Labels.made g.L.Labels.meaning c.pass_call.new.labels (waiting c.args.stack.now.tasks) c.pass_call.new.stack c.pass_call.new.world c.pass_call.result c.pass_call.ensures.standing

pub returns-in-EndNew-clause-standing : goal.returns-in-EndNew-clause-standing
returns-in-EndNew-clause-standing g c = stands_anyway g.L.Labels.made g.L.Labels.meaning c.pass_construction.new.labels (waiting c.args.stack.now.tasks) c.pass_construction.new.stack c.pass_construction.new.world c.pass_construction.result c.pass_construction.ensures.standing
