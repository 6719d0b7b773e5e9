use Rattle.continuations.specs.Kept.{waiting}
use Rattle.step_core.proofs.Stood.{stands_anyway}
use Rattle.step_core.proofs.resuming.lead_on.Goals as goal

pub returns-in-Throw-clause-resumes : goal.returns-in-Throw-clause-resumes
returns-in-Throw-clause-resumes g c = rw c.in-Throw.is c.throw_value.ensures.resumes

pub returns-in-Return-clause-resumes : goal.returns-in-Return-clause-resumes
returns-in-Return-clause-resumes g c = rw c.in-Return.is c.return_value.ensures.resumes

pub returns-in-Callee-clause-resumes : goal.returns-in-Callee-clause-resumes
returns-in-Callee-clause-resumes g c = rw c.in-Callee.is c.callee.ensures.resumes

pub returns-in-Constructor-clause-resumes : goal.returns-in-Constructor-clause-resumes
returns-in-Constructor-clause-resumes g c = rw c.in-Constructor.is c.constructor.ensures.resumes

pub returns-in-Switched-clause-resumes : goal.returns-in-Switched-clause-resumes
returns-in-Switched-clause-resumes g c = rw c.in-Switched.is c.switched.ensures.resumes

pub returns-in-Compared-clause-resumes : goal.returns-in-Compared-clause-resumes
returns-in-Compared-clause-resumes g c = rw c.in-Compared.is c.compared.ensures.resumes

pub returns-in-Falls-clause-resumes : goal.returns-in-Falls-clause-resumes
returns-in-Falls-clause-resumes g c = rw c.in-Falls.is c.falls.ensures.resumes

pub returns-in-EndCall-clause-resumes : goal.returns-in-EndCall-clause-resumes
returns-in-EndCall-clause-resumes g c = rw c.in-EndCall.is c.end_call.ensures.resumes

pub returns-in-EndNew-clause-resumes : goal.returns-in-EndNew-clause-resumes
returns-in-EndNew-clause-resumes g c = rw c.in-EndNew.is c.end_construction.ensures.resumes

pub returns-in-EndBlock-clause-resumes : goal.returns-in-EndBlock-clause-resumes
returns-in-EndBlock-clause-resumes g c = rw c.in-EndBlock.is c.end_block.ensures.resumes

pub returns-in-EndHandler-clause-resumes : goal.returns-in-EndHandler-clause-resumes
returns-in-EndHandler-clause-resumes g c = rw c.in-EndHandler.is c.end_handler.ensures.resumes

pub returns-in-EndLast-clause-resumes : goal.returns-in-EndLast-clause-resumes
returns-in-EndLast-clause-resumes g c = rw c.in-EndLast.is c.end_last.ensures.resumes

pub returns-in-Throw-clause-standing : goal.returns-in-Throw-clause-standing
returns-in-Throw-clause-standing g c = stands_anyway g.L.Labels.made g.L.Labels.meaning c.throw_value.new.labels (waiting c.args.stack.now.tasks) c.throw_value.new.stack c.throw_value.new.world c.throw_value.result c.throw_value.ensures.standing

pub returns-in-Return-clause-standing : goal.returns-in-Return-clause-standing
returns-in-Return-clause-standing g c = stands_anyway g.L.Labels.made g.L.Labels.meaning c.return_value.new.labels (waiting c.args.stack.now.tasks) c.return_value.new.stack c.return_value.new.world c.return_value.result c.return_value.ensures.standing

pub returns-in-Switched-clause-standing : goal.returns-in-Switched-clause-standing
returns-in-Switched-clause-standing g c = stands_anyway g.L.Labels.made g.L.Labels.meaning c.switched.new.labels (waiting c.args.stack.now.tasks) c.switched.new.stack c.switched.new.world c.switched.result c.switched.ensures.standing

pub returns-in-Compared-clause-standing : goal.returns-in-Compared-clause-standing
returns-in-Compared-clause-standing g c = stands_anyway g.L.Labels.made g.L.Labels.meaning c.compared.new.labels (waiting c.args.stack.now.tasks) c.compared.new.stack c.compared.new.world c.compared.result c.compared.ensures.standing

pub returns-in-Falls-clause-standing : goal.returns-in-Falls-clause-standing
returns-in-Falls-clause-standing g c = stands_anyway g.L.Labels.made g.L.Labels.meaning c.falls.new.labels (waiting c.args.stack.now.tasks) c.falls.new.stack c.falls.new.world c.falls.result c.falls.ensures.standing

pub returns-in-EndCall-clause-standing : goal.returns-in-EndCall-clause-standing
returns-in-EndCall-clause-standing g c = stands_anyway g.L.Labels.made g.L.Labels.meaning c.end_call.new.labels (waiting c.args.stack.now.tasks) c.end_call.new.stack c.end_call.new.world c.end_call.result c.end_call.ensures.standing

pub returns-in-EndNew-clause-standing : goal.returns-in-EndNew-clause-standing
returns-in-EndNew-clause-standing g c = stands_anyway g.L.Labels.made g.L.Labels.meaning c.end_construction.new.labels (waiting c.args.stack.now.tasks) c.end_construction.new.stack c.end_construction.new.world c.end_construction.result c.end_construction.ensures.standing

pub returns-in-EndLast-clause-standing : goal.returns-in-EndLast-clause-standing
returns-in-EndLast-clause-standing g c = stands_anyway g.L.Labels.made g.L.Labels.meaning c.end_last.new.labels (waiting c.args.stack.now.tasks) c.end_last.new.stack c.end_last.new.world c.end_last.result c.end_last.ensures.standing
