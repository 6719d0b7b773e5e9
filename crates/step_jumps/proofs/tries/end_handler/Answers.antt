use Rattle.step_jumps.proofs.CatchLaws.{handler_done}
use Rattle.step_jumps.proofs.tries.end_handler.Goals as goal

pub returns-clause-resumes : goal.returns-clause-resumes
returns-clause-resumes g c tables inputs set functions natives =
    handler_done g.L.Labels.made g.L.Labels.meaning c.finish.new.labels tables inputs set functions natives c.args.s c.args.depth c.args.own c.args.stack.now c.finish.new.stack c.args.world.now c.finish.new.world c.finish.result c.finish.ensures.begins
