use Rattle.continuations.specs.declared.continuation.Continuation.TheVariants as continuation
use Rattle.step_jumps.proofs.EndingLaws.{resumes_done}
use Rattle.step_jumps.proofs.tries.end_last.Goals as goal

pub returns-clause-resumes : goal.returns-clause-resumes
returns-clause-resumes g c tables inputs set functions natives =
    resumes_done g.L.Labels.made g.L.Labels.meaning c.leave.new.labels tables inputs set functions natives (continuation.EndLast c.args.waiting) c.args.stack.now c.leave.new.stack c.args.world.now c.leave.new.world c.leave.result c.requires.standing.values
    (λ tables inputs set functions. c.leave.ensures.begins tables inputs set functions)
