use Rattle.continuations.specs.declared.continuation.Continuation.TheVariants as continuation
use Rattle.step_jumps.proofs.Comings.{block_begins}
use Rattle.step_jumps.proofs.tries.begin_last.Goals as goal

pub returns-clause-goes_on : goal.returns-clause-goes_on
returns-clause-goes_on g c = block_begins c.args.block (continuation.EndLast c.args.waiting) c.args.stack.now c.push.new.self c.in_ok-push.ensures.ok
