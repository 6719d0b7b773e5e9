use Rattle.continuations.specs.declared.continuation.Continuation.TheVariants as continuation
use Rattle.step_jumps.proofs.Comings.{block_begins}
use Rattle.step_jumps.proofs.tries.begin_handler.Goals as goal

pub returns-clause-goes_on : goal.returns-clause-goes_on
returns-clause-goes_on g c = block_begins c.args.block (continuation.EndHandler c.args.s c.args.own c.args.depth) c.args.stack.now c.push.new.self c.in_ok-push.ensures.ok
