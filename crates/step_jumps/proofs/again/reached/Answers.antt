use Rattle.step_jumps.proofs.Reaching.{reached_above}
use Rattle.step_jumps.proofs.again.reached.Goals as goal

pub returns-clause-reached : goal.returns-clause-reached
returns-clause-reached g c = λ reading. reached_above reading c.args.frames.now.frames c.args.to c.target_above.result c.len-count.ensures.catch (c.target_above.ensures reading)
