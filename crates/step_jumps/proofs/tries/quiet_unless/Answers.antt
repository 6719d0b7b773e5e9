use Rattle.step_jumps.proofs.CatchLaws.{quiets_else}
use Rattle.step_jumps.proofs.tries.quiet_unless.Goals as goal

pub returns-clause-quiets : goal.returns-clause-quiets
returns-clause-quiets g c reading t = quiets_else reading c.args.stays c.args.frames.now.frames c.quiet_last.new.frames.frames t c.if-stays.false c.quiet_last.ensures.quieted
