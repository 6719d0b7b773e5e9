use Rattle.std.proofs.Common.{arith}
use Rattle.flow_frames.proofs.RaiseLaws.{moved_on-set}
use Rattle.flow_frames.proofs.frame.take_next_totals.Goals as goal

pub loop-frame-preserved : goal.loop-frame-preserved
loop-frame-preserved g c = moved_on-set c.args.frames.now c.loop-frame.frames c.loop-frame.frame-index c.frame-item.result (omega arith) c.loop-frame.invariant c.frame-item.is
