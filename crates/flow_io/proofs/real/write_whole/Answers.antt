use Rattle.std.proofs.lemmas.List.{take_rest}
use Rattle.flow_io.proofs.Written.{goes_on}
use Rattle.flow_io.proofs.real.write_whole.Goals as goal

pub loop-rest-preserved : goal.loop-rest-preserved
loop-rest-preserved g c = rw take_rest (goes_on _ _ _ _ _ _ c.loop-rest.invariant c.in_ok-n.ensures.bytes)
