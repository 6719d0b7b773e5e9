use Rattle.std.specs.List.{slice_get}
use Rattle.prototype_walk.proofs.KeyLaws.{fresh_on, fresh_all}
use Rattle.prototype_walk.proofs.enumeration.take_fresh.Goals as goal

pub returns-in_default : goal.returns-in_default
returns-in_default g c = fresh_all (slice_get c.args.heap.now c.args.at.0) c.loop-n.n c.loop-n.keys _ c.args.met.now.keys c.in_default.ensures c.loop-n.invariant

pub loop-n-preserved : goal.loop-n-preserved
loop-n-preserved g c = fresh_on (slice_get c.args.heap.now c.args.at.0) c.loop-n.n c.loop-n.keys _ c.args.met.now.keys c.take.new.keys (c.in-Some.key.now, c.in-Some.slot.now) c.in-Some.ensures c.in_ok-take.ensures c.loop-n.invariant
