use Rattle.std.specs.List.{slice_get}
use Rattle.prototype_walk.proofs.KeyLaws.{listed_on, listed_all}
use Rattle.prototype_walk.proofs.enumeration.list_own.Goals as goal

pub returns-in_default : goal.returns-in_default
returns-in_default g c = listed_all (slice_get c.args.heap.now c.args.o.0) c.loop-n.n c.loop-n.keys _ c.args.all c.in_default.ensures c.loop-n.invariant

pub loop-n-preserved : goal.loop-n-preserved
loop-n-preserved g c = listed_on (slice_get c.args.heap.now c.args.o.0) c.loop-n.n c.loop-n.keys _ c.args.all c.take_own.new.keys (c.in-Some.key.now, c.in-Some.slot.now) c.in-Some.ensures c.in_ok-take_own.ensures c.loop-n.invariant
