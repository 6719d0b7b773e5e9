use Rattle.std.proofs.Common.{ap, ◌∙◌}
use Rattle.std.specs.List.{slice_get}
use Rattle.std.specs.Ordering.{nat_cmp}
use Rattle.std.specs.Cmp.Lexicographic.{slice_cmp}
use Rattle.std.specs.BTreeSet.{insert_key}
use Rattle.prototype_walk.proofs.KeyLaws.{meets_on, meets_all}
use Rattle.prototype_walk.proofs.enumeration.meet.Goals as goal

pub returns-in_default : goal.returns-in_default
returns-in_default g c = meets_all (slice_get c.args.heap.now c.args.at.0) c.loop-n.n c.loop-n.met.keys _ c.in_default.ensures c.loop-n.invariant

pub loop-n-preserved : goal.loop-n-preserved
loop-n-preserved g c = meets_on (slice_get c.args.heap.now c.args.at.0) c.loop-n.n c.loop-n.met.keys _ c.insert.new.self.keys (c.in-Some.key.now, c.in-Some.field-0-1.now) c.in-Some.ensures (c.in_ok-insert.ensures.keys ∙ ap (insert_key (slice_cmp nat_cmp) c.loop-n.met.keys) c.in_ok-copy.ensures) c.loop-n.invariant
