use Rattle.plain_heap.proofs.MoreLaws.{more_then}
use Rattle.step_start.proofs.first.make_accessors.Goals as goal

pub returns : goal.returns
returns g c =
    more_then c.args.heap.now c.make_native-2.new.heap c.make_native-3.new.heap _ _
    (more_then c.args.heap.now c.make_native.new.heap c.make_native-2.new.heap _ _ c.in_ok-make_native.ensures.ok c.in_ok-make_native-2.ensures.ok) c.in_ok-make_native-3.ensures.ok
