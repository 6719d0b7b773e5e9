use Rattle.std.proofs.Common.{arith, ◌<◌, ◌≡◌, ◌∙◌, length, Some}
use Rattle.std.specs.List.{slice_get}
use Rattle.channels.proofs.NameLaws.{new_name, next_name}
use Rattle.channels.proofs.natives.copy_of.Goals as goal

pub add-requires-clause-new : goal.add-requires-clause-new
add-requires-clause-new c =
    let lt : c.loop-i.i < length c.args.origins.now = omega (arith, c.loop-i-test.true, c.len-i-end.ensures.length) in
    rw (c.loop-i.invariant.front, c.in_ok-name.ensures) (new_name c.args.origins.now c.loop-i.i c.name.result.now c.loop-i.invariant.distinct lt c.name.ensures)

pub loop-i-preserved : goal.loop-i-preserved
loop-i-preserved c =
    let lt : c.loop-i.i < length c.args.origins.now = omega (arith, c.loop-i-test.true, c.len-i-end.ensures.length) in
    let here : slice_get c.args.origins.now c.loop-i.i ≡ Some c.in_ok-name.name = rw c.in_ok-name.ensures c.name.ensures in
    record {
      front = c.in_ok-add.ensures.ok ∙ next_name c.args.origins.now c.loop-i.copied c.loop-i.i c.in_ok-name.name lt here c.loop-i.invariant.front;
      distinct = c.loop-i.invariant.distinct;
    }
