use Rattle.std.proofs.Common.{arith}
use Rattle.channels.proofs.SetLaws.{first_below, origin_above, last_below, all_put}
use Rattle.channels.proofs.origins.with_origin.Goals as goal

pub push-requires : goal.push-requires
push-requires c =
    first_below c.args.origin c.loop-item.grown c.items-item-items.result.now c.args.set.now c.loop-item.item-index (omega (arith, c.loop-item-test.true)) c.if-item-origin.true c.loop-item.invariant.whole c.loop-item.invariant.rises

pub push-requires-2 : goal.push-requires-2
push-requires-2 c =
    origin_above c.args.origin c.loop-item.grown c.items-item-items.result.now c.args.set.now c.loop-item.item-index (omega (arith, c.loop-item-test.false)) c.loop-item.invariant.whole c.loop-item.invariant.rises

pub push-requires-then-origin-item : goal.push-requires-then-origin-item
push-requires-then-origin-item c =
    last_below c.args.origin c.loop-item-2.grown c.items-item-items-2.result.now c.args.set.now c.loop-item-2.item-index (omega (arith, c.loop-item-2-test.true)) c.if-origin-item.true c.loop-item-2.invariant.whole c.loop-item-2.invariant.rises

pub returns : goal.returns
returns c =
    all_put c.args.origin c.loop-item-2.grown c.items-item-items-2.result.now c.args.set.now c.loop-item-2.item-index (omega (arith, c.loop-item-2-test.false)) c.loop-item-2.invariant.whole c.loop-item-2.invariant.rises
