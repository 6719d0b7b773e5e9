use Rattle.std.proofs.Common.{arith}
use Rattle.channels.proofs.SetLaws.{copied_below}
use Rattle.js_shell.proofs.running.copy_of.Goals as goal

pub push-requires : goal.push-requires
push-requires c =
    copied_below c.loop-item.copied c.items-item-items.result.now c.args.set.now c.loop-item.item-index (omega (arith, c.loop-item-test.true)) c.loop-item.invariant.whole c.loop-item.invariant.rises
