use Rattle.std.proofs.Common.{sym}
use Rattle.js_number.proofs.DigitValues.{power_too_large, power_step}
use Rattle.js_number.proofs.digits.times_power.Goals as goal

pub returns-then-product-ge-LIMIT : goal.returns-then-product-ge-LIMIT
returns-then-product-ge-LIMIT c = sym (power_too_large c.args.value c.loop.product c.loop.counter c.args.power c.loop.invariant.product c.if-product-ge-LIMIT.true c.loop-test.true)

pub loop-preserved : goal.loop-preserved
loop-preserved c = record { product = power_step c.args.value c.loop.product c.loop.counter c.loop.invariant.product; small = c.if-product-ge-LIMIT.false; positive = c.loop.invariant.positive }
