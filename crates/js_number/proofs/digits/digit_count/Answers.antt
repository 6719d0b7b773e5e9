use Rattle.js_number.proofs.DigitValues.{counted, counted_all}
use Rattle.js_number.proofs.digits.digit_count.Goals as goal

pub returns-then-radix-digit_of-clause-count : goal.returns-then-radix-digit_of-clause-count
returns-then-radix-digit_of-clause-count c = counted c.args.radix c.args.units.now c.loop-i.i c.digit_of.result c.loop-i.auto.i-end c.loop-i.invariant c.digit_of.ensures c.if-radix-digit_of.true

pub returns-clause-count : goal.returns-clause-count
returns-clause-count c = counted_all c.args.radix c.args.units.now c.loop-i.i c.loop-i-test.false c.loop-i.invariant
