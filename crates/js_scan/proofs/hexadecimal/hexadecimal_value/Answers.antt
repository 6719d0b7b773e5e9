use Rattle.std.proofs.Common.{◌+◌, ◌*◌, arith, ap, Some, ◌∙◌}
use Rattle.js_scan.proofs.HexadecimalLaws.{hexadecimal_below, hexadecimal_more, hexadecimal_all}
use Rattle.js_scan.proofs.hexadecimal.hexadecimal_value.Goals as goal

pub overflow_mul-value : goal.overflow_mul-value
overflow_mul-value c =
    omega (arith, hexadecimal_below c.in_ok-digits.digits.now c.loop-digit.digit-index 3 (omega arith) c.loop-digit.invariant.digits)

pub overflow_add-value : goal.overflow_add-value
overflow_add-value c =
    let more = hexadecimal_more c.in_ok-digits.digits.now c.loop-digit.digit-index c.in_ok-value.field-0 c.loop-digit-test.true c.loop-digit.invariant.digits c.in_ok-value.ensures in
    omega (arith, more.1, hexadecimal_below c.in_ok-digits.digits.now (c.loop-digit.digit-index + 1) 4 (omega arith) more.0)

pub loop-digit-preserved : goal.loop-digit-preserved
loop-digit-preserved c =
    let more = hexadecimal_more c.in_ok-digits.digits.now c.loop-digit.digit-index c.in_ok-value.field-0 c.loop-digit-test.true c.loop-digit.invariant.digits c.in_ok-value.ensures in
    record { digits = more.0; value = ap (λ n. n * 16 + c.in_ok-value.field-0) c.loop-digit.invariant.value ∙ more.1; short = c.loop-digit.invariant.short }

pub returns : goal.returns
returns c =
    let taken = c.in_ok-digits.ensures.lookup.0 in
    ap Some c.loop-digit.invariant.value ∙ hexadecimal_all c.args.count c.args.units.now c.in_ok-digits.digits.now c.loop-digit.digit-index taken.1 taken.2 c.loop-digit-test.false c.loop-digit.invariant.digits
