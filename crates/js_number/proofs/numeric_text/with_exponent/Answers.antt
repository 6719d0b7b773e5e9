use Rattle.std.proofs.Common.{◌≡◌, ◌<◌, ◌^◌, ◌==◌, ◌&&◌, false, length, arith, rules}
use Rattle.js_number.proofs.Cutting.{with_cut}
use Rattle.js_number.proofs.numeric_text.with_exponent.Goals as goal
use Rattle.js_number.proofs.numeric_text.with_exponent.Goals.{else-is_empty-via-then-is_empty+else-is_empty-2, else-is_empty-via-else-is_empty}

pub returns : goal.returns
returns c =
    let h : length c.args.whole.now < 2 ^ 63 = search rules in
    let i : length c.args.fraction.now < 2 ^ 63 = search rules in
    let some : (length c.args.whole.now == 0 && length c.args.fraction.now == 0) ≡ false =
    elim c.else-is_empty.branch [ else-is_empty-via-then-is_empty+else-is_empty-2 w ↦ grind arith | else-is_empty-via-else-is_empty w ↦ grind arith ] in
    with_cut c.args.whole.now c.args.fraction.now c.args.rest.now c.exponent_of.result c.scaled_where.result h i some c.exponent_of.ensures c.scaled_where.ensures
