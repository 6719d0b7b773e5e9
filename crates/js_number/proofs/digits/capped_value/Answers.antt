use Rattle.std.proofs.Common.{◌∙◌, arith}
use Rattle.js_number.proofs.DigitValues.{cut_step, cut_end}
use Rattle.js_number.proofs.digits.capped_value.Goals as goal

pub loop-rest-preserved : goal.loop-rest-preserved
loop-rest-preserved c = record {
  same = cut_step c.loop-rest.value c.saturating_add-value.result c.from.result c.loop-rest.rest.now _ c.in-len1-up.len_at_least (cc) (c.from.ensures ∙ c.digit_of.ensures) c.loop-rest.invariant.same;
  small = omega arith;
}

pub returns : goal.returns
returns c = cut_end c.loop-rest.value c.loop-rest.rest.now _ c.in_default.len_below c.loop-rest.invariant.small c.loop-rest.invariant.same
