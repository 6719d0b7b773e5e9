use Rattle.std.proofs.Common.{sym, ◌∙◌}
use Rattle.js_values.proofs.IndexLaws.{reads_no_digit, reads_too_much, reads_on, reads_end}
use Rattle.js_values.proofs.key.value_of.Goals as goal

pub returns-in_err-value : goal.returns-in_err-value
returns-in_err-value c = c.from_residual.ensures ∙ sym (sym c.loop-rest.invariant.same ∙ reads_no_digit c.loop-rest.value c.loop-rest.rest.now c.in-len1-up.len_at_least (sym c.digit.ensures ∙ c.in_err-value.was))

pub returns-then-value-ge-LIMIT : goal.returns-then-value-ge-LIMIT
returns-then-value-ge-LIMIT c = sym (sym c.loop-rest.invariant.same ∙ reads_too_much c.loop-rest.value c.in_ok-value.field-0 c.loop-rest.rest.now c.in-len1-up.len_at_least (sym c.digit.ensures ∙ c.in_ok-value.was) c.if-value-ge-LIMIT.true)

pub loop-rest-preserved : goal.loop-rest-preserved
loop-rest-preserved c = record {
  same = reads_on c.loop-rest.value c.in_ok-value.field-0 c.loop-rest.rest.now c.in-len1-up.len_at_least (sym c.digit.ensures ∙ c.in_ok-value.was) c.if-value-ge-LIMIT.false ∙ c.loop-rest.invariant.same;
  small = c.if-value-ge-LIMIT.false;
}

pub returns : goal.returns
returns c = sym (reads_end c.loop-rest.value c.loop-rest.rest.now c.in_default.len_below) ∙ c.loop-rest.invariant.same
