use Rattle.std.proofs.Common.{sym, ap, ◌∙◌, Some}
use Rattle.js_number.specs.Bounded.{bounded}
use Rattle.js_number.proofs.DigitValues.{too_large_at}
use Rattle.js_number.proofs.digits.value_after.Goals as goal

pub returns-then-value-ge-LIMIT : goal.returns-then-value-ge-LIMIT
returns-then-value-ge-LIMIT c = sym (ap (λ n. bounded (Some n)) (sym c.loop-rest.invariant.same) ∙ too_large_at c.args.radix c.loop-rest.value c.from-in-len1-up.result c.loop-rest.rest.now c.requires.base.0 c.in-len1-up.len_at_least (c.from-in-len1-up.ensures ∙ c.digit_of.ensures) (rw (← c.from.ensures) c.if-value-ge-LIMIT.true))
