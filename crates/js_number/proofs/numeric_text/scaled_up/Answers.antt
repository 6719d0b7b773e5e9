use Rattle.std.proofs.Common.{sym, ◌∙◌}
use Rattle.js_number.proofs.Cutting.{up_too_large}
use Rattle.js_number.proofs.numeric_text.scaled_up.Goals as goal

pub returns-in_err-value : goal.returns-in_err-value
returns-in_err-value c =
    c.from_residual.ensures ∙ sym (up_too_large c.args.whole.now c.args.fraction.now _ c.args.by c.min.result c.min.ensures c.split_at.ensures.front (sym c.joined_value.ensures ∙ c.in_err-value.was))
