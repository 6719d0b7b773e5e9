use Rattle.std.proofs.Common.{◌≡◌, ap, ◌∙◌}
use Rattle.js_number.specs.NumericText.{number_of_text, number_behind_blanks, after_blanks}
use Rattle.js_number.proofs.Found.{answer_exact, answer_nan}
use Rattle.js_number.proofs.numeric_text.text_to_number.Goals as goal

pub returns-clause-grammar : goal.returns-clause-grammar
unfolding number_of_text
returns-clause-grammar c = λ n. answer_exact c.args.t.now c.number_behind_blanks.result n (c.number_behind_blanks.ensures ∙ ap number_behind_blanks (c.after_blanks.ensures ∙ ap after_blanks c.units.ensures))

pub returns-clause-nan : goal.returns-clause-nan
unfolding number_of_text
returns-clause-nan c = answer_nan c.args.t.now c.number_behind_blanks.result (c.number_behind_blanks.ensures ∙ ap number_behind_blanks (c.after_blanks.ensures ∙ ap after_blanks c.units.ensures))
