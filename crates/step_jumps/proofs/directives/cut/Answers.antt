use Rattle.std.proofs.Common.{sym}
use Rattle.std.proofs.lemmas.List.{take_rest}
use Rattle.step_jumps.proofs.Words.{word_alone, word_at}
use Rattle.step_jumps.proofs.directives.cut.Goals as goal

pub returns-in_err-at : goal.returns-in_err-at
returns-in_err-at c = rw c.from_residual.ensures (word_alone c.args.units.now (sym c.in_err-at.ensures))

pub returns : goal.returns
returns c = rw take_rest (word_at c.args.units.now c.in_ok-at.at (sym c.in_ok-at.ensures))
