use Rattle.std.proofs.Common.{sym}
use Rattle.step_jumps.proofs.Words.{five_words}
use Rattle.step_jumps.proofs.directives.words_in.Goals as goal

pub returns-in-Some-cut : goal.returns-in-Some-cut
returns-in-Some-cut c = rw (c.in_ok-behind.ensures, c.in_ok-what.ensures, c.in-Some.ensures, c.in-Some-cut.ensures)
    (sym (five_words c.in_ok-behind.field-0-0.now c.in_ok-what.what.now c.in-Some.label.now c.in-Some-cut.field-0.0.now c.in-Some-cut.field-0.1.now))
