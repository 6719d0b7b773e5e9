use Rattle.std.proofs.Common.{codes}
use Rattle.std.proofs.lemmas.Result.{IfOk-weaker}
use Rattle.command_line.specs.Arguments.{bare_app, line_app, one_word_app, pair_app, run_app}
use Rattle.command_line.proofs.arguments.line_command.Goals as goal

pub returns : goal.returns
unfolding line_app
returns c =
    let one = c.in_ok-one.ensures bare_app run_app c.bare.ensures c.run.ensures in
    let two = c.in_ok-two.ensures _ (one_word_app (codes "check")) one c.one_word.ensures in
    let three = c.in_ok-three.ensures _ pair_app two c.pair.ensures in
    let four = c.in_ok-four.ensures _ (one_word_app (codes "make")) three c.one_word-2.ensures in
    IfOk-weaker c.with_command-5.result _ _ (λ r adds. adds _ (one_word_app (codes "trial")) four c.one_word-3.ensures) c.with_command-5.ensures
