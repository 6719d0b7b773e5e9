use Rattle.std.proofs.lemmas.Result.{IfOk-weaker}
use Rattle.command_line.proofs.arguments.one_word.Goals as goal

pub returns : goal.returns
returns c = IfOk-weaker c.with_word.result _ _ (λ r adds. adds _ (c.new.ensures.app, c.new.ensures.local)) c.with_word.ensures
