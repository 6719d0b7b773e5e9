use Rattle.std.proofs.lemmas.Result.{IfOk-weaker}
use Rattle.command_line.proofs.arguments.run.Goals as goal

pub returns : goal.returns
returns c =
    let turns = c.in_ok-turns.ensures _ (c.new-bare.ensures.app, c.new-bare.ensures.local) in
    let observer = c.in_ok-observer.ensures _ turns in
    let script = c.in_ok-script.ensures _ observer in
    let policy = c.in_ok-policy.ensures _ script in
    IfOk-weaker c.with_word-3.result _ _ (λ r adds. adds _ policy) c.with_word-3.ensures
