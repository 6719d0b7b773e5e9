use Rattle.std.proofs.lemmas.Result.{IfOk-weaker}
use Rattle.command_line.proofs.arguments.pair.Goals as goal

pub returns : goal.returns
returns c =
    let turns = c.in_ok-turns.ensures _ (c.new-bare.ensures.app, c.new-bare.ensures.local) in
    let script = c.in_ok-script.ensures _ turns in
    let policy = c.in_ok-policy.ensures _ script in
    let first = c.in_ok-first.ensures _ policy in
    let second = c.in_ok-second.ensures _ first in
    IfOk-weaker c.with_word-5.result _ _ (λ r adds. adds _ second) c.with_word-5.ensures
