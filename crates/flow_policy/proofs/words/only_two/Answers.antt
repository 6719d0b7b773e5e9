use Rattle.std.proofs.Common.{sym}
use Rattle.flow_policy.specs.Words.{words_of}
use Rattle.flow_policy.proofs.Cuts.{only_two-none, only_two-not, only_two-two}
use Rattle.flow_policy.proofs.words.only_two.Goals as goal

pub returns-in_err-first : goal.returns-in_err-first
returns-in_err-first c = rw c.from_residual.ensures (sym (only_two-none (words_of c.args.line.now) c.in_err-first.ensures.words))

pub returns-in_err-second : goal.returns-in_err-second
returns-in_err-second c = rw c.from_residual-in_err-second.ensures (sym (only_two-not (words_of c.args.line.now) (words_of c.in_ok-first.behind.now) c.in_ok-first.first.now c.in_ok-first.ensures.words (sym c.in_err-second.ensures)))

pub returns : goal.returns
returns c = sym (only_two-two (words_of c.args.line.now) (words_of c.in_ok-first.behind.now) c.in_ok-first.first.now c.in_ok-second.second.now c.in_ok-first.ensures.words (sym c.in_ok-second.ensures))
