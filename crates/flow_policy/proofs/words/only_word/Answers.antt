use Rattle.std.proofs.Common.{sym}
use Rattle.flow_policy.specs.Words.{words_of}
use Rattle.flow_policy.proofs.Cuts.{only_word-none, only_word-one, only_word-more}
use Rattle.flow_policy.proofs.words.only_word.Goals as goal

pub returns-in_err-word : goal.returns-in_err-word
returns-in_err-word c = rw c.from_residual.ensures (sym (only_word-none (words_of c.args.line.now) c.in_err-word.ensures.words))

pub returns-in-None : goal.returns-in-None
returns-in-None c = sym (only_word-one (words_of c.args.line.now) (words_of c.in_ok-word.behind.now) c.in_ok-word.word.now c.in_ok-word.ensures.words c.in-None.ensures.words)

pub returns-in-Some : goal.returns-in-Some
returns-in-Some c = sym (only_word-more (words_of c.args.line.now) (words_of c.in_ok-word.behind.now) (words_of c.in-Some.field-0.1.now) c.in_ok-word.word.now c.in-Some.field-0.0.now c.in_ok-word.ensures.words c.in-Some.ensures.words)
