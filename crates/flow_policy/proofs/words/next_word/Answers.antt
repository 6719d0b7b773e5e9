use Rattle.std.proofs.Common.{sym, ◌∙◌}
use Rattle.flow_policy.proofs.Cuts.{words_of-cut, words_of-skip, words_of-one, words_of-none, words_of-nil}
use Rattle.flow_policy.proofs.words.next_word.Goals as goal

pub returns-then-not-is_empty-clause-words : goal.returns-then-not-is_empty-clause-words
returns-then-not-is_empty-clause-words c = sym c.loop-word.invariant ∙ words_of-cut c.loop-word.rest.now c.in-Some.word.now c.in-Some.behind.now c.in-Some.ensures.parts (sym c.if-not-is_empty.ensures)

pub loop-word-preserved : goal.loop-word-preserved
loop-word-preserved c = sym (words_of-skip c.loop-word.rest.now c.in-Some.word.now c.in-Some.behind.now c.in-Some.ensures.parts (sym c.if-not-is_empty.ensures)) ∙ c.loop-word.invariant

pub returns-then-is_empty-clause-words : goal.returns-then-is_empty-clause-words
returns-then-is_empty-clause-words c = sym c.loop-word.invariant ∙ words_of-none c.loop-word.rest.now (sym c.if-is_empty.ensures)

pub returns-else-is_empty-clause-words : goal.returns-else-is_empty-clause-words
returns-else-is_empty-clause-words c = rw words_of-nil (sym c.loop-word.invariant ∙ words_of-one c.loop-word.rest.now c.in_default.ensures.parts (sym c.if-is_empty.ensures))
