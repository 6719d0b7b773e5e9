use Rattle.std.proofs.Common.{◌∙◌, sym}
use Rattle.std.proofs.lemmas.List.{take_rest}
use Rattle.js_scan.proofs.CommentLaws.{close_found, close_further, close_nowhere}
use Rattle.js_scan.proofs.comments.close_at.Goals as goal

pub returns-then-starts_with : goal.returns-then-starts_with
returns-then-starts_with c = close_found c.args.units.now c.loop-at.at c.loop-at.invariant c.loop-at-test.true (sym (rw take_rest at c.starts_with.ensures.value) ∙ c.if-starts_with.true)

pub loop-at-preserved : goal.loop-at-preserved
loop-at-preserved c = close_further c.args.units.now c.loop-at.at c.loop-at.invariant c.loop-at-test.true (sym (rw take_rest at c.starts_with.ensures.value) ∙ c.if-starts_with.false)

pub returns : goal.returns
returns c = close_nowhere c.args.units.now c.loop-at.at c.loop-at.invariant c.loop-at-test.false
