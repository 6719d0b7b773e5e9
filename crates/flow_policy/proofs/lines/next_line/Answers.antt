use Rattle.std.proofs.Common.{sym}
use Rattle.flow_policy.proofs.Cuts.{lines_of-cut, lines_of-one, lines_of-none, lines_of-nil}
use Rattle.flow_policy.proofs.lines.next_line.Goals as goal

pub returns-in-Some-clause-lines : goal.returns-in-Some-clause-lines
returns-in-Some-clause-lines c = rw c.without_cr.ensures (lines_of-cut c.args.bytes.now c.in-Some.line.now c.in-Some.rest.now c.in-Some.ensures.parts)

pub returns-in-None-clause-lines : goal.returns-in-None-clause-lines
returns-in-None-clause-lines c = lines_of-none c.args.bytes.now (sym c.if-is_empty.ensures)

pub returns-in-None-2-clause-lines : goal.returns-in-None-2-clause-lines
returns-in-None-2-clause-lines c = rw lines_of-nil (lines_of-one c.args.bytes.now c.in-None-2.ensures.parts (sym c.if-is_empty.ensures))
