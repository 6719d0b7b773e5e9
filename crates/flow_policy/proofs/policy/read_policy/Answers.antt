use Rattle.std.proofs.Common.{arith, sym, ◌∙◌, ◌+◌}
use Rattle.flow_policy.specs.Lines.{lines_of}
use Rattle.flow_policy.proofs.PolicyLaws.{lines_start, lines_end, lines_step, lines_fail}
use Rattle.flow_policy.proofs.policy.read_policy.Goals as goal

pub loop-line-init : goal.loop-line-init
loop-line-init c = (rw c.new-policy.ensures (lines_start c.args.bytes.now), omega arith)

pub returns-in-Err : goal.returns-in-Err
returns-in-Err c =
    rw (c.at.ensures, ← c.loop-line.invariant.0) (lines_fail (c.loop-line.number + 1) c.loop-line.policy (lines_of c.loop-line.rest.now) (lines_of c.in-Some.behind.now) c.in-Some.line.now c.in-Err.fault c.in-Some.ensures.lines c.in-Err.ensures)

pub loop-line-preserved : goal.loop-line-preserved
loop-line-preserved c = (
  sym (lines_step (c.loop-line.number + 1) c.loop-line.policy c.declare.new.self (lines_of c.loop-line.rest.now) (lines_of c.in-Some.behind.now) c.in-Some.line.now c.in-Some.ensures.lines c.in_default-declare.ensures) ∙ c.loop-line.invariant.0,
  omega (arith, c.in-Some.ensures.shorter),
)

pub returns : goal.returns
returns c = sym c.loop-line.invariant.0 ∙ lines_end (c.loop-line.number + 1) c.loop-line.policy (lines_of c.loop-line.rest.now) c.in_default.ensures.lines
