use Rattle.std.proofs.Common.{arith, subst, List, ℕ}
use Rattle.std.proofs.lemmas.Result.{err_from_is_err_and}
use Rattle.flow_policy.specs.Lines.{lines_of}
use Rattle.flow_policy.proofs.InputLaws.{AreGiven, AreGiven-more, AreGiven-done, line_fails}
use Rattle.flow_policy.proofs.inputs.read_inputs.Goals as goal

pub returns-in_err-channel-clause-given : goal.returns-in_err-channel-clause-given
returns-in_err-channel-clause-given c =
    let p = err_from_is_err_and c.from_residual-in_err-channel.result c.from_residual-in_err-channel.ensures.1 in
    rw (p.1, p.2, ← c.inputs-channels.ensures.inputs) (line_fails c.in_err-channel.field-0.0 c.inputs-channels.result.now c.args.bytes.now c.in-Some.line.now (lines_of c.in-Some.behind.now) c.loop-line.number c.loop-line.inputs
    (subst (λ (lines : List (List ℕ)). AreGiven c.inputs-channels.result.now (lines_of c.args.bytes.now) lines c.loop-line.number c.loop-line.inputs) c.in-Some.ensures.lines c.loop-line.invariant.0) c.in_err-channel.ensures)

pub loop-line-preserved : goal.loop-line-preserved
loop-line-preserved c = (
  rw (c.in_ok-add.ensures, c.in_ok-channel.ensures.2) (AreGiven-more c.inputs-channels.result.now (lines_of c.args.bytes.now) (lines_of c.in-Some.behind.now) c.in-Some.line.now c.loop-line.number c.in_ok-channel.channel c.loop-line.inputs
      (rw c.inputs-channels.ensures.inputs c.inputs-channels.ensures.formed.inputs.distinct) c.in_ok-channel.ensures.0 c.in_ok-channel.ensures.1
      (subst (λ (lines : List (List ℕ)). AreGiven c.inputs-channels.result.now (lines_of c.args.bytes.now) lines c.loop-line.number c.loop-line.inputs) c.in-Some.ensures.lines c.loop-line.invariant.0)),
  omega (arith, c.in-Some.ensures.shorter),
)

pub returns-clause-given : goal.returns-clause-given
returns-clause-given c = rw (← c.inputs-channels.ensures.inputs) (AreGiven-done c.inputs-channels.result.now c.args.bytes.now c.loop-line.number c.loop-line.inputs
    (subst (λ (lines : List (List ℕ)). AreGiven c.inputs-channels.result.now (lines_of c.args.bytes.now) lines c.loop-line.number c.loop-line.inputs) c.in_default.ensures.lines c.loop-line.invariant.0))
