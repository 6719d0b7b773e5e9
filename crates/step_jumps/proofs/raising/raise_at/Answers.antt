use Rattle.std.proofs.Common.{sym, subst, ◌∙◌}
use Rattle.continuations.specs.Resuming.{with_frames}
use Rattle.step_jumps.specs.Raising.{SaysRaised, leaving_by}
use Rattle.step_jumps.proofs.RaiseLaws.{its_frame, no_frame}
use Rattle.step_jumps.proofs.raising.raise_at.Goals as goal

pub returns-in_default-clause-raises : goal.returns-in_default-clause-raises
returns-in_default-clause-raises g c = λ aim reading s to is. no_frame (leaving_by c.args.leaving) aim (reading c.args.label) (with_frames reading c.args.frames.now.frames s) (sym c.in_default.is ∙ to)

pub returns-clause-raises : goal.returns-clause-raises
returns-clause-raises g c = λ aim reading s to is.
    subst (λ o. SaysRaised reading o (with_frames reading c.raise.new.frames.frames s) c.raise.result)
    (sym (its_frame (leaving_by c.args.leaving) aim c.in-Some.to c.place-depth.result (reading c.args.label) (with_frames reading c.args.frames.now.frames s) (sym c.in-Some.is ∙ to) (c.place-depth.ensures reading)))
    (c.raise.ensures.raises reading s is)
