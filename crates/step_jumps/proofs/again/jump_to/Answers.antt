use Rattle.std.proofs.Common.{ap, ◌≤◌, length, arith}
use Rattle.flow_frames.specs.Held.{Kept}
use Rattle.step_jumps.proofs.JumpLaws.{issued, issue_fails, jump_past}
use Rattle.step_jumps.proofs.again.jump_to.Goals as goal

pub returns-then-first-len-clause-issues : goal.returns-then-first-len-clause-issues
returns-then-first-len-clause-issues g c = λ exit reading v s is.
    let past : length c.args.frames.now.frames ≤ c.reached-first.result = omega (arith, c.if-first-len.true, c.len.ensures.length) in
    jump_past reading c.args.frames.now.frames (record { exit = exit; to = c.args.to; value = v }) s c.reached-first.result (c.reached-first.ensures.reached reading) past

pub returns-in_err-jump-clause-issues : goal.returns-in_err-jump-clause-issues
returns-in_err-jump-clause-issues g c = λ exit.
    issue_fails g.L.Labels.made g.L.Labels.meaning g.L.Labels.room g.L.Labels.firm c.args.labels.now c.jump.new.labels c.jump.ensures.kept c.args.frames.now.frames c.requires.belongs c.bottom-none.result c.bottom-none.ensures.meaning c.reached-first.result
    (λ v. record { exit = exit; to = c.args.to; value = v }) (λ reading v. c.reached-first.ensures.reached reading) c.jump.new.self.frames c.in_err-jump.field-0.0 c.from_residual.result (ap (λ (k : Kept _). k.frames) c.in_err-jump.ensures.unchanged) c.in_err-jump.ensures.stopped c.from_residual.ensures.1

pub returns-clause-issues : goal.returns-clause-issues
returns-clause-issues g c = λ exit.
    issued g.L.Labels.made g.L.Labels.meaning g.L.Labels.room g.L.Labels.firm c.args.labels.now c.jump.new.labels c.jump.ensures.kept c.args.frames.now.frames c.requires.belongs c.bottom-none.result c.bottom-none.ensures.meaning c.reached-first.result
    (λ v. record { exit = exit; to = c.args.to; value = v }) (λ reading v. c.reached-first.ensures.reached reading) (tt {0}) c.jump.new.self.frames c.in_ok-jump.ensures.frames c.in_ok-jump.ensures.allowed
