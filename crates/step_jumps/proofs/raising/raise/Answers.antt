use Rattle.std.proofs.Common.{ap, ◌≤◌, length, arith}
use Rattle.flow_frames.specs.Held.{Kept}
use Rattle.step_jumps.proofs.RaiseLaws.{raise_fails, raise_past, raises_frame}
use Rattle.step_jumps.proofs.raising.raise.Goals as goal

pub returns-then-depth-len-clause-raises : goal.returns-then-depth-len-clause-raises
returns-then-depth-len-clause-raises g c = λ reading s is.
    let past : length c.args.frames.now.frames ≤ c.args.depth = omega (arith, c.if-depth-len.true, c.len.ensures.length) in
    raise_past reading c.args.frames.now.frames s c.args.depth (reading c.args.label) past

pub returns-in_err-raise-clause-raises : goal.returns-in_err-raise-clause-raises
returns-in_err-raise-clause-raises g c =
    raise_fails g.L.Labels.made g.L.Labels.meaning g.L.Labels.room g.L.Labels.firm c.args.labels.now c.raise.new.labels c.raise.ensures.kept c.args.frames.now.frames c.requires.belongs c.args.depth c.args.label c.requires.label
    (Unit {0}) c.raise.new.self.frames c.in_err-raise.field-0.0 c.from_residual.result (ap (λ (k : Kept _). k.frames) c.in_err-raise.ensures.unchanged) c.in_err-raise.ensures.stopped c.from_residual.ensures.1

pub returns-clause-raises : goal.returns-clause-raises
returns-clause-raises g c =
    raises_frame g.L.Labels.made g.L.Labels.meaning g.L.Labels.room g.L.Labels.firm c.args.labels.now c.raise.new.labels c.raise.ensures.kept c.args.frames.now.frames c.requires.belongs c.args.depth c.args.label c.requires.label
    c.raise.new.self.frames c.raise.ensures.belongs c.in_ok-raise.ensures.raised c.in_ok-raise.ensures.allowed
